-- The song's texts, its notices and its lyrics.
use Rattle.std.specs.Prelude.{ℕ, Bool, false, not, ◌||◌, ◌∷◌, [], leb, eqb, None, Option, Some}
use Rattle.format.specs.declared.Range.{Range}
use Rattle.format.specs.declared.Counted.TheVariants as C
use Rattle.format.specs.Text.{TextRead, pick}
use Rattle.format.specs.Prog.{Prog, ret, bind, when_le, turns}
use Rattle.format.specs.Count.{NEGATIVE}
use Rattle.format.specs.Fields.{u8, u32, less_one, count, int_byte_string_unused, int_byte_string_unused_past, int_string}
use Rattle.model.specs.declared.LyricLine.{LyricLine}
use Rattle.model.specs.declared.Lyrics.{Lyrics}
use Rattle.model.specs.Answers.{no_range, no_lyrics}
use Rattle.song.specs.declared.info.Names.{Names}
use Rattle.song.specs.declared.info.Info.{Info}

-- title, subtitle, artist; passed over: "contents of album"
unfoldable pub names : Prog Names
names =
    bind int_byte_string_unused (λ title.
    bind int_byte_string_unused (λ subtitle.
    bind int_byte_string_unused (λ artist.
    bind int_byte_string_unused_past (λ _.
    ret (record { title = title.range; subtitle = subtitle.range; artist = artist.range })))))

-- the music credit stands from v500 on; before, it is the words
unfoldable pub music : ℕ → TextRead → Prog TextRead
music v words = when_le 500 v int_byte_string_unused (ret words)

-- the composer: the music credit, or the artist where that is empty
unfoldable pub composer_of : Range → Range → Range
composer_of music artist = pick (eqb music.end 0) artist music

-- words, music, copyright; passed over: contents of "tab author, instructions"
unfoldable pub credits : ℕ → Names → Prog Info
credits v n =
    bind int_byte_string_unused (λ words.
    bind (music v words) (λ tune.
    bind int_byte_string_unused (λ copyright.
    bind int_byte_string_unused_past (λ _.
    bind int_byte_string_unused_past (λ _.
    ret (record {
      title = n.title;
      subtitle = n.subtitle;
      composer = composer_of tune.range n.artist;
      lyricist = words.range;
      copyright = copyright.range;
    }))))))

-- passed over: contents of "notice lines"
unfoldable pub notices : Prog Unit
notices = bind (count C.NoticeLines) (λ n. turns n 0 (λ _ _. int_byte_string_unused_past) tt)

-- beside a stop
unfoldable pub no_info : Info
no_info =
    record {
      title = no_range;
      subtitle = no_range;
      composer = no_range;
      lyricist = no_range;
      copyright = no_range;
    }

-- the song's texts, to the last notice
unfoldable pub info : ℕ → Prog Info
info v = bind names (λ n. bind (credits v n) (λ i. bind notices (λ _. ret i)))

-- before v500 the song says whether it has a triplet feel, which is a loss
unfoldable pub triplet_feel : ℕ → Prog Bool
triplet_feel v = when_le 500 v (ret false) (bind u8 (λ b. ret (not (eqb b 0))))

-- ---- lyrics: a track and five lines from v400 on, none before
-- none for a value below 1, else the number less one; not bounded by the number of tracks (docs/RULES.md 25)
unfoldable pub lyric_track : ℕ → Option ℕ
lyric_track v = pick (leb NEGATIVE v || eqb v 0) None (Some (less_one v))

-- a start and a text
unfoldable pub lyric_line : Prog LyricLine
lyric_line = bind u32 (λ v. bind int_string (λ t. ret (record { start = less_one v; text = t.range })))

unfoldable pub five_lines : Option ℕ → Prog Lyrics
five_lines track =
    bind lyric_line (λ a. bind lyric_line (λ b. bind lyric_line (λ c. bind lyric_line (λ d. bind lyric_line (λ e.
    ret (record { track = track; lines = a ∷ b ∷ c ∷ d ∷ e ∷ [] }))))))

unfoldable pub lyrics : ℕ → Prog Lyrics
lyrics v = when_le 400 v (bind u32 (λ t. five_lines (lyric_track t))) (ret no_lyrics)
