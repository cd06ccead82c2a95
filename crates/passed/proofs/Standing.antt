-- The fields of document 01's list, and those of document 02, n, stand in every file that is read, so PassedOver.antt speaks of bytes
-- that are there.
use Prim.Native.Nat.{ℕ, ◌≤◌, ◌<◌}
use mathlib.Core.Bool.{true}
use mathlib.Core.Path.{◌≡◌}
use mathlib.Core.List.{List}
use Rattle.format.specs.Prog.{Prog, ok, run, has}
use Rattle.format.specs.Fields.{u8, fixed_string, int_byte_string, int_byte_string_unused}
use Rattle.format.specs.Passed.{Stands, Reads, Has, HasText}
use Rattle.format.proofs.Passed.{stands_in}
use Rattle.format.proofs.Standing.{reads_all, fixed_text}
use Rattle.song.specs.declared.info.Names.{Names}
use Rattle.song.specs.Info.{names, credits, notices}
use Rattle.song.specs.Setup.{templates, page, tempo}
use Rattle.song.proofs.Standing.{version_has, info_has, setup_has, page_has, NamesHas, CreditsHas, LyricsHas, names_has, credits_has, lyrics_has}
use Rattle.header.specs.Header.{header}
use Rattle.header.proofs.Standing.{header_has}
use Rattle.track.specs.Track.{track}
use Rattle.track.proofs.Standing.{TrackHas, track_has}
use Rattle.note.specs.Optional.{more_flags}
use Rattle.note.specs.Points.{bend, whammy}
use Rattle.note.specs.Marks.{grace_note}
use Rattle.note.specs.Note.{note}
use Rattle.note.specs.Notes.{string_bit}
use Rattle.note.proofs.Standing.{note_has, notes_has}
use Rattle.note.proofs.Standing as N
use Rattle.beat.specs.Beat.{beat}
use Rattle.beat.proofs.Standing.{BeatHas, MixHas, beat_has, effects_has, mix_has, chord_has, early_chord_has, text_has}
use Rattle.score.specs.Score.{lists, none, scored}
use Rattle.score.specs.Page.{keeping}
use Rattle.score.specs.Reading.{Score}
use Rattle.score.proofs.Standing.{HeaderAt, TrackAt, BeatAt, FileHas, file_has}

-- the field p stands somewhere in the file d, and was read there
abbrev In : {A : Type 0} → List ℕ → Prog A → Type 1
In d p = Has d scored 0 p

-- what stands before the counts, part by part
pub record FrontHas (d : List ℕ) (v : ℕ) : Type 1 where
  pub version : In d (fixed_string 30)
  pub names : In d names
  pub credits : (n : Names) × In d (credits v n)
  pub notices : In d notices
  pub page : In d (page v)
  pub templates : 500 ≤ v → In d templates
  pub tempo : In d (tempo v)

-- and its kept texts: the version's, the song's and those of the lyric lines. A marker, a track's name, a chord's and a beat's text are
-- kept strings of the parts below, which have a text by the laws of format (Standing.antt: `fixed_text`, `int_byte_text`, `unused_text`)
pub record FrontTexts (d : List ℕ) (v : ℕ) : Type 1 where
  pub version : HasText d scored 0
  pub names : NamesHas d scored 0
  pub credits : CreditsHas d scored 0 v
  pub lyrics : 400 ≤ v → LyricsHas d scored 0

module _ {B : Type 0} (s : List ℕ) (q : Prog B) (from v : ℕ) where
  -- a note, by the flags of its first byte and by those of its effects
  pub record NoteListed : Type 1 where
    pub flags : ℕ
    pub flagged : (k : ℕ) × (m : ℕ) × Reads s q from u8 k flags m
    pub effects : has flags 0x08 ≡ true
        → (f : ℕ) × (k : ℕ) × (m : ℕ) × Reads s q from u8 k f m
        × (has f 0x01 ≡ true → Has s q from bend) × (has f 0x10 ≡ true → Has s q from (grace_note v))

  -- a beat at a position, by the flags of its first byte and by its strings
  pub record BeatListed (at : ℕ) : Type 1 where
    pub parts : BeatHas s q from v at
    pub chord : has parts.flags 0x02 ≡ true → 500 ≤ v → Has s q from (fixed_string 21)
    pub early : has parts.flags 0x02 ≡ true → v < 500
        → (form : ℕ) × (k : ℕ) × (m : ℕ) × Reads s q from u8 k form m × (form ≡ 0 → Has s q from int_byte_string)
        × ((form ≡ 0 → ⊥) → 400 ≤ v → Has s q from (fixed_string 21))
        × ((form ≡ 0 → ⊥) → v < 400 → Has s q from (fixed_string 34))
    pub text : has parts.flags 0x04 ≡ true → Has s q from int_byte_string_unused
    pub effects : has parts.flags 0x08 ≡ true
        → (more : ℕ) × (k : ℕ) × (m : ℕ) × Reads s q from (more_flags v) k more m
        × (has more 0x04 ≡ true → Has s q from whammy)
    pub mix : has parts.flags 0x10 ≡ true → MixHas s q from v
    pub notes : (i : ℕ) → i < 7 → has parts.strings (string_bit i) ≡ true → NoteListed

module _ {B : Type 0} {s : List ℕ} {q : Prog B} {from : ℕ} (v : ℕ) where
  note_listed : Has s q from (note v) → NoteListed s q from v
  note_listed h =
      let p = note_has v h.3 in
      record {
        flags = p.0;
        flagged = (h.0, p.1, p.2);
        effects = λ e. let q = N.effects_has v p.0 p.3.3 e in (q.0, p.3.0, q.1, q.2, q.3, q.4);
      }

  beat_listed : {at : ℕ} → BeatHas s q from v at → BeatListed s q from v at
  beat_listed h = record {
    parts = h;
    chord = λ e l. chord_has v h.flags h.chord.3 e l;
    early = λ e l.
        let p = early_chord_has v h.flags h.chord.3 e l in
        (p.0, h.chord.0, p.1, p.2, p.3, p.4, p.5);
    text = λ e. text_has h.flags h.text.3 e;
    effects = λ e. effects_has v h.flags h.effects.3 e;
    mix = λ e. mix_has v h.flags h.mix.3 e;
    notes = λ i l e. note_listed (notes_has v h.strings h.notes.3 i l e);
  }

module _ {d : List ℕ} {x : Score} {n : ℕ} (e : run scored d 0 ≡ ok x n) where
  -- every part of the song; then every header, every track, and every bar to the end of the file, one after another
  pub all_parts : FileHas d scored 0 x.song 0 n
  unfolding scored
  all_parts = file_has (keeping lists none) (reads_all d scored 0 n x e)

  pub front_parts : FrontHas d x.song.version
  front_parts =
      let g = all_parts.parts in
      let i = info_has x.song.version g.info.3 in
      let p = setup_has x.song.version g.setup.3 in
      record {
        version = version_has g.version.3;
        names = i.0;
        credits = i.1;
        notices = i.2;
        page = p.0;
        templates = λ l. page_has l p.0.3;
        tempo = p.1;
      }

  pub front_texts : FrontTexts d x.song.version
  front_texts = record {
    version = fixed_text 30 front_parts.version;
    names = names_has front_parts.names.3;
    credits = credits_has x.song.version front_parts.credits.0 front_parts.credits.1.3;
    lyrics = λ l. lyrics_has l all_parts.parts.lyrics.3;
  }

-- ---- inside a header, a track or a beat: what stands in it stands in the file, by `in_file`
module _ {d : List ℕ} {at n : ℕ} (v : ℕ) where
  -- a header's marker, by flag 0x20 of its first byte
  pub header_parts : (h : HeaderAt d scored 0 v at n) → (flags : ℕ) × (m : ℕ)
      × Reads d (header v h.0) at u8 at flags m × (has flags 0x20 ≡ true → Has d (header v h.0) at int_byte_string)
  header_parts h = header_has v h.0 (reads_all d (header v h.0) at n h.1 h.2.ran)

  pub track_parts : (programs : List (List ℕ)) → TrackAt d scored 0 v programs at n → TrackHas d (track v programs) at v
  track_parts programs t = track_has v programs (reads_all d (track v programs) at n t.0 t.1.ran)

  pub beat_parts : BeatAt d scored 0 v at n → BeatListed d (beat v) at v at
  beat_parts b = beat_listed v (beat_has v (reads_all d (beat v) at n b.0 b.1.ran))

-- a part of a field stands in the file where it stands in the field
pub in_file : {A C : Type 0} {d : List ℕ} {p : Prog A} {r : Prog C} {at n : ℕ} {a : A} → Reads d scored 0 p at a n
    → (h : Has d p at r) → Stands d r h.0 scored 0
in_file w h = stands_in h.3.stands w.stands
