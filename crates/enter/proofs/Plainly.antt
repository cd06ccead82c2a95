-- A plain beat entered step by step is the beat entered.
use Rattle.std.specs.Prelude.{None, Option}
use Prim.Native.Nat.{ℕ, ◌+◌, ◌*◌}
use mathlib.Core.Path.{◌≡◌, refl, sym, ap, ◌∙◌}
use mathlib.Core.List.{List, [], ◌∷◌, ◌++◌}
use mathlib.Core.Bool.{Bool, true, false}
use lib.Dec.{eqb}
use lib.ListN.{get_or}
use lib.Seq.{set-get_or}
use borrow.Author.Tests.{eqb-true}
use Rattle.format.specs.Text.{pick}
use Rattle.model.specs.declared.Loss.{Loss}
use Rattle.model.specs.declared.RowPlace.{RowPlace}
use Rattle.curve.specs.declared.level.LevelAfter.{LevelAfter}
use Rattle.curve.specs.Level.{chord_of, level_after}
use Rattle.beat.specs.Beat.{BeatIs}
use Rattle.entries.specs.Words.{bar_stride, tempo_at}
use Rattle.score.specs.declared.Fretboard.{Fretboard}
use Rattle.score.specs.declared.KeptCounts.{KeptCounts}
use Rattle.score.specs.declared.Tally.{Tally}
use Rattle.score.specs.declared.Voice.{Voice}
use Rattle.score.specs.Sounding.{sounding}
use Rattle.score.specs.Members.{Keyed, in_order}
use Rattle.score.specs.Rows.{RowIs, rows_of, levels}
use Rattle.score.specs.Losses.{building_losses}
use Rattle.score.specs.Page.{Rowing, keep_row, keep_rows, keep_beat, running_after, beat_losses, report, add_beat, bend_rooms, keep_text, texts_after}
use Rattle.draft.specs.Chord.{heard_by}
use Rattle.words.specs.Words.{Words, words, word_plus, first_word, tempo_words}
use Rattle.words.specs.Meant.{rowing_of, walk_of}
use Rattle.into_rows.specs.Plain.{plain_row}
use Rattle.enter.specs.Steps.{Sounded, sounded_of, sounded, own, with_rooms}
use Rattle.enter.specs.Plain.{PlainBeat}
use Rattle.enter.proofs.Steps.{sounds, adds}

-- ---- its notes
module _ (s : List ℕ) (place : RowPlace) (flat : Bool) (b : BeatIs) (kept : KeptCounts) (rows members points parts : List ℕ) (plain : PlainBeat b) where
  one_row : (board : Fretboard) (memory : List (Option ℕ)) (running : ℕ) (chord : List Keyed) (level : LevelAfter) (w : Rowing Words)
      → chord ≡ in_order board (sounding board memory b) → level ≡ level_after running (chord_of (levels chord))
      → keep_row (words s) (plain_row place board flat level.mark b chord) w ≡ keep_beat (words s) place board flat running b chord w
  one_row board memory running chord level w e l =
      let r : rows_of place board flat running b chord ≡ plain_row place board flat level.mark b chord ∷ [] =
      rw (l, e) (plain.rows place board flat running memory) in
      sym (ap (λ k. pick k (keep_rows (words s) (rows_of place board flat running b chord) w) w) plain.kept
      ∙ ap (λ (rs : List RowIs). keep_rows (words s) rs w) r)

  pub sounds_plain : {board : Fretboard} {memory read voice : Voice} {running : ℕ} {level : LevelAfter} {chord : List Keyed}
      {kept2 : KeptCounts} {rows2 members2 points2 parts2 parts3 : List ℕ}
      → board ≡ (words s).board_at place.track parts → memory ≡ (words s).voice_at place.track place.voice parts → running ≡ (words s).running_at place.track parts
      → chord ≡ in_order board (sounding board memory.frets b) → read ≡ heard_by board memory b
      → level ≡ level_after running (chord_of (levels chord))
      → rowing_of rows2 members2 points2 kept2 voice ≡ keep_row (words s) (plain_row place board flat level.mark b chord) (rowing_of rows members points kept read)
      → parts2 ≡ (words s).put_voice place.track place.voice voice parts → parts3 ≡ (words s).put_running place.track level.running parts2
      → sounded_of rows2 members2 points2 parts3 kept2 chord ≡ sounded s place flat b kept rows members points parts
  sounds_plain {board} {memory} {read} {voice} {running} {level} {chord} e1 e2 e3 e4 e5 l e6 e7 e8 =
      let after : level.running ≡ running_after (words s) running b chord =
      ap (λ (x : LevelAfter). x.running) l ∙ sym (ap (λ k. pick k (level_after running (chord_of (levels chord))).running running) plain.kept) in
      sounds s place flat b kept rows members points parts e1 e2 e3 e4 e5
      (e6 ∙ one_row board memory.frets running chord level (rowing_of rows members points kept read) e4 l) e7 after e8

-- ---- the rest: nothing
same_word : (old : ℕ) → first_word old 0 ≡ old
same_word old = at (eqb old 0) refl
  where
    at : (t : Bool) → eqb old 0 ≡ t → pick t 0 old ≡ old
    at true e = sym (eqb-true old 0 e)
    at false e = refl

same_bars : (i : ℕ) (t : List ℕ) → tempo_words i None t ≡ t
unfolding tempo_words
same_bars i t = rw (same_word (get_or t (i * bar_stride + tempo_at) 0)) (set-get_or t (i * bar_stride + tempo_at) 0)

abbrev pub with_kept : KeptCounts → (point_room : ℕ) → Tally → Tally
with_kept kept point_room t =
    record {
      kept = kept;
      texts = t.texts;
      text_room = t.text_room;
      point_room = point_room;
      flat = t.flat;
      losses = t.losses;
    }

module _ (s : List ℕ) (place : RowPlace) (b : BeatIs) (tally : Tally) (bars rows members points texts parts : List ℕ) (plain : PlainBeat b) where
  no_losses_lem : (chord : List Keyed) → building_losses b chord ≡ [] → tally.losses ≡ report (words s) (beat_losses (words s) b chord) tally.losses
  no_losses_lem chord e =
      let all : beat_losses (words s) b chord ≡ [] = λ i. plain.lost i ++ pick (plain.kept i) (e i) [] in
      sym (ap (λ (ls : List Loss). report (words s) ls tally.losses) all)

  pub adds_plain : {kept : KeptCounts} {room : ℕ} {chord : List Keyed} {rows2 members2 points2 parts2 : List ℕ}
      → room ≡ word_plus tally.point_room 0
      → sounded_of rows2 members2 points2 parts2 kept chord ≡ sounded s place tally.flat b tally.kept rows members points parts
      → walk_of bars rows2 members2 points2 texts parts2 (with_kept kept room tally)
      ≡ add_beat (words s) place.bar place.track place.voice b (walk_of bars rows members points texts parts tally)
  unfolding sounded with_rooms
  adds_plain {kept} {room} {chord} none e =
      let h : chord ≡ _ = ap (λ (x : Sounded). x.chord) e in
      let built : building_losses b chord ≡ [] = ap (λ (xs : List Keyed). building_losses b xs) h ∙ plain.built _ _ in
      let rooms : room ≡ word_plus tally.point_room (bend_rooms b.strings 0 b.notes) =
      none ∙ sym (ap (λ n. word_plus tally.point_room n) plain.rooms) in
      adds s place b tally bars rows members points texts parts e
      (sym (ap (λ t. pick t (keep_text (words s) tally.texts (own s place b tally.texts texts) texts) texts) plain.text))
      (sym (ap (λ t. pick t (texts_after (words s) tally.texts (own s place b tally.texts texts) texts) tally.texts) plain.text))
      (sym (ap (λ (t : Option ℕ). tempo_words place.bar t bars) plain.tempo ∙ same_bars place.bar bars))
      (no_losses_lem chord built)
      (λ i. record {
        kept = kept;
        texts = tally.texts;
        text_room = sym (ap (λ t. pick t (word_plus tally.text_room 1) tally.text_room) plain.text) i;
        point_room = rooms i;
        flat = tally.flat;
        losses = tally.losses;
      })
