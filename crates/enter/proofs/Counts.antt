-- A beat of plain notes is counted: a row, and a member for each string that sounds.
use Prim.Native.Nat.{ℕ, zero, suc, ◌+◌, ◌%◌, ◌≤◌, ◌<◌}
use native.Mathlib.Nat.{mod-eq_of_lt}
use native.Mathlib.Omega.{arith}
use mathlib.Core.Path.{◌≡◌, refl, sym, ap, ◌∙◌}
use mathlib.Core.List.{List, [], ◌∷◌}
use mathlib.Core.Bool.{Bool, true, false, not, ◌&&◌}
use lib.Count.{ones}
use lib.ListN.{length}
use Rattle.format.specs.Text.{TextRead, pick, no_text}
use Rattle.format.specs.Prog.{has}
use Rattle.note.specs.declared.marks.NoteEffects.{NoteEffects}
use Rattle.note.specs.Marks.{no_marks}
use Rattle.note.specs.Note.{NoteIs}
use Rattle.note.specs.Notes.{string_bit}
use Rattle.note.specs.Points.{BendPoint}
use Rattle.note.specs.Hop.{AllUnmarked, count_from, string_count}
use Rattle.note.proofs.Hop.{strings_counted}
use Rattle.beat.specs.Beat.{BeatIs}
use Rattle.beat.specs.Hop.{Unmarked}
use Rattle.score.specs.declared.KeptCounts.{KeptCounts}
use Rattle.score.specs.declared.Tally.{Tally}
use Rattle.score.specs.Sounding.{sounds_on}
use Rattle.score.specs.Page.{bend_room, bend_rooms, empty_bytes, has_text}
use Rattle.words.specs.Counted.{one_note, one_grace, grace_of, heard, kept_with, kept_of, strings_on, count_tally, count_beat}
use Rattle.words.specs.Words.{word_plus}
use Rattle.words.specs.Meant.{walk_of}
use Rattle.enter.proofs.Plainly.{with_kept}

-- ---- how many strings sound: the bits of a set
count_ones : (m : ℕ) → m < 128 → ones m ≡ string_count m
count_ones m h =
    let same : m % 128 ≡ m = mod-eq_of_lt h in
    rw same at (strings_counted m (omega arith))

-- ---- over the notes of a beat
module _ (bits strings mask : ℕ) (h : (i : ℕ) → i < 7 → has mask (string_bit i) ≡ sounds_on strings bits i) where
  notes_from_lem : (n k : ℕ) (ns : List NoteIs) → length ns ≡ n → k + n ≤ 7 → heard one_note bits strings k ns ≡ count_from n k mask
  unfolding count_from
  notes_from_lem zero k [] e l = refl
  notes_from_lem zero k (x ∷ ns) e l = let z : ⊥ = omega arith in absurd z
  notes_from_lem (suc n) k [] e l = let z : ⊥ = omega arith in absurd z
  notes_from_lem (suc n) k (x ∷ ns) e l =
      rw (h k (omega arith)) (one (sounds_on strings bits k) (notes_from_lem n (k + 1) ns (omega arith) (omega arith)))
    where
      one : (b : Bool) → heard one_note bits strings (k + 1) ns ≡ count_from n (k + 1) mask
          → pick b 1 0 + heard one_note bits strings (k + 1) ns ≡ pick b (suc (count_from n (k + 1) mask)) (count_from n (k + 1) mask)
      one true q = omega arith
      one false q = omega arith

  heard_all : (ns : List NoteIs) → length ns ≡ 7 → mask < 128 → heard one_note bits strings 0 ns ≡ ones mask
  unfolding string_count
  heard_all ns e l = notes_from_lem 7 0 ns e (omega arith) ∙ sym (count_ones mask l)

none : (b : Bool) (n : ℕ) → n ≡ 0 → pick b n 0 ≡ 0
none true n e = e
none false n e = refl

no_graces : (bits strings k : ℕ) (ns : List NoteIs) → AllUnmarked ns → heard grace_of bits strings k ns ≡ 0
unfolding no_marks
no_graces bits strings k [] u = refl
no_graces bits strings k (x ∷ ns) u =
    omega (arith, none (sounds_on strings bits k) (grace_of x) (ap (λ (e : NoteEffects). one_grace e.grace) u.0.effects ∙ plain), no_graces bits strings (k + 1) ns u.1)
  where
    plain : one_grace no_marks.grace ≡ 0
    plain = refl

no_rooms : (strings k : ℕ) (ns : List NoteIs) → AllUnmarked ns → bend_rooms strings k ns ≡ 0
no_rooms strings k [] u = refl
no_rooms strings k (x ∷ ns) u =
    omega (arith, none (has strings (string_bit k)) (bend_room x.bend) (ap (λ (b : List BendPoint). bend_room b) u.0.bend), no_rooms strings (k + 1) ns u.1)

no_text_lem : (x : BeatIs) → x.text ≡ no_text → has_text x ≡ false
unfolding no_text
no_text_lem x e = ap (λ (t : TextRead). x.head.kept && not (empty_bytes t.bytes)) e ∙ by x.head.kept
  where
    by : (b : Bool) → (b && false) ≡ false
    by true = refl
    by false = refl

-- ---- the beat
module _ {bits mask : ℕ} {kept : KeptCounts} {room : ℕ} (strings : ℕ) (tally : Tally) (m : mask < 128) (h : (i : ℕ) → i < 7 → has mask (string_bit i) ≡ sounds_on strings bits i) (e : kept ≡ kept_with (ones mask) 0 tally.kept) (o : room ≡ word_plus tally.point_room 0) where
  pub counted_plain : (x : BeatIs) → Unmarked bits x → with_kept kept room tally ≡ count_tally strings x tally
  unfolding count_tally
  counted_plain x u =
      let sounding : (i : ℕ) → i < 7 → has mask (string_bit i) ≡ sounds_on strings x.strings i = λ i l. rw u.same (h i l) in
      let both : kept ≡ kept_of strings x tally.kept =
      e ∙ rw (u.kept, heard_all x.strings strings mask sounding x.notes u.seven m, no_graces x.strings strings 0 x.notes u.notes) in
      let rooms : room ≡ word_plus tally.point_room (bend_rooms x.strings 0 x.notes) =
      o ∙ rw (no_rooms x.strings 0 x.notes u.notes) in
      λ i. record {
        kept = both i;
        texts = tally.texts;
        text_room = sym (ap (λ t. pick t (word_plus tally.text_room 1) tally.text_room) (no_text_lem x u.text)) i;
        point_room = rooms i;
        flat = tally.flat;
        losses = tally.losses;
      }

-- only the tally changes
pub counted : {bars rows members points texts parts : List ℕ} {u : Tally} (track : ℕ) (x : BeatIs) (t : Tally) → u ≡ count_tally (strings_on track parts) x t → walk_of bars rows members points texts parts u ≡ count_beat track x (walk_of bars rows members points texts parts t)
unfolding count_beat
counted {bars} {rows} {members} {points} {texts} {parts} track x t e = λ i. walk_of bars rows members points texts parts (e i)
