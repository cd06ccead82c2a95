-- The members of a chord's row: their ties, one after another in their table, the first, the only one.
use Prim.Native.Nat.{ℕ, ◌+◌, ◌*◌, ◌<◌}
use native.Mathlib.Omega.{arith}
use native.Mathlib.Numerals.{add-one}
use mathlib.Core.Path.{◌≡◌, refl, sym, ap, ◌∙◌}
use mathlib.Core.Bool.{Bool, true, false}
use mathlib.Core.List.{List, [], ◌∷◌, map}
use borrow.Author.Tests.{ne_eqb}
use lib.Dec.{eqb}
use lib.ListN.{length, get_or, drop}
use lib.Seq.{sets, drop-cons}
use Rattle.format.specs.Text.{pick}
use Rattle.tables.specs.Table.{stores}
use Rattle.model.specs.declared.Finger.TheVariants.{NoFinger}
use Rattle.model.specs.declared.Member.{Member}
use Rattle.model.specs.declared.Span.{Span}
use Rattle.entries.specs.Words.{member_stride, member_words}
use Rattle.note.specs.Words.{read_in}
use Rattle.score.specs.declared.Fretboard.{Fretboard}
use Rattle.score.specs.Members.{finger_of, member_of}
use Rattle.score.specs.Page.{unfingered, fingered, plain_finger, first_key, start_ties}
use Rattle.draft.specs.Chord.{key_of, string_of, keyed_in, chord_in}
use Rattle.words.specs.Words.{start_words, words}
use Rattle.into_rows.proofs.Picked.{picked, passed}

module _ (s : List ℕ) (v : ℕ) (notes : List ℕ) (board : Fretboard) (flat : Bool) where
  abbrev struck_member : ℕ → Member
  struck_member struck = member_of board flat (keyed_in s v notes struck)

  abbrev pub members_of : List ℕ → List Member
  members_of chord = map (member_of board flat) (chord_in s v notes chord)

  -- ---- ties
  ends : (struck : ℕ) {i : ℕ} {tied is : Bool} → i ≡ string_of struck → tied ≡ (read_in v notes i).tie → tied ≡ is
      → (struck_member struck).ties.end ≡ is
  unfolding member_of
  ends struck e t h = rw (← (rw e at t)) h

  pub tied_starts : (last : Span) (struck : ℕ) (t : List ℕ) {i : ℕ} {tied : Bool} {m : Member} {now : List ℕ}
      → i ≡ string_of struck
      → tied ≡ (read_in v notes i).tie
      → tied ≡ true
      → m ≡ struck_member struck
      → now ≡ start_words last.first last.count m t
      → now ≡ start_ties (words []) last (struck_member struck ∷ []) t
  tied_starts last struck t e f h em en = picked t (ends struck e f h) (en ∙ rw em)

  pub untied_stays : (last : Span) (struck : ℕ) (t : List ℕ) {i : ℕ} {tied : Bool} → i ≡ string_of struck
      → tied ≡ (read_in v notes i).tie
      → tied ≡ false
      → t ≡ start_ties (words []) last (struck_member struck ∷ []) t
  untied_stays last struck t e f h =
      passed (start_words last.first last.count (struck_member struck) t) (ends struck e f h) refl

  pub next_ties : (last : Span) (chord t : List ℕ) (i : ℕ) {now : List ℕ} → i < length chord
      → now ≡ start_ties (words []) last (struck_member (get_or chord i 0) ∷ []) t
      → start_ties (words []) last (members_of (drop (i + 1) chord)) now ≡ start_ties (words []) last (members_of (drop i chord)) t
  unfolding chord_in
  next_ties last chord t i h e = rw (e, drop-cons chord i 0 h, add-one i)

  -- ---- in their table
  unfoldable pub member_by : Bool → ℕ → Member
  member_by only struck = pick only (unfingered (struck_member struck)) (struck_member struck)

  abbrev pub members_by : Bool → List ℕ → List Member
  members_by only chord = map (member_by only) chord

  each : (chord : List ℕ) → members_of chord ≡ members_by false chord
  unfolding chord_in member_by
  each [] = refl
  each (x ∷ l) = rw (each l)

  -- an only member has no finger
  pub all_fingered : (chord : List ℕ) → fingered (members_of chord) ≡ members_by (eqb (length chord) 1) chord
  unfolding chord_in member_by
  all_fingered [] = refl
  all_fingered (x ∷ []) = refl
  all_fingered (x ∷ y ∷ l) =
      each (x ∷ y ∷ l)
      ∙ ap (λ (only : Bool). members_by only (x ∷ y ∷ l)) (sym (ne_eqb (length (x ∷ y ∷ l)) 1 (λ e. omega arith)))

  pub next_member : (only : Bool) (chord t : List ℕ) (n i : ℕ) {m stored : Member} {now : List ℕ} → i < length chord
      → m ≡ struck_member (get_or chord i 0)
      → stored ≡ pick only (unfingered m) m
      → now ≡ sets t ((n + i) * member_stride) (member_words stored)
      → stores member_words member_stride now (n + (i + 1)) (members_by only (drop (i + 1) chord))
      ≡ stores member_words member_stride t (n + i) (members_by only (drop i chord))
  unfolding member_by
  next_member only chord t n i h em ep en =
      let k : n + (i + 1) ≡ n + i + 1 = omega arith in
      rw (en, ep, em, k, drop-cons chord i 0 h, add-one i)

  -- ---- what the row holds of them
  pub only_finger : (chord : List ℕ) → length chord ≡ 1
      → plain_finger (members_of chord) ≡ finger_of (read_in v notes (string_of (get_or chord 0 0))).left_hand
  unfolding chord_in member_of
  only_finger [] h = absurd (omega arith)
  only_finger (x ∷ []) h = refl
  only_finger (x ∷ y ∷ l) h = absurd (omega arith)

  pub no_finger : (chord : List ℕ) → (length chord ≡ 1 → ⊥) → plain_finger (members_of chord) ≡ NoFinger
  unfolding chord_in
  no_finger [] h = refl
  no_finger (x ∷ []) h = absurd (h refl)
  no_finger (x ∷ y ∷ l) h = refl

  pub no_key : (chord : List ℕ) → length chord ≡ 0 → first_key (members_of chord) ≡ 0
  unfolding chord_in
  no_key [] h = refl
  no_key (x ∷ l) h = absurd (omega arith)

  pub the_key : (chord : List ℕ) → (length chord ≡ 0 → ⊥) → first_key (members_of chord) ≡ key_of (get_or chord 0 0)
  unfolding chord_in member_of
  the_key [] h = absurd (h refl)
  the_key (x ∷ l) h = refl

  pub as_many : (chord : List ℕ) → length (members_of chord) ≡ length chord
  unfolding chord_in
  as_many [] = refl
  as_many (x ∷ l) = rw (as_many l)
