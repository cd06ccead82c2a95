-- The members of a grace row, note by note of its chord.
use Rattle.std.specs.Prelude.{None, Option, Some}
use Prim.Native.Nat.{ℕ, suc, ◌+◌, ◌*◌, ◌<◌}
use native.Mathlib.Omega.{arith}
use native.Mathlib.Nat.{add-zero}
use native.Mathlib.Numerals.{add-one}
use mathlib.Core.Path.{◌≡◌, refl, sym, ◌∙◌}
use mathlib.Core.Bool.{Bool}
use mathlib.Core.List.{List, [], ◌∷◌, map}
use lib.ListN.{length, get_or, drop}
use lib.Seq.{sets, drop-cons}
use Rattle.tables.specs.Table.{stores}
use Rattle.model.specs.declared.Finger.TheVariants.{NoFinger}
use Rattle.model.specs.declared.Member.{Member}
use Rattle.model.specs.declared.Span.{Span}
use Rattle.curve.specs.Key.{grace_key}
use Rattle.entries.specs.Words.{member_stride, member_words}
use Rattle.note.specs.declared.marks.Grace.{Grace}
use Rattle.note.specs.Words.{read_in}
use Rattle.score.specs.declared.Fretboard.{Fretboard}
use Rattle.score.specs.Members.{Keyed, Graced, graced_after, graces, grace_member}
use Rattle.score.specs.Page.{fingered, plain_finger, first_key, start_ties}
use Rattle.draft.specs.Chord.{key_of, string_of, keyed_in, chord_in}
use Rattle.words.specs.Words.{words}

module _ (board : Fretboard) (flat : Bool) where
  abbrev pub graces_as : List Graced → List Member
  graces_as gs = map (grace_member board flat) gs

  -- they have neither finger nor tie
  pub no_fingers : (gs : List Graced) → fingered (graces_as gs) ≡ graces_as gs
  unfolding grace_member
  no_fingers [] = refl
  no_fingers (g ∷ []) = refl
  no_fingers (g ∷ h ∷ gs) = refl

  pub no_plain : (gs : List Graced) → plain_finger (graces_as gs) ≡ NoFinger
  unfolding grace_member
  no_plain [] = refl
  no_plain (g ∷ []) = refl
  no_plain (g ∷ h ∷ gs) = refl

  pub as_many_graces : (gs : List Graced) → length (graces_as gs) ≡ length gs
  as_many_graces [] = refl
  as_many_graces (g ∷ gs) = rw (as_many_graces gs)

  pub no_ties : (last : Span) (gs : List Graced) (t : List ℕ) → start_ties (words []) last (graces_as gs) t ≡ t
  unfolding grace_member
  no_ties last [] t = refl
  no_ties last (g ∷ gs) t = no_ties last gs t

module _ (s : List ℕ) (v : ℕ) (notes : List ℕ) where
  abbrev pub graces_in : List ℕ → List Graced
  graces_in chord = graces (chord_in s v notes chord)

  -- ---- of one note
  abbrev pub grace_in : ℕ → List Graced
  grace_in struck = graces (keyed_in s v notes struck ∷ [])

  abbrev graced_by : Grace → ℕ → Graced
  graced_by g struck = record { grace = g; note = keyed_in s v notes struck }

  pub no_grace_lem : (struck : ℕ) {i : ℕ} {given : Option Grace} → i ≡ string_of struck
      → given ≡ (read_in v notes i).effects.grace
      → given ≡ None
      → grace_in struck ≡ []
  no_grace_lem struck e f none = rw (← (rw e at f), none)

  pub the_grace : (struck : ℕ) {i : ℕ} {given : Option Grace} {g : Grace} → i ≡ string_of struck
      → given ≡ (read_in v notes i).effects.grace
      → given ≡ Some g
      → grace_in struck ≡ graced_by g struck ∷ []
  the_grace struck e f one = rw (← (rw e at f), one)

  -- ---- how many
  counted : (n : ℕ) (given : Option Grace) (x : Keyed) (gs : List Graced)
      → n + length (graced_after given x []) + length gs ≡ n + length (graced_after given x gs)
  counted n None x gs = rw add-zero
  counted n (Some g) x gs = omega arith

  pub next_number : (chord : List ℕ) (n i : ℕ) {m : ℕ} → i < length chord
      → m ≡ n + length (grace_in (get_or chord i 0))
      → m + length (graces_in (drop (i + 1) chord)) ≡ n + length (graces_in (drop i chord))
  unfolding chord_in
  next_number chord n i h e =
      let x = keyed_in s v notes (get_or chord i 0) in
      rw (e, drop-cons chord i 0 h, add-one i)
      (counted n x.sound.note.read.effects.grace x (graces (chord_in s v notes (drop (suc i) chord))))

  -- one without a grace
  pub none_here : (chord : List ℕ) (i : ℕ) {string : ℕ} {given : Option Grace} → i < length chord
      → string ≡ string_of (get_or chord i 0)
      → given ≡ (read_in v notes string).effects.grace
      → given ≡ None
      → graces_in (drop (i + 1) chord) ≡ graces_in (drop i chord)
  unfolding chord_in
  none_here chord i h e f none = rw (drop-cons chord i 0 h, add-one i, ← (rw e at f), none)

  module _ (board : Fretboard) (flat : Bool) where
    -- ---- in their table
    pub grace_stored : (struck : ℕ) (t : List ℕ) (n : ℕ) {i : ℕ} {given : Option Grace} {g : Grace} {m : Member} {now : List ℕ}
        → i ≡ string_of struck
        → given ≡ (read_in v notes i).effects.grace
        → given ≡ Some g
        → m ≡ grace_member board flat (graced_by g struck)
        → now ≡ sets t (n * member_stride) (member_words m)
        → now ≡ stores member_words member_stride t n (graces_as board flat (grace_in struck))
    grace_stored struck t n e f one em en = rw (the_grace struck e f one) (en ∙ rw em)

    both : (t : List ℕ) (n : ℕ) (given : Option Grace) (x : Keyed) (gs : List Graced)
        → stores member_words member_stride (stores member_words member_stride t n (graces_as board flat (graced_after given x [])))
        (n + length (graced_after given x []))
        (graces_as board flat gs)
        ≡ stores member_words member_stride t n (graces_as board flat (graced_after given x gs))
    both t n None x gs = rw add-zero
    both t n (Some g) x gs = refl

    pub next_graces : (chord t : List ℕ) (n i : ℕ) {m : ℕ} {now : List ℕ} → i < length chord
        → m ≡ n + length (grace_in (get_or chord i 0))
        → now ≡ stores member_words member_stride t n (graces_as board flat (grace_in (get_or chord i 0)))
        → stores member_words member_stride now m (graces_as board flat (graces_in (drop (i + 1) chord)))
        ≡ stores member_words member_stride t n (graces_as board flat (graces_in (drop i chord)))
    unfolding chord_in
    next_graces chord t n i h e stored =
        let x = keyed_in s v notes (get_or chord i 0) in
        rw (stored, e, drop-cons chord i 0 h, add-one i)
        (both t n x.sound.note.read.effects.grace x (graces (chord_in s v notes (drop (suc i) chord))))

    -- ---- the first
    pub first_grace : (chord : List ℕ) (i : ℕ) {string key fret r : ℕ} {given : Option Grace} {g : Grace} → i < length chord
        → string ≡ string_of (get_or chord i 0)
        → given ≡ (read_in v notes string).effects.grace
        → given ≡ Some g
        → key ≡ key_of (get_or chord i 0)
        → fret ≡ (read_in v notes string).fret
        → r ≡ grace_key key fret g.fret
        → first_key (graces_as board flat (graces_in (drop i chord))) ≡ r
    unfolding chord_in grace_member
    first_grace chord i h e f one ek ef er =
        rw (drop-cons chord i 0 h, ← (rw e at f), one) (sym (er ∙ rw (ek, ef, e)))
