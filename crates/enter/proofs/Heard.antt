-- The notes of a beat that sound: one string after another, or one note after another.
use Prim.Native.Nat.{ℕ, zero, suc, ◌+◌, ◌≤◌, ◌<◌}
use mathlib.Core.Path.{◌≡◌, refl, ◌∙◌}
use mathlib.Core.List.{List, [], ◌∷◌}
use mathlib.Core.Bool.{Bool, true, false, ◌&&◌}
use native.Mathlib.Omega.{arith}
use native.Mathlib.Nat.{zero-add}
use lib.Dec.{ltb}
use Rattle.format.specs.Text.{pick}
use Rattle.format.specs.Prog.{has}
use Rattle.note.specs.Note.{NoteIs, no_note}
use Rattle.note.specs.Notes.{string_bit}
use Rattle.note.specs.Words.{start, note_in, string_note, notes_in, over_from, over_strings}
use Rattle.score.specs.Sounding.{sounds_on}
use Rattle.words.specs.Counted.{heard}

-- what a note on string i adds
abbrev pub adding : (NoteIs → ℕ) → List ℕ → (v : ℕ) → List ℕ → ℕ → ℕ → ℕ
adding each s v w i n = n + each (note_in s v w (start i))

one_note_lem : (each : NoteIs → ℕ) (note : NoteIs) (n : ℕ) (set sounds : Bool) → pick (set && sounds) (n + each note) n ≡ n + pick (set && sounds) (each (pick set note no_note)) 0
one_note_lem each note n true true = refl
one_note_lem each note n true false = omega arith
one_note_lem each note n false sounds = omega arith

module _ (each : NoteIs → ℕ) (s : List ℕ) (v : ℕ) (w : List ℕ) (mask bits strings : ℕ) (h : (i : ℕ) → i < 7 → has mask (string_bit i) ≡ sounds_on strings bits i) where
  abbrev notes_from : ℕ → ℕ → List NoteIs
  notes_from zero k = []
  notes_from (suc n) k = string_note s v bits w k ∷ notes_from n (k + 1)

  from_string : (n k st : ℕ) → k + n ≤ 7 → over_from n k mask (adding each s v w) st ≡ st + heard each bits strings k (notes_from n k)
  unfolding over_from string_note
  from_string zero k st b = omega arith
  from_string (suc n) k st b =
      rw (h k (omega arith), one_note_lem each (note_in s v w (start k)) st (has bits (string_bit k)) (ltb k strings))
      (from_string n (k + 1) (st + pick (sounds_on strings bits k) (each (string_note s v bits w k)) 0) (omega arith) ∙ omega arith)

  pub over_heard : over_strings mask (adding each s v w) 0 ≡ heard each bits strings 0 (notes_in s v bits w)
  unfolding over_strings notes_in
  over_heard = from_string 7 0 0 (omega arith) ∙ zero-add _
