-- No other string, voice or track has a part in the fret last read.
use Rattle.std.specs.Prelude.{None, Option, Some}
use Prim.Native.Nat.{ℕ}
use mathlib.Core.Path.{◌≡◌, refl, sym, ap, ◌∙◌}
use mathlib.Core.Bool.{Bool, true, false}
use mathlib.Core.List.{List, [], ◌∷◌}
use Rattle.format.specs.Text.{pick}
use Rattle.note.specs.declared.NoteRead.{NoteRead}
use Rattle.score.specs.Sounding.{fret_of, note_at}
use Rattle.told.specs.Told.{Event, enters, plays}
use Rattle.teacher.specs.Teacher.{plays_on, last_read, notes_on}

-- the last fret of the notes of one string, the latest first
abbrev last_of : List NoteRead → Option ℕ
last_of [] = None
last_of (n ∷ ns) = Some (fret_of (last_of ns) n)

module _ (strings track voice string : ℕ) where
  last_is : (es : List Event) → last_read strings track voice string es ≡ last_of (notes_on strings track voice string es)
  last_is [] = refl
  last_is (enters bar ∷ es) = last_is es
  last_is (plays b ∷ es) = rw (last_is es) (go (plays_on strings track voice string b))
    where
      go : (t : Bool)
          → pick t (Some (fret_of (last_of (notes_on strings track voice string es)) (note_at b.beat string).read))
          (last_of (notes_on strings track voice string es))
          ≡ last_of (pick t ((note_at b.beat string).read ∷ notes_on strings track voice string es)
          (notes_on strings track voice string es))
      go true = refl
      go false = refl

  -- whatever else was read, the same notes on this string of this voice of this track give the same fret
  pub no_neighbour : (es fs : List Event) → notes_on strings track voice string es ≡ notes_on strings track voice string fs
      → last_read strings track voice string es ≡ last_read strings track voice string fs
  no_neighbour es fs e = last_is es ∙ ap last_of e ∙ sym (last_is fs)
