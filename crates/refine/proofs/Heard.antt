-- The sounding notes of a beat: at most seven, each on a string of its track, its fret and its key bytes, its bend
-- within the beat's room for points. What is remembered of them, the running dynamic after them, and how many losses
-- they report.
use Rattle.std.specs.Prelude.{None, Option, Some}
use Prim.Native.Nat.{ℕ, zero, suc, ◌+◌, ◌*◌, ◌≤◌, ◌<◌}
use mathlib.Core.Path.{◌≡◌, refl, ◌∙◌}
use mathlib.Core.Bool.{Bool, true, false, ◌&&◌, false≢true}
use mathlib.Core.List.{List, [], ◌∷◌, map}
use native.Mathlib.Omega.{arith}
use native.Mathlib.Numerals.{bound}
use borrow.Author.Tests.{ltb-true}
use lib.Dec.{ltb, eqb}
use lib.ListN.{length, get_or, set, length-append, length-set, length-map}
use Rattle.format.specs.Text.{pick}
use Rattle.model.specs.declared.Loss.{Loss}
use Rattle.curve.specs.Key.{note_key, percussion_key}
use Rattle.curve.specs.Level.{forte, later, last_given, all_emphasised, chord_of, level_or, chord_level, level_after}
use Rattle.note.specs.declared.NoteRead.{NoteRead}
use Rattle.format.specs.Prog.{has}
use Rattle.note.specs.Note.{NoteIs, no_note}
use Rattle.note.specs.Notes.{string_bit}
use Rattle.beat.specs.Beat.{BeatIs}
use Rattle.score.specs.declared.Fretboard.{Fretboard}
use Rattle.score.specs.Sounding.{Sounding, nothing, fret_of, sounds, sounding_at, sounding_from, sounding, remember}
use Rattle.score.specs.Members.{Keyed, keyed, put_in, ordered, in_order, Graced, graced_after, graces}
use Rattle.score.specs.Rows.{levels}
use Rattle.score.specs.Losses.{report_if, note_losses, notes_losses, reading_losses, built_losses, member_losses, grace_losses}
use Rattle.score.specs.Losses.{building_losses}
use Rattle.score.specs.Page.{Kind, Operations, bend_room, bend_rooms, running_after, beat_losses}
use Rattle.score.proofs.Facts.{LevelFits, NoteFits}
use Rattle.refine.proofs.All.{All, all_get_d, all_set}
use Rattle.refine.proofs.Parts.{LastFits}
use Rattle.refine.proofs.Shown.{pick_both}
use Rattle.note.specs.declared.marks.Grace.{Grace}

pub record SoundFits (board : Fretboard) (room : ℕ) (x : Sounding) : Type 0 where
  pub string : x.string < board.strings.count
  pub fret : x.fret < 256
  pub bend : bend_room x.note.bend ≤ room
  pub note : NoteFits x.note

pub record KeyedFits (board : Fretboard) (room : ℕ) (x : Keyed) : Type 0 where
  pub key : x.key < 256
  pub sound : SoundFits board room x.sound

-- ---- those of a beat

both : (a b : Bool) → (a && b) ≡ true → (a ≡ true) × (b ≡ true)
both true b e = (refl, e)
both false b e = absurd (false≢true e)

fret_fits : (l : Option ℕ) (n : NoteRead) → LastFits l → n.fret ≤ 99 → fret_of l n < 256
fret_fits None n f h = omega arith
fret_fits (Some x) n f h = pick_both (λ k. k < 256) n.tie x n.fret f (omega arith)

-- the bend of a note that is read is within the room of all
bend_within : (strings k : ℕ) (ns : List NoteIs) (i j : ℕ) → j ≡ k + i → has strings (string_bit j) ≡ true
    → bend_room (get_or ns i no_note).bend ≤ bend_rooms strings k ns
unfolding no_note
bend_within strings k [] i j e h = omega arith
bend_within strings k (n ∷ ns) zero j e h =
    let same : j ≡ k = omega arith in
    let here : has strings (string_bit k) ≡ true = rw same at h in
    rw here (omega arith)
bend_within strings k (n ∷ ns) (suc i) j e h = omega (arith, bend_within strings (k + 1) ns i j (omega arith) h)

module _ (board : Fretboard) (memory : List (Option ℕ)) (b : BeatIs) (f : All LastFits memory)
    (each : (i : ℕ) → NoteFits (get_or b.notes i no_note)) where
  abbrev room : ℕ
  room = bend_rooms b.strings 0 b.notes

  at_fits : (i : ℕ) → sounds board b i ≡ true → SoundFits board room (sounding_at memory b i)
  at_fits i e =
      let h = both (has b.strings (string_bit i)) (ltb i board.strings.count) e in
      record {
        string = ltb-true i board.strings.count h.1;
        fret = fret_fits (get_or memory i nothing) _ (all_get_d LastFits memory i nothing f tt) (each i).fret;
        bend = bend_within b.strings 0 b.notes i i (omega arith) h.0;
        note = each i;
      }

  from_fits : (k i : ℕ) → All (SoundFits board room) (sounding_from k i board memory b)
  from_fits zero i = tt
  from_fits (suc k) i = go (sounds board b i) refl (from_fits k (i + 1))
    where
      more : List Sounding
      more = sounding_from k (i + 1) board memory b

      go : (t : Bool) → sounds board b i ≡ t → All (SoundFits board room) more
          → All (SoundFits board room) (pick t (sounding_at memory b i ∷ more) more)
      go true e q = (at_fits i e, q)
      go false e q = q

  pub sounding_fits : All (SoundFits board room) (sounding board memory b)
  unfolding sounding
  sounding_fits = from_fits 7 0

module _ (board : Fretboard) (memory : List (Option ℕ)) (b : BeatIs) where
  from_number : (k i : ℕ) → length (sounding_from k i board memory b) ≤ k
  from_number zero i = omega arith
  from_number (suc k) i =
      pick_both (λ l. length l ≤ suc k) (sounds board b i)
      (sounding_at memory b i ∷ sounding_from k (i + 1) board memory b) (sounding_from k (i + 1) board memory b)
      (omega (arith, from_number k (i + 1))) (omega (arith, from_number k (i + 1)))

  pub sounding_number : length (sounding board memory b) ≤ 7
  unfolding sounding
  sounding_number = from_number 7 0

-- ---- what is remembered

pub length-remember : (memory : List (Option ℕ)) (xs : List Sounding) → length (remember memory xs) ≡ length memory
length-remember memory [] = refl
length-remember memory (x ∷ xs) = length-remember (set memory x.string _) xs ∙ length-set memory x.string _

pub remember_fits : (board : Fretboard) (room : ℕ) (memory : List (Option ℕ)) (xs : List Sounding)
    → All LastFits memory → All (SoundFits board room) xs → All LastFits (remember memory xs)
remember_fits board room memory [] f q = f
remember_fits board room memory (x ∷ xs) f q =
    remember_fits board room (set memory x.string _) xs
    (all_set LastFits memory x.string (Some x.fret) f q.0.fret) q.1

-- ---- in the order of their keys

module _ (P : Keyed → Type 0) where
  place_all : (x : Keyed) (ys : List Keyed) → P x → All P ys → All P (put_in x ys)
  place_all x [] p q = (p, tt)
  place_all x (y ∷ ys) p q =
      pick_both (All P) (ltb x.key y.key) (x ∷ y ∷ ys) (y ∷ put_in x ys)
      (p, (q.0, q.1)) (q.0, place_all x ys p q.1)

  ordered_all : (done xs : List Keyed) → All P done → All P xs → All P (ordered done xs)
  ordered_all done [] p q = p
  ordered_all done (x ∷ xs) p q = ordered_all (put_in x done) xs (place_all x done q.0 p) q.1

length-place : (x : Keyed) (ys : List Keyed) → length (put_in x ys) ≡ suc (length ys)
length-place x [] = refl
length-place x (y ∷ ys) =
    pick_both (λ l. length l ≡ suc (suc (length ys))) (ltb x.key y.key) (x ∷ y ∷ ys) (y ∷ put_in x ys)
    refl (omega (arith, length-place x ys))

length-ordered : (done xs : List Keyed) → length (ordered done xs) ≡ length done + length xs
length-ordered done [] = omega arith
length-ordered done (x ∷ xs) = omega (arith, length-ordered (put_in x done) xs, length-place x done)

key_fits : (percussion : Bool) (fret tuning capo : ℕ) → fret < 256 → note_key percussion fret tuning capo < 256
unfolding percussion_key
key_fits false fret tuning capo h = omega arith
key_fits true fret tuning capo h = go (eqb fret 27) (eqb fret 28) (eqb fret 32)
  where
    go : (t u w : Bool) → pick t 42 (pick u 60 (pick w 31 fret)) < 256
    go true u w = omega arith
    go false true w = omega arith
    go false false true = omega arith
    go false false false = h

module _ (board : Fretboard) (room : ℕ) where
  keyed_fits : (xs : List Sounding) → All (SoundFits board room) xs → All (KeyedFits board room) (map (keyed board) xs)
  keyed_fits [] q = tt
  keyed_fits (x ∷ xs) q =
      (record { key = key_fits board.percussion x.fret _ _ q.0.fret; sound = q.0 }, keyed_fits xs q.1)

  pub order_fits : (xs : List Sounding) → All (SoundFits board room) xs → All (KeyedFits board room) (in_order board xs)
  unfolding in_order
  order_fits xs q = ordered_all (KeyedFits board room) [] (map (keyed board) xs) tt (keyed_fits xs q)

pub length_order : (board : Fretboard) (xs : List Sounding) → length (in_order board xs) ≡ length xs
unfolding in_order
length_order board xs = omega (arith, length-ordered [] (map (keyed board) xs), length-map xs (keyed board))

-- ---- graces

pub length-graces : (xs : List Keyed) → length (graces xs) ≤ length xs
length-graces [] = omega arith
length-graces (x ∷ xs) = go x.sound.note.read.effects.grace (length-graces xs)
  where
    go : (g : Option Grace) → length (graces xs) ≤ length xs → length (graced_after g x (graces xs)) ≤ suc (length xs)
    go None h = omega arith
    go (Some g) h = omega arith

module _ (P : Keyed → Type 0) where
  abbrev pub Noted : Graced → Type 0
  Noted g = P g.note

  pub graces_all : (xs : List Keyed) → All P xs → All Noted (graces xs)
  graces_all [] q = tt
  graces_all (x ∷ xs) q = go x.sound.note.read.effects.grace (graces_all xs q.1)
    where
      go : (g : Option Grace) → All Noted (graces xs) → All Noted (graced_after g x (graces xs))
      go None h = h
      go (Some g) h = (q.0, h)

-- ---- the running dynamic

later_fits : (l m : Option ℕ) → LevelFits l → LevelFits m → LevelFits (later l m)
later_fits l None p q = p
later_fits l (Some n) p q = q

last_fits : (board : Fretboard) (room : ℕ) (xs : List Keyed) → All (KeyedFits board room) xs
    → LevelFits (last_given (levels xs))
last_fits board room [] q = tt
last_fits board room (x ∷ xs) q =
    later_fits x.sound.note.read.level.given (last_given (levels xs)) q.0.sound.note.level
    (last_fits board room xs q.1)

level_or_fits : (l : Option ℕ) (n : ℕ) → LevelFits l → n < 256 → level_or l n < 256
level_or_fits None n f h = h
level_or_fits (Some x) n f h = omega arith

cond_fits : (t : Bool) (a : ℕ) → a < 256 → pick t a forte < 256
cond_fits true a h = h
cond_fits false a h = omega arith

pub running_fits : {T : Kind → Type 0} (the : Operations T) (board : Fretboard) (room running : ℕ) (b : BeatIs)
    (xs : List Keyed) → All (KeyedFits board room) xs → running < 256 → running_after the running b xs < 256
unfolding level_after chord_level chord_of
running_fits the board room running b xs q h =
    pick_both (λ n. n < 256) b.head.kept (level_after running (chord_of (levels xs))).running running
    (level_or_fits (last_given (levels xs)) _ (last_fits board room xs q)
    (cond_fits (all_emphasised (levels xs)) running h))
    h

-- ---- losses

length_if : (t : Bool) (l : Loss) → length (report_if t l) ≤ 1
length_if true l = omega arith
length_if false l = omega arith

note_losses_lem : (n : NoteRead) → length (note_losses n) ≤ 3
note_losses_lem n = simp length-append (grw (bound, length_if, length_if, length_if) (omega arith))

notes_losses_lem : (strings i : ℕ) (ns : List NoteIs) → length (notes_losses strings i ns) ≤ 3 * length ns
notes_losses_lem strings i [] = omega arith
notes_losses_lem strings i (n ∷ ns) =
    let here : length (pick (has strings (string_bit i)) (note_losses n.read) []) ≤ 3 =
    pick_both (λ l. length l ≤ 3) (has strings (string_bit i)) (note_losses n.read) [] (note_losses_lem n.read)
    (omega arith) in
    simp length-append (omega (arith, notes_losses_lem strings (i + 1) ns))

reading_losses_lem : (b : BeatIs) → length b.notes ≡ 7 → length (reading_losses b) ≤ 28
unfolding reading_losses
reading_losses_lem b h =
    simp length-append
    (grw (bound, length_if, length_if, length_if, length_if, length_if, length_if, length_if)
    (omega (arith, notes_losses_lem b.strings 0 b.notes)))

built_losses_lem : (n : NoteRead) → length (built_losses n) ≤ 2
built_losses_lem n = simp length-append (grw (bound, length_if, length_if) (omega arith))

member_losses_lem : (xs : List Keyed) → length (member_losses xs) ≤ 2 * length xs
member_losses_lem [] = omega arith
member_losses_lem (x ∷ xs) =
    rw length-append (omega (arith, built_losses_lem x.sound.note.read, member_losses_lem xs))

grace_losses_lem : (gs : List Graced) → length (grace_losses gs) ≤ length gs
grace_losses_lem [] = omega arith
grace_losses_lem (g ∷ gs) = simp length-append (grw (bound, length_if) (omega (arith, grace_losses_lem gs)))

building_losses_lem : (b : BeatIs) (xs : List Keyed) → length xs ≤ 7 → length (building_losses b xs) ≤ 22
unfolding building_losses
building_losses_lem b xs h =
    simp length-append (grw (bound, length_if)
    (omega (arith, member_losses_lem xs, grace_losses_lem (graces xs), length-graces xs)))

module _ {T : Kind → Type 0} (the : Operations T) where
  pub beat_losses_lem : (b : BeatIs) (xs : List Keyed) → length b.notes ≡ 7 → length xs ≤ 7
      → length (beat_losses the b xs) ≤ 50
  beat_losses_lem b xs h k =
      let here : length (pick b.head.kept (building_losses b xs) []) ≤ 22 =
      pick_both (λ l. length l ≤ 22) b.head.kept (building_losses b xs) [] (building_losses_lem b xs k) (omega arith) in
      rw length-append (omega (arith, reading_losses_lem b h))
