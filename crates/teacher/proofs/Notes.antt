-- The notes of a beat that the page shows: each on a string that sounds in the beat, at its fret.
use Rattle.std.specs.Prelude.{None, Option, Some}
use Prim.Native.Nat.{ℕ, zero, suc, ◌+◌, ◌≤◌, ◌<◌}
use native.Mathlib.Omega.{arith}
use mathlib.Core.Path.{◌≡◌, refl, sym, ap, ◌∙◌}
use mathlib.Core.Bool.{Bool, true, false, false≢true}
use mathlib.Core.List.{List, [], ◌∷◌, map}
use mathlib.Core.Logic.{◌⊎◌, inl, inr}
use borrow.Author.Tests.{ltb-true, ltb-false}
use lib.Dec.{ltb}
use Rattle.format.specs.Text.{pick}
use Rattle.beat.specs.Beat.{BeatIs}
use Rattle.note.specs.declared.NoteRead.{NoteRead}
use Rattle.score.specs.declared.Fretboard.{Fretboard}
use Rattle.score.specs.Sounding.{Memory, fret_of, Sounding, sounds, note_at, sounding_at, sounding_from, sounding}
use Rattle.score.specs.Members.{Keyed, keyed, put_in, ordered, in_order, position_of}
use Rattle.refine.proofs.All.{All}
use Rattle.refine.proofs.Shown.{pick_both}
use Rattle.told.specs.Told.{TrackTold, BeatTold, Event}
use Rattle.teacher.specs.Teacher.{or_own, board_in, last_read_in, key_on, Seen}
use Rattle.teacher.proofs.Memory.{all_read, all_read_at}
use Rattle.teacher.proofs.Walk.{seen_note, notes_of}

-- a tie takes the fret last read, or keeps its own
pub tie_takes : (l : Option ℕ) (n : NoteRead) → n.tie ≡ true → fret_of l n ≡ or_own l n.fret
tie_takes None n e = refl
tie_takes (Some f) n e = rw e

-- ---- each note that sounds is that of a string
pub record HeardOf (board : Fretboard) (memory : Memory) (b : BeatIs) (x : Sounding) : Type 0 where
  pub seven : x.string < 7
  pub on : sounds board b x.string ≡ true
  pub is : x ≡ sounding_at memory b x.string

module _ (board : Fretboard) (memory : Memory) (b : BeatIs) where
  from_heard : (k i : ℕ) → i + k ≤ 7 → All (HeardOf board memory b) (sounding_from k i board memory b)
  from_heard zero i h = tt
  from_heard (suc k) i h = go (sounds board b i) refl (from_heard k (i + 1) (omega arith))
    where
      go : (t : Bool) → sounds board b i ≡ t → All (HeardOf board memory b) (sounding_from k (i + 1) board memory b)
          → All (HeardOf board memory b)
          (pick t (sounding_at memory b i ∷ sounding_from k (i + 1) board memory b) (sounding_from k (i + 1) board memory b))
      go true e f = (record { seven = omega arith; on = e; is = refl }, f)
      go false e f = f

  heard_of : All (HeardOf board memory b) (sounding board memory b)
  unfolding sounding
  heard_of = from_heard 7 0 (omega arith)

-- ---- in the order of their keys they are the same notes
module _ (P : Keyed → Type 0) where
  place_all : (x : Keyed) (ys : List Keyed) → P x → All P ys → All P (put_in x ys)
  place_all x [] p q = (p, tt)
  place_all x (y ∷ ys) p q =
      pick_both (All P) (ltb x.key y.key) (x ∷ y ∷ ys) (y ∷ put_in x ys)
      (p, (q.0, q.1)) (q.0, place_all x ys p q.1)

  ordered_all : (done xs : List Keyed) → All P done → All P xs → All P (ordered done xs)
  ordered_all done [] p q = p
  ordered_all done (x ∷ xs) p q = ordered_all (put_in x done) xs (place_all x done q.0 p) q.1

abbrev KeyedOf : Fretboard → (Sounding → Type 0) → Keyed → Type 0
KeyedOf board P x = (x ≡ keyed board x.sound) × P x.sound

order_all : (board : Fretboard) (P : Sounding → Type 0) (xs : List Sounding) → All P xs
    → All (KeyedOf board P) (in_order board xs)
unfolding in_order
order_all board P xs q = ordered_all (KeyedOf board P) [] (map (keyed board) xs) tt (each xs q)
  where
    each : (xs : List Sounding) → All P xs → All (KeyedOf board P) (map (keyed board) xs)
    each [] q = tt
    each (x ∷ xs) q = ((refl, q.0), each xs q.1)

-- ---- what is seen of a note: its string sounds in the beat, and it stands there at the fret that a tie takes, or at
-- its own
pub record NoteIn (tracks : List TrackTold) (b : BeatTold) (earlier : List Event) (m : Seen) : Type 0 where
  pub string : ℕ
  pub seven : string < 7
  pub sounding : sounds (board_in tracks b.track) b.beat string ≡ true
  pub fret : ℕ
  pub last : fret ≡ fret_of (last_read_in tracks b.track b.voice string earlier) (note_at b.beat string).read
  pub position : m.position ≡ position_of (board_in tracks b.track) string fret
  pub key : m.key ≡ key_on (board_in tracks b.track) string fret
  pub tied : m.tied ≡ (note_at b.beat string).read.tie

module _ (tracks : List TrackTold) (b : BeatTold) (earlier : List Event) where
  abbrev board : Fretboard
  board = board_in tracks b.track

  abbrev memory : Memory
  memory = all_read board.strings.count b.track b.voice earlier

  -- the fret that a string has in this beat
  abbrev pub fret_in : ℕ → ℕ
  fret_in i = fret_of (last_read_in tracks b.track b.voice i earlier) (note_at b.beat i).read

  fret_is : (i : ℕ) → i < 7 → (sounding_at memory b.beat i).fret ≡ fret_in i
  fret_is i h = rw (all_read_at board.strings.count b.track b.voice earlier i h)

  note_in_lem : (x : Keyed) → KeyedOf board (HeardOf board memory b.beat) x → NoteIn tracks b earlier (seen_note board x)
  note_in_lem x q =
      record {
        string = x.sound.string;
        seven = q.1.seven;
        sounding = q.1.on;
        fret = x.sound.fret;
        last = ap (λ (s : Sounding). s.fret) q.1.is ∙ fret_is x.sound.string q.1.seven;
        position = refl;
        key = ap (λ (y : Keyed). y.key) q.0;
        tied = ap (λ (s : Sounding). s.note.read.tie) q.1.is;
      }

  pub notes_in_lem : All (NoteIn tracks b earlier) (map (seen_note board) (notes_of tracks b earlier))
  notes_in_lem = each (notes_of tracks b earlier) (order_all board _ _ (heard_of board memory b.beat))
    where
      each : (xs : List Keyed) → All (KeyedOf board (HeardOf board memory b.beat)) xs
          → All (NoteIn tracks b earlier) (map (seen_note board) xs)
      each [] q = tt
      each (x ∷ xs) q = (note_in_lem x q.0, each xs q.1)

-- ---- each string that sounds has its note
module _ {A : Type 0} (P : A → Type 0) where
  abbrev pub Somewhere : List A → Type 0
  Somewhere [] = ⊥
  Somewhere (a ∷ es) = P a ⊎ Somewhere es

module _ (board : Fretboard) (memory : Memory) (b : BeatIs) (i : ℕ) (on : sounds board b i ≡ true) where
  abbrev IsNote : Sounding → Type 0
  IsNote x = x ≡ sounding_at memory b i

  from_somewhere : (k j : ℕ) → j ≤ i → i < j + k → Somewhere IsNote (sounding_from k j board memory b)
  from_somewhere zero j h l = absurd (omega arith)
  from_somewhere (suc k) j h l =
      go (ltb j i) refl (sounds board b j) refl (λ past. from_somewhere k (j + 1) (omega arith) (omega arith))
    where
      go : (s : Bool) → ltb j i ≡ s → (t : Bool) → sounds board b j ≡ t
          → (j < i → Somewhere IsNote (sounding_from k (j + 1) board memory b))
          → Somewhere IsNote
          (pick t (sounding_at memory b j ∷ sounding_from k (j + 1) board memory b) (sounding_from k (j + 1) board memory b))
      go true e true f rest = inr (rest (ltb-true j i e))
      go true e false f rest = rest (ltb-true j i e)
      go false e true f rest = inl (ap (sounding_at memory b) (omega (arith, ltb-false j i e)))
      go false e false f rest =
          let same : j ≡ i = omega (arith, ltb-false j i e) in
          absurd (false≢true (sym f ∙ rw same on))

  heard_somewhere : i < 7 → Somewhere IsNote (sounding board memory b)
  unfolding sounding
  heard_somewhere h = from_somewhere 7 0 (omega arith) (omega arith)

module _ (P : Keyed → Type 0) where
  place_here : (x : Keyed) (ys : List Keyed) → P x → Somewhere P (put_in x ys)
  place_here x [] p = inl p
  place_here x (y ∷ ys) p =
      pick_both (Somewhere P) (ltb x.key y.key) (x ∷ y ∷ ys) (y ∷ put_in x ys) (inl p) (inr (place_here x ys p))

  place_still : (x : Keyed) (ys : List Keyed) → Somewhere P ys → Somewhere P (put_in x ys)
  place_still x [] q = absurd q
  place_still x (y ∷ ys) (inl p) =
      pick_both (Somewhere P) (ltb x.key y.key) (x ∷ y ∷ ys) (y ∷ put_in x ys) (inr (inl p)) (inl p)
  place_still x (y ∷ ys) (inr q) =
      pick_both (Somewhere P) (ltb x.key y.key) (x ∷ y ∷ ys) (y ∷ put_in x ys)
      (inr (inr q)) (inr (place_still x ys q))

  ordered_still : (done xs : List Keyed) → Somewhere P done → Somewhere P (ordered done xs)
  ordered_still done [] q = q
  ordered_still done (x ∷ xs) q = ordered_still (put_in x done) xs (place_still x done q)

  ordered_somewhere : (done xs : List Keyed) → Somewhere P xs → Somewhere P (ordered done xs)
  ordered_somewhere done [] q = absurd q
  ordered_somewhere done (x ∷ xs) (inl p) = ordered_still (put_in x done) xs (place_here x done p)
  ordered_somewhere done (x ∷ xs) (inr q) = ordered_somewhere (put_in x done) xs q

somewhere_map : {A B : Type 0} (P : A → Type 0) (Q : B → Type 0) (f : A → B) → ((a : A) → P a → Q (f a)) → (es : List A)
    → Somewhere P es → Somewhere Q (map f es)
somewhere_map P Q f so [] q = absurd q
somewhere_map P Q f so (a ∷ es) (inl p) = inl (so a p)
somewhere_map P Q f so (a ∷ es) (inr q) = inr (somewhere_map P Q f so es q)

module _ (tracks : List TrackTold) (b : BeatTold) (earlier : List Event) (i : ℕ) (seven : i < 7)
    (on : sounds (board_in tracks b.track) b.beat i ≡ true) where
  abbrev here_board : Fretboard
  here_board = board_in tracks b.track

  abbrev here_memory : Memory
  here_memory = all_read here_board.strings.count b.track b.voice earlier

  -- what is seen of the note of that string
  abbrev pub string_seen : Seen
  string_seen =
      record {
        key = key_on here_board i (fret_in tracks b earlier i);
        position = position_of here_board i (fret_in tracks b earlier i);
        tied = (note_at b.beat i).read.tie;
      }

  abbrev pub IsString : Seen → Type 0
  IsString m = m ≡ string_seen

  abbrev KeyedNote : Keyed → Type 0
  KeyedNote x = x ≡ keyed here_board (sounding_at here_memory b.beat i)

  order_somewhere : Somewhere KeyedNote (notes_of tracks b earlier)
  unfolding in_order
  order_somewhere =
      ordered_somewhere KeyedNote [] (map (keyed here_board) (sounding here_board here_memory b.beat))
      (somewhere_map (IsNote here_board here_memory b.beat i on) KeyedNote (keyed here_board)
      (λ x e. ap (keyed here_board) e) (sounding here_board here_memory b.beat) (heard_somewhere here_board here_memory b.beat i on seven))

  string_is : seen_note here_board (keyed here_board (sounding_at here_memory b.beat i)) ≡ string_seen
  string_is =
      let e : (sounding_at here_memory b.beat i).fret ≡ fret_in tracks b earlier i = fret_is tracks b earlier i seven in
      λ k. record {
        key = key_on here_board i (e k);
        position = position_of here_board i (e k);
        tied = (note_at b.beat i).read.tie;
      }

  pub string_somewhere : Somewhere IsString (map (seen_note here_board) (notes_of tracks b earlier))
  string_somewhere =
      somewhere_map KeyedNote IsString (seen_note here_board) (λ x e. ap (seen_note here_board) e ∙ string_is)
      (notes_of tracks b earlier) order_somewhere
