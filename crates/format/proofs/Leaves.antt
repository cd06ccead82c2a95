-- What the code of a leaf shows: each step of field at a position, where its bytes are there and where they end.
use Prim.Native.Nat.{ℕ, zero, suc, ◌+◌, ◌*◌, ◌≤◌, ◌<◌}
use native.Mathlib.Omega.{arith}
use native.Mathlib.Numerals.{add-one}
use native.Mathlib.Nat.{add-zero}
use mathlib.Core.Path.{◌≡◌, refl, ap, ◌∙◌}
use native.Mathlib.Decide.{dec_le, dec_lt}
use mathlib.Core.Bool.{Bool, true, false, or-true}
use mathlib.Core.List.{List}
use lib.ListN.{length, get_or, take, drop}
use lib.Seq.{drop-cons}
use lib.Dec.{leb}
use borrow.Author.Tests.{le-ltb, lt-ltb, le-leb, lt-leb}
use Rattle.format.specs.declared.Counted.{Counted}
use Rattle.format.specs.declared.Stop.{Stop}
use Rattle.format.specs.declared.Stop.TheVariants.{Ends, Count}
use Rattle.std.specs.Prelude.{Ok, Err}
use Rattle.format.specs.Count.{NEGATIVE, limit_of, too_many, little, word_at, as_word}
use Rattle.format.specs.Sign.{not_negative}
use Rattle.format.specs.Step.{byte, pass, counted}
use Rattle.format.specs.Prog.{Prog, Res, ret, ok, stopped, run, bind}
use Rattle.format.specs.Place.{Place, resume, told, Reaches, Comes, Reads}
use Rattle.format.specs.Fields.{u8, number, u16, u32, skip, sign_byte, count}
use Rattle.format.proofs.Rules.{starting, read, read_stop}
use Rattle.format.proofs.Run.{run_bind, run_ret, read_goes, read_ends, byte_goes, count_goes, count_over, clash}

-- what a leaf returns: from a known position, to another or to the end of the bytes
came : {A : Type 0} {p : Prog A} {a : A} {s : List ℕ} {from : Place} {at n : ℕ} → from ≡ Ok at → run p s at ≡ ok a n → Reads p s from (Ok (a, n))
came e h = read (rw e (record { comes = h }))

ended : {A : Type 0} {p : Prog A} {s : List ℕ} {from : Place} {at : ℕ} {x : Stop} → from ≡ Ok at → run p s at ≡ stopped x → Reads p s from (Err x)
ended e h = read_stop (rw e (record { comes = h }))

run_u8 : (s : List ℕ) (at : ℕ) → at < length s → run u8 s at ≡ ok (get_or s at 0) (at + 1)
unfolding u8
run_u8 s at h = byte_goes s at (λ b. ret b) h ∙ run_ret s (at + 1) (get_or s at 0)

u8_short : (s : List ℕ) (at : ℕ) → length s ≤ at → run u8 s at ≡ stopped Ends
unfolding u8
u8_short s at h = read_ends s at byte (λ b. ret b) (omega arith)

module _ {s : List ℕ} {from : Place} {at : ℕ} (e : from ≡ Ok at) where
  pub u8_goes : at < length s → Reads u8 s from (Ok (get_or s at 0, at + 1))
  u8_goes h = came e (run_u8 s at h)

  pub u8_ends : length s ≤ at → Reads u8 s from (Err Ends)
  u8_ends h = ended e (u8_short s at h)

  pub skip_goes : (n : ℕ) → at + n ≤ length s → Reaches (skip n) s from tt (Ok (at + n))
  unfolding skip
  skip_goes n h = starting e (record { reaches = read_goes s at (pass n) (λ _. ret tt) h refl ∙ run_ret s (at + n) tt })

  pub skip_ends : (n : ℕ) → length s < at + n → Reaches (skip n) s from tt (Err Ends)
  unfolding skip
  skip_ends n h = starting e (record { reaches = read_ends s at (pass n) (λ _. ret tt) h })

-- the code reads the byte and hands its sign on
sign_run : (s : List ℕ) (from : Place) → resume sign_byte s from ≡ resume (bind u8 (λ b. ret (not_negative b))) s from
unfolding run bind u8 sign_byte
sign_run s (Ok n) = refl
sign_run s (Err x) = refl

pub sign_comes : {s : List ℕ} {from : Place} {r : Res Bool} → Comes (bind u8 (λ b. ret (not_negative b))) s from r → Comes sign_byte s from r
sign_comes {s = s} {from = from} h = record { comes = sign_run s from ∙ h.comes }

-- ---- numbers of every width
little_next : (s : List ℕ) (at next w : ℕ) → next ≡ at + 1 → at < length s → little (take (suc w) (drop at s)) ≡ get_or s at 0 + 256 * little (take w (drop next s))
unfolding little
little_next s at next w e h = rw (e, add-one at, drop-cons s at 0 h)

run_number : (w : ℕ) (s : List ℕ) (at : ℕ) → at + w ≤ length s → run (number w) s at ≡ ok (little (take w (drop at s))) (at + w)
unfolding number little
run_number zero s at h = run_ret s at 0 ∙ ap (λ (n : ℕ). ok 0 n) (omega arith)
run_number (suc w) s at h =
    let k : at < length s = omega arith in
    run_bind u8 (λ b. bind (number w) (λ r. ret (b + 256 * r))) s at
    ∙ rw (run_u8 s at k)
    (run_bind (number w) (λ r. ret (get_or s at 0 + 256 * r)) s (at + 1)
    ∙ rw (run_number w s (at + 1) (omega arith), run_ret s (at + 1 + w) (get_or s at 0 + 256 * little (take w (drop (at + 1) s))), little_next s at (at + 1) w refl k)
    (ap (λ (n : ℕ). ok (get_or s at 0 + 256 * little (take w (drop (at + 1) s))) n) (omega arith)))

number_cut : (w : ℕ) (s : List ℕ) (at : ℕ) → length s ≤ at → run (number (suc w)) s at ≡ stopped Ends
unfolding number
number_cut w s at h = run_bind u8 (λ b. bind (number w) (λ r. ret (b + 256 * r))) s at ∙ rw (u8_short s at h)

number_short : (w : ℕ) (s : List ℕ) (at : ℕ) → length s < at + suc w → run (number (suc w)) s at ≡ stopped Ends
unfolding number
number_short zero s at h = number_cut 0 s at (omega arith)
number_short (suc w) s at h = elim (dec_lt at (length s)) [
  | yes d ↦ run_bind u8 (λ b. bind (number (suc w)) (λ r. ret (b + 256 * r))) s at
      ∙ rw (run_u8 s at d)
      (run_bind (number (suc w)) (λ r. ret (get_or s at 0 + 256 * r)) s (at + 1) ∙ rw (number_short w s (at + 1) (omega arith)))
  | no d ↦ number_cut (suc w) s at (omega arith)
]

module _ {s : List ℕ} {from : Place} {at : ℕ} (e : from ≡ Ok at) where
  pub u16_goes : {v : ℕ} → at + 2 ≤ length s → v ≡ get_or s at 0 + 256 * get_or s (at + 1) 0 → Reads u16 s from (Ok (v, at + 2))
  unfolding little
  u16_goes h g =
      rw g
      (came e
      (run_number 2 s at h
      ∙ rw (little_next s at (at + 1) 1 refl (omega arith), little_next s (at + 1) (at + 2) 0 (omega arith) (omega arith), add-zero)))

  pub u32_goes : {v : ℕ} → at + 4 ≤ length s → v ≡ get_or s at 0 + 256 * (get_or s (at + 1) 0 + 256 * (get_or s (at + 2) 0 + 256 * get_or s (at + 3) 0)) → Reads u32 s from (Ok (v, at + 4))
  unfolding little
  u32_goes h g =
      rw g
      (came e
      (run_number 4 s at h
      ∙ rw (
        little_next s at (at + 1) 3 refl (omega arith),
        little_next s (at + 1) (at + 2) 2 (omega arith) (omega arith),
        little_next s (at + 2) (at + 3) 1 (omega arith) (omega arith),
        little_next s (at + 3) (at + 4) 0 (omega arith) (omega arith),
        add-zero,
      )))

  pub u16_ends : length s < at + 2 → Reads u16 s from (Err Ends)
  u16_ends h = ended e (number_short 1 s at h)

  pub u32_ends : length s < at + 4 → Reads u32 s from (Err Ends)
  u32_ends h = ended e (number_short 3 s at h)

-- ---- a count, read as a number and then judged
module _ (c : Counted) (v : ℕ) where
  pub over_negative : NEGATIVE ≤ v → too_many c v ≡ true
  unfolding too_many
  over_negative h = simp (le-leb NEGATIVE v h)

  pub over_limit : limit_of c < v → too_many c v ≡ true
  unfolding too_many
  over_limit h = rw (lt-ltb (limit_of c) v h) (or-true (leb NEGATIVE v))

  pub not_over : v < NEGATIVE → v ≤ limit_of c → too_many c v ≡ false
  unfolding too_many
  not_over h k = rw (lt-leb NEGATIVE v h, le-ltb (limit_of c) v k)

module _ (s : List ℕ) (at : ℕ) where
  word_read : {v n : ℕ} → run u32 s at ≡ ok v n → (at + 4 ≤ length s) × (word_at s at ≡ v) × (at + 4 ≡ n)
  word_read e = elim (dec_le (at + 4) (length s)) [
    | yes d ↦ let w = run_number 4 s at d in (d, cc, cc)
    | no d ↦ let w = number_short 3 s at (omega arith) in clash (cc)
  ]

  word_cut : {x : Stop} → run u32 s at ≡ stopped x → (length s < at + 4) × (Ends ≡ x)
  word_cut e = elim (dec_le (at + 4) (length s)) [
    | yes d ↦ let w = run_number 4 s at d in clash (cc)
    | no d ↦ let w = number_short 3 s at (omega arith) in (omega arith, cc)
  ]

module _ {s : List ℕ} {from : Place} {at : ℕ} (c : Counted) (e : from ≡ Ok at) where
  pub count_cut : {x : Stop} → Reads u32 s from (Err x) → Comes (count c) s from (stopped x)
  unfolding count told
  count_cut {x} read =
      let w = word_cut s at {x = x} (rw e at read.reads) in
      rw e (record { comes = read_ends s at (counted c) (λ x. ret x) w.0 ∙ rw w.1 })

  module _ {v n : ℕ} (read : Reads u32 s from (Ok (v, n))) where
    word : (at + 4 ≤ length s) × (word_at s at ≡ v) × (at + 4 ≡ n)
    unfolding told
    word = word_read s at (rw e at read.reads)

    pub count_read : too_many c v ≡ false → Reads (count c) s from (Ok (v, n))
    unfolding count
    count_read o =
        let w = word in
        came e (count_goes s at c (λ x. ret x) w.0 (rw w.1 o) ∙ run_ret s (at + 4) (word_at s at) ∙ rw (w.1, w.2))

    pub count_refused : too_many c v ≡ true → Reads (count c) s from (Err (Count c v (as_word at)))
    unfolding count
    count_refused o =
        let w = word in
        ended e (count_over s at c (λ x. ret x) w.0 (rw w.1 o) ∙ rw w.1)
