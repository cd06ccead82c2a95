-- How code comes from one place to another, as rules for a proof search.
use Prim.Native.Nat.{ℕ, suc, ◌+◌, ◌-◌, ◌≤◌, ◌<◌}
use native.Mathlib.Omega.{arith}
use mathlib.Core.Path.{◌≡◌, refl, sym, ◌∙◌}
use mathlib.Core.List.{List}
use lib.Bits.{bit_and}
use mathlib.Core.Bool.{Bool, true, false, not}
use borrow.Author.Tests.{le-leb, lt-leb, eq-eqb, ne_eqb, not-true, not-false}
use Rattle.format.specs.declared.Stop.{Stop}
use Rattle.std.specs.Prelude.{Result, Ok, Err, IsErr, IsErrAnd}
use Rattle.std.proofs.Common.{ControlFlow, Continue, Break}
use Rattle.std.specs.Result.{result_from_control_flow}
use Rattle.std.proofs.lemmas.Result.{err_from_is_err_and}
use Rattle.format.specs.Prog.{Prog, Res, ok, stopped, Refusal, stop_of, bind, ret, refuse, turns, when_le, when_eq, when_bits}
use Rattle.format.specs.Place.{Place, resume, reached, told, Reaches, Gives, Leads, ReadsAs, Comes}
use Rattle.format.proofs.Run.{run_bind, run_ret, run_refuse, clash}

-- ---- one step after another
resume_bind : {A B : Type 0} (p : Prog A) (f : A → Prog B) (s : List ℕ) (from mid : Place) (a : A) → resume p s from ≡ reached a mid → resume (bind p f) s from ≡ resume (f a) s mid
resume_bind p f s (Ok n) (Ok m) a e = run_bind p f s n ∙ rw e
resume_bind p f s (Ok n) (Err x) a e = run_bind p f s n ∙ rw e
resume_bind p f s (Err y) (Ok m) a e = clash (cc)
resume_bind p f s (Err y) (Err x) a e = cc

pub then : {A B : Type 0} {p : Prog A} {s : List ℕ} {from mid to : Place} {a : A} (f : A → Prog B) {b : B} → Reaches p s from a mid → Reaches (f a) s mid b to → Reaches (bind p f) s from b to
then {p = p} {s = s} {from = from} {mid = mid} {a = a} f h k = record { reaches = resume_bind p f s from mid a h.reaches ∙ k.reaches }

resume_ret : {A : Type 0} (a : A) (s : List ℕ) (at : Place) → resume (ret a) s at ≡ reached a at
resume_ret a s (Ok n) = run_ret s n a
resume_ret a s (Err x) = refl

pub done : {A : Type 0} {a : A} {s : List ℕ} {at : Place} → Reaches (ret a) s at a at
done {a = a} {s = s} {at = at} = record { reaches = resume_ret a s at }

pub refusing : {A : Type 0} {s : List ℕ} {at : Place} {n : ℕ} {r : Refusal} {x : Stop} {a : A} → at ≡ Ok n → stop_of r ≡ x → Reaches (refuse r) s at a (Err x)
refusing {s = s} {n = n} {r = r} e f = record { reaches = rw (e, ← f) (run_refuse s n r) }

-- a place that is known to be a position
pub starting : {A : Type 0} {p : Prog A} {s : List ℕ} {from to : Place} {a : A} {n : ℕ} → from ≡ Ok n → Reaches p s (Ok n) a to → Reaches p s from a to
starting e h = rw e h

-- where reading stopped, whatever is left of the program
pub still : {A : Type 0} {p : Prog A} {s : List ℕ} {at : Place} {a : A} {x : Stop} → at ≡ Err x → Reaches p s at a at
still e = record { reaches = rw e }

-- ---- what is returned
pub returned : {A : Type 0} {p : Prog A} {none : A} {s : List ℕ} {from to : Place} {a : A} {n : ℕ} → to ≡ Ok n → Reaches p s from a to → Gives p none s from a to
returned e h = record { gives = h; nothing = λ x g. clash (cc) }

pub returned_at : {A : Type 0} {p : Prog A} {none : A} {s : List ℕ} {from : Place} {a : A} {n : ℕ} → Reaches p s from a (Ok n) → Gives p none s from a (Ok n)
returned_at h = returned refl h

pub handing_none : {A : Type 0} {p : Prog A} {none : A} {s : List ℕ} {from to : Place} {a : A} → a ≡ none → Reaches p s from a to → Gives p none s from a to
handing_none e h = record { gives = h; nothing = λ x g. e }

pub stopping : {A : Type 0} {p : Prog A} {none : A} {s : List ℕ} {from to : Place} → Reaches p s from none to → Gives p none s from none to
stopping h = handing_none refl h

-- ---- choices
module _ {A : Type 0} (a b : ℕ) (p q : Prog A) {s : List ℕ} {from to : Place} {y : A} where
  pub when_yes : a ≤ b → Reaches p s from y to → Reaches (when_le a b p q) s from y to
  unfolding when_le
  when_yes h k = rw (le-leb a b h) k

  pub when_no : b < a → Reaches q s from y to → Reaches (when_le a b p q) s from y to
  unfolding when_le
  when_no h k = rw (lt-leb a b h) k

  pub eq_yes : a ≡ b → Reaches p s from y to → Reaches (when_eq a b p q) s from y to
  unfolding when_eq
  eq_yes h k = rw (eq-eqb a b h) k

  pub eq_no : (a ≡ b → ⊥) → Reaches q s from y to → Reaches (when_eq a b p q) s from y to
  unfolding when_eq
  eq_no h k = rw (ne_eqb a b h) k

  pub bits_yes : (bit_and a b ≡ 0 → ⊥) → Reaches p s from y to → Reaches (when_bits a b p q) s from y to
  unfolding when_bits
  bits_yes h k = rw (ne_eqb (bit_and a b) 0 h) k

  pub bits_no : bit_and a b ≡ 0 → Reaches q s from y to → Reaches (when_bits a b p q) s from y to
  unfolding when_bits
  bits_no h k = rw (eq-eqb (bit_and a b) 0 h) k

-- ---- loops: the program that a loop runs leads to what is left of it
turns_unroll : {S : Type 0} (n i : ℕ) (f : ℕ → S → Prog S) (st : S) → i < n → turns (n - i) i f st ≡ bind (f i st) (λ t. turns (n - (i + 1)) (i + 1) f t)
unfolding turns
turns_unroll n i f st h = let e : n - i ≡ suc (n - (i + 1)) = omega arith in rw e

turns_none : {S : Type 0} (n i : ℕ) (f : ℕ → S → Prog S) (st : S) → n ≤ i → turns (n - i) i f st ≡ ret st
unfolding turns
turns_none n i f st h = let e : n - i ≡ 0 = omega arith in rw e

module _ {S : Type 0} {p : Prog S} {s : List ℕ} {from to : Place} (n i : ℕ) (f : ℕ → S → Prog S) (st : S) where
  pub turn_on : {t : S} {next : Place} → Leads p s from (turns (n - i) i f st) to → i < n → Reaches (f i st) s to t next → Leads p s from (turns (n - (i + 1)) (i + 1) f t) next
  turn_on {t} {next} l h k =
      record { leads = l.leads ∙ rw (turns_unroll n i f st h) (resume_bind (f i st) (λ u. turns (n - (i + 1)) (i + 1) f u) s to next t k.reaches) }

  pub turns_done : Leads p s from (turns (n - i) i f st) to → n ≤ i → Reaches p s from st to
  turns_done l h = record { reaches = l.leads ∙ rw (turns_none n i f st h) (resume_ret st s to) }

pub turns_start : {S : Type 0} {s : List ℕ} {at : Place} (n : ℕ) (f : ℕ → S → Prog S) (st : S) → Leads (turns n 0 f st) s at (turns (n - 0) 0 f st) at
turns_start {s = s} {at = at} n f st = record { leads = let e : n - 0 ≡ n = omega arith in rw e }

pub turns_still : {A : Type 0} {p q : Prog A} {s : List ℕ} {from to : Place} {a : A} {x : Stop} → Leads p s from q to → to ≡ Err x → Reaches p s from a to
turns_still l e = record { reaches = l.leads ∙ rw e }

-- ---- a test of what a call answered
pub said_no : (r : Bool) {b : Bool} → r ≡ b → not r ≡ true → b ≡ false
said_no r e g = sym e ∙ not-true r g

pub said_yes : (r : Bool) {b : Bool} → r ≡ b → not r ≡ false → b ≡ true
said_yes r e g = sym e ∙ not-false r g

pub ruleset said = (said_no, said_yes)

pub ruleset choosing = (when_yes, when_no, eq_yes, eq_no, bits_yes, bits_no)

-- ---- what was read and where reading goes on, or why it stopped. A search takes the values between two steps from facts, and
-- applies no lemma for them: so a rule for a step names the call, the `?` behind it and what that went on with
stop_bind : {A B : Type 0} (p : Prog A) (f : A → Prog B) (s : List ℕ) (from : Place) (x : Stop) → resume p s from ≡ stopped x → resume (bind p f) s from ≡ stopped x
stop_bind p f s (Ok n) x e = run_bind p f s n ∙ rw e
stop_bind p f s (Err y) x e = cc

pub later : {A B : Type 0} {p : Prog A} {s : List ℕ} {from mid : Place} {a : A} (f : A → Prog B) {r : Res B} → Reaches p s from a mid → Comes (f a) s mid r → Comes (bind p f) s from r
later {p = p} {s = s} {from = from} {mid = mid} {a = a} f h k = record { comes = resume_bind p f s from mid a h.reaches ∙ k.comes }

pub at_first : {A B : Type 0} {p : Prog A} {s : List ℕ} {from : Place} {x : Stop} (f : A → Prog B) → Comes p s from (stopped x) → Comes (bind p f) s from (stopped x)
at_first {p = p} {s = s} {from = from} {x = x} f h = record { comes = stop_bind p f s from x h.comes }

pub ended : {A : Type 0} {a : A} {s : List ℕ} {n : ℕ} → Comes (ret a) s (Ok n) (ok a n)
ended {a = a} {s = s} {n = n} = record { comes = run_ret s n a }

pub refused : {A : Type 0} {s : List ℕ} {n : ℕ} {r : Refusal} {x : Stop} → stop_of r ≡ x → Comes {A = A} (refuse r) s (Ok n) (stopped x)
refused {s = s} {n = n} {r = r} f = record { comes = rw (← f) (run_refuse s n r) }

module _ {A B : Type 0} {meant : B → A} {p : Prog A} {s : List ℕ} {from : Place} {r : Result (B × ℕ) Stop} (h : ReadsAs meant p s from r) where
  pub took : {v : B} {n : ℕ} → r ≡ Ok (v, n) → Reaches p s from (meant v) (Ok n)
  unfolding told
  took e = record { reaches = h.reads ∙ rw e }

  pub broke : {x : Stop} → r ≡ Err x → Comes p s from (stopped x)
  unfolding told
  broke e = record { comes = h.reads ∙ rw e }

  -- returned as it is
  pub handed_on : Comes p s from (told meant r)
  handed_on = record { comes = h.reads }

  -- behind a `?`, which goes on with what was read, or returns the stop
  module _ {b : ControlFlow _ (B × ℕ)} (e : r ≡ result_from_control_flow b) where
    pub read_then : {C : Type 0} {v : B} {n : ℕ} (f : A → Prog C) {q : Res C} → b ≡ Continue (v, n) → Comes (f (meant v)) s (Ok n) q → Comes (bind p f) s from q
    read_then f g k = later f (took (e ∙ rw g)) k

    pub read_reach : {C : Type 0} {v : B} {n : ℕ} (f : A → Prog C) {c : C} {to : Place} → b ≡ Continue (v, n) → Reaches (f (meant v)) s (Ok n) c to → Reaches (bind p f) s from c to
    read_reach f g k = then f (took (e ∙ rw g)) k

    pub read_broke : {f : _} → b ≡ Break f → Comes p s from (stopped f.0)
    read_broke g = broke (e ∙ rw g)

module _ {A : Type 0} {p : Prog A} {s : List ℕ} {from to : Place} {a : A} (h : Reaches p s from a to) {b : ControlFlow _ ℕ} (e : to ≡ result_from_control_flow b) where
  pub place_then : {C : Type 0} {n : ℕ} (f : A → Prog C) {q : Res C} → b ≡ Continue n → Comes (f a) s (Ok n) q → Comes (bind p f) s from q
  place_then {n = n} f g k = let z : to ≡ Ok n = e ∙ rw g in later f (rw z at h) k

  pub place_reach : {C : Type 0} {n : ℕ} (f : A → Prog C) {c : C} {next : Place} → b ≡ Continue n → Reaches (f a) s (Ok n) c next → Reaches (bind p f) s from c next
  place_reach {n = n} f g k = let z : to ≡ Ok n = e ∙ rw g in then f (rw z at h) k

  pub went_on : {n : ℕ} → b ≡ Continue n → Reaches p s from a (Ok n)
  went_on {n} g = let z : to ≡ Ok n = e ∙ rw g in rw z at h

  pub place_broke : {f : _} → b ≡ Break f → Comes p s from (stopped f.0)
  place_broke g = record { comes = h.reaches ∙ rw (e, g) }

module _ {A : Type 0} {p : Prog A} {s : List ℕ} {from : Place} {b : ControlFlow _ ℕ} (e : from ≡ result_from_control_flow b) where
  pub from_then : {n : ℕ} {r : Res A} → b ≡ Continue n → Comes p s (Ok n) r → Comes p s from r
  from_then {n} g h = let k : from ≡ Ok n = e ∙ rw g in rw k h

  pub from_reach : {n : ℕ} {to : Place} {a : A} → b ≡ Continue n → Reaches p s (Ok n) a to → Reaches p s from a to
  from_reach {n} g h = let k : from ≡ Ok n = e ∙ rw g in rw k h

  pub from_broke : {f : _} → b ≡ Break f → Comes p s from (stopped f.0)
  from_broke g = record { comes = rw (e, g) }

-- by hand, for many fields: what the arms of the `?`s ensure, one after another; then the end, or the stop
pub next : {A B C : Type 0} {meant : B → A} {p : Prog A} {s : List ℕ} {from : Place} {v : B} {n : ℕ} (f : A → Prog C) {q : Res C} → ReadsAs meant p s from (Ok (v, n)) → Comes (f (meant v)) s (Ok n) q → Comes (bind p f) s from q
next f h k = later f (took h refl) k

pub fails : {A B C : Type 0} {meant : B → A} {p : Prog A} {s : List ℕ} {from : Place} {x : Stop} (f : A → Prog C) → ReadsAs meant p s from (Err x) → Comes (bind p f) s from (stopped x)
fails f h = at_first f (broke h refl)

module _ {A : Type 0} (a b : ℕ) (p q : Prog A) {s : List ℕ} {from : Place} {y : Res A} where
  pub come_le : a ≤ b → Comes p s from y → Comes (when_le a b p q) s from y
  unfolding when_le
  come_le h k = rw (le-leb a b h) k

  pub come_gt : b < a → Comes q s from y → Comes (when_le a b p q) s from y
  unfolding when_le
  come_gt h k = rw (lt-leb a b h) k

  pub come_eq : a ≡ b → Comes p s from y → Comes (when_eq a b p q) s from y
  unfolding when_eq
  come_eq h k = rw (eq-eqb a b h) k

  pub come_ne : (a ≡ b → ⊥) → Comes q s from y → Comes (when_eq a b p q) s from y
  unfolding when_eq
  come_ne h k = rw (ne_eqb a b h) k

  pub come_set : (bit_and a b ≡ 0 → ⊥) → Comes p s from y → Comes (when_bits a b p q) s from y
  unfolding when_bits
  come_set h k = rw (ne_eqb (bit_and a b) 0 h) k

  pub come_clear : bit_and a b ≡ 0 → Comes q s from y → Comes (when_bits a b p q) s from y
  unfolding when_bits
  come_clear h k = rw (eq-eqb (bit_and a b) 0 h) k

-- a loop: what is left of it
module _ {S : Type 0} {p : Prog S} {s : List ℕ} {from : Place} (n i : ℕ) (f : ℕ → S → Prog S) (st : S) where
  pub turns_end : {m : ℕ} → Leads p s from (turns (n - i) i f st) (Ok m) → n ≤ i → Comes p s from (ok st m)
  turns_end l h = record { comes = (turns_done n i f st l h).reaches }

  pub turns_broke : {to : Place} {x : Stop} → Leads p s from (turns (n - i) i f st) to → i < n → Comes (f i st) s to (stopped x) → Comes p s from (stopped x)
  turns_broke {to} {x} l h k =
      record { comes = l.leads ∙ rw (turns_unroll n i f st h) (stop_bind (f i st) (λ u. turns (n - (i + 1)) (i + 1) f u) s to x k.comes) }

-- the stop that a `?` returns
pub stop_is : {T : Type 0} {r : Result T Stop} {x : Stop} → IsErr r × IsErrAnd r (λ y. y ≡ x) → r ≡ Err x
stop_is {r = r} e = let z = err_from_is_err_and r e.1 in z.1 ∙ rw z.2

-- what is returned
module _ {A B : Type 0} {meant : B → A} {p : Prog A} {s : List ℕ} {from : Place} where
  pub read : {b : B} {n : ℕ} → Comes p s from (ok (meant b) n) → ReadsAs meant p s from (Ok (b, n))
  unfolding told
  read h = record { reads = h.comes }

  pub read_stop : {x : Stop} → Comes p s from (stopped x) → ReadsAs meant p s from (Err x)
  unfolding told
  read_stop h = record { reads = h.comes }

  pub read_last : {r : Result (B × ℕ) Stop} → Comes p s from (told meant r) → ReadsAs meant p s from r
  read_last h = record { reads = h.comes }

  -- a `?` hands a stop on as it is
  pub read_exit : {r : Result (B × ℕ) Stop} {T : Type 0} {q : Result T Stop} {b : ControlFlow _ T} {f : _} → q ≡ result_from_control_flow b → b ≡ Break f → IsErr r × IsErrAnd r (λ y. y ≡ f.0) → Comes p s from (stopped f.0) → ReadsAs meant p s from r
  read_exit {r} _ _ e h = let z = err_from_is_err_and r e.1 in rw (z.1, z.2) (read_stop h)

pub given_exit : {A : Type 0} {p : Prog A} {none a : A} {s : List ℕ} {from : Place} {r : Place} {T : Type 0} {q : Result T Stop} {b : ControlFlow _ T} {f : _} → q ≡ result_from_control_flow b → b ≡ Break f → IsErr r × IsErrAnd r (λ y. y ≡ f.0) → a ≡ none → Comes p s from (stopped f.0) → Gives p none s from a r
given_exit {r = r} _ _ e z h = let w = err_from_is_err_and r e.1 in handing_none z (rw (w.1, w.2) (record { reaches = h.comes }))

module _ {A : Type 0} {p : Prog A} {s : List ℕ} {from : Place} {a : A} where
  pub place_stop : {x : Stop} → Comes p s from (stopped x) → Reaches p s from a (Err x)
  place_stop h = record { reaches = h.comes }

  pub place_exit : {r : Place} {T : Type 0} {q : Result T Stop} {b : ControlFlow _ T} {f : _} → q ≡ result_from_control_flow b → b ≡ Break f → IsErr r × IsErrAnd r (λ y. y ≡ f.0) → Comes p s from (stopped f.0) → Reaches p s from a r
  place_exit {r} _ _ e h = let z = err_from_is_err_and r e.1 in rw (z.1, z.2) (place_stop h)

pub ruleset coming = (read_then, place_then, from_then, later, ended, handed_on, at_first, read_broke, place_broke, from_broke, refused, come_le, come_gt, come_eq, come_ne, come_set, come_clear)

pub ruleset returning = (read, read_stop, read_exit, read_last, place_stop, place_exit, coming, read_reach, place_reach, from_reach, then, done, choosing)

-- the same of a loop, with what is lent beside its place
pub ruleset looping = (turns_end, turns_broke, turns_done, turn_on, turns_start, went_on, given_exit, returned_at, returning)

-- a function of fields one after another, with its optional ones
pub ruleset reading = (then, done, still, refusing, starting, returned, returned_at, stopping, handing_none, choosing)

pub ruleset turning = (turn_on, turns_done, turns_start, turns_still, returned, stopping)
