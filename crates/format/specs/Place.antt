-- What code that reads has to show: from a place, what a program gives and where it goes on.
use Rattle.std.specs.Prelude.{ℕ, ◌≡◌, List, Result, Ok, Err}
use Rattle.format.specs.declared.Stop.{Stop}
use Rattle.format.specs.Prog.{Prog, Res, ok, stopped, run}

-- where reading goes on, or why it does not
abbrev pub Place : Type 0
Place = Result ℕ Stop

-- where reading stopped nothing more is read
abbrev pub resume : {A : Type 0} → Prog A → List ℕ → Place → Res A
resume p s (Ok n) = run p s n
resume p s (Err x) = stopped x

-- a value, and the place after it: where reading stopped, the value is nothing
abbrev pub reached : {A : Type 0} → A → Place → Res A
reached a (Ok n) = ok a n
reached a (Err x) = stopped x

-- From one place the program comes to another, with the value a if it was not stopped. Records and no bare equations,
-- so that a proof search reads the program, the file and the places off them
pub record Reaches {A : Type 0} (p : Prog A) (s : List ℕ) (from : Place) (a : A) (to : Place) : Type 0 where
  pub reaches : resume p s from ≡ reached a to

-- the same, where a stopped reading hands on none: this leaves one value and one place
pub record Gives {A : Type 0} (p : Prog A) (none : A) (s : List ℕ) (from : Place) (a : A) (to : Place) : Type 0 where
  pub gives : Reaches p s from a to
  pub nothing : (x : Stop) → to ≡ Err x → a ≡ none

-- p from one place comes to what q comes to from another: what a loop keeps
pub record Leads {A : Type 0} (p : Prog A) (s : List ℕ) (from : Place) (q : Prog A) (to : Place) : Type 0 where
  pub leads : resume p s from ≡ resume q s to

-- what a program comes to from a place
pub record Comes {A : Type 0} (p : Prog A) (s : List ℕ) (from : Place) (r : Res A) : Type 0 where
  pub comes : resume p s from ≡ r

-- what code gives for a program: what was read, meant as the program's result, and where reading goes on; or why it stopped
unfoldable pub told : {A B : Type 0} → (B → A) → Result (B × ℕ) Stop → Res A
told meant (Ok r) = ok (meant r.0) r.1
told meant (Err x) = stopped x

pub record ReadsAs {A B : Type 0} (meant : B → A) (p : Prog A) (s : List ℕ) (from : Place) (r : Result (B × ℕ) Stop) : Type 0 where
  pub reads : resume p s from ≡ told meant r

-- the same of a result that is its own meaning
abbrev pub Reads : {A : Type 0} → Prog A → List ℕ → Place → Result (A × ℕ) Stop → Type 0
Reads p s from r = ReadsAs (λ a. a) p s from r
