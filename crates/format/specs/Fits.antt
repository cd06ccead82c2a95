-- What a program's bytes are, said without running it.
use Rattle.std.specs.Prelude.{ℕ, ◌+◌, ◌≡◌, List, [], ◌++◌, length}
use Rattle.format.specs.Step.{Step, width, Handed, handed, fine, judged}
use Rattle.format.specs.Prog.{Prog, ret, read}

-- l is exactly the fields of the program, where l stands at a position of the file, and they give a
pub data Fits {A : Type 0} : Prog A → ℕ → List ℕ → A → Type 0 where
  fit_ret : {a : A} {at : ℕ} → Fits (ret a) at [] a
  fit_read : {k : Step} {f : Handed k → Prog A} {at : ℕ} (u : List ℕ) {t : List ℕ} {a : A} → length u ≡ width k
      → judged k at (handed k at u) ≡ fine → Fits (f (handed k at u)) (at + width k) t a → Fits (read k f) at (u ++ t) a

-- a beginning of the file s, of n bytes, fits the program and gives a
abbrev pub Begins : {A : Type 0} → Prog A → List ℕ → A → ℕ → Type 0
Begins p s a n = (l : List ℕ) × (t : List ℕ) × (s ≡ l ++ t) × (length l ≡ n) × Fits p 0 l a
