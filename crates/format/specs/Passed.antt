-- Where a field stands in a file, and which bytes a reading passes over.
use Rattle.std.specs.Prelude.{ℕ, ◌+◌, ◌≤◌, ◌<◌, ◌≡◌, List}
use Rattle.format.specs.Step.{Step, width, Handed, seen, Passes}
use Rattle.format.specs.Prog.{Prog, read, ok, run, bind}
use Rattle.format.specs.Alike.{Kept, Signed}
use Rattle.format.specs.Fields.{u32, text_bytes, MAXSTRING, less_one}

-- reading the file s by a program, from a position on, passes over the n bytes from k on: in its first read, or later
pub data Skips {A : Type 0} (s : List ℕ) (k n : ℕ) : Prog A → ℕ → Type 0 where
  here : {step : Step} {f : Handed step → Prog A} {at : ℕ} → Passes step s at k n → Skips s k n (read step f) at
  later : {step : Step} {f : Handed step → Prog A} {at : ℕ}
      → Skips s k n (f (seen step s at)) (at + width step) → Skips s k n (read step f) at

-- position i is one of those bytes
pub record Skipped {A : Type 0} (s : List ℕ) (p : Prog A) (at i : ℕ) : Type 0 where
  pub start : ℕ
  pub size : ℕ
  pub skips : Skips s start size p at
  pub from : start ≤ i
  pub below : i < start + size

-- what becomes of a byte that was read: it is kept, its sign alone counts, or it is passed over
pub data Share {A : Type 0} (s : List ℕ) (p : Prog A) (at i : ℕ) : Type 0 where
  kept : Kept p s at i → Share s p at i
  signed : Signed p s at i → Share s p at i
  skipped : Skipped s p at i → Share s p at i

-- Reading the file s by a program, from a position on, gets to the field p at position `at`: the program is that field;
-- or it is one program after another, and the field stands in the first; or in the second, from where the first ended
pub data Standing {A : Type 0} (s : List ℕ) (p : Prog A) (at : ℕ) : (B : Type 0) → Prog B → ℕ → Type 1 where
  itself : Standing s p at A p at
  first : {B C : Type 0} {q : Prog B} (f : B → Prog C) {from : ℕ}
      → Standing s p at B q from → Standing s p at C (bind q f) from
  then : {B C : Type 0} (q : Prog B) (f : B → Prog C) {from m : ℕ} {b : B}
      → run q s from ≡ ok b m → Standing s p at C (f b) m → Standing s p at C (bind q f) from

abbrev pub Stands : {A B : Type 0} → List ℕ → Prog A → ℕ → Prog B → ℕ → Type 1
Stands {B = B} s p at q from = Standing s p at B q from

-- of the string with a size at position `at` a reading passes over the length byte inside, and its contents: size less one
pub record StringPassed {A : Type 0} (s : List ℕ) (at : ℕ) (p : Prog A) (from : ℕ) : Type 0 where
  pub length-byte : Skips s (at + 4) 1 p from
  pub contents : (size : ℕ) → run u32 s at ≡ ok size (at + 4) → less_one size ≤ MAXSTRING
      → Skips s (at + 4 + 1) (less_one size) p from

-- in the reading of q the field p stands at position `at` and was read there, gave a and ended at n
pub record Reads {A B : Type 0} (s : List ℕ) (q : Prog B) (from : ℕ) (p : Prog A) (at : ℕ) (a : A) (n : ℕ) : Type 1 where
  pub stands : Stands s p at q from
  pub ran : run p s at ≡ ok a n

-- the field p was read somewhere
abbrev pub Has : {A B : Type 0} → List ℕ → Prog B → ℕ → Prog A → Type 1
Has {A = A} s q from p = (at : ℕ) × (a : A) × (n : ℕ) × Reads s q from p at a n

-- a kept text was read somewhere
abbrev pub HasText : {B : Type 0} → List ℕ → Prog B → ℕ → Type 1
HasText s q from = (n : ℕ) × Has s q from (text_bytes n)
