-- A promise by `Gives` leaves one value and one place.
use Prim.Native.Nat.{ℕ}
use mathlib.Core.Path.{◌≡◌, refl, sym, ◌∙◌}
use mathlib.Core.List.{List}
use Rattle.std.specs.Prelude.{Result, Ok, Err}
use Rattle.format.specs.declared.Stop.{Stop}
use Rattle.format.specs.Prog.{Prog}
use Rattle.format.specs.Place.{Place, reached, told, Reaches, Gives, ReadsAs}
use Rattle.format.proofs.Run.{clash}

-- equal results are reached at equal places, with equal values where they go on
same_place_lem : {A : Type 0} (a b : A) (to at : Place) → reached a to ≡ reached b at → to ≡ at
same_place_lem a b (Ok n) (Ok m) e = cc
same_place_lem a b (Ok n) (Err y) e = clash (cc)
same_place_lem a b (Err x) (Ok m) e = clash (cc)
same_place_lem a b (Err x) (Err y) e = cc

pub reaches_unique : {A : Type 0} {p : Prog A} {s : List ℕ} {from : Place} {a b : A} {to at : Place} → Reaches p s from a to → Reaches p s from b at → to ≡ at
reaches_unique {a = a} {b = b} {to = to} {at = at} g h = same_place_lem a b to at (sym g.reaches ∙ h.reaches)

same_value : {A : Type 0} (none a b : A) (to : Place) → reached a to ≡ reached b to → ((x : _) → to ≡ Err x → a ≡ none) → ((x : _) → to ≡ Err x → b ≡ none) → a ≡ b
same_value none a b (Ok n) e g h = cc
same_value none a b (Err x) e g h = g x refl ∙ sym (h x refl)

pub gives_unique : {A : Type 0} {p : Prog A} {none : A} {s : List ℕ} {from : Place} {a b : A} {to at : Place} → Gives p none s from a to → Gives p none s from b at → (a ≡ b) × (to ≡ at)
gives_unique {none = none} {a = a} {b = b} {to = to} {at = at} g h =
    let e : reached a to ≡ reached b at = sym g.gives.reaches ∙ h.gives.reaches in
    let q : to ≡ at = same_place_lem a b to at e in
    (same_value none a b to (rw (← q) at e) g.nothing (λ x z. h.nothing x (sym q ∙ z)), q)

-- a promise by `ReadsAs` leaves one result, where no two readings mean the same
told_same : {A B : Type 0} (meant : B → A) (r q : Result (B × ℕ) Stop) → ((a b : B) → meant a ≡ meant b → a ≡ b) → told meant r ≡ told meant q → r ≡ q
unfolding told
told_same meant (Ok (a, n)) (Ok (b, m)) one e = let k : meant a ≡ meant b = cc in let v : a ≡ b = one a b k in let w : n ≡ m = cc in rw (v, w)
told_same meant (Ok (a, n)) (Err y) one e = clash (cc)
told_same meant (Err x) (Ok (b, m)) one e = clash (cc)
told_same meant (Err x) (Err y) one e = cc

pub reads_unique : {A B : Type 0} {meant : B → A} {p : Prog A} {s : List ℕ} {from : Place} {r q : Result (B × ℕ) Stop} → ((a b : B) → meant a ≡ meant b → a ≡ b) → ReadsAs meant p s from r → ReadsAs meant p s from q → r ≡ q
reads_unique {meant = meant} {r = r} {q = q} one g h = told_same meant r q one (sym g.reads ∙ h.reads)
