-- Words hold every point of a curve that a reading gives, and its height.
use Rattle.std.specs.Prelude.{None, Option, Some}
use Prim.Native.Nat.{ℕ, ◌≤◌}
use native.Mathlib.Omega.{arith}
use mathlib.Core.Path.{◌≡◌, refl}
use mathlib.Core.Bool.{Bool, true, false}
use mathlib.Core.List.{List, [], ◌∷◌, map}
use borrow.Author.Rules.{sfits_of}
use borrow.Author.Tests.{ltb-false}
use lib.Dec.{ltb, leb, eqb}
use lib.IntN.{ℤ, pos, negsuc, ◌+ℤ◌}
use mir.Syntax.{w16, w32}
use mir.Val.{to_z, SFits}
use Rattle.format.specs.Text.{pick}
use Rattle.model.specs.declared.Cents.{Cents}
use Rattle.model.specs.declared.Point.{Point}
use Rattle.model.proofs.Fits.{HeightFits}
use Rattle.entries.proofs.Fits.{PointFits}
use Rattle.curve.specs.Held.{held, word_half}
use Rattle.curve.specs.Bend.{point, place, held_z, height_of, point_of, insert, inserts, along, latter, with_ends, finish}
use Rattle.curve.specs.Bend.{size, larger, curve_height}
use Rattle.note.specs.Points.{BendPoint}
use Rattle.score.specs.Rows.{curve_of}
use Rattle.refine.proofs.All.{All}

abbrev CentsFit : Cents → Type 0
CentsFit c = SFits w16 c.0

either : {A : Type 0} (P : A → Type 0) (b : Bool) (x y : A) → P x → P y → P (pick b x y)
either P true x y f g = f
either P false x y f g = g

-- ---- a point of the file

held_fits : (z : ℤ) → SFits w16 (held_z (negsuc 2399) (pos 2400) z)
held_fits (pos n) = go (ltb 2400 n) refl
  where
    go : (b : Bool) → ltb 2400 n ≡ b → SFits w16 (pick b (pos 2400) (pos n))
    go true e = sfits_of (omega arith)
    go false e = sfits_of (omega (arith, ltb-false 2400 n e))
held_fits (negsuc n) = go (ltb 2399 n) refl
  where
    go : (b : Bool) → ltb 2399 n ≡ b → SFits w16 (pick b (negsuc 2399) (negsuc n))
    go true e = sfits_of (omega arith)
    go false e = sfits_of (omega (arith, ltb-false 2399 n e))

offset_held : (x : ℕ) → held word_half 0 60 x ≤ 60
unfolding held
offset_held x = either (λ k. k ≤ 60) (ltb x word_half) _ 0 (omega arith) (omega arith)

point_fits : (offset value : ℕ) → PointFits (point_of offset value)
unfolding point_of height_of
point_fits offset value =
    record {
      position = omega (arith, offset_held offset);
      height = held_fits (to_z w32 value +ℤ to_z w32 value);
    }

-- ---- a curve

insert_fits : (p : Point) (qs : List Point) → PointFits p → All PointFits qs → All PointFits (insert p qs)
insert_fits p [] f g = (f, tt)
insert_fits p (q ∷ qs) f g =
    either (All PointFits) (ltb (place p) (place q)) (p ∷ q ∷ qs) _ (f, (g.0, g.1))
    (either (All PointFits) (eqb (place p) (place q)) (q ∷ qs) (q ∷ insert p qs) (g.0, g.1)
    (g.0, insert_fits p qs f g.1))

inserts_fit : (placed ps : List Point) → All PointFits placed → All PointFits ps → All PointFits (inserts placed ps)
inserts_fit placed [] f g = f
inserts_fit placed (p ∷ ps) f g = inserts_fit (insert p placed) ps (insert_fits p placed g.0 f) g.1

along_fits : {A : Type 0} (P : A → Type 0) (f : A → Cents → A) → ((a : A) (c : Cents) → P a → CentsFit c → P (f a c))
    → (a : A) (ps : List Point) → P a → All PointFits ps → P (along f a ps)
along_fits P f keeps a [] h q = h
along_fits P f keeps a (p ∷ ps) h q =
    along_fits P f keeps (f a p.height) ps (keeps a p.height h q.0.height) q.1

ends_fit : (ps : List Point) → All PointFits ps → All PointFits (with_ends ps)
ends_fit [] f = tt
ends_fit (p ∷ ps) f =
    let last = along_fits CentsFit latter (λ a c h k. k) p.height ps f.0.height f.1 in
    insert_fits (point 1000 _) (insert (point 0 p.height) (p ∷ ps))
    (record { position = omega arith; height = last })
    (insert_fits (point 0 p.height) (p ∷ ps) (record { position = omega arith; height = f.0.height }) (f.0, f.1))

abbrev read_of : BendPoint → Point
read_of p = point_of p.offset p.value

read_fit : (ps : List BendPoint) → All PointFits (map read_of ps)
read_fit [] = tt
read_fit (p ∷ ps) = (point_fits p.offset p.value, read_fit ps)

pub curve_fits : (ps : List BendPoint) → All PointFits (curve_of ps)
unfolding finish
curve_fits ps = ends_fit (inserts [] (map read_of ps)) (inserts_fit [] (map read_of ps) tt (read_fit ps))

-- ---- its height

larger_fits : (h : Option Cents) (c : Cents) → HeightFits h → CentsFit c → HeightFits (larger h c)
unfolding larger
larger_fits None c f g = g
larger_fits (Some d) c f g = either HeightFits (leb (size d) (size c)) (Some c) (Some d) g f

pub height_fits : (ps : List Point) → All PointFits ps → HeightFits (curve_height ps)
unfolding curve_height
height_fits ps f = along_fits HeightFits larger larger_fits None ps tt f
