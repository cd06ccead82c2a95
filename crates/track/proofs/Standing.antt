-- The parts of a track stand where it was read.
use Prim.Native.Nat.{ℕ, ◌≤◌}
use mathlib.Core.List.{List}
use Rattle.format.specs.Prog.{Prog}
use Rattle.format.specs.Fields.{fixed_string}
use Rattle.track.specs.declared.TrackHeader.{TrackHeader}
use Rattle.track.specs.Track.{strings, sound, effect, staff, track}
use Rattle.format.specs.Passed.{Reads, Has}
use Rattle.format.proofs.Standing.{somewhere, reads_parts, reads_le}

-- name, strings and sound, and from v500 the effect
pub record TrackHas {B : Type 0} (s : List ℕ) (q : Prog B) (from v : ℕ) : Type 1 where
  pub name : Has s q from (fixed_string 40)
  pub strings : Has s q from strings
  pub sound : Has s q from sound
  pub effect : 500 ≤ v → Has s q from (effect v)

pub track_has : {B : Type 0} {s : List ℕ} {q : Prog B} {from at n : ℕ} (v : ℕ) (programs : List (List ℕ)) {t : TrackHeader}
    → Reads s q from (track v programs) at t n → TrackHas s q from v
unfolding track staff
track_has v programs w = reads_parts _ _ w (λ _ _ _ w. reads_parts _ _ w (λ _ _ a w. reads_parts _ _ w (λ _ _ b w.
    reads_parts _ _ w (λ _ _ c w. reads_parts _ _ w (λ _ _ w _.
    record {
      name = somewhere a;
      strings = somewhere b;
      sound = somewhere c;
      effect = λ l. reads_parts _ _ (reads_le _ _ l w) (λ _ _ _ w. reads_parts _ _ w (λ _ _ _ w.
          reads_parts _ _ w (λ _ _ _ w. reads_parts _ _ w (λ _ _ _ w. reads_parts _ _ w (λ _ _ d _. somewhere d)))));
    })))))
