-- The three ways in which a reading ends.
use Prim.Native.Nat.{ℕ}
use mathlib.Core.Path.{◌≡◌, refl, ap, sym, ◌∙◌}
use mathlib.Core.Bool.{Bool, true, false}
use mathlib.Core.List.{List}
use lib.Dec.{ltb}
use lib.ListN.{length}
use Rattle.format.specs.Place.{told}
use Rattle.std.specs.Prelude.{Result as StdResult, Ok, Err}
use Rattle.format.specs.declared.Stop.{Stop}
use Rattle.format.specs.Verdict.{LIMIT, up_to}
use Rattle.format.specs.Yields.{Bytes}
use Rattle.model.specs.declared.Answer.{Answer}
use Rattle.model.specs.declared.Sizes.{Sizes}
use Rattle.model.specs.Answers.{refusal, no_room_answer}
use Rattle.theorems.specs.Promise.{Promise}
use Rattle.theorems.proofs.Promised.{promised}
use Rattle.score.specs.Reading.{Tables, refused, enough, song_of, reading}
use Rattle.words.specs.Left.{needed_by}
use Rattle.refine.proofs.Counting.{Enters, counted_stop, counted_end}
use Rattle.words.specs.Left.{stop_answer}
use Rattle.refine.proofs.Returns.{rooms_by, refused_is, no_room_is, never_stops, read_is}
use Rattle.reader.specs.declared.pass.Passed.{Passed}
use Rattle.reader.specs.Passed.{whole_of}
use Rattle.reader.specs.Result.{FirstPass, Fills}

-- one result is one reading
pub same_read : {A : Type 0} {r : StdResult (A × ℕ) Stop} {a b : A} {m n : ℕ} → r ≡ Ok (a, m) → r ≡ Ok (b, n) → (a ≡ b) × (m ≡ n)
same_read {A = A} {a = a} {b = b} {m = m} {n = n} e f =
    let z : (a, m) ≡ (b, n) = cc in
    (ap (λ (x : A × ℕ). x.0) z, ap (λ (x : A × ℕ). x.1) z)

module _ (d : List ℕ) (bytes : Bytes d) (t : Tables) {s : List ℕ} (is : s ≡ up_to LIMIT d) where
  pub ends_refused : {x : Stop} → FirstPass s (Err x)
      → Promise d t (refused (refusal (stop_answer (ltb LIMIT (length d)) x)) t)
  unfolding told
  ends_refused {x = x} f = promised (sym (refused_is d bytes t f.before f.own x (counted_stop d bytes f.before x (rw is at f.passes.reads.reads))))

  module _ {p : Passed} {n : ℕ} (f : FirstPass s (Ok (p, n))) where
    -- a pass that enters would end there too, and need the same rooms
    again : Enters d f.before (whole_of p.song f.passes.programs f.passes.parts f.passes.losses f.after p.tally) n
    unfolding told
    again = counted_end d bytes f.before _ n (rw is at f.passes.reads.reads)

    enough_again : {b : Bool} → enough (needed_by p.song.counts p.tally) t ≡ b → enough (rooms_by again.score) t ≡ b
    enough_again h = sym (ap (λ (k : Sizes). enough k t) again.needs) ∙ h

    pub ends_short : enough (needed_by p.song.counts p.tally) t ≡ false → Promise d t (refused (no_room_answer (needed_by p.song.counts p.tally)) t)
    ends_short h =
        rw again.needs (promised (sym (no_room_is d bytes t f.before f.own again.score n again.is (enough_again h))))

    pub ends_read : enough (needed_by p.song.counts p.tally) t ≡ true → (after : Tables) (answer : Answer) → Fills s t after answer
        → Promise d t (record { answer = answer; tables = after })
    unfolding song_of told
    ends_read h after answer w = promised (go w.read refl)
      where
        go : (r : StdResult (Passed × ℕ) Stop) → w.read ≡ r → record { answer = answer; tables = after } ≡ reading d t
        go (Ok (q, m)) g =
            rw (w.answers q m g)
            (sym (read_is d bytes t f.before f.own again.score n again.is w.parts w.own
            (enough_again h) _ m (rw (g, is) at w.passes.reads.reads)))
        go (Err x) g =
            absurd (never_stops d bytes t f.before f.own again.score n again.is w.parts w.own x
            (rw (g, is) at w.passes.reads.reads))
