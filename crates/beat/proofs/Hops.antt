-- A plain beat is hopped over.
use Prim.Native.Nat.{ℕ, ◌+◌, ◌≤◌, ◌<◌}
use native.Mathlib.Omega.{arith}
use mathlib.Core.Path.{◌≡◌, refl, sym, ap, ◌∙◌}
use mathlib.Core.Bool.{false}
use mathlib.Core.List.{List}
use Rattle.std.proofs.Common.{Option, Some, None}
use lib.ListN.{get_or, length}
use lib.Bits.{bit_and}
use borrow.Author.Tests.{le-leb, lt-leb, eq-eqb, ne_eqb}
use Rattle.format.specs.declared.Stop.{Stop}
use Rattle.format.specs.Place.{Place}
use Rattle.std.specs.Prelude.{Ok, Err}
use Rattle.format.specs.Text.{no_text}
use Rattle.format.specs.Prog.{has}
use Rattle.format.specs.Padded.{Padded, Arrives}
use Rattle.format.proofs.Run.{clash}
use Rattle.format.proofs.Padded as pad
use Rattle.model.specs.declared.Ottava.{Ottava}
use Rattle.note.specs.Optional.{optional}
use Rattle.note.specs.Hop as note
use Rattle.note.proofs.Stores.{has_clear}
use Rattle.note.proofs.Strings.{masked}
use Rattle.note.proofs.Filled.{pad_byte_to}
use Rattle.beat.specs.Head.{head, head_of, status, tuplet}
use Rattle.beat.specs.Chord.{chord_name, beat_text}
use Rattle.beat.specs.Effects.{beat_effects, no_effects}
use Rattle.beat.specs.Mix.{mix, no_mix}
use Rattle.beat.specs.Tail.{tail}
use Rattle.beat.specs.Beat.{BeatIs, beat_notes, beat_by, beat}
use Rattle.beat.specs.Hop.{hops_beat, Hopped, Hops}

-- ---- the flags
clear : (flags m : ℕ) → bit_and 0x7E m ≡ m → bit_and flags 0x7E ≡ 0 → bit_and flags m ≡ 0
clear flags m h e = masked flags 0x7E m h ∙ rw e

-- ---- the fields that are not given
module _ {s : List ℕ} {at : ℕ} (flags : ℕ) (h : bit_and flags 0x7E ≡ 0) where
  no_status : Padded (status flags) s at 0x02 at
  unfolding status optional
  no_status = rw (has_clear flags 0x40 (clear flags 0x40 refl h)) pad.here

  no_tuplet : Padded (tuplet flags) s at 0 at
  unfolding tuplet optional
  no_tuplet = rw (has_clear flags 0x20 (clear flags 0x20 refl h)) pad.here

  no_chord : (v : ℕ) → Padded (chord_name v flags) s at no_text at
  unfolding chord_name
  no_chord v = pad.pad_clear _ _ _ _ (clear flags 0x02 refl h) pad.here

  no_text_lem : Padded (beat_text flags) s at no_text at
  unfolding beat_text
  no_text_lem = pad.pad_clear _ _ _ _ (clear flags 0x04 refl h) pad.here

  without_effects : (v : ℕ) → Padded (beat_effects v flags) s at no_effects at
  unfolding beat_effects
  without_effects v = pad.pad_clear _ _ _ _ (clear flags 0x08 refl h) pad.here

  no_mix_lem : (v : ℕ) → Padded (mix v flags) s at no_mix at
  unfolding mix
  no_mix_lem v = pad.pad_clear _ _ _ _ (clear flags 0x10 refl h) pad.here

plain_head : {s : List ℕ} {at : ℕ} → bit_and (get_or s at 0) 0x7E ≡ 0 → Padded head s at (head_of (get_or s at 0) 0x02 (get_or s (at + 1) 0) 0) (at + 2)
unfolding head
plain_head h =
    pad.on _ (pad.pad_byte refl) (pad.on _ (no_status _ h) (pad.on _ (pad_byte_to refl (omega arith)) (pad.on _ (no_tuplet _ h) pad.here)))

-- ---- the beat
module _ {s : List ℕ} {past next : ℕ} {o : Ottava} (v at : ℕ) (room : at + 41 ≤ length s) (h : bit_and (get_or s at 0) 0x7E ≡ 0) (g : note.Hopped v (get_or s (at + 2) 0) s (at + 3) past) (t : Padded (tail v) s past o next) (n : next ≤ past + 3) where
  abbrev plain_beat : BeatIs
  plain_beat =
      record {
        range = record { start = at; end = next };
        head = head_of (get_or s at 0) 0x02 (get_or s (at + 1) 0) 0;
        chord = no_text;
        text = no_text;
        effects = no_effects;
        mix = no_mix;
        strings = get_or s (at + 2) 0;
        notes = g.over;
        ottava = o;
      }

  notes_on_lem : Arrives (beat_notes v at plain_beat.head no_text no_text no_effects no_mix) s (at + 2) plain_beat (Ok next)
  unfolding beat_notes
  notes_on_lem =
      let there : next ≤ length s = omega (arith, g.near) in
      pad.and_on _ (pad_byte_to refl (omega arith))
      (pad.and_then _ refl g.reads (pad.and_on _ t (pad.and_on _ pad.pad_position (pad.arrived (sym (pad.place_there s next there))))))

  beat_on : Arrives (beat v) s at plain_beat (Ok next)
  unfolding beat beat_by head_of
  beat_on =
      pad.and_on _ pad.pad_position (pad.and_on _ (plain_head h)
      (pad.and_on _ (no_chord _ h v) (pad.and_on _ (no_text_lem _ h) (pad.and_on _ (without_effects _ h v) (pad.and_on _ (no_mix_lem _ h v) notes_on_lem)))))

  hopped : Hopped v s (Ok at) next (get_or s (at + 2) 0)
  unfolding head_of has hops_beat
  hopped =
      record {
        told = rw (le-leb (at + 41) (length s) room, eq-eqb (bit_and (get_or s at 0) 0x7E) 0 h, g.told);
        over = plain_beat;
        reads = beat_on.within (omega arith);
        unmarked = record { same = refl; kept = refl; text = refl; notes = g.unmarked; seven = g.seven };
      }

  pub hop_to : {from : Place} → from ≡ Ok at → Hops v s from (Some (next, get_or s (at + 2) 0))
  hop_to e =
      record {
        to = λ m strings q.
            let both : ◌≡◌ {A = ℕ × ℕ} (next, get_or s (at + 2) 0) (m, strings) = cc in
            let x : next ≡ m = ap (λ (p : ℕ × ℕ). p.0) both in
            let y : get_or s (at + 2) 0 ≡ strings = ap (λ (p : ℕ × ℕ). p.1) both in
            rw (e, ← x, ← y) hopped;
        not = λ q. clash (cc);
      }

-- ---- no hop
module _ {s : List ℕ} {from : Place} (v : ℕ) where
  not_by : hops_beat s v from ≡ false → Hops v s from None
  not_by e = record { to = λ m strings q. clash (cc); not = λ q. e }

  pub hop_stopped : {x : Stop} → from ≡ Err x → Hops v s from None
  unfolding hops_beat
  hop_stopped e = not_by (rw e)

  module _ {at : ℕ} (e : from ≡ Ok at) where
    pub hop_short : length s < at + 41 → Hops v s from None
    unfolding hops_beat
    hop_short h = not_by (rw (e, lt-leb (at + 41) (length s) h))

    pub hop_marked : at + 41 ≤ length s → (bit_and (get_or s at 0) 0x7E ≡ 0 → ⊥) → Hops v s from None
    unfolding hops_beat
    hop_marked h f = not_by (rw (e, le-leb (at + 41) (length s) h, ne_eqb (bit_and (get_or s at 0) 0x7E) 0 f))

    pub hop_notes_not : {r : Option ℕ} → at + 41 ≤ length s → bit_and (get_or s at 0) 0x7E ≡ 0 → note.Hops v (get_or s (at + 2) 0) s (at + 3) r → r ≡ None → Hops v s from None
    unfolding hops_beat
    hop_notes_not h f g q = not_by (rw (e, le-leb (at + 41) (length s) h, eq-eqb (bit_and (get_or s at 0) 0x7E) 0 f, g.not q))
