-- Plain notes are hopped over: what the bytes are that are passed, and the loop over a set of bits that counts them.
use Prim.Native.Nat.{ℕ, zero, suc, ◌+◌, ◌-◌, ◌*◌, ◌%◌, ◌≤◌, ◌<◌}
use native.Mathlib.Omega.{arith}
use mathlib.Core.Path.{◌≡◌, refl, sym, ap, ◌∙◌}
use mathlib.Core.List.{List, [], ◌∷◌}
use mathlib.Core.Bool.{Bool, true, false, not}
use Rattle.std.proofs.Common.{Option, Some, None}
use lib.ListN.{get_or, set, length, length-set}
use lib.Bits.{bit_and}
use lib.Count.{ones}
use lib.Dec.{eqb, leb}
use borrow.Author.Tests.{eqb-true, leb-true, le-leb, lt-leb, eq-eqb, ne_eqb}
use Rattle.format.specs.Text.{pick}
use Rattle.format.specs.Prog.{Prog, ret, bind, turns, when_bits, has}
use Rattle.format.specs.Fields.{u8}
use Rattle.format.specs.Padded.{Padded}
use Rattle.format.proofs.Run.{clash}
use Rattle.format.proofs.Padded as pad
use Rattle.note.specs.Optional.{optional}
use Rattle.note.specs.Marks.{note_effects, no_note_effects}
use Rattle.note.specs.Note.{NoteIs, dynamic, hands, no_hands, read_of, note_end, note_by, note, no_note}
use Rattle.note.specs.Notes.{string_bit, string_turn, notes, no_notes}
use Rattle.note.specs.Hop.{Unmarked, AllUnmarked, size_without, plain_size, hop_note, hop_times, count_from, string_count, hop_notes, Hopped, Hops}
use Rattle.note.proofs.Stores.{has_set, has_clear}
use Rattle.note.proofs.Strings.{all_at}
use Rattle.note.proofs.Straight.{Straight, straight_flags, fretted_read, no_duration, turned_read}

-- ---- a plain note
pad_to : {A : Type 0} {p : Prog A} {s : List ℕ} {at m n : ℕ} {a : A} → m ≡ n → Padded p s at a m → Padded p s at a n
pad_to e h = rw e at h

-- a program is passed, with some value
record Passes {A : Type 0} (p : Prog A) (s : List ℕ) (at next : ℕ) : Type 0 where
  value : A
  reads : Padded p s at value next

module _ {s : List ℕ} {at : ℕ} where
  dynamic_passes : (flags : ℕ) → Passes (dynamic flags) s at (at + pick (has flags 0x10) 1 0)
  unfolding dynamic when_bits has
  dynamic_passes flags = by (eqb (bit_and flags 0x10) 0)
    where
      by : (none : Bool) → Passes (pick none (ret None) (bind u8 (λ b. ret (Some b)))) s at (at + pick (not none) 1 0)
      by true = record { value = None; reads = pad_to (omega arith) pad.here }
      by false = record { value = Some (get_or s at 0); reads = pad.on _ (pad.pad_byte refl) pad.here }

  turned_passes : (v : ℕ) → Passes (optional (leb 500 v) u8 0) s at (at + pick (leb 500 v) 1 0)
  unfolding optional
  turned_passes v = by (leb 500 v)
    where
      by : (late : Bool) → Passes (pick late u8 (ret 0)) s at (at + pick late 1 0)
      by true = record { value = get_or s at 0; reads = pad.pad_byte refl }
      by false = record { value = 0; reads = pad_to (omega arith) pad.here }

  no_hands_lem : (flags : ℕ) → bit_and flags 0x80 ≡ 0 → Padded (hands flags) s at no_hands at
  unfolding hands
  no_hands_lem flags h = pad.pad_clear _ _ _ _ h pad.here

  no_effects_lem : (v flags : ℕ) → bit_and flags 0x08 ≡ 0 → Padded (note_effects v flags) s at no_note_effects at
  unfolding note_effects
  no_effects_lem v flags h = pad.pad_clear _ _ _ _ h pad.here

size_late : (v : ℕ) → size_without v ≡ 3 + pick (leb 500 v) 1 0
unfolding size_without
size_late v = by (leb 500 v)
  where
    by : (late : Bool) → pick late 4 3 ≡ 3 + pick late 1 0
    by true = refl
    by false = refl

pub size_few : (v : ℕ) → size_without v ≤ 4
size_few v = by (leb 500 v) (size_late v)
  where
    by : (late : Bool) → size_without v ≡ 3 + pick late 1 0 → size_without v ≤ 4
    by true e = omega arith
    by false e = omega arith

record OneHop (v : ℕ) (s : List ℕ) (at next : ℕ) : Type 0 where
  one : NoteIs
  reads : Padded (note v) s at one next
  unmarked : Unmarked one

hop_one : (s : List ℕ) (at v : ℕ) → bit_and (get_or s at 0) 0xA9 ≡ 0x20 → OneHop v s at (at + plain_size v (get_or s at 0))
unfolding note note_by note_end no_note_effects read_of plain_size
hop_one s at v e =
    let flags : ℕ = get_or s at 0 in
    let g : Straight flags = straight_flags flags e in
    let d : Passes (dynamic flags) s (at + 2) (at + 2 + pick (has flags 0x10) 1 0) = dynamic_passes flags in
    let a : ℕ = at + 2 + pick (has flags 0x10) 1 0 in
    let t : Passes (optional (leb 500 v) u8 0) s (a + 1) (a + 1 + pick (leb 500 v) 1 0) = turned_passes v in
    record {
      one = _;
      reads =
          pad_to (omega (arith, size_late v))
          (pad.on _ (pad.pad_byte refl)
          (pad.on _ (fretted_read flags g.fretted refl (omega arith))
          (pad.on _ (no_duration flags v g.steady)
          (pad.on _ d.reads
          (pad.on _ (fretted_read flags g.fretted refl refl)
          (pad.on _ (no_hands_lem flags g.unfingered)
          (pad.on _ (turned_read flags v g.steady t.reads)
          (pad.on _ (no_effects_lem v flags g.unmarked) pad.here))))))));
      unmarked = record { effects = refl; bend = refl };
    }

-- ---- one note after another
never_to : (s : List ℕ) (v n : ℕ) → hop_times s v n None ≡ None
unfolding hop_times hop_note
never_to s v zero = refl
never_to s v (suc n) = never_to s v n

-- a hop over a note
record Stepped (s : List ℕ) (v at next : ℕ) : Type 0 where
  plain : bit_and (get_or s at 0) 0xA9 ≡ 0x20
  is : at + plain_size v (get_or s at 0) ≡ next

stepped : (s : List ℕ) (v at next : ℕ) → hop_note s v (Some at) ≡ Some next → Stepped s v at next
unfolding hop_note
stepped s v at next = by (eqb (bit_and (get_or s at 0) 0xA9) 0x20) refl
  where
    by : (b : Bool) → eqb (bit_and (get_or s at 0) 0xA9) 0x20 ≡ b → pick b (Some (at + plain_size v (get_or s at 0))) None ≡ Some next → Stepped s v at next
    by true q e = record { plain = eqb-true _ _ q; is = cc }
    by false q e = clash (cc)

size_most : (v flags : ℕ) → plain_size v flags ≤ 5
unfolding plain_size
size_most v flags = by (has flags 0x10)
  where
    by : (given : Bool) → size_without v + pick given 1 0 ≤ 5
    by true = omega (arith, size_few v)
    by false = omega (arith, size_few v)

-- what is answered of one note
module _ (s : List ℕ) (at v : ℕ) where
  pub step_not : (bit_and (get_or s at 0) 0xA9 ≡ 0x20 → ⊥) → None ≡ hop_note s v (Some at)
  unfolding hop_note
  step_not h = rw (ne_eqb (bit_and (get_or s at 0) 0xA9) 0x20 h)

  pub step_bare : {size : ℕ} → bit_and (get_or s at 0) 0xA9 ≡ 0x20 → bit_and (get_or s at 0) 0x10 ≡ 0 → size ≡ size_without v → Some (at + size) ≡ hop_note s v (Some at)
  unfolding hop_note plain_size
  step_bare {size} h g e =
      let q : at + size ≡ at + (size_without v + 0) = omega arith in
      rw (eq-eqb (bit_and (get_or s at 0) 0xA9) 0x20 h, has_clear (get_or s at 0) 0x10 g) (ap (λ (n : ℕ). Some n) q)

  pub step_given : {size : ℕ} → bit_and (get_or s at 0) 0xA9 ≡ 0x20 → (bit_and (get_or s at 0) 0x10 ≡ 0 → ⊥) → size ≡ size_without v → Some (at + size + 1) ≡ hop_note s v (Some at)
  unfolding hop_note plain_size
  step_given {size} h g e =
      let q : at + size + 1 ≡ at + (size_without v + 1) = omega arith in
      rw (eq-eqb (bit_and (get_or s at 0) 0xA9) 0x20 h, has_set (get_or s at 0) 0x10 g) (ap (λ (n : ℕ). Some n) q)

pub step_near : (s : List ℕ) (v at next : ℕ) → hop_note s v (Some at) ≡ Some next → next ≤ at + 5
step_near s v at next e = omega (arith, (stepped s v at next e).is, size_most v (get_or s at 0))

times_near : (s : List ℕ) (v n at next : ℕ) → hop_times s v n (Some at) ≡ Some next → next ≤ at + 5 * n
unfolding hop_times
times_near s v zero at next e = let q : at ≡ next = cc in omega arith
times_near s v (suc n) at next e = by (hop_note s v (Some at)) refl e (λ m q. times_near s v n m next q)
  where
    by : (h : Option ℕ) → hop_note s v (Some at) ≡ h → hop_times s v n h ≡ Some next → ((m : ℕ) → hop_times s v n (Some m) ≡ Some next → next ≤ m + 5 * n) → next ≤ at + 5 * suc n
    by None q f ih = clash (let z : None ≡ Some next = sym (never_to s v n) ∙ f in cc)
    by (Some m) q f ih = omega (arith, step_near s v at m q, ih m f)

set-unmarked : (ns : List NoteIs) (k : ℕ) (x : NoteIs) → Unmarked x → AllUnmarked ns → AllUnmarked (set ns k x)
set-unmarked [] k x u h = h
set-unmarked (n ∷ ns) zero x u h = (u, h.1)
set-unmarked (n ∷ ns) (suc k) x u h = (h.0, set-unmarked ns k x u h.1)

-- ---- string by string
record Turned (p : Prog (List NoteIs)) (s : List ℕ) (at next n : ℕ) : Type 0 where
  over : List NoteIs
  reads : Padded p s at over next
  unmarked : AllUnmarked over
  long : length over ≡ n

module _ (s : List ℕ) (v strings next : ℕ) where
  -- the strings from k on, n of them
  abbrev HopsFrom : ℕ → ℕ → Type 0
  HopsFrom n k =
      (at : ℕ) (ns : List NoteIs) → AllUnmarked ns → hop_times s v (count_from n k strings) (Some at) ≡ Some next
      → Turned (turns n k (string_turn v strings) ns) s at next (length ns)

  hop_turn : (n k : ℕ) → HopsFrom n (k + 1) → HopsFrom (suc n) k
  unfolding turns count_from hop_times has when_bits
  hop_turn n k ih at ns u = by (eqb (bit_and strings (string_bit k)) 0)
    where
      set_by : (h : Option ℕ) → hop_note s v (Some at) ≡ h → hop_times s v (count_from n (k + 1) strings) h ≡ Some next
          → Turned (bind (bind (note v) (λ x. ret (set ns k x))) (λ t. turns n (k + 1) (string_turn v strings) t)) s at next (length ns)
      set_by None q e = clash (let z : None ≡ Some next = sym (never_to s v (count_from n (k + 1) strings)) ∙ e in cc)
      set_by (Some m) q e =
          let x : OneHop v s at m = rw (stepped s v at m q).is at (hop_one s at v (stepped s v at m q).plain) in
          let r = ih m (set ns k x.one) (set-unmarked ns k x.one x.unmarked u) e in
          record {
            over = r.over;
            reads = pad.on _ (pad.on _ x.reads pad.here) r.reads;
            unmarked = r.unmarked;
            long = r.long ∙ length-set ns k x.one;
          }

      by : (none : Bool) → hop_times s v (pick (not none) (suc (count_from n (k + 1) strings)) (count_from n (k + 1) strings)) (Some at) ≡ Some next
          → Turned (bind (pick none (ret ns) (bind (note v) (λ x. ret (set ns k x)))) (λ t. turns n (k + 1) (string_turn v strings) t)) s at next (length ns)
      by true e =
          let r = ih at ns u e in
          record { over = r.over; reads = pad.on _ pad.here r.reads; unmarked = r.unmarked; long = r.long }
      by false e = set_by (hop_note s v (Some at)) refl e

  hop_from : (n k : ℕ) → HopsFrom n k
  unfolding turns count_from hop_times
  hop_from zero k at ns u e = let q : at ≡ next = cc in record { over = ns; reads = rw q pad.here; unmarked = u; long = refl }
  hop_from (suc n) k at ns u e = hop_turn n k (hop_from n (k + 1)) at ns u e

count_most : (n k mask : ℕ) → count_from n k mask ≤ n
unfolding count_from
count_most zero k mask = omega arith
count_most (suc n) k mask = by (has mask (string_bit k)) (count_most n (k + 1) mask)
  where
    by : (b : Bool) → count_from n (k + 1) mask ≤ n → pick b (suc (count_from n (k + 1) mask)) (count_from n (k + 1) mask) ≤ suc n
    by true h = omega arith
    by false h = omega arith

pub seven_most : (mask : ℕ) → string_count mask ≤ 7
unfolding string_count
seven_most mask = count_most 7 0 mask

none_marked : AllUnmarked no_notes
unfolding no_notes no_note
none_marked = let u : Unmarked no_note = record { effects = refl; bend = refl } in (u, (u, (u, (u, (u, (u, (u, tt)))))))

-- all of the notes
hopped : (s : List ℕ) (from v strings next : ℕ) → hop_notes s from v strings ≡ Some next → Hopped v strings s from next
unfolding hop_notes notes string_count no_notes
hopped s from v strings next = by (leb (from + 35) (length s)) refl
  where
    by : (b : Bool) → leb (from + 35) (length s) ≡ b → pick b (hop_times s v (string_count strings) (Some from)) None ≡ Some next → Hopped v strings s from next
    by false q e = clash (cc)
    by true q e =
        let room : from + 35 ≤ length s = leb-true _ _ q in
        let near : next ≤ from + 35 = omega (arith, times_near s v (string_count strings) from next e, seven_most strings) in
        let r = hop_from s v strings next 7 0 from no_notes none_marked e in
        record {
          told = rw q e;
          over = r.over;
          reads =
              record {
                within = λ l. record { reaches = r.reads.there (omega arith) };
                beyond = λ g. let z : ⊥ = omega arith in absurd z;
              };
          near = near;
          unmarked = r.unmarked;
          seven = r.long;
        }

pub hops : {s : List ℕ} {from v strings : ℕ} {r : Option ℕ} → hop_notes s from v strings ≡ r → Hops v strings s from r
hops {s} {from} {v} {strings} e = record { to = λ next q. hopped s from v strings next (e ∙ q); not = λ q. e ∙ q }

pub hops_not : {s : List ℕ} {from v strings : ℕ} → length s < from + 35 → Hops v strings s from None
unfolding hop_notes
hops_not {s} {from} h = hops (rw (lt-leb (from + 35) (length s) h))

-- ---- how many strings a set has
abbrev counts : ℕ → Bool
counts m = eqb (ones (m % 128)) (string_count m)

pub strings_counted : (m : ℕ) → m < 256 → ones (m % 128) ≡ string_count m
unfolding ones string_count count_from has string_bit
strings_counted m h = eqb-true _ _ (all_at 256 counts refl m h)

-- ---- what the loop keeps
pub record Hopping (s : List ℕ) (from v strings at done : ℕ) : Type 0 where
  pub room : from + 35 ≤ length s
  pub near : at ≤ from + 5 * done
  pub few : ones (strings % 128) ≤ 7
  pub told : hop_notes s from v strings ≡ hop_times s v (ones (strings % 128) - done) (Some at)

pub hopping_starts : (s : List ℕ) (from v strings : ℕ) → from + 35 ≤ length s → strings < 256 → Hopping s from v strings from 0
unfolding hop_notes
hopping_starts s from v strings h l =
    let all : ones (strings % 128) - 0 ≡ string_count strings = omega (arith, strings_counted strings l) in
    record {
      room = h;
      near = omega arith;
      few = omega (arith, strings_counted strings l, seven_most strings);
      told = rw (le-leb (from + 35) (length s) h, all) refl;
    }

module _ {s : List ℕ} {from v strings at done : ℕ} (g : Hopping s from v strings at done) where
  pub hopping_ends : ones (strings % 128) ≤ done → Hops v strings s from (Some at)
  unfolding hop_times
  hopping_ends e =
      let none : ones (strings % 128) - done ≡ 0 = omega arith in
      hops (g.told ∙ rw none)

  module _ (p : done < ones (strings % 128)) where
    pub hopping_within : at + 5 ≤ length s
    hopping_within = omega (arith, g.near, g.room, g.few)

    one_less : hop_notes s from v strings ≡ hop_times s v (ones (strings % 128) - (done + 1)) (hop_note s v (Some at))
    unfolding hop_times
    one_less =
        let less : ones (strings % 128) - done ≡ suc (ones (strings % 128) - (done + 1)) = omega arith in
        g.told ∙ rw less

    pub hopping_not : None ≡ hop_note s v (Some at) → Hops v strings s from None
    hopping_not e = hops (one_less ∙ rw (sym e) (never_to s v (ones (strings % 128) - (done + 1))))

    pub hopping_on : {next : ℕ} → Some next ≡ hop_note s v (Some at) → Hopping s from v strings next (done + 1)
    hopping_on {next} e =
        record { room = g.room; near = omega (arith, g.near, step_near s v at next (sym e)); few = g.few; told = one_less ∙ rw (sym e) }
