-- What each function that reads a part of a note returns, over variables: the facts of its calls are the premises.
use Rattle.std.specs.Prelude.{None, Some}
use Prim.Native.Nat.{ℕ, ◌+◌, ◌≤◌, ◌<◌, ◌%◌}
use native.Mathlib.Omega.{arith}
use mathlib.Core.Path.{◌≡◌, refl}
use mathlib.Core.List.{List, []}
use mathlib.Core.Bool.{Bool, true, false, ◌&&◌}
use lib.ListN.{get_or}
use lib.Bits.{bit_and}
use lib.Dec.{leb, ltb}
use Rattle.format.specs.declared.Stop.{Stop}
use Rattle.format.specs.Place.{Place, ReadsAs}
use Rattle.std.specs.Prelude.{Ok, Err}
use Rattle.format.specs.Prog.{Prog, ret, bind, has}
use Rattle.format.specs.Fields.{u8, skip}
use Rattle.format.specs.Padded.{Padded, Arrives, place_at}
use Rattle.format.proofs.Rules.{then, done, took, broke, place_stop}
use Rattle.format.proofs.Padded as pad
use Rattle.curve.specs.Held.{held, byte_end}
use Rattle.curve.specs.Slide.{slide_of}
use Rattle.note.specs.declared.bend.Bend.{Bend}
use Rattle.note.specs.Optional.{optional, Passed, more_flags}
use Rattle.note.specs.Points.{bend, bend_in, points_at}
use Rattle.note.specs.Marks.{note_bend, grace, grace_note, grace_flags, tremolo, slide, slide_flag, harmonic, harmonic_end, no_harmonic, trill, marks, marks_of, no_marks, no_note_effects, note_effects}
use Rattle.note.specs.Note.{hands, no_hands, accidental, percent, fretted_byte, own_duration, dynamic, note_end, note_by, note}
use Rattle.note.specs.Words.{byte_in, dynamic_in, hands_in, grace_in, tremolo_in, slide_in, harmonic_in, marks_by, marks_in, bend_by, bend_at, effects_at, note_bytes, note_in, Kept, Put, Stored, Fills, FillsTo, EndTo}
use Rattle.note.proofs.Stores.{kept_all, kept_on, byte_kept, has_set, has_clear}

module _ {s w w₁ : List ℕ} {at k : ℕ} {given : Bool} where
  pub put_given : {b : ℕ} → given ≡ true → b ≡ get_or s at 0 → Stored k b w w₁ → Fills (optional given u8 0) 1 s at k w w₁ (byte_in w₁ k) (at + 1)
  unfolding optional
  put_given e h st = record { reads = rw (e, st.is) (pad.pad_byte h); below = st.below; near = omega arith }

  pub put_none : given ≡ false → Stored k 0 w w₁ → Fills (optional given u8 0) 1 s at k w w₁ (byte_in w₁ k) at
  unfolding optional
  put_none e st = record { reads = rw (e, st.is) pad.here; below = st.below; near = omega arith }

pad_skip_to : {s : List ℕ} {at next : ℕ} (n : ℕ) → at + n ≡ next → Padded (skip n) s at tt next
pad_skip_to n e = rw (← e) (pad.pad_skip n)

pub pad_byte_to : {s : List ℕ} {at next b : ℕ} → b ≡ get_or s at 0 → at + 1 ≡ next → Padded u8 s at b next
pad_byte_to h e = rw (← e) (pad.pad_byte h)

-- ---- dynamic
module _ {s w w₁ : List ℕ} {at b : ℕ} (flags o : ℕ) where
  pub dynamic_none : bit_and flags 0x10 ≡ 0 → Stored (o + 2) b w w₁ → Fills (dynamic flags) 1 s at (o + 2) w w₁ (dynamic_in flags w₁ o) at
  unfolding dynamic dynamic_in
  dynamic_none h st =
      record { reads = rw (has_clear flags 0x10 h) (pad.pad_clear _ _ _ _ h pad.here); below = st.below; near = omega arith }

  pub dynamic_some : (bit_and flags 0x10 ≡ 0 → ⊥) → b ≡ get_or s at 0 → Stored (o + 2) b w w₁ → Fills (dynamic flags) 1 s at (o + 2) w w₁ (dynamic_in flags w₁ o) (at + 1)
  unfolding dynamic dynamic_in
  dynamic_some h e st =
      record {
        reads = rw (has_set flags 0x10 h, st.is) (pad.pad_set _ _ _ _ h (pad.on _ (pad.pad_byte e) pad.here));
        below = st.below;
        near = omega arith;
      }

-- ---- hands
pub hands_none : {s w : List ℕ} {at k : ℕ} (flags o : ℕ) → bit_and flags 0x80 ≡ 0 → Fills (hands flags) 2 s at k w w (hands_in flags w o) at
unfolding hands no_hands hands_in
hands_none flags o h =
    record { reads = rw (has_clear flags 0x80 h) (pad.pad_clear _ _ _ _ h pad.here); below = kept_all; near = omega arith }

pub hands_both : {s w w₁ w₂ : List ℕ} {at a b : ℕ} (flags o : ℕ) → (bit_and flags 0x80 ≡ 0 → ⊥) → a ≡ get_or s at 0 → Stored (o + 4) a w w₁ → b ≡ get_or s (at + 1) 0 → Stored (o + 5) b w₁ w₂ → Fills (hands flags) 2 s at (o + 4) w w₂ (hands_in flags w₂ o) (at + 2)
unfolding hands hands_in
hands_both flags o h ea sa eb sb =
    record {
      reads =
          rw (has_set flags 0x80 h, byte_kept (o + 4) (omega arith) sb.below, sa.is, sb.is)
          (pad.pad_set _ _ _ _ h (pad.on _ (pad.pad_byte ea) (pad.on _ (pad_byte_to eb (omega arith)) pad.here)));
      below = kept_on (omega arith) (omega arith) sa.below sb.below;
      near = omega arith;
    }

hands_kept : {n : ℕ} {a b : List ℕ} (flags o : ℕ) → o + 6 ≤ n → Kept n a b → hands_in flags b o ≡ hands_in flags a o
unfolding hands_in
hands_kept flags o h x = rw (byte_kept (o + 4) (omega arith) x, byte_kept (o + 5) (omega arith) x)

-- ---- the byte that may turn the accidental
pub accidental_read : {s w w₁ : List ℕ} {at a₁ a₂ : ℕ} (v flags o : ℕ) → Passed (leb 500 v && has flags 0x01) 8 at a₁ → Fills (optional (leb 500 v) u8 0) 1 s a₁ (o + 6) w w₁ (byte_in w₁ (o + 6)) a₂ → Fills (accidental v flags) 9 s at (o + 6) w w₁ (byte_in w₁ (o + 6)) a₂
unfolding accidental percent
accidental_read {s} v flags o p f =
    record {
      reads = pad.on _ (p.passes s) f.reads;
      below = f.below;
      near = let x = p.near in let y = f.near in omega arith;
    }

-- ---- effects
pub grace_none : {s w : List ℕ} {at k : ℕ} (v first o : ℕ) → bit_and first 0x10 ≡ 0 → Fills (grace v first) 5 s at k w w (grace_in first w o) at
unfolding grace grace_in
grace_none v first o h =
    record { reads = rw (has_clear first 0x10 h) (pad.pad_clear _ _ _ _ h pad.here); below = kept_all; near = omega arith }

pub grace_some : {s w w₁ w₂ w₃ : List ℕ} {at a b next : ℕ} (v first o : ℕ) → (bit_and first 0x10 ≡ 0 → ⊥) → a ≡ get_or s at 0 → Stored (o + 11) a w w₁ → b ≡ get_or s (at + 2) 0 → Stored (o + 12) b w₁ w₂ → Fills (optional (leb 500 v) u8 0) 1 s (at + 4) (o + 13) w₂ w₃ (byte_in w₃ (o + 13)) next → Fills (grace v first) 5 s at (o + 11) w w₃ (grace_in first w₃ o) next
unfolding grace grace_note grace_flags grace_in
grace_some {w₁ = w₁} {w₂} {w₃} v first o h ea sa eb sb f =
    let k : Kept (o + 12) w₁ w₃ = kept_on (omega arith) (omega arith) sb.below f.below in
    record {
      reads =
          rw (has_set first 0x10 h, byte_kept (o + 11) (omega arith) k, sa.is, byte_kept (o + 12) (omega arith) f.below, sb.is)
          (pad.pad_set _ _ _ _ h
          (pad.on _ (pad.pad_byte ea)
          (pad.on _ (pad_skip_to 1 (omega arith))
          (pad.on _ (pad.pad_byte eb)
          (pad.on _ (pad_skip_to 1 (omega arith))
          (pad.on _ f.reads pad.here))))));
      below = kept_on (omega arith) (omega arith) sa.below k;
      near = let x = f.near in omega arith;
    }

pub harmonic_none : {s w : List ℕ} {at k : ℕ} (v more o : ℕ) → bit_and more 0x10 ≡ 0 → Fills (harmonic v more) 4 s at k w w (harmonic_in more w o) at
unfolding harmonic no_harmonic harmonic_in
harmonic_none v more o h =
    record { reads = rw (has_clear more 0x10 h) (pad.pad_clear _ _ _ _ h pad.here); below = kept_all; near = omega arith }

pub harmonic_some : {s w w₁ : List ℕ} {at kind next : ℕ} (v more o : ℕ) → (bit_and more 0x10 ≡ 0 → ⊥) → kind ≡ get_or s at 0 → Stored (o + 16) kind w w₁ → ((t : List ℕ) → Padded (harmonic_end v kind) t (at + 1) tt next) × (next ≤ at + 1 + 3) → Fills (harmonic v more) 4 s at (o + 16) w w₁ (harmonic_in more w₁ o) next
unfolding harmonic harmonic_in
harmonic_some {s = s} v more o h e st p =
    record {
      reads = rw (has_set more 0x10 h, st.is) (pad.pad_set _ _ _ _ h (pad.on _ (pad.pad_byte e) (pad.on _ (p.0 s) pad.here)));
      below = st.below;
      near = let x = p.1 in omega arith;
    }

grace_kept : {n : ℕ} {a b : List ℕ} (first o : ℕ) → o + 14 ≤ n → Kept n a b → grace_in first b o ≡ grace_in first a o
unfolding grace_in
grace_kept first o h x = rw (byte_kept (o + 11) (omega arith) x, byte_kept (o + 12) (omega arith) x, byte_kept (o + 13) (omega arith) x)

tremolo_kept : {n : ℕ} {a b : List ℕ} (more o : ℕ) → o + 15 ≤ n → Kept n a b → tremolo_in more b o ≡ tremolo_in more a o
unfolding tremolo_in
tremolo_kept more o h x = rw (byte_kept (o + 14) (omega arith) x)

slide_kept : {n : ℕ} {a b : List ℕ} (v first more o : ℕ) → o + 16 ≤ n → Kept n a b → slide_in v first more b o ≡ slide_in v first more a o
unfolding slide_in
slide_kept v first more o h x = rw (byte_kept (o + 15) (omega arith) x)

tremolo_read : {s : List ℕ} {at next : ℕ} (w : List ℕ) (more o : ℕ) → Padded (optional (has more 0x04) u8 0) s at (byte_in w (o + 14)) next → Padded (tremolo more) s at (tremolo_in more w o) next
unfolding optional tremolo tremolo_in
tremolo_read w more o h = pad.pad_made more 0x04 (λ b. Some (held byte_end 1 3 b)) None h

slide_read : {s : List ℕ} {at next : ℕ} (w : List ℕ) (v first more o : ℕ) → Padded (optional (has more 0x08) u8 0) s at (byte_in w (o + 15)) next → Padded (slide v first more) s at (slide_in v first more w o) next
unfolding optional slide slide_in
slide_read w v first more o h = pad.pad_made more 0x08 (λ b. slide_of v b) (slide_flag v first) h

pub marks_read : {s w w₁ w₂ w₃ w₄ : List ℕ} {at a₁ a₂ a₃ a₄ a₅ : ℕ} (v first more o : ℕ) → Fills (grace v first) 5 s at (o + 11) w w₁ (grace_in first w₁ o) a₁ → Fills (optional (has more 0x04) u8 0) 1 s a₁ (o + 14) w₁ w₂ (byte_in w₂ (o + 14)) a₂ → Fills (optional (has more 0x08) u8 0) 1 s a₂ (o + 15) w₂ w₃ (byte_in w₃ (o + 15)) a₃ → Fills (harmonic v more) 4 s a₃ (o + 16) w₃ w₄ (harmonic_in more w₄ o) a₄ → Passed (has more 0x20) 2 a₄ a₅ → Fills (marks v first more) 13 s at (o + 11) w w₄ (marks_by v first more w₄ o) a₅
unfolding marks trill marks_by
marks_read {s} {w} {w₁} {w₂} {w₃} {w₄} v first more o g t l h p =
    let k₂ : Kept (o + 15) w₂ w₄ = kept_on (omega arith) (omega arith) l.below h.below in
    let k₁ : Kept (o + 14) w₁ w₄ = kept_on (omega arith) (omega arith) t.below k₂ in
    record {
      reads =
          rw (grace_kept first o (omega arith) k₁, tremolo_kept more o (omega arith) k₂, slide_kept v first more o (omega arith) h.below)
          (pad.on _ g.reads
          (pad.on _ (tremolo_read w₂ more o t.reads)
          (pad.on _ (slide_read w₃ v first more o l.reads)
          (pad.on _ h.reads
          (pad.on _ (p.passes s) pad.here)))));
      below = kept_on (omega arith) (omega arith) g.below k₁;
      near = let x = g.near in let y = t.near in let z = l.near in let u = h.near in let q = p.near in omega arith;
    }

-- ---- bend
pub bend_none : {s w : List ℕ} {at k : ℕ} {to : Place} (first o : ℕ) → bit_and first 0x01 ≡ 0 → to ≡ place_at s at → FillsTo (note_bend first) s at k w w (bend_in s (bend_by first w o)) to
unfolding note_bend bend_by points_at
bend_none first o h e = record { reads = rw (has_clear first 0x01 h) (pad.arrive_clear _ _ _ _ h (pad.arrived e)); below = kept_all }

bend_stored : {w w₁ w₂ : List ℕ} (b : Bend) (first o : ℕ) → has first 0x01 ≡ true → b.count < 4294967296 → Put (o + 9) b.start w w₁ → Put (o + 10) b.count w₁ w₂ → bend_by first w₂ o ≡ b
unfolding bend_by
bend_stored b first o h l p q =
    let e : b.count % 4294967296 ≡ b.count = omega arith in
    rw (h, q.below.same (o + 9) (omega arith), p.is, q.is, e)

pub bend_some : {s w w₁ w₂ : List ℕ} {at n : ℕ} {from : Place} (b : Bend) (first o : ℕ) → b.count < 4294967296 → (bit_and first 0x01 ≡ 0 → ⊥) → from ≡ place_at s at → ReadsAs (bend_in s) bend s from (Ok (b, n)) → Put (o + 9) b.start w w₁ → Put (o + 10) b.count w₁ w₂ → FillsTo (note_bend first) s at (o + 9) w w₂ (bend_in s (bend_by first w₂ o)) (Ok n)
unfolding note_bend
bend_some b first o l h e g p q =
    record {
      reads = rw (bend_stored b first o (has_set first 0x01 h) l p q) (pad.arrive_set _ _ _ _ h (pad.from_place e (took g refl)));
      below = kept_on (omega arith) (omega arith) p.below q.below;
    }

pub bend_stop : {s w : List ℕ} {at : ℕ} {from to : Place} {x : Stop} (first o : ℕ) → (bit_and first 0x01 ≡ 0 → ⊥) → from ≡ place_at s at → ReadsAs (bend_in s) bend s from (Err x) → to ≡ Err x → FillsTo (note_bend first) s at (o + 9) w w (bend_in s (bend_by first w o)) to
unfolding note_bend
bend_stop first o h e g z = record { reads = rw z (pad.arrive_set _ _ _ _ h (pad.from_place e (place_stop (broke g refl)))); below = kept_all }

bend_kept : {n : ℕ} {a b : List ℕ} (first o : ℕ) → o + 11 ≤ n → Kept n a b → bend_by first b o ≡ bend_by first a o
unfolding bend_by
bend_kept first o h x = rw (x.same (o + 9) (omega arith), x.same (o + 10) (omega arith))

-- ---- all effects
pub and_false : (b : Bool) → (b && false) ≡ false
and_false true = refl
and_false false = refl

pub no_marks_lem : (v : ℕ) (w : List ℕ) (o : ℕ) → marks_by v 0 0 w o ≡ no_marks
unfolding marks_by marks_of grace_in tremolo_in slide_in slide_flag harmonic_in no_marks has
no_marks_lem v w o = rw (and_false (ltb v 400))

pub no_bend : (s w : List ℕ) (o : ℕ) → bend_in s (bend_by 0 w o) ≡ []
unfolding bend_by has points_at
no_bend s w o = refl

pub effects_none : {s w w₁ w₂ : List ℕ} {at : ℕ} {to : Place} (v flags o : ℕ) → bit_and flags 0x08 ≡ 0 → Stored (o + 7) 0 w w₁ → Stored (o + 8) 0 w₁ w₂ → to ≡ place_at s at → FillsTo (note_effects v flags) s at (o + 7) w w₂ (effects_at s v w₂ o) to
unfolding note_effects no_note_effects marks_in bend_at
effects_none {s} {w} {w₁} {w₂} v flags o h a b e =
    record {
      reads = rw (byte_kept (o + 7) (omega arith) b.below, a.is, b.is, no_marks_lem v w₂ o, no_bend s w₂ o) (pad.arrive_clear _ _ _ _ h (pad.arrived e));
      below = kept_on (omega arith) (omega arith) a.below b.below;
    }

below_bend : {w w₁ w₂ w₃ : List ℕ} (o : ℕ) → Kept (o + 7) w w₁ → Kept (o + 8) w₁ w₂ → Kept (o + 9) w₂ w₃ → Kept (o + 7) w w₃
below_bend o a b c = kept_on (omega arith) (omega arith) a (kept_on {n = o + 7} (omega arith) (omega arith) b c)

module _ {s w w₁ w₂ w₃ : List ℕ} {at first more a₁ : ℕ} {mid : Place} (v flags o : ℕ) (h : bit_and flags 0x08 ≡ 0 → ⊥) (e : first ≡ get_or s at 0) (a : Stored (o + 7) first w w₁) (f : Fills (optional (leb 400 v) u8 0) 1 s (at + 1) (o + 8) w₁ w₂ (byte_in w₂ (o + 8)) a₁) (m : more ≡ byte_in w₂ (o + 8)) (b : FillsTo (note_bend first) s a₁ (o + 9) w₂ w₃ (bend_in s (bend_by first w₃ o)) mid) where
  pub effects_stop : {x : Stop} → mid ≡ Err x → FillsTo (note_effects v flags) s at (o + 7) w w₃ (effects_at s v w₃ o) mid
  unfolding note_effects more_flags
  effects_stop z =
      record {
        reads = pad.arrive_set _ _ _ _ h (pad.and_on _ (pad.pad_byte e) (pad.and_on _ f.reads (pad.and_stop _ z b.reads)));
        below = below_bend o a.below f.below b.below;
      }

  pub effects_on : {w₄ : List ℕ} {past a₂ : ℕ} {to : Place} → mid ≡ Ok past → Fills (marks v first more) 13 s past (o + 11) w₃ w₄ (marks_by v first more w₄ o) a₂ → to ≡ place_at s a₂ → FillsTo (note_effects v flags) s at (o + 7) w w₄ (effects_at s v w₄ o) to
  unfolding note_effects more_flags marks_in bend_at
  effects_on {w₄} z g t =
      let k₂ : Kept (o + 9) w₂ w₄ = kept_on (omega arith) (omega arith) b.below g.below in
      let k₁ : Kept (o + 8) w₁ w₄ = kept_on (omega arith) (omega arith) f.below k₂ in
      record {
        reads =
            rw (byte_kept (o + 7) (omega arith) k₁, a.is, byte_kept (o + 8) (omega arith) k₂, bend_kept first o (omega arith) g.below)
            (pad.arrive_set _ _ _ _ h
            (pad.and_on _ (pad.pad_byte e)
            (pad.and_on _ f.reads
            (pad.and_then _ z b.reads
            (pad.and_on _ (rw m at g.reads) (pad.arrived t))))));
        below = kept_on (omega arith) (omega arith) (below_bend o a.below f.below b.below) g.below;
      }

-- ---- a note
and_made : {A B : Type 0} {p : Prog A} {s : List ℕ} {at : ℕ} {to : Place} {a : A} (g : A → B) → Arrives p s at a to → Arrives (bind p (λ x. ret (g x))) s at (g a) to
and_made g h = record { within = λ l. then _ (h.within l) done; beyond = λ l. h.beyond l }

pub end_read : {s w w₁ w₂ w₃ : List ℕ} {at a₁ a₂ : ℕ} {to : Place} (v flags o : ℕ) → Fills (hands flags) 2 s at (o + 4) w w₁ (hands_in flags w₁ o) a₁ → Fills (accidental v flags) 9 s a₁ (o + 6) w₁ w₂ (byte_in w₂ (o + 6)) a₂ → FillsTo (note_effects v flags) s a₂ (o + 7) w₂ w₃ (effects_at s v w₃ o) to → EndTo v flags s at o w w₃ to
unfolding note_end
end_read {w₁ = w₁} {w₂} {w₃} v flags o h a e =
    let k₁ : Kept (o + 6) w₁ w₃ = kept_on (omega arith) (omega arith) a.below e.below in
    record {
      reads = λ kind stored fret.
          rw (hands_kept flags o (omega arith) k₁, byte_kept (o + 6) (omega arith) e.below)
          (pad.and_on _ h.reads (pad.and_on _ a.reads (and_made _ e.reads)));
      below = kept_on (omega arith) (omega arith) h.below k₁;
    }

pub dynamic_kept : {n : ℕ} {a b : List ℕ} (flags o : ℕ) → o + 3 ≤ n → Kept n a b → dynamic_in flags b o ≡ dynamic_in flags a o
unfolding dynamic_in
dynamic_kept flags o h x = rw (byte_kept (o + 2) (omega arith) x)

pub dynamic_read : {s : List ℕ} {at next : ℕ} (w : List ℕ) (flags o : ℕ) → Padded (optional (has flags 0x10) u8 0) s at (byte_in w (o + 2)) next → Padded (dynamic flags) s at (dynamic_in flags w o) next
unfolding optional dynamic dynamic_in
dynamic_read w flags o h = pad.pad_made flags 0x10 (λ b. Some b) None h

pub by_read : {s w w₁ w₂ w₃ w₄ : List ℕ} {at a₁ a₂ a₃ a₄ : ℕ} {to : Place} (v flags o : ℕ) → Fills (optional (has flags 0x20) u8 0) 1 s at (o + 1) w w₁ (byte_in w₁ (o + 1)) a₁ → Passed (ltb v 500 && has flags 0x01) 2 a₁ a₂ → Fills (dynamic flags) 1 s a₂ (o + 2) w₁ w₂ (dynamic_in flags w₂ o) a₃ → Fills (optional (has flags 0x20) u8 0) 1 s a₃ (o + 3) w₂ w₃ (byte_in w₃ (o + 3)) a₄ → EndTo v flags s a₄ o w₃ w₄ to → FillsTo (note_by v flags) s at (o + 1) w w₄ (note_bytes s v flags w₄ o) to
unfolding note_by fretted_byte own_duration
by_read {s} {w} {w₁} {w₂} {w₃} {w₄} v flags o k p d f e =
    let k₂ : Kept (o + 3) w₂ w₄ = kept_on (omega arith) (omega arith) f.below e.below in
    let k₁ : Kept (o + 2) w₁ w₄ = kept_on (omega arith) (omega arith) d.below k₂ in
    record {
      reads =
          rw (byte_kept (o + 1) (omega arith) k₁, dynamic_kept flags o (omega arith) k₂, byte_kept (o + 3) (omega arith) e.below)
          (pad.and_on _ k.reads
          (pad.and_on _ (p.passes s)
          (pad.and_on _ d.reads
          (pad.and_on _ f.reads (e.reads _ _ _)))));
      below = kept_on (omega arith) (omega arith) k.below k₁;
    }

pub note_read : {s w w₁ w₂ : List ℕ} {at flags : ℕ} {to : Place} (v o : ℕ) → flags ≡ get_or s at 0 → Stored (o + 0) flags w w₁ → FillsTo (note_by v flags) s (at + 1) (o + 1) w₁ w₂ (note_bytes s v flags w₂ o) to → FillsTo (note v) s at o w w₂ (note_in s v w₂ o) to
unfolding note
note_read v o e a b =
    record {
      reads = rw (byte_kept (o + 0) (omega arith) b.below, a.is) (pad.and_on _ (pad.pad_byte e) b.reads);
      below = kept_on (omega arith) (omega arith) a.below b.below;
    }

-- ---- a note is what it was, where its words are kept
harmonic_kept : {n : ℕ} {a b : List ℕ} (more o : ℕ) → o + 17 ≤ n → Kept n a b → harmonic_in more b o ≡ harmonic_in more a o
unfolding harmonic_in
harmonic_kept more o h x = rw (byte_kept (o + 16) (omega arith) x)

marks_kept : {n : ℕ} {a b : List ℕ} (v o : ℕ) → o + 17 ≤ n → Kept n a b → marks_in v b o ≡ marks_in v a o
unfolding marks_in marks_by
marks_kept {a = a} v o h x =
    rw (byte_kept (o + 7) (omega arith) x, byte_kept (o + 8) (omega arith) x)
    (rw (grace_kept (byte_in a (o + 7)) o (omega arith) x, tremolo_kept (byte_in a (o + 8)) o (omega arith) x, slide_kept v (byte_in a (o + 7)) (byte_in a (o + 8)) o (omega arith) x, harmonic_kept (byte_in a (o + 8)) o (omega arith) x))

bend_at_kept : {n : ℕ} {a b : List ℕ} (o : ℕ) → o + 17 ≤ n → Kept n a b → bend_at b o ≡ bend_at a o
unfolding bend_at
bend_at_kept {a = a} o h x = rw (byte_kept (o + 7) (omega arith) x) (bend_kept (byte_in a (o + 7)) o (omega arith) x)

pub note_kept : {n : ℕ} {a b : List ℕ} (s : List ℕ) (v o : ℕ) → o + 18 ≤ n → Kept n a b → note_in s v a o ≡ note_in s v b o
note_kept {a = a} s v o h x =
    rw (byte_kept (o + 0) (omega arith) x, byte_kept (o + 1) (omega arith) x, byte_kept (o + 3) (omega arith) x, byte_kept (o + 6) (omega arith) x)
    (rw (dynamic_kept (byte_in a (o + 0)) o (omega arith) x, hands_kept (byte_in a (o + 0)) o (omega arith) x, marks_kept v o (omega arith) x, bend_at_kept o (omega arith) x))
