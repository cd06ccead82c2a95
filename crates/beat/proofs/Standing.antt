-- The parts of a beat stand where it was read.
use Prim.Native.Nat.{ℕ, ◌≤◌, ◌<◌}
use mathlib.Core.Bool.{true}
use mathlib.Core.Path.{◌≡◌}
use mathlib.Core.List.{List}
use lib.Dec.{ltb}
use Rattle.format.specs.Text.{TextRead}
use Rattle.format.specs.Prog.{Prog, has}
use Rattle.format.specs.Count.{NEGATIVE}
use Rattle.format.specs.Fields.{u8, u32, fixed_string, int_byte_string, int_byte_string_unused}
use Rattle.format.specs.Passed.{Reads, Has}
use Rattle.format.proofs.Standing.{somewhere, reads_parts, reads_ret, reads_here, reads_le, reads_gt, reads_eq, reads_ne, reads_bits}
use Rattle.note.specs.Optional.{more_flags}
use Rattle.note.specs.Points.{whammy}
use Rattle.note.specs.Notes.{notes}
use Rattle.beat.specs.declared.effects.BeatEffects.{BeatEffects}
use Rattle.beat.specs.declared.mix.Mix.{Mix}
use Rattle.beat.specs.declared.mix.Signs.{Signs}
use Rattle.beat.specs.Head.{head_of, head}
use Rattle.beat.specs.Chord.{diagram, old_chord, early_chord, chord, chord_name, beat_text}
use Rattle.beat.specs.Effects.{tremolo_bar, effects_by, beat_effects}
use Rattle.beat.specs.Mix.{three_signs, tempo_name, duration, three_durations, tempo_end, mix_flags, wah, mix_strings}
use Rattle.beat.specs.Mix.{mix_end, mix_tempo, mix_table, mix}
use Rattle.beat.specs.Tail.{tail}
use Rattle.beat.specs.Beat.{BeatIs, beat_notes, beat_by, beat}

-- by the first byte's flags chord name, text, effects and mix table, then notes by a byte of strings, and the tail
pub record BeatHas {B : Type 0} (s : List ℕ) (q : Prog B) (from v at : ℕ) : Type 1 where
  pub flags : ℕ
  pub flagged : (m : ℕ) × Reads s q from u8 at flags m
  pub chord : Has s q from (chord_name v flags)
  pub text : Has s q from (beat_text flags)
  pub effects : Has s q from (beat_effects v flags)
  pub mix : Has s q from (mix v flags)
  pub strings : ℕ
  pub strung : (k : ℕ) × (m : ℕ) × Reads s q from u8 k strings m
  pub notes : Has s q from (notes v strings)
  pub tail : Has s q from (tail v)

-- three values of a mix table by their signs, and their durations
pub record ThreeHas {B : Type 0} (s : List ℕ) (q : Prog B) (from : ℕ) : Type 1 where
  pub signs : Signs
  pub signed : (k : ℕ) × (m : ℕ) × Reads s q from three_signs k signs m
  pub first : Has s q from (duration signs.a)
  pub second : Has s q from (duration signs.b)
  pub third : Has s q from (duration signs.c)

-- a mix table, which begins with the instrument; six values, the tempo with its name, trailing flags, wah and strings
pub record MixHas {B : Type 0} (s : List ℕ) (q : Prog B) (from v : ℕ) : Type 1 where
  pub table : Has s q from (mix_table v)
  pub name : Has s q from (tempo_name v)
  pub tempo : ℕ
  pub paced : (k : ℕ) × (m : ℕ) × Reads s q from u32 k tempo m
  pub values : ThreeHas s q from
  pub others : ThreeHas s q from
  pub end : Has s q from (tempo_end v tempo)
  pub lasting : Has s q from (duration (ltb tempo NEGATIVE))
  pub flags : Has s q from (mix_flags v)
  pub wah : Has s q from (wah v)
  pub strings : Has s q from (mix_strings v)

durations_has : {B : Type 0} {s : List ℕ} {q : Prog B} {from k m k' m' : ℕ} (x : Signs)
    → Reads s q from three_signs k x m → Reads s q from (three_durations x) k' tt m' → ThreeHas s q from
unfolding three_durations
durations_has x given w = reads_parts _ _ w (λ _ _ a w. reads_parts _ _ w (λ _ _ b c. record {
  signs = x;
  signed = (_, _, given);
  first = somewhere a;
  second = somewhere b;
  third = somewhere c;
}))

module _ {B : Type 0} {s : List ℕ} {q : Prog B} {from at n : ℕ} where
  pub beat_has : (v : ℕ) {x : BeatIs} → Reads s q from (beat v) at x n → BeatHas s q from v at
  unfolding beat beat_by beat_notes head head_of
  beat_has v w = reads_parts _ _ w (λ _ _ p w. let k = (reads_here p).1 in reads_parts _ _ (rw (← k) at w) (λ h _ w' w. reads_parts _ _ w' (λ f fm a w'. reads_parts _ _ w' (λ _ _ _ w'.
      reads_parts _ _ w' (λ _ _ _ w'. reads_parts _ _ w' (λ _ _ _ w'.
      let z = reads_ret _ w' in
      let e : f ≡ h.flags = λ i. (z i).flags in
      reads_parts _ _ w (λ _ _ b w. reads_parts _ _ w (λ _ _ t w. reads_parts _ _ w (λ _ _ c w.
      reads_parts _ _ w (λ _ _ d w. reads_parts _ _ w (λ strings _ k w. reads_parts _ _ w (λ _ _ l w.
      reads_parts _ _ w (λ _ _ o _. record {
        flags = h.flags;
        flagged = (fm, rw e at a);
        chord = somewhere b;
        text = somewhere t;
        effects = somewhere c;
        mix = somewhere d;
        strings = strings;
        strung = (_, _, k);
        notes = somewhere l;
        tail = somewhere o;
      })))))))))))))

  -- a whammy, by flag 0x04 of the second byte of effects
  pub effects_has : (v flags : ℕ) {x : BeatEffects} → Reads s q from (beat_effects v flags) at x n → has flags 0x08 ≡ true
      → (more : ℕ) × (k : ℕ) × (m : ℕ) × Reads s q from (more_flags v) k more m × (has more 0x04 ≡ true → Has s q from whammy)
  unfolding beat_effects effects_by tremolo_bar
  effects_has v flags w e = reads_parts _ _ (reads_bits flags 0x08 _ _ e w) (λ _ _ _ w. reads_parts _ _ w (λ more _ a w.
      reads_parts _ _ w (λ _ _ _ w. reads_parts _ _ w (λ _ _ b _.
      (more, _, _, a, λ h. somewhere (reads_bits more 0x04 _ _ h b))))))

  pub mix_has : (v flags : ℕ) {x : Mix} → Reads s q from (mix v flags) at x n → has flags 0x10 ≡ true → MixHas s q from v
  unfolding mix mix_table mix_tempo mix_end tempo_end
  mix_has v flags all e = reads_parts _ _ (reads_bits flags 0x10 _ _ e all) (λ _ _ _ w. reads_parts _ _ w (λ _ _ _ w.
      reads_parts _ _ w (λ x _ a w. reads_parts _ _ w (λ y _ b w. reads_parts _ _ w (λ _ _ c w.
      reads_parts _ _ w (λ tempo _ d w. reads_parts _ _ w (λ _ _ f w. reads_parts _ _ w (λ _ _ g w.
      reads_parts _ _ w (λ _ _ h w. reads_parts _ _ w (λ _ _ k w. reads_parts _ _ w (λ _ _ l w.
      reads_parts _ _ w (λ _ _ o _. record {
        table = somewhere (reads_bits flags 0x10 _ _ e all);
        name = somewhere c;
        tempo = tempo;
        paced = (_, _, d);
        values = durations_has x a f;
        others = durations_has y b g;
        end = somewhere h;
        lasting = reads_parts _ _ h (λ _ _ i _. somewhere i);
        flags = somewhere k;
        wah = somewhere l;
        strings = somewhere o;
      }))))))))))))

-- the beat's text, by flag 0x04
pub text_has : {B : Type 0} {s : List ℕ} {q : Prog B} {from at n : ℕ} (flags : ℕ) {t : TextRead} → Reads s q from (beat_text flags) at t n
    → has flags 0x04 ≡ true → Has s q from int_byte_string_unused
unfolding beat_text
text_has flags w e = somewhere (reads_bits flags 0x04 _ _ e w)

-- the chord's name, by flag 0x02: in a diagram from v500; before, by a byte that says which form it is
module _ {B : Type 0} {s : List ℕ} {q : Prog B} {from at n : ℕ} where
  diagram_has : (lead width rest : ℕ) {t : TextRead} → Reads s q from (diagram lead width rest) at t n
      → Has s q from (fixed_string width)
  unfolding diagram
  diagram_has lead width rest w = reads_parts _ _ w (λ _ _ _ w. reads_parts _ _ w (λ _ _ a _. somewhere a))

  old_chord_has : (v : ℕ) {t : TextRead} → Reads s q from (old_chord v) at t n → Has s q from int_byte_string
  unfolding old_chord
  old_chord_has v w = reads_parts _ _ w (λ _ _ a _. somewhere a)

module _ {B : Type 0} {s : List ℕ} {q : Prog B} {from at n : ℕ} (v flags : ℕ) {t : TextRead} where
  pub chord_has : Reads s q from (chord_name v flags) at t n → has flags 0x02 ≡ true → 500 ≤ v
      → Has s q from (fixed_string 21)
  unfolding chord_name chord
  chord_has w e l = diagram_has 17 21 68 (reads_le _ _ l (reads_bits flags 0x02 _ _ e w))

  pub early_chord_has : Reads s q from (chord_name v flags) at t n → has flags 0x02 ≡ true → v < 500
      → (form : ℕ) × (m : ℕ) × Reads s q from u8 at form m × (form ≡ 0 → Has s q from int_byte_string)
      × ((form ≡ 0 → ⊥) → 400 ≤ v → Has s q from (fixed_string 21))
      × ((form ≡ 0 → ⊥) → v < 400 → Has s q from (fixed_string 34))
  unfolding chord_name chord early_chord
  early_chord_has w e l = reads_parts _ _ (reads_gt _ _ l (reads_bits flags 0x02 _ _ e w)) (λ form m a w. (
    form,
    m,
    a,
    λ h. old_chord_has v (reads_eq _ _ h w),
    λ h k. diagram_has 16 21 68 (reads_le _ _ k (reads_ne form 0 _ _ h w)),
    λ h k. diagram_has 25 34 64 (reads_gt _ _ k (reads_ne form 0 _ _ h w)),
  ))
