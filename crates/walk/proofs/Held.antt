-- Beats entered while what is remembered of their track is lent.
use Rattle.std.specs.Prelude.{None, Some}
use Prim.Native.Nat.{ℕ, zero, suc, ◌+◌, ◌*◌, ◌-◌, ◌%◌, ◌<◌, ◌≤◌}
use native.Mathlib.Omega.{arith}
use native.Mathlib.Nat.{mod-eq_of_lt}
use mathlib.Core.Path.{◌≡◌, refl, sym, ap, ◌∙◌}
use mathlib.Core.List.{List, [], ◌∷◌}
use lib.ListN.{length, get_or, set, drop, length-set}
use lib.Seq.{sets, length-sets, set-set, set_comm, get_or-set_same, get_or-set_other, get_or-drop}
use Rattle.format.specs.declared.Stop.{Stop}
use Rattle.std.specs.Prelude.{Err}
use Rattle.format.specs.Prog.{Prog, turns}
use Rattle.format.specs.Place.{Place, Reaches, Leads}
use Rattle.format.proofs.Rules.{turn_on, turns_start, turns_still, turns_done}
use Rattle.model.specs.Kinds.{flag_of}
use Rattle.score.specs.declared.Fretboard.{Fretboard}
use Rattle.score.specs.declared.Tally.{Tally}
use Rattle.score.specs.declared.Voice.{Voice}
use Rattle.score.specs.Page.{Walk}
use Rattle.words.specs.Words.{Words, part_stride, running_place, voice_place, fret_of, hammer_of, voice_words, voice_from}
use Rattle.words.specs.declared.voice.VoiceWords.{VoiceWords}
use Rattle.words.specs.Voices.{voice_in}
use Rattle.words.specs.Meant.{walk_of}
use Rattle.refine.proofs.Parts.{LastFits, HammerFits, VoiceFits, voice_length}
use Rattle.refine.proofs.PartWords.{voice_back, voice_loads, board_loads}
use Rattle.refine.proofs.Counting.{sets_below}
use Rattle.refine.proofs.Shown.{pick_both}
use Rattle.enter.specs.Held.{Lent, put_back}

-- ---- a run of stores, and a store below it
sets_set : (ws l : List ℕ) (k a r : ℕ) → k < a → sets (set l k r) a ws ≡ set (sets l a ws) k r
sets_set [] l k a r h = refl
sets_set (w ∷ ws) l k a r h =
    ap (λ (x : List ℕ). sets x (suc a) ws) (set_comm l k a r w (λ e. let z : ⊥ = omega arith in z))
    ∙ sets_set ws (set l a w) k (suc a) r (omega arith)

sets_sets : (ws us l : List ℕ) (a : ℕ) → length ws ≡ length us → sets (sets l a ws) a us ≡ sets l a us
sets_sets [] [] l a h = refl
sets_sets [] (u ∷ us) l a h = absurd (omega arith)
sets_sets (w ∷ ws) [] l a h = absurd (omega arith)
sets_sets (w ∷ ws) (u ∷ us) l a h =
    ap (λ (x : List ℕ). sets x (suc a) us) (sym (sets_set ws (set l a w) a (suc a) u (omega arith)))
    ∙ ap (λ (x : List ℕ). sets (sets x (suc a) ws) (suc a) us) (set-set l a w u)
    ∙ sets_sets ws us (set l a u) (suc a) (omega arith)

inside : (ws l : List ℕ) (a k : ℕ) → k < length ws → a + length ws ≤ length l → get_or (sets l a ws) (a + k) 0 ≡ get_or ws k 0
inside [] l a k h g = absurd (omega arith)
inside (w ∷ ws) l a zero h g =
    let e : a + zero ≡ a = omega arith in
    rw e (sets_below (set l a w) (suc a) ws a (omega arith) ∙ get_or-set_same l a w 0 (omega arith))
inside (w ∷ ws) l a (suc k) h g =
    let e : a + suc k ≡ suc a + k = omega arith in
    rw e (inside ws (set l a w) (suc a) k (omega arith) (omega (arith, length-set l a w)))

-- ---- the words of a voice say a voice that fits its words
fret_fits : (x : ℕ) → LastFits (fret_of x)
unfolding fret_of
fret_fits zero = tt
fret_fits (suc f) = omega arith

said_fits : (w : VoiceWords) → VoiceFits (voice_in w)
unfolding voice_from hammer_of
said_fits w =
    record {
      strings = refl;
      frets = (fret_fits (get_or w.words 0 0), (fret_fits (get_or w.words 1 0), (fret_fits (get_or w.words 2 0), (fret_fits (get_or w.words 3 0), (fret_fits (get_or w.words 4 0), (fret_fits (get_or w.words 5 0), (fret_fits (get_or w.words 6 0), tt)))))));
      hammer = pick_both HammerFits (flag_of (get_or w.words 7 0)) (Some (record { row = get_or w.words 8 0; key = get_or w.words 9 0 % 256 })) None (omega arith) tt;
    }

said_length : (w : VoiceWords) → length (voice_words (voice_in w)) ≡ 15
said_length w = voice_length (voice_in w) (said_fits w)

-- a voice stands behind the running dynamic, in its part
place_within : (voice : ℕ) → (11 < voice_place voice) × (voice_place voice + 15 ≤ part_stride)
place_within zero = (omega arith, omega arith)
place_within (suc n) = (omega arith, omega arith)

-- ---- put back, they are lent again; and what was put back before plays no part
module _ (track voice : ℕ) where
  abbrev at : ℕ
  at = track * part_stride + voice_place voice

  abbrev running : ℕ
  running = track * part_stride + running_place

  put_again : (w u : VoiceWords) (r q : ℕ) (parts : List ℕ) → put_back track voice (voice_in u) q (put_back track voice (voice_in w) r parts) ≡ put_back track voice (voice_in u) q parts
  put_again w u r q parts =
      let ws = voice_words (voice_in w) in
      let us = voice_words (voice_in u) in
      ap (λ (x : List ℕ). set x running q)
      (sets_set us (sets parts at ws) running at r (omega (arith, (place_within voice).0))
      ∙ ap (λ (x : List ℕ). set x running r) (sets_sets ws us parts at (said_length w ∙ sym (said_length u))))
      ∙ set-set (sets parts at us) running r q

  lent_again : {board : Fretboard} {memory : Voice} {before : ℕ} {parts : List ℕ} (w : VoiceWords) (r : ℕ) → track * part_stride + part_stride ≤ length parts → r < 256 → Lent track voice board memory before parts → Lent track voice board (voice_in w) r (put_back track voice (voice_in w) r parts)
  lent_again {parts = parts} w r h g x =
      let ws = voice_words (voice_in w) in
      let put = sets parts at ws in
      let own = drop (track * part_stride) parts in
      let kept : (j : ℕ) → j < running → get_or (set put running r) j 0 ≡ get_or parts j 0
      = λ j l. get_or-set_other put running j r 0 (λ e. let z : ⊥ = omega arith in z) ∙ sets_below parts at ws j (omega (arith, (place_within voice).0)) in
      record {
        on =
            x.on
            ∙ board_loads parts own (track * part_stride) (λ j l. sym (get_or-drop (track * part_stride) parts j 0))
            ∙ sym (board_loads (set put running r) own (track * part_stride) (λ j l. kept (track * part_stride + j) (omega arith) ∙ sym (get_or-drop (track * part_stride) parts j 0)));
        remembers =
            sym
            (voice_loads (set put running r) ws at
            (λ j l.
            get_or-set_other put running (at + j) r 0 (λ e. let z : ⊥ = omega (arith, (place_within voice).0) in z)
            ∙ inside ws parts at j (omega (arith, said_length w)) (omega (arith, said_length w, (place_within voice).1)))
            ∙ voice_back (voice_in w) (said_fits w));
        runs = sym (rw (get_or-set_same put running r 0 (omega (arith, length-sets parts at ws, (place_within voice).0, (place_within voice).1))) (mod-eq_of_lt g));
      }

-- ---- what a loop over beats keeps: of n beats i are entered
abbrev put_if : ℕ → (track voice : ℕ) → Voice → (running : ℕ) → List ℕ → List ℕ
put_if zero track voice memory running parts = parts
put_if (suc i) track voice memory running parts = put_back track voice memory running parts

put_next : (i track voice : ℕ) (w u : VoiceWords) (r q : ℕ) (parts : List ℕ) → put_back track voice (voice_in u) q (put_if i track voice (voice_in w) r parts) ≡ put_back track voice (voice_in u) q parts
put_next zero track voice w u r q parts = refl
put_next (suc i) track voice w u r q parts = put_again track voice w u r q parts

put_length : (i track voice : ℕ) (memory : Voice) (r : ℕ) (parts : List ℕ) → length (put_if i track voice memory r parts) ≡ length parts
put_length zero track voice memory r parts = refl
put_length (suc i) track voice memory r parts = length-set (sets parts (at track voice) (voice_words memory)) (running track voice) r ∙ length-sets parts (at track voice) (voice_words memory)

module _ (n : ℕ) (f : ℕ → Walk Words → Prog (Walk Words)) (s : List ℕ) (track voice : ℕ) (board : Fretboard) (from : Place) (w₀ : VoiceWords) (r₀ : ℕ) (before : List ℕ → Walk Words) where
  pub record Holding (i : ℕ) (to : Place) (w : VoiceWords) (r : ℕ) (now : List ℕ → Walk Words) : Type 0 where
    pub holds : (parts : List ℕ) → track * part_stride + part_stride ≤ length parts → Lent track voice board (voice_in w₀) r₀ parts
        → Lent track voice board (voice_in w) r (put_if i track voice (voice_in w) r parts)
        × Leads (turns n 0 f (before parts)) s from (turns (n - i) i f (now (put_if i track voice (voice_in w) r parts))) to

  pub holding_starts : Holding 0 from w₀ r₀ before
  holding_starts = record { holds = λ parts h x. (x, turns_start _ _ _) }

  module _ {i : ℕ} {to : Place} {w : VoiceWords} {r : ℕ} {now : List ℕ → Walk Words} (g : Holding i to w r now) where
    pub holding_on : {next : Place} {u : VoiceWords} {q : ℕ} {then : List ℕ → Walk Words} → i < n → (r < 256 → q < 256)
        → ((parts : List ℕ) → Lent track voice board (voice_in w) r parts → Reaches (f i (now parts)) s to (then (put_back track voice (voice_in u) q parts)) next)
        → Holding (i + 1) next u q then
    holding_on {next} {u} {q} {then} h b k =
        let e : i + 1 ≡ suc i = omega arith in
        record {
          holds = λ parts l x.
              let y = g.holds parts l x in
              let same = put_next i track voice w u r q parts in
              let reaches : Reaches (f i (now (put_if i track voice (voice_in w) r parts))) s to (then (put_back track voice (voice_in u) q parts)) next
              = rw same at (k (put_if i track voice (voice_in w) r parts) y.0) in
              rw e (rw same at (lent_again track voice u q (omega (arith, l, put_length i track voice (voice_in w) r parts)) (b (omega (arith, y.0.runs))) y.0), rw e at (turn_on _ _ _ _ y.1 h reaches));
        }

    pub holding_stops : {next : Place} {x : Stop} {a : List ℕ → Walk Words} {b : Walk Words} → i < n
        → ((parts : List ℕ) → Lent track voice board (voice_in w) r parts → Reaches (f i (now parts)) s to (a parts) next) → next ≡ Err x
        → (parts : List ℕ) → track * part_stride + part_stride ≤ length parts → Lent track voice board (voice_in w₀) r₀ parts → Reaches (turns n 0 f (before parts)) s from b next
    holding_stops h k z parts l x = let y = g.holds parts l x in turns_still (turn_on _ _ _ _ y.1 h (k _ y.0)) z

    pub holding_ends : n ≤ i → (parts : List ℕ) → 0 < n → track * part_stride + part_stride ≤ length parts → Lent track voice board (voice_in w₀) r₀ parts → Reaches (turns n 0 f (before parts)) s from (now (put_back track voice (voice_in w) r parts)) to
    holding_ends h parts p l x =
        let e : i ≡ suc (i - 1) = omega arith in
        turns_done _ _ _ _ (rw e at (g.holds parts l x).1) (omega arith)

-- ---- the words of all tracks, once two stores have put it back
pub put_there : {p : Prog (Walk Words)} {s : List ℕ} {from to : Place} {bars rows members points texts parts₂ parts₃ : List ℕ} {u : Tally} (track voice : ℕ) (memory : Voice) (r : ℕ) (parts : List ℕ)
    → Reaches p s from (walk_of bars rows members points texts (put_back track voice memory r parts) u) to
    → parts₂ ≡ sets parts (track * part_stride + voice_place voice) (voice_words memory) → parts₃ ≡ set parts₂ (track * part_stride + running_place) r
    → Reaches p s from (walk_of bars rows members points texts parts₃ u) to
put_there track voice memory r parts h e g = rw (g, e) h
