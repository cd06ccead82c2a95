-- Where the words of a part stand, and what stands there.
use Prim.Native.Nat.{ℕ, zero, suc, ◌+◌, ◌-◌, min}
use mathlib.Core.Path.{◌≡◌, refl, sym, ◌∙◌}
use mathlib.Core.List.{List, [], ◌∷◌, ◌++◌}
use native.Mathlib.Omega.{arith}
use native.Mathlib.Decide.{dec_le}
use native.Mathlib.Nat.{add-zero, min-eq_left, min-eq_right}
use lib.ListN.{length, get_or, set, take, drop, replicate, length-append, length-drop, drop_of_length-le}
use lib.Seq.{sets, get_or-drop, get_or-take, take_all}
use Rattle.tables.proofs.Laws.{sets_append}
use Rattle.score.specs.Page.{no_voice, board_of, part_of}
use Rattle.curve.specs.Level.{forte}
use Rattle.track.specs.declared.TrackHeader.{TrackHeader}
use Rattle.model.specs.Kinds.{flag_of}
use Rattle.words.specs.Words.{voice_place, fret_of, hammer_of, run_of, voice_words, board_words, part_words, board_from, voice_from}

-- from a place that is cut at the end, the same words are left
pub left_from : (t : List ℕ) (m at : ℕ) → at ≡ min m (length t) → take (length t - at) (drop at t) ≡ drop m t
left_from t m at e = take_all (length t - at) (drop at t) (simp length-drop (omega arith)) ∙ elim (dec_le m (length t)) [
  | yes d ↦ rw (e, min-eq_left d)
  | no d ↦
      let f : min m (length t) ≡ length t = min-eq_right (omega arith) in
      drop_of_length-le t {i = at} (omega arith) ∙ sym (drop_of_length-le t {i = m} (omega arith))
]

pub second_voice : (voice : ℕ) → (voice ≡ 0 → ⊥) → 27 ≡ voice_place voice
second_voice zero h = absurd (h refl)
second_voice (suc v) h = refl

-- a board by the words from its place on, of which eleven are enough
pub board_from_lem : (at : ℕ) (t : List ℕ) → board_from 0 (drop at t) ≡ board_from at t
unfolding board_from
board_from_lem at t = simp (get_or-drop, add-zero)

pub board_taken : (t : List ℕ) → board_from 0 (take 11 t) ≡ board_from 0 t
unfolding board_from
board_taken t =
    rw (
      get_or-take 11 t 0 0 (omega arith),
      get_or-take 11 t 1 0 (omega arith),
      get_or-take 11 t 2 0 (omega arith),
      get_or-take 11 t 3 0 (omega arith),
      get_or-take 11 t 4 0 (omega arith),
      get_or-take 11 t 5 0 (omega arith),
      get_or-take 11 t 6 0 (omega arith),
      get_or-take 11 t 7 0 (omega arith),
      get_or-take 11 t 8 0 (omega arith),
      get_or-take 11 t 9 0 (omega arith),
      get_or-take 11 t 10 0 (omega arith),
    )

pub board_here : (at : ℕ) (t : List ℕ) → board_from 0 (take 11 (drop at t)) ≡ board_from at t
board_here at t = board_taken (drop at t) ∙ board_from_lem at t

-- a voice by fifteen words
pub voice_taken : (t : List ℕ) → voice_from 0 (take 15 t) ≡ voice_from 0 t
unfolding voice_from
voice_taken t =
    rw (
      get_or-take 15 t 0 0 (omega arith),
      get_or-take 15 t 1 0 (omega arith),
      get_or-take 15 t 2 0 (omega arith),
      get_or-take 15 t 3 0 (omega arith),
      get_or-take 15 t 4 0 (omega arith),
      get_or-take 15 t 5 0 (omega arith),
      get_or-take 15 t 6 0 (omega arith),
      get_or-take 15 t 7 0 (omega arith),
      get_or-take 15 t 8 0 (omega arith),
      get_or-take 15 t 9 0 (omega arith),
      get_or-take 15 t 10 0 (omega arith),
      get_or-take 15 t 11 0 (omega arith),
      get_or-take 15 t 12 0 (omega arith),
      get_or-take 15 t 13 0 (omega arith),
      get_or-take 15 t 14 0 (omega arith),
    )

-- a voice by the words from its place on
pub voice_from_lem : (at : ℕ) (t : List ℕ) → voice_from 0 (drop at t) ≡ voice_from at t
unfolding voice_from
voice_from_lem at t = simp (get_or-drop, add-zero)

pub voice_here : (at : ℕ) (t : List ℕ) → voice_from 0 (take 15 (drop at t)) ≡ voice_from at t
voice_here at t = voice_taken (drop at t) ∙ voice_from_lem at t

-- ---- words one by one

-- a list of seven, and more after it
pub seven : {A : Type 0} (d : A) (l more : List A) → length l ≡ 7
    → get_or l 0 d ∷ get_or l 1 d ∷ get_or l 2 d ∷ get_or l 3 d ∷ get_or l 4 d ∷ get_or l 5 d ∷ get_or l 6 d ∷ more ≡ l ++ more
seven d [] more h = absurd (omega arith)
seven d (a ∷ []) more h = absurd (omega arith)
seven d (a ∷ b ∷ []) more h = absurd (omega arith)
seven d (a ∷ b ∷ c ∷ []) more h = absurd (omega arith)
seven d (a ∷ b ∷ c ∷ e ∷ []) more h = absurd (omega arith)
seven d (a ∷ b ∷ c ∷ e ∷ f ∷ []) more h = absurd (omega arith)
seven d (a ∷ b ∷ c ∷ e ∷ f ∷ g ∷ []) more h = absurd (omega arith)
seven d (a ∷ b ∷ c ∷ e ∷ f ∷ g ∷ i ∷ []) more h = refl
seven d (a ∷ b ∷ c ∷ e ∷ f ∷ g ∷ i ∷ j ∷ l) more h = absurd (omega arith)

-- ---- a part stored piece by piece

-- words that are all 0 say that there is nothing
pub no_words_lem : voice_from 0 (replicate 15 0) ≡ no_voice
unfolding voice_from fret_of hammer_of run_of flag_of
no_words_lem = refl

pub part_shown : (track : TrackHeader) (t : List ℕ) (at : ℕ) → length track.strings.tunings ≡ 7
    → sets (sets (set (sets t at (board_words (board_of track))) (at + 11) forte) (at + 12) (voice_words no_voice))
    (at + 27) (voice_words no_voice)
    ≡ sets t at (part_words (part_of track))
unfolding part_words board_words voice_words
part_shown track t at e =
    let board : List ℕ = board_words (board_of track) in
    let b : length board ≡ 11 = simp length-append (omega arith) in
    rw (
      sets_append board (forte ∷ []) t at 11 b,
      sets_append (board ++ (forte ∷ [])) (voice_words no_voice) t at 12 (simp length-append (omega arith)),
      sets_append ((board ++ (forte ∷ [])) ++ voice_words no_voice) (voice_words no_voice) t at 27
          (simp length-append (omega arith)),
    )
