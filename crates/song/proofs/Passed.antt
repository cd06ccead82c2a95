-- Document 01, "Bytes passed over": what the song's fields pass over.
use Prim.Native.Nat.{ℕ, ◌+◌, ◌≤◌, ◌<◌}
use mathlib.Core.Path.{◌≡◌}
use mathlib.Core.List.{List}
use lib.ListN.{get_or}
use Rattle.format.specs.declared.Counted.TheVariants as C
use Rattle.format.specs.Text.{TextRead}
use Rattle.format.specs.Prog.{ok, run, turns}
use Rattle.format.specs.Fields.{skip, count, int_byte_string_unused, int_byte_string_unused_past, int_byte_string_past}
use Rattle.song.specs.declared.info.Names.{Names}
use Rattle.song.specs.Info.{names, music, credits, notices}
use Rattle.song.specs.Setup.{templates, page, hide_tempo, octave, tempo}
use Rattle.format.specs.Passed.{Skips, itself, first, then, StringPassed}
use Rattle.format.proofs.Passed.{skips_first, skips_after, skips_le, stands_le, turn_stands}
use Rattle.format.proofs.PassedFields.{next_number, next_skip, skip_passed, contents_passed, string_passed}

module _ {s : List ℕ} {at : ℕ} where
  -- "contents of album", which stands after title, subtitle and artist
  pub album : {title subtitle artist : TextRead} {a b k : ℕ} → run int_byte_string_unused s at ≡ ok title a
      → run int_byte_string_unused s a ≡ ok subtitle b → run int_byte_string_unused s b ≡ ok artist k
      → Skips s (k + 4 + 1) (get_or s (k + 4) 0) names at
  unfolding names
  album e f g = contents_passed (then _ _ e (then _ _ f (then _ _ g (first _ itself))))

  -- "tab author", after words, music and copyright, and "instructions", after it
  module _ (v : ℕ) (n : Names) {words tune copyright : TextRead} {a b k : ℕ} (e : run int_byte_string_unused s at ≡ ok words a)
      (f : run (music v words) s a ≡ ok tune b) (g : run int_byte_string_unused s b ≡ ok copyright k) where
    pub tab_author : Skips s (k + 4 + 1) (get_or s (k + 4) 0) (credits v n) at
    unfolding credits
    tab_author = contents_passed (then _ _ e (then _ _ f (then _ _ g (first _ itself))))

    pub instructions : {l : ℕ} → run int_byte_string_unused_past s k ≡ ok tt l
        → Skips s (l + 4 + 1) (get_or s (l + 4) 0) (credits v n) at
    unfolding credits
    instructions h = contents_passed (then _ _ e (then _ _ f (then _ _ g (then _ _ h (first _ itself)))))

  -- "notice lines": line i of n
  pub notice_line : {n i m k : ℕ} → run (count C.NoticeLines) s at ≡ ok n m → i < n
      → run (turns i 0 (λ _ _. int_byte_string_unused_past) tt) s m ≡ ok tt k
      → Skips s (k + 4 + 1) (get_or s (k + 4) 0) notices at
  unfolding notices
  notice_line {n} {i} e l f = contents_passed (then _ _ e (turn_stands (λ _ _. int_byte_string_unused_past) n 0 i tt tt l f))

  -- "page templates": template i of ten
  pub page_template : {i k : ℕ} → i < 10 → run (turns i 0 (λ _ _. int_byte_string_past) tt) s at ≡ ok tt k
      → StringPassed s k templates at
  unfolding templates
  page_template {i} l e = string_passed (turn_stands (λ _ _. int_byte_string_past) 10 0 i tt tt l e)

  -- "tempo text", after page size and margins, flags and templates
  pub tempo_text : {v a b k : ℕ} → 500 ≤ v → run (skip 28) s at ≡ ok tt a → run (skip 2) s a ≡ ok tt b
      → run templates s b ≡ ok tt k → StringPassed s k (page v) at
  unfolding page
  tempo_text l e f g = string_passed (stands_le _ _ l (then _ _ e (then _ _ f (then _ _ g itself))))

  -- "header flags of the page", after page size and margins
  pub page_flags : {v : ℕ} → 500 ≤ v → Skips s (at + 28) 2 (page v) at
  unfolding page
  page_flags l = skips_le _ _ l (next_skip 28 _ (skips_first _ (skip_passed 2)))

  -- "hide-tempo", after the tempo
  pub hide_tempo_lem : {v : ℕ} → 510 ≤ v → Skips s (at + 4) 1 (tempo v) at
  unfolding tempo hide_tempo
  hide_tempo_lem l = next_number 4 _ (λ _. skips_first _ (skips_le _ _ l (skip_passed 1)))

  -- "global key", after it
  pub global_key : (v : ℕ) {k : ℕ} → run (hide_tempo v) s (at + 4) ≡ ok tt k → Skips s k 4 (tempo v) at
  unfolding tempo
  global_key v e = next_number 4 _ (λ _. skips_after _ _ _ _ _ e (skips_first _ (skip_passed 4)))

  -- "octave", after it
  pub octave_byte : {v k : ℕ} → 400 ≤ v → run (hide_tempo v) s (at + 4) ≡ ok tt k → Skips s (k + 4) 1 (tempo v) at
  unfolding tempo octave
  octave_byte l e =
      next_number 4 _ (λ _. skips_after _ _ _ _ _ e (next_skip 4 _ (skips_first _ (skips_le _ _ l (skip_passed 1)))))
