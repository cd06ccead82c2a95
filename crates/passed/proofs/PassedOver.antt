-- Document 01, "Bytes passed over", item by item, and what document 02, n, adds: their words stand before each theorem.
-- Wherever a field stands in a file d, the bytes that the list names of it are passed over in the reading of the whole file; by
-- `kept_or_passed_over` no such byte is kept, and all others are, but for those whose sign alone counts. That the fields stand
-- there is said in Standing.antt.
use Prim.Native.Nat.{ℕ, ◌+◌, ◌*◌, ◌-◌, ◌≤◌, ◌<◌}
use native.Mathlib.Omega.{arith}
use mathlib.Core.Bool.{Bool, true}
use mathlib.Core.Path.{◌≡◌}
use mathlib.Core.List.{List}
use lib.Dec.{ltb}
use lib.ListN.{get_or}
use Rattle.format.specs.declared.Counted.TheVariants as C
use Rattle.format.specs.Text.{TextRead, zero_at}
use Rattle.format.specs.Prog.{Prog, ok, run, turns, has}
use Rattle.format.specs.Count.{NEGATIVE}
use Rattle.format.specs.Fields.{u16, u32, skip, text_bytes, count, fixed_string, int_byte_string, int_byte_string_past}
use Rattle.format.specs.Fields.{int_byte_string_unused, int_byte_string_unused_past}
use Rattle.format.specs.Alike.{Kept, Signed}
use Rattle.model.specs.declared.Time.{Time}
use Rattle.song.specs.declared.info.Names.{Names}
use Rattle.song.specs.Info.{names, music, credits, notices}
use Rattle.song.specs.Setup.{templates, page, hide_tempo, tempo}
use Rattle.header.specs.declared.Header.{Header}
use Rattle.header.specs.Header.{header}
use Rattle.track.specs.Track.{tunings, strings, sound, effect}
use Rattle.note.specs.Points.{BendPoint, bend_points, bend, whammy}
use Rattle.note.specs.Marks.{grace_note}
use Rattle.beat.specs.Mix.{three_signs, tempo_name, duration, tempo_end, mix_flags, wah, mix_strings, mix_table}
use Rattle.beat.specs.Tail.{tail}
use Rattle.score.specs.File.{voices}
use Rattle.score.specs.Score.{scored}
use Rattle.score.specs.Reading.{Score}
use Rattle.format.specs.Passed.{Skips, Skipped, Share, Stands, StringPassed}
use Rattle.format.proofs.Passed.{skipped_not_kept, skipped_not_signed, signed_not_kept, share, stands_skips, stands_keeps, stands_signs}
use Rattle.format.proofs.PassedFields as F
use Rattle.song.proofs.Passed as S
use Rattle.header.proofs.Passed as H
use Rattle.track.proofs.Passed as T
use Rattle.note.proofs.Passed as N
use Rattle.beat.proofs.Passed as B
use Rattle.score.proofs.Passed as W

-- the field p stands at position `at` of the file d
abbrev At : {A : Type 0} → List ℕ → Prog A → ℕ → Type 1
At d p at = Stands d p at scored 0

-- the n bytes from k on are passed over where the file d is read
abbrev Over : List ℕ → (k n : ℕ) → Type 0
Over d k n = Skips d k n scored 0

-- of the string with a size at position k, its length byte and its contents are passed over
abbrev OverString : List ℕ → ℕ → Type 0
OverString d k = StringPassed d k scored 0

-- no byte that is passed over is kept
pub not_kept : {d : List ℕ} {k n : ℕ} → Over d k n → (i : ℕ) → k ≤ i → i < k + n → Kept scored d 0 i → ⊥
not_kept w i l h = skipped_not_kept w i l h

-- no two of the three hold of a byte
pub record OneShare (d : List ℕ) (i : ℕ) : Type 0 where
  pub kept_skipped : Kept scored d 0 i → Skipped d scored 0 i → ⊥
  pub signed_skipped : Signed scored d 0 i → Skipped d scored 0 i → ⊥
  pub signed_kept : Signed scored d 0 i → Kept scored d 0 i → ⊥

-- a byte of a file that is read is kept, its sign alone counts, or it is passed over, and never two of these
pub kept_or_passed_over : {d : List ℕ} {x : Score} {n : ℕ} → run scored d 0 ≡ ok x n → (i : ℕ) → i < n
    → Share d scored 0 i × OneShare d i
kept_or_passed_over {d} {x} {n} e i l = (
  share scored d 0 n i x e (omega arith) l,
  record {
    kept_skipped = λ k z. not_kept z.skips i z.from z.below k;
    signed_skipped = λ k z. skipped_not_signed z.skips i z.from z.below k;
    signed_kept = signed_not_kept scored d 0 i;
  },
)

module _ {d : List ℕ} {at : ℕ} where
  -- "Every byte a `skip` passes;"
  pub every_skip : {n : ℕ} → At d (skip n) at → Over d at n
  every_skip {n} w = stands_skips w (F.skip_passed n)

  -- "contents of album, tab author, instructions, notice lines,"
  pub album : {title subtitle artist : TextRead} {a b k : ℕ} → At d names at → run int_byte_string_unused d at ≡ ok title a
      → run int_byte_string_unused d a ≡ ok subtitle b → run int_byte_string_unused d b ≡ ok artist k
      → Over d (k + 4 + 1) (get_or d (k + 4) 0)
  album w e f g = stands_skips w (S.album e f g)

  module _ (v : ℕ) (n : Names) {words tune copyright : TextRead} {a b k : ℕ} (w : At d (credits v n) at)
      (e : run int_byte_string_unused d at ≡ ok words a) (f : run (music v words) d a ≡ ok tune b)
      (g : run int_byte_string_unused d b ≡ ok copyright k) where
    pub tab_author : Over d (k + 4 + 1) (get_or d (k + 4) 0)
    tab_author = stands_skips w (S.tab_author v n e f g)

    pub instructions : {l : ℕ} → run int_byte_string_unused_past d k ≡ ok tt l → Over d (l + 4 + 1) (get_or d (l + 4) 0)
    instructions h = stands_skips w (S.instructions v n e f g h)

  pub notice_lines : {n i m k : ℕ} → At d notices at → run (count C.NoticeLines) d at ≡ ok n m → i < n
      → run (turns i 0 (λ _ _. int_byte_string_unused_past) tt) d m ≡ ok tt k → Over d (k + 4 + 1) (get_or d (k + 4) 0)
  notice_lines w e l f = stands_skips w (S.notice_line e l f)

  -- "page templates, tempo text, effect names and mix-table strings;"
  pub page_templates : {i k : ℕ} → At d templates at → i < 10
      → run (turns i 0 (λ _ _. int_byte_string_past) tt) d at ≡ ok tt k → OverString d k
  page_templates w l e = F.string_in w (S.page_template l e)

  pub tempo_text : {v a b k : ℕ} → At d (page v) at → 500 ≤ v → run (skip 28) d at ≡ ok tt a
      → run (skip 2) d a ≡ ok tt b → run templates d b ≡ ok tt k → OverString d k
  tempo_text w l e f g = F.string_in w (S.tempo_text l e f g)

  module _ {v m : ℕ} (w : At d (effect v) at) (l : 510 ≤ v) (e : run (skip 4) d at ≡ ok tt m) where
    pub effect_names : OverString d m
    effect_names = F.string_in w (T.effect_name l e)

    pub effect_categories : {k : ℕ} → run int_byte_string_past d m ≡ ok tt k → OverString d k
    effect_categories f = F.string_in w (T.effect_category l e f)

  pub tempo_names : {v : ℕ} → At d (tempo_name v) at → 500 ≤ v → OverString d at
  tempo_names w l = F.string_in w (B.tempo_name_lem l)

  pub mix_table_strings : {v k : ℕ} → At d (mix_strings v) at → 510 ≤ v → run int_byte_string_past d at ≡ ok tt k
      → OverString d at × OverString d k
  mix_table_strings w l e = (F.string_in w (B.mix_string l), F.string_in w (B.other_mix_string l e))

  -- "the length byte inside `int_byte_string`;"
  pub length-byte : At d int_byte_string at → Over d (at + 4) 1
  length-byte w = stands_skips w F.length_byte_passed

  -- "bytes of a fixed field past its stated length;"
  pub past_stated_length : {width : ℕ} → At d (fixed_string width) at → get_or d at 0 ≤ width
      → Over d (at + 1 + get_or d at 0) (width - get_or d at 0)
  past_stated_length {width} w l = stands_skips w (F.fixed_passed width l)

  -- "and these values: header flags of the page,"
  pub header_flags : {v : ℕ} → At d (page v) at → 500 ≤ v → Over d (at + 28) 2
  header_flags w l = stands_skips w (S.page_flags l)

  -- "global key, octave, hide-tempo,"
  pub global_key : (v : ℕ) {k : ℕ} → At d (tempo v) at → run (hide_tempo v) d (at + 4) ≡ ok tt k → Over d k 4
  global_key v w e = stands_skips w (S.global_key v e)

  pub octave : {v k : ℕ} → At d (tempo v) at → 400 ≤ v → run (hide_tempo v) d (at + 4) ≡ ok tt k → Over d (k + 4) 1
  octave w l e = stands_skips w (S.octave_byte l e)

  pub hide_tempo_lem : {v : ℕ} → At d (tempo v) at → 510 ≤ v → Over d (at + 4) 1
  hide_tempo_lem w l = stands_skips w (S.hide_tempo_lem l)

  -- "effect channel, fret count,": four bytes each
  pub effect_channel_fret_count : At d sound at → Over d (at + 4 + 4) 8
  effect_channel_fret_count w = stands_skips w T.effect_channel_fret_count

  -- "tunings past the string count,"
  pub tunings_past : {n m k : ℕ} {ts : List ℕ} → At d strings at → run (count C.Strings) d at ≡ ok n m
      → run (tunings n) d m ≡ ok ts k → Over d k (4 * (7 - n))
  tunings_past w e f = stands_skips w (T.tunings_past e f)

  -- "a header's last byte (v500 on),"
  pub header_last_byte : (v : ℕ) (before : Time) {h : Header} {k : ℕ} → At d (header v before) at → 500 ≤ v
      → run (header v before) d at ≡ ok h (k + 1) → Over d k 1
  header_last_byte v before w l e = stands_skips w (H.last_byte v before l e)

  -- "the byte before a GP5 bar's voices,"
  pub before_voices : {v : ℕ} → At d (voices v) at → 500 ≤ v → Over d at 1
  before_voices w l = stands_skips w (W.before_voices l)

  -- "bend type, value and point vibrato,": a type of one byte and a value of four, then a byte of each point
  pub bend_type_value : At d bend at → Over d at 5
  bend_type_value w = stands_skips w N.bend_type_value

  pub point_vibrato : {n i m k q : ℕ} {ps : List BendPoint} → At d bend at → run (skip 5) d at ≡ ok tt k
      → run (count C.Points) d k ≡ ok n m → i < n → run (bend_points i) d m ≡ ok ps q → Over d (q + 4 + 4) 1
  point_vibrato w e f l g = stands_skips w (N.point_vibrato e f l g)

  -- "whammy type and value,"
  pub whammy_type_value : At d whammy at → Over d at 5
  whammy_type_value w = stands_skips w N.whammy_type_value

  -- "grace dynamic and duration,"
  pub grace_dynamic : (v : ℕ) → At d (grace_note v) at → Over d (at + 1) 1
  grace_dynamic v w = stands_skips w (N.grace_dynamic v)

  pub grace_duration : (v : ℕ) → At d (grace_note v) at → Over d (at + 1 + 1 + 1) 1
  grace_duration v w = stands_skips w (N.grace_duration v)

  -- "mix-table durations": of each value, and of the tempo, that is 0 or more
  pub mix_table_durations : {given : Bool} → At d (duration given) at → given ≡ true → Over d at 1
  mix_table_durations w e = stands_skips w (B.duration_passed e)

  -- "and trailing flags": after the tempo's duration from v510, and after the durations from v400
  pub tempo_flag : {v tempo k : ℕ} → At d (tempo_end v tempo) at → tempo < NEGATIVE → 510 ≤ v
      → run (duration (ltb tempo NEGATIVE)) d at ≡ ok tt k → Over d k 1
  tempo_flag w l h e = stands_skips w (B.tempo_flag l h e)

  pub trailing_flags : {v : ℕ} → At d (mix_flags v) at → 400 ≤ v → Over d at 1
  trailing_flags w l = stands_skips w (B.trailing_flags l)

  -- "(not the wah byte),": it is kept
  pub wah_kept : {v : ℕ} → At d (wah v) at → 500 ≤ v → Kept scored d 0 at
  wah_kept w l = stands_keeps w at (B.wah_kept d at l)

  -- "the byte after beat flag 0x800."
  pub after_flag_0x800 : {v f k : ℕ} → At d (tail v) at → 500 ≤ v → run u16 d at ≡ ok f k → has f 0x800 ≡ true → Over d k 1
  after_flag_0x800 w l e h = stands_skips w (B.after_flag_0x800 l e h)

-- ---- document 02, n
module _ {d : List ℕ} {at : ℕ} where
  -- "bytes after the first zero byte of a kept text within its length are passed over,": as far as that byte, and with it, they are
  -- kept, the blanks among them that the trim takes away
  pub after_zero : (m : ℕ) → At d (text_bytes m) at → zero_at d at m < at + m
      → Over d (zero_at d at m + 1) (at + m - (zero_at d at m + 1))
  after_zero m w l = stands_skips w (F.after_zero_passed d at m l)

  pub as_far_as_zero_kept : (m : ℕ) → At d (text_bytes m) at → (i : ℕ) → at ≤ i → i < at + m → i ≤ zero_at d at m
      → Kept scored d 0 i
  as_far_as_zero_kept m w i l h z = stands_keeps w i (F.text_kept d at m i l h z)

  -- "and a mix-table value of 0 or more may become any other such value, a negative one any other negative.": its sign alone counts,
  -- that of the volume, pan and chorus, and of the reverb, phaser and tremolo
  pub mix_table_values : At d three_signs at → Signed scored d 0 at × Signed scored d 0 (at + 1) × Signed scored d 0 (at + 1 + 1)
  mix_table_values w =
      let three = B.three_signed d at in
      (stands_signs w at three.0, stands_signs w (at + 1) three.1, stands_signs w (at + 1 + 1) three.2)

  -- "Instrument is one of these values,": the first byte of a mix table
  pub instrument : (v : ℕ) → At d (mix_table v) at → Signed scored d 0 at
  instrument v w = stands_signs w at (B.instrument_signed d at v)

  -- "tempo and wah are not.": the tempo's four bytes are kept, and the wah byte is (`wah_kept`)
  pub tempo_kept : At d u32 at → (i : ℕ) → at ≤ i → i < at + 4 → Kept scored d 0 i
  tempo_kept w i l h = stands_keeps w i (F.number_kept 4 d at i l h)
