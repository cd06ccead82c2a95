-- Counts of bars and tracks, and bar headers.
use Rattle.std.specs.Prelude.{ℕ, ◌+◌, ◌-◌, Bool, false, not, leb, ltb, eqb, ℤ, pos, negsuc}
use Rattle.std.specs.Int.Count.{count_trailing_zeros, ones}
use Rattle.format.specs.declared.Counted.TheVariants as C
use Rattle.model.specs.declared.Time.{Time}
use Rattle.model.specs.declared.Mode.{Mode}
use Rattle.model.specs.declared.Mode.TheVariants.{Major, Minor}
use Rattle.model.specs.declared.Key.{Key}
use Rattle.model.specs.declared.Key.TheVariants.{NoKey, Fifths}
use Rattle.format.specs.Text.{TextRead, no_text, pick}
use Rattle.format.specs.Prog.{Prog, ret, refuse, nothing_inside, bind, when_le, when_eq, when_bits, has}
use Rattle.format.specs.Fields.{u8, skip, count, int_byte_string}
use Rattle.model.specs.Answers.{no_range}
use Rattle.header.specs.declared.Counts.{Counts}
use Rattle.header.specs.declared.Header.{Header}
use Rattle.header.specs.declared.Marks.{Marks}
use Rattle.header.specs.declared.Tail.{Tail}

-- both bar and track counts are read and tested before "empty"
unfoldable pub not_empty : ℕ → ℕ → Prog Counts
not_empty bars tracks =
    when_eq bars 0 (refuse nothing_inside) (when_eq tracks 0 (refuse nothing_inside) (ret (record { bars = bars; tracks = tracks })))

-- beside a stop
unfoldable pub no_counts : Counts
no_counts = record { bars = 0; tracks = 0 }

-- bars, then tracks
unfoldable pub counts : Prog Counts
counts = bind (count C.Bars) (λ bars. bind (count C.Tracks) (λ tracks. not_empty bars tracks))

-- ---- time: inherited from the header before (first: 4/4)
unfoldable pub common_time : Time
common_time = record { numerator = 4; denominator = 4 }

-- one bit is set
unfoldable pub power_of_two : ℕ → Bool
power_of_two n = eqb (ones n) 1

-- numerator 0, or a denominator 0 or not a power of two, makes both 4
unfoldable pub time_of : ℕ → ℕ → Time
time_of n d = pick (eqb n 0) common_time (pick (power_of_two d) (record { numerator = n; denominator = d }) common_time)

-- numerator (flag 0x01) and denominator (flag 0x02), or those of the header before
unfoldable pub time : ℕ → Time → Prog Time
time flags before =
    bind (when_bits flags 0x01 u8 (ret before.numerator)) (λ n.
    bind (when_bits flags 0x02 u8 (ret before.denominator)) (λ d.
    ret (time_of n d)))

-- ---- the optional fields
-- how often a repeat is played (flag 0x08)
unfoldable pub repeat_count : ℕ → Prog ℕ
repeat_count flags = when_bits flags 0x08 u8 (ret 0)

-- before v500 the ending byte (flag 0x10) is the number
unfoldable pub ending_byte : ℕ → ℕ → Prog ℕ
ending_byte v flags = when_le 500 v (ret 0) (when_bits flags 0x10 u8 (ret 0))

-- a marker (flag 0x20); its colour is passed over: "every byte a `skip` passes"
unfoldable pub marker : ℕ → Prog TextRead
marker flags = when_bits flags 0x20 (bind int_byte_string (λ t. bind (skip 4) (λ _. ret t))) (ret no_text)

-- a number of fifths held to -7..7, as a two's complement byte
unfoldable pub fifths_of : ℕ → ℤ
fifths_of b = pick (ltb b 128) (pos (pick (leb b 7) b 7)) (negsuc (pick (leb 249 b) (255 - b) 6))

-- 0 is major
unfoldable pub mode_of : ℕ → Mode
mode_of b = pick (eqb b 0) Major Minor

-- absent, or a number from -7 to 7 with major or minor (flag 0x40)
unfoldable pub key : ℕ → Prog Key
key flags = when_bits flags 0x40 (bind u8 (λ k. bind u8 (λ m. ret (Fifths (fifths_of k) (mode_of m))))) (ret NoKey)

-- what stands between the time and the tail, in the file's order
unfoldable pub header_marks : ℕ → ℕ → Prog Marks
header_marks v flags =
    bind (repeat_count flags) (λ times.
    bind (ending_byte v flags) (λ byte.
    bind (marker flags) (λ name.
    bind (key flags) (λ k.
    ret (record { times = times; ending = byte; marker = name.range; key = k })))))

-- ---- the tail, from v500
-- beam grouping where a time was read; passed over: "every byte a `skip` passes"
unfoldable pub beams : ℕ → Prog Unit
beams flags = when_bits flags 0x03 (skip 4) (ret tt)

-- the endings' mask and the triplet feel, which is a loss; passed over: "a header's last byte (v500 on)"
unfoldable pub header_tail : ℕ → ℕ → Prog Tail
header_tail v flags =
    when_le 500 v
    (bind (beams flags) (λ _.
    bind u8 (λ mask.
    bind u8 (λ swing.
    bind (skip 1) (λ _.
    ret (record { mask = mask; swing = not (eqb swing 0) }))))))
    (ret (record { mask = 0; swing = false }))

-- ---- endings: the number is the mask's trailing zeros plus one, and passes are listed only when more than one bit is set;
-- 0 for no ending and for no list
unfoldable pub ending_of : ℕ → ℕ
ending_of mask = pick (eqb mask 0) 0 (count_trailing_zeros 8 mask + 1)

-- the mask itself, bit n for pass n + 1
unfoldable pub passes_of : ℕ → ℕ
passes_of mask = pick (leb 2 (ones mask)) mask 0

-- from v500 by the mask, before by the byte
unfoldable pub ending_number : ℕ → ℕ → ℕ → ℕ
ending_number v byte mask = pick (leb 500 v) (ending_of mask) byte

-- ---- a whole header, after one whose time it inherits
-- beside a stop
unfoldable pub no_header : Header
no_header =
    record {
      time = common_time;
      key = NoKey;
      repeat_start = false;
      repeat_end = false;
      double_bar = false;
      ending = 0;
      passes = 0;
      marker = no_range;
      repeat_lost = false;
      swing_lost = false;
    }

-- a repeat count over 2 is a loss (docs/RULES.md 27)
unfoldable pub header_of : ℕ → ℕ → Time → Marks → Tail → Header
header_of v flags t m rest =
    record {
      time = t;
      key = m.key;
      repeat_start = has flags 0x04;
      repeat_end = has flags 0x08;
      double_bar = has flags 0x80;
      ending = ending_number v m.ending rest.mask;
      passes = passes_of rest.mask;
      marker = m.marker;
      repeat_lost = ltb 2 m.times;
      swing_lost = rest.swing;
    }

-- a time, marks and a tail, each by the flags
unfoldable pub header : ℕ → Time → Prog Header
header v before =
    bind u8 (λ flags.
    bind (time flags before) (λ t.
    bind (header_marks v flags) (λ m.
    bind (header_tail v flags) (λ rest.
    ret (header_of v flags t m rest)))))
