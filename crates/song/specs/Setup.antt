-- Page setup, tempo, channel table and directions.
use Rattle.std.specs.Prelude.{ℕ, List, replicate, set, leb, Option}
use Rattle.model.specs.Kinds.{tempo_from}
use Rattle.format.specs.Text.{pick}
use Rattle.format.specs.Prog.{Prog, ret, bind, when_le, turns}
use Rattle.format.specs.Fields.{u16, u32, skip, int_byte_string_past}

-- from v510 master volume, effect and equalizer; passed over: "every byte a `skip` passes"
unfoldable pub equalizer : ℕ → Prog Unit
equalizer v = when_le 510 v (skip 19) (ret tt)

-- passed over: contents of "page templates"
unfoldable pub templates : Prog Unit
templates = turns 10 0 (λ _ _. int_byte_string_past) tt

-- from v500 page size and margins, flags, templates, tempo text; passed over: "every byte a `skip` passes", "header flags of the
-- page", contents of "tempo text"
unfoldable pub page : ℕ → Prog Unit
page v = when_le 500 v (bind (skip 28) (λ _. bind (skip 2) (λ _. bind templates (λ _. int_byte_string_past)))) (ret tt)

-- passed over: "hide-tempo", from v510
unfoldable pub hide_tempo : ℕ → Prog Unit
hide_tempo v = when_le 510 v (skip 1) (ret tt)

-- passed over: "octave", from v400
unfoldable pub octave : ℕ → Prog Unit
octave v = when_le 400 v (skip 1) (ret tt)

-- the file's tempo; passed over: "global key"
unfoldable pub tempo : ℕ → Prog (Option ℕ)
tempo v = bind u32 (λ t. bind (hide_tempo v) (λ _. bind (skip 4) (λ _. bind (octave v) (λ _. ret (tempo_from t)))))

-- page setup and tempo
unfoldable pub setup : ℕ → Prog (Option ℕ)
setup v = bind (equalizer v) (λ _. bind (page v) (λ _. tempo v))

-- ---- channel table: four ports of sixteen channels; a program outside 0..127 is 0
unfoldable pub program_of : ℕ → ℕ
program_of v = pick (leb v 127) v 0

-- volume, balance, chorus, reverb, phaser, tremolo and two blanks are passed over: "every byte a `skip` passes"
unfoldable pub channel : Prog ℕ
channel = bind u32 (λ p. bind (skip 8) (λ _. ret (program_of p)))

-- a port, channel by channel
unfoldable pub no_port : List ℕ
no_port = replicate 16 0

unfoldable pub next_channel : ℕ → List ℕ → Prog (List ℕ)
next_channel i ps = bind channel (λ p. ret (set ps i p))

unfoldable pub port : Prog (List ℕ)
port = turns 16 0 next_channel no_port

-- four ports; no_ports also stands beside a stop
unfoldable pub no_ports : List (List ℕ)
no_ports = replicate 4 no_port

unfoldable pub next_port : ℕ → List (List ℕ) → Prog (List (List ℕ))
next_port i t = bind port (λ ps. ret (set t i ps))

unfoldable pub channel_table : Prog (List (List ℕ))
channel_table = turns 4 0 next_port no_ports

-- ---- directions: nineteen bar numbers from v500 on; one that is not above 0 names no bar
unfoldable pub bar_number : ℕ → ℕ
bar_number v = pick (leb 32768 v) 0 v

-- before v500, and beside a stop
unfoldable pub no_directions : List ℕ
no_directions = replicate 19 0

unfoldable pub next_direction : ℕ → List ℕ → Prog (List ℕ)
next_direction i ds = bind u16 (λ v. ret (set ds i (bar_number v)))

unfoldable pub nineteen : Prog (List ℕ)
nineteen = turns 19 0 next_direction no_directions

-- the four bytes after them are passed over: "every byte a `skip` passes"
unfoldable pub directions : ℕ → Prog (List ℕ)
directions v = when_le 500 v (bind nineteen (λ ds. bind (skip 4) (λ _. ret ds))) (ret no_directions)
