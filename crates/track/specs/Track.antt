-- Tracks.
use Rattle.std.specs.Prelude.{ℕ, ◌-◌, ◌*◌, min, List, [], Bool, false, not, ◌&&◌, ◌||◌, get_or, replicate, set, ltb, eqb, None, Option, Some}
use Rattle.format.specs.declared.Range.{Range}
use Rattle.format.specs.declared.Counted.TheVariants as C
use Rattle.model.specs.declared.Clef.{Clef}
use Rattle.model.specs.declared.Clef.TheVariants.{Treble, Bass, Percussion}
use Rattle.format.specs.Text.{pick}
use Rattle.format.specs.Prog.{Prog, ret, bind, when_le, turns, has}
use Rattle.format.specs.Fields.{u8, u32, less_one, skip, count, fixed_string, int_byte_string_past}
use Rattle.curve.specs.Held.{held, word_half}
use Rattle.model.specs.Answers.{no_range}
use Rattle.track.specs.declared.Sound.{Sound}
use Rattle.track.specs.declared.Staff.{Staff}
use Rattle.track.specs.declared.Strings.{Strings}
use Rattle.track.specs.declared.TrackHeader.{TrackHeader}

-- ---- strings: at most seven tunings, in file order, each held to 0..127 (docs/RULES.md 14)
unfoldable pub no_tunings : List ℕ
no_tunings = replicate 7 0

unfoldable pub next_tuning : ℕ → List ℕ → Prog (List ℕ)
next_tuning i ts = bind u32 (λ v. ret (set ts i (held word_half 0 127 v)))

unfoldable pub tunings : ℕ → Prog (List ℕ)
tunings n = turns n 0 next_tuning no_tunings

-- beside a stop
unfoldable pub no_strings : Strings
no_strings = record { count = 0; tunings = no_tunings }

-- passed over: "tunings past the string count"
unfoldable pub strings : Prog Strings
strings =
    bind (count C.Strings) (λ n.
    bind (tunings n) (λ ts.
    bind (skip (4 * (7 - n))) (λ _.
    ret (record { count = n; tunings = ts }))))

-- ---- port and channel: the number less one, 0 for a value below 1, held to its range
unfoldable pub numbered : ℕ → ℕ → ℕ
numbered last v = min (less_one v) last

-- the capo is held to 0..24 (docs/RULES.md 14); passed over: "effect channel, fret count", and of the colour "every byte a `skip` passes"
unfoldable pub sound : Prog Sound
sound =
    bind u32 (λ p.
    bind u32 (λ c.
    bind (skip 8) (λ _.
    bind u32 (λ capo.
    bind (skip 4) (λ _.
    ret (record { port = numbered 3 p; channel = numbered 15 c; capo = held word_half 0 24 capo }))))))

-- ---- the staff, from v500
-- from v510 an equalizer, an effect name and its category; passed over: "every byte a `skip` passes", contents of "effect names"
unfoldable pub effect : ℕ → Prog Unit
effect v = when_le 510 v (bind (skip 4) (λ _. bind int_byte_string_past (λ _. int_byte_string_past))) (ret tt)

-- flags and clef; passed over: MIDI automatics, banks and sound banks, "every byte a `skip` passes"
unfoldable pub staff : ℕ → Prog Staff
staff v =
    when_le 500 v
    (bind u8 (λ flags.
    bind (skip 4) (λ _.
    bind u32 (λ clef.
    bind (skip 36) (λ _.
    bind (effect v) (λ _.
    ret (record { flags = flags; clef = clef })))))))
    (ret (record { flags = 1; clef = 0 }))

-- tablature: no percussion, at least one string and, from v500, the staff flag 0x01 (before, as if it were set; docs/RULES.md 18)
unfoldable pub tablature_of : Bool → ℕ → ℕ → Bool
tablature_of percussion strings flags = not percussion && (ltb 0 strings && has flags 0x01)

-- the last tuning is under 35
unfoldable pub low : Strings → Bool
low s = ltb 0 s.count && ltb (get_or s.tunings (s.count - 1) 0) 35

-- percussion; else bass where the last tuning is under 35 or, from v500, the clef field is 12; else treble (docs/RULES.md 18)
unfoldable pub clef_of : Bool → Strings → ℕ → Clef
clef_of percussion s field = pick percussion Percussion (pick (low s || eqb field 12) Bass Treble)

-- the program of the track's port and channel, absent for percussion
unfoldable pub channel_program : Bool → List (List ℕ) → ℕ → ℕ → Option ℕ
channel_program percussion programs port channel = pick percussion None (Some (get_or (get_or programs port []) channel 0))

-- ---- a whole track
-- beside a stop
unfoldable pub no_track : TrackHeader
no_track =
    record {
      name = no_range;
      strings = no_strings;
      capo = 0;
      percussion = false;
      tablature = false;
      clef = Treble;
      channel = 0;
      program = None;
    }

-- what a track's fields make; percussion is flag 0x01
unfoldable pub track_of : List (List ℕ) → ℕ → Range → Strings → Sound → Staff → TrackHeader
track_of programs flags name s w f =
    record {
      name = name;
      strings = s;
      capo = w.capo;
      percussion = has flags 0x01;
      tablature = tablature_of (has flags 0x01) s.count f.flags;
      clef = clef_of (has flags 0x01) s f.clef;
      channel = w.channel;
      program = channel_program (has flags 0x01) programs w.port w.channel;
    }

-- flags, name, strings, sound and staff
unfoldable pub track : ℕ → List (List ℕ) → Prog TrackHeader
track v programs =
    bind u8 (λ flags.
    bind (fixed_string 40) (λ name.
    bind strings (λ s.
    bind sound (λ w.
    bind (staff v) (λ f.
    ret (track_of programs flags name.range s w f))))))
