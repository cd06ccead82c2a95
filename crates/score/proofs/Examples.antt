-- The smallest files, run through the definition by the checker: how far each goes, and what is added on the way.
use Prim.Native.Nat.{ℕ, ◌+◌, ◌*◌}
use mathlib.Core.Path.{◌≡◌, refl}
use mathlib.Core.List.{List, [], ◌∷◌, ◌++◌}
use lib.ListN.{replicate}
use Rattle.format.specs.declared.Counted.TheVariants.{NoticeLines}
use Rattle.format.specs.declared.Stop.TheVariants.{Count}
use Rattle.format.specs.Prog.{run, ok, stopped, Res}
use Rattle.score.specs.File.{Adding, Whole, opening, voices, one_header, headers, one_track, tracks, one_beat, voice, bar_track, bar, bars, score, file}
use Rattle.format.specs.Text as FText
use Rattle.format.specs.Prog as FProg
use Rattle.format.specs.Count as FCount
use Rattle.format.specs.Fields as FFields
use Rattle.model.specs.Kinds as MKinds
use Rattle.song.specs.Version as SVersion
use Rattle.song.specs.Info as SInfo
use Rattle.song.specs.Setup as SSetup
use Rattle.header.specs.Header as SHeader
use Rattle.track.specs.Track as STrack
use Rattle.curve.specs.Held as CHeld

-- how many headers, tracks and beats were added
abbrev tallying : Adding ℕ ℕ ℕ
tallying =
    record {
      headers = λ g. 0;
      add_header = λ g b time h n. n + 1;
      tracks = λ n. 0;
      add_track = λ i x n. n + 1;
      bars = λ n m. 100 * n + 10 * m;
      enter_bar = λ b n. n;
      add_beat = λ b i w x n. n + 1;
    }

-- how far a file goes, with one bar, one track and no beats
abbrev pub far : Res (Whole ℕ ℕ) → List ℕ
far (ok x n) = n ∷ x.bars ∷ []
far (stopped r) = []

abbrev alone : ℕ → List ℕ
alone n = n ∷ 110 ∷ []

-- a file that is 0 but for its version, its size before the counts, one bar and one track
abbrev smallest : List ℕ → ℕ → ℕ → List ℕ
smallest version before after =
    24 ∷ SVersion.PREFIX ++ version ++ replicate 6 0 ++ replicate before 0 ++ (1 ∷ 0 ∷ 0 ∷ 0 ∷ 1 ∷ 0 ∷ 0 ∷ 0 ∷ []) ++ replicate after 0

-- document 01: v3.00 uses 963 bytes, v4.00 1,008, v5.00 1,192, v5.10 1,226
pub record Smallest : Type 0 where
  pub v3_00 : far (run (file tallying) (smallest (51 ∷ 46 ∷ 48 ∷ 48 ∷ []) 821 103) 0) ≡ alone 963
  pub v4_00 : far (run (file tallying) (smallest (52 ∷ 46 ∷ 48 ∷ 48 ∷ []) 866 103) 0) ≡ alone 1008
  pub v5_00 : far (run (file tallying) (smallest (53 ∷ 46 ∷ 48 ∷ 48 ∷ []) 997 156) 0) ≡ alone 1192
  pub v5_10 : far (run (file tallying) (smallest (53 ∷ 46 ∷ 49 ∷ 48 ∷ []) 1017 170) 0) ≡ alone 1226

-- document 02, k: v4.06, all texts empty, 1,001 notices: they stand at 71
abbrev too_many_notices : List ℕ
too_many_notices = 24 ∷ SVersion.PREFIX ++ (52 ∷ 46 ∷ 48 ∷ 54 ∷ []) ++ replicate 6 0 ++ replicate 40 0 ++ (233 ∷ 3 ∷ 0 ∷ 0 ∷ [])

pub record Refused : Type 0 where
  pub notices : run (file tallying) too_many_notices 0 ≡ stopped (Count NoticeLines 1001 71)

pub smallest_files : Smallest
unfolding FText.blank FText.cut_len FText.lead_len FText.keep_next FText.keep_len FText.cut FText.trim FText.range_of FText.text_of FText.no_text FCount.too_many FCount.little FCount.as_word FProg.run FProg.bind FProg.turns FProg.when_le FProg.when_eq FProg.when_bits FFields.u8 FFields.number FFields.skip FFields.text_bytes FFields.count FFields.string_of FFields.string_past FFields.fixed_string FFields.int_byte_string_unused FFields.int_byte_string_unused_past FFields.int_string FFields.less_one FFields.int_byte_string FFields.int_byte_string_past SVersion.starts SVersion.is_family SVersion.is_digit SVersion.digits_len SVersion.digits_from SVersion.short SVersion.unplussed SVersion.version_number SVersion.version_of SVersion.accepted SVersion.version SInfo.names SInfo.music SInfo.composer_of SInfo.credits SInfo.notices SInfo.no_info SInfo.info SInfo.triplet_feel SInfo.lyric_track SInfo.lyric_line SInfo.five_lines SInfo.lyrics SSetup.equalizer SSetup.templates SSetup.page MKinds.tempo_from SSetup.hide_tempo SSetup.octave SSetup.tempo SSetup.setup SSetup.program_of SSetup.channel SSetup.no_port SSetup.next_channel SSetup.port SSetup.no_ports SSetup.next_port SSetup.channel_table SSetup.bar_number SSetup.no_directions SSetup.next_direction SSetup.nineteen SSetup.directions SHeader.not_empty SHeader.no_counts SHeader.counts FProg.has SHeader.common_time SHeader.power_of_two SHeader.time_of SHeader.time SHeader.repeat_count SHeader.ending_byte SHeader.marker SHeader.fifths_of SHeader.mode_of SHeader.key SHeader.header_marks SHeader.beams SHeader.header_tail SHeader.ending_of SHeader.passes_of SHeader.ending_number SHeader.no_header SHeader.header_of SHeader.header STrack.no_tunings STrack.next_tuning STrack.tunings STrack.no_strings STrack.strings STrack.numbered STrack.sound STrack.effect STrack.staff STrack.tablature_of STrack.low STrack.clef_of STrack.channel_program STrack.no_track STrack.track_of STrack.track CHeld.held opening voices one_header headers one_track tracks one_beat voice bar_track bar bars score file
smallest_files = record { v3_00 = refl; v4_00 = refl; v5_00 = refl; v5_10 = refl }

pub refused_files : Refused
unfolding FText.blank FText.cut_len FText.lead_len FText.keep_next FText.keep_len FText.cut FText.trim FText.range_of FText.text_of FText.no_text FCount.too_many FCount.little FCount.as_word FProg.run FProg.bind FProg.turns FProg.when_le FProg.when_eq FProg.when_bits FFields.u8 FFields.number FFields.skip FFields.text_bytes FFields.count FFields.string_of FFields.string_past FFields.fixed_string FFields.int_byte_string_unused FFields.int_byte_string_unused_past FFields.int_string FFields.less_one FFields.int_byte_string FFields.int_byte_string_past SVersion.starts SVersion.is_family SVersion.is_digit SVersion.digits_len SVersion.digits_from SVersion.short SVersion.unplussed SVersion.version_number SVersion.version_of SVersion.accepted SVersion.version SInfo.names SInfo.music SInfo.composer_of SInfo.credits SInfo.notices SInfo.no_info SInfo.info SInfo.triplet_feel SInfo.lyric_track SInfo.lyric_line SInfo.five_lines SInfo.lyrics SSetup.equalizer SSetup.templates SSetup.page MKinds.tempo_from SSetup.hide_tempo SSetup.octave SSetup.tempo SSetup.setup SSetup.program_of SSetup.channel SSetup.no_port SSetup.next_channel SSetup.port SSetup.no_ports SSetup.next_port SSetup.channel_table SSetup.bar_number SSetup.no_directions SSetup.next_direction SSetup.nineteen SSetup.directions SHeader.not_empty SHeader.no_counts SHeader.counts FProg.has SHeader.common_time SHeader.power_of_two SHeader.time_of SHeader.time SHeader.repeat_count SHeader.ending_byte SHeader.marker SHeader.fifths_of SHeader.mode_of SHeader.key SHeader.header_marks SHeader.beams SHeader.header_tail SHeader.ending_of SHeader.passes_of SHeader.ending_number SHeader.no_header SHeader.header_of SHeader.header STrack.no_tunings STrack.next_tuning STrack.tunings STrack.no_strings STrack.strings STrack.numbered STrack.sound STrack.effect STrack.staff STrack.tablature_of STrack.low STrack.clef_of STrack.channel_program STrack.no_track STrack.track_of STrack.track CHeld.held opening voices one_header headers one_track tracks one_beat voice bar_track bar bars score file
refused_files = record { notices = refl }
