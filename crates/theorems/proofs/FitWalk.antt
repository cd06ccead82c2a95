-- Words hold every entry that is kept while beats are added, and the rooms said for points and texts are enough.
use Prim.Native.Nat.{ℕ, ◌+◌, ◌≤◌}
use native.Mathlib.Omega.{arith}
use mathlib.Core.Path.{refl, ◌∙◌}
use mathlib.Core.Bool.{Bool, true, false}
use mathlib.Core.List.{List, [], ◌∷◌, ◌++◌}
use lib.ListN.{length, get_or, length-append}
use Rattle.format.specs.Verdict.{LIMIT}
use Rattle.format.specs.Text.{pick}
use Rattle.model.proofs.Fits.{TupletFits}
use Rattle.entries.proofs.Fits.{RangeFits, BarFits, RowFits, MemberFits, PointFits}
use Rattle.track.specs.Track.{no_tunings, no_strings, no_track}
use Rattle.beat.specs.Beat.{BeatIs}
use Rattle.score.specs.declared.Fretboard.{Fretboard}
use Rattle.score.specs.declared.Part.{Part}
use Rattle.score.specs.declared.Voice.{Voice}
use Rattle.score.proofs.Facts.{BeatFacts}
use Rattle.score.specs.Members.{Keyed, in_order}
use Rattle.score.specs.Rows.{RowIs, rows_of}
use Rattle.score.specs.Sounding.{Sounding, sounding, remember}
use Rattle.score.specs.Page.{TextIs, Walk, Rowing, bend_rooms, has_text, with_frets, keep_rows, keep_text, running_after}
use Rattle.score.specs.Page.{enter_bar, add_beat}
use Rattle.score.specs.Score.{Lists, lists, no_part}
use Rattle.refine.proofs.All.{All, all_get_d, all_more, all_replicate}
use Rattle.refine.proofs.Given.{RowsFit, rows_fit}
use Rattle.refine.proofs.Heads.{range_fits}
use Rattle.refine.proofs.Heard.{SoundFits, KeyedFits, sounding_fits, sounding_number, length-remember}
use Rattle.refine.proofs.Heard.{remember_fits, order_fits, length_order, running_fits}
use Rattle.refine.proofs.Keeping.{points_after}
use Rattle.refine.proofs.Keeps.{tempo_fits, put_voice_fits, put_running_fits}
use Rattle.refine.proofs.Parts.{Byte, VoiceFits, PartFits, part_of_fits, voice_of_fits}
use Rattle.refine.proofs.Shown.{pick_both}
use Rattle.theorems.proofs.FitRows.{EntriesFit, rows_held, keep_rows_fit}

abbrev pub TextFit : TextIs → Type 0
TextFit e = RangeFits e.text.range

pub record WalkFits (w : Walk Lists) : Type 0 where
  pub bars : All BarFits w.bars
  pub rows : All RowFits w.rows
  pub members : All MemberFits w.members
  pub points : All PointFits w.points
  pub texts : All TextFit w.texts
  pub parts : All PartFits w.parts
  pub point_room : length w.points ≤ w.tally.point_room
  pub text_room : length w.texts ≤ w.tally.text_room

pub enter_fits : (bar : ℕ) (w : Walk Lists) → WalkFits w → WalkFits (enter_bar lists bar w)
unfolding enter_bar
enter_fits bar w f =
    record {
      bars = f.bars;
      rows = f.rows;
      members = f.members;
      points = f.points;
      texts = f.texts;
      parts = f.parts;
      point_room = f.point_room;
      text_room = f.text_room;
    }

-- ---- a text

module _ (n : ℕ) (u : TextIs) (ts : List TextIs) where
  text_fits : (t : Bool) → All TextFit ts → TextFit u → All TextFit (pick t (keep_text lists n u ts) ts)
  text_fits false f q = f
  text_fits true f q =
      pick_both (All TextFit) (lists.entered n u ts) ts (ts ++ (u ∷ [])) f (all_more TextFit ts u f q)

  text_bound : (t : Bool) (room : ℕ) → length ts ≤ room
      → length (pick t (keep_text lists n u ts) ts) ≤ pick t (room + 1) room
  text_bound false room h = h
  text_bound true room h =
      pick_both (λ l. length l ≤ room + 1) (lists.entered n u ts) ts (ts ++ (u ∷ [])) (omega arith)
      (rw length-append (omega arith))

-- ---- a beat

-- what stands for a part that is not there
no_part_fits : PartFits no_part
unfolding no_track no_strings no_tunings
no_part_fits =
    part_of_fits no_track
    (record {
      count = omega arith;
      strings = refl;
      tunings = all_replicate Byte 7 0 (omega arith);
      capo = omega arith;
    })

module _ (s : List ℕ) (small : length s ≤ LIMIT) (bar track voice at n : ℕ) (x : BeatIs) (f : BeatFacts s at x n)
    (tuplet : TupletFits x.head.tuplet) (w : Walk Lists) (h : WalkFits w) where
  abbrev part : Part
  part = get_or w.parts track no_part

  abbrev board : Fretboard
  board = part.board

  abbrev memory : Voice
  memory = lists.voice_at track voice w.parts

  abbrev heard : List Sounding
  heard = sounding board memory.frets x

  abbrev xs : List Keyed
  xs = in_order board heard

  abbrev room : ℕ
  room = bend_rooms x.strings 0 x.notes

  abbrev before : Rowing Lists
  before =
      record {
        rows = w.rows;
        members = w.members;
        points = w.points;
        kept = w.tally.kept;
        voice = with_frets memory (remember memory.frets heard);
      }

  abbrev rs : List RowIs
  rs = rows_of (record { bar = bar; track = track; voice = voice }) board w.tally.flat part.running x xs

  abbrev after : Rowing Lists
  after = pick x.head.kept (keep_rows lists rs before) before

  part_fits : PartFits part
  part_fits = all_get_d PartFits w.parts track no_part h.parts no_part_fits

  memory_fits : VoiceFits memory
  memory_fits = voice_of_fits voice part part_fits

  heard_fits : All (SoundFits board room) heard
  heard_fits = sounding_fits board memory.frets x memory_fits.frets f.notes.each

  chord_fits : All (KeyedFits board room) xs
  chord_fits = order_fits board room heard heard_fits

  before_fits : EntriesFit before
  before_fits =
      record {
        rows = h.rows;
        members = h.members;
        points = h.points;
        voice = record {
          strings = length-remember memory.frets heard ∙ memory_fits.strings;
          frets = remember_fits board room memory.frets heard memory_fits.frets heard_fits;
          hammer = memory_fits.hammer;
        };
      }

  stands : RangeFits x.range
  stands = rw f.range (range_fits s _ small (record { sorted = omega (arith, f.starts); ends = f.ends }))

  kept_fits : EntriesFit after
  kept_fits =
      pick_both EntriesFit x.head.kept (keep_rows lists rs before) before
      (keep_rows_fit rs before
      (rows_held board part_fits.board w.tally.flat room _ part.running x tuplet
      (range_fits s x.chord.range small f.chord.inside) stands xs chord_fits)
      before_fits)
      before_fits

  points_room : length after.points ≤ w.tally.point_room + room
  points_room =
      let few : length xs ≤ 7 = omega (arith, length_order board heard, sounding_number board memory.frets x) in
      let q : RowsFit room rs = rows_fit _ board w.tally.flat part.running x room xs chord_fits few in
      pick_both (λ k. length k.points ≤ w.tally.point_room + room) x.head.kept (keep_rows lists rs before)
      before
      (omega (arith, points_after rs before, q.points, h.point_room)) (omega (arith, h.point_room))

  pub beat_fits : WalkFits (add_beat lists bar track voice x w)
  unfolding add_beat
  beat_fits =
      let u : TextIs = record { bar = bar; track = track; text = x.text } in
      record {
        bars = tempo_fits bar w.bars x.mix.tempo f.tempo h.bars;
        rows = kept_fits.rows;
        members = kept_fits.members;
        points = kept_fits.points;
        texts =
            text_fits w.tally.texts u w.texts (has_text x) h.texts
            (range_fits s x.text.range small f.text.inside);
        parts =
            put_running_fits track (lists.put_voice track voice after.voice w.parts)
            (running_after lists part.running x xs)
            (running_fits lists board room part.running x xs chord_fits part_fits.running)
            (put_voice_fits track w.parts voice after.voice kept_fits.voice h.parts);
        point_room = points_room;
        text_room = text_bound w.tally.texts u w.texts (has_text x) w.tally.text_room h.text_room;
      }
