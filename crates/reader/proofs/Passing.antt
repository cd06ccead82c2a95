-- The parts of a pass are the parts of the whole file.
use Prim.Native.Nat.{ℕ, ◌≤◌, ◌/◌, min}
use native.Mathlib.Omega.{arith}
use mathlib.Core.Path.{◌≡◌, refl}
use mathlib.Core.Bool.{Bool}
use mathlib.Core.List.{List, [], ◌++◌}
use lib.ListN.{replicate}
use Rattle.std.specs.Prelude.{Result, Ok, IsErr, IsErrAnd}
use Rattle.std.proofs.Common.{ControlFlow, Continue, Break}
use Rattle.std.specs.Result.{result_from_control_flow}
use Rattle.format.specs.declared.Stop.{Stop}
use Rattle.format.specs.Prog.{turns}
use Rattle.format.specs.Place.{Place, Reaches}
use Rattle.format.proofs.Rules.{then, done, read, read_exit, went_on, place_broke}
use Rattle.model.specs.declared.Time.{Time}
use Rattle.model.specs.declared.Loss.TheVariants.{TripletFeel, UnsupportedDirection}
use Rattle.header.specs.Header.{common_time}
use Rattle.score.specs.Losses.{report_if, reported}
use Rattle.score.specs.Bars.{unsupported, other_signs}
use Rattle.score.specs.declared.Before.{Before}
use Rattle.score.specs.declared.Tally.{Tally}
use Rattle.score.specs.File as File
use Rattle.score.specs.File.{Opening, one_header, headers, one_track, tracks, one_beat, voice, bar_track, bar, bars}
use Rattle.score.specs.Page.{Staves, Walk, report, keeping, no_bars, no_tracks, no_beats, add_header, add_track}
use Rattle.words.specs.Words.{Words, words, part_stride}
use Rattle.words.specs.Counted.{passing}
use Rattle.front.specs.declared.SongRead.{SongRead}
use Rattle.words.specs.Meant.{walk_of}
use Rattle.words.specs.Heads.{staves_of}
use Rattle.reader.specs.declared.pass.Passed.{Passed}
use Rattle.reader.specs.Passed.{whole_of, Passes}
use Rattle.words.specs.Lent.{Lent, lent_of, lent}
use Rattle.front.specs.Front.{song_of, timed_of, header_step, track_step}
use Rattle.reader.specs.Started.{before_bars, before_beats}
use Rattle.walk.specs.Entering.{entering}

module _ (counting : Bool) (s : List ℕ) (t : Lent) (g : Opening) where
  pub headers_are : turns g.counts.bars 0 (header_step g.version g.directions) (timed_of common_time t.bars before_bars (report (words []) (report_if g.swing TripletFeel ++ reported (unsupported g.directions other_signs) UnsupportedDirection) (replicate 17 0)))
      ≡ headers (passing counting (keeping (words s) (lent t))) g
  unfolding headers one_header no_bars add_header
  headers_are = refl

  pub tracks_are : (u : Staves Words) → turns g.counts.tracks 0 (track_step g.version g.programs) u ≡ tracks (passing counting (keeping (words s) (lent t))) g u
  unfolding tracks one_track add_track
  tracks_are u = refl

  pub bars_are : (w : Walk Words) → turns g.counts.bars 0 (bar (entering counting s) g.version g.counts.tracks) w ≡ bars (passing counting (keeping (words s) (lent t))) g w
  unfolding bars bar bar_track voice one_beat
  bars_are w = refl

-- a file has no more tracks than there are words for
pub all_held : {tracks before after : ℕ} → tracks ≤ 100 → after ≡ before → 4200 ≤ before → min tracks (after / part_stride) ≡ tracks
all_held few same enough = omega arith

-- ---- one after another
pub record Walks (counting : Bool) (s : List ℕ) (before after : Lent) (song : SongRead) (tally : Tally) (to : Place) : Type 0 where
  pub programs : List (List ℕ)
  pub parts : List ℕ
  pub losses : List ℕ
  pub reaches : Reaches (File.file (passing counting (keeping (words s) (lent before)))) s (Ok 0) (whole_of song programs parts losses after tally) to

module _ (counting : Bool) (s : List ℕ) {bars tracks rows members points texts parts : List ℕ} where
  pub walked : {song : SongRead} {programs : List (List ℕ)} {time : Time} {before later : Before} {lost lost2 lost3 : List ℕ} {tally tally2 : Tally}
      {bars2 bars3 tracks2 rows2 members2 points2 texts2 parts2 parts3 : List ℕ} {held : ℕ} {at at2 at3 at4 : Place}
      → Reaches File.opening s (Ok 0) (song_of song programs) at
      → before ≡ before_bars → lost ≡ report (words []) (report_if song.swing TripletFeel ++ reported (unsupported song.directions other_signs) UnsupportedDirection) (replicate 17 0)
      → Reaches (turns song.counts.bars 0 (header_step song.version song.directions) (timed_of common_time bars before lost)) s at (timed_of time bars2 later lost2) at2
      → Reaches (turns song.counts.tracks 0 (track_step song.version programs) (staves_of tracks parts lost2)) s at2 (staves_of tracks2 parts2 lost3) at3
      → tally ≡ before_beats lost3
      → held ≡ song.counts.tracks
      → Reaches (turns song.counts.bars 0 (bar (entering counting s) song.version held) (walk_of bars2 rows members points texts parts2 tally)) s at3 (walk_of bars3 rows2 members2 points2 texts2 parts3 tally2) at4
      → Walks counting s (lent_of bars tracks rows members points texts parts) (lent_of bars3 tracks2 rows2 members2 points2 texts2 parts3) song tally2 at4
  unfolding File.file File.score no_tracks no_beats
  walked {song} {programs} {lost3 = lost3} {parts2 = parts2} a e f h u g k w =
      let t : Lent = lent_of bars tracks rows members points texts parts in
      let x : Opening = song_of song programs in
      record {
        programs = programs;
        parts = parts2;
        losses = lost3;
        reaches = then _ a (then _ (rw (headers_are counting s t x) at (rw (e, f) at h)) (then _ (rw (tracks_are counting s t x _) at u) (then _ (rw (bars_are counting s t x _) at (rw (g, k) at w)) done)));
      }

-- what a `?` makes of where the last of them ends
module _ {counting : Bool} {s : List ℕ} {before after : Lent} {song : SongRead} {tally : Tally} {to : Place} {b : ControlFlow _ ℕ} (e : to ≡ result_from_control_flow b) where
  pub passes : {n : ℕ} → b ≡ Continue n → Walks counting s before after song tally to → Passes counting s before after (Ok (record { song = song; tally = tally }, n))
  passes g w = record { programs = w.programs; parts = w.parts; losses = w.losses; reads = read (record { comes = (went_on w.reaches e g).reaches }) }

  pub passes_not : {r : Result (Passed × ℕ) Stop} {f : _} → b ≡ Break f → IsErr r × IsErrAnd r (λ y. y ≡ f.0) → Walks counting s before after song tally to → Passes counting s before after r
  passes_not g x w = record { programs = w.programs; parts = w.parts; losses = w.losses; reads = read_exit e g x (place_broke w.reaches e g) }
