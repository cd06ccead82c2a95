-- One part after another.
use mathlib.Core.List.{[]}
use mathlib.Core.Path.{refl}
use Rattle.format.proofs.Rules.{took, read_exit, fails}
use Rattle.header.specs.Header.{common_time}
use Rattle.score.specs.File.{file}
use Rattle.words.specs.Reports.{reports}
use Rattle.reader.proofs.Passing.{walked, passes, passes_not, all_held}
use Rattle.reader.proofs.pass.pass.Goals as goal

pub returns-in_err-song-clause-passes : goal.returns-in_err-song-clause-passes
unfolding file
returns-in_err-song-clause-passes g c =
    record { programs = []; parts = []; losses = []; reads = read_exit c.branch-song.ensures c.in_err-song.is c.from_residual.ensures (fails _ c.in_err-song.ensures.reads) }

pub returns-in_err-at-clause-passes : goal.returns-in_err-at-clause-passes
unfolding common_time reports
returns-in_err-at-clause-passes g c =
    passes_not c.branch-at.ensures c.in_err-at.is c.from_residual-in_err-at.ensures
    (walked _ _ (took c.in_ok-song.ensures.reads refl) c.before_bars.ensures c.song_losses-lost.ensures c.headers-at.ensures c.all_tracks-at.ensures c.before_beats-page.ensures (all_held c.in_ok-song.ensures.most c.all_tracks-at.auto.parts c.requires) c.all_bars.ensures.bars)

pub returns-clause-passes : goal.returns-clause-passes
unfolding common_time reports
returns-clause-passes g c =
    passes c.branch-at.ensures c.in_ok-at.is
    (walked _ _ (took c.in_ok-song.ensures.reads refl) c.before_bars.ensures c.song_losses-lost.ensures c.headers-at.ensures c.all_tracks-at.ensures c.before_beats-page.ensures (all_held c.in_ok-song.ensures.most c.all_tracks-at.auto.parts c.requires) c.all_bars.ensures.bars)
