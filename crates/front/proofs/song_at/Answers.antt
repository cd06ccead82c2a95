-- One part after another.
use Rattle.std.proofs.lemmas.Result.{IfOk-from_err}
use Rattle.format.proofs.Rules.{read, read_exit, next, fails, ended, at_first, place_then, place_broke}
use Rattle.score.specs.File.{opening}
use Rattle.front.proofs.Within.{tracks_within}
use Rattle.front.proofs.song_at.Goals as goal

pub returns-in_err-version : goal.returns-in_err-version
unfolding opening
returns-in_err-version c =
    record { most = IfOk-from_err _ _ c.from_residual.ensures.0; reads = read_exit c.branch-version.ensures c.in_err-version.is c.from_residual.ensures (fails _ c.in_err-version.ensures) }

pub returns-in_err-info : goal.returns-in_err-info
unfolding opening
returns-in_err-info c =
    record { most = IfOk-from_err _ _ c.from_residual-in_err-info.ensures.0; reads = read_exit c.branch-info.ensures c.in_err-info.is c.from_residual-in_err-info.ensures (next _ c.in_ok-version.ensures (fails _ c.in_err-info.ensures)) }

pub returns-in_err-swing : goal.returns-in_err-swing
unfolding opening
returns-in_err-swing c =
    record { most = IfOk-from_err _ _ c.from_residual-in_err-swing.ensures.0; reads = read_exit c.branch-swing.ensures c.in_err-swing.is c.from_residual-in_err-swing.ensures (next _ c.in_ok-version.ensures (next _ c.in_ok-info.ensures (fails _ c.in_err-swing.ensures))) }

pub returns-in_err-lyrics : goal.returns-in_err-lyrics
unfolding opening
returns-in_err-lyrics c =
    record { most = IfOk-from_err _ _ c.from_residual-in_err-lyrics.ensures.0; reads = read_exit c.branch-lyrics.ensures c.in_err-lyrics.is c.from_residual-in_err-lyrics.ensures (next _ c.in_ok-version.ensures (next _ c.in_ok-info.ensures (next _ c.in_ok-swing.ensures (fails _ c.in_err-lyrics.ensures)))) }

pub returns-in_err-tempo : goal.returns-in_err-tempo
unfolding opening
returns-in_err-tempo c =
    record { most = IfOk-from_err _ _ c.from_residual-in_err-tempo.ensures.0; reads = read_exit c.branch-tempo.ensures c.in_err-tempo.is c.from_residual-in_err-tempo.ensures (next _ c.in_ok-version.ensures (next _ c.in_ok-info.ensures (next _ c.in_ok-swing.ensures (next _ c.in_ok-lyrics.ensures (fails _ c.in_err-tempo.ensures))))) }

pub returns-in_err-at : goal.returns-in_err-at
unfolding opening
returns-in_err-at c =
    record { most = IfOk-from_err _ _ c.from_residual-in_err-at.ensures.0; reads = read_exit c.branch-at.ensures c.in_err-at.is c.from_residual-in_err-at.ensures (next _ c.in_ok-version.ensures (next _ c.in_ok-info.ensures (next _ c.in_ok-swing.ensures (next _ c.in_ok-lyrics.ensures (next _ c.in_ok-tempo.ensures (at_first _ (place_broke c.channel_table_at.ensures.gives c.branch-at.ensures c.in_err-at.is))))))) }

pub returns-in_err-directions : goal.returns-in_err-directions
unfolding opening
returns-in_err-directions c =
    record { most = IfOk-from_err _ _ c.from_residual-in_err-directions.ensures.0; reads = read_exit c.branch-directions.ensures c.in_err-directions.is c.from_residual-in_err-directions.ensures (next _ c.in_ok-version.ensures (next _ c.in_ok-info.ensures (next _ c.in_ok-swing.ensures (next _ c.in_ok-lyrics.ensures (next _ c.in_ok-tempo.ensures (place_then c.channel_table_at.ensures.gives c.branch-at.ensures _ c.in_ok-at.is (fails _ c.in_err-directions.ensures))))))) }

pub returns-in_err-counts : goal.returns-in_err-counts
unfolding opening
returns-in_err-counts c =
    record { most = IfOk-from_err _ _ c.from_residual-in_err-counts.ensures.0; reads = read_exit c.branch-counts.ensures c.in_err-counts.is c.from_residual-in_err-counts.ensures (next _ c.in_ok-version.ensures (next _ c.in_ok-info.ensures (next _ c.in_ok-swing.ensures (next _ c.in_ok-lyrics.ensures (next _ c.in_ok-tempo.ensures (place_then c.channel_table_at.ensures.gives c.branch-at.ensures _ c.in_ok-at.is (next _ c.in_ok-directions.ensures (fails _ c.in_err-counts.ensures)))))))) }

pub returns : goal.returns
unfolding opening
returns c =
    record { most = tracks_within _ _ _ _ c.in_ok-counts.ensures; reads = read (next _ c.in_ok-version.ensures (next _ c.in_ok-info.ensures (next _ c.in_ok-swing.ensures (next _ c.in_ok-lyrics.ensures (next _ c.in_ok-tempo.ensures (place_then c.channel_table_at.ensures.gives c.branch-at.ensures _ c.in_ok-at.is (next _ c.in_ok-directions.ensures (next _ c.in_ok-counts.ensures ended)))))))) }
