-- One pass over a file, on words: what its end says of the file as it is scored on lists.
use Prim.Native.Nat.{ℕ, ◌*◌, ◌≤◌, ◌<◌}
use mathlib.Core.Path.{◌≡◌, refl, sym, ◌∙◌}
use mathlib.Core.Bool.{true}
use mathlib.Core.List.{List}
use native.Mathlib.Omega.{arith}
use lib.ListN.{length, get_or}
use Rattle.format.specs.declared.Stop.{Stop}
use Rattle.format.specs.Verdict.{LIMIT, whole, stop_verdict, as_verdict, up_to, verdict}
use Rattle.format.specs.Prog.{Res, ok, stopped, run}
use Rattle.format.specs.Yields.{Bytes}
use Rattle.format.proofs.Verdict.{upto_within, upto_bytes, end_of, verdict_upto}
use Rattle.model.specs.Kinds.{tempo_of}
use Rattle.entries.proofs.Fits.{BarFits}
use Rattle.entries.specs.Words.{tempo_at}
use Rattle.score.specs.Bars.{no_bar}
use Rattle.score.specs.File.{file}
use Rattle.score.proofs.Follow.{Agreed, Both, alike}
use Rattle.score.specs.Page.{keeping}
use Rattle.score.specs.Reading.{Tables, Score, needed, entries, enough, filled}
use Rattle.score.specs.Score.{scored}
use Rattle.words.specs.Lent.{Lent, lent}
use Rattle.words.specs.Words.{part_stride, words}
use Rattle.refine.proofs.All.{all_get}
use Rattle.refine.proofs.Alike.{Room}
use Rattle.refine.proofs.Fit.{shows, words_alike}
use Rattle.refine.proofs.Ops.{tempo_loads}
use Rattle.words.specs.Left.{needed_by, entries_by}
use Rattle.refine.proofs.Rooms.{WordScore, tables_of}
use Rattle.refine.proofs.Rooms.{needed_shown, entries_shown, enough_room}

-- what may be read of a file d, read on the words of t
abbrev pub one_pass : List ℕ → Lent → Res WordScore
one_pass d t = run (file (keeping (words (up_to LIMIT d)) (lent t))) (up_to LIMIT d) 0

-- the lent tables after a pass
abbrev pub tables_after : WordScore → Tables
tables_after y =
    record {
      bars = y.bars.bars;
      tracks = y.tracks.tracks;
      rows = y.bars.rows;
      members = y.bars.members;
      points = y.bars.points;
      texts = y.bars.texts;
    }

-- what a pass leaves where there is room for all that is kept
pub record Entered (t : Lent) (x : Score) (y : WordScore) : Type 0 where
  pub tables : tables_after y ≡ filled (tables_of t) x
  pub entries : entries_by y.song.counts y.bars.tally ≡ entries x
  -- the tempo of bar 0
  pub tempo : tempo_of (get_or y.bars.bars tempo_at 0) ≡ (get_or x.bars.bars 0 no_bar).tempo

-- a pass that comes to its end
pub record Passed (d : List ℕ) (t : Lent) (y : WordScore) (n : ℕ) : Type 0 where
  pub score : Score
  pub is : verdict scored d ≡ whole score n
  pub song : score.song ≡ y.song
  pub needs : needed_by y.song.counts y.bars.tally ≡ needed score
  pub losses : y.bars.tally.losses ≡ score.bars.tally.losses
  pub entered : enough (needed score) (tables_of t) ≡ true → Entered t score y

module _ (s : List ℕ) (t : Lent) (x : Score) (y : WordScore) (n : ℕ) (r : Agreed s (shows s t) x y n) where
  tables_shown : Room s t x.bars → tables_after y ≡ filled (tables_of t) x
  unfolding filled
  tables_shown m =
      let w = r.bars.tables m in
      λ i. record {
        bars = w.bars i;
        tracks = r.tracks.tracks i;
        rows = w.rows i;
        members = w.members i;
        points = w.points i;
        texts = w.texts i;
      }

  tempo_shown : Room s t x.bars → tempo_of (get_or y.bars.bars tempo_at 0) ≡ (get_or x.bars.bars 0 no_bar).tempo
  tempo_shown m =
      let k : 0 < length x.bars.bars = omega (arith, r.bars.bars_number, r.counts.bars) in
      rw (r.bars.tables m).bars
      (tempo_loads s t.bars 0 x.bars.bars k m.bars
      (all_get BarFits x.bars.bars 0 no_bar r.bars.bars_fit k).tempo)

  entered : enough (needed x) (tables_of t) ≡ true → Entered t x y
  entered h =
      let m : Room s t x.bars = enough_room s t x h in
      record { tables = tables_shown m; entries = entries_shown s t x y n r m; tempo = tempo_shown m }

module _ (d : List ℕ) (bytes : Bytes d) (t : Lent) (own : 100 * part_stride ≤ length t.parts) where
  abbrev u : List ℕ
  u = up_to LIMIT d

  both_pass : Both (Agreed u (shows u t)) (run scored u 0) (one_pass d t)
  unfolding scored
  both_pass =
      (alike (upto_bytes LIMIT d bytes) (words_alike u (upto_within LIMIT d) t own)).follows (omega arith)

  pub stopped_pass : (x : Stop) → one_pass d t ≡ stopped x → verdict scored d ≡ stop_verdict (end_of d) x
  stopped_pass x e = rw (verdict_upto scored d) (go (run scored u 0) (rw e at both_pass))
    where
      go : (o : Res Score) → Both (Agreed u (shows u t)) o (stopped x) → as_verdict (end_of d) o ≡ stop_verdict (end_of d) x
      go (ok a n) r = absurd r
      go (stopped z) r = rw r

  pub whole_pass : (y : WordScore) (n : ℕ) → one_pass d t ≡ ok y n → Passed d t y n
  whole_pass y n e = go (run scored u 0) refl (rw e at both_pass)
    where
      go : (o : Res Score) → run scored u 0 ≡ o → Both (Agreed u (shows u t)) o (ok y n) → Passed d t y n
      go (stopped z) k r = absurd r
      go (ok x m) k r =
          record {
            score = x;
            is = rw (verdict_upto scored d, k, r.0);
            song = r.1.song;
            needs = needed_shown u t x y m r.1;
            losses = r.1.bars.losses;
            entered = entered u t x y m r.1;
          }

-- two passes over one file, on the words of any tables, are of the same score and use the same bytes
pub same_score : (d : List ℕ) (t v : Lent) (y z : WordScore) (n m : ℕ) (p : Passed d t y n) (q : Passed d v z m)
    → (p.score ≡ q.score) × (n ≡ m)
same_score d t v y z n m p q =
    let e : whole p.score n ≡ whole q.score m = sym p.is ∙ q.is in (cc, cc)
