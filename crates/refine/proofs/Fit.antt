-- The whole file added to words shows it added to lists.
use Prim.Native.Nat.{ℕ, ◌*◌, ◌≤◌}
use mathlib.Core.List.{List}
use lib.ListN.{length}
use Rattle.format.specs.Verdict.{LIMIT}
use Rattle.score.proofs.Follow.{Relations, Alike}
use Rattle.score.specs.Page.{Heads, Staves, Walk, keeping}
use Rattle.score.specs.Score.{Lists, lists, none}
use Rattle.words.specs.Lent.{Lent, lent}
use Rattle.words.specs.Words.{part_stride, Words, words}
use Rattle.refine.proofs.Alike.{HeadsShown, StavesShown, WalkShown}
use Rattle.refine.proofs.Beats.{beat_shown, walk_later}
use Rattle.refine.proofs.Heads.{headers_start, header_shown, tracks_start, track_shown}
use Rattle.refine.proofs.Heads.{bars_start, enter_shown, staves_later}

abbrev pub shows : List ℕ → Lent
    → Relations (Heads Lists) (Heads Words) (Staves Lists) (Staves Words) (Walk Lists) (Walk Words)
shows s t =
    record {
      headers = λ g. HeadsShown s t;
      tracks = λ g. StavesShown s t;
      before = λ g b. WalkShown s t g;
      within = λ g b. WalkShown s t g;
    }

module _ (s : List ℕ) (small : length s ≤ LIMIT) (t : Lent) (own : 100 * part_stride ≤ length t.parts) where
  pub words_alike : Alike s (shows s t) (keeping lists none) (keeping (words s) (lent t))
  words_alike =
      record {
        start = λ g at _ _. headers_start s small t g at;
        header = λ g b time h x y at n _ _ _ f r. header_shown s small t g b time h x y at n f r;
        tracks = λ g x y at _ r. tracks_start s t g.counts.bars x y at r;
        track = λ g k u x y at n _ _ f r. track_shown s small t k u x y at n f r;
        bars = λ g h i u v earlier at _ q _ r. bars_start s t g h i u v earlier at q r;
        enter = λ g b x y at _ l r. enter_shown s t g b x y at l r;
        beat = λ g b k voice u x y at n few i j _ f r. beat_shown s small t own g few b k voice at n j i u f x y r;
        leave = λ g b x y at _ _ r. r;
        tracks_later = λ g k x y at n w r. staves_later s t k x y at n w.0 r;
        within_later = λ g b x y at n w r. walk_later r w.0;
      }
