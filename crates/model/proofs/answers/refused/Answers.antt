use native.Mathlib.Omega.{arith}
use Rattle.std.specs.Prelude.{◌≡◌}
use Rattle.model.specs.declared.Sizes.{Sizes}
use Rattle.model.specs.declared.Losses.{Losses}
use Rattle.model.specs.declared.Song.{Song}
use Rattle.model.specs.Answers.{refusal, no_song, no_sizes, no_losses, losses_of}
use Rattle.model.proofs.answers.refused.Goals as goal

pub returns : goal.returns
unfolding no_losses losses_of
returns c =
    let counts : c.default.result ≡ no_sizes = grind (arith, c.default.ensures) in
    let rooms : c.default-2.result ≡ no_sizes = grind (arith, c.default-2.ensures) in
    let losses : c.default-3.result ≡ no_losses = grind (arith, c.default-3.ensures) in
    rw (c.no_song.ensures, counts, rooms, losses)
