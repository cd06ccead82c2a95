use Rattle.model.specs.Answers.{losses_of}
use Rattle.model.proofs.answers.losses_of.Goals as goal

pub returns : goal.returns
unfolding losses_of
returns c =
    rw (c.load-17.ensures, c.load-16.ensures, c.load-15.ensures, c.load-14.ensures, c.load-13.ensures, c.load-12.ensures, c.load-11.ensures, c.load-10.ensures, c.load-9.ensures, c.load-8.ensures, c.load-7.ensures, c.load-6.ensures, c.load-5.ensures, c.load-4.ensures, c.load-3.ensures, c.load-2.ensures, c.load.ensures)
