-- A pass, then the answer. The tables are lent on, and given back as they were left.
use native.Mathlib.Omega.{arith}
use lib.ListN.{replicate}
use Rattle.std.proofs.Common.{rules, ◌≡◌}
use Rattle.format.proofs.Run.{clash}
use Rattle.reader.proofs.Ends.{same_read}
use Rattle.reader.proofs.fill.Goals as goal

pub returns-in_default-clause-fills : goal.returns-in_default-clause-fills
returns-in_default-clause-fills c =
    let page = c.pass-read.new.page in
    let bars : c.lent-5-1.given.0 ≡ page.bars.now = search rules in
    let rows : c.lent-4-1.given.0 ≡ page.rows.now = search rules in
    let members : c.lent-3-1.given.0 ≡ page.members.now = search rules in
    let points : c.lent-2-1.given.0 ≡ page.points.now = search rules in
    let texts : c.lent-1.given.0 ≡ page.texts.now = search rules in
    rw (bars, rows, members, points, texts)
    (record { parts = replicate 4200 0; left = _; read = _; own = omega arith; passes = c.pass-read.ensures.passes; answers = λ p used e. clash (cc) })

pub returns-clause-fills : goal.returns-clause-fills
returns-clause-fills c =
    let page = c.pass-read.new.page in
    let bars : c.lent-5-1.given.0 ≡ page.bars.now = search rules in
    let rows : c.lent-4-1.given.0 ≡ page.rows.now = search rules in
    let members : c.lent-3-1.given.0 ≡ page.members.now = search rules in
    let points : c.lent-2-1.given.0 ≡ page.points.now = search rules in
    let texts : c.lent-1.given.0 ≡ page.texts.now = search rules in
    rw (bars, rows, members, points, texts)
    (record { parts = replicate 4200 0; left = _; read = _; own = omega arith; passes = c.pass-read.ensures.passes; answers = λ p used e. let same = same_read e c.in-Ok.is in rw (same.0, same.1) (rw bars at c.answer_of.ensures) })
