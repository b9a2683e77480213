-- `path::goes_out` meets its contract. Assumes nothing.
use borrow.Author.Tests.{eq-eqb, ne_eqb}
use Rattle.path.proofs.goes_out.Goals as goal

pub returns-then-part-eq0 : goal.returns-then-part-eq0
returns-then-part-eq0 c = rw (eq-eqb _ _ c.if-part-eq0.true)

pub returns : goal.returns
returns c = rw (ne_eqb _ _ c.if-part-eq0.false) c.equals.ensures
