-- `pattern::ends_with` meets its contract. Assumes nothing.
use borrow.Author.Tests.{le-leb, lt-leb}
use Rattle.text.specs.Pattern.{ends_with}
use Rattle.text.proofs.BytesLaws.{rest}
use Rattle.text.proofs.pattern.ends_with.Goals as goal

pub returns-then-p-s : goal.returns-then-p-s
unfolding ends_with
returns-then-p-s c = rw (le-leb _ _ c.if-p-s.true) (rw rest at c.starts_with.ensures)

pub returns-else-p-s : goal.returns-else-p-s
unfolding ends_with
returns-else-p-s c = rw (lt-leb _ _ c.if-p-s.false)
