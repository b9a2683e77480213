-- `resolve::resolved_length` meets its contract. The invariant: the parts found make up a text of `n` bytes. Assumes nothing.
use Rattle.resolve.proofs.ResolveLaws.{measured_start, measured_on}
use Rattle.resolve.proofs.resolved_length.Goals as goal

pub loop-before-init : goal.loop-before-init
loop-before-init c = let a = c.args in rw c.from_end-c.ensures (measured_start a.dir.now a.path.now)

pub loop-before-preserved : goal.loop-before-preserved
loop-before-preserved c = rw c.lengthen-n.ensures (measured_on c.loop-before.invariant c.in-Some.ensures)
