-- `path::find_kept` meets its contract. Assumes nothing.
use native.Mathlib.Omega.{arith}
use Rattle.path.proofs.find_kept.Goals as goal

pub slice_bounds-find_part-end : goal.slice_bounds-find_part-end
slice_bounds-find_part-end c = omega (arith, rw c.if-before.true at c.requires.0.1)

pub returns-then-before : goal.returns-then-before
returns-then-before c = rw c.if-before.true c.find_part.ensures

pub slice_bounds-find_part-end-2 : goal.slice_bounds-find_part-end-2
slice_bounds-find_part-end-2 c = omega (arith, rw c.if-before.false at c.requires.0.1)

pub returns : goal.returns
returns c = rw c.if-before.false c.find_part-2.ensures
