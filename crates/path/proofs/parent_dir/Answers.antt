-- `path::parent_dir` meets its contract. Assumes nothing.
use native.Mathlib.Omega.{arith}
use Rattle.path.proofs.parent_dir.Goals as goal

pub returns-then-e-eq0 : goal.returns-then-e-eq0
returns-then-e-eq0 c = (rw (← c.after_last-e.ensures.0, c.if-e-eq0.true), omega arith)

pub returns : goal.returns
returns c = (rw (← c.after_last-e.ensures.0), omega arith)
