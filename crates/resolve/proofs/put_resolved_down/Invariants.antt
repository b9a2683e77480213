-- `resolve::put_resolved_down` meets its contract. The invariant: the parts found are written from `at` to the end, and the path behind it stays.
-- Assumes nothing.
use Rattle.text.specs.Bytes.{part}
use Rattle.path.specs.Backward.{weight}
use Rattle.resolve.proofs.ResolveLaws.{Written}
use Rattle.resolve.proofs.put_resolved_down.Given as goal

abbrev pub invariant-loop-before : goal.invariant-loop-before
invariant-loop-before l = Written l.dir (part l.from l.to l.initial.work) l.end l.initial.work l.work l.at l.c

abbrev pub decreases-loop-before : goal.decreases-loop-before
decreases-loop-before l = weight l.dir l.c
