-- `outline::prepare` meets its contract. The invariant: `Outlines`, what is seen of the lines before the cursor. Assumes nothing.
use Prim.Native.Nat.{suc, ◌-◌}
use lib.ListN.{length}
use Rattle.outline.proofs.OutlineLaws.{Outlines}
use Rattle.outline.proofs.prepare.Given as goal

abbrev pub invariant-loop-line : goal.invariant-loop-line
invariant-loop-line l = Outlines l.s l.passed.behind l.seen l.passed.end

abbrev pub decreases-loop-line : goal.decreases-loop-line
decreases-loop-line l = suc (length l.s) - l.passed.behind.at
