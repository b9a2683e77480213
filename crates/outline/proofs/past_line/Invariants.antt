-- `outline::past_line` meets its contract. The invariant: a heading of the lines that are left goes past, the title excepted. Assumes nothing.
use Prim.Native.Nat.{suc, ◌-◌}
use lib.ListN.{length}
use Rattle.outline.proofs.BelowLaws.{Below}
use Rattle.outline.proofs.past_line.Given as goal

abbrev pub invariant-loop-line : goal.invariant-loop-line
invariant-loop-line l = Below l.shift l.s l.titled l.cursor

abbrev pub decreases-loop-line : goal.decreases-loop-line
decreases-loop-line l = suc (length l.s) - l.cursor.at
