-- `member::lines::next_heading` meets its contract. The invariant: the lines between the cursor at first and now are no headings. Assumes nothing.
use Prim.Native.Nat.{suc, ◌-◌}
use lib.ListN.{length}
use Rattle.member.proofs.HeadingLaws.{NoHeadings}
use Rattle.member.proofs.lines.next_heading.Given as goal

abbrev pub invariant-loop-line : goal.invariant-loop-line
invariant-loop-line l = NoHeadings l.s l.initial.cursor l.cursor

abbrev pub decreases-loop-line : goal.decreases-loop-line
decreases-loop-line l = suc (length l.s) - l.cursor.at
