-- `member::lines::pass` meets its contract. The invariant: `Passing`, lines passed over from the cursor on. Assumes nothing.
use Prim.Native.Nat.{suc, ◌-◌}
use lib.ListN.{length}
use Rattle.member.proofs.PassedLaws.{Passing}
use Rattle.member.proofs.lines.pass.Given as goal

abbrev pub invariant-loop-stop : goal.invariant-loop-stop
invariant-loop-stop l = Passing l.s l.unlinked (record { at = l.initial.at; line = l.initial.line; state = l.state }) l.initial.last l.at l.line l.last

abbrev pub decreases-loop-stop : goal.decreases-loop-stop
decreases-loop-stop l = suc (length l.s) - l.at
