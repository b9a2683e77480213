-- `target::find_member` meets its contract. The invariant: none of the members behind those that are left has the name. Assumes nothing.
use Prim.Native.Nat.{◌-◌}
use lib.ListN.{length}
use Rattle.target.proofs.TitleLaws.{Seeking}
use Rattle.target.proofs.find_member.Given as goal

abbrev pub invariant-loop-member : goal.invariant-loop-member
invariant-loop-member l = Seeking l.index l.members l.name (length l.members - length l.yielded)
