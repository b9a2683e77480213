-- `self_links::cut::next_cut` meets its contract. The invariant: the bytes passed stay as they are. Assumes nothing.
use Prim.Native.Nat.{◌-◌}
use lib.ListN.{length}
use Rattle.self_links.proofs.CutLaws.{Passed}
use Rattle.self_links.proofs.cut.next_cut.Given as goal

abbrev pub invariant-loop-link : goal.invariant-loop-link
invariant-loop-link l = Passed l.embedding.host.now l.embedding.dir.now l.line l.from l.i

abbrev pub decreases-loop-link : goal.decreases-loop-link
decreases-loop-link l = length l.line - l.i
