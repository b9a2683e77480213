-- `embedding::drop_markers` meets its contract. The invariant: what stood before the cursor is put without its marker lines, and from the cursor on
-- nothing has changed. Assumes nothing.
use Prim.Native.Nat.{◌-◌}
use Rattle.embedding.proofs.DropLaws.{Dropped}
use Rattle.embedding.proofs.drop_markers.Given as goal

abbrev pub invariant-loop-region : goal.invariant-loop-region
invariant-loop-region l = Dropped l.initial.work l.n l.work l.at l.c

abbrev pub decreases-loop-region : goal.decreases-loop-region
decreases-loop-region l = l.n - l.c.at
