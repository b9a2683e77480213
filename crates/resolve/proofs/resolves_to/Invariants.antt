-- `resolve::resolves_to` meets its contract. The invariant: the parts found make up the name's bytes from `at` on. Assumes nothing.
use Prim.Native.Nat.{◌≤◌}
use lib.ListN.{length, drop}
use Rattle.path.specs.Backward.{weight}
use Rattle.path.proofs.PathLaws.{Reached}
use Rattle.resolve.proofs.resolves_to.Given as goal

abbrev pub invariant-loop-before : goal.invariant-loop-before
invariant-loop-before l = (l.at ≤ length l.name) × Reached l.dir l.path l.c (drop l.at l.name)

abbrev pub decreases-loop-before : goal.decreases-loop-before
decreases-loop-before l = weight l.dir l.c
