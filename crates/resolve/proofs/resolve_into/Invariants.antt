-- `resolve::resolve_into` meets its contract. The invariant: the parts found are written from `at` to the end. Assumes nothing.
use mathlib.Core.Path.{◌≡◌}
use lib.ListN.{length}
use Rattle.path.specs.Backward.{weight}
use Rattle.resolve.proofs.ResolveLaws.{Written}
use Rattle.resolve.proofs.resolve_into.Given as goal

abbrev pub invariant-loop-before : goal.invariant-loop-before
invariant-loop-before l = (l.end ≡ length l.initial.out) × Written l.dir l.path l.end l.initial.out l.out l.at l.c

abbrev pub decreases-loop-before : goal.decreases-loop-before
decreases-loop-before l = weight l.dir l.c
