-- `scan::seek::has_trace` meets its contract. The invariant: what was seen, or what is left.
-- Assumes nothing.
use mathlib.Core.Path.{◌≡◌}
use mathlib.Core.Bool.{◌||◌}
use lib.ListN.{drop}
use Rattle.scan.specs.Skip.{any_three, trace}
use Rattle.scan.proofs.seek.has_trace.Given as goal

abbrev pub invariant-loop-j : goal.invariant-loop-j
invariant-loop-j l = (l.hit || any_three trace (drop l.j l.s)) ≡ any_three trace l.s
