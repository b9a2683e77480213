-- `scan::seek::has_hint` meets its contract. The invariant: what was seen, or what is left.
-- Assumes nothing.
use mathlib.Core.Path.{◌≡◌}
use mathlib.Core.Bool.{◌||◌}
use lib.ListN.{drop}
use Rattle.scan.specs.Skip.{any_three, hint}
use Rattle.scan.proofs.seek.has_hint.Given as goal

abbrev pub invariant-loop-j : goal.invariant-loop-j
invariant-loop-j l = (l.hit || any_three hint (drop l.j l.s)) ≡ any_three hint l.s
