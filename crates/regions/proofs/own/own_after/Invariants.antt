-- `regions::own::own_after` meets its contract. The invariant: the walk over the lines that are left ends as that over all. Assumes nothing.
use mathlib.Core.Path.{◌≡◌}
use Rattle.text.specs.Lines.{pieces}
use Rattle.regions.specs.Own.{own_after}
use Rattle.regions.proofs.own.own_after.Given as goal

abbrev pub invariant-loop-line : goal.invariant-loop-line
invariant-loop-line l = own_after l.own l.line-iterator ≡ own_after l.initial.own (pieces l.s)
