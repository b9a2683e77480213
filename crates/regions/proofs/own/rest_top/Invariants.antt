-- `regions::own::rest_top` meets its contract. The invariant: the walk over what is left ends as that from the first cursor on. Assumes nothing.
use Prim.Native.Nat.{◌-◌}
use mathlib.Core.Path.{◌≡◌}
use lib.ListN.{length}
use Rattle.regions.specs.Hosts.{LineFrom, blanked_at}
use Rattle.regions.specs.Own.{own_after}
use Rattle.regions.proofs.own.rest_top.Given as goal

abbrev pub invariant-loop-behind : goal.invariant-loop-behind
invariant-loop-behind l = LineFrom l.s l.cursor × (own_after l.own (blanked_at l.s l.cursor) ≡ own_after l.initial.own (blanked_at l.s l.initial.cursor))

abbrev pub decreases-loop-behind : goal.decreases-loop-behind
decreases-loop-behind l = length l.s - l.cursor.at
