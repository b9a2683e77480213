-- `pattern::find` meets its contract. The invariant: p stands at no place passed. Assumes nothing.
use Prim.Native.Nat.{◌-◌, ◌≤◌}
use mathlib.Core.Path.{◌≡◌}
use lib.ListN.{length, drop}
use Rattle.text.specs.Pattern.{find, later}
use Rattle.text.proofs.pattern.find.Given as goal

abbrev pub invariant-loop-i : goal.invariant-loop-i
invariant-loop-i l = (l.i ≤ length l.s) × (find l.p l.s ≡ later l.i (find l.p (drop l.i l.s)))

abbrev pub decreases-loop-i : goal.decreases-loop-i
decreases-loop-i l = length l.s - l.i
