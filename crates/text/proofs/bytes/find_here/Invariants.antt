-- `bytes::find_here` meets its contract. The invariant: b stands at no place passed. Assumes nothing.
use Prim.Native.Nat.{◌+◌, ◌-◌}
use mathlib.Core.Path.{◌≡◌}
use lib.ListN.{length, drop}
use Rattle.text.specs.Bytes.{is, first}
use Rattle.text.proofs.bytes.find_here.Given as goal

abbrev pub invariant-loop-i : goal.invariant-loop-i
invariant-loop-i l = l.i + first (is l.b) (drop l.i l.s) ≡ l.from + first (is l.b) (drop l.from l.s)

abbrev pub decreases-loop-i : goal.decreases-loop-i
decreases-loop-i l = length l.s - l.i
