-- `bytes::after_last` meets its contract. The invariant: b stands in no block passed. Assumes nothing.
use Prim.Native.Nat.{◌-◌, ◌*◌}
use mathlib.Core.Path.{◌≡◌}
use lib.ListN.{length, take}
use Rattle.text.specs.Bytes.{is, after_last}
use Rattle.text.proofs.bytes.after_last.Given as goal

abbrev pub invariant-loop-k : goal.invariant-loop-k
invariant-loop-k l = after_last (is l.b) (take (length l.s - 16 * l.k) l.s) ≡ after_last (is l.b) l.s
