-- `bytes::find_byte` meets its contract. The invariant: b stands in no block passed. Assumes nothing.
use Prim.Native.Nat.{◌+◌, ◌*◌}
use mathlib.Core.Path.{◌≡◌}
use lib.ListN.{drop}
use Rattle.text.specs.Bytes.{is, first}
use Rattle.text.proofs.bytes.find_byte.Given as goal

abbrev pub invariant-loop-k : goal.invariant-loop-k
invariant-loop-k l = l.from + 16 * l.k + first (is l.b) (drop (l.from + 16 * l.k) l.s) ≡ l.from + first (is l.b) (drop l.from l.s)
