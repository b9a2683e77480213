-- `bytes::count_byte` meets its contract. The invariant: what was counted, and what is left. Assumes nothing.
use Prim.Native.Nat.{◌+◌, ◌*◌}
use mathlib.Core.Path.{◌≡◌}
use lib.ListN.{drop}
use Rattle.text.specs.Bytes.{is, count}
use Rattle.text.proofs.bytes.count_byte.Given as goal

abbrev pub invariant-loop-k : goal.invariant-loop-k
invariant-loop-k l = l.n + count (is l.b) (drop (192 * l.k) l.s) ≡ count (is l.b) l.s
