-- `ascii::find_wide` meets its contract. The invariant: no such byte stands in the blocks passed. Assumes nothing.
use Prim.Native.Nat.{◌+◌, ◌*◌}
use mathlib.Core.Path.{◌≡◌}
use lib.ListN.{drop}
use Rattle.text.specs.Bytes.{first}
use Rattle.text.specs.Ascii.{is_wide}
use Rattle.text.proofs.ascii.find_wide.Given as goal

abbrev pub invariant-loop-k : goal.invariant-loop-k
invariant-loop-k l = 256 * l.k + first is_wide (drop (256 * l.k) l.s) ≡ first is_wide l.s
