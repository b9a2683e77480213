-- `space::kept` meets its contract. The invariant: the blocks passed have space bytes alone. Assumes nothing.
use Prim.Native.Nat.{◌-◌, ◌*◌}
use mathlib.Core.Path.{◌≡◌}
use lib.ListN.{length, take}
use Rattle.text.specs.Space.{kept}
use Rattle.text.proofs.space.kept.Given as goal

abbrev pub invariant-loop-k : goal.invariant-loop-k
invariant-loop-k l = kept (take (length l.s - 16 * l.k) l.s) ≡ kept l.s
