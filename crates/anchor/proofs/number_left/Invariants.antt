-- `anchor::number_left` meets its contract. The invariant: going on with what is left of the anchor gives the number. Assumes nothing.
use Prim.Native.Nat.{◌<◌}
use mathlib.Core.Path.{◌≡◌}
use Rattle.anchor.specs.Anchor.{anchor_from, number_from}
use Rattle.anchor.proofs.number_left.Given as goal

abbrev pub invariant-loop-byte : goal.invariant-loop-byte
invariant-loop-byte l = (l.n < 0x100_0000_0000) × (number_from l.n l.byte-iterator ≡ number_from 0 (anchor_from l.fn.from l.text))
