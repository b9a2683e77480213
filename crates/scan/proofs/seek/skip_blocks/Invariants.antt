-- `scan::seek::skip_blocks` meets its contract. The invariant: no hint stands in the blocks before block k, nor at its start or the next
-- byte. Blocks overlap by two bytes.
-- Assumes nothing.
use Prim.Native.Nat.{◌+◌, ◌*◌}
use mathlib.Core.Path.{◌≡◌}
use mathlib.Core.Bool.{false}
use Rattle.text.specs.Bytes.{part}
use Rattle.scan.specs.Skip.{any_three, hint}
use Rattle.scan.proofs.seek.skip_blocks.Given as goal

abbrev pub invariant-loop-k : goal.invariant-loop-k
invariant-loop-k l = any_three hint (part l.from (l.from + 64 * l.k + 2) l.s) ≡ false
