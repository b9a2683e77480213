-- `scan::seek::skip_blocks` meets its contract. The invariant: no hint stands in the blocks before block k, nor at its start or the next
-- byte. Blocks overlap by two bytes.
-- Assumes nothing.
use Prim.Native.Nat.{◌+◌, ◌*◌, ◌/◌}
use mathlib.Core.Path.{◌≡◌, sym}
use lib.ListN.{length}
use native.Mathlib.Nat.{add-zero}
use native.Mathlib.Omega.{arith}
use Rattle.scan.specs.Skip.{hint}
use Rattle.scan.proofs.SkipLaws.{three-start, three_block, three-within, three_joined}
use Rattle.scan.proofs.seek.skip_blocks.Goals as goal

pub loop-k-init : goal.loop-k-init
loop-k-init c = rw add-zero (three-start hint c.args.s.now c.args.from)

pub returns-then-block_has_hint : goal.returns-then-block_has_hint
returns-then-block_has_hint c =
    let a = c.args in
    let i = a.from + 64 * c.loop-k.k in
    (omega arith, (omega arith, three-within hint a.s.now a.from a.from i (i + 2) (omega arith) (omega arith) (omega arith) c.loop-k.invariant))

pub loop-k-preserved : goal.loop-k-preserved
loop-k-preserved c =
    let a = c.args in
    let i = a.from + 64 * c.loop-k.k in
    let n : a.from + 64 * (c.loop-k.k + 1) ≡ i + 64 = omega arith in
    rw n (three_block hint a.s.now a.from i 64 (omega arith) c.loop-k.invariant (sym c.if-block_has_hint.ensures))

pub returns-then-has_hint : goal.returns-then-has_hint
returns-then-has_hint c =
    let a = c.args in
    let i = a.from + 64 * (c.saturating_sub-blocks.result / 64) in
    let k : c.loop-k.k ≡ c.saturating_sub-blocks.result / 64 = omega arith in
    (omega arith, (omega arith, three-within hint a.s.now a.from a.from i (i + 2) (omega arith) (omega arith) (omega arith) (rw k at c.loop-k.invariant)))

pub returns-else-has_hint : goal.returns-else-has_hint
returns-else-has_hint c =
    let a = c.args in
    let i = a.from + 64 * (c.saturating_sub-blocks.result / 64) in
    let k : c.loop-k.k ≡ c.saturating_sub-blocks.result / 64 = omega arith in
    (omega arith, (omega arith, three_joined hint a.s.now a.from i (length a.s.now) (omega arith) (omega arith) (rw k at c.loop-k.invariant) (sym c.if-has_hint.ensures)))
