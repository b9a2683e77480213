-- `bytes::after_last` meets its contract. The invariant: b stands in no block passed. Assumes nothing.
use Prim.Native.Nat.{◌+◌, ◌*◌, ◌-◌}
use mathlib.Core.Path.{◌≡◌, ◌∙◌, sym}
use native.Mathlib.Omega.{arith}
use lib.ListN.{length}
use Rattle.text.specs.Bytes.{is}
use Rattle.text.proofs.BytesLaws.{after_block}
use Rattle.text.proofs.bytes.after_last.Goals as goal

pub loop-k-preserved : goal.loop-k-preserved
loop-k-preserved c =
    let s = c.args.s.now in
    let e = length s - 16 * c.loop-k.k in
    let q : length s - 16 * (c.loop-k.k + 1) ≡ e - 16 = omega arith in
    rw q (after_block (is c.args.b) s (e - 16) e (omega arith) (sym c.block_has.ensures ∙ c.if-block_has.false) ∙ c.loop-k.invariant)
