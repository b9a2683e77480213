-- `space::kept` meets its contract. Assumes nothing.
use Prim.Native.Nat.{◌+◌, ◌*◌, ◌-◌}
use mathlib.Core.Path.{◌≡◌, ◌∙◌, sym}
use native.Mathlib.Omega.{arith}
use lib.ListN.{length}
use Rattle.text.specs.Space.{is_other, kept}
use Rattle.text.proofs.BytesLaws.{after_block}
use Rattle.text.proofs.space.kept.Goals as goal

pub loop-k-preserved : goal.loop-k-preserved
unfolding kept
loop-k-preserved c =
    let s = c.args.s.now in
    let e = length s - 16 * c.loop-k.k in
    let q : length s - 16 * (c.loop-k.k + 1) ≡ e - 16 = omega arith in
    rw q (after_block is_other s (e - 16) e (omega arith) (sym c.block_has_other.ensures ∙ c.if-block_has_other.false) ∙ c.loop-k.invariant)
