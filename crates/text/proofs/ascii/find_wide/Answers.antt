-- `ascii::find_wide` meets its contract. The invariant: no such byte stands in the blocks passed. Assumes nothing.
use Prim.Native.Nat.{◌+◌, ◌*◌}
use mathlib.Core.Path.{◌≡◌, ◌∙◌, sym}
use native.Mathlib.Omega.{arith}
use Rattle.text.specs.Ascii.{is_wide}
use Rattle.text.proofs.BytesLaws.{first_block}
use Rattle.text.proofs.ascii.find_wide.Goals as goal

pub loop-k-preserved : goal.loop-k-preserved
loop-k-preserved c =
    let s = c.args.s.now in
    let i = 256 * c.loop-k.k in
    let e : 256 * (c.loop-k.k + 1) ≡ i + 256 = omega arith in
    rw e (first_block is_wide s i (i + 256) (omega arith) (omega arith) (sym c.has_wide.ensures ∙ c.if-has_wide.false) ∙ c.loop-k.invariant)
