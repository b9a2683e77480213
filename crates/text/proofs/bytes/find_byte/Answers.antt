-- `bytes::find_byte` meets its contract. The invariant: b stands in no block passed. Assumes nothing.
use Prim.Native.Nat.{◌+◌, ◌*◌}
use mathlib.Core.Path.{◌≡◌, ◌∙◌, sym}
use native.Mathlib.Omega.{arith}
use Rattle.text.specs.Bytes.{is}
use Rattle.text.proofs.BytesLaws.{first_block, first-within}
use Rattle.text.proofs.bytes.find_byte.Goals as goal

pub find_here-requires : goal.find_here-requires
find_here-requires c =
    let i = c.args.from + 16 * c.loop-k.k in
    omega (arith, first-within (is c.args.b) c.args.s.now i (i + 16) (omega arith) (sym c.block_has.ensures ∙ c.if-block_has.true))

pub returns-then-block_has : goal.returns-then-block_has
returns-then-block_has c = (c.find_here.ensures.0 ∙ c.loop-k.invariant, c.find_here.ensures.1)

pub loop-k-preserved : goal.loop-k-preserved
loop-k-preserved c =
    let s = c.args.s.now in
    let i = c.args.from + 16 * c.loop-k.k in
    let e : c.args.from + 16 * (c.loop-k.k + 1) ≡ i + 16 = omega arith in
    rw e (first_block (is c.args.b) s i (i + 16) (omega arith) (omega arith) (sym c.block_has.ensures ∙ c.if-block_has.false) ∙ c.loop-k.invariant)
