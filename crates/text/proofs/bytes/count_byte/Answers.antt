-- `bytes::count_byte` meets its contract. The invariant: what was counted, and what is left. Assumes nothing.
use Prim.Native.Nat.{◌+◌, ◌*◌, ◌/◌}
use mathlib.Core.Path.{◌≡◌}
use native.Mathlib.Omega.{arith}
use lib.ListN.{length}
use Rattle.std.proofs.lemmas.List.{take_rest}
use Rattle.text.specs.Bytes.{is}
use Rattle.text.proofs.BytesLaws.{count_block, count_le}
use Rattle.text.proofs.bytes.count_byte.Goals as goal

pub overflow_add-n : goal.overflow_add-n
overflow_add-n c =
    let f = is c.args.b in
    let i = 192 * c.loop-k.k in
    omega (arith, c.loop-k.invariant, count_block f c.args.s.now i (i + 192) (omega arith), count_le f c.args.s.now)

pub loop-k-preserved : goal.loop-k-preserved
loop-k-preserved c =
    let i = 192 * c.loop-k.k in
    let e : 192 * (c.loop-k.k + 1) ≡ i + 192 = omega arith in
    rw e (omega (arith, count_block (is c.args.b) c.args.s.now i (i + 192) (omega arith), c.loop-k.invariant))

pub overflow_add-result : goal.overflow_add-result
overflow_add-result c =
    let s = c.args.s.now in
    let n = length s / 192 in
    let e : c.loop-k.k ≡ n = omega arith in
    omega (arith, c.from.ensures, rw (take_rest s (192 * n)) at c.count_few-2.ensures, rw e at c.loop-k.invariant, count_le (is c.args.b) s)

pub returns : goal.returns
returns c =
    let s = c.args.s.now in
    let n = length s / 192 in
    let e : c.loop-k.k ≡ n = omega arith in
    let l = rw (take_rest s (192 * n)) at c.count_few-2.ensures in
    let p = rw e at c.loop-k.invariant in
    (omega (arith, c.from.ensures, l, p), omega (arith, c.from.ensures, l, p, count_le (is c.args.b) s))
