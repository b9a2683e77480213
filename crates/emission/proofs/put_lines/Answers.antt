-- `emission::put_lines` meets its contract. The invariant: the lines before the cursor are put. Assumes nothing.
use native.Mathlib.Omega.{arith}
use mathlib.Core.Path.{◌∙◌}
use mir.Syntax.{w32}
use Rattle.std.proofs.lemmas.Int.{to_z-of_z}
use Rattle.rewrite.proofs.LinkedLaws.{rewriting_same}
use Rattle.emission.proofs.PuttingLaws.{cursor_in, putting_end, block_bounds, block_over, putting_block, line_in, line-less, line_over, putting_on}
use Rattle.emission.proofs.put_lines.Goals as goal

pub put_block-requires-clause-order : goal.put_block-requires-clause-order
put_block-requires-clause-order c = block_bounds c.requires.able c.loop-running.invariant.putting (rw c.bytes.ensures.text at c.pass-passed.ensures)

pub returns-in_err-put_block-clause-ran : goal.returns-in_err-put_block-clause-ran
returns-in_err-put_block-clause-ran c =
    let i = rw (to_z-of_z w32 c.args.shift c.ranges.shift) at c.loop-running.invariant.putting in
    rw c.from_residual.ensures (block_over c.requires.able i (rw c.bytes.ensures.text at c.pass-passed.ensures) c.in_err-put_block.ensures.ran)

pub next_line-requires : goal.next_line-requires
next_line-requires c =
    let b = putting_block c.requires.able c.loop-running.invariant.putting (rw c.bytes.ensures.text at c.pass-passed.ensures) c.in_ok-put_block.ensures.ran in
    rw c.bytes-in-loop-running.ensures.text (cursor_in c.requires.able b)

pub returns-in_default-clause-ran : goal.returns-in_default-clause-ran
returns-in_default-clause-ran c =
    let i = rw (to_z-of_z w32 c.args.shift c.ranges.shift) at c.loop-running.invariant.putting in
    let b = putting_block c.requires.able i (rw c.bytes.ensures.text at c.pass-passed.ensures) c.in_ok-put_block.ensures.ran in
    putting_end c.requires.able b (rw c.bytes-in-loop-running.ensures.text at c.in_default.ensures)

pub put_next-requires-clause-line_in : goal.put_next-requires-clause-line_in
put_next-requires-clause-line_in c =
    let b = putting_block c.requires.able c.loop-running.invariant.putting (rw c.bytes.ensures.text at c.pass-passed.ensures) c.in_ok-put_block.ensures.ran in
    line_in c.requires.able b (rw c.bytes-in-loop-running.ensures.text at c.in-Some.ensures) c.moved_kind-kind.ensures

pub returns-in_err-put_next-clause-ran : goal.returns-in_err-put_next-clause-ran
returns-in_err-put_next-clause-ran c =
    let z = to_z-of_z w32 c.args.shift c.ranges.shift in
    let i = rw z at c.loop-running.invariant.putting in
    let b = putting_block c.requires.able i (rw c.bytes.ensures.text at c.pass-passed.ensures) c.in_ok-put_block.ensures.ran in
    let l = rw c.bytes-in-loop-running.ensures.text at c.in-Some.ensures in
    let f = rewriting_same c.requires.stand b.left.put c.args.assembly.url.now c.args.dir.now in
    rw c.from_residual-in_err-put_next.ensures (line_over c.requires.able b l f c.moved_kind-kind.ensures z c.in_err-put_next.ensures.ran)

pub loop-running-smaller : goal.loop-running-smaller
loop-running-smaller c =
    let h = rw c.bytes.ensures.text at c.pass-passed.ensures in
    let b = putting_block c.requires.able c.loop-running.invariant.putting h c.in_ok-put_block.ensures.ran in
    omega (arith, line-less c.requires.able b (rw c.bytes-in-loop-running.ensures.text at c.in-Some.ensures), block_bounds c.requires.able c.loop-running.invariant.putting h)

pub loop-running-preserved : goal.loop-running-preserved
loop-running-preserved c =
    let z = to_z-of_z w32 c.args.shift c.ranges.shift in
    let i = rw z at c.loop-running.invariant.putting in
    let b = putting_block c.requires.able i (rw c.bytes.ensures.text at c.pass-passed.ensures) c.in_ok-put_block.ensures.ran in
    let l = rw c.bytes-in-loop-running.ensures.text at c.in-Some.ensures in
    let f = rewriting_same c.requires.stand b.left.put c.args.assembly.url.now c.args.dir.now in
    record {
      putting = rw (c.titled_by-titled.ensures, z) (putting_on c.requires.able b l f c.moved_kind-kind.ensures z c.in_ok-put_next.ensures.ran);
      same_reference = c.in_ok-put_next.ensures.same_reference ∙ c.in_ok-put_block.ensures.same_reference ∙ c.loop-running.invariant.same_reference;
    }
