-- `outline::prepare` meets its contract. The invariant: `Outlines`, what is seen of the lines before the cursor. Assumes nothing.
use native.Mathlib.Omega.{arith}
use Rattle.member.proofs.HeadingLaws.{passed_none, passed-still, line-next}
use Rattle.outline.proofs.OutlineLaws.{outlines_first, outlines_on, outlines_untitled, outlines_titled, line-placed}
use Rattle.outline.proofs.prepare.Goals as goal

pub loop-line-init : goal.loop-line-init
loop-line-init c = outlines_first c.first.ensures c.pass-passed.ensures

pub with_line-seen-requires : goal.with_line-seen-requires
with_line-seen-requires c = line-placed c.in-Some.line.kind c.in-Some.ensures (omega arith)

pub loop-line-smaller : goal.loop-line-smaller
loop-line-smaller c =
    let n = line-next c.loop-line.invariant.cursor c.in-Some.ensures in
    omega (arith, n, (passed-still (passed_none n.0) c.pass-passed-in-Some.ensures).order)

pub loop-line-preserved : goal.loop-line-preserved
loop-line-preserved c = outlines_on c.loop-line.invariant c.in-Some.ensures c.with_line-seen.ensures c.end_with-end.ensures c.pass-passed-in-Some.ensures

pub returns-in_err-title : goal.returns-in_err-title
returns-in_err-title c = rw c.from_residual.ensures (outlines_untitled c.loop-line.invariant c.in_default.ensures c.in_err-title.was)

pub returns : goal.returns
returns c = outlines_titled c.loop-line.invariant c.in_default.ensures c.in_ok-title.was
