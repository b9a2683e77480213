-- `member::lines::next_heading` meets its contract. The invariant: the lines between the cursor at first and now are no headings. Assumes nothing.
use native.Mathlib.Omega.{arith}
use Rattle.member.proofs.HeadingLaws.{passed_none, passed-still, passed-end, passed-plain, passed-heading, line-next, heading_in, not_heading}
use Rattle.member.proofs.lines.next_heading.Goals as goal

pub loop-line-init : goal.loop-line-init
loop-line-init c = passed_none c.requires

pub next_line-requires : goal.next_line-requires
next_line-requires c = (passed-still c.loop-line.invariant c.pass.ensures).cursor

pub overflow_add-result : goal.overflow_add-result
overflow_add-result c = omega (arith, heading_in (rw c.in-Heading.is at c.in-Some.ensures))

pub overflow_add-result-in-Heading : goal.overflow_add-result-in-Heading
overflow_add-result-in-Heading c = omega (arith, heading_in (rw c.in-Heading.is at c.in-Some.ensures))

pub returns-in-Heading : goal.returns-in-Heading
returns-in-Heading c = passed-heading (passed-still c.loop-line.invariant c.pass.ensures) (rw c.in-Heading.is at c.in-Some.ensures)

pub loop-line-smaller : goal.loop-line-smaller
loop-line-smaller c =
    let i = c.loop-line.invariant in
    omega (arith, line-next (passed-still i c.pass.ensures).cursor c.in-Some.ensures, (passed-still (passed_none i.cursor) c.pass.ensures).order)

pub loop-line-preserved : goal.loop-line-preserved
loop-line-preserved c =
    passed-plain (passed-still c.loop-line.invariant c.pass.ensures) c.in-Some.ensures (not_heading c.in-Some.line.kind c.in_default-kind.not-Heading)

pub returns : goal.returns
returns c = passed-end (passed-still c.loop-line.invariant c.pass.ensures) (rw c.in_default.is at c.next_line.ensures)
