-- `contents::is_hand_written_toc` meets its contract: a heading's text lies within the line. Assumes nothing.
use Prim.Native.Nat.{◌≤◌}
use mathlib.Core.Path.{refl, sym, ◌∙◌}
use native.Mathlib.Omega.{arith}
use lib.ListN.{length}
use Rattle.text.specs.Pattern.{bytes}
use Rattle.heading.specs.Contents.{is_contents}
use Rattle.heading.proofs.ContentsLaws.{lowered_same}
use Rattle.heading.proofs.WalkLaws.{heading-within}
use Rattle.heading.proofs.contents.is_hand_written_toc.Goals.{In-Heading}
use Rattle.heading.proofs.contents.is_hand_written_toc.Goals as goal

within : (c : In-Heading) → (c.in-Heading.start ≤ c.in-Heading.end) × (c.in-Heading.end ≤ length c.args.line.now)
within c = (heading-within _ _ _ _ (sym c.in-Heading.ensures)).1

pub slice_bounds-title-count : goal.slice_bounds-title-count
slice_bounds-title-count c = (within (goal.at.slice_bounds-title-count c).In-Heading).0

pub slice_bounds-title-start : goal.slice_bounds-title-start
slice_bounds-title-start c = omega (arith, within (goal.at.slice_bounds-title-start c).In-Heading)

pub slice_bounds-title-end : goal.slice_bounds-title-end
slice_bounds-title-end c = (within (goal.at.slice_bounds-title-end c).In-Heading).1

pub returns-then-eq_ignore_ascii_case : goal.returns-then-eq_ignore_ascii_case
unfolding is_contents
returns-then-eq_ignore_ascii_case c =
    let e = lowered_same (bytes "contents") _ refl c.eq_ignore_ascii_case.ensures.test in
    rw (sym c.in-Heading.ensures, c.if-eq_ignore_ascii_case.true, sym e ∙ c.if-eq_ignore_ascii_case.true)

pub returns-else-eq_ignore_ascii_case : goal.returns-else-eq_ignore_ascii_case
unfolding is_contents
returns-else-eq_ignore_ascii_case c =
    let e = lowered_same (bytes "contents") _ refl c.eq_ignore_ascii_case.ensures.test in
    let f = lowered_same (bytes "table of contents") _ refl c.eq_ignore_ascii_case-else-eq_ignore_ascii_case.ensures.test in
    rw (sym c.in-Heading.ensures, sym e ∙ c.if-eq_ignore_ascii_case.false) f
