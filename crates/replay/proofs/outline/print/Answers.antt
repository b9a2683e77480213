-- A heading's text lies within its line.
use Rattle.std.proofs.Common.{arith, sym, ◌∙◌}
use Rattle.heading.proofs.WalkLaws.{kind-within}
use Rattle.replay.proofs.outline.print.Goals as goal

pub slice_bounds-print_anchor-count : goal.slice_bounds-print_anchor-count
slice_bounds-print_anchor-count g c = omega (arith, kind-within _ _ _ _ _ _ (sym c.step-step.ensures.0 ∙ c.in-Heading.is))

pub slice_bounds-print_anchor-start : goal.slice_bounds-print_anchor-start
slice_bounds-print_anchor-start g c = omega (arith, kind-within _ _ _ _ _ _ (sym c.step-step.ensures.0 ∙ c.in-Heading.is))

pub slice_bounds-print_anchor-end : goal.slice_bounds-print_anchor-end
slice_bounds-print_anchor-end g c = omega (arith, kind-within _ _ _ _ _ _ (sym c.step-step.ensures.0 ∙ c.in-Heading.is))
