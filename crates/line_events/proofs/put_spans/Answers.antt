-- `line_events::put_spans` meets its contract: a span is put, and the reading goes on after its closer. Assumes nothing.
use native.Mathlib.Omega.{arith}
use mathlib.Core.Path.{refl, sym, ◌∙◌}
use Rattle.scan.proofs.ScanLaws.{span_within}
use Rattle.line_events.proofs.SpanLaws.{left_begin, left_put, left_at_problem}
use Rattle.line_events.proofs.put_spans.Goals as goal

pub markers-init : goal.markers-init
markers-init c = (omega arith, (refl, (refl, left_begin c.args.line.bytes.now c.args.n c.args.line.at _)))

pub markers-preserved : goal.markers-preserved
markers-preserved c =
    let e = sym c.in-Marked.is ∙ rw (c.from.ensures.0, c.from.ensures.1) at c.next_mark.ensures in
    let i = c.markers.invariant.1 in (
      omega (arith, span_within c.args.line.bytes.now c.args.n c.args.line.at c.markers.i _ _ e),
      (c.put.ensures.log_reference ∙ i.0, (c.put.ensures.out_reference ∙ i.1.0, left_put i.1.1 _ _ e c.put.ensures.held)),
    )

pub returns-in-Problem-clause-stop : goal.returns-in-Problem-clause-stop
returns-in-Problem-clause-stop c = (left_at_problem c.markers.invariant.1.1.1 _ (sym c.in-Problem.is ∙ rw (c.from.ensures.0, c.from.ensures.1) at c.next_mark.ensures)).1
