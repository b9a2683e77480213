-- `line_events::put_marked` meets its contract: the spans, then the problem that stopped them. Assumes nothing.
use Rattle.line_events.proofs.SpanLaws.{stop_problem}
use mathlib.Core.Path.{sym, ◌∙◌}
use Rattle.line_events.proofs.put_marked.Goals as goal

pub returns-in-Some-clause-held : goal.returns-in-Some-clause-held
returns-in-Some-clause-held c =
    let spans = c.put_spans.ensures in
    stop_problem _ _ _ _ _ spans.spans _ (sym c.in-Some.is ∙ spans.stop) c.put.ensures.held
