-- `scan::seek::block_has_hint` meets its contract: where there is no trace there is no hint.
-- Assumes nothing.
use mathlib.Core.Path.{sym, ◌∙◌}
use Rattle.scan.proofs.SkipLaws.{no_trace}
use Rattle.scan.proofs.seek.block_has_hint.Goals as goal

pub returns-else-has_trace : goal.returns-else-has_trace
returns-else-has_trace c = c.if-has_trace.false ∙ sym (no_trace c.args.s.now (sym c.if-has_trace.ensures))
