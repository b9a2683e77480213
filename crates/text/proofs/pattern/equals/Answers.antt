-- `pattern::equals` meets its contract. Assumes nothing.
use mathlib.Core.Path.{◌∙◌}
use Rattle.text.proofs.PatternLaws.{equals-pointwise}
use Rattle.text.proofs.pattern.equals.Goals as goal

pub returns : goal.returns
returns c = c.eq.ensures ∙ equals-pointwise c.args.s.now c.args.p.now
