-- `path::find_end` meets its contract. Assumes nothing.
use mathlib.Core.Path.{sym, ◌∙◌}
use lib.Seq.{drop-length}
use native.Mathlib.Omega.{arith}
use Rattle.text.proofs.PatternLaws.{ends-long, ends-drop}
use Rattle.path.proofs.find_end.Goals as goal

pub overflow_sub-result : goal.overflow_sub-result
overflow_sub-result c = ends-long _ _ (sym c.ends_with.ensures ∙ c.if-ends_with.true)

pub returns-then-ends_with : goal.returns-then-ends_with
returns-then-ends_with c = (
  omega arith,
  ends-drop _ _ (sym c.ends_with.ensures ∙ c.if-ends_with.true) ∙ rw (drop-length c.args.name.now),
)

pub returns : goal.returns
returns c = rw (drop-length c.args.name.now) (sym c.ends_with.ensures ∙ c.if-ends_with.false)
