-- `members::read` meets its contract: a name that no record has. Assumes nothing.
use mathlib.Core.Path.{sym, ◌∙◌}
use Rattle.fileset.proofs.MemberLaws.{absent-here}
use Rattle.fileset.proofs.members.read.Goals as goal

pub returns-in_default-clause-value : goal.returns-in_default-clause-value
returns-in_default-clause-value c = rw c.len.ensures.value (absent-here _ c.in-Some.ensures.steps _ (sym c.find.ensures ∙ c.in_default.is) ∙ c.loop-name.invariant.absent)
