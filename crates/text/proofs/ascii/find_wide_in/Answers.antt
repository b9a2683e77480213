-- `ascii::find_wide_in` meets its contract. Assumes nothing.
use mathlib.Core.Path.{sym, ◌∙◌}
use native.Mathlib.Omega.{arith}
use Rattle.text.specs.Ascii.{is_wide}
use Rattle.text.proofs.BytesLaws.{first_none}
use Rattle.text.proofs.ascii.find_wide_in.Goals as goal

pub returns-else-has_wide : goal.returns-else-has_wide
returns-else-has_wide c = omega (arith, first_none is_wide c.args.s.now (sym c.has_wide.ensures ∙ c.if-has_wide.false))
