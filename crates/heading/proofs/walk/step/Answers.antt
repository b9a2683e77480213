-- `walk::step` meets its contract: an empty line leaves the state. Assumes nothing.
use mathlib.Core.Path.{sym, ◌∙◌}
use borrow.Author.Tests.{eqb-true}
use Rattle.heading.proofs.StillLaws.{empty_kind, empty_after}
use Rattle.heading.proofs.walk.step.Goals as goal

pub returns-then-is_empty : goal.returns-then-is_empty
returns-then-is_empty c =
    let l = c.args.line.now in
    let e = eqb-true _ 0 (sym c.is_empty.ensures ∙ c.if-is_empty.true) in
    rw c.still.ensures (sym (empty_kind c.args.state.fence c.args.state.comment l e), sym (empty_after c.args.state.fence c.args.state.comment l e))
