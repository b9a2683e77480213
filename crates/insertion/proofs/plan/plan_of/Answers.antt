-- `insertion::plan::plan_of` meets its contract. Assumes nothing.
use Rattle.std.specs.Prelude.{Some, Ok}
use mathlib.Core.Path.{sym, subst}
use lib.IntN.{ℤ}
use mir.Syntax.{w32}
use Rattle.std.proofs.Common.{rules}
use Rattle.std.proofs.lemmas.Int.{to_z-of_z}
use Rattle.insertion.specs.Plans.{PlanOf}
use Rattle.insertion.proofs.PlanLaws.{plan_nothing, plan_past, plan_lines}
use Rattle.insertion.proofs.plan.plan_of.Goals as goal

pub returns-then-start-end : goal.returns-then-start-end
returns-then-start-end c = plan_nothing c.blank_ends-ends.ensures c.args.target c.if-start-end.true

pub returns-in-Ok : goal.returns-in-Ok
returns-in-Ok c =
    let z : ℤ = c.in-Ok.shift in
    let h = rw c.in-Ok.is at c.shift_of.ensures in
    subst (λ (x : ℤ). PlanOf c.args.s.now c.args.target (Ok (Some (record { start = c.blank_ends-ends.result.start; end = c.blank_ends-ends.result.end; shift = x })))) (sym (to_z-of_z w32 z (search rules)))
    (plan_lines c.blank_ends-ends.ensures c.args.target c.if-start-end.false z (h.0, h.1.1))

pub returns-in-Err : goal.returns-in-Err
returns-in-Err c = plan_past c.blank_ends-ends.ensures c.args.target c.if-start-end.false c.in-Err.line (rw c.in-Err.is at c.shift_of.ensures)
