-- `prepare_all` meets its contract. The invariant: the members up to a place are prepared. Assumes nothing.
use Rattle.std.specs.Prelude.{◌≡◌, Some, None, Err}
use native.Mathlib.Omega.{arith}
use Rattle.answer.specs.declared.Refusal.TheVariants.{NoTitle}
use Rattle.preparation.proofs.PrepareLaws.{far_inside, far_stops, far_next}
use Rattle.preparation.proofs.prepare_all.Goals as goal

pub bytes-text-requires : goal.bytes-text-requires
bytes-text-requires c = far_inside c.loop-member.invariant c.loop-member.auto.members c.loop-member-test.true _ _ _ c.requires

pub returns-in_err-member : goal.returns-in_err-member
returns-in_err-member c =
    let e : c.prepare.result ≡ None = grind arith in
    let r : c.from_residual.result ≡ Err (NoTitle _) = grind arith in
    rw r (far_stops c.loop-member.invariant c.loop-member.auto.members c.loop-member-test.true _ (rw (e, c.bytes-text.ensures.text) at c.prepare.ensures))

pub loop-member-preserved : goal.loop-member-preserved
loop-member-preserved c =
    let e : c.prepare.result ≡ Some c.in_ok-member.field-0 = grind arith in
    far_next c.loop-member.invariant c.loop-member.auto.members c.loop-member-test.true _ c.in_ok-member.field-0 (rw (e, c.bytes-text.ensures.text) at c.prepare.ensures)
