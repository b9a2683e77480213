-- `emit_all` meets its contract. The invariant: i members are emitted. Assumes nothing.
use Rattle.std.proofs.lemmas.Result.{err_from_is_err_and}
use native.Mathlib.Omega.{arith}
use mathlib.Core.Path.{refl, ◌∙◌}
use Rattle.assembly.proofs.EmittingLaws.{emitting_start, emitting_can, emitting_next, emitting_stops, emitting_full, emitting_ended}
use Rattle.assembly.proofs.emit_all.Goals as goal

pub loop-i-init : goal.loop-i-init
loop-i-init c = record { emitting = emitting_start c.args.assembly _ refl; same_reference = refl }

pub emit-requires-clause-can : goal.emit-requires-clause-can
emit-requires-clause-can c = emitting_can c.requires c.loop-i.invariant.emitting

pub returns-in_err-emit-clause-by_index : goal.returns-in_err-emit-clause-by_index
returns-in_err-emit-clause-by_index c =
    let p = err_from_is_err_and c.from_residual.result c.from_residual.ensures.1 in
    rw (p.1, p.2) (emitting_stops c.requires c.loop-i.invariant.emitting _ c.loop-i-test.true c.emit.new.running _ c.in_err-emit.ensures.added)

pub loop-i-preserved : goal.loop-i-preserved
loop-i-preserved c = record {
  emitting = emitting_next c.requires c.loop-i.invariant.emitting _ c.loop-i-test.true c.in_ok-emit.ensures.added;
  same_reference = c.in_ok-emit.ensures.same_reference ∙ c.loop-i.invariant.same_reference;
}

pub returns-in_err-answer_of-clause-by_index : goal.returns-in_err-answer_of-clause-by_index
returns-in_err-answer_of-clause-by_index c =
    let p = err_from_is_err_and c.from_residual-in_err-answer_of.result c.from_residual-in_err-answer_of.ensures.1 in
    rw (p.1, p.2) (emitting_full c.requires c.loop-i.invariant.emitting (omega arith) _ c.put_bytes.result c.put_bytes.ensures.ran _ (grind arith))

pub returns-clause-by_index : goal.returns-clause-by_index
returns-clause-by_index c =
    emitting_ended c.requires c.loop-i.invariant.emitting (omega arith) _ c.put_bytes.result c.put_bytes.ensures.ran tt (grind arith) _
    (grind (arith, c.put_bytes.ensures.same_reference, c.loop-i.invariant.same_reference))
