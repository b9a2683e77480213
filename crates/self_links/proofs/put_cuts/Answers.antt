-- `self_links::put_cuts` meets its contract. The invariant: the source without the bytes that go is put up to place i. Assumes nothing.
use mathlib.Core.Path.{◌∙◌}
use Rattle.self_links.proofs.CuttingLaws.{cutting_end, cut_over, cut-after_over, cutting_on}
use Rattle.self_links.proofs.put_cuts.Goals as goal

pub returns-clause-ran : goal.returns-clause-ran
returns-clause-ran c = cutting_end c.requires c.loop-cut.invariant.cutting (rw c.bytes.ensures.text at c.in_default.ensures) _ c.put_part-2.result c.put_part-2.ensures.ran

pub returns-in_err-put_part-clause-ran : goal.returns-in_err-put_part-clause-ran
returns-in_err-put_part-clause-ran c =
    rw c.from_residual.ensures
    (cut_over c.requires c.loop-cut.invariant.cutting (rw c.bytes.ensures.text at c.in-Some.ensures) c.in_err-put_part.ensures.ran)

pub returns-in_err-put_part-2-clause-ran : goal.returns-in_err-put_part-2-clause-ran
returns-in_err-put_part-2-clause-ran c =
    rw c.from_residual-in_err-put_part-2.ensures
    (cut-after_over c.requires c.loop-cut.invariant.cutting (rw c.bytes.ensures.text at c.in-Some.ensures) c.in_ok-put_part.ensures.ran c.in_err-put_part-2.ensures.ran)

pub loop-cut-preserved : goal.loop-cut-preserved
loop-cut-preserved c = record {
  cutting = cutting_on c.requires c.loop-cut.invariant.cutting (rw c.bytes.ensures.text at c.in-Some.ensures) c.in_ok-put_part.ensures.ran c.in_ok-put_part-2.ensures.ran;
  same_reference = c.in_ok-put_part-2.ensures.same_reference ∙ c.in_ok-put_part.ensures.same_reference ∙ c.loop-cut.invariant.same_reference;
}
