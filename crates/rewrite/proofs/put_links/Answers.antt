-- `rewrite::put_links` meets its contract. The invariant: the source is put up to place i. Assumes nothing.
use native.Mathlib.Omega.{arith}
use mathlib.Core.Path.{◌∙◌}
use Rattle.rewrite.proofs.LinkedLaws.{rewriting_same, linking_end, link_bounds, link_over, link_before, target_over, linking_on}
use Rattle.rewrite.proofs.put_links.Goals as goal

pub returns-clause-ran : goal.returns-clause-ran
returns-clause-ran c = linking_end c.requires.able c.loop-link.invariant.linking (rw c.bytes.ensures.text at c.in_default.ensures) _ c.put_part-2.result c.put_part-2.ensures.ran

pub returns-in_err-put_part-clause-ran : goal.returns-in_err-put_part-clause-ran
returns-in_err-put_part-clause-ran c =
    rw c.from_residual.ensures (link_over c.requires.able c.loop-link.invariant.linking (rw c.bytes.ensures.text at c.in-Some.ensures) c.in_err-put_part.ensures.ran)

pub returns-in_err-put_target-clause-ran : goal.returns-in_err-put_target-clause-ran
returns-in_err-put_target-clause-ran c =
    let h = rw c.bytes.ensures.text at c.in-Some.ensures in
    let i = c.loop-link.invariant.linking in
    let q = c.in_ok-put_part.ensures.ran in
    let same = rewriting_same c.requires.stand (link_before c.requires.able i h q).put c.args.assembly.url.now c.args.dir.now in
    rw c.from_residual-in_err-put_target.ensures (target_over c.requires.able i h q same (rw c.part-target.ensures at c.in_err-put_target.ensures.ran))

pub loop-link-preserved : goal.loop-link-preserved
loop-link-preserved c =
    let h = rw c.bytes.ensures.text at c.in-Some.ensures in
    let i = c.loop-link.invariant.linking in
    let q = c.in_ok-put_part.ensures.ran in
    let same = rewriting_same c.requires.stand (link_before c.requires.able i h q).put c.args.assembly.url.now c.args.dir.now in
    record {
      linking = linking_on c.requires.able i h q same (rw c.part-target.ensures at c.in_ok-put_target.ensures.ran);
      same_reference = c.in_ok-put_target.ensures.same_reference ∙ c.in_ok-put_part.ensures.same_reference ∙ c.loop-link.invariant.same_reference;
    }

pub loop-link-smaller : goal.loop-link-smaller
loop-link-smaller c = omega (arith, link_bounds c.requires.able c.loop-link.invariant.linking (rw c.bytes.ensures.text at c.in-Some.ensures))
