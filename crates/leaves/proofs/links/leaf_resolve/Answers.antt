-- `links::leaf_resolve` meets its contract: the length as a number, and the bytes where there is room. Assumes nothing.
use mathlib.Core.Path.{ap, ◌∙◌}
use Rattle.path.specs.Path.{resolve}
use Rattle.leaf.specs.Leaf.{one}
use Rattle.leaves.proofs.WrittenLaws.{short, roomy}
use Rattle.leaves.proofs.links.leaf_resolve.Goals as goal

pub returns-then-out-n : goal.returns-then-out-n
returns-then-out-n c =
    let r = c.resolved_length-n in
    let a = c.args in
    record { answer_after = c.one.ensures ∙ ap one r.ensures; out_after = short (resolve a.dir.now a.path.now) a.out.now r.result r.ensures c.if-out-n.true }

pub returns : goal.returns
returns c =
    let r = c.resolved_length-n in
    let a = c.args in
    record { answer_after = c.one-2.ensures ∙ ap one r.ensures; out_after = roomy (resolve a.dir.now a.path.now) a.out.now r.result r.ensures _ c.if-out-n.false c.put_resolved.ensures }
