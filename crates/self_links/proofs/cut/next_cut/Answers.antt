-- `self_links::cut::next_cut` meets its contract. The invariant: the bytes passed stay as they are. Assumes nothing.
use native.Mathlib.Omega.{arith}
use Rattle.text.proofs.BytesLaws.{part_full}
use Rattle.link.proofs.LinkLaws.{link_long}
use Rattle.self_links.proofs.CutLaws.{passed_start, passed_none, passed_on, passed-cut}
use Rattle.self_links.proofs.cut.next_cut.Goals as goal

pub loop-link-init : goal.loop-link-init
loop-link-init c = passed_start c.args.embedding.host.now c.args.embedding.dir.now c.args.line.now c.args.from c.requires

pub next_link-requires : goal.next_link-requires
next_link-requires c = c.loop-link.invariant.within

pub returns : goal.returns
returns c = passed_none c.loop-link.invariant c.in_default.ensures

pub overflow_add-result : goal.overflow_add-result
overflow_add-result c =
    let h = c.in-Some.ensures in
    omega (arith, h.0, part_full c.args.line.now c.in-Some.link.start c.in-Some.link.end (omega (arith, h.0)))

pub returns-then-n-gt0 : goal.returns-then-n-gt0
returns-then-n-gt0 c =
    passed-cut c.loop-link.invariant c.anchor_self-n.result c.in-Some.ensures c.anchor_self-n.ensures.0 (omega arith) c.anchor_self-n.ensures.1

pub loop-link-smaller : goal.loop-link-smaller
loop-link-smaller c =
    let h = c.in-Some.ensures in
    omega (arith, h.0, link_long c.args.line.now c.loop-link.i c.in-Some.link.start c.in-Some.link.end h)

pub loop-link-preserved : goal.loop-link-preserved
loop-link-preserved c =
    passed_on c.loop-link.invariant c.anchor_self-n.result c.in-Some.ensures c.anchor_self-n.ensures.0 (omega arith)
