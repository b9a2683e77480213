-- `embedding::drop_markers` meets its contract. The invariant: what stood before the cursor is put without its marker lines, and from the cursor on
-- nothing has changed. Assumes nothing.
use mathlib.Core.Path.{refl}
use native.Mathlib.Omega.{arith}
use lib.Seq.{length-take-le}
use Rattle.embedding.proofs.DropLaws.{dropped-none, dropped-last, dropped_places, dropped_turn}
use Rattle.embedding.proofs.drop_markers.Goals as goal

pub loop-region-init : goal.loop-region-init
loop-region-init c = dropped-none c.args.work.now c.args.n

pub line_after-start-requires : goal.line_after-start-requires
line_after-start-requires c =
    let k = length-take-le c.args.n c.loop-region.work (omega arith) in
    let h = dropped_places c.loop-region.invariant (omega arith) c.in-Some.ensures.0 refl refl in
    omega arith

pub line_after-next-requires : goal.line_after-next-requires
line_after-next-requires c =
    let k = length-take-le c.args.n c.loop-region.work (omega arith) in
    let h = dropped_places c.loop-region.invariant (omega arith) c.in-Some.ensures.0 refl refl in
    omega arith

pub copy_both-at-requires : goal.copy_both-at-requires
copy_both-at-requires c =
    let h = dropped_places c.loop-region.invariant (omega arith) c.in-Some.ensures.0 c.line_after-start.ensures.0 refl in
    omega arith

pub loop-region-smaller : goal.loop-region-smaller
loop-region-smaller c =
    let h = dropped_places c.loop-region.invariant (omega arith) c.in-Some.ensures.0 c.line_after-start.ensures.0 c.line_after-next.ensures.0 in
    omega arith

pub loop-region-preserved : goal.loop-region-preserved
loop-region-preserved c =
    let p = c.copy_both-at.ensures in
    dropped_turn c.loop-region.invariant (omega arith) c.in-Some.ensures.0 c.line_after-start.ensures.0 c.line_after-next.ensures.0 p.out_after p.value

pub returns : goal.returns
returns c = dropped-last c.loop-region.invariant (omega arith) c.in_default.ensures c.copy_down.ensures.0 c.copy_down.ensures.1
