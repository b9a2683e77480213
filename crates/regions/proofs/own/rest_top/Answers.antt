-- `own::rest_top` meets its contract: from one region to the next. Assumes nothing.
use Rattle.std.proofs.Common.{arith, ◌∙◌}
use Rattle.regions.proofs.CursorLaws.{own-next}
use Rattle.regions.proofs.own.rest_top.Goals as goal

pub loop-behind-smaller : goal.loop-behind-smaller
loop-behind-smaller c =
    let n = own-next c.loop-behind.invariant.0 c.in-Some.ensures in
    omega (arith, n.0.within, n.1.0)

pub loop-behind-preserved : goal.loop-behind-preserved
loop-behind-preserved c =
    let n = own-next c.loop-behind.invariant.0 c.in-Some.ensures in
    (n.0, n.1.1 ∙ c.loop-behind.invariant.1)
