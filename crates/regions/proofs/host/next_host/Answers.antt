-- `host::next_host` meets its contract, by those of its calls and the laws of a cursor. Assumes nothing.
use Rattle.std.proofs.Common.{arith}
use Rattle.regions.proofs.HostLaws.{placed, v_level, can_top, whole-host}
use Rattle.regions.proofs.host.next_host.Goals as goal

pub top_of-top-requires : goal.top_of-top-requires
top_of-top-requires c = can_top c.requires c.in_ok-region.ensures

pub opens_at-requires : goal.opens_at-requires
opens_at-requires c =
    let p = placed c.requires c.in_ok-region.ensures in
    (omega (arith, p.opens.within), (v_level c.requires c.in_ok-region.ensures, c.top_of-top.ensures.level))

pub behind-requires : goal.behind-requires
behind-requires c =
    let p = placed c.requires c.in_ok-region.ensures in
    (omega (arith, p.places), omega (arith, p.lines))

pub returns : goal.returns
returns c =
    let o = c.opens_at.ensures in
    whole-host c.requires c.in_ok-region.ensures c.top_of-top.ensures o.0 c.behind.ensures o.1.0 o.1.1
