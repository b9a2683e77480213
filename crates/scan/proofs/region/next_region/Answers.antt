-- `scan::region::next_region` meets its contract. The invariant: the regions from place a on are those from the cursor on.
use mathlib.Core.Path.{refl, sym, ◌∙◌}
use native.Mathlib.Omega.{arith}
use Rattle.scan.proofs.RegionLaws.{region_on, region_none, region_found}
use Rattle.scan.proofs.region.next_region.Goals as goal

pub returns-in-Closes : goal.returns-in-Closes
returns-in-Closes c =
    let l = c.loop-line in
    rw c.closed_at.ensures (region_found c.args.s.now l.cursor.at l.cursor.line _ _ _ _ l.state _ l.invariant.1.1.1 c.args.from refl l.invariant.0 c.in-Some.ensures (sym c.in-Closes.is ∙ rw (c.within.ensures.0, c.within.ensures.1) at c.kind_at-kind.ensures))

pub loop-line-preserved : goal.loop-line-preserved
loop-line-preserved c =
    let l = c.loop-line in
    let h = c.in-Some.ensures in
    (omega arith, (omega arith, (omega arith, region_on c.args.s.now l.cursor.at l.cursor.line _ _ _ _ l.state _ l.invariant.1.1.1 h (rw (c.within.ensures.0, c.within.ensures.1) at c.kind_at-kind.ensures) (λ q. c.in_default-kind.not-Closes q) c.after-state.ensures)))

pub returns : goal.returns
returns c = let l = c.loop-line in
    region_none c.args.s.now l.cursor.at l.cursor.line 0 0 0 0 l.state _ l.invariant.1.1.1 (rw c.in_default.is at c.next_line.ensures)
