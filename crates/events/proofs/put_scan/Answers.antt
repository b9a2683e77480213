-- `events::put_scan` meets its contract. The invariant: what a scan from place a on finds, put after what was put so far, is the whole. Assumes nothing.
use Rattle.events.proofs.EventLaws.{turned, ended}
use Rattle.scan.specs.Scan.{scan}
use native.Mathlib.Omega.{arith}
use mathlib.Core.Path.{refl, ◌∙◌}
use Rattle.events.proofs.put_scan.Goals as goal

pub loop-line-init : goal.loop-line-init
unfolding scan
loop-line-init c = (omega arith, (omega arith, (refl, (refl, rw c.begin-state.ensures))))

pub loop-line-preserved : goal.loop-line-preserved
loop-line-preserved c =
    let l = c.loop-line in
    let i = l.invariant.1.1 in
    let h = c.in-Some.ensures in
    let e = c.within-text.ensures in
    let p = c.put_line.ensures in (
      omega (arith, h.1),
      (omega (arith, h.1), (p.log_reference ∙ i.0, (p.out_reference ∙ i.1.0, turned c.args.s.now l.a l.n l.state _ _ _ i.1.1 h (rw (e.0, e.1) at c.kind_at-kind.ensures) (rw (e.0, e.1) at p.held) c.after-state.ensures))),
    )

pub returns-clause-held : goal.returns-clause-held
returns-clause-held c =
    let l = c.loop-line in
    ended c.args.s.now l.a l.n l.state _ _ _ l.invariant.1.1.1.1 (rw c.in_default.is at c.next_line.ensures) c.put_last.ensures.held
