-- `member::lines::next_line` meets its contract. The invariant: the lines kept from a line's start on are those that the cursor has left.
-- Assumes nothing.
use native.Mathlib.Omega.{arith}
use Prim.Native.Nat.{◌+◌}
use lib.ListN.{length}
use mathlib.Core.Path.{sym, ◌∙◌}
use Rattle.member.proofs.LinesLaws.{lines-off, lines_cut, kept-none, kept-end, kept-drop, kept_line, line_at}
use Rattle.member.proofs.lines.next_line.Goals as goal

pub returns-in_err-get : goal.returns-in_err-get
returns-in_err-get c =
    let f = c.args.from in
    rw c.from_residual.ensures (kept-end f (kept-none c.args.s.now f.at c.requires.1) (lines-off c.args.s.now f.at (omega (arith, c.in_err-get.ensures.lookup))))

pub returns-then-not-within : goal.returns-then-not-within
returns-then-not-within c =
    let s = c.args.s.now in
    let l = c.loop-text in
    let p = line_at s l.start (l.invariant.1 ∙ c.in-Some.ensures.steps) in
    let e = l.start + length c.in-Some.text.now in
    kept_line c.args.from e l.invariant.0 (lines_cut s l.start e _ (omega arith) p.within p.first) (omega arith, p.within) (rw p.whole at (sym c.drops-within.ensures ∙ c.if-not-within.true))
    (rw p.whole at c.step-step.ensures.0) (rw p.whole at c.step-step.ensures.1)

pub loop-text-preserved : goal.loop-text-preserved
loop-text-preserved c =
    let s = c.args.s.now in
    let l = c.loop-text in
    let p = line_at s l.start (l.invariant.1 ∙ c.in-Some.ensures.steps) in
    let e = l.start + length c.in-Some.text.now in
    (kept-drop _ e l.invariant.0 (lines_cut s l.start e _ (omega arith) p.within p.first) (omega arith, p.within) (rw p.whole at c.drops-within.ensures) c.if-not-within.false, p.left)

pub returns : goal.returns
returns c = kept-end c.args.from c.loop-text.invariant.0 (c.loop-text.invariant.1 ∙ c.in-None.ensures.steps.0)
