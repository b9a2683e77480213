-- `text::lines::line` meets its contract: the line by the first LF from its start on. Assumes nothing.
use mathlib.Core.Path.{◌∙◌}
use native.Mathlib.Omega.{arith}
use Rattle.text.proofs.LineLaws.{line-at-last, line-at_feed, line-at_return}
use Rattle.text.proofs.lines.line.Goals as goal
use Rattle.text.proofs.lines.line.Goals.{else-from-e-via-then-from-e+else-s-e-eq13 as returned, else-from-e-via-else-from-e as at_start}

pub returns-then-e-s : goal.returns-then-e-s
returns-then-e-s c = let a = c.args in let f = c.find_byte-e in
    record { end_value = line-at-last a.s.now a.from f.result (f.ensures.0 ∙ c.requires.1.1) c.if-e-s.true; from_le_end = omega arith }

pub returns-then-s-e-eq13 : goal.returns-then-s-e-eq13
returns-then-s-e-eq13 c = let a = c.args in let f = c.find_byte-e in
    record { end_value = line-at_return a.s.now a.from f.result (f.ensures.0 ∙ c.requires.1.1) (omega arith) (omega arith) c.if-s-e-eq13.true; from_le_end = omega arith }

pub returns : goal.returns
returns c = let a = c.args in let f = c.find_byte-e in record {
  end_value = line-at_feed a.s.now a.from f.result (f.ensures.0 ∙ c.requires.1.1) (omega arith)
      (elim c.else-from-e.branch [ returned w ↦ λ z k. w.if-s-e-eq13.false k | at_start w ↦ λ z k. absurd (omega arith) ]);
  from_le_end = omega arith;
}
