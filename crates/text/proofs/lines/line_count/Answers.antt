-- `text::lines::line_count` meets its contract: as many lines as LFs, and one more where the last byte is none. Assumes nothing.
use mathlib.Core.Path.{sym, ◌∙◌}
use native.Mathlib.Omega.{arith}
use borrow.Author.Tests.{eqb-true, eqb-false}
use Rattle.text.proofs.LineLaws.{lines-count, lines-closed, lines_open, lines_le}
use Rattle.text.proofs.lines.line_count.Goals as goal
use Rattle.text.proofs.lines.line_count.Goals.{then-is_empty-via-then-is_empty as empty, then-is_empty-via-else-is_empty+then-s-eq10 as closed}

pub returns-then-is_empty : goal.returns-then-is_empty
returns-then-is_empty c = let s = c.args.s.now in
    elim c.then-is_empty.branch [
      | empty w ↦ omega (arith, eqb-true _ _ (sym c.is_empty.ensures ∙ w.if-is_empty.true), lines-count s 0, lines_le s 0, c.count_byte-n.ensures.0)
      | closed w ↦
          let n = eqb-false _ _ (sym c.is_empty.ensures ∙ w.if-is_empty.false) in
          omega (arith, lines-closed s 0 (omega arith) w.if-s-eq10.true, lines_le s 0, c.count_byte-n.ensures.0)
    ]

pub returns : goal.returns
returns c =
    let s = c.args.s.now in
    let n = eqb-false _ _ (sym c.is_empty.ensures ∙ c.if-is_empty.false) in
    omega (arith, lines_open s 0 (omega arith) c.if-s-eq10.false, lines_le s 0, c.count_byte-n.ensures.0)
