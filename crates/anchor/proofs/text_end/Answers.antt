-- `text_end` meets its contract: by whether the byte is seen. Assumes nothing.
use Rattle.std.proofs.Common.{true, false, sym, ◌∙◌, arith}
use Rattle.anchor.proofs.AnchorLaws.{end_on}
use Rattle.anchor.proofs.text_end.Goals as goal
use Rattle.anchor.proofs.text_end.Goals.{then-is_seen, else-is_seen}

pub loop-i-preserved : goal.loop-i-preserved
loop-i-preserved c =
    let l = c.loop-i in
    let s = c.args.text.now in
    elim c.if-is_seen.branch [
      | then-is_seen w ↦ (
        omega (arith, w.end-is),
        rw (c.markup_after-markup.ensures, w.end-is) (end_on l.markup s l.i l.end true (omega arith) (sym c.is_seen.ensures ∙ w.if-is_seen.true) ∙ l.invariant.1),
      )
      | else-is_seen w ↦ (
        omega (arith, w.end-is),
        rw (c.markup_after-markup.ensures, w.end-is) (end_on l.markup s l.i l.end false (omega arith) (sym c.is_seen.ensures ∙ w.if-is_seen.false) ∙ l.invariant.1),
      )
    ]
