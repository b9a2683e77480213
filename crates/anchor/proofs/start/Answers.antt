-- `start` meets its contract: by whether the byte is seen. Assumes nothing.
use Rattle.std.proofs.Common.{false, sym, ap, ◌∙◌, arith}
use Rattle.std.proofs.lemmas.List.{length-take, get_or-take}
use Rattle.text.specs.Ascii.{lower}
use Rattle.anchor.specs.Anchor.{anchor_of, slug}
use Rattle.anchor.proofs.AnchorLaws.{end_on, start_on, start-here, start_nowhere, part_none}
use Rattle.anchor.proofs.start.Goals as goal

pub returns-then-is_seen-clause-text_value : goal.returns-then-is_seen-clause-text_value
unfolding slug lower
returns-then-is_seen-clause-text_value c =
    let l = c.loop-i in
    let s = c.args.text.now in
    let end = c.text_end-end in
    let k = length-take end.result s in
    let x = get_or-take end.result s l.i 0 (omega arith) in
    ap anchor_of (start-here l.markup s l.i end.result (omega arith) (sym (rw x at c.is_seen.ensures) ∙ c.if-is_seen.true) l.invariant.0 ∙ l.invariant.1)

pub loop-i-preserved : goal.loop-i-preserved
loop-i-preserved c =
    let l = c.loop-i in
    let s = c.args.text.now in
    let end = c.text_end-end in
    let k = length-take end.result s in
    let x = get_or-take end.result s l.i 0 (omega arith) in
    let q = sym (rw x at c.is_seen.ensures) ∙ c.if-is_seen.false in
    rw (rw x at c.markup_after-markup.ensures) (
      end_on l.markup s l.i 0 false (omega arith) q ∙ l.invariant.0,
      start_on l.markup s l.i (omega arith) q ∙ l.invariant.1,
    )

pub returns-clause-text_value : goal.returns-clause-text_value
unfolding slug lower
returns-clause-text_value c =
    let l = c.loop-i in
    let s = c.args.text.now in
    let end = c.text_end-end in
    let k = length-take end.result s in
    rw (part_none s end.result end.result (omega arith), ← part_none s l.i end.result (omega arith))
    (ap anchor_of (start_nowhere l.markup s l.i end.result (omega arith) l.invariant.0 ∙ l.invariant.1))
