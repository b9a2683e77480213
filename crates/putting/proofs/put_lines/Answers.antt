-- `putting::put_lines` meets its contract. The invariant: the lines before place a are put. Assumes nothing.
use mathlib.Core.Path.{refl, ◌∙◌}
use mir.Syntax.{w32}
use Rattle.std.proofs.lemmas.Int.{to_z-of_z}
use Rattle.putting.proofs.LineLaws.{putting_start, text_within, line_over, lines_end, lines_on}
use Rattle.putting.proofs.put_lines.Goals as goal

pub loop-line-init : goal.loop-line-init
loop-line-init c = record {
  putting = rw (c.begin-state.ensures, to_z-of_z w32 c.args.shift c.ranges.shift) (putting_start c.requires.able c.args.embedding.host.now c.args.embedding.dir.now c.args.shift);
  same_reference = refl;
}

pub put_line-requires-clause-new_within : goal.put_line-requires-clause-new_within
put_line-requires-clause-new_within c = text_within c.requires.able c.loop-line.invariant.putting (rw c.bytes.ensures.text at c.in-Some.ensures)

pub returns-in_err-put_line-clause-ran : goal.returns-in_err-put_line-clause-ran
returns-in_err-put_line-clause-ran c =
    let z = to_z-of_z w32 c.args.shift c.ranges.shift in
    rw c.from_residual.ensures
    (line_over c.requires.able (rw z at c.loop-line.invariant.putting) (rw (c.bytes.ensures.text, z) at c.in-Some.ensures) c.in_err-put_line.ensures.ran)

pub returns-clause-ran : goal.returns-clause-ran
returns-clause-ran c =
    rw (to_z-of_z w32 c.args.shift c.ranges.shift) at (lines_end c.requires.able c.loop-line.invariant.putting (rw c.bytes.ensures.text at c.in_default.ensures))

pub loop-line-preserved : goal.loop-line-preserved
loop-line-preserved c = record {
  putting = lines_on c.requires.able c.loop-line.invariant.putting (rw c.bytes.ensures.text at c.in-Some.ensures) c.in_ok-put_line.ensures.ran;
  same_reference = c.in_ok-put_line.ensures.same_reference ∙ c.loop-line.invariant.same_reference;
}
