-- `putting::line::line_at` meets its contract. Assumes nothing.
use mathlib.Core.Path.{◌∙◌, ap}
use Prim.Native.Nat.{◌-◌}
use native.Mathlib.Omega.{arith}
use Rattle.text.specs.Bytes.{part}
use Rattle.text.proofs.BytesLaws.{part_full}
use Rattle.text.proofs.PieceLaws.{more_pieces, no_pieces}
use mir.Syntax.{w32}
use Rattle.std.proofs.lemmas.Int.{to_z-of_z}
use Rattle.put.specs.NewText.{new_text_of}
use Rattle.put.proofs.NewTextLaws.{kind_in}
use Rattle.putting.proofs.line.line_at.Goals as goal

pub returns-then-s-from : goal.returns-then-s-from
returns-then-s-from c = no_pieces c.args.s.now c.args.from (omega (arith, c.if-s-from.true))

pub new_text-requires : goal.new_text-requires
new_text-requires c =
    let s = c.args in
    let e = c.find_byte-end in
    rw c.step-step.ensures.0 (kind_in s.state.fence s.state.comment (part s.from e.result s.s.now) (e.result - s.from) (part_full s.s.now s.from e.result (omega (arith, e.ensures))))

pub returns : goal.returns
returns c =
    let s = c.args in
    let e = c.find_byte-end in record {
      order = omega (arith, e.ensures);
      within = omega (arith, e.ensures);
      lines = rw e.ensures.0 (more_pieces s.s.now s.from (omega arith));
      text = rw (to_z-of_z w32 s.shift c.ranges.shift) at c.new_text.ensures ∙ ap (new_text_of s.shift s.from e.result) c.step-step.ensures.0;
      after = c.step-step.ensures.1;
    }
