-- `text::lines::piece` meets its contract: the piece up to the first LF from its start on. Assumes nothing.
use mathlib.Core.Path.{refl}
use native.Mathlib.Omega.{arith}
use Rattle.text.proofs.LineLaws.{pieces-at}
use Rattle.text.proofs.lines.piece.Goals as goal

pub returns : goal.returns
returns c = let a = c.args in let f = c.find_byte-e in
    record { s_value = pieces-at a.s.now a.from f.result f.ensures.1 f.ensures.0; from_le_end = (omega arith, (omega arith, refl)) }
