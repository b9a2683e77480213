-- `start` meets its contract. The invariant: no byte passed is seen, so what is left has the same trimmed text and the same end. Assumes nothing.
use Rattle.std.proofs.Common.{◌≡◌, false, drop}
use Rattle.text.specs.Space.{trim}
use Rattle.anchor.specs.Anchor.{plain, plain_end_from}
use Rattle.anchor.proofs.AnchorLaws.{plain_in}
use Rattle.anchor.proofs.start.Given as goal

abbrev pub invariant-loop-i : goal.invariant-loop-i
invariant-loop-i l = (plain_end_from l.markup 0 l.i (drop l.i l.text) ≡ l.end) × (trim (plain_in false l.markup (drop l.i l.text)) ≡ trim (plain l.text))
