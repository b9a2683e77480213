-- `text_end` meets its contract. The invariant: the end found so far, and what is left of the text, give the end of the whole. Assumes nothing.
use Rattle.std.proofs.Common.{◌≡◌, ◌≤◌, drop}
use Rattle.anchor.specs.Anchor.{plain_end_from, plain_end}
use Rattle.anchor.proofs.text_end.Given as goal

abbrev pub invariant-loop-i : goal.invariant-loop-i
invariant-loop-i l = (l.end ≤ l.i) × (plain_end_from l.markup l.end l.i (drop l.i l.text) ≡ plain_end l.text)
