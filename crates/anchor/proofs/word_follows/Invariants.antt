-- `word_follows` meets its contract. The invariant: what follows is what follows what is left. Assumes nothing.
use Rattle.std.proofs.Common.{◌≡◌, ◌+◌}
use Rattle.text.specs.Bytes.{part}
use Rattle.anchor.proofs.AnchorLaws.{follows}
use Rattle.anchor.proofs.word_follows.Given as goal

abbrev pub invariant-loop-b : goal.invariant-loop-b
invariant-loop-b l = follows l.markup (part (l.fn.from.at + l.b-index) l.fn.from.end l.text) ≡ follows l.fn.from.markup (part l.fn.from.at l.fn.from.end l.text)
