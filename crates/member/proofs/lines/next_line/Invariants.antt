-- `member::lines::next_line` meets its contract. The invariant: the lines kept from place a on are those that the cursor has left. Assumes nothing.
use mathlib.Core.Path.{◌≡◌}
use Rattle.member.specs.Lines.{lines_on}
use Rattle.member.proofs.LinesLaws.{Kept}
use Rattle.member.proofs.lines.next_line.Given as goal

abbrev pub invariant-loop-text : goal.invariant-loop-text
invariant-loop-text l = Kept l.s l.fn.from.at l.start l.within × (lines_on l.start l.s ≡ l.text-iterator)
