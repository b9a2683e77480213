-- `members_of` meets its contract. The invariant: the members of the lines that are passed. Assumes nothing.
use mathlib.Core.Path.{◌≡◌}
use lib.ListN.{take}
use Rattle.listed.specs.Files.{line_members}
use Rattle.listed.proofs.members_of.Given as goal

abbrev pub invariant-loop-k : goal.invariant-loop-k
invariant-loop-k l = l.members.items ≡ line_members l.rows (take l.k-index l.lines)
