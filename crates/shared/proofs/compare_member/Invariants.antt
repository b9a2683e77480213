-- `compare_member` meets its contract. The invariant: how far its headings are walked, what the table tells, and what is left to compare. Assumes nothing.
use Prim.Native.Nat.{suc, ◌-◌}
use lib.ListN.{length}
use Rattle.put.specs.Put.{source_text}
use Rattle.shared.proofs.CompareLaws.{Walked}
use Rattle.shared.proofs.compare_member.Given as goal

abbrev pub invariant-loop-found : goal.invariant-loop-found
invariant-loop-found l = Walked l.index l.contents l.before l.member l.table l.stop l.initial.work l.source l.work l.cursor

abbrev pub decreases-loop-found : goal.decreases-loop-found
decreases-loop-found l = suc (length (source_text l.source l.contents l.initial.work)) - l.cursor.at
