-- `members::read` meets its contract. The invariant: the members are the records of the names that are passed, and what the names that are left give, with
-- those, is what all names give. Assumes nothing.
use Prim.Native.Nat.{◌+◌}
use mathlib.Core.Path.{◌≡◌}
use mathlib.Core.List.{◌++◌}
use lib.ListN.{length}
use Rattle.index.specs.FileSets.{records_in}
use Rattle.fileset.specs.Members.{names, absent_from, members_from}
use Rattle.fileset.proofs.members.read.Given as goal

abbrev pub invariant-loop-name : goal.invariant-loop-name
invariant-loop-name l =
    let rs = records_in l.index in
    let passed = l.members.items in record {
      counted : length passed + length l.name-iterator ≡ length (names l.list);
      absent : absent_from (length passed + 1) rs l.name-iterator ≡ absent_from 1 rs (names l.list);
      kept : passed ++ members_from rs l.name-iterator ≡ members_from rs (names l.list);
    }
