-- `Index::find` meets its contract. The invariant: the first record of the name is the first among the rows from k on, k records later. Assumes nothing.
use Rattle.std.proofs.Common.{◌≡◌, drop}
use Rattle.text.specs.Pattern.{later}
use Rattle.index.specs.Index.{find_record}
use Rattle.index.specs.Rows.{records_of}
use Rattle.index.specs.FileSets.{records_in}
use Rattle.index.proofs.records.Index.find.Given as goal

abbrev pub invariant-loop-k : goal.invariant-loop-k
invariant-loop-k l = find_record l.name (records_in l.self) ≡ later l.k (find_record l.name (records_of l.self.text.now (drop l.k l.self.rows.now)))
