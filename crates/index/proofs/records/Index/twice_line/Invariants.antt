-- `Index::twice_line` meets its contract. The invariant: the first name that one before it has, among the rows from k on with those before k before them, is the
-- first of all. Assumes nothing.
use Rattle.std.proofs.Common.{◌≡◌, ◌+◌, [], take, drop}
use Rattle.index.specs.Records.{twice_from}
use Rattle.index.specs.Rows.{records_of}
use Rattle.index.specs.FileSets.{records_in}
use Rattle.index.proofs.records.Index.twice_line.Given as goal

abbrev pub invariant-loop-k : goal.invariant-loop-k
invariant-loop-k l =
    twice_from (l.k + 1) (records_of l.self.text.now (take l.k l.self.rows.now)) (records_of l.self.text.now (drop l.k l.self.rows.now)) ≡ twice_from 1 [] (records_in l.self)
