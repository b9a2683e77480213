-- `records::wide_place` meets its contract. The invariant: the first wide byte in the files of the rows from k on is the first of all. Assumes nothing.
use Rattle.std.proofs.Common.{◌≡◌, ℕ, ◌+◌, List, drop}
use Rattle.index.specs.Records.{wide_from}
use Rattle.index.specs.Rows.{records_of}
use Rattle.index.proofs.records.wide_place.Given as goal

abbrev pub invariant-loop-k : goal.invariant-loop-k
invariant-loop-k l = (index : List ℕ) → wide_from (l.k + 1) l.contents (records_of index (drop l.k l.rows)) ≡ wide_from 1 l.contents (records_of index l.rows)
