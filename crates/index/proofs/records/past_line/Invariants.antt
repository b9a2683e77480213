-- `records::past_line` meets its contract. The invariant: the first part that ends past the contents among the rows from k on is the first of all. Assumes nothing.
use Rattle.std.proofs.Common.{◌≡◌, ℕ, ◌+◌, List, drop}
use Rattle.index.specs.Records.{past_from}
use Rattle.index.specs.Rows.{records_of}
use Rattle.index.proofs.records.past_line.Given as goal

abbrev pub invariant-loop-k : goal.invariant-loop-k
invariant-loop-k l = (index : List ℕ) → past_from (l.k + 1) l.room (records_of index (drop l.k l.rows)) ≡ past_from 1 l.room (records_of index l.rows)
