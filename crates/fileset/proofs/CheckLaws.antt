-- Laws of `specs/Check.antt`: what a check gives once the one before it passes, and what the rows tell once all pass. Assumes nothing.
use Rattle.std.specs.Prelude.{Some, Result}
use Prim.Native.Nat.{ℕ, ◌+◌, ◌*◌, ◌≤◌}
use native.Mathlib.Nat.{mul-le-mul}
use native.Mathlib.Omega.{arith}
use mathlib.Core.Path.{◌≡◌, sym, ap, ◌∙◌}
use mathlib.Core.List.{List, []}
use lib.ListN.{length}
use borrow.Author.Tests.{le-ltb}
use Rattle.std.proofs.lemmas.List.{length-map}
use Rattle.answer.specs.Answer.{place}
use Rattle.answer.specs.declared.Refusal.{Refusal}
use Rattle.answer.specs.declared.Refusal.TheVariants.{PastContents, NameTwice, Absent}
use Rattle.index.specs.Index.{records, files_from, files}
use Rattle.index.specs.Records.{past_from, twice_from}
use Rattle.index.specs.Rows.{record_of, records_of, AreRows}
use Rattle.index.specs.FileSets.{files_of}
use Rattle.index.specs.declared.file_set.FileSet.{FileSet}
use Rattle.index.specs.declared.rows.Row.{Row}
use Rattle.index.proofs.NameLaws.{rows_short}
use Rattle.index.proofs.ReadLaws.{read_line, read_none, read_records}
use Rattle.index.proofs.RecordLaws.{are_within}
use Rattle.fileset.specs.Members.{names, list_lines, absent_from}
use Rattle.fileset.proofs.MemberLaws.{lines_none, lines_some, lines_count, list_short}
use Rattle.fileset.specs.Check.{in_order, refuse_at, records_checked, refuse_sizes, list_checked, IsRead}

-- the rows tell of the records
pub rows_length : {index : List ℕ} {rows : List Row} → AreRows index rows → length rows ≡ length (records index)
rows_length {index} {rows} a = sym (length-map rows (record_of index)) ∙ ap length a.same

pub files_told : {index contents : List ℕ} {set : FileSet} → IsRead index contents set → files_of set ≡ files index contents
files_told {index} {contents} r = rw (r.index_is, r.contents_is) (ap (files_from 1 contents) r.same)

-- 2 is none
pub records_few : (room : ℕ) (index : List ℕ) (rows : List Row) → length rows ≤ 64 → records_checked room (records_of index rows)
    ≡ in_order (refuse_at (past_from 1 room (records_of index rows)) PastContents) (refuse_at (twice_from 1 [] (records_of index rows)) NameTwice)
records_few room index rows h = rw (le-ltb 64 (length (records_of index rows)) (omega (arith, length-map rows (record_of index))))

-- the product of refusal 8 is small
pub sizes_fit : (n m limit : ℕ) → n ≤ 64 → m ≤ 64 → limit ≤ 1048576 → (n + m + 2) * limit ≤ 130 * 1048576
sizes_fit n m limit h k high = mul-le-mul {n₂ = 130} (omega arith) high

-- refusals 7, 8 and 14, for a list in its form
pub list_sized : (index : List ℕ) (rows : List Row) (list : List ℕ) (limit out work : ℕ) {m : ℕ} {z : Result (Unit {0}) Refusal} → list_lines list ≡ Some m
    → z ≡ refuse_sizes (length rows) m limit out work
    → list_checked (records_of index rows) list limit out work ≡ in_order z (refuse_at (absent_from 1 (records_of index rows) (names list)) (λ k. Absent (place 0 k)))
list_sized index rows list limit out work e h = rw (lines_some list e, length-map rows (record_of index), ← lines_count list e, h)

-- what the proofs of the functions apply
pub ruleset checking = (records_few, are_within)

pub ruleset reading = (read_line, read_none, read_records, rows_length, rows_short)

pub ruleset heading = (rows_length)

pub ruleset listing = (lines_none, lines_some, lines_count, list_short)
