-- The index once it is read: a row a record. Nothing here is document 01's: inner functions promise it, and the laws of `proofs/` tie it to the records.
use Rattle.std.specs.Prelude.{ℕ, ◌+◌, ◌-◌, ◌≤◌, ◌≡◌, List, length, map, All, Option, Some, None, Result, Ok, Err}
use Rattle.text.specs.Bytes.{part}
use Rattle.index.specs.Index.{Record, File, entry, ill_formed, records, files_from}
use Rattle.index.specs.declared.rows.Row.{Row}

abbrev pub row : ℕ → ℕ → ℕ → ℕ → Row
row a e s z = record { name = a; end = e; start = s; size = z }

-- no row
abbrev pub zero_row : Row
zero_row = row 0 0 0 0

-- the record that a row tells of, those of rows, and the files
abbrev pub record_of : List ℕ → Row → Record
record_of index r = entry (part r.name r.end index) r.start r.size

abbrev pub records_of : List ℕ → List Row → List Record
records_of index rows = map (record_of index) rows

abbrev pub files_in : List ℕ → List ℕ → List Row → List File
files_in index contents rows = files_from 1 contents (records_of index rows)

-- the names of rows lie in the index
abbrev pub AreNamed : List ℕ → List Row → Type 0
AreNamed index rows = All (λ r. (r.name ≤ r.end) × (r.end ≤ length index)) rows

-- the names have at most 255 bytes
abbrev pub AreShort : List Row → Type 0
AreShort rows = All (λ r. r.end - r.name ≤ 255) rows

-- their files lie in contents of so many bytes
abbrev pub AreWithin : ℕ → List Row → Type 0
AreWithin room rows = All (λ r. r.start + r.size ≤ room) rows

-- the rows tell of the records of an index
pub record AreRows (index : List ℕ) (rows : List Row) : Type 0 where
  pub same : records_of index rows ≡ records index
  pub named : AreNamed index rows

-- what reading an index gives: how many records it has, or its first line that is ill formed
abbrev pub judged : Option ℕ → ℕ → Result ℕ ℕ
judged (Some line) n = Err line
judged None n = Ok n

unfoldable pub index_read : List ℕ → Result ℕ ℕ
index_read index = judged (ill_formed index) (length (records index))

-- and the rows, which have room for 64 records
abbrev pub Told : List ℕ → List Row → Result ℕ ℕ → Type 0
Told index rows (Ok n) = n ≤ 64 → AreRows index rows
Told index rows (Err n) = Unit {0}
