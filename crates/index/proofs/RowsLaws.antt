-- Laws of `specs/Rows.antt`: the records and the files that rows tell of, from one row on and up to it, and a search by name. Assumes nothing.
use Rattle.std.specs.Prelude.{Option, Some, None}
use Prim.Native.Nat.{ℕ, zero, suc, ◌+◌, ◌≤◌, ◌<◌}
use native.Mathlib.Nat.{add-zero}
use native.Mathlib.Numerals.{add-one}
use native.Mathlib.Omega.{arith}
use mathlib.Core.Path.{◌≡◌, refl, sym, ap, ◌∙◌}
use mathlib.Core.Bool.{true, false, cond}
use mathlib.Core.List.{List, [], ◌∷◌, ◌++◌}
use lib.ListN.{length, get_or, take, drop, drop_of_length-le}
use lib.Seq.{drop-cons}
use Rattle.std.proofs.lemmas.List.{length-map, map-append, take_more}
use Rattle.text.proofs.PatternLaws.{later-zero, later-later}
use Rattle.text.specs.Pattern.{equals, later}
use Rattle.index.specs.Index.{Record, File, file_of, file_text, files_from, file_at, find_record, find_file, first_named}
use Rattle.index.specs.Rows.{zero_row, record_of, records_of, files_in}
use Rattle.index.specs.FileSets.{files_of}
use Rattle.index.specs.declared.rows.Row.{Row}
use Rattle.index.specs.declared.file_set.FileSet.{FileSet}

module _ (index : List ℕ) (rows : List Row) (k : ℕ) where
  -- from row k on
  pub records-at : k < length rows → records_of index (drop k rows) ≡ record_of index (get_or rows k zero_row) ∷ records_of index (drop (k + 1) rows)
  records-at h = rw (drop-cons rows k zero_row h, add-one)

  pub records-end : length rows ≤ k → records_of index (drop k rows) ≡ []
  records-end h = rw (drop_of_length-le rows h)

  -- up to row k, and with it
  pub records_more : k < length rows → records_of index (take (k + 1) rows) ≡ records_of index (take k rows) ++ (record_of index (get_or rows k zero_row) ∷ [])
  records_more h = ap (records_of index) (take_more rows k zero_row h) ∙ map-append (record_of index) (take k rows) (get_or rows k zero_row ∷ [])

-- a file for each record
pub files-length : (k : ℕ) (contents : List ℕ) (rs : List Record) → length (files_from k contents rs) ≡ length rs
unfolding files_from
files-length k contents [] = refl
files-length k contents (r ∷ rs) = ap suc (files-length (k + 1) contents rs)

pub rows-length : (index contents : List ℕ) (rows : List Row) → length (files_in index contents rows) ≡ length rows
rows-length index contents rows = files-length 1 contents (records_of index rows) ∙ length-map rows (record_of index)

-- its number, its name and its part of the contents
file-row : (index contents : List ℕ) (j : ℕ) (rows : List Row) (k : ℕ) → k < length rows
    → file_at (files_from j contents (records_of index rows)) k
    ≡ file_of (j + k) (record_of index (get_or rows k zero_row)).name (file_text contents (record_of index (get_or rows k zero_row)))
unfolding files_from
file-row index contents j [] k h = absurd (omega arith)
file-row index contents j (x ∷ rows) zero h = let z : j ≡ j + 0 = omega arith in rw (← z)
file-row index contents j (x ∷ rows) (suc k) h =
    let z : (j + 1) + k ≡ j + suc k = omega arith in
    rw z at (file-row index contents (j + 1) rows k (omega arith))

module _ (index contents : List ℕ) (rows : List Row) (k : ℕ) (h : k < length (files_in index contents rows)) where
  pub row-file : file_at (files_in index contents rows) k
      ≡ file_of (k + 1) (record_of index (get_or rows k zero_row)).name (file_text contents (record_of index (get_or rows k zero_row)))
  row-file = let z : 1 + k ≡ k + 1 = omega arith in rw z at (file-row index contents 1 rows k (omega (arith, rows-length index contents rows)))

  pub row-number : k + 1 ≡ (file_at (files_in index contents rows) k).number
  row-number = rw row-file

  pub row-name : (record_of index (get_or rows k zero_row)).name ≡ (file_at (files_in index contents rows) k).name
  row-name = rw row-file

  pub row-text : file_text contents (record_of index (get_or rows k zero_row)) ≡ (file_at (files_in index contents rows) k).text
  row-text = rw row-file

-- the files of a set
pub few_files : (set : FileSet) → length (files_of set) ≤ 64
few_files set = omega (arith, rows-length set.index.now set.contents.now set.rows.now, set.few)

pub set-file : (set : FileSet) (k : ℕ) → k < length (files_of set) → {name text : List ℕ} → name ≡ (file_at (files_of set) k).name → text ≡ (file_at (files_of set) k).text
    → file_at (files_of set) k ≡ file_of (k + 1) name text
set-file set k h n t =
    let f : File = file_at (files_of set) k in
    let e : f.number ≡ k + 1 = sym (row-number set.index.now set.contents.now set.rows.now k h) in
    rw (n, t, ← e)

-- a name is looked for among the files as among the records
pub find-files : (name : List ℕ) (k : ℕ) (contents : List ℕ) (rs : List Record) → find_file name (files_from k contents rs) ≡ find_record name rs
unfolding files_from first_named
find-files name k contents [] = refl
find-files name k contents (r ∷ rs) = ap (λ (o : Option ℕ). cond (equals name r.name) (Some 0) (later 1 o)) (find-files name (k + 1) contents rs)

-- a search among the records, once it has passed k rows
module _ (index name : List ℕ) (rows : List Row) (k : ℕ) (passed : find_record name (records_of index rows) ≡ later k (find_record name (records_of index (drop k rows)))) where
  module _ (h : k < length rows) where
    pub found-row : equals name (record_of index (get_or rows k zero_row)).name ≡ true → Some k ≡ find_record name (records_of index rows)
    unfolding first_named
    found-row e = sym (passed ∙ rw (records-at index rows k h, e, add-zero))

    pub missed_row : equals name (record_of index (get_or rows k zero_row)).name ≡ false
        → find_record name (records_of index rows) ≡ later (k + 1) (find_record name (records_of index (drop (k + 1) rows)))
    unfolding first_named
    missed_row e = passed ∙ rw (records-at index rows k h, e) (later-later k 1 (find_record name (records_of index (drop (k + 1) rows))))

  pub no_row : length rows ≤ k → None ≡ find_record name (records_of index rows)
  unfolding first_named
  no_row h = sym (passed ∙ rw (records-end index rows k h))

pub first_row : (index name : List ℕ) (rows : List Row) → find_record name (records_of index rows) ≡ later 0 (find_record name (records_of index rows))
first_row index name rows = sym (later-zero (find_record name (records_of index rows)))

pub ruleset finding = (found-row, missed_row, no_row, first_row)

pub ruleset files = (rows-length, row-name, row-text, find-files)
