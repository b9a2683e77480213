-- Document 01, "Records": the refusals before the walk. "Order: 1 to 8, each over the whole input before the next; then 14 over the list, at the list's line".
use Rattle.std.specs.Prelude.{ℕ, ◌+◌, ◌*◌, ◌≡◌, Bool, cond, not, ◌&&◌, List, [], length, leb, ltb, Option, Some, None, Result, Ok, Err}
use Rattle.answer.specs.Answer.{place}
use Rattle.answer.specs.declared.Refusal.{Refusal}
use Rattle.answer.specs.declared.Refusal.TheVariants.{IndexLine, TooManyRecords, PastContents, NameTwice, WideByte, NameForm, ListForm, Sizes, Absent}
use Rattle.text.specs.Ascii.{wide_line}
use Rattle.index.specs.Index.{is_name, ill_formed, Record, records}
use Rattle.index.specs.Records.{past_from, twice_from, wide_from}
use Rattle.index.specs.Rows.{records_of, AreShort}
use Rattle.index.specs.declared.file_set.FileSet.{FileSet}
use Rattle.fileset.specs.Members.{names, is_list, absent_from}

-- "each .. before the next": one check, and where it passes the next
abbrev pub in_order : Result (Unit {0}) Refusal → Result (Unit {0}) Refusal → Result (Unit {0}) Refusal
in_order (Ok tt) c = c
in_order (Err r) c = Err r

-- a refusal where b holds
abbrev pub refuse_if : Bool → Refusal → Result (Unit {0}) Refusal
refuse_if b r = cond b (Err r) (Ok tt)

-- a refusal at what was found, if anything was
abbrev pub refuse_at : {A : Type 0} → Option A → (A → Refusal) → Result (Unit {0}) Refusal
refuse_at (Some a) f = Err (f a)
refuse_at None f = Ok tt

-- 2 to 4
abbrev pub records_checked : ℕ → List Record → Result (Unit {0}) Refusal
records_checked room rs =
    in_order (refuse_if (ltb 64 (length rs)) TooManyRecords)
    (in_order (refuse_at (past_from 1 room rs) PastContents)
    (refuse_at (twice_from 1 [] rs) NameTwice))

-- 1 to 4
unfoldable pub index_checked : List ℕ → List ℕ → Result (Unit {0}) Refusal
index_checked index contents = in_order (refuse_at (ill_formed index) IndexLine) (records_checked (length contents) (records index))

-- 8 "L outside its range or a buffer short": "Output at least L bytes; work at least (records + list lines + 2) × L", for n records and m list lines
abbrev pub are_sizes : ℕ → ℕ → ℕ → ℕ → ℕ → Bool
are_sizes n m limit out work = (leb 1 limit && leb limit 1048576) && (leb limit out && leb ((n + m + 2) * limit) work)

abbrev pub refuse_sizes : ℕ → ℕ → ℕ → ℕ → ℕ → Result (Unit {0}) Refusal
refuse_sizes n m limit out work = refuse_if (not (are_sizes n m limit out work)) Sizes

-- 1 to 6: a host's text and name; an assembly or a book has the URL in the name's place, and no bytes in a host's
abbrev pub head_checked : List ℕ → List ℕ → List ℕ → List ℕ → Result (Unit {0}) Refusal
head_checked index contents text name =
    in_order (index_checked index contents)
    (in_order (refuse_at (wide_line 1 text) (λ n. WideByte (place 0 n)))
    (in_order (refuse_at (wide_from 1 contents (records index)) WideByte)
    (refuse_if (not (is_name name)) NameForm)))

-- 7, 8 and 14 over the list, whose names are looked for among the records rs
abbrev pub list_checked : List Record → List ℕ → ℕ → ℕ → ℕ → Result (Unit {0}) Refusal
list_checked rs list limit out work =
    in_order (refuse_if (not (is_list list)) ListForm)
    (in_order (refuse_sizes (length rs) (length (names list)) limit out work)
    (refuse_at (absent_from 1 rs (names list)) (λ n. Absent (place 0 n))))

-- a fill: a host handed in, and "no list lines"
unfoldable pub fill_checked : List ℕ → List ℕ → List ℕ → List ℕ → ℕ → ℕ → ℕ → Result (Unit {0}) Refusal
fill_checked index contents name text limit out work =
    in_order (head_checked index contents text name) (refuse_sizes (length (records index)) 0 limit out work)

-- an assembly or a book
unfoldable pub book_checked : List ℕ → List ℕ → List ℕ → List ℕ → ℕ → ℕ → ℕ → Result (Unit {0}) Refusal
book_checked index contents list url limit out work =
    in_order (head_checked index contents [] url) (list_checked (records index) list limit out work)

-- for the functions: the check of an answer, and the file set that it gives once nothing is refused
abbrev pub check_of : {A : Type 0} → Result A Refusal → Result (Unit {0}) Refusal
check_of (Ok a) = Ok tt
check_of (Err r) = Err r

-- a file set of an index and contents, whose rows tell of the index's records
pub record IsRead (index contents : List ℕ) (set : FileSet) : Type 0 where
  pub index_is : set.index.now ≡ index
  pub contents_is : set.contents.now ≡ contents
  pub same : records_of index set.rows.now ≡ records index
  pub short : AreShort set.rows.now

abbrev pub Read : List ℕ → List ℕ → Result FileSet Refusal → Type 0
Read index contents (Ok set) = IsRead index contents set
Read index contents (Err r) = Unit {0}
