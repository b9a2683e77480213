-- Document 01, "Records": names, the index and the files that it tells of.
use Rattle.std.specs.Prelude.{ℕ, ◌+◌, Bool, true, false, cond, not, ◌&&◌, List, [], ◌∷◌, length, take, get_or, eqb, leb, Option, Some, None}
use Rattle.index.specs.declared.line.IndexLine.{IndexLine}
use Rattle.text.specs.Bytes.{part, any}
use Rattle.buffer.specs.Decimal.{number_of}
use Rattle.text.specs.Lines.{pieces}
use Rattle.text.specs.Pattern.{bytes, starts_with, equals, later}
use Rattle.text.specs.Split.{split}

abbrev pub TAB : ℕ
TAB = 0x09

-- "Name: 1 to 255 bytes of 20 to 7E hex."
abbrev pub is_printed : ℕ → Bool
is_printed x = leb 0x20 x && leb x 0x7E

abbrev pub is_unprinted : ℕ → Bool
is_unprinted x = not (is_printed x)

unfoldable pub is_name : List ℕ → Bool
is_name s = (leb 1 (length s) && leb (length s) 255) && not (any is_unprinted s)

-- "Start and length: decimal, 1 to 9 digits, no needless leading zero."
abbrev pub is_needless : List ℕ → Bool
is_needless s = leb 2 (length s) && starts_with (bytes "0") s

unfoldable pub field_of : List ℕ → Option ℕ
field_of s = cond ((leb 1 (length s) && leb (length s) 9) && not (is_needless s)) (number_of s) None

-- "name, start, length, parted by one tab": the fields of a line, the name by its length
abbrev pub numbered : ℕ → Option ℕ → Option ℕ → Option IndexLine
numbered n (Some a) (Some z) = Some (record { name = n; start = a; size = z })
numbered n (Some a) None = None
numbered n None z = None

abbrev pub fields : List (List ℕ) → Option IndexLine
fields [] = None
fields (n ∷ []) = None
fields (n ∷ a ∷ []) = None
fields (n ∷ a ∷ z ∷ []) = cond (is_name n) (numbered (length n) (field_of a) (field_of z)) None
fields (n ∷ a ∷ z ∷ y ∷ ls) = None

unfoldable pub line_of : List ℕ → Option IndexLine
line_of l = fields (split TAB l)

abbrev pub is_fields : Option IndexLine → Bool
is_fields (Some p) = true
is_fields None = false

-- "Index: a record a line, LF after each (else the last line is ill formed)": the first line that is ill formed; the lines count from n
unfoldable pub ill_formed_from : ℕ → List (List ℕ) → Option ℕ
ill_formed_from n [] = None
ill_formed_from n (l ∷ []) = cond (eqb (length l) 0) None (Some n)
ill_formed_from n (l ∷ m ∷ ls) = cond (is_fields (line_of l)) (ill_formed_from (n + 1) (m ∷ ls)) (Some n)

abbrev pub ill_formed : List ℕ → Option ℕ
ill_formed index = ill_formed_from 1 (pieces index)

-- a record: the name, and the part of the contents buffer by its start and its length
pub record Record : Type 0 where
  pub name : List ℕ
  pub start : ℕ
  pub size : ℕ

abbrev pub entry : List ℕ → ℕ → ℕ → Record
entry name a z = record { name = name; start = a; size = z }

-- the records of lines
abbrev pub recorded : List ℕ → Option IndexLine → List Record → List Record
recorded l (Some p) rs = entry (take p.name l) p.start p.size ∷ rs
recorded l None rs = rs

unfoldable pub records_from : List (List ℕ) → List Record
records_from [] = []
records_from (l ∷ ls) = recorded l (line_of l) (records_from ls)

abbrev pub records : List ℕ → List Record
records index = records_from (pieces index)

-- "The file is that part of the contents buffer"
abbrev pub file_text : List ℕ → Record → List ℕ
file_text contents r = part r.start (r.start + r.size) contents

-- a file with its number for places: "File is the record's number from 1; it is 0 for a host handed in"
pub record File : Type 0 where
  pub number : ℕ
  pub name : List ℕ
  pub text : List ℕ

abbrev pub file_of : ℕ → List ℕ → List ℕ → File
file_of k name text = record { number = k; name = name; text = text }

-- the file set: the records' files in order, counted from k
unfoldable pub files_from : ℕ → List ℕ → List Record → List File
files_from k contents [] = []
files_from k contents (r ∷ rs) = file_of k r.name (file_text contents r) ∷ files_from (k + 1) contents rs

abbrev pub files : List ℕ → List ℕ → List File
files index contents = files_from 1 contents (records index)

-- file k of a set, counted from 0
abbrev pub file_at : List File → ℕ → File
file_at S k = get_or S k (file_of 0 [] [])

-- the first of a list that has a name, counted from 0: names compare as bytes
unfoldable pub first_named : {A : Type 0} → (A → List ℕ) → List ℕ → List A → Option ℕ
first_named f name [] = None
first_named f name (a ∷ l) = cond (equals name (f a)) (Some 0) (later 1 (first_named f name l))

abbrev pub find_record : List ℕ → List Record → Option ℕ
find_record name rs = first_named (λ r. r.name) name rs

abbrev pub find_file : List ℕ → List File → Option ℕ
find_file name S = first_named (λ f. f.name) name S
