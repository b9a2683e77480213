-- What a call on files of a disk needs beside their texts.
use Rattle.std.specs.Prelude.{ℕ, zero, suc, ◌+◌, ◌/◌, false, cond, List, [], ◌∷◌, ◌++◌, length, ltb}
use Rattle.text.specs.Bytes.{part}
use Rattle.text.specs.Lines.{LF}
use Rattle.buffer.specs.Decimal.{decimal}
use Rattle.index.specs.Index.{is_printed}
use Rattle.marker.specs.Marker.{kind_of}
use Rattle.marker.specs.declared.line.Kind.{Kind}
use Rattle.marker.specs.declared.line.Kind.TheVariants.{Plain, Fence, Fault, Closes, Opens, Spans}

-- "L, the text limit: 1 to 1,048,576 bytes"; "work at least (records + list lines + 2) × L": the largest L of a work buffer
unfoldable pub largest_limit : ℕ → ℕ → ℕ → ℕ
largest_limit work notes lines = cond (ltb 1048576 (work / (notes + lines + 2))) 1048576 (work / (notes + lines + 2))

abbrev pub TAB : ℕ
TAB = 0x09

-- "a record a line, LF after each: name, start, length, parted by one tab"
abbrev pub record_line : List ℕ → ℕ → ℕ → List ℕ
record_line name start size = name ++ ((TAB ∷ decimal start) ++ ((TAB ∷ decimal size) ++ (LF ∷ [])))

-- "Lines count from 1": the line with a number, nothing where there is none
unfoldable pub nth_line : ℕ → List (List ℕ) → List ℕ
nth_line zero ls = []
nth_line (suc n) [] = []
nth_line (suc zero) (l ∷ ls) = l
nth_line (suc (suc n)) (l ∷ ls) = nth_line (suc n) ls

-- the path P of a line that opens a region, where no region is open above it; the whole line where it opens none
abbrev pub named_as : List ℕ → Kind → List ℕ
named_as l Plain = l
named_as l Fence = l
named_as l (Fault k) = l
named_as l Closes = l
named_as l (Opens p) = part p.path.start p.path.end l
named_as l (Spans i) = l

abbrev pub named_on : List ℕ → List ℕ
named_on l = named_as l (kind_of false false 0 l)

-- a text with `?` in place of each byte that no name has, up to a place, and whole
abbrev pub shown_byte : ℕ → ℕ
shown_byte x = cond (is_printed x) x 0x3F

unfoldable pub shown_up_to : ℕ → List ℕ → List ℕ
shown_up_to zero s = s
shown_up_to (suc n) [] = []
shown_up_to (suc n) (x ∷ s) = shown_byte x ∷ shown_up_to n s

abbrev pub shown : List ℕ → List ℕ
shown s = shown_up_to (length s) s
