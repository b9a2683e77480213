-- Document 01, "Scan listing": the row of each thing that a scan finds.
use Rattle.std.specs.Prelude.{ℕ, List, [], ◌∷◌, ◌++◌}
use Rattle.text.specs.Bytes.{bit}
use Rattle.text.specs.Pattern.{bytes}
use Rattle.text.specs.Lines.{LF}
use Rattle.buffer.specs.Decimal.{decimal}
use Rattle.marker.specs.Problems.{number_of}
use Rattle.scan.specs.declared.event.Event.{Event}
use Rattle.scan.specs.declared.event.Event.TheVariants.{OfSpan, OfRegion, OfProblem}

-- "tab between fields": a tab before each field after the first
unfoldable pub cells : List ℕ → List ℕ
cells [] = []
cells (n ∷ ns) = 0x09 ∷ (decimal n ++ cells ns)

-- "every line ends in LF"
abbrev pub row_of : List ℕ → List ℕ → List ℕ
row_of word fields = word ++ (cells fields ++ (LF ∷ []))

-- "`span`, line, spec start, end, text start, end; `region`, opener line, closer line, path start, end, peer 1 or 0; `problem`, line, number"
unfoldable pub row : Event → List ℕ
row (OfSpan x) = row_of (bytes "span") (x.line ∷ x.spec.start ∷ x.spec.end ∷ x.text.start ∷ x.text.end ∷ [])
row (OfRegion g) = row_of (bytes "region") (g.opener.line ∷ g.closer.line ∷ g.path.start ∷ g.path.end ∷ bit g.peer ∷ [])
row (OfProblem n k) = row_of (bytes "problem") (n ∷ number_of k ∷ [])

-- the rows of each kind, as found
unfoldable pub span_rows : List Event → List ℕ
span_rows [] = []
span_rows (OfSpan x ∷ es) = row (OfSpan x) ++ span_rows es
span_rows (OfRegion g ∷ es) = span_rows es
span_rows (OfProblem n k ∷ es) = span_rows es

unfoldable pub region_rows : List Event → List ℕ
region_rows [] = []
region_rows (OfSpan x ∷ es) = region_rows es
region_rows (OfRegion g ∷ es) = row (OfRegion g) ++ region_rows es
region_rows (OfProblem n k ∷ es) = region_rows es

unfoldable pub problem_rows : List Event → List ℕ
problem_rows [] = []
problem_rows (OfSpan x ∷ es) = problem_rows es
problem_rows (OfRegion g ∷ es) = problem_rows es
problem_rows (OfProblem n k ∷ es) = row (OfProblem n k) ++ problem_rows es
