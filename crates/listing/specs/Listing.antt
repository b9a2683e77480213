-- Document 01, "Scan listing": all rows of what a scan finds.
use Rattle.std.specs.Prelude.{ℕ, List, ◌++◌}
use Rattle.scan.specs.Scan.{scan}
use Rattle.rows.specs.Row.{span_rows, region_rows, problem_rows}

-- "Spans, then regions, then problems, each kind as found"
unfoldable pub listing : List ℕ → List ℕ
listing s = span_rows (scan s) ++ (region_rows (scan s) ++ problem_rows (scan s))
