-- A text without its region marker lines. Nothing here is document 01's: functions promise it.
use Rattle.std.specs.Prelude.{ℕ, ◌+◌, ◌≡◌, List, drop}
use Rattle.text.specs.Lines.{pieces, line_next}
use Rattle.scan.specs.Scan.{scan, regions_of}
use Rattle.shift.specs.Shift.{drop_start, drop_end}
use Rattle.embedding.specs.Embed.{unmarked_from}

-- u is v without the region marker lines that a scan of v finds, but for blank lines at the ends
abbrev pub Unmarked : List ℕ → List ℕ → Type 0
Unmarked v u = drop_end (drop_start (pieces u)) ≡ drop_end (drop_start (unmarked_from 1 (regions_of (scan v)) (pieces v)))

-- where the line after the one at place o starts
abbrev pub line_after : ℕ → List ℕ → ℕ
line_after o s = o + line_next (drop o s)
