-- `survey::survey` meets its contract. The invariant: what a scan from place a on finds, with the regions found so far, gives the whole survey. Assumes nothing.
use Prim.Native.Nat.{◌+◌, ◌-◌, ◌≤◌}
use mathlib.Core.Path.{◌≡◌}
use mathlib.Core.Bool.{false}
use lib.ListN.{length, drop}
use Rattle.text.specs.Lines.{lines_from}
use Rattle.scan.specs.Scan.{scan, scan_from}
use Rattle.survey.specs.Surveys.{survey_from}
use Rattle.survey.proofs.survey.Given as goal

abbrev pub invariant-loop-line : goal.invariant-loop-line
invariant-loop-line l =
    (l.cursor.at ≤ length l.s) × ((l.cursor.line ≤ l.cursor.at) × (survey_from l.any l.file (scan_from l.state (l.cursor.line + 1) (lines_from l.cursor.at (drop l.cursor.at l.s))) ≡ survey_from false l.file (scan l.s)))

abbrev pub decreases-loop-line : goal.decreases-loop-line
decreases-loop-line l = length l.s - l.cursor.at
