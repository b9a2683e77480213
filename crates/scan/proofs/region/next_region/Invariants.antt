-- `scan::region::next_region` meets its contract. The invariant: the regions from place a on are those from the cursor on.
use Prim.Native.Nat.{◌+◌, ◌-◌, ◌≤◌}
use mathlib.Core.Path.{◌≡◌}
use lib.ListN.{length, drop}
use Rattle.text.specs.Lines.{lines_from}
use Rattle.scan.specs.Scan.{begin, scan_from, regions_of}
use Rattle.scan.proofs.region.next_region.Given as goal

abbrev pub invariant-loop-line : goal.invariant-loop-line
invariant-loop-line l =
    (l.fn.from.at ≤ l.cursor.at)
    × ((l.cursor.at ≤ length l.s)
    × ((l.cursor.line ≤ l.cursor.at)
    × (regions_of (scan_from l.state (l.cursor.line + 1) (lines_from l.cursor.at (drop l.cursor.at l.s))) ≡ regions_of (scan_from begin (l.fn.from.line + 1) (lines_from l.fn.from.at (drop l.fn.from.at l.s))))))

abbrev pub decreases-loop-line : goal.decreases-loop-line
decreases-loop-line l = length l.s - l.cursor.at
