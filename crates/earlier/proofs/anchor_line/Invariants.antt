-- `anchor_line` meets its contract. The invariant: the line is that of the first among the lines left. Assumes nothing.
use Prim.Native.Nat.{suc, ◌+◌, ◌-◌}
use mathlib.Core.Path.{◌≡◌}
use lib.ListN.{length}
use Rattle.anchor.specs.Anchor.{slug}
use Rattle.member.specs.Lines.{kept_lines, left_of, CursorIn}
use Rattle.earlier.specs.Earlier.{line_of}
use Rattle.earlier.proofs.anchor_line.Given as goal

abbrev pub invariant-loop-found : goal.invariant-loop-found
invariant-loop-found l =
    CursorIn l.cursor l.text × (line_of (slug l.heading) 1 (kept_lines l.text) ≡ line_of (slug l.heading) (l.cursor.line + 1) (left_of l.cursor l.text))

abbrev pub decreases-loop-found : goal.decreases-loop-found
decreases-loop-found l = suc (length l.text) - l.cursor.at
