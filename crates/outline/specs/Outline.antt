-- What is known of a member once it is prepared. Nothing here is document 01's: functions promise it.
use Rattle.std.specs.Prelude.{ℕ, ℤ, ◌≤◌, ◌≡◌, List, length, take, Option, Some, None, Result}
use Rattle.text.specs.Bytes.{part}
use Rattle.heading.specs.declared.walk.LineKind.{LineKind}
use Rattle.shift.specs.Shift.{kinds_of}
use Rattle.shift.specs.Levels.{AreLevels, ShiftOf}
use Rattle.member.specs.Member.{prepared_lines, title_of, movable}
use Rattle.member.specs.Lines.{kept_lines}
use Rattle.outline.specs.declared.Outline.{Outline}

-- the prepared lines of s are the lines kept up to a place; where the title stands in s; the levels of the other headings
pub record IsOutline (s : List ℕ) (o : Outline) : Type 0 where
  pub within : o.end ≤ length s
  pub lines : prepared_lines s ≡ kept_lines (take o.end s)
  pub title : title_of (prepared_lines s) ≡ Some (part o.title.start o.title.end s)
  pub forward : o.title.start ≤ o.title.end
  pub inside : o.title.end ≤ o.end
  pub levels : AreLevels (kinds_of (movable (prepared_lines s))) o.levels

abbrev pub FoundOutline : List ℕ → Option Outline → Type 0
FoundOutline s (Some o) = IsOutline s o
FoundOutline s None = title_of (prepared_lines s) ≡ None

-- the kinds of the lines kept of s, the first H1 being no heading to be moved
abbrev pub moved_kinds : List ℕ → List LineKind
moved_kinds s = kinds_of (movable (kept_lines s))

-- the shift to level 2, where no heading goes past level 6; or the first line that does, counted from 1
abbrev pub ShiftBelow : List ℕ → Result ℤ ℕ → Type 0
ShiftBelow s r = ShiftOf 2 (moved_kinds s) r
