-- The levels of a text's headings, and the shift of them. Nothing here is document 01's: functions promise it.
use Rattle.std.specs.Prelude.{ℕ, ℤ, ◌+◌, ◌≤◌, ◌≡◌, true, false, List, Option, Some, None, Result, Ok, Err}
use Rattle.std.specs.Int.Signed.{mag}
use Rattle.text.specs.Lines.{pieces}
use Rattle.heading.specs.Walk.{walk_begin, kinds_from}
use Rattle.heading.specs.Level.{shallowest_of, deepest_of, any_past, first_past, IsLevel}
use Rattle.heading.specs.declared.walk.LineKind.{LineKind}
use Rattle.heading.specs.declared.walk.LineKind.TheVariants.{Quoted, Heading, Other}
use Rattle.shift.specs.declared.level.Levels.{Levels}
use Rattle.shift.specs.Shift.{shift_for}

-- a heading's level is 1 to 6
abbrev pub HasLevel : LineKind → Type 0
HasLevel Quoted = Unit {0}
HasLevel (Heading n a e) = (1 ≤ n) × (n ≤ 6)
HasLevel Other = Unit {0}

-- the kinds of a text's lines
abbrev pub kinds_in : List ℕ → List LineKind
kinds_in s = kinds_from walk_begin (pieces s)

-- the shallowest and the deepest level found, in the words of `heading`, which has 0 for the deepest of none
abbrev pub top_in : Option Levels → Option ℕ
top_in None = None
top_in (Some l) = Some l.shallowest

abbrev pub deepest_in : Option Levels → ℕ
deepest_in None = 0
deepest_in (Some l) = l.deepest

-- the levels of lines, where there is a heading among them
pub record AreLevels (ks : List LineKind) (found : Option Levels) : Type 0 where
  pub shallow : top_in found ≡ shallowest_of None ks
  pub deep : deepest_in found ≡ deepest_of 0 ks
  pub level : IsLevel (top_in found)
  pub small : deepest_in found ≤ 6

-- the shift of lines to a target level, where no heading goes past level 6; or the first line that does, counted from 1
abbrev pub ShiftOf : ℕ → List LineKind → Result ℤ ℕ → Type 0
ShiftOf target ks (Ok x) = (x ≡ shift_for target ks) × ((mag x ≤ 7) × (any_past (shift_for target ks) ks ≡ false))
ShiftOf target ks (Err n) = (any_past (shift_for target ks) ks ≡ true) × (n ≡ 1 + first_past (shift_for target ks) ks)

-- the same of a text
abbrev pub ShiftTo : List ℕ → ℕ → Result ℤ ℕ → Type 0
ShiftTo s target r = ShiftOf target (kinds_in s) r
