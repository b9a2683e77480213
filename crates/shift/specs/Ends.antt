-- A text's lines without blank lines at both ends, as a part of the text. Nothing here is document 01's: functions promise it.
use Rattle.std.specs.Prelude.{ℕ, ◌≤◌, ◌≡◌, List, [], ◌∷◌, length}
use Rattle.text.specs.Bytes.{part}
use Rattle.text.specs.Lines.{pieces}
use Rattle.shift.specs.Shift.{drop_end, drop_start}

-- the lines of a text that has no blank line at an end: none where nothing is left
abbrev pub lines_in : List ℕ → List (List ℕ)
lines_in [] = []
lines_in (x ∷ s) = pieces (x ∷ s)

-- the lines of s without blank ends stand from a up to e
pub record AreEnds (s : List ℕ) (a e : ℕ) : Type 0 where
  pub order : a ≤ e
  pub within : e ≤ length s
  pub lines : drop_end (drop_start (pieces s)) ≡ lines_in (part a e s)
