-- A line of a member, or a block of lines, as it is put. Nothing here is document 01's: functions promise it, and the laws of `emission` tie it to what is emitted.
use Rattle.std.specs.Prelude.{ℕ, ◌+◌, ◌-◌, ◌≤◌, cond, List, [], ◌∷◌, ◌++◌, leb, ℤ}
use Rattle.text.specs.Bytes.{part}
use Rattle.text.specs.Lines.{LF}
use Rattle.shift.specs.Shift.{Told, moved_line}
use Rattle.put.specs.NewText.{KindIn}
use Rattle.put.specs.Running.{between}
use Rattle.put.specs.declared.Source.{Source}
use Rattle.member.specs.declared.lines.KeptLine.{KeptLine}
use Rattle.member.specs.declared.lines.LineCursor.{LineCursor}
use Rattle.emitted.specs.Line.{rewrite_line}

-- a line of the text s; and it lies in a source
abbrev pub line_of : List ℕ → KeptLine → Told
line_of s line = record { kind = line.kind; bytes = part line.start line.end s }

abbrev pub LineIn : Source → KeptLine → Type 0
LineIn source line = (line.start ≤ line.end) × ((source.start + line.end ≤ source.end) × KindIn (line.end - line.start) line.kind)

-- what a line becomes, each link's target t being f t
abbrev pub emitted_line : (List ℕ → List ℕ) → ℤ → Told → List ℕ
emitted_line f z t = rewrite_line f t.kind (moved_line z t)

-- what stands before a line that has n lines before it
abbrev pub break_before : ℕ → List ℕ
break_before n = between n (LF ∷ [])

-- the lines between two cursors as they stand in s, with what stands before them
abbrev pub block_text : List ℕ → LineCursor → LineCursor → List ℕ
block_text s c d = cond (leb d.line c.line) [] (break_before c.line ++ part c.at (d.at - 1) s)
