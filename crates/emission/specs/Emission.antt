-- A member's lines as they are put. Nothing here is document 01's: functions promise it, and the laws of `proofs/` tie it to what is emitted.
use Rattle.std.specs.Prelude.{ℕ, List, map, ℤ}
use Rattle.text.specs.Lines.{LF}
use Rattle.text.specs.Split.{join}
use Rattle.member.specs.Member.{movable}
use Rattle.member.specs.Lines.{kept_lines}
use Rattle.emitted.specs.Emitted.{emitted_line}

-- the lines that a member keeps, the first H1 being no heading to be moved, each link's target t being f t
abbrev pub emitted_lines : (List ℕ → List ℕ) → ℤ → List ℕ → List (List ℕ)
emitted_lines f z s = map (emitted_line f z) (movable (kept_lines s))

abbrev pub emitted_text : (List ℕ → List ℕ) → ℤ → List ℕ → List ℕ
emitted_text f z s = join LF (emitted_lines f z s)
