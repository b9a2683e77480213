-- An assembly's answer, for the functions. Nothing here is document 01's.
use Rattle.std.specs.Prelude.{ℕ, ◌≤◌, List, take, Result, Ok, Err}
use Rattle.answer.specs.declared.Refusal.{Refusal}
use Rattle.walk.specs.Outcome.{Outcome, text, refusal}

-- an assembly's answer, with the buffer that begins with its text and the files taken in before
abbrev pub read_assembled : ℕ → Result ℕ Refusal → List ℕ → Outcome
read_assembled files (Ok n) w = text (take n w) files
read_assembled files (Err x) w = refusal x

-- the text of an answer is within the limit
abbrev pub AssembledWithin : Result ℕ Refusal → ℕ → Type 0
AssembledWithin (Ok n) limit = n ≤ limit
AssembledWithin (Err x) limit = Unit {0}
