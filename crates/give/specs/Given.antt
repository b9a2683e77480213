-- What becomes of the text that a call's inner run left at the front of the work buffer. Nothing here is document 01's: inner functions promise it, and laws tie it to the calls.
use Rattle.std.specs.Prelude.{ℕ, ◌≤◌, List, ◌++◌, take, drop, Result, Ok, Err}
use Rattle.answer.specs.declared.Answer.{Answer}
use Rattle.answer.specs.declared.Refusal.{Refusal}
use Rattle.answer.specs.declared.Answer.TheVariants.{Accepted, NoRegion}

-- the output once a text at the front of the work buffer w is copied to it
abbrev pub copied : Result Answer Refusal → List ℕ → List ℕ → List ℕ
copied (Ok (Accepted n f)) w out = take n w ++ drop n out
copied (Ok NoRegion) w out = out
copied (Err x) w out = out

-- output and work buffer hold the text
abbrev pub Fits : Result Answer Refusal → ℕ → ℕ → Type 0
Fits (Ok (Accepted n f)) out work = (n ≤ out) × (n ≤ work)
Fits (Ok NoRegion) out work = Unit {0}
Fits (Err x) out work = Unit {0}
