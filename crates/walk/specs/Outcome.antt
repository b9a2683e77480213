-- What a call comes to.
use Rattle.std.specs.Prelude.{ℕ, List}
use Rattle.answer.specs.declared.Refusal.{Refusal}
use Rattle.walk.specs.Steps.{Judged, given, refused}

-- a text with the files taken in, no region, or a refusal
pub data Outcome : Type 0 where
  text : List ℕ → ℕ → Outcome
  noRegion : Outcome
  refusal : Refusal → Outcome

abbrev pub outcome : Judged (List ℕ) → Outcome
outcome (given t n) = text t n
outcome (refused x) = refusal x
