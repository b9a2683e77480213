-- Laws of the six numbers: what an outcome is by them, and where its text stands. Assumes nothing.
use Prim.Native.Nat.{ℕ, ◌≤◌, ◌<◌}
use native.Mathlib.Omega.{arith}
use mathlib.Core.Path.{◌≡◌, refl, ◌∙◌}
use mathlib.Core.List.{List, ◌++◌}
use lib.ListN.{length, drop, length-append, length-drop}
use lib.Seq.{take-append_seam, drop-append_seam}
use Rattle.answer.specs.Answer.{numbers}
use Rattle.answer.specs.declared.Refusal.{Refusal}
use Rattle.walk.specs.Outcome.{Outcome, text, noRegion, refusal}
use Rattle.book.specs.Calls.{answer_of}
use Rattle.book.specs.Demand.{outcome_number}
use Rattle.demands.specs.Numbers.{Accepted, Refused, RefusedBy}
use Rattle.demands.specs.Demand3.{Begins}

-- 0 first: a text; 2 first: a refusal
pub accepted_text : (o : Outcome) → Accepted (numbers (answer_of o)) → (t : List ℕ) × (n : ℕ) × (o ≡ text t n)
accepted_text (text t n) h = (t, n, refl)
accepted_text noRegion h = absurd (omega (arith, h))
accepted_text (refusal x) h = absurd (omega (arith, h))

pub refused_refusal : (o : Outcome) → Refused (numbers (answer_of o)) → (x : Refusal) × (o ≡ refusal x)
refused_refusal (text t n) h = absurd (omega (arith, h))
refused_refusal noRegion h = absurd (omega (arith, h))
refused_refusal (refusal x) h = (x, refl)

-- a number over 0 is a refusal's
pub numbered_refused : (o : Outcome) (k : ℕ) → 0 < k → outcome_number o ≡ k → RefusedBy (numbers (answer_of o)) k
numbered_refused (text t n) k h e = absurd (omega (arith, e))
numbered_refused noRegion k h e = absurd (omega (arith, e))
numbered_refused (refusal x) k h e = (refl, e)

-- a text put over the front of an output that holds it
pub begins : (t out : List ℕ) → length t ≤ length out → Begins t out (t ++ drop (length t) out)
begins t out h = record {
  first = take-append_seam t (drop (length t) out);
  others = drop-append_seam t (drop (length t) out);
  whole = length-append t (drop (length t) out) ∙ omega (arith, length-drop (length t) out);
}
