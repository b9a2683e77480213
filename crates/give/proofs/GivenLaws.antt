-- Laws of what a call gives: its answer and its output by what its inner run left at the front of the work buffer. Assumes nothing.
use Rattle.std.specs.Prelude.{Result, Ok, Err}
use Prim.Native.Nat.{ℕ, ◌+◌, ◌≤◌}
use native.Mathlib.Omega.{arith}
use mathlib.Core.Path.{◌≡◌, refl, sym, ◌∙◌, ap}
use mathlib.Core.List.{List, ◌++◌}
use lib.ListN.{length, take, drop, replicate}
use lib.Seq.{sets, sets-eq, length-take-le}
use Rattle.answer.specs.declared.Answer.{Answer}
use Rattle.answer.specs.declared.Refusal.{Refusal}
use Rattle.answer.specs.declared.Answer.TheVariants.{Accepted, NoRegion}
use Rattle.walk.specs.Outcome.{Outcome}
use Rattle.book.specs.Calls.{answer_of, output_after, work_after}
use Rattle.filling.specs.Filling.{read_filled}
use Rattle.give.specs.Given.{copied, Fits}

answer_read : (a : Result Answer Refusal) (w : List ℕ) (out : ℕ) → Fits a out (length w) → a ≡ answer_of (read_filled a w)
answer_read (Ok (Accepted n f)) w out h = ap (λ (k : ℕ). Ok (Accepted k f)) (sym (length-take-le n w h.1))
answer_read (Ok NoRegion) w out h = refl
answer_read (Err x) w out h = refl

output_read : (a : Result Answer Refusal) (w out : List ℕ) → Fits a (length out) (length w) → copied a w out ≡ output_after (read_filled a w) out
output_read (Ok (Accepted n f)) w out h = ap (λ (k : ℕ). take n w ++ drop k out) (sym (length-take-le n w h.1))
output_read (Ok NoRegion) w out h = refl
output_read (Err x) w out h = refl

-- a text copied to the front of a buffer
pub copied-front : (n : ℕ) (w out : List ℕ) → n ≤ length w → n ≤ length out → sets out 0 (take n w) ≡ take n w ++ drop n out
copied-front n w out h k =
    let e : 0 + length (take n w) ≡ n = omega (arith, length-take-le n w h) in
    sets-eq (take n w) out 0 (omega arith) ∙ ap (λ (m : ℕ). take n w ++ drop m out) e

-- in larger buffers
pub fits_more : (a : Result Answer Refusal) (limit out work : ℕ) → limit ≤ out → limit ≤ work → Fits a limit limit → Fits a out work
fits_more (Ok (Accepted n f)) limit out work h k l = (omega arith, omega arith)
fits_more (Ok NoRegion) limit out work h k l = tt
fits_more (Err x) limit out work h k l = tt

-- a call whose inner run left w in place of the work buffer v, as long, comes to o, and gives that
module _ (a : Result Answer Refusal) (w v : List ℕ) (kept : length w ≡ length v) where
  pub call_fits : (out : ℕ) → Fits a out (length v) → Fits a out (length w)
  call_fits out h = rw kept h

  pub call_gives : {o : Outcome} (out out' work' : List ℕ) → read_filled a w ≡ o → Fits a (length out) (length v) → out' ≡ copied a w out → work' ≡ work_after w
      → (a ≡ answer_of o) × ((out' ≡ output_after o out) × (work' ≡ work_after v))
  call_gives out out' work' e h f g =
      let k = call_fits (length out) h in (
        answer_read a w (length out) k ∙ ap answer_of e,
        (f ∙ output_read a w out k ∙ ap (λ r. output_after r out) e, g ∙ ap (λ (n : ℕ). replicate n 0) kept),
      )
