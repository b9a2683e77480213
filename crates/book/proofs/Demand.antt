-- Demand 3, proved: `specs/Demand.antt` has what it says. Assumes nothing.
use Rattle.std.specs.Prelude.{Ok}
use Prim.Native.Nat.{ℕ}
use native.Mathlib.Omega.{arith}
use mathlib.Core.Path.{◌≡◌, refl, sym, ap, ◌∙◌}
use mathlib.Core.List.{List}
use Rattle.answer.specs.declared.Refusal.{Refusal}
use Rattle.fileset.specs.Check.{book_checked}
use Rattle.fileset.proofs.PassedLaws.{book-few}
use Rattle.walk.specs.Steps.{Judged, given, refused, judge, judged_number}
use Rattle.chains.proofs.Paths.{counts_chains}
use Rattle.book.specs.BookWalk.{book}
use Rattle.walk.specs.Outcome.{text, refusal, outcome}
use Rattle.book.specs.Calls.{book_outcome}
use Rattle.book.specs.Demand.{file_set, listed, outcome_number, OutcomeDemand3}
use Rattle.book.proofs.DemandLaws.{given_exactly, given-text, given-count, larger_limits, refused_because}

pub outcome-text : (j : Judged (List ℕ)) (t : List ℕ) (n : ℕ) → outcome j ≡ text t n → j ≡ given t n
outcome-text (given a m) t n e = let p : a ≡ t = cc in let q : m ≡ n = cc in rw (p, q)
outcome-text (refused x) t n e = let z : ◌≡◌ {A = ℕ} 0 1 = cc in absurd (omega arith)

pub outcome_refused : (j : Judged (List ℕ)) (x : Refusal) → outcome j ≡ refusal x → j ≡ refused x
outcome_refused (given a m) x e = let z : ◌≡◌ {A = ℕ} 0 1 = cc in absurd (omega arith)
outcome_refused (refused y) x e = let q : y ≡ x = cc in rw q

outcome-number : (j : Judged (List ℕ)) → outcome_number (outcome j) ≡ judged_number j
outcome-number (given a m) = refl
outcome-number (refused x) = refl

module _ (index contents list url : List ℕ) where
  -- the walk of the book, judged
  abbrev judged : ℕ → ℕ → Judged (List ℕ)
  judged L B = judge B L 0 (book (file_set index contents) (listed index list) url)

  walked : (L B out work : ℕ) → book_checked index contents list url L out work ≡ (Ok tt) → book_outcome index contents list url L B out work ≡ outcome (judged L B)
  unfolding book_outcome
  walked L B out work e = rw e

  pub demand_3 : OutcomeDemand3 index contents list url
  demand_3 = record {
    exactly_when = λ L B out work e.
        let w = walked L B out work e in
        let x = given_exactly B L (file_set index contents) (book-few index contents list url L out work e) (listed index list) url in
        (λ g. x.0 (g.0, g.1, outcome-text (judged L B) g.0 g.1 (sym w ∙ g.2)), λ s. let r = x.1 s in (r.0, r.1, w ∙ ap outcome r.2));
    as_defined = λ L B out work e t n g.
        let few = book-few index contents list url L out work e in
        let j = outcome-text (judged L B) t n (sym (walked L B out work e) ∙ g) in (
          given-text B L (file_set index contents) few (listed index list) url t n j,
          rw (given-count B L (file_set index contents) few (listed index list) url t n j) (counts_chains (file_set index contents) few (listed index list)),
        );
    alike = λ L B out work L' B' out' work' e e' hL hB h k.
        let w = walked L B out work e in
        w ∙ ap outcome (larger_limits B L B' L' (file_set index contents) (listed index list) url hB hL
        (λ q. h (ap outcome_number w ∙ outcome-number (judged L B) ∙ q)) (λ q. k (ap outcome_number w ∙ outcome-number (judged L B) ∙ q)))
        ∙ sym (walked L' B' out' work' e');
    with_reason = λ L B out work e x g.
        refused_because (file_set index contents) (book-few index contents list url L out work e) (listed index list) url B L x
        (outcome_refused (judged L B) x (sym (walked L B out work e) ∙ g));
  }
