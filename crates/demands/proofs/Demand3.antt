-- Demand 3 of the call book, proved: `specs/Demand3.antt` has what it says. Assumes nothing.
use Rattle.std.specs.Prelude.{Some}
use Prim.Native.Nat.{ℕ, ◌≤◌}
use native.Mathlib.Omega.{arith}
use mathlib.Core.Path.{◌≡◌, sym, ap, ◌∙◌}
use mathlib.Core.List.{List}
use lib.ListN.{length, get_or}
use Rattle.answer.specs.Answer.{numbers}
use Rattle.fileset.proofs.PassedLaws.{book_fit}
use Rattle.walk.specs.Outcome.{Outcome, text}
use Rattle.book.specs.Book.{book_text}
use Rattle.book.specs.Calls.{book_outcome, answer_of}
use Rattle.book.specs.Demand.{file_set, listed, OutcomeDemand3}
use Rattle.book.proofs.BookLaws.{book-running}
use Rattle.book.proofs.Demand.{demand_3 as outcome-demand-3}
use Rattle.demands.specs.Numbers.{Accepted, RefusedBy}
use Rattle.demands.specs.Demand3.{Call, Begins, Demand3}
use Rattle.demands.proofs.NumbersLaws.{accepted_text, refused_refusal, numbered_refused, begins}

module _ (index contents list url : List ℕ) where
  outcomes : OutcomeDemand3 index contents list url
  outcomes = outcome-demand-3 index contents list url

  -- one call
  module _ (c : Call index contents list url) where
    abbrev come : Outcome
    come = book_outcome index contents list url c.L c.B (length c.out) (length c.work)

    given-text : Accepted c.answer → (t : List ℕ) × (n : ℕ) × (come ≡ text t n)
    given-text h = accepted_text come (rw c.contract.numbers at h)

    module _ (t : List ℕ) (n : ℕ) (e : come ≡ text t n) where
      text-made : book_text (file_set index contents) (listed index list) url ≡ Some t
      text-made = (outcomes.as_defined c.L c.B (length c.out) (length c.work) c.passed t n e).0

      -- the text is within the limit, and the output holds it
      text-held : length t ≤ length c.out
      text-held =
          let s = (outcomes.exactly_when c.L c.B (length c.out) (length c.work) c.passed).0 (t, n, e) in
          omega (arith, s.joins_fit t (book-running (file_set index contents) (listed index list) url t text-made), (book_fit index contents list url c.L (length c.out) (length c.work) c.passed).1.0)

      text-numbers : c.answer ≡ numbers (answer_of (text t n))
      text-numbers = c.contract.numbers ∙ ap (λ o. numbers (answer_of o)) e

      text-begins : Begins t c.out c.out'
      text-begins = rw (c.contract.output, e) (begins t c.out text-held)

  -- two calls
  module _ (c d : Call index contents list url) (hL : c.L ≤ d.L) (hB : c.B ≤ d.B) (h : RefusedBy c.answer 15 → ⊥) (k : RefusedBy c.answer 17 → ⊥) where
    come-alike : come c ≡ come d
    come-alike =
        outcomes.alike c.L c.B (length c.out) (length c.work) d.L d.B (length d.out) (length d.work) c.passed d.passed hL hB
        (λ q. h (rw c.contract.numbers (numbered_refused (come c) 15 (omega arith) q))) (λ q. k (rw c.contract.numbers (numbered_refused (come c) 17 (omega arith) q)))

  pub demand_3 : Demand3 index contents list url
  demand_3 = record {
    exactly_when = λ c.
        let x = outcomes.exactly_when c.L c.B (length c.out) (length c.work) c.passed in
        (λ h. x.0 (given-text c h), λ s. let g = x.1 s in ap (λ a. get_or a 0 0) (text-numbers c g.0 g.1 g.2));
    as_defined = λ c h.
        let g = given-text c h in
        let s = outcomes.as_defined c.L c.B (length c.out) (length c.work) c.passed g.0 g.1 g.2 in (
          (g.0, s.0, ap (λ a. get_or a 1 0) (text-numbers c g.0 g.1 g.2), text-begins c g.0 g.1 g.2),
          rw (text-numbers c g.0 g.1 g.2) s.1,
        );
    alike = λ c d hL hB h k.
        let e = come-alike c d hL hB h k in (
          c.contract.numbers ∙ ap (λ o. numbers (answer_of o)) e ∙ sym d.contract.numbers,
          λ g.
              let t = given-text c g in
              rw (text-numbers c t.0 t.1 t.2) ((text-begins c t.0 t.1 t.2).first ∙ sym (text-begins d t.0 t.1 (sym e ∙ t.2)).first),
        );
    with_reason = λ c h.
        let g = refused_refusal (come c) (rw c.contract.numbers at h) in (
          g.0,
          c.contract.numbers ∙ ap (λ o. numbers (answer_of o)) g.1,
          outcomes.with_reason c.L c.B (length c.out) (length c.work) c.passed g.0 g.1,
        );
  }
