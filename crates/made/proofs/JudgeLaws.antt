-- Members judged one after the other, and what a fill's outcome tells of its judged walk. Assumes nothing.
use Prim.Native.Nat.{ℕ}
use native.Mathlib.Omega.{arith}
use mathlib.Core.Path.{◌≡◌, refl, sym, ◌∙◌, ap}
use mathlib.Core.List.{List, [], ◌∷◌, ◌++◌, append_assoc}
use Rattle.answer.specs.declared.Refusal.{Refusal}
use Rattle.walk.specs.Steps.{done, go, Judged, given, refused, judge}
use Rattle.walk.specs.Outcome.{text, refusal}
use Rattle.walk.proofs.StepsLaws.{judge_then, judge-go}
use Rattle.chains.specs.Chains.{Chain}
use Rattle.chains.specs.Fill.{walk, filled}
use Rattle.chains.proofs.FillLaws.{filled-judged}
use Rattle.book.specs.BookWalk.{walk_all}
use Rattle.book.proofs.Demand.{outcome-text, outcome_refused}

-- ---- the first member, and then the others

module _ (B L n : ℕ) (c : Chain) (cs : List Chain) where
  pub all_more : (t : List ℕ) (k : ℕ) → judge B L n (walk c) ≡ given t k → judge B L n (walk_all (c ∷ cs)) ≡ judge_then (judge B L k (walk_all cs)) (λ ts m. given (t ∷ ts) m)
  unfolding walk_all judge
  all_more t k e = judge-go B L n (walk c) (λ u. go (walk_all cs) (λ ts. done (u ∷ ts))) ∙ rw e (judge-go B L k (walk_all cs) (λ ts. done (t ∷ ts)))

  pub all_stop : (x : Refusal) → judge B L n (walk c) ≡ refused x → judge B L n (walk_all (c ∷ cs)) ≡ refused x
  unfolding walk_all
  all_stop x e = judge-go B L n (walk c) (λ u. go (walk_all cs) (λ ts. done (u ∷ ts))) ∙ rw e

-- ---- texts made before

abbrev pub behind : List (List ℕ) → Judged (List (List ℕ)) → Judged (List (List ℕ))
behind ts j = judge_then j (λ us m. given (ts ++ us) m)

pub behind-none : (j : Judged (List (List ℕ))) → behind [] j ≡ j
behind-none (given us m) = refl
behind-none (refused x) = refl

pub behind_more : (ts : List (List ℕ)) (t : List ℕ) (j : Judged (List (List ℕ))) → behind ts (judge_then j (λ us m. given (t ∷ us) m)) ≡ behind (ts ++ (t ∷ [])) j
behind_more ts t (given us m) = ap (λ (l : List (List ℕ)). given l m) (sym (append_assoc ts (t ∷ []) us))
behind_more ts t (refused x) = refl

-- ---- a fill that gives a text, or a refusal

module _ (B L n : ℕ) (c : Chain) where
  pub filled-given : (t : List ℕ) (k : ℕ) → text t k ≡ filled B L n c → judge B L n (walk c) ≡ given t k
  filled-given t k e = outcome-text (judge B L n (walk c)) t k (sym (filled-judged B L n c (λ q. let z : ◌≡◌ {A = ℕ} 0 1 = cc in omega arith)) ∙ sym e)

  pub filled-stopped : (x : Refusal) → refusal x ≡ filled B L n c → judge B L n (walk c) ≡ refused x
  filled-stopped x e = outcome_refused (judge B L n (walk c)) x (sym (filled-judged B L n c (λ q. let z : ◌≡◌ {A = ℕ} 0 1 = cc in omega arith)) ∙ sym e)
