-- Laws of `specs/Steps.antt`: walks one after the other, and what stands behind a judgement. Assumes nothing.
use Rattle.std.specs.Prelude.{Some}
use mathlib.Core.Path.{◌≡◌, refl, sym, ap}
use mathlib.Core.Bool.{Bool, true, false, cond}
use mathlib.Core.List.{List}
use mathlib.Core.Logic.{◌⊎◌, inl, inr}
use Prim.Native.Nat.{ℕ, suc, ◌+◌, ◌-◌, ◌≤◌, ◌<◌}
use native.Mathlib.Omega.{arith}
use lib.Dec.{leb, ltb}
use lib.ListN.{length}
use borrow.Author.Tests.{le-leb, lt-ltb, leb-true, leb-false, ltb-true, ltb-false}
use Rattle.answer.specs.Answer.{number}
use Rattle.answer.specs.declared.Refusal.{Refusal}
use Rattle.answer.specs.declared.Refusal.TheVariants.{Allowance, TextLimit}
use Rattle.walk.specs.Parts.{and_then, Part, good, flawed, part_made, part_faults}
use Rattle.walk.specs.Steps.{Judged, Steps, done, failed, sized, taken, go, part, ends, fails, takes, sizes, given, refused, judge, judged_number}
use Rattle.walk.proofs.Sums.{total}

pub ends-go : {A B : Type 0} (w : Steps A) (g : A → Steps B) → ends (go w g) ≡ and_then (ends w) (λ a. ends (g a))
unfolding ends go
ends-go (done a) g = refl
ends-go (failed x) g = refl
ends-go (sized t p w) g = ends-go w g
ends-go (taken p w) g = ends-go w g

pub ends-part : {A : Type 0} (y : Part A) → ends (part y) ≡ part_made y
unfolding ends
ends-part (good a) = refl
ends-part (flawed x xs) = refl

-- a weight for each running text and one for each file taken in
unfoldable pub weigh : {A : Type 0} → (List ℕ → ℕ) → ℕ → Steps A → ℕ
weigh f n (done a) = 0
weigh f n (failed x) = 0
weigh f n (sized t p w) = f t + weigh f n w
weigh f n (taken p w) = n + weigh f n w

pub weigh_takes : {A : Type 0} (w : Steps A) → weigh (λ t. 0) 1 w ≡ takes w
unfolding weigh takes
weigh_takes (done a) = refl
weigh_takes (failed x) = refl
weigh_takes (sized t p w) = let h = weigh_takes w in omega arith
weigh_takes (taken p w) = let h = weigh_takes w in omega arith

pub weigh_sizes : {A : Type 0} (f : List ℕ → ℕ) (w : Steps A) → weigh f 0 w ≡ total f (sizes w)
unfolding weigh sizes total
weigh_sizes f (done a) = refl
weigh_sizes f (failed x) = refl
weigh_sizes f (sized t p w) = let h = weigh_sizes f w in omega arith
weigh_sizes f (taken p w) = let h = weigh_sizes f w in omega arith

pub weigh_go : {A B : Type 0} (f : List ℕ → ℕ) (n : ℕ) (w : Steps A) (g : A → Steps B) (a : A) → ends w ≡ Some a
    → weigh f n (go w g) ≡ weigh f n w + weigh f n (g a)
unfolding weigh go ends
weigh_go f n (done b) g a e = let h : b ≡ a = cc in rw h (omega arith)
weigh_go f n (failed x) g a e = let z : ◌≡◌ {A = ℕ} 0 1 = cc in omega arith
weigh_go f n (sized t p w) g a e = let h = weigh_go f n w g a e in omega arith
weigh_go f n (taken p w) g a e = let h = weigh_go f n w g a e in omega arith

pub weigh_part : {A : Type 0} (f : List ℕ → ℕ) (n : ℕ) (y : Part A) → weigh f n (part y) ≡ 0
unfolding weigh
weigh_part f n (good a) = refl
weigh_part f n (flawed x xs) = refl

pub weigh_go_le : {A B : Type 0} (f : List ℕ → ℕ) (n : ℕ) (w : Steps A) (g : A → Steps B) (k j : ℕ) → weigh f n w ≤ k → ((a : A) → ends w ≡ Some a → weigh f n (g a) ≤ j) → weigh f n (go w g) ≤ k + j
unfolding weigh go ends
weigh_go_le f n (done a) g k j h l = omega (arith, l a refl)
weigh_go_le f n (failed x) g k j h l = omega arith
weigh_go_le f n (sized t p w) g k j h l = let z = weigh_go_le f n w g (k - f t) j (omega arith) l in omega arith
weigh_go_le f n (taken p w) g k j h l = let z = weigh_go_le f n w g (k - n) j (omega arith) l in omega arith

-- a weight for the fault that a walk ends in
unfoldable pub flaw : {A : Type 0} → (Refusal → ℕ) → Steps A → ℕ
flaw f (done a) = 0
flaw f (failed x) = f x
flaw f (sized t p w) = flaw f w
flaw f (taken p w) = flaw f w

pub flaw_fails : {A : Type 0} (f : Refusal → ℕ) (w : Steps A) (x : Refusal) → fails w ≡ Some x → flaw f w ≡ f x
unfolding flaw fails
flaw_fails f (done a) x e = let z : ◌≡◌ {A = ℕ} 0 1 = cc in absurd (omega arith)
flaw_fails f (failed y) x e = let h : y ≡ x = cc in rw h
flaw_fails f (sized t p w) x e = flaw_fails f w x e
flaw_fails f (taken p w) x e = flaw_fails f w x e

pub flaw_go : {A B : Type 0} (f : Refusal → ℕ) (w : Steps A) (g : A → Steps B) (k j : ℕ) → flaw f w ≤ k → ((a : A) → ends w ≡ Some a → flaw f (g a) ≤ j) → flaw f (go w g) ≤ k + j
unfolding flaw go ends
flaw_go f (done a) g k j h l = omega (arith, l a refl)
flaw_go f (failed x) g k j h l = omega arith
flaw_go f (sized t p w) g k j h l = flaw_go f w g k j h l
flaw_go f (taken p w) g k j h l = flaw_go f w g k j h l

pub flaw_part : {A : Type 0} (f : Refusal → ℕ) (y : Part A) → flaw f (part y) ≤ total f (part_faults y)
unfolding flaw total
flaw_part f (good a) = omega arith
flaw_part f (flawed x xs) = omega arith

-- ---- the limits

-- how far a text is over the limit
abbrev pub over : ℕ → List ℕ → ℕ
over L t = length t - L

-- what stands behind a given answer
pub record Granted {A : Type 0} (B L n : ℕ) (w : Steps A) (a : A) (m : ℕ) : Type 0 where
  pub ended : ends w ≡ Some a
  pub count : m ≡ n + takes w
  pub allowed : m ≤ B
  pub fits : total (over L) (sizes w) ≡ 0

module _ {A : Type 0} (B L : ℕ) where
  pub judge-given : (n : ℕ) (w : Steps A) (a : A) → ends w ≡ Some a → n + takes w ≤ B → total (over L) (sizes w) ≡ 0 → judge B L n w ≡ given a (n + takes w)
  unfolding judge ends takes sizes total
  judge-given n (done b) a e h s = let q : b ≡ a = cc in let r : n + 0 ≡ n = omega arith in rw (q, r)
  judge-given n (failed x) a e h s = let z : ◌≡◌ {A = ℕ} 0 1 = cc in absurd (omega arith)
  judge-given n (sized t p w) a e h s = rw (le-leb (length t) L (omega arith)) (judge-given n w a e h (omega arith))
  judge-given n (taken p w) a e h s =
      let q : n + suc (takes w) ≡ suc n + takes w = omega arith in
      rw (lt-ltb n B (omega arith), q) (judge-given (suc n) w a e (omega arith) s)

  pub given-judge : (n : ℕ) (w : Steps A) (a : A) (m : ℕ) → n ≤ B → judge B L n w ≡ given a m → Granted B L n w a m
  unfolding judge ends takes sizes total
  given-judge n (done b) a m l e =
      let h : n ≡ m = cc in
      record { ended = cc; count = omega arith; allowed = omega arith; fits = refl }
  given-judge n (failed x) a m l e = let z : ◌≡◌ {A = ℕ} 0 1 = cc in absurd (omega arith)
  given-judge n (sized t p w) a m l e = at_test (leb (length t) L) refl (given-judge n w a m l)
    where
      at_test : (b : Bool) → leb (length t) L ≡ b → (judge B L n w ≡ given a m → Granted B L n w a m) → Granted B L n (sized t p w) a m
      at_test true q ih =
          let g = ih (rw q at e) in
          record { ended = g.ended; count = g.count; allowed = g.allowed; fits = omega (arith, leb-true (length t) L q, g.fits) }
      at_test false q ih = let k = rw q at e in let z : ◌≡◌ {A = ℕ} 0 1 = cc in absurd (omega arith)
  given-judge n (taken p w) a m l e = at_test (ltb n B) refl (given-judge (suc n) w a m)
    where
      at_test : (b : Bool) → ltb n B ≡ b → (suc n ≤ B → judge B L (suc n) w ≡ given a m → Granted B L (suc n) w a m) → Granted B L n (taken p w) a m
      at_test true q ih =
          let g = ih (ltb-true n B q) (rw q at e) in
          record { ended = g.ended; count = omega (arith, g.count); allowed = g.allowed; fits = g.fits }
      at_test false q ih = let k = rw q at e in let z : ◌≡◌ {A = ℕ} 0 1 = cc in absurd (omega arith)

  -- larger limits: the same answer, unless the first is 15 or 17
  pub judge_more : (B' L' : ℕ) → B ≤ B' → L ≤ L' → (n : ℕ) (w : Steps A) → (judged_number (judge B L n w) ≡ 15 → ⊥) → (judged_number (judge B L n w) ≡ 17 → ⊥)
      → judge B L n w ≡ judge B' L' n w
  unfolding judge
  judge_more B' L' hB hL n (done a) x y = refl
  judge_more B' L' hB hL n (failed a) x y = refl
  judge_more B' L' hB hL n (sized t p w) x y = at_test (leb (length t) L) refl (judge_more B' L' hB hL n w)
    where
      at_test : (b : Bool) → leb (length t) L ≡ b → ((judged_number (judge B L n w) ≡ 15 → ⊥) → (judged_number (judge B L n w) ≡ 17 → ⊥) → judge B L n w ≡ judge B' L' n w)
          → judge B L n (sized t p w) ≡ judge B' L' n (sized t p w)
      at_test true q ih = rw (q, le-leb (length t) L' (omega (arith, leb-true (length t) L q))) (ih (rw q at x) (rw q at y))
      at_test false q ih = absurd ((rw q at y) refl)
  judge_more B' L' hB hL n (taken p w) x y = at_test (ltb n B) refl (judge_more B' L' hB hL (suc n) w)
    where
      at_test : (b : Bool) → ltb n B ≡ b → ((judged_number (judge B L (suc n) w) ≡ 15 → ⊥) → (judged_number (judge B L (suc n) w) ≡ 17 → ⊥) → judge B L (suc n) w ≡ judge B' L' (suc n) w)
          → judge B L n (taken p w) ≡ judge B' L' n (taken p w)
      at_test true q ih = rw (q, lt-ltb n B' (omega (arith, ltb-true n B q))) (ih (rw q at x) (rw q at y))
      at_test false q ih = absurd ((rw q at x) refl)

-- what stands behind a refusal: the fault that the walk ends in, 15 with more files than the allowance, or 17 with a running text over the limit
abbrev pub Grounds : {A : Type 0} → ℕ → ℕ → ℕ → Steps A → Refusal → Type 0
Grounds B L n w x = (fails w ≡ Some x) ⊎ (((number x ≡ 15) × (B < n + takes w)) ⊎ ((number x ≡ 17) × (0 < total (over L) (sizes w))))

pub refused_judge : {A : Type 0} (B L n : ℕ) (w : Steps A) (x : Refusal) → judge B L n w ≡ refused x → Grounds B L n w x
unfolding judge fails takes sizes total
refused_judge B L n (done a) x e = let z : ◌≡◌ {A = ℕ} 0 1 = cc in absurd (omega arith)
refused_judge B L n (failed y) x e = let q : y ≡ x = cc in inl (rw q)
refused_judge B L n (sized t p w) x e = at_test (leb (length t) L) refl e (λ q. refused_judge B L n w x q)
  where
    more : Grounds B L n w x → Grounds B L n (sized t p w) x
    more (inl h) = inl h
    more (inr (inl h)) = inr (inl h)
    more (inr (inr h)) = inr (inr (h.0, omega (arith, h.1)))

    at_test : (b : Bool) → leb (length t) L ≡ b → cond b (judge B L n w) (refused (TextLimit p)) ≡ refused x → (judge B L n w ≡ refused x → Grounds B L n w x) → Grounds B L n (sized t p w) x
    at_test true q h ih = more (ih h)
    at_test false q h ih = let z : TextLimit p ≡ x = cc in inr (inr (ap number (sym z), omega (arith, leb-false (length t) L q)))
refused_judge B L n (taken p w) x e = at_test (ltb n B) refl e (λ q. refused_judge B L (suc n) w x q)
  where
    more : Grounds B L (suc n) w x → Grounds B L n (taken p w) x
    more (inl h) = inl h
    more (inr (inl h)) = inr (inl (h.0, omega (arith, h.1)))
    more (inr (inr h)) = inr (inr h)

    at_test : (b : Bool) → ltb n B ≡ b → cond b (judge B L (suc n) w) (refused (Allowance p)) ≡ refused x → (judge B L (suc n) w ≡ refused x → Grounds B L (suc n) w x) → Grounds B L n (taken p w) x
    at_test true q h ih = more (ih h)
    at_test false q h ih = let z : Allowance p ≡ x = cc in inr (inl (ap number (sym z), omega (arith, ltb-false n B q)))

abbrev pub judge_then : {A C : Type 0} → Judged A → (A → ℕ → Judged C) → Judged C
judge_then (given a n) k = k a n
judge_then (refused x) k = refused x

pub judge-go : {A C : Type 0} (B L n : ℕ) (w : Steps A) (g : A → Steps C) → judge B L n (go w g) ≡ judge_then (judge B L n w) (λ a m. judge B L m (g a))
unfolding judge go
judge-go B L n (done a) g = refl
judge-go B L n (failed x) g = refl
judge-go B L n (sized t p w) g = at_test (leb (length t) L) (judge-go B L n w g)
  where
    at_test : (b : Bool) → judge B L n (go w g) ≡ judge_then (judge B L n w) (λ a m. judge B L m (g a))
        → cond b (judge B L n (go w g)) (refused (TextLimit p)) ≡ judge_then (cond b (judge B L n w) (refused (TextLimit p))) (λ a m. judge B L m (g a))
    at_test true h = h
    at_test false h = refl
judge-go B L n (taken p w) g = at_test (ltb n B) (judge-go B L (suc n) w g)
  where
    at_test : (b : Bool) → judge B L (suc n) (go w g) ≡ judge_then (judge B L (suc n) w) (λ a m. judge B L m (g a))
        → cond b (judge B L (suc n) (go w g)) (refused (Allowance p)) ≡ judge_then (cond b (judge B L (suc n) w) (refused (Allowance p))) (λ a m. judge B L m (g a))
    at_test true h = h
    at_test false h = refl
