-- The number of chains is one number. Assumes nothing.
use Prim.Native.Nat.{ℕ, suc, ◌+◌, ◌≤◌, ◌<◌}
use native.Mathlib.Omega.{arith}
use mathlib.Core.Path.{◌≡◌, refl, sym, ◌∙◌}
use mathlib.Core.Bool.{Bool, true, false, cond}
use mathlib.Core.List.{List, [], ◌∷◌}
use lib.ListN.{length}
use Rattle.index.specs.Index.{File}
use Rattle.chains.specs.Chains.{same, times_in, CountsChains}
use Rattle.chains.proofs.Paths.{same_self, same_equal, pick_n}

times_cons : (p q : List ℕ) (l : List (List ℕ)) → times_in p (q ∷ l) ≡ pick_n (same p q) 1 + times_in p l
unfolding times_in
times_cons p q l = go (same p q)
  where
    go : (b : Bool) → cond b (suc (times_in p l)) (times_in p l) ≡ pick_n b 1 + times_in p l
    go true = omega arith
    go false = omega arith

-- l without one a
record Without (a : List ℕ) (l : List (List ℕ)) : Type 0 where
  rest : List (List ℕ)
  long : length l ≡ suc (length rest)
  times : (p : List ℕ) → times_in p l ≡ pick_n (same p a) 1 + times_in p rest

without : (a : List ℕ) (l : List (List ℕ)) → 0 < times_in a l → Without a l
unfolding times_in
without a [] h = absurd (omega arith)
without a (q ∷ l) h = go (same a q) refl (omega (arith, times_cons a q l)) (without a l)
  where
    go : (b : Bool) → same a q ≡ b → 0 < pick_n (same a q) 1 + times_in a l → (0 < times_in a l → Without a l) → Without a (q ∷ l)
    go true e k ih = let z = same_equal a q e in record { rest = l; long = refl; times = λ p. rw z (times_cons p q l) }
    go false e k ih =
        let w = ih (omega (arith, rw e at k)) in
        record { rest = q ∷ w.rest; long = omega (arith, w.long); times = λ p. omega (arith, times_cons p q l, times_cons p q w.rest, w.times p) }

times_le : (k l : List (List ℕ)) → ((p : List ℕ) → times_in p k ≡ times_in p l) → length k ≤ length l
times_le [] l h = omega arith
times_le (a ∷ k) l h =
    let s : pick_n (same a a) 1 ≡ 1 = rw (same_self a) in
    let w = without a l (omega (arith, h a, times_cons a a k)) in
    let r = times_le k w.rest (λ p. omega (arith, h p, times_cons p a k, w.times p)) in
    omega (arith, w.long)

pub count_unique : (S : List File) (M : List ℕ) (m n : ℕ) → CountsChains S M m → CountsChains S M n → m ≡ n
count_unique S M m n a b =
    let x = times_le a.paths b.paths (λ p. a.once p ∙ sym (b.once p)) in
    let y = times_le b.paths a.paths (λ p. b.once p ∙ sym (a.once p)) in
    omega (arith, a.many, b.many)
