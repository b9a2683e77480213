-- Laws of `specs/Split.antt`: the pieces of a text from the first one on and from the last one back, and how many they are.
-- Assumes nothing.
use Prim.Native.Nat.{ℕ, zero, suc, ◌+◌, ◌-◌, ◌<◌}
use native.Mathlib.Nat.{not-suc-le-zero}
use native.Mathlib.Omega.{arith}
use native.Mathlib.Numerals.{sub-one}
use mathlib.Core.Path.{◌≡◌, refl, ap, ◌∙◌}
use mathlib.Core.Bool.{Bool, true, false, cond}
use mathlib.Core.List.{List, [], ◌∷◌, ◌++◌}
use lib.ListN.{length, take, drop, length-drop}
use lib.Seq.{drop-drop, take_all}
use lib.Dec.{eqb}
use Rattle.text.specs.Bytes.{part, is, first, after_last, count}
use Rattle.text.specs.Split.{onto, split}

-- where the last byte stands, by the first byte and the rest
abbrev behind : Bool → ℕ → ℕ
behind a m = elim m [ zero ↦ cond a 1 0 | suc k ↦ suc (suc k) ]

module _ (b : ℕ) where
  -- the first piece, and those after it
  pub split_step : (s : List ℕ) → first (is b) s < length s → split b s ≡ take (first (is b) s) s ∷ split b (drop (suc (first (is b) s)) s)
  unfolding first split
  split_step [] h = absurd (not-suc-le-zero h)
  split_step (x ∷ s) h = go (eqb x b) (λ k. split_step s k) h
    where
      q : ℕ
      q = first (is b) s

      go : (a : Bool) → (q < length s → split b s ≡ take q s ∷ split b (drop (suc q) s)) → cond a 0 (suc q) < suc (length s)
          → cond a ([] ∷ split b s) (onto x (split b s)) ≡ take (cond a 0 (suc q)) (x ∷ s) ∷ split b (drop (cond a 0 (suc q)) s)
      go true ih k = refl
      go false ih k = ap (onto x) (ih (omega arith))

  pub split-last : (s : List ℕ) → first (is b) s ≡ length s → split b s ≡ s ∷ []
  unfolding first split
  split-last [] h = refl
  split-last (x ∷ s) h = go (eqb x b) (λ k. split-last s k) h
    where
      go : (a : Bool) → (first (is b) s ≡ length s → split b s ≡ s ∷ []) → cond a 0 (suc (first (is b) s)) ≡ suc (length s)
          → cond a ([] ∷ split b s) (onto x (split b s)) ≡ (x ∷ s) ∷ []
      go true ih k = absurd (omega arith)
      go false ih k = ap (onto x) (ih (omega arith))

  -- the same at places: the piece that starts at i and ends at e
  pub split-step-at : (s : List ℕ) (i e : ℕ) → e < length s → e ≡ i + first (is b) (drop i s)
      → split b (drop i s) ≡ part i e s ∷ split b (drop (e + 1) s)
  split-step-at s i e k q =
      let w : e - i ≡ first (is b) (drop i s) = omega arith in
      let v : e + 1 ≡ i + suc (first (is b) (drop i s)) = omega arith in
      split_step (drop i s) (omega (arith, length-drop i s)) ∙ rw (w, v, drop-drop)

  pub split-last-at : (s : List ℕ) (i e : ℕ) → e ≡ length s → e ≡ i + first (is b) (drop i s) → split b (drop i s) ≡ part i e s ∷ []
  split-last-at s i e k q =
      split-last (drop i s) (omega (arith, length-drop i s)) ∙ rw (take_all (e - i) (drop i s) (omega (arith, length-drop i s)))

  -- the last piece, and those before it
  onto-append : (x : ℕ) (l : List (List ℕ)) (p : List ℕ) → 0 < length l → onto x (l ++ (p ∷ [])) ≡ onto x l ++ (p ∷ [])
  onto-append x [] p h = absurd (not-suc-le-zero h)
  onto-append x (q ∷ l) p h = refl

  -- one piece more than bytes b
  pub split-count : (s : List ℕ) → length (split b s) ≡ suc (count (is b) s)
  unfolding split count
  split-count [] = refl
  split-count (x ∷ s) = go (eqb x b) (split b s) (split-count s)
    where
      go : (a : Bool) (l : List (List ℕ)) → length l ≡ suc (count (is b) s)
          → length (cond a ([] ∷ l) (onto x l)) ≡ suc (cond a (suc (count (is b) s)) (count (is b) s))
      go true l h = ap suc h
      go false [] h = absurd (omega arith)
      go false (q ∷ l) h = h

  pub split-some : (s : List ℕ) → 0 < length (split b s)
  split-some s = omega (arith, split-count s)

  pub split-whole : (s : List ℕ) → after_last (is b) s ≡ 0 → split b s ≡ s ∷ []
  unfolding after_last split
  split-whole [] h = refl
  split-whole (x ∷ s) h = go (λ e. split-whole s e) (eqb x b) (after_last (is b) s) refl h
    where
      go : (after_last (is b) s ≡ 0 → split b s ≡ s ∷ []) → (a : Bool) (m : ℕ) → after_last (is b) s ≡ m → behind a m ≡ 0
          → cond a ([] ∷ split b s) (onto x (split b s)) ≡ (x ∷ s) ∷ []
      go ih true zero e k = absurd (omega arith)
      go ih false zero e k = ap (onto x) (ih e)
      go ih a (suc m) e k = absurd (omega arith)

  pub split_back : (s : List ℕ) → 0 < after_last (is b) s
      → split b s ≡ split b (take (after_last (is b) s - 1) s) ++ (drop (after_last (is b) s) s ∷ [])
  unfolding after_last split
  split_back [] h = absurd (not-suc-le-zero h)
  split_back (x ∷ s) h = go (λ k. split_back s k) (eqb x b) (after_last (is b) s) refl refl h
    where
      before : (a : Bool) (k : ℕ) → split b s ≡ split b (take k s) ++ (drop (suc k) s ∷ [])
          → cond a ([] ∷ split b s) (onto x (split b s)) ≡ cond a ([] ∷ split b (take k s)) (onto x (split b (take k s))) ++ (drop (suc k) s ∷ [])
      before true k ih = ap (λ (l : List (List ℕ)). [] ∷ l) ih
      before false k ih = ap (onto x) ih ∙ onto-append x (split b (take k s)) (drop (suc k) s) (split-some (take k s))

      go : (0 < after_last (is b) s → split b s ≡ split b (take (after_last (is b) s - 1) s) ++ (drop (after_last (is b) s) s ∷ []))
          → (a : Bool) (m : ℕ) → eqb x b ≡ a → after_last (is b) s ≡ m → 0 < behind a m
          → cond a ([] ∷ split b s) (onto x (split b s))
          ≡ split b (take (behind a m - 1) (x ∷ s)) ++ (drop (behind a m) (x ∷ s) ∷ [])
      go g true zero p e k = ap (λ (l : List (List ℕ)). [] ∷ l) (split-whole s e)
      go g false zero p e k = absurd (not-suc-le-zero k)
      go g a (suc m) p e k =
          let ih : split b s ≡ split b (take m s) ++ (drop (suc m) s ∷ []) = rw (e, sub-one) at (g (omega arith)) in
          let w : split b (x ∷ take m s) ≡ cond a ([] ∷ split b (take m s)) (onto x (split b (take m s))) = rw p in
          rw (sub-one, w) (before a m ih)
