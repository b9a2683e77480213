-- Sums over lists: what holds of a sum and what holds of its members. Assumes nothing.
use mathlib.Core.Path.{◌≡◌, refl, ap}
use mathlib.Core.List.{List, [], ◌∷◌, ◌++◌, map, Memᴰ}
use Prim.Native.Nat.{ℕ, zero, suc, ◌+◌, ◌≤◌, ◌<◌}
use native.Mathlib.Omega.{arith}
use lib.ListN.{length}

unfoldable pub total : {A : Type 0} → (A → ℕ) → List A → ℕ
total f [] = 0
total f (a ∷ l) = f a + total f l

pub total_append : {A : Type 0} (f : A → ℕ) (k l : List A) → total f (k ++ l) ≡ total f k + total f l
unfolding total
total_append f [] l = omega arith
total_append f (a ∷ k) l = let h = total_append f k l in omega arith

pub total_zero : {A : Type 0} (f : A → ℕ) (l : List A) → total f l ≡ 0 → (a : A) → Memᴰ a l → f a ≡ 0
unfolding total
total_zero f [] h a m = elim m [ ]
total_zero f (b ∷ l) h a (Memᴰ.head e) = rw e (omega arith)
total_zero f (b ∷ l) h a (Memᴰ.tail m) = total_zero f l (omega arith) a m

pub zero_total : {A : Type 0} (f : A → ℕ) (l : List A) → ((a : A) → Memᴰ a l → f a ≡ 0) → total f l ≡ 0
unfolding total
zero_total f [] h = refl
zero_total f (b ∷ l) h =
    let e = h b (Memᴰ.head refl) in
    let r = zero_total f l (λ a m. h a (Memᴰ.tail m)) in
    omega arith

pub total_some : {A : Type 0} (f : A → ℕ) (l : List A) → 0 < total f l → (a : A) × Memᴰ a l × (0 < f a)
unfolding total
total_some f [] h = absurd (omega arith)
total_some f (b ∷ l) h = at_first (f b) refl (total_some f l)
  where
    at_first : (n : ℕ) → f b ≡ n → (0 < total f l → (a : _) × Memᴰ a l × (0 < f a)) → (a : _) × Memᴰ a (b ∷ l) × (0 < f a)
    at_first zero e ih = let r = ih (omega arith) in (r.0, Memᴰ.tail r.1, r.2)
    at_first (suc n) e ih = (b, Memᴰ.head refl, omega arith)

pub total_one : {A : Type 0} (l : List A) → total (λ a. 1) l ≡ length l
unfolding total
total_one [] = refl
total_one (a ∷ l) = let h = total_one l in omega arith

pub total_map : {A C : Type 0} (f : C → ℕ) (g : A → C) (l : List A) → total f (map g l) ≡ total (λ a. f (g a)) l
unfolding total
total_map f g [] = refl
total_map f g (a ∷ l) = ap (λ n. f (g a) + n) (total_map f g l)

pub total_same : {A : Type 0} (f g : A → ℕ) (l : List A) → ((a : A) → f a ≡ g a) → total f l ≡ total g l
unfolding total
total_same f g [] h = refl
total_same f g (a ∷ l) h = rw (h a, total_same f g l h)

pub total_le : {A : Type 0} (f g : A → ℕ) (l : List A) → ((a : A) → f a ≤ g a) → total f l ≤ total g l
unfolding total
total_le f g [] h = omega arith
total_le f g (a ∷ l) h = let x = h a in let y = total_le f g l h in omega arith

pub le_total : {A : Type 0} (f : A → ℕ) (l : List A) (a : A) → Memᴰ a l → f a ≤ total f l
unfolding total
le_total f [] a m = elim m [ ]
le_total f (b ∷ l) a (Memᴰ.head e) = rw e (omega arith)
le_total f (b ∷ l) a (Memᴰ.tail m) = let h = le_total f l a m in omega arith

pub length-zero : {A : Type 0} (l : List A) → length l ≡ 0 → l ≡ []
length-zero [] h = refl
length-zero (a ∷ l) h = absurd (omega arith)
