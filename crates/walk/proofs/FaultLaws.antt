-- The numbers of faults: 9 to 14, 16, 18 and 19, and not 15 or 17, which are for the limits. Assumes nothing.
use Prim.Native.Nat.{ℕ}
use mathlib.Core.Path.{◌≡◌, refl, sym, ◌∙◌, ap}
use mathlib.Core.Bool.{Bool, true, false, ◌&&◌, ◌||◌, false≢true}
use mathlib.Core.List.Memᴰ
use mathlib.Core.List.{List, [], ◌∷◌, ◌++◌, Memᴰ}
use mathlib.Core.Logic.{◌⊎◌, inl, inr}
use lib.Dec.{eqb, leb}
use Rattle.answer.specs.Answer.{number}
use Rattle.answer.specs.declared.Refusal.{Refusal}

abbrev pub fault_number : ℕ → Bool
fault_number n = (leb 9 n && leb n 14) || (eqb n 16 || (leb 18 n && leb n 19))

abbrev pub is_fault : Refusal → Bool
is_fault x = fault_number (number x)

pub fault_not : (x : Refusal) (n : ℕ) → fault_number n ≡ false → is_fault x ≡ true → number x ≡ n → ⊥
fault_not x n h f e = false≢true (sym h ∙ ap fault_number (sym e) ∙ f)

unfoldable pub all_faults : List Refusal → Bool
all_faults [] = true
all_faults (x ∷ xs) = is_fault x && all_faults xs

pub all_append : (xs ys : List Refusal) → all_faults xs ≡ true → all_faults ys ≡ true → all_faults (xs ++ ys) ≡ true
unfolding all_faults
all_append [] ys p q = q
all_append (x ∷ xs) ys p q = go (is_fault x) p (λ h. all_append xs ys h q)
  where
    go : (b : Bool) → (b && all_faults xs) ≡ true → (all_faults xs ≡ true → all_faults (xs ++ ys) ≡ true) → (b && all_faults (xs ++ ys)) ≡ true
    go true h ih = ih h
    go false h ih = h

pub all_member : (x : Refusal) (xs : List Refusal) → Memᴰ x xs → all_faults xs ≡ true → is_fault x ≡ true
unfolding all_faults
all_member x [] m h = absurd (Memᴰ.not-nil m)
all_member x (y ∷ ys) m h = go (Memᴰ.cases_cons m) (λ k e. all_member x ys k e)
  where
    both : (a b : Bool) → (a && b) ≡ true → (a ≡ true) × (b ≡ true)
    both true b e = (refl, e)
    both false b e = absurd (false≢true e)

    go : (x ≡ y) ⊎ Memᴰ x ys → (Memᴰ x ys → all_faults ys ≡ true → is_fault x ≡ true) → is_fault x ≡ true
    go (inl e) ih = rw e (both (is_fault y) (all_faults ys) h).0
    go (inr k) ih = ih k (both (is_fault y) (all_faults ys) h).1
