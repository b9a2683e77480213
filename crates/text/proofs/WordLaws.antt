-- The words of `specs/Bytes.antt` by those of std, in which the contracts of its methods speak. Assumes nothing.
use Prim.Native.Nat.{ℕ, zero, suc, ◌+◌, ◌-◌}
use native.Mathlib.Numerals.{one-add}
use native.Mathlib.Omega.{arith}
use mathlib.Core.Path.{◌≡◌, refl, sym, ap, ◌∙◌}
use mathlib.Core.Bool.{Bool, true, false, cond, not, ◌||◌, or_assoc, or-false}
use mathlib.Core.List.{List, [], ◌∷◌, ◌++◌, reverse}
use Rattle.std.specs.Prelude.{Some, None}
use Rattle.std.specs.List.{fold, list_any, position, position_or_len, prefix_len, suffix_len, count_by}
use Rattle.std.specs.Option.{unwrap_or}
use Rattle.std.proofs.lemmas.List.{reverse-append, reverse-reverse, length-reverse}
use Rattle.std.proofs.lemmas.List.Recursion.{is_count_by, is_position_or_len}
use lib.ListN.{length}
use lib.Dec.{ltb}
use borrow.Author.Tests.{ltb-false}
use Rattle.text.specs.Bytes.{any, first, count, after_last}
use Rattle.text.proofs.BytesLaws.{first_le}

module _ (f : ℕ → Bool) where
  pub any-list : (s : List ℕ) → any f s ≡ list_any f s
  unfolding any
  any-list [] = refl
  any-list (x ∷ s) = ap (λ b. f x || b) (any-list s)

  fold_any_from : (h : Bool) (s : List ℕ) → fold (λ a x. a || f x) h s ≡ (h || any f s)
  unfolding any
  fold_any_from h [] = sym (or-false h)
  fold_any_from h (x ∷ s) = fold_any_from (h || f x) s ∙ or_assoc h (f x) (any f s)

  pub fold_any : (s : List ℕ) → fold (λ a x. a || f x) false s ≡ any f s
  fold_any s = fold_any_from false s

  pub first-list : (s : List ℕ) → first f s ≡ position_or_len f s
  unfolding first
  first-list = is_position_or_len (first f) f refl (λ x s. simp one-add)

  pub count-list : (s : List ℕ) → count f s ≡ count_by f s
  unfolding count
  count-list = is_count_by (count f) f refl (λ x s. simp one-add)

  pub first-position : (s : List ℕ) → unwrap_or (position f s) (length s) ≡ first f s
  first-position s = go (ltb (position_or_len f s) (length s)) refl
    where
      go : (b : Bool) → ltb (position_or_len f s) (length s) ≡ b → unwrap_or (cond b (Some (position_or_len f s)) None) (length s) ≡ first f s
      go true e = sym (first-list s)
      go false e = omega (arith, ltb-false _ _ e, first-list s, first_le f s)

  after_last-push : (s : List ℕ) (x : ℕ) → after_last f (s ++ x ∷ []) ≡ cond (f x) (suc (length s)) (after_last f s)
  unfolding after_last
  after_last-push [] x = refl
  after_last-push (y ∷ s) x = rw (after_last-push s x) (go (f x))
    where
      go : (b : Bool) → elim (cond b (suc (length s)) (after_last f s)) [ zero ↦ cond (f y) 1 0 | suc k ↦ suc (suc k) ]
          ≡ cond b (suc (suc (length s))) (elim (after_last f s) [ zero ↦ cond (f y) 1 0 | suc k ↦ suc (suc k) ])
      go true = refl
      go false = refl

pub not-not : (b : Bool) → not (not b) ≡ b
not-not true = refl
not-not false = refl

-- by the test that fails where f passes
module _ (f g : ℕ → Bool) (opposite : (x : ℕ) → f x ≡ not (g x)) where
  pub first-prefix : (s : List ℕ) → first f s ≡ prefix_len g s
  unfolding first
  first-prefix [] = refl
  first-prefix (x ∷ s) = rw (opposite x) (go (g x) (first-prefix s))
    where
      go : (b : Bool) → first f s ≡ prefix_len g s → cond (not b) 0 (suc (first f s)) ≡ cond b (1 + prefix_len g s) 0
      go true h = omega arith
      go false h = refl

  after-reverse : (r : List ℕ) → after_last f (reverse r) ≡ length r - prefix_len g r
  unfolding after_last
  after-reverse [] = refl
  after-reverse (x ∷ r) = rw (reverse-append (x ∷ []) r, after_last-push, opposite x) (go (g x) (after-reverse r))
    where
      go : (b : Bool) → after_last f (reverse r) ≡ length r - prefix_len g r
          → cond (not b) (suc (length (reverse r))) (after_last f (reverse r)) ≡ suc (length r) - cond b (1 + prefix_len g r) 0
      go true h = omega arith
      go false h = omega (arith, length-reverse r)

  pub after-suffix : (s : List ℕ) → after_last f s ≡ length s - suffix_len g s
  after-suffix s = rw reverse-reverse at (after-reverse (reverse s)) ∙ rw length-reverse

pub ruleset std_words = (any-list, first-list, count-list)
