-- Laws of `specs/Shift.antt`: told lines, blank lines at the ends, and 16. Assumes nothing.
use Rattle.std.specs.Prelude.{Option, Some, None}
use Prim.Native.Nat.{ℕ, zero, suc, ◌+◌}
use native.Mathlib.Omega.{arith}
use mathlib.Core.Path.{◌≡◌, refl, sym, ap, ◌∙◌}
use mathlib.Core.Bool.{Bool, true, false, cond, ◌||◌, false≢true}
use mathlib.Core.Logic.{◌↔◌}
use mathlib.Core.List.{List, [], ◌∷◌, ◌++◌}
use lib.ListN.{take, drop}
use lib.IntN.{ℤ, pos, ◌+ℤ◌}
use Rattle.answer.specs.declared.Refusal.{Refusal}
use Rattle.text.specs.Space.{is_blank}
use Rattle.heading.specs.Walk.{step_kind, step_after, kinds_from, still_kind}
use Rattle.heading.specs.Level.{shallower, shallowest_of, moved_to, deeper, deepest_of, is_past, goes_past, any_past, first_past}
use Rattle.fence.specs.declared.Fence.{Fence}
use Rattle.heading.specs.declared.walk.LineKind.{LineKind}
use Rattle.heading.specs.declared.walk.LineKind.TheVariants.{Quoted, Heading, Other}
use Rattle.heading.specs.declared.walk.WalkState.{WalkState}
use Rattle.heading.proofs.StillLaws.{still-shallower, still-deeper, gather_blank}
use Rattle.heading.proofs.PastLaws.{deepest-past}
use Rattle.shift.specs.Shift.{Told, told_from, kinds_of, past, past_line, past_from, up_to, blanks, drop_end, drop_start}

-- the kinds of told lines are the lines' kinds
pub kinds_told : (st : WalkState) (ls : List (List ℕ)) → kinds_of (told_from st ls) ≡ kinds_from st ls
unfolding told_from kinds_from
kinds_told st [] = refl
kinds_told st (l ∷ ls) = ap (λ (ks : List LineKind). step_kind st.fence st.comment l ∷ ks) (kinds_told (step_after st.fence st.comment l) ls)

-- the first lines, told
pub told-take : (n : ℕ) (st : WalkState) (ls : List (List ℕ)) → told_from st (take n ls) ≡ take n (told_from st ls)
unfolding told_from
told-take zero st ls = refl
told-take (suc n) st [] = refl
told-take (suc n) st (l ∷ ls) = ap (λ (k : List Told). record { kind = step_kind st.fence st.comment l; bytes = l } ∷ k) (told-take n (step_after st.fence st.comment l) ls)

-- what is gathered from kinds line by line, where a line that is no heading changes nothing: blank lines at the ends do not change it
module _ {C : Type 0} (step : C → LineKind → C) (F : C → List LineKind → C) (on : (b : C) (k : LineKind) (ks : List LineKind) → F b (k ∷ ks) ≡ F (step b k) ks)
    (stay : (f : Option Fence) (b : C) → step b (still_kind f) ≡ b) where
  -- blank lines at the start
  pub gather_start : (b : C) (st : WalkState) (ls : List (List ℕ)) → F b (kinds_from st (drop_start ls)) ≡ F b (kinds_from st ls)
  unfolding blanks
  gather_start b st [] = refl
  gather_start b st (l ∷ ls) = go (is_blank l) refl (gather_start b st ls)
    where
      go : (x : Bool) → is_blank l ≡ x → F b (kinds_from st (drop_start ls)) ≡ F b (kinds_from st ls)
          → F b (kinds_from st (drop (cond x (suc (blanks ls)) 0) (l ∷ ls))) ≡ F b (kinds_from st (l ∷ ls))
      go true e ih = ih ∙ sym (gather_blank step F on stay b st l ls e)
      go false e ih = refl

  -- blank lines at the end
  pub gather_end : (b : C) (st : WalkState) (ls : List (List ℕ)) → F b (kinds_from st (drop_end ls)) ≡ F b (kinds_from st ls)
  unfolding up_to kinds_from
  gather_end b st [] = refl
  gather_end b st (l ∷ ls) = go (is_blank l) (up_to ls) refl (λ c s. gather_end c s ls)
    where
      first : (n : ℕ) → ((c : C) (s : WalkState) → F c (kinds_from s (take n ls)) ≡ F c (kinds_from s ls)) → F b (kinds_from st (l ∷ take n ls)) ≡ F b (kinds_from st (l ∷ ls))
      first n ih =
          let k : LineKind = step_kind st.fence st.comment l in
          let s : WalkState = step_after st.fence st.comment l in
          on b k (kinds_from s (take n ls)) ∙ ih (step b k) s ∙ sym (on b k (kinds_from s ls))

      go : (x : Bool) (n : ℕ) → is_blank l ≡ x → ((c : C) (s : WalkState) → F c (kinds_from s (take n ls)) ≡ F c (kinds_from s ls))
          → F b (kinds_from st (take (elim n [ zero ↦ cond x 0 1 | suc m ↦ suc (suc m) ]) (l ∷ ls))) ≡ F b (kinds_from st (l ∷ ls))
      go true zero e ih = ih b st ∙ sym (gather_blank step F on stay b st l ls e)
      go false zero e ih = first 0 ih
      go x (suc n) e ih = first (suc n) ih

  -- at both ends, as an embedded file is told
  pub gather_ends : (b : C) (st : WalkState) (ls : List (List ℕ)) → F b (kinds_of (told_from st (drop_end (drop_start ls)))) ≡ F b (kinds_from st ls)
  gather_ends b st ls = rw (kinds_told st (drop_end (drop_start ls))) (gather_end b st (drop_start ls) ∙ gather_start b st ls)

module _ (st : WalkState) (ls : List (List ℕ)) where
  -- the shallowest level without blank ends
  pub shallowest_ends : (b : Option ℕ) → shallowest_of b (kinds_of (told_from st (drop_end (drop_start ls)))) ≡ shallowest_of b (kinds_from st ls)
  unfolding shallowest_of
  shallowest_ends b = gather_ends shallower shallowest_of (λ c k ks. refl) still-shallower b st ls

  -- the deepest level without blank ends
  pub deepest-ends : (b : ℕ) → deepest_of b (kinds_of (told_from st (drop_end (drop_start ls)))) ≡ deepest_of b (kinds_from st ls)
  unfolding deepest_of
  deepest-ends b = gather_ends deeper deepest_of (λ c k ks. refl) still-deeper b st ls

-- 16 by the test of a line: no refusal, or the first one at the first such line
line-past : (z : ℤ) (k : LineKind) (x : Refusal) → past_line z k x ≡ cond (goes_past z k) (x ∷ []) []
line-past z Quoted x = refl
line-past z Other x = refl
line-past z (Heading n a e) x = go (moved_to (pos n +ℤ z))
  where
    go : (y : Option ℕ) → past y x ≡ cond (is_past y) (x ∷ []) []
    go (Some m) = refl
    go None = refl

module _ (f : ℕ → Refusal) (z : ℤ) where
  -- no line goes past: no refusal
  pub past-none : (n : ℕ) (ks : List LineKind) → any_past z ks ≡ false → past_from f n z ks ≡ []
  unfolding past_from any_past
  past-none n [] e = refl
  past-none n (k ∷ ks) e = rw (line-past z k (f n)) (go (goes_past z k) e (past-none (n + 1) ks))
    where
      go : (b : Bool) → (b || any_past z ks) ≡ false → (any_past z ks ≡ false → past_from f (n + 1) z ks ≡ []) → cond b (f n ∷ []) [] ++ past_from f (n + 1) z ks ≡ []
      go true q ih = absurd (false≢true (sym q))
      go false q ih = ih q

  -- a line goes past: the first refusal is at the first such line
  pub past-some : (n : ℕ) (ks : List LineKind) → any_past z ks ≡ true → (xs : List Refusal) × (past_from f n z ks ≡ f (n + first_past z ks) ∷ xs)
  unfolding past_from any_past first_past
  past-some n [] e = absurd (false≢true e)
  past-some n (k ∷ ks) e = rw (line-past z k (f n)) (go (goes_past z k) e (past-some (n + 1) ks))
    where
      go : (b : Bool) → (b || any_past z ks) ≡ true → (any_past z ks ≡ true → (xs : List Refusal) × (past_from f (n + 1) z ks ≡ f (n + 1 + first_past z ks) ∷ xs))
          → (xs : List Refusal) × (cond b (f n ∷ []) [] ++ past_from f (n + 1) z ks ≡ f (n + cond b 0 (suc (first_past z ks))) ∷ xs)
      go true q ih = let y : n + 0 ≡ n = omega arith in (past_from f (n + 1) z ks, rw y)
      go false q ih =
          let y : n + 1 + first_past z ks ≡ n + suc (first_past z ks) = omega arith in
          let h = ih q in
          (h.0, rw (← y) h.1)

  -- where the shallowest goes to level 1 or more: no refusal exactly when the deepest stays
  pub past-deepest : (n : ℕ) (ks : List LineKind) (t m : ℕ) → shallowest_of None ks ≡ Some t → pos t +ℤ z ≡ pos (suc m)
      → (past_from f n z ks ≡ []) ↔ (is_past (moved_to (pos (deepest_of 0 ks) +ℤ z)) ≡ false)
  past-deepest n ks t m h e = rw (← deepest-past t m z e ks h) (go (any_past z ks) refl, past-none n ks)
    where
      go : (b : Bool) → any_past z ks ≡ b → past_from f n z ks ≡ [] → any_past z ks ≡ false
      go true q p = let r = past-some n ks q in let y : ◌≡◌ {A = ℕ} 0 1 = cc in absurd (omega arith)
      go false q p = q

  -- else the first is at the first line that goes past
  pub past_first : (n : ℕ) (ks : List LineKind) (t m : ℕ) → shallowest_of None ks ≡ Some t → pos t +ℤ z ≡ pos (suc m)
      → is_past (moved_to (pos (deepest_of 0 ks) +ℤ z)) ≡ true → (xs : List Refusal) × (past_from f n z ks ≡ f (n + first_past z ks) ∷ xs)
  past_first n ks t m h e q = past-some n ks (deepest-past t m z e ks h ∙ q)
