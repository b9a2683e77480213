-- What holds of every refusal that a walk may come to, and of what it makes. Assumes nothing.
use Prim.Native.Nat.{ℕ, suc, ◌≤◌, ◌<◌}
use native.Mathlib.Omega.{arith}
use mathlib.Core.Path.{◌≡◌, refl}
use mathlib.Core.Bool.{Bool, true, false, cond}
use mathlib.Core.List.{List, [], ◌∷◌, ◌++◌}
use borrow.Author.Tests.{leb-false}
use lib.Dec.{leb, ltb}
use lib.ListN.{length}
use Rattle.answer.specs.declared.Refusal.{Refusal}
use Rattle.answer.specs.declared.Refusal.TheVariants.{Allowance, TextLimit}
use Rattle.walk.specs.Parts.{unless}
use Rattle.walk.specs.Steps.{Steps, done, failed, sized, taken, go, part, refused, judge}

-- of each of a list
unfoldable pub Each : {A : Type 0} → (A → Type 0) → List A → Type 0
Each P [] = Unit {0}
Each P (a ∷ l) = P a × Each P l

pub each_append : {A : Type 0} (P : A → Type 0) (k l : List A) → Each P k → Each P l → Each P (k ++ l)
unfolding Each
each_append P [] l p q = q
each_append P (a ∷ k) l p q = (p.0, each_append P k l p.1 q)

-- P of each refusal that a walk may come to, and Q of what it makes; no limit is 0, so a text of one byte is never over it
unfoldable pub Holds : {A : Type 0} → (Refusal → Type 0) → (A → Type 0) → Steps A → Type 0
Holds P Q (done a) = Q a
Holds P Q (failed x) = P x
Holds P Q (sized t p w) = (1 < length t → P (TextLimit p)) × Holds P Q w
Holds P Q (taken p w) = P (Allowance p) × Holds P Q w

module _ {A : Type 0} (P : Refusal → Type 0) (Q : A → Type 0) where
  pub holds_go : {B : Type 0} (R : B → Type 0) (w : Steps A) (more : A → Steps B) → Holds P Q w → ((a : A) → Q a → Holds P R (more a)) → Holds P R (go w more)
  unfolding Holds go
  holds_go R (done a) more h k = k a h
  holds_go R (failed x) more h k = h
  holds_go R (sized t p w) more h k = (h.0, holds_go R w more h.1 k)
  holds_go R (taken p w) more h k = (h.0, holds_go R w more h.1 k)

  pub holds_unless : (xs : List Refusal) (a : A) → Each P xs → Q a → Holds P Q (part (unless xs a))
  unfolding Holds Each
  holds_unless [] a h q = q
  holds_unless (x ∷ xs) a h q = h.0

  pub holds_refused : (B L n : ℕ) (w : Steps A) (x : Refusal) → 1 ≤ L → Holds P Q w → judge B L n w ≡ refused x → P x
  unfolding Holds judge
  holds_refused B L n (done a) x o h e = let z : ◌≡◌ {A = ℕ} 0 1 = cc in absurd (omega arith)
  holds_refused B L n (failed y) x o h e = let q : y ≡ x = cc in rw (← q) h
  holds_refused B L n (sized t p w) x o h e = at_test (leb (length t) L) refl e (holds_refused B L n w x o h.1)
    where
      at_test : (b : Bool) → leb (length t) L ≡ b → cond b (judge B L n w) (refused (TextLimit p)) ≡ refused x → (judge B L n w ≡ refused x → P x) → P x
      at_test true l q ih = ih q
      at_test false l q ih = let z : TextLimit p ≡ x = cc in rw (← z) (h.0 (omega (arith, o, leb-false (length t) L l)))
  holds_refused B L n (taken p w) x o h e = at_test (ltb n B) e (holds_refused B L (suc n) w x o h.1)
    where
      at_test : (b : Bool) → cond b (judge B L (suc n) w) (refused (Allowance p)) ≡ refused x → (judge B L (suc n) w ≡ refused x → P x) → P x
      at_test true q ih = ih q
      at_test false q ih = let z : Allowance p ≡ x = cc in rw (← z) h.0
