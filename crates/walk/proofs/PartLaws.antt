-- Laws of `specs/Parts.antt`: what is made has its parts made, and a thing is made just where it has no fault. Assumes nothing.
use Rattle.std.specs.Prelude.{Option, Some, None}
use Prim.Native.Nat.{ℕ, ◌+◌, ◌<◌}
use mathlib.Core.Path.{◌≡◌, refl}
use mathlib.Core.List.{List, [], ◌∷◌}
use native.Mathlib.Omega.{arith}
use lib.ListN.{length}
use Rattle.walk.specs.Parts.{Part, good, flawed, part_made, part_faults, unless, and_then, if_made}
use Rattle.answer.specs.declared.Refusal.{Refusal}

pub and_then_assoc : {A B C : Type 0} (o : Option A) (f : A → Option B) (g : B → Option C) → and_then (and_then o f) g ≡ and_then o (λ a. and_then (f a) g)
and_then_assoc None f g = refl
and_then_assoc (Some a) f g = refl

pub made_by : {A B P : Type 0} (o : Option A) (g : A → Option B) (b : B) → and_then o g ≡ Some b → ((a : A) → o ≡ Some a → g a ≡ Some b → P) → P
made_by None g b e more = let z : ◌≡◌ {A = ℕ} 0 1 = cc in absurd (omega arith)
made_by (Some a) g b e more = more a refl e

-- made with no fault, or not made with one or more
abbrev pub Agrees : {A : Type 0} → Option A → ℕ → Type 0
Agrees (Some a) n = n ≡ 0
Agrees None n = 0 < n

pub agrees_then : {A B : Type 0} (o : Option A) (g : A → Option B) (j k : ℕ) → Agrees o k → ((a : A) → Agrees (g a) j) → Agrees (and_then o g) (k + j)
agrees_then None g j k h l = omega arith
agrees_then (Some a) g j k h l = let e : k + j ≡ j = omega arith in rw e (l a)

pub agrees_part : {A : Type 0} (y : Part A) → Agrees (part_made y) (length (part_faults y))
agrees_part (good a) = refl
agrees_part (flawed x xs) = omega arith

pub agrees_made : {A B : Type 0} (o : Option A) (f : A → Part B) (k : ℕ) → Agrees o k
    → Agrees (and_then o (λ a. part_made (f a))) (k + length (if_made o (λ a. part_faults (f a))))
agrees_made None f k h = omega arith
agrees_made (Some a) f k h = let e : k + length (part_faults (f a)) ≡ length (part_faults (f a)) = omega arith in rw e (agrees_part (f a))

pub agrees_cons : {A : Type 0} (o : Option A) (q : Option (List A)) (k j : ℕ) → Agrees o k → Agrees q j → Agrees (and_then o (λ a. and_then q (λ l. Some (a ∷ l)))) (k + j)
agrees_cons None q k j h i = omega arith
agrees_cons (Some a) None k j h i = omega arith
agrees_cons (Some a) (Some l) k j h i = omega arith

pub unless-faults : {A : Type 0} (xs : List Refusal) (a : A) → part_faults (unless xs a) ≡ xs
unless-faults [] a = refl
unless-faults (x ∷ xs) a = refl
