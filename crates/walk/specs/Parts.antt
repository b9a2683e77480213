-- What is made, or a fault: work that asks neither for the allowance nor for the limit. A fault is a refusal with its places.
use Rattle.std.specs.Prelude.{List, [], ◌∷◌, Option, Some, None}
use Rattle.answer.specs.declared.Refusal.{Refusal}

-- flawed: the first fault, and those after it
pub data Part (A : Type 0) : Type 0 where
  good : A → Part A
  flawed : Refusal → List Refusal → Part A

-- what it makes, and its faults
abbrev pub part_made : {A : Type 0} → Part A → Option A
part_made (good a) = Some a
part_made (flawed x xs) = None

abbrev pub part_faults : {A : Type 0} → Part A → List Refusal
part_faults (good a) = []
part_faults (flawed x xs) = x ∷ xs

-- made unless there are faults
abbrev pub unless : {A : Type 0} → List Refusal → A → Part A
unless [] a = good a
unless (x ∷ xs) a = flawed x xs

-- where something is made: what is made of it, and what lies in it
abbrev pub and_then : {A B : Type 0} → Option A → (A → Option B) → Option B
and_then None f = None
and_then (Some a) f = f a

abbrev pub if_made : {A B : Type 0} → Option A → (A → List B) → List B
if_made None f = []
if_made (Some a) f = f a
