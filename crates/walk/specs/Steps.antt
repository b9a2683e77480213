-- A walk without its limits: the tests that it makes, in document 01's order, and how it ends. The allowance B and the limit L judge it.
use Rattle.std.specs.Prelude.{ℕ, suc, cond, List, [], ◌∷◌, leb, ltb, length, Option, Some, None}
use Rattle.answer.specs.Answer.{number}
use Rattle.answer.specs.declared.Place.{Place}
use Rattle.answer.specs.declared.Refusal.{Refusal}
use Rattle.answer.specs.declared.Refusal.TheVariants.{Allowance, TextLimit}
use Rattle.walk.specs.Parts.{Part, good, flawed}

-- done: this is made; failed: a fault, and nothing is made; sized: a running text is tested against L, at a place; taken: a file is taken in, at a place
pub data Steps (A : Type 0) : Type 0 where
  done : A → Steps A
  failed : Refusal → Steps A
  sized : List ℕ → Place → Steps A → Steps A
  taken : Place → Steps A → Steps A

-- one walk, and then another from what it made
unfoldable pub go : {A B : Type 0} → Steps A → (A → Steps B) → Steps B
go (done a) more = more a
go (failed x) more = failed x
go (sized t p w) more = sized t p (go w more)
go (taken p w) more = taken p (go w more)

abbrev pub part : {A : Type 0} → Part A → Steps A
part (good a) = done a
part (flawed x xs) = failed x

-- what is made, unless there is a fault
unfoldable pub ends : {A : Type 0} → Steps A → Option A
ends (done a) = Some a
ends (failed x) = None
ends (sized t p w) = ends w
ends (taken p w) = ends w

-- the fault that it ends in, if it does
unfoldable pub fails : {A : Type 0} → Steps A → Option Refusal
fails (done a) = None
fails (failed x) = Some x
fails (sized t p w) = fails w
fails (taken p w) = fails w

-- how many files it takes in
unfoldable pub takes : {A : Type 0} → Steps A → ℕ
takes (done a) = 0
takes (failed x) = 0
takes (sized t p w) = takes w
takes (taken p w) = suc (takes w)

-- the running texts that it tests
unfoldable pub sizes : {A : Type 0} → Steps A → List (List ℕ)
sizes (done a) = []
sizes (failed x) = []
sizes (sized t p w) = t ∷ sizes w
sizes (taken p w) = sizes w

-- what is made with the number of files taken in, or a refusal
pub data Judged (A : Type 0) : Type 0 where
  given : A → ℕ → Judged A
  refused : Refusal → Judged A

-- the first test that refuses: 15 "B already used up", where n files are taken in before; 17 "running text over L bytes"; or the fault
unfoldable pub judge : {A : Type 0} → ℕ → ℕ → ℕ → Steps A → Judged A
judge B L n (done a) = given a n
judge B L n (failed x) = refused x
judge B L n (sized t p w) = cond (leb (length t) L) (judge B L n w) (refused (TextLimit p))
judge B L n (taken p w) = cond (ltb n B) (judge B L (suc n) w) (refused (Allowance p))

-- its number, 0 where it is given
abbrev pub judged_number : {A : Type 0} → Judged A → ℕ
judged_number (given a n) = 0
judged_number (refused x) = number x
