-- Laws of tests. Assumes nothing.
use mathlib.Core.Path.{◌≡◌, refl, sym, ◌∙◌}
use mathlib.Core.Bool.{Bool, true, false, ◌&&◌, ◌||◌, false≢true}
use Rattle.text.proofs.BytesLaws.{or_left, or_right}

-- for `search`: of a list of tests none of which holds, one does not hold
pub ruleset of-list = (or_left, or_right)

-- the second of two tests that do not both hold
pub second : (a b : Bool) → a ≡ true → (a && b) ≡ false → b ≡ false
second true b e h = h
second false b e h = absurd (false≢true e)

pub and_false : (a b : Bool) → (a && (false && b)) ≡ false
and_false true b = refl
and_false false b = refl

pub and_last : (a b : Bool) → (a && (b && false)) ≡ false
and_last true true = refl
and_last true false = refl
and_last false b = refl

pub and_true : (a : Bool) → (a && true) ≡ false → a ≡ false
and_true true h = h
and_true false h = refl

pub or_first : (a b : Bool) → b ≡ false → (a || b) ≡ true → a ≡ true
or_first true b e h = refl
or_first false b e h = absurd (false≢true (sym e ∙ h))

-- what holds where one of a list of tests does, a law for each test
infixl 30 ◌or◌
pub ◌or◌ : {a b : Bool} {C : Type 0} → (a ≡ true → C) → (b ≡ true → C) → (a || b) ≡ true → C
◌or◌ {a = true} p q h = p refl
◌or◌ {a = false} p q h = q h
