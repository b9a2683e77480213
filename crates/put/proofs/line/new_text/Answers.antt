-- `put::line::new_text` meets its contract. Assumes nothing.
use Rattle.std.specs.Prelude.{None}
use Prim.Native.Nat.{ℕ}
use mathlib.Core.Path.{◌≡◌, refl, sym, ◌∙◌}
use native.Mathlib.Omega.{arith}
use lib.IntN.{ℤ}
use Rattle.heading.specs.declared.walk.LineKind.{LineKind}
use Rattle.heading.specs.declared.walk.LineKind.TheVariants.{Quoted, Heading, Other}
use mir.Syntax.{w32}
use Rattle.std.proofs.lemmas.Int.{to_z-of_z}
use Rattle.put.specs.NewText.{new_text_of}
use Rattle.put.proofs.line.new_text.Goals as goal

no-heading : (z : ℤ) (a e : ℕ) (k : LineKind) → ((n p q : ℕ) → k ≡ Heading n p q → ⊥) → new_text_of z a e k ≡ record { level = None; start = a; end = e }
no-heading z a e Quoted h = refl
no-heading z a e (Heading n p q) h = absurd (h n p q refl)
no-heading z a e Other h = refl

pub returns-in_default : goal.returns-in_default
returns-in_default c = let s = c.args in c.same_text.ensures ∙ sym (no-heading s.shift s.a s.e s.kind c.in_default.not-Heading)

pub shifted-requires : goal.shifted-requires
shifted-requires c = omega (arith, rw c.in-Heading.is at c.requires)

pub overflow_add-result : goal.overflow_add-result
overflow_add-result c = omega (arith, rw c.in-Heading.is at c.requires)

pub overflow_add-result-in-Some : goal.overflow_add-result-in-Some
overflow_add-result-in-Some c = omega (arith, rw c.in-Heading.is at c.requires)

pub returns-in-Some : goal.returns-in-Some
returns-in-Some c = rw (c.in-Heading.is, ← rw (to_z-of_z w32 c.args.shift c.ranges.shift, c.in-Some.is) at c.shifted.ensures)

pub returns-in-None : goal.returns-in-None
returns-in-None c = rw (c.in-Heading.is, ← rw (to_z-of_z w32 c.args.shift c.ranges.shift, c.in-None.is) at c.shifted.ensures) c.same_text-in-None.ensures
