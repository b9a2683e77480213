-- Laws of what a line becomes: its level and its text, and its links, since a heading's hashes and space start none. Assumes nothing.
use Rattle.std.specs.Prelude.{Option, Some, None}
use Prim.Native.Nat.{ℕ, zero, suc, ◌-◌, ◌≤◌}
use native.Mathlib.Omega.{arith}
use mathlib.Core.Path.{◌≡◌, refl, ap}
use mathlib.Core.Bool.{Bool}
use mathlib.Core.List.{List, [], ◌∷◌, ◌++◌}
use lib.IntN.{ℤ, pos, ◌+ℤ◌}
use lib.ListN.{length}
use Rattle.text.specs.Pattern.{starts_with}
use Rattle.fence.specs.declared.Fence.{Fence}
use Rattle.heading.specs.Level.{moved_to, heading_line}
use Rattle.heading.specs.Walk.{step_kind}
use Rattle.heading.specs.declared.walk.LineKind.{LineKind}
use Rattle.heading.specs.declared.walk.LineKind.TheVariants.{Quoted, Heading, Other}
use Rattle.heading.proofs.WalkLaws.{kind-within}
use Rattle.heading.proofs.LevelLaws.{moved_level}
use Rattle.link.specs.Links.{relink}
use Rattle.put.specs.NewText.{new_text_at, new_text_of, KindIn, LevelIn}
use Rattle.put.specs.declared.line.NewText.{NewText}

pub heading-linked : (f : List ℕ → List ℕ) (n : ℕ) (text : List ℕ) → relink f (heading_line n text) ≡ heading_line n [] ++ relink f text
unfolding relink starts_with
heading-linked f zero text = refl
heading-linked f (suc n) text = ap (λ (x : List ℕ). 0x23 ∷ x) (heading-linked f n text)

pub kind_in : (f : Option Fence) (comment : Bool) (l : List ℕ) (n : ℕ) → length l ≡ n → KindIn n (step_kind f comment l)
kind_in f comment l n y = go (step_kind f comment l) refl
  where
    go : (k : LineKind) → step_kind f comment l ≡ k → KindIn n k
    go Quoted q = tt
    go (Heading m a e) q = let w = kind-within f comment l m a e q in (w.0.1, (w.1.0, omega (arith, w.1.1)))
    go Other q = tt

-- the text of a line stands in the line, and its level is one of a heading
abbrev pub TextIn : ℕ → ℕ → NewText → Type 0
TextIn a e r = LevelIn r.level × ((a ≤ r.start) × ((r.start ≤ r.end) × (r.end ≤ e)))

pub text_in : (z : ℤ) (a e : ℕ) (k : LineKind) → KindIn (e - a) k → a ≤ e → TextIn a e (new_text_of z a e k)
text_in z a e Quoted w h = (tt, (omega arith, (h, omega arith)))
text_in z a e (Heading n p q) w h = go (moved_to (pos n +ℤ z)) refl
  where
    go : (m : Option ℕ) → moved_to (pos n +ℤ z) ≡ m → TextIn a e (new_text_at m a e p q)
    go (Some m) y = ((moved_level (pos n +ℤ z) m y).1, (omega arith, (omega (arith, w), omega (arith, w))))
    go None y = (tt, (omega arith, (h, omega arith)))
text_in z a e Other w h = (tt, (omega arith, (h, omega arith)))
