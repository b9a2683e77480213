-- Laws of `specs/Fences.antt`: a line toggles the scan's fence just where it opens one, and its opener is told by the three bytes of its trimmed start.
-- Assumes nothing.
use Rattle.std.specs.Prelude.{Option, Some, None, is_some}
use Prim.Native.Nat.{ℕ}
use mathlib.Core.Path.{◌≡◌, refl}
use mathlib.Core.Bool.{Bool, true, false, cond, ◌||◌}
use mathlib.Core.List.{List, [], ◌∷◌}
use lib.Dec.{eqb}
use borrow.Author.Tests.{eqb-true}
use Rattle.text.specs.Pattern.{bytes, starts_with}
use Rattle.text.specs.Space.{trim_start}
use Rattle.text.proofs.PatternLaws.{and_left}
use Rattle.fence.specs.Fences.{opener, is_fence}
use Rattle.fence.specs.declared.Fence.{Fence}
use Rattle.fence.specs.declared.Fence.TheVariants.{Ticks, Tildes}

pub fence_opener : (l : List ℕ) → is_some (opener l) ≡ is_fence l
unfolding opener is_fence
fence_opener l = go (starts_with (bytes "```") (trim_start l)) (starts_with (bytes "~~~") (trim_start l))
  where
    go : (a b : Bool) → is_some (cond a (Some Ticks) (cond b (Some Tildes) None)) ≡ (a || b)
    go true b = refl
    go false true = refl
    go false false = refl

-- no text starts with both
not_both : (s : List ℕ) → starts_with (bytes "```") s ≡ true → starts_with (bytes "~~~") s ≡ false
unfolding starts_with
not_both [] e = refl
not_both (x ∷ s) e =
    let h : x ≡ 0x60 = eqb-true x 0x60 (and_left (eqb x 0x60) (starts_with (0x60 ∷ 0x60 ∷ []) s) e) in
    rw h

-- a function of fences that is true of one kind only says of an opener what its three bytes say
module _ (f : Option Fence → Bool) (l : List ℕ) (o : f None ≡ false) where
  pub ticks-start : f (Some Ticks) ≡ true → f (Some Tildes) ≡ false → f (opener l) ≡ starts_with (bytes "```") (trim_start l)
  unfolding opener
  ticks-start p q = go (starts_with (bytes "```") (trim_start l)) (starts_with (bytes "~~~") (trim_start l))
    where
      go : (a b : Bool) → f (cond a (Some Ticks) (cond b (Some Tildes) None)) ≡ a
      go true b = p
      go false true = q
      go false false = o

  pub tildes_start : f (Some Ticks) ≡ false → f (Some Tildes) ≡ true → f (opener l) ≡ starts_with (bytes "~~~") (trim_start l)
  unfolding opener
  tildes_start p q = go (starts_with (bytes "```") (trim_start l)) (starts_with (bytes "~~~") (trim_start l)) (not_both (trim_start l))
    where
      go : (a b : Bool) → (a ≡ true → b ≡ false) → f (cond a (Some Ticks) (cond b (Some Tildes) None)) ≡ b
      go true b h = rw (h refl) p
      go false true h = q
      go false false h = o
