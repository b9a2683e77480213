-- A law of the leaf calls: the room for a heading line. Assumes nothing.
use Prim.Native.Nat.{ℕ, ◌+◌, ◌≤◌}
use mathlib.Core.Path.{◌≡◌, refl}
use mathlib.Core.Bool.{Bool, true, false, ◌&&◌, false≢true}
use borrow.Author.Tests.{leb-true}
use lib.Dec.{leb}
use Rattle.leaf.specs.Leaf.{has_room}

-- a heading line that has room at a place of an output
module _ (at level text out : ℕ) where
  pub room_fits : has_room at level text out ≡ true → at + (level + 1 + text) ≤ out
  room_fits e = go (leb level 6) (leb (at + (level + 1 + text)) out) refl e
    where
      go : (a b : Bool) → leb (at + (level + 1 + text)) out ≡ b → (a && b) ≡ true → at + (level + 1 + text) ≤ out
      go true true p q = leb-true _ _ p
      go true false p q = absurd (false≢true q)
      go false b p q = absurd (false≢true q)
