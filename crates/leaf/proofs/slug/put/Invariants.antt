-- `slug::put` meets its contract. The invariant: what is left of the anchor is still to write. Assumes nothing.
use Prim.Native.Nat.{◌+◌, ◌-◌, ◌≤◌}
use mathlib.Core.Path.{◌≡◌}
use lib.ListN.{length}
use lib.Seq.{sets}
use Rattle.anchor.specs.Anchor.{slug, anchor_from, CursorWithin}
use Rattle.leaf.proofs.slug.put.Given as goal

abbrev pub invariant-loop-byte : goal.invariant-loop-byte
invariant-loop-byte l =
    CursorWithin l.cursor l.text
    × ((l.n ≤ l.cursor.at)
    × ((length l.out ≡ length l.initial.out)
    × ((l.n + length (anchor_from l.cursor l.text) ≡ length (slug l.text))
    × (sets l.out l.n (anchor_from l.cursor l.text) ≡ sets l.initial.out 0 (slug l.text)))))

abbrev pub decreases-loop-byte : goal.decreases-loop-byte
decreases-loop-byte l = length l.text - l.cursor.at
