-- `anchor::next` meets its contract. The invariant: the bytes passed gave the anchor nothing. Assumes nothing.
use Prim.Native.Nat.{◌-◌, ◌≤◌}
use mathlib.Core.Path.{◌≡◌}
use Rattle.anchor.specs.Anchor.{anchor_from, CursorWithin}
use Rattle.anchor.proofs.next.Given as goal

abbrev pub invariant-loop-read : goal.invariant-loop-read
invariant-loop-read l = CursorWithin l.c l.text × ((l.initial.c.at ≤ l.c.at) × (anchor_from l.initial.c l.text ≡ anchor_from l.c l.text))

abbrev pub decreases-loop-read : goal.decreases-loop-read
decreases-loop-read l = l.c.end - l.c.at
