-- `path::back` meets its contract. The invariant: the parts passed leave the parts before them as many to drop as are counted. Assumes nothing.
use Prim.Native.Nat.{ℕ, ◌+◌, ◌≤◌}
use mathlib.Core.Path.{◌≡◌}
use mathlib.Core.List.{List}
use Rattle.path.specs.Backward.{tail, tail_of, parts_left}
use Rattle.path.proofs.back.Given as goal

abbrev pub invariant-loop-end : goal.invariant-loop-end
invariant-loop-end l =
    (l.left ≤ l.left-2) × ((l.up + l.left ≤ l.up-2 + l.left-2) × ((t : List ℕ) → tail_of (parts_left l.left-2 l.s) (tail l.up-2 t) ≡ tail_of (parts_left l.left l.s) (tail l.up t)))

abbrev pub decreases-loop-end : goal.decreases-loop-end
decreases-loop-end l = l.left
