-- `rows::format` meets its contract. The invariant: from a place on stand the fields that were passed and LF, and a field takes at most 21 bytes. Assumes nothing.
use Prim.Native.Nat.{◌+◌, ◌*◌, ◌-◌, ◌≤◌, ◌<◌}
use mathlib.Core.Path.{◌≡◌}
use mathlib.Core.List.{[], ◌∷◌, ◌++◌}
use lib.ListN.{length, drop}
use Rattle.text.specs.Lines.{LF}
use Rattle.rows.specs.Row.{cells}
use Rattle.rows.proofs.format.Given as goal

abbrev pub invariant-loop-field : goal.invariant-loop-field
invariant-loop-field l =
    (length l.yielded ≤ length l.fields) × ((l.at < length l.row) × ((length l.row ≤ l.at + 1 + 21 * length l.yielded)
    × (drop l.at l.row ≡ cells (drop (length l.fields - length l.yielded) l.fields) ++ (LF ∷ []))))
