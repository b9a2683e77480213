-- `station::line::line_at` meets its contract. The invariant: the lines passed are taken off the number. Assumes nothing.
use Prim.Native.Nat.{◌+◌, ◌-◌, ◌≤◌}
use mathlib.Core.Path.{◌≡◌}
use lib.ListN.{length, drop}
use Rattle.text.specs.Lines.{pieces}
use Rattle.station.specs.Station.{nth_line}
use Rattle.station.proofs.line.line_at.Given as goal

abbrev pub invariant-loop-passed : goal.invariant-loop-passed
invariant-loop-passed l = (l.start ≤ length l.s) × (nth_line (l.n + 1 - l._passed) (pieces (drop l.start l.s)) ≡ nth_line l.n (pieces l.s))
