-- `shift::level::past_line` meets its contract. The invariant: a heading of the lines that are left goes past, and the first of these has the number.
-- Assumes nothing.
use Prim.Native.Nat.{◌+◌, ◌≤◌}
use lib.ListN.{length}
use Rattle.std.specs.List.{All}
use Rattle.shift.specs.Levels.{HasLevel, kinds_in}
use Rattle.shift.proofs.LevelsLaws.{Ahead}
use Rattle.shift.proofs.level.past_line.Given as goal

abbrev pub invariant-loop-kind : goal.invariant-loop-kind
invariant-loop-kind l = record {
  ahead : Ahead l.shift (kinds_in l.s) l.kind-iterator l.number;
  levels : All HasLevel l.kind-iterator;
  few : l.number + length l.kind-iterator ≤ length l.s + 2;
}
