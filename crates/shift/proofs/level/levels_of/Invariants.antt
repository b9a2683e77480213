-- `shift::level::levels_of` meets its contract. The invariant: the levels found, with those of the lines that are left, are the levels of all.
-- Assumes nothing.
use Rattle.shift.specs.Levels.{kinds_in, top_in, deepest_in}
use Rattle.shift.proofs.LevelsLaws.{Found}
use Rattle.shift.proofs.level.levels_of.Given as goal

abbrev pub invariant-loop-kind : goal.invariant-loop-kind
invariant-loop-kind l = Found (kinds_in l.s) l.kind-iterator (top_in l.found) (deepest_in l.found)
