-- `shift::level::levels_of` meets its contract: each line in turn. Assumes nothing.
use Rattle.shift.proofs.LevelsLaws.{found_turn, found_all}
use Rattle.shift.proofs.level.levels_of.Goals as goal

pub loop-kind-preserved : goal.loop-kind-preserved
loop-kind-preserved c = let v = c.with_line-found.ensures in found_turn c.loop-kind.invariant c.in-Some.ensures.steps v.0 v.1

pub returns : goal.returns
returns c = found_all c.args.s.now c.loop-kind.invariant c.in-None.ensures.steps.0
