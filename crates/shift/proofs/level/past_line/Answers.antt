-- `shift::level::past_line` meets its contract: each line in turn. Assumes nothing.
use mathlib.Core.Path.{refl, sym, ap, ◌∙◌}
use native.Mathlib.Omega.{arith}
use lib.ListN.{length}
use mir.Syntax.{w32}
use Rattle.std.proofs.lemmas.List.Elements.{All-rest}
use Rattle.text.specs.Lines.{pieces}
use Rattle.heading.specs.Walk.{walk_begin}
use Rattle.std.proofs.lemmas.Int.{to_z-of_z}
use Rattle.shift.specs.Levels.{HasLevel}
use Rattle.shift.proofs.LevelsLaws.{kinds-level, ahead_here, ahead_turn, ahead_end}
use Rattle.shift.proofs.level.past_line.Goals as goal

pub loop-kind-init : goal.loop-kind-init
loop-kind-init c =
    let s = c.args.s.now in
    let k = to_z-of_z w32 c.args.shift c.ranges.shift in
    let kinds = c.kinds-kind-items.ensures in
    let e = c.into_iter-kind-iterator.ensures.into_iter_gives ∙ kinds.value in
    rw (k, e) (record { ahead = record { some = c.requires; count = refl }; levels = kinds-level walk_begin (pieces s); few = omega (arith, rw kinds.value at kinds.few) })

pub returns-then-goes_past : goal.returns-then-goes_past
returns-then-goes_past c =
    let k = to_z-of_z w32 c.args.shift c.ranges.shift in
    ahead_here (rw k at c.loop-kind.invariant.ahead) c.in-Some.ensures.steps (sym c.if-goes_past.true ∙ (rw k at c.goes_past.ensures))

pub loop-kind-preserved : goal.loop-kind-preserved
loop-kind-preserved c =
    let l = c.loop-kind.invariant in
    let e = c.in-Some.ensures.steps in
    let k = to_z-of_z w32 c.args.shift c.ranges.shift in record {
      ahead = rw k (ahead_turn (rw k at l.ahead) e (sym c.if-goes_past.false ∙ (rw k at c.goes_past.ensures)));
      levels = All-rest HasLevel _ _ _ e l.levels;
      few = omega (arith, ap length e);
    }

pub returns : goal.returns
returns c = ahead_end c.loop-kind.invariant.ahead c.in-None.ensures.steps.0
