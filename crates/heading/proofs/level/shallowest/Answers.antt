-- `heading::level::shallowest` meets its contract: what lines leave is a level. Assumes nothing.
use Rattle.std.specs.Prelude.{None}
use mathlib.Core.Path.{◌≡◌, sym, subst}
use native.Mathlib.Omega.{arith}
use Rattle.text.specs.Lines.{pieces}
use Rattle.heading.specs.Walk.{walk_begin, kinds_from}
use Rattle.heading.specs.Level.{shallowest_of, IsLevel}
use Rattle.heading.proofs.LevelLaws.{level-lines}
use Rattle.heading.proofs.level.shallowest.Goals as goal

pub returns-clause-level : goal.returns-clause-level
unfolding shallowest_of
returns-clause-level c =
    let e : c.loop-kind.found ≡ shallowest_of None (kinds_from walk_begin (pieces c.args.s.now)) = grind arith in
    subst IsLevel (sym e) (level-lines None walk_begin (pieces c.args.s.now) tt)
