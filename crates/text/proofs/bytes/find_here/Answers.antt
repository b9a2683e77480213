-- `bytes::find_here` meets its contract. The invariant: b stands at no place passed. Assumes nothing.
use mathlib.Core.Path.{◌∙◌}
use native.Mathlib.Omega.{arith}
use borrow.Author.Tests.{eq-eqb, ne_eqb}
use Rattle.text.specs.Bytes.{is}
use Rattle.text.proofs.BytesLaws.{first_hit, first_miss}
use Rattle.text.proofs.bytes.find_here.Goals as goal

pub loop-i-preserved : goal.loop-i-preserved
loop-i-preserved c = first_miss (is c.args.b) c.args.s.now c.loop-i.i (omega arith) (ne_eqb _ _ c.loop-i-test.true) ∙ c.loop-i.invariant

pub returns : goal.returns
returns c = omega (arith, first_hit (is c.args.b) c.args.s.now c.loop-i.i (omega arith) (eq-eqb _ _ c.loop-i-test.false))
