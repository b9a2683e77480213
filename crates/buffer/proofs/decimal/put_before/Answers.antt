-- `buffer::decimal::put_before` meets its contract. The invariant: with m in front of place i, n would stand in front of place e. Assumes nothing.
use mathlib.Core.Path.{◌∙◌}
use native.Mathlib.Omega.{arith}
use Rattle.buffer.proofs.DecimalLaws.{decimal-one, decimal-suc, before_large, before_small}
use Rattle.buffer.proofs.decimal.put_before.Goals as goal

pub loop-m-preserved : goal.loop-m-preserved
loop-m-preserved c = let l = c.loop-m in
    let d = decimal-suc l.m (omega arith) (omega arith) in record {
      place = omega arith;
      digits = omega arith;
      bytes = rw c.digit.ensures (before_large l.out l.i l.m (omega arith) (omega arith) (omega arith) (omega arith)) ∙ l.invariant.bytes;
    }

pub returns : goal.returns
returns c = let l = c.loop-m in
    let d = decimal-one l.m (omega arith) in
    (rw c.digit-2.ensures (before_small l.out l.i l.m (omega arith) (omega arith) (omega arith)) ∙ l.invariant.bytes, omega arith)
