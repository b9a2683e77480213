-- `buffer::copy_down` meets its contract. The invariant: the first j bytes of the part are written. Assumes nothing.
use native.Mathlib.Omega.{arith}
use Rattle.buffer.proofs.BufferLaws.{down_more}
use Rattle.buffer.proofs.copy_down.Goals as goal

pub loop-j-preserved : goal.loop-j-preserved
loop-j-preserved c = let a = c.args in let l = c.loop-j in
    down_more a.out.now l.out a.from a.to a.at l.j (omega arith) (omega arith) (omega arith) l.invariant
