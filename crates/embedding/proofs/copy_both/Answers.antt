-- `embedding::copy_both` meets its contract: the second part stands behind what the first copy wrote. Assumes nothing.
use native.Mathlib.Omega.{arith}
use Rattle.embedding.proofs.DropLaws.{both_copied}
use Rattle.embedding.proofs.copy_both.Goals as goal

pub returns : goal.returns
returns c =
    let s = c.args in
    record { out_after = both_copied s.out.now s.a.start s.a.end s.b.start s.b.end c.copy_down-e.ensures.0 c.copy_down-e.ensures.1 c.copy_down.ensures.0 (omega arith) (omega arith) (omega arith) (omega arith); value = omega arith }
