-- `put_block` meets its contract. Assumes nothing.
use native.Mathlib.Omega.{arith}
use Rattle.opening.proofs.BlockLaws.{put_done}
use Rattle.opening.proofs.put_block.Goals as goal

pub returns-clause-work_after : goal.returns-clause-work_after
returns-clause-work_after c =
    let a = c.args in
    (put_done a.limit a.at a.work.now a.block.now a.len c.copy.new.out c.copy.result (omega arith) (omega arith) c.copy.ensures.0 c.copy.ensures.1).0
