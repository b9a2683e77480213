-- `putting::put_start` meets its contract. Assumes nothing.
use Rattle.put.proofs.RunningLaws.{ran_then}
use Rattle.putting.proofs.put_start.Goals as goal

pub returns-clause-ran : goal.returns-clause-ran
returns-clause-ran c = ran_then _ _ c.put_level.result c.in_ok-put_bytes.ensures.ran c.put_level.ensures.ran
