-- `putting::put_line` meets its contract. Assumes nothing.
use Rattle.put.proofs.RunningLaws.{reads_on, reads_part, part_same, ran_then}
use Rattle.putting.proofs.put_line.Goals as goal

pub put_cuts-requires : goal.put_cuts-requires
put_cuts-requires c =
    let within = c.requires.new_within.1 in
    rw c.part.ensures (reads_part (reads_on c.requires.able c.in_ok-put_start.ensures.ran) _ _ within.0 within.1)

pub returns-clause-ran : goal.returns-clause-ran
returns-clause-ran c =
    let p = c.in_ok-put_start.ensures.ran in
    ran_then _ _ c.put_cuts.result p (rw (c.part.ensures, part_same c.requires.able p _ _ c.requires.new_within.1.1) at c.put_cuts.ensures.ran)
