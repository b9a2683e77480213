-- `put_made` meets its contract: a member that is filled, one with no region, and one that is refused. Assumes nothing.
use native.Mathlib.Omega.{arith}
use mathlib.Core.Path.{refl}
use Rattle.made.proofs.MakingLaws.{can_fill, making_refused, making_kept, making_filled}
use Rattle.made.proofs.put_made.Goals as goal

pub fill_member-requires : goal.fill_member-requires
fill_member-requires c = (can_fill c.loop-i.invariant c.requires (omega arith) _, refl)

pub loop-i-preserved-in-Ok-NoRegion : goal.loop-i-preserved-in-Ok-NoRegion
loop-i-preserved-in-Ok-NoRegion c =
    let f = c.fill_member in
    making_kept c.loop-i.invariant (omega arith) c.requires.stand _ f.new.work f.ensures.filled_within.1 (omega arith)
    (rw c.in-Ok-NoRegion.field-0-is at c.in-Ok-NoRegion.ensures.work_after)

pub loop-i-preserved : goal.loop-i-preserved
loop-i-preserved c =
    let f = c.fill_member in
    let a = c.in-Ok-Accepted in
    rw c.placed.ensures
    (making_filled c.loop-i.invariant (omega arith) c.requires.stand _ f.new.work f.ensures.filled_within.1 (omega arith)
    a.length a.taken (rw a.field-0-is at a.ensures.filled_within.0) (rw a.field-0-is at a.ensures.work_after))

pub returns-in-Err-clause-made_of : goal.returns-in-Err-clause-made_of
returns-in-Err-clause-made_of c = making_refused c.loop-i.invariant (omega arith) c.requires.stand _ c.in-Err.refusal c.in-Err.ensures.work_after
