-- An accepted listing lies within its buffer.
use Rattle.std.proofs.Common.{arith, sym}
use Rattle.std.proofs.lemmas.List.{length-take-le}
use Rattle.listing.proofs.CallLaws.{accepted_within}
use Rattle.marklist.proofs.main.Goals as goal

pub slice_bounds-out-end : goal.slice_bounds-out-end
slice_bounds-out-end c =
    let a = c.in-Ok-Accepted in
    omega (arith, accepted_within _ _ _ _ (sym (rw a.field-0-is at a.ensures.value)))

pub slice_bounds-write_all-end : goal.slice_bounds-write_all-end
slice_bounds-write_all-end c =
    let a = c.in-Ok-Accepted in
    sym (length-take-le _ _ (omega (arith, accepted_within _ _ _ _ (sym (rw a.field-0-is at a.ensures.value)))))
