-- A stored case of a call with a walk: what its numbers keep to.
use Rattle.std.specs.Prelude.{◌+◌, ◌≤◌}
use Rattle.stored.specs.declared.case.Sizes.{Sizes}

-- there is memory for a case
pub record Small (sizes : Sizes) : Type 0 where
  pub given : sizes.index + sizes.contents + sizes.third + sizes.fourth ≤ 16384
  pub out : sizes.out ≤ 65536
  pub work : sizes.work ≤ 65536
  pub allowance : sizes.allowance ≤ 999999
