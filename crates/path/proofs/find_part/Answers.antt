-- `path::find_part` meets its contract. Assumes nothing.
use Prim.Native.Nat.{◌-◌}
use mathlib.Core.Path.{sym}
use lib.Seq.{length-take-le}
use native.Mathlib.Omega.{arith}
use Rattle.path.proofs.PathLaws.{found_none, found_other, found_before}
use Rattle.path.proofs.find_part.Goals as goal

pub returns-then-at-name : goal.returns-then-at-name
returns-then-at-name c = rw c.if-at-name.true c.find_end.ensures

pub returns-then-at-eq0 : goal.returns-then-at-eq0
returns-then-at-eq0 c = found_none _ _ _ c.if-at-eq0.true c.if-at-name.false

pub returns-then-name-e-ne47 : goal.returns-then-name-e-ne47
returns-then-name-e-ne47 c = let a = c.args in found_other a.part.now a.name.now a.at (a.at - 1) (omega arith) (omega arith) c.if-name-e-ne47.true

pub slice_bounds-find_end-end : goal.slice_bounds-find_end-end
slice_bounds-find_end-end c = sym (length-take-le _ _ (omega arith))

pub returns : goal.returns
returns c = let a = c.args in found_before a.part.now a.name.now a.at (a.at - 1) (omega arith) (omega arith) c.find_end-2.result c.if-name-e-ne47.false c.find_end-2.ensures
