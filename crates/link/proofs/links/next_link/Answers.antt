-- `links::next_link` meets its contract. Assumes nothing.
use Prim.Native.Nat.{◌+◌, ◌≤◌}
use mathlib.Core.Path.{sym}
use lib.ListN.{length}
use native.Mathlib.Omega.{arith}
use Rattle.link.proofs.LinkLaws.{target-within, link_or_none, none_found}
use Rattle.link.proofs.links.next_link.Goals as goal

within : (c : goal.In_ok-start) → c.args.from + c.in_ok-start.field-0 + 2 ≤ length c.args.line.now
within c = target-within c.args.line.now _ _ (sym c.in_ok-start.ensures) c.requires

pub returns-in_err-start : goal.returns-in_err-start
returns-in_err-start c = rw c.from_residual.ensures (none_found c.args.line.now c.args.from (sym c.in_err-start.ensures))

pub overflow_add-start : goal.overflow_add-start
overflow_add-start c = omega (arith, within c)

pub overflow_add-start-2 : goal.overflow_add-start-2
overflow_add-start-2 c = omega (arith, within c)

pub find_byte-end-requires : goal.find_byte-end-requires
find_byte-end-requires c = omega (arith, within c)

pub returns : goal.returns
returns c = rw c.then_some.ensures (link_or_none _ _ _ (sym c.in_ok-start.ensures) _ c.find_byte-end.ensures.0 c.requires)
