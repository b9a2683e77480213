-- `resolve::resolve_into` meets its contract. The invariant: the parts found are written from `at` to the end. Assumes nothing.
use mathlib.Core.Path.{refl}
use mathlib.Core.List.{[]}
use native.Mathlib.Omega.{arith}
use Rattle.path.proofs.PathLaws.{reached_start}
use Rattle.resolve.proofs.ResolveLaws.{written-length, written-end, written-long, written_on}
use Rattle.resolve.proofs.resolve_into.Goals as goal

pub loop-before-init : goal.loop-before-init
loop-before-init c =
    let r = reached_start c.args.dir.now c.args.path.now in
    (refl, rw c.from_end-c.ensures record { made = []; place = omega arith; wrote = refl; reached = r })

pub returns-then-end-lengthen : goal.returns-then-end-lengthen
returns-then-end-lengthen c =
    let i = c.loop-before.invariant in
    let n = c.lengthen.ensures in
    omega (arith, i.0, written-length i.1, written-long i.1 c.in-Some.ensures (rw n at c.if-end-lengthen.true))

pub loop-before-preserved : goal.loop-before-preserved
loop-before-preserved c =
    let i = c.loop-before.invariant in
    (i.0, written_on i.1 c.in-Some.ensures _ _ c.put_kept-at.ensures)

pub returns : goal.returns
returns c =
    let i = c.loop-before.invariant in
    written-end i.1 i.0 (rw c.in_default.is at c.last_part.ensures)
