-- `resolve::put_resolved` meets its contract. The invariant: the parts found are written from `at` to the end. Assumes nothing.
use mathlib.Core.Path.{refl}
use mathlib.Core.List.{[]}
use native.Mathlib.Omega.{arith}
use Rattle.path.proofs.PathLaws.{reached_start}
use Rattle.resolve.proofs.ResolveLaws.{written-length, written-fits, written_on}
use Rattle.resolve.proofs.put_resolved.Goals as goal

pub loop-before-init : goal.loop-before-init
loop-before-init c =
    let r = reached_start c.args.dir.now c.args.path.now in
    rw c.from_end-c.ensures record { made = []; place = omega arith; wrote = refl; reached = r }

pub put_kept-at-requires : goal.put_kept-at-requires
put_kept-at-requires c =
    let w = c.loop-before.invariant in
    let h = c.in-Some.ensures in
    (h.bounded, (written-fits w h c.requires.0, omega (arith, w.place, written-length w)))

pub loop-before-preserved : goal.loop-before-preserved
loop-before-preserved c = written_on c.loop-before.invariant c.in-Some.ensures _ _ c.put_kept-at.ensures
