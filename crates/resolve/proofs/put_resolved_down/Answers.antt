-- `resolve::put_resolved_down` meets its contract. The invariant: the parts found are written from `at` to the end, and the path behind it stays.
-- Assumes nothing.
use mathlib.Core.Path.{refl}
use Rattle.std.specs.Prelude.{Some}
use mathlib.Core.List.{[]}
use native.Mathlib.Omega.{arith}
use Rattle.text.specs.Bytes.{part}
use Rattle.path.proofs.PathLaws.{reached_start}
use Rattle.resolve.proofs.ResolveLaws.{written-length, written_all, down_last, down_bounded, down_fits, down_on}
use Rattle.resolve.proofs.put_resolved_down.Goals as goal

pub loop-before-init : goal.loop-before-init
loop-before-init c =
    let a = c.args in
    let r = reached_start a.dir.now (part a.from a.to a.work.now) in
    rw c.from_end-c.ensures record { made = []; place = omega arith; wrote = refl; reached = r }

pub slice_bounds-last_part-end : goal.slice_bounds-last_part-end
slice_bounds-last_part-end c = omega (arith, written-length c.loop-before.invariant)

pub put_kept_down-at-requires : goal.put_kept_down-at-requires
put_kept_down-at-requires c =
    let to = c.args.to in
    let p = c.requires in
    let w = c.loop-before.invariant in
    let h = down_last to p.1.0 w (Some c.in-Some.field-0) c.in-Some.ensures in
    (down_bounded to p.1.0 w h, (down_fits to p.1.0 w h p.0, (omega (arith, w.place, p.1.0), omega (arith, written-length w, p.1.1))))

pub loop-before-preserved : goal.loop-before-preserved
loop-before-preserved c =
    let w = c.loop-before.invariant in
    let h = down_last c.args.to c.requires.1.0 w (Some c.in-Some.field-0) c.in-Some.ensures in
    down_on c.args.to c.requires.1.0 w h _ _ c.put_kept_down-at.ensures

pub shape_of-work : goal.shape_of-work
shape_of-work c = written-length c.loop-before.invariant

pub returns : goal.returns
returns c =
    let w = c.loop-before.invariant in
    written_all w (rw c.in_default.is at (down_last c.args.to c.requires.1.0 w _ c.last_part.ensures))
