-- `path::back` meets its contract. The invariant: the parts passed leave the parts before them as many to drop as are counted. Assumes nothing.
use mathlib.Core.Path.{◌≡◌, sym, ◌∙◌}
use lib.ListN.{length-take}
use native.Mathlib.Omega.{arith}
use Rattle.path.specs.Backward.{tail, tail_of}
use Rattle.path.proofs.PathLaws.{back_goes, back_up, back_drop, back_keep, goes_some}
use Rattle.path.proofs.back.Goals as goal

pub loop-end-preserved-then-equals : goal.loop-end-preserved-then-equals
loop-end-preserved-then-equals c =
    let s = c.args.s.now in
    let l = c.loop-end in
    let a = c.after_last-start in
    let g = sym c.goes_out.ensures ∙ c.if-not-goes_out.true in
    let u = sym c.equals.ensures ∙ c.if-equals.true in
    let m = goes_some s a.result c.in-Some.end g in
    (omega arith, (omega arith, λ t. l.invariant.1.1 t ∙ back_up s (omega arith) (omega arith) a.ensures.0 l.up t g u))

pub returns-in_default-checked_sub : goal.returns-in_default-checked_sub
returns-in_default-checked_sub c =
    let s = c.args.s.now in
    let l = c.loop-end in
    let a = c.after_last-start in
    let g = sym c.goes_out.ensures ∙ c.if-not-goes_out.true in
    let u = sym c.equals.ensures ∙ c.if-equals.false in
    let k = length-take c.in-Some.end s in
    ((goes_some s a.result c.in-Some.end g, omega arith), λ t. l.invariant.1.1 t ∙ back_keep s (omega arith) (omega arith) a.ensures.0 l.up t g u (omega arith))

pub loop-end-preserved-else-equals : goal.loop-end-preserved-else-equals
loop-end-preserved-else-equals c =
    let s = c.args.s.now in
    let l = c.loop-end in
    let a = c.after_last-start in
    let g = sym c.goes_out.ensures ∙ c.if-not-goes_out.true in
    let u = sym c.equals.ensures ∙ c.if-equals.false in
    let k = length-take c.in-Some.end s in
    (omega arith, (omega arith, λ t. l.invariant.1.1 t ∙ back_drop s (omega arith) (omega arith) a.ensures.0 l.up t g u (omega arith)))

pub loop-end-preserved : goal.loop-end-preserved
loop-end-preserved c =
    let l = c.loop-end in
    let a = c.after_last-start in
    let g = sym c.goes_out.ensures ∙ c.if-not-goes_out.false in
    let k = length-take c.in-Some.end c.args.s.now in
    (omega arith, (omega arith, λ t. l.invariant.1.1 t ∙ back_goes c.args.s.now (omega arith) (omega arith) a.ensures.0 (tail l.up t) g))

pub returns : goal.returns
unfolding tail_of
returns c =
    let l = c.loop-end in
    let e : l.left ≡ 0 = omega arith in
    (omega arith, λ t. l.invariant.1.1 t ∙ rw e)
