-- `pattern::find` meets its contract. The invariant: p stands at no place passed. Assumes nothing.
use Prim.Native.Nat.{◌+◌, ◌<◌}
use mathlib.Core.Path.{sym, ◌∙◌}
use native.Mathlib.Omega.{arith}
use borrow.Author.Tests.{eqb-true, eqb-false}
use lib.ListN.{length}
use Rattle.text.proofs.PatternLaws.{starts-end, later-zero, find_hit, found_here, found-later, found_jump, found_none}
use Rattle.text.proofs.pattern.find.Goals as goal

pub returns-then-is_empty : goal.returns-then-is_empty
returns-then-is_empty c =
    let a = c.args in
    let e = eqb-true _ _ (sym c.is_empty.ensures ∙ c.if-is_empty.true) in
    sym (find_hit a.p.now a.s.now (starts-end a.p.now a.s.now 0 (omega arith)))

pub loop-i-init : goal.loop-i-init
loop-i-init c =
    let a = c.args in
    let f = c.find_byte-i in
    let some : 0 < length a.p.now = omega (arith, eqb-false _ _ (sym c.is_empty.ensures ∙ c.if-is_empty.false)) in
    (f.ensures.1, found_jump a.p.now a.s.now 0 (sym (later-zero _)) f.result some f.ensures.0)

pub returns-then-starts_with : goal.returns-then-starts_with
returns-then-starts_with c =
    let a = c.args in
    let l = c.loop-i in
    sym (found_here a.p.now a.s.now l.i l.invariant.1 (sym c.starts_with.ensures ∙ c.if-starts_with.true))

pub loop-i-preserved : goal.loop-i-preserved
loop-i-preserved c =
    let a = c.args in
    let l = c.loop-i in
    let f = c.find_byte-i-in-loop-i in
    let some : 0 < length a.p.now = omega (arith, eqb-false _ _ (sym c.is_empty.ensures ∙ c.if-is_empty.false)) in
    let on = found-later a.p.now a.s.now l.i l.invariant.1 (omega arith) (sym c.starts_with.ensures ∙ c.if-starts_with.false) in
    (f.ensures.1, found_jump a.p.now a.s.now (l.i + 1) on f.result some f.ensures.0)

pub returns : goal.returns
returns c =
    let a = c.args in
    let l = c.loop-i in
    let some : 0 < length a.p.now = omega (arith, eqb-false _ _ (sym c.is_empty.ensures ∙ c.if-is_empty.false)) in
    sym (found_none a.p.now a.s.now l.i l.invariant.1 some (omega arith))
