-- `rows::format` meets its contract: each field from the last on is put, and a tab before it. Assumes nothing.
use Prim.Native.Nat.{ℕ, ◌-◌, ◌<◌}
use native.Mathlib.Omega.{arith}
use mathlib.Core.Path.{◌≡◌, ap, ◌∙◌}
use mathlib.Core.List.{List, ◌++◌}
use lib.ListN.{length, length-set}
use Rattle.std.proofs.lemmas.List.{length-reverse, length_push}
use Rattle.std.proofs.lemmas.Iterator.Adapters.{YieldsList-from_rev_slice}
use Rattle.std.proofs.lemmas.Iterator.Consumers.{YieldsList-turn, YieldsList-end}
use Rattle.buffer.proofs.BufferLaws.{drop_sets}
use Rattle.buffer.proofs.DecimalLaws.{decimal_le}
use Rattle.rows.proofs.SheetLaws.{row-end, row-field}
use Rattle.rows.proofs.format.Goals as goal

pub loop-field-init : goal.loop-field-init
loop-field-init c =
    let n = length-set c.args.row.now (length c.args.row.now - 1) 0x0A in
    (omega arith, (omega arith, (omega arith, row-end c.args.row.now c.args.fields.now (omega arith))))

pub put_before-at-requires : goal.put_before-at-requires
put_before-at-requires c =
    let t = YieldsList-turn (YieldsList-from_rev_slice c.args.fields.now cc) c.loop-field.yielded _ c.loop-field.yielded_by _ _ c.in-Some.field c.in-Some.is c.next.ensures.steps in
    omega (arith, t.0, decimal_le c.in-Some.field.now, length-reverse c.args.fields.now, length-set c.args.row.now (length c.args.row.now - 1) 0x0A)

pub overflow_sub-at-in-loop-field : goal.overflow_sub-at-in-loop-field
overflow_sub-at-in-loop-field c =
    let t = YieldsList-turn (YieldsList-from_rev_slice c.args.fields.now cc) c.loop-field.yielded _ c.loop-field.yielded_by _ _ c.in-Some.field c.in-Some.is c.next.ensures.steps in
    omega (arith, t.0, decimal_le c.in-Some.field.now, length-reverse c.args.fields.now, length-set c.args.row.now (length c.args.row.now - 1) 0x0A)

pub loop-field-preserved : goal.loop-field-preserved
loop-field-preserved c =
    let l = c.loop-field in
    let p = c.put_before-at in
    let x = c.in-Some.field in
    let t = YieldsList-turn (YieldsList-from_rev_slice c.args.fields.now cc) l.yielded _ l.yielded_by _ _ x c.in-Some.is c.next.ensures.steps in
    let h : length l.yielded < length c.args.fields.now = omega (arith, t.0, length-reverse c.args.fields.now) in
    let d = decimal_le x.now in
    let m = length-set c.args.row.now (length c.args.row.now - 1) 0x0A in
    let n = length-set p.new.out (p.result - 1) 0x09 in
    let k = length_push l.yielded x in (
      omega arith,
      (
        omega arith,
        (
          omega arith,
          rw k (row-field l.row p.new.out c.args.fields.now (length l.yielded) l.at p.result x.now h t.1 (omega arith) (omega arith) p.ensures.0 l.invariant.1.1.1),
        ),
      ),
    )

pub returns : goal.returns
returns c =
    let a = c.args in
    let l = c.loop-field in
    let t = YieldsList-end (YieldsList-from_rev_slice a.fields.now cc) l.yielded _ l.yielded_by _ _ c.in-None.is c.next.ensures.steps in
    let z : length a.fields.now - length l.yielded ≡ 0 = omega (arith, t.1, length-reverse a.fields.now) in
    let n = length-set a.row.now (length a.row.now - 1) 0x0A in (
      rw c.copy.ensures.0 (drop_sets l.row a.word.now (l.at - length a.word.now) l.at (omega arith) (omega arith))
          ∙ ap (λ (x : List ℕ). a.word.now ++ x) (rw z at l.invariant.1.1.1),
      omega arith,
    )
