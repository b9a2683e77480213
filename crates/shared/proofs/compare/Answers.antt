-- `compare` meets its contract. The invariant: the members before member i are compared, and the table tells of them. Assumes nothing.
use Rattle.std.specs.Prelude.{Some, None}
use native.Mathlib.Omega.{arith}
use Rattle.text.proofs.BytesLaws.{part_full}
use Rattle.shared.proofs.CompareLaws.{backed, back_take}
use Rattle.shared.proofs.SharedLaws.{compared_start, compared_end, entry_found, turn_stand, turn_next, turn_found}
use Rattle.shared.proofs.compare.Goals as goal

pub loop-i-init : goal.loop-i-init
loop-i-init c = let a = c.args in
    compared_start a.index.now a.contents.now a.members.now a.table a.stop (backed a.work.now c.clear.new.out a.table a.stop)

pub compare_member-requires-clause-all_stand : goal.compare_member-requires-clause-all_stand
compare_member-requires-clause-all_stand c = (turn_stand c.requires.0 (omega arith) _, (c.requires.1.0, omega (arith, c.loop-i.auto.work)))

pub returns-in-Some-clause-shared_of : goal.returns-in-Some-clause-shared_of
returns-in-Some-clause-shared_of c = let a = c.args in
    let p = c.requires in
    let k = part_full a.work.now a.table a.stop p.1.1 in
    let b = back_take a.work.now c.clear.new.out a.table a.stop (omega (arith, p.1.0)) p.1.1 (omega (arith, c.clear.auto)) in
    entry_found p.0 c.loop-i.invariant a.work.now b (Some c.in-Some.found) (turn_found p.0 c.loop-i.invariant (omega arith) _ c.in-Some.ensures.shared_of)

pub loop-i-preserved : goal.loop-i-preserved
loop-i-preserved c =
    let m = c.compare_member in
    turn_next c.requires.0 c.loop-i.invariant (omega arith) _ m.new.work m.auto.work m.ensures.work_unchanged c.in_default.ensures.shared_of c.in_default.ensures.tells_after

pub returns-clause-shared_of : goal.returns-clause-shared_of
returns-clause-shared_of c = let a = c.args in
    let p = c.requires in
    let k = part_full a.work.now a.table a.stop p.1.1 in
    let b = back_take a.work.now c.clear.new.out a.table a.stop (omega (arith, p.1.0)) p.1.1 (omega (arith, c.clear.auto)) in
    entry_found p.0 c.loop-i.invariant a.work.now b None (compared_end p.0 c.loop-i.invariant (omega arith))
