-- `insertion::insert` meets its contract. Assumes nothing.
use native.Mathlib.Omega.{arith}
use mir.Syntax.{w32}
use Rattle.std.proofs.Common.{rules}
use Rattle.std.proofs.lemmas.Int.{to_z-of_z}
use lib.ListN.{take}
use Rattle.insertion.proofs.PlanLaws.{joined_nothing, joined_stopped, joined_over, joined_put, lines-put}
use Rattle.insertion.proofs.insert.Goals as goal

pub returns-in-Ok-None-clause-work_after : goal.returns-in-Ok-None-clause-work_after
returns-in-Ok-None-clause-work_after c =
    let s = c.args in
    let h = (rw (c.in-Ok-None.field-0-is, c.bytes-text.ensures.text) at c.in-Ok-None.ensures) s.host.now s.name.now s.at.number in
    joined_nothing s.at.opener s.work.now s.at.limit s.at.len _ h c.requires.1.0 (omega arith)

pub returns-in-Err-clause-work_after : goal.returns-in-Err-clause-work_after
returns-in-Err-clause-work_after c =
    let s = c.args in
    let h = (rw c.bytes-text.ensures.text at c.in-Err.ensures) s.host.now s.name.now s.at.number in
    joined_stopped s.at.opener s.work.now s.at.limit (take s.at.len s.work.now) _ _ h.0 h.1

pub returns-in-Some-clause-work_after : goal.returns-in-Some-clause-work_after
returns-in-Some-clause-work_after c =
    let s = c.args in
    let k = rw c.in-Ok-Some.field-0-is at c.in-Ok-Some.ensures in
    let h = rw c.bytes-text.ensures.text at k in
    let l = lines-put s.host.now s.name.now _ s.contents.now s.work.now _ c.in-Ok-Some.plan.shift c.part-lines.result s.source c.in-Ok-Some.plan.start c.in-Ok-Some.plan.end c.parent_dir.ensures.0 (to_z-of_z w32 c.in-Ok-Some.plan.shift (search rules)) c.part-lines.ensures (omega (arith, k.0, c.bytes-text.ensures.len, c.requires.0)) in
    let p = c.in-Some.ensures.ran in
    joined_put s.at.opener s.work.now _ _ _ _ (h.1 s.host.now s.name.now s.at.number) _ l c.requires.1.0 c.requires.1.1.0 _ _ p.place (omega (arith, p.below, p.limit)) (grind (arith, p.wrote, c.in-Some.ensures.same_reference))

pub returns-in-None-clause-work_after : goal.returns-in-None-clause-work_after
returns-in-None-clause-work_after c =
    let s = c.args in
    let k = rw c.in-Ok-Some.field-0-is at c.in-Ok-Some.ensures in
    let h = rw c.bytes-text.ensures.text at k in
    let l = lines-put s.host.now s.name.now _ s.contents.now s.work.now _ c.in-Ok-Some.plan.shift c.part-lines.result s.source c.in-Ok-Some.plan.start c.in-Ok-Some.plan.end c.parent_dir.ensures.0 (to_z-of_z w32 c.in-Ok-Some.plan.shift (search rules)) c.part-lines.ensures (omega (arith, k.0, c.bytes-text.ensures.len, c.requires.0)) in
    joined_over s.at.opener s.work.now _ _ _ _ (h.1 s.host.now s.name.now s.at.number) _ l c.requires.1.0 c.requires.1.1.0 c.in-None.ensures.ran.over
