-- `compare_member` meets its contract. The invariant: how far its headings are walked, what the table tells, and what is left to compare. Assumes nothing.
use Rattle.std.specs.Prelude.{Some, None}
use native.Mathlib.Omega.{arith}
use mathlib.Core.Path.{sym, ◌∙◌}
use Rattle.text.proofs.BytesLaws.{part_full}
use Rattle.shared.proofs.CompareLaws.{member-stands, before-stand, text_read, walk-found, walk_none, walk_tells, head_read, next-long, second-alone, second-found, walk-next, walk_hit}
use Rattle.shared.proofs.compare_member.Goals.{then-mark_anchor+in_default-earlier, else-mark_anchor}
use Rattle.shared.proofs.compare_member.Goals as goal

pub text-source-requires : goal.text-source-requires
text-source-requires c = (member-stands c.args.before.now c.args.member c.requires.all_stand.0).text

pub bytes-requires : goal.bytes-requires
bytes-requires c = let p = c.requires.all_stand in let x = c.loop-found.invariant in text_read p.0 p.1.0 p.1.1 x c.loop-found.work x.long

pub bytes-requires-in-Some : goal.bytes-requires-in-Some
bytes-requires-in-Some c =
    let p = c.requires.all_stand in
    let x = c.loop-found.invariant in
    let h = walk-found p.0 p.1.0 p.1.1 x (Some c.in-Some.found) (rw c.bytes.ensures.text at c.in-Some.ensures) in
    head_read p.0 p.1.0 p.1.1 x h c.part-heading.ensures c.loop-found.work x.long

pub mark_anchor-requires : goal.mark_anchor-requires
mark_anchor-requires c =
    let p = c.requires.all_stand in
    let x = c.loop-found.invariant in
    let l = (member-stands c.args.before.now c.args.member p.0).lies in
    (omega (arith, x.long, p.1, part_full c.loop-found.work c.args.table c.args.stop (omega (arith, x.long, p.1))), (l.first, l.last))

pub bytes-text-requires : goal.bytes-text-requires
bytes-text-requires c =
    let p = c.requires.all_stand in
    let x = c.loop-found.invariant in
    let h = walk-found p.0 p.1.0 p.1.1 x (Some c.in-Some.found) (rw c.bytes.ensures.text at c.in-Some.ensures) in
    let number = rw c.bytes-in-Some.ensures.text at c.number_of-number.ensures.value in
    head_read p.0 p.1.0 p.1.1 x h c.part-heading.ensures _ (next-long p.0 p.1.0 p.1.1 x h c.part-heading.ensures number c.mark_anchor.ensures)

pub earlier-requires : goal.earlier-requires
earlier-requires c =
    let p = c.requires.all_stand in
    let x = c.loop-found.invariant in
    let h = walk-found p.0 p.1.0 p.1.1 x (Some c.in-Some.found) (rw c.bytes.ensures.text at c.in-Some.ensures) in
    let number = rw c.bytes-in-Some.ensures.text at c.number_of-number.ensures.value in
    let n = next-long p.0 p.1.0 p.1.1 x h c.part-heading.ensures number c.mark_anchor.ensures in
    (before-stand c.args.before.now c.args.member p.0, omega (arith, n, p.1))

pub returns-in-Some-earlier-clause-shared_of : goal.returns-in-Some-earlier-clause-shared_of
returns-in-Some-earlier-clause-shared_of c =
    let p = c.requires.all_stand in
    let x = c.loop-found.invariant in
    let h = walk-found p.0 p.1.0 p.1.1 x (Some c.in-Some.found) (rw c.bytes.ensures.text at c.in-Some.ensures) in
    let number = rw c.bytes-in-Some.ensures.text at c.number_of-number.ensures.value in
    let e = second-found p.0 p.1.0 p.1.1 x h c.part-heading.ensures number c.mark_anchor.ensures _ (rw c.bytes-text.ensures.text at c.earlier.ensures) in
    walk_hit p.0 p.1.0 p.1.1 x h c.part-heading.ensures number c.mark_anchor.ensures c.in-Some-earlier.second (sym c.in-Some-earlier.is ∙ e)

pub loop-found-smaller : goal.loop-found-smaller
loop-found-smaller c =
    let p = c.requires.all_stand in
    let x = c.loop-found.invariant in
    let h = walk-found p.0 p.1.0 p.1.1 x (Some c.in-Some.found) (rw c.bytes.ensures.text at c.in-Some.ensures) in
    omega (arith, h.later, h.next, x.inside)

pub loop-found-preserved : goal.loop-found-preserved
loop-found-preserved c =
    let p = c.requires.all_stand in
    let x = c.loop-found.invariant in
    let h = walk-found p.0 p.1.0 p.1.1 x (Some c.in-Some.found) (rw c.bytes.ensures.text at c.in-Some.ensures) in
    let number = rw c.bytes-in-Some.ensures.text at c.number_of-number.ensures.value in
    walk-next p.0 p.1.0 p.1.1 x h c.part-heading.ensures number c.mark_anchor.ensures (elim c.if-mark_anchor.branch [
      | then-mark_anchor+in_default-earlier w ↦
          sym (second-found p.0 p.1.0 p.1.1 x h c.part-heading.ensures number c.mark_anchor.ensures _ (rw w.bytes-text.ensures.text at w.earlier.ensures)) ∙ w.in_default-earlier.is
      | else-mark_anchor w ↦ second-alone p.0 p.1.0 p.1.1 x h c.part-heading.ensures number c.mark_anchor.ensures w.if-mark_anchor.false
    ])

pub returns-clause-shared_of : goal.returns-clause-shared_of
returns-clause-shared_of c =
    let p = c.requires.all_stand in
    walk_none p.0 p.1.0 p.1.1 c.loop-found.invariant (walk-found p.0 p.1.0 p.1.1 c.loop-found.invariant None (rw c.bytes.ensures.text at c.in_default.ensures))

pub returns-clause-tells_after : goal.returns-clause-tells_after
returns-clause-tells_after c =
    let p = c.requires.all_stand in
    walk_tells p.0 p.1.0 p.1.1 c.loop-found.invariant (walk-found p.0 p.1.0 p.1.1 c.loop-found.invariant None (rw c.bytes.ensures.text at c.in_default.ensures))
