-- `lines::leaf_put_heading` meets its contract: the line and the place after it where there is room, and else nothing. Assumes nothing.
use mathlib.Core.Path.{sym, ◌∙◌}
use Rattle.leaf.proofs.LeafLaws.{room_fits}
use Rattle.leaves.proofs.lines.leaf_put_heading.Goals as goal

pub returns-then-not-has_room : goal.returns-then-not-has_room
returns-then-not-has_room c =
    let e = sym c.has_room.ensures ∙ c.if-not-has_room.true in
    record { answer_after = c.one.ensures ∙ rw e; out_after = rw e }

pub put_heading-end-requires : goal.put_heading-end-requires
put_heading-end-requires c = room_fits _ _ _ _ (sym c.has_room.ensures ∙ c.if-not-has_room.false)

pub returns : goal.returns
returns c =
    let e = sym c.has_room.ensures ∙ c.if-not-has_room.false in
    let p = c.put_heading-end.ensures in
    record { answer_after = rw (e, p.1); out_after = rw e p.0 }
