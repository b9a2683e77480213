-- `outline::past_line` meets its contract. The invariant: a heading of the lines that are left goes past, the title excepted. Assumes nothing.
use mathlib.Core.Path.{sym, ◌∙◌}
use mir.Syntax.{w32}
use Rattle.std.proofs.lemmas.Int.{to_z-of_z}
use Rattle.outline.proofs.BelowLaws.{below-first, below-some, below-level, below-here, below-line}
use Rattle.outline.proofs.past_line.Goals as goal

pub loop-line-init : goal.loop-line-init
loop-line-init c = rw (to_z-of_z w32 c.args.shift c.ranges.shift) (below-first c.args.shift c.args.s.now c.first-cursor.result c.first-cursor.ensures c.requires)

pub goes_past-requires : goal.goes_past-requires
goes_past-requires c = rw c.moved_kind.ensures (below-level c.loop-line.titled c.loop-line.invariant c.in-Some.ensures)

pub returns-then-goes_past : goal.returns-then-goes_past
returns-then-goes_past c =
    let k = to_z-of_z w32 c.args.shift c.ranges.shift in
    let g = rw (k, c.moved_kind.ensures) at c.goes_past.ensures in
    below-here c.loop-line.titled (rw k at c.loop-line.invariant) c.in-Some.ensures (sym c.if-goes_past.true ∙ g)

pub loop-line-preserved : goal.loop-line-preserved
loop-line-preserved c =
    let k = to_z-of_z w32 c.args.shift c.ranges.shift in
    let g = rw (k, c.moved_kind.ensures) at c.goes_past.ensures in
    rw k (below-line c.loop-line.titled (rw k at c.loop-line.invariant) c.in-Some.ensures (sym c.if-goes_past.false ∙ g) c.titled_by-titled.ensures)

pub returns : goal.returns
returns c = absurd (below-some c.loop-line.titled c.loop-line.invariant c.in_default.ensures)
