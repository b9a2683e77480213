-- `outline::shift_below` meets its contract: a heading goes past where the deepest does. Assumes nothing.
use mathlib.Core.Path.{◌∙◌}
use native.Mathlib.Omega.{arith}
use mir.Syntax.{w32}
use Rattle.std.proofs.Common.{rules}
use Rattle.std.proofs.lemmas.Int.{to_z-of_z}
use Rattle.shift.proofs.LevelsLaws.{shift_none, shift_past, shift_by, shift_past_at}
use Rattle.outline.proofs.shift_below.Goals as goal

pub returns-in_default : goal.returns-in_default
returns-in_default c = shift_none 2 (rw c.in_default.is at c.requires)

pub past_line-requires : goal.past_line-requires
past_line-requires c =
    let x = c.shift_to-shift in
    let k = to_z-of_z w32 x.result (search rules) in
    rw k (shift_past 2 (rw c.in-Some.is at c.requires) x.result x.ensures.0 (omega arith) (rw k at c.is_past.ensures) ∙ c.if-is_past.true)

pub returns-then-is_past : goal.returns-then-is_past
returns-then-is_past c =
    let l = rw c.in-Some.is at c.requires in
    let x = c.shift_to-shift in
    let k = to_z-of_z w32 x.result (search rules) in
    shift_past_at 2 l x.result x.ensures.0 (shift_past 2 l x.result x.ensures.0 (omega arith) (rw k at c.is_past.ensures) ∙ c.if-is_past.true) (rw k at c.past_line.ensures)

pub returns : goal.returns
returns c =
    let l = rw c.in-Some.is at c.requires in
    let x = c.shift_to-shift in
    let k = to_z-of_z w32 x.result (search rules) in
    rw k (shift_by 2 l x.result x.ensures.0 (shift_past 2 l x.result x.ensures.0 (omega arith) (rw k at c.is_past.ensures) ∙ c.if-is_past.false))
