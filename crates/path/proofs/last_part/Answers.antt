-- `path::last_part` meets its contract: the last part kept of the path, else of the directory before it. Assumes nothing.
use mathlib.Core.Path.{sym, ◌∙◌}
use native.Mathlib.Omega.{arith}
use Rattle.path.proofs.PathLaws.{last-inside, last-path, above_root, above-inside}
use Rattle.path.proofs.last_part.Goals as goal

pub back-requires : goal.back-requires
back-requires c = let w = rw c.if-from.true at c.requires in omega arith

pub returns-then-from : goal.returns-then-from
returns-then-from c =
    let a = c.args in
    let i = c.if-from.true in
    let b = c.back in
    rw c.in_dir.ensures
    (last-inside a.dir.now a.path.now a.from a.from.left 0 b.result (rw i at c.requires) (rw i (omega arith)) (λ t. rw i) b.ensures)

pub back-requires-2 : goal.back-requires-2
back-requires-2 c = let w = rw c.if-from.false at c.requires in omega arith

pub returns-then-starts_with : goal.returns-then-starts_with
returns-then-starts_with c =
    let a = c.args in
    let b = rw c.in-Above.is at c.back-2.ensures in
    above_root a.dir.now a.path.now a.from c.if-from.false _ b (sym c.starts_with.ensures ∙ c.if-starts_with.true)

pub back-requires-in-Above : goal.back-requires-in-Above
back-requires-in-Above c =
    let w = rw c.if-from.false at c.requires in
    let b = rw c.in-Above.is at c.back-2.ensures in
    omega (arith, b.0)

pub returns-in-Kept : goal.returns-in-Kept
returns-in-Kept c =
    let s = c in
    let a = s.args in
    last-path a.dir.now a.path.now a.from c.if-from.false _ _ s.requires (rw c.in-Kept.is at c.back-2.ensures)

pub returns-else-starts_with : goal.returns-else-starts_with
returns-else-starts_with c =
    let a = c.args in
    let i = c.if-from.false in
    let b = rw c.in-Above.is at c.back-2.ensures in
    let r = above-inside a.dir.now a.path.now a.from i _ b (sym c.starts_with.ensures ∙ c.if-starts_with.false) in
    rw c.in_dir-in-Above.ensures
    (last-inside a.dir.now a.path.now a.from _ _ c.back-in-Above.result (omega arith) (rw i (omega arith)) r c.back-in-Above.ensures)
