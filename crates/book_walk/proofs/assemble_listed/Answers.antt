-- `assemble_listed` meets its contract: the members that list lines name, made and assembled. Assumes nothing.
use Prim.Native.Nat.{ℕ}
use mathlib.Core.Path.{ap, ◌∙◌}
use mathlib.Core.List.{List}
use native.Mathlib.Omega.{arith}
use Rattle.listed.proofs.FilesLaws.{have_rows}
use Rattle.made.proofs.ReadyLaws.{can_make, book-same}
use Rattle.walk.specs.Steps.{Steps, judge}
use Rattle.walk.specs.Outcome.{outcome}
use Rattle.book_walk.proofs.assemble_listed.Goals as goal

pub members_of-members-requires : goal.members_of-members-requires
members_of-members-requires c = have_rows c.args.files c.requires.1.0 (omega arith)

pub assemble_made-requires : goal.assemble_made-requires
assemble_made-requires c = (rw (c.as_mut_slice.ensures.value, c.members_of-members.ensures) (can_make c.args.files c.requires.1.0 c.requires.0 c.requires.1.1.1), c.requires.1.1.0)

pub returns-clause-work_after : goal.returns-clause-work_after
returns-clause-work_after c =
    let a = c.args in
    rw (c.as_mut_slice.ensures.value, c.members_of-members.ensures) at c.assemble_made.ensures.work_after
    ∙ ap (λ (w : Steps (List ℕ)). outcome (judge a.allowance a.limit 0 w)) (book-same a.files c.requires.1.0 a.url.now a.work.now)
