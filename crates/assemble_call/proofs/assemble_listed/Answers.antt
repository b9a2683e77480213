-- `assemble_listed` meets its contract: the members stand in the contents, and are the files that the lines name. Assumes nothing.
use Rattle.std.proofs.lemmas.Result.{err_from_is_err_and}
use native.Mathlib.Omega.{arith}
use mathlib.Core.Path.{ap, ◌∙◌}
use mathlib.Core.List.{List}
use Rattle.index.specs.Index.{File}
use Rattle.walk.specs.Steps.{judge}
use Rattle.walk.specs.Outcome.{outcome}
use Rattle.assembled.specs.Assemble.{assemble}
use Rattle.listed.proofs.FilesLaws.{have_rows, all_lie, files-same}
use Rattle.assemble_call.proofs.assemble_listed.Goals as goal

pub members_of-members-requires : goal.members_of-members-requires
members_of-members-requires c = have_rows c.args.files c.requires.1.0 (omega arith)

pub assemble-requires : goal.assemble-requires
assemble-requires c =
    let a = c.args in
    (rw (c.as_mut_slice.ensures.value, c.members_of-members.ensures) (all_lie a.files c.requires.1.0 c.requires.0 a.limit a.limit), (omega arith, (c.requires.1.1.0, c.requires.1.1.1)))

pub returns-in_err-length-clause-work_after : goal.returns-in_err-length-clause-work_after
returns-in_err-length-clause-work_after c =
    let a = c.args in
    let q = err_from_is_err_and c.from_residual.result c.from_residual.ensures.1 in
    rw (q.1, q.2) (rw (c.as_mut_slice.ensures.value, c.members_of-members.ensures) at (c.in_err-length.ensures.by_index 0 0)
    ∙ ap (λ (hs : List File). outcome (judge 0 a.limit 0 (assemble a.url.now hs))) (files-same a.files c.requires.1.0 a.work.now))

pub returns-clause-work_after : goal.returns-clause-work_after
returns-clause-work_after c =
    let a = c.args in
    rw (c.as_mut_slice.ensures.value, c.members_of-members.ensures) at (c.in_ok-length.ensures.by_index 0 0)
    ∙ ap (λ (hs : List File). outcome (judge 0 a.limit 0 (assemble a.url.now hs))) (files-same a.files c.requires.1.0 a.work.now)
