-- `run` meets its contract: refused by the checks, or assembled. Assumes nothing.
use Rattle.std.proofs.lemmas.Result.{err_from_is_err_and}
use mathlib.Core.Path.{sym, ◌∙◌}
use Rattle.fileset.proofs.CheckLaws.{files_told}
use Rattle.assemble_call.proofs.AssembleCallLaws.{assemble_held, can-assemble, assemble-passed, assemble-stopped}
use Rattle.assemble_call.proofs.run.Goals as goal

pub assemble_listed-requires : goal.assemble_listed-requires
assemble_listed-requires c =
    let a = c.args in
    let k = c.in_ok-files.ensures in
    let l = c.as_slice.ensures in
    (k.read.short, rw (← c.requires) (can-assemble a.index.now a.contents.now a.list.now a.url.now a.sizes.limit a.sizes.output a.sizes.work (sym k.value) (files_told k.read) (l.value ∙ k.listed) l.fits))

pub returns-in_err-files : goal.returns-in_err-files
returns-in_err-files c = let a = c.args in
    let q = err_from_is_err_and c.from_residual.result c.from_residual.ensures.1 in
    rw (q.1, q.2) (record { work_after = assemble-stopped a.index.now a.contents.now a.list.now a.url.now a.sizes.limit a.sizes.output a.sizes.work c.in_err-files.ensures.value; fits = tt })

pub returns : goal.returns
returns c =
    let a = c.args in
    let k = c.in_ok-files.ensures in
    let f = c.assemble_listed in
    record {
      work_after = assemble-passed a.index.now a.contents.now a.list.now a.url.now a.sizes.limit a.sizes.output a.sizes.work (sym k.value) (files_told k.read) (c.as_slice.ensures.value ∙ k.listed) f.ensures.work_after;
      fits = assemble_held a.index.now a.contents.now a.list.now a.url.now a.sizes.limit a.sizes.output a.sizes.work (sym k.value) f.result f.ensures.fits;
    }
