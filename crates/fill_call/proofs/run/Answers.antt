-- `run` meets its contract: refused by the checks, or filled. Assumes nothing.
use Rattle.std.proofs.lemmas.Result.{err_from_is_err_and}
use mathlib.Core.Path.{sym}
use Rattle.index.proofs.RowsLaws.{few_files}
use Rattle.fileset.proofs.CheckLaws.{files_told}
use Rattle.fill_call.proofs.FillCallLaws.{fill-room, fill-passed, fill_held, fill-stopped}
use Rattle.fill_call.proofs.run.Goals as goal

pub fill_regions-requires : goal.fill_regions-requires
fill_regions-requires c =
    let a = c.args in
    let k = c.in_ok-files.ensures in
    let same = files_told k.read in
    rw (← c.requires) (fill-room a.index.now a.contents.now a.name.now a.text.now a.sizes.limit a.sizes.output a.sizes.work (sym k.value) same
    (few_files c.in_ok-files.files))

pub returns-in_err-files : goal.returns-in_err-files
returns-in_err-files c = let a = c.args in
    let q = err_from_is_err_and c.from_residual.result c.from_residual.ensures.1 in
    rw (q.1, q.2) (record { work_after = fill-stopped a.index.now a.contents.now a.name.now a.text.now a.sizes.limit a.allowance a.sizes.output a.sizes.work c.in_err-files.ensures.value; fits = tt })

pub returns : goal.returns
returns c =
    let a = c.args in
    let k = c.in_ok-files.ensures in
    let same = files_told k.read in
    let f = c.fill_regions in
    record {
      work_after = fill-passed a.index.now a.contents.now a.name.now a.text.now a.sizes.limit a.sizes.output a.sizes.work (sym k.value) same a.allowance f.ensures.work_after;
      fits = fill_held a.index.now a.contents.now a.name.now a.text.now a.sizes.limit a.sizes.output a.sizes.work (sym k.value) same f.result f.ensures.filled_within;
    }
