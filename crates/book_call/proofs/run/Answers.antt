-- `run` meets its contract: refused by the checks, or made. Assumes nothing.
use Rattle.std.proofs.lemmas.Result.{err_from_is_err_and}
use mathlib.Core.Path.{sym, ◌∙◌}
use Rattle.fileset.proofs.CheckLaws.{files_told}
use Rattle.book_call.proofs.BookCallLaws.{book_held, can-assemble, book-passed, book-stopped}
use Rattle.book_call.proofs.run.Goals as goal

pub assemble_listed-requires : goal.assemble_listed-requires
assemble_listed-requires c =
    let a = c.args in
    let k = c.in_ok-files.ensures in
    let l = c.as_slice.ensures in
    (k.read.short, rw (← c.requires) (can-assemble a.index.now a.contents.now a.list.now a.url.now a.sizes.limit a.sizes.output a.sizes.work (sym k.value) (files_told k.read) (l.value ∙ k.listed) l.fits))

pub returns-in_err-files : goal.returns-in_err-files
returns-in_err-files c = let a = c.args in
    let q = err_from_is_err_and c.from_residual.result c.from_residual.ensures.1 in
    rw (q.1, q.2) (record { work_after = book-stopped a.index.now a.contents.now a.list.now a.url.now a.sizes.limit a.allowance a.sizes.output a.sizes.work c.in_err-files.ensures.value; fits = tt })

pub returns : goal.returns
returns c =
    let a = c.args in
    let k = c.in_ok-files.ensures in
    let f = c.assemble_listed in
    record {
      work_after = book-passed a.index.now a.contents.now a.list.now a.url.now a.sizes.limit a.sizes.output a.sizes.work (sym k.value) (files_told k.read) (c.as_slice.ensures.value ∙ k.listed) a.allowance f.ensures.work_after;
      fits = book_held a.index.now a.contents.now a.list.now a.url.now a.sizes.limit a.sizes.output a.sizes.work (sym k.value) f.result f.ensures.fits;
    }
