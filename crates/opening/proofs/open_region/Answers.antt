-- `open_region` meets its contract. Assumes nothing.
use mathlib.Core.Path.{◌∙◌, ap}
use lib.ListN.{take}
use Rattle.std.proofs.lemmas.Result.{err_from_is_err_and}
use Rattle.opening.specs.Opening.{entered}
use Rattle.opening.proofs.EntryLaws.{entry_over, entry_headless, entry_named}
use Rattle.opening.proofs.open_region.Goals as goal

pub returns-in_err-length-clause-opened : goal.returns-in_err-length-clause-opened
returns-in_err-length-clause-opened c contents =
    let p = err_from_is_err_and c.from_residual.result c.from_residual.ensures.1 in
    rw (p.1, p.2) (entry_over _ _ _ _ _ c.in_err-length.ensures.work_after)

pub returns-then-o-clause-opened : goal.returns-then-o-clause-opened
returns-then-o-clause-opened c contents = entry_headless _ _ _ _ _ c.in_ok-length.ensures.work_after c.if-o.true

pub returns-in_err-file-clause-opened : goal.returns-in_err-file-clause-opened
returns-in_err-file-clause-opened c contents =
    let p = err_from_is_err_and c.from_residual-in_err-file.result c.from_residual-in_err-file.ensures.1 in
    rw (p.1, p.2)
    (ap (entered (take c.in_ok-length.length c.put_block.new.work)) (c.in_err-file.ensures contents) ∙ entry_named _ _ _ _ _ c.in_ok-length.ensures.work_after c.if-o.false)

pub returns-clause-opened : goal.returns-clause-opened
returns-clause-opened c contents =
    ap (entered (take c.in_ok-length.length c.put_block.new.work)) (c.in_ok-file.ensures contents) ∙ entry_named _ _ _ _ _ c.in_ok-length.ensures.work_after c.if-o.false
