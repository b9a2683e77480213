-- `take_in` meets its contract. Assumes nothing.
use Rattle.std.specs.Prelude.{Ok}
use Rattle.std.proofs.lemmas.Result.{err_from_is_err_and}
use native.Mathlib.Omega.{arith}
use mathlib.Core.Path.{◌≡◌, ◌∙◌, ap}
use Rattle.answer.specs.declared.Answer.TheVariants.{Accepted}
use Rattle.embedding.specs.Embed.{embed_told}
use Rattle.filling.specs.Filling.{with_files}
use Rattle.filling.proofs.RoomLaws.{lent_length}
use Rattle.filling.proofs.TakenLaws.{taken_text}
use Rattle.taking.proofs.take_in.Goals as goal

pub returns-in_err-length-in-Accepted-clause-work_after : goal.returns-in_err-length-in-Accepted-clause-work_after
returns-in_err-length-in-Accepted-clause-work_after c =
    let a = c.args in
    let k = c.drop_markers-kept in
    let q : a.got ≡ Ok (Accepted c.in-Accepted.length c.in-Accepted.files) = c.in_ok-length.was ∙ ap Ok c.in-Accepted.is in
    let l = lent_length a.work.now a.at.limit (omega arith) in
    let g = embed_told a.host.now a.name.now a.at.target a.at.number in
    let r = c.from_residual-in_err-length-in-Accepted in
    let p = err_from_is_err_and r.result r.ensures.1 in
    rw (p.1, p.2, q)
    (ap (with_files c.in-Accepted.files)
    (c.in_err-length-in-Accepted.ensures.work_after
    ∙ taken_text a.at.limit a.at.opener a.work.now k.new.work c.in-Accepted.length k.result a.at.len g (omega arith) (omega arith) (omega arith) k.ensures.1))

pub returns-in_ok-length-in-Accepted-clause-work_after : goal.returns-in_ok-length-in-Accepted-clause-work_after
returns-in_ok-length-in-Accepted-clause-work_after c =
    let a = c.args in
    let k = c.drop_markers-kept in
    let q : a.got ≡ Ok (Accepted c.in-Accepted.length c.in-Accepted.files) = c.in_ok-length.was ∙ ap Ok c.in-Accepted.is in
    let l = lent_length a.work.now a.at.limit (omega arith) in
    let g = embed_told a.host.now a.name.now a.at.target a.at.number in
    rw q
    (ap (with_files c.in-Accepted.files)
    (c.in_ok-length-in-Accepted.ensures.work_after
    ∙ taken_text a.at.limit a.at.opener a.work.now k.new.work c.in-Accepted.length k.result a.at.len g (omega arith) (omega arith) (omega arith) k.ensures.1))
