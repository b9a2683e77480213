-- The proof of the cycle of calls {embed, fill_regions}. With f files of the set not on the chain the measures are 2f and 2f + 1: `fill_regions` calls `embed` at the
-- same chain, and `embed` calls `fill_regions` with one mark more. Assumes nothing.
use Prim.Native.Nat.{◌+◌}
use native.Mathlib.Numerals.{add-one}
use native.Mathlib.Omega.{arith}
use mathlib.Core.Path.{◌∙◌}
use lib.ListN.{take}
use Rattle.std.proofs.lemmas.Result.{err_from_is_err_and}
use Rattle.answer.specs.Answer.{place}
use Rattle.embedding.specs.Embed.{embed_told}
use Rattle.index.specs.FileSets.{files_of}
use Rattle.index.specs.Index.{file_of}
use Rattle.index.proofs.RowsLaws.{few_files, set-file}
use Rattle.filling.proofs.NextLaws.{can_embed, whole_last, whole_barred, whole_on}
use Rattle.filling.proofs.RoomLaws.{lent_length, back_length}
use Rattle.filling.proofs.TakenLaws.{fill_wrong, fill_none, taken_back, taken_file}
use Rattle.fragment.proofs.EmbedLaws.{one_less, two_fit, lent_fits}
use Rattle.fragment.proofs.LoopLaws.{loop_start, loop_on, loop_over}
use Rattle.fragment.proofs.+embed_fill_regions.Goals as goal

pub embed-bounds-longer-file : goal.embed-bounds-longer-file
embed-bounds-longer-file t c = omega (arith, few_files c.args.chain.files, c.requires.1.one)

pub embed-overflow_add-inner : goal.embed-overflow_add-inner
embed-overflow_add-inner t c = omega (arith, few_files c.args.chain.files, c.requires.1.one)

pub embed-overflow_add-to : goal.embed-overflow_add-to
embed-overflow_add-to t c = omega (arith, few_files c.args.chain.files, c.requires.1.one)

pub embed-fill_regions-got-requires : goal.embed-fill_regions-got-requires
embed-fill_regions-got-requires t c =
    let a = c.args in
    let p = c.requires in
    let f = one_less a.chain.files (omega arith) p.1 in
    let r = lent_fits a.chain.files (omega arith) p.1 in
    (omega (arith, c.decreases), omega (arith, lent_length a.work.now a.at.limit (omega arith)))

pub embed-take_in-requires : goal.embed-take_in-requires
embed-take_in-requires t c =
    let a = c.args in
    let p = c.requires in
    let r = two_fit a.chain.files (omega arith) p.1 in
    let l = lent_length a.work.now a.at.limit (omega arith) in
    let k = back_length a.work.now c.fill_regions-got.new.work a.at.limit (omega arith) (omega arith) in
    record { given = c.fill_regions-got.ensures.filled_within; least = p.1.least; most = p.1.most; fits = p.1.fits; room = omega arith }

pub embed-returns-clause-work_after : goal.embed-returns-clause-work_after
embed-returns-clause-work_after t c =
    let a = c.args in
    let p = c.requires in
    let f = c.fill_regions-got in
    let r = two_fit a.chain.files (omega arith) p.1 in
    let l = lent_length a.work.now a.at.limit (omega arith) in
    let opener = place a.at.number a.region.line in
    c.take_in.ensures.work_after
    ∙ taken_back a.at.limit opener a.work.now f.new.work a.opened.length (embed_told a.host.now c.name-name.result.now a.region.target (a.opened.file + 1)) c.text-text.result.now (a.at.used + 1) f.result _
    (omega arith) (omega arith) p.1.fits f.ensures.work_after
    ∙ taken_file a.at.allowance a.at.limit a.at.used (a.at.used + 1) (files_of a.chain.files) a.chain.top.now a.chain.marks a.opened.file _ a.host.now a.region.target opener (take a.opened.length a.work.now)
    (omega (arith, few_files a.chain.files)) (set-file a.chain.files a.opened.file p.1.one c.name-name.ensures c.text-text.ensures) (add-one a.at.used)

pub fill_regions-returns-in_err-survey-clause-work_after : goal.fill_regions-returns-in_err-survey-clause-work_after
fill_regions-returns-in_err-survey-clause-work_after t c =
    let a = c.args in
    let p = err_from_is_err_and c.from_residual.result c.from_residual.ensures.1 in
    rw (p.1, p.2) (fill_wrong a.at.allowance a.at.limit a.at.used (files_of a.chain.files) a.chain.top.now a.chain.marks (file_of a.at.number a.name.now a.s.now) (omega (arith, few_files a.chain.files)) _ (c.in_err-survey.ensures a.name.now))

pub fill_regions-returns-in_default-clause-work_after : goal.fill_regions-returns-in_default-clause-work_after
fill_regions-returns-in_default-clause-work_after t c =
    let a = c.args in
    fill_none a.at.allowance a.at.limit a.at.used (files_of a.chain.files) a.chain.top.now a.chain.marks (file_of a.at.number a.name.now a.s.now) (omega (arith, few_files a.chain.files)) (rw c.in_default.is at (c.in_ok-survey.ensures a.name.now))

pub fill_regions-loop-region-init : goal.fill_regions-loop-region-init
fill_regions-loop-region-init t c =
    let a = c.args in
    rw c.start-cursor.ensures (loop_start (files_of a.chain.files) a.chain.top.now a.chain.marks a.name.now a.s.now a.at a.work.now (omega (arith, few_files a.chain.files)) (rw c.in-Regions.is at (c.in_ok-survey.ensures a.name.now)))

pub fill_regions-returns-in_err-opened-clause-work_after : goal.fill_regions-returns-in_err-opened-clause-work_after
fill_regions-returns-in_err-opened-clause-work_after t c =
    let a = c.args in
    let x = c.loop-region.text in
    let l = c.loop-region.invariant in
    let r = c.from_residual-in_err-opened in
    let p = err_from_is_err_and r.result r.ensures.1 in
    rw (p.1, p.2)
    (whole_barred (files_of a.chain.files) a.chain.top.now a.chain.marks a.s.now a.at x.files (take x.length c.loop-region.work) a.name.now l.running c.in-Some.ensures _ (c.in_err-opened.ensures.opened a.chain.files.contents.now) ∙ l.comes)

pub fill_regions-embed-requires : goal.fill_regions-embed-requires
fill_regions-embed-requires t c =
    let a = c.args in
    let x = c.loop-region.text in
    let l = c.loop-region.invariant in
    let o = c.in_ok-opened in (
      omega (arith, c.decreases),
      can_embed (files_of a.chain.files) a.chain.top.now a.chain.marks a.s.now a.at x.files (take x.length c.loop-region.work) c.in-Some.ensures _ o.opened.file o.opened.length _ (o.ensures.opened a.chain.files.contents.now) o.ensures.opened_within (omega (arith, l.kept, c.requires)),
    )

pub fill_regions-returns-in_err-text-clause-work_after : goal.fill_regions-returns-in_err-text-clause-work_after
fill_regions-returns-in_err-text-clause-work_after t c =
    let a = c.args in
    let x = c.loop-region.text in
    let l = c.loop-region.invariant in
    let o = c.in_ok-opened in
    let r = c.from_residual-in_err-text in
    let p = err_from_is_err_and r.result r.ensures.1 in
    rw (p.1, p.2)
    (loop_over (files_of a.chain.files) a.chain.top.now a.chain.marks a.name.now a.s.now a.at c.in-Some.behind _ l.comes
    (whole_on (files_of a.chain.files) a.chain.top.now a.chain.marks a.s.now a.at x.files (take x.length c.loop-region.work) a.name.now l.running c.in-Some.ensures _ o.opened.file (o.ensures.opened a.chain.files.contents.now))
    c.in_err-text.ensures.work_after)

pub fill_regions-loop-region-preserved : goal.fill_regions-loop-region-preserved
fill_regions-loop-region-preserved t c =
    let a = c.args in
    let x = c.loop-region.text in
    let l = c.loop-region.invariant in
    let o = c.in_ok-opened in
    loop_on (files_of a.chain.files) a.chain.top.now a.chain.marks a.name.now a.s.now a.at c.in-Some.behind _ l.comes
    (whole_on (files_of a.chain.files) a.chain.top.now a.chain.marks a.s.now a.at x.files (take x.length c.loop-region.work) a.name.now l.running c.in-Some.ensures _ o.opened.file (o.ensures.opened a.chain.files.contents.now))
    (omega (arith, l.kept)) c.in-Some.ensures.next c.in_ok-text.ensures.text_within c.in_ok-text.ensures.work_after

pub fill_regions-returns-clause-work_after : goal.fill_regions-returns-clause-work_after
fill_regions-returns-clause-work_after t c =
    let a = c.args in
    let x = c.loop-region.text in
    let l = c.loop-region.invariant in
    c.put_last.ensures.work_after
    ∙ whole_last (files_of a.chain.files) a.chain.top.now a.chain.marks a.s.now a.at x.files (take x.length c.loop-region.work) a.name.now l.running c.in_default-next_host.ensures ∙ l.comes
