-- `survey::survey` meets its contract. The invariant: what a scan from place a on finds, with the regions found so far, gives the whole survey. Assumes nothing.
use mathlib.Core.Path.{◌≡◌, sym, ap, ◌∙◌}
use native.Mathlib.Omega.{arith}
use Rattle.scan.specs.Scan.{scan}
use Rattle.survey.proofs.SurveyLaws.{survey_on, survey_wrong, survey_end_lem, survey_scanned, closes-not}
use Rattle.survey.specs.Surveys.{closes}
use Rattle.survey.proofs.survey.Goals.{in-Closes, in_default-matches}
use Rattle.survey.proofs.survey.Goals as goal

pub loop-line-init : goal.loop-line-init
unfolding scan
loop-line-init c = (omega arith, (omega arith, rw c.begin-state.ensures))

pub returns-in-Some-refusal_at : goal.returns-in-Some-refusal_at
returns-in-Some-refusal_at c =
    let s = c.args.s.now in
    let l = c.loop-line in
    λ name.
    survey_wrong s l.cursor.at l.cursor.line _ _ _ _ c.args.file l.any l.state _ l.invariant.1.1 c.in-Some.ensures (rw (c.within.ensures.0, c.within.ensures.1) at c.kind_at-kind.ensures) (sym c.refusal_at.ensures ∙ c.in-Some-refusal_at.is)
    ∙ survey_scanned c.args.file name s

pub loop-line-preserved : goal.loop-line-preserved
loop-line-preserved c =
    let s = c.args.s.now in
    let l = c.loop-line in
    let h = c.in-Some.ensures in
    let any : c.match-matches.matches ≡ closes c.kind_at-kind.result =
    elim c.match-matches.branch [
      | in-Closes w ↦ w.matches-is ∙ ap closes (sym w.in-Closes.is)
      | in_default-matches w ↦ w.matches-is ∙ sym (closes-not _ (λ q. w.in_default-matches.not-Closes q))
    ] in
    let turn = survey_on s l.cursor.at l.cursor.line _ _ _ _ c.args.file l.any l.state _ l.invariant.1.1 h (rw (c.within.ensures.0, c.within.ensures.1) at c.kind_at-kind.ensures) (sym c.refusal_at.ensures ∙ c.in_default-refusal_at.is) any c.after-state.ensures in
    (omega arith, (omega arith, turn))

pub returns : goal.returns
returns c =
    let s = c.args.s.now in
    let l = c.loop-line in
    λ name. c.at_end.ensures ∙ survey_end_lem s l.cursor.at l.cursor.line 0 0 0 0 c.args.file l.any l.state _ l.invariant.1.1 (rw c.in_default.is at c.next_line.ensures) ∙ survey_scanned c.args.file name s
