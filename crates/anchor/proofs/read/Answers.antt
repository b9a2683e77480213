-- `anchor::read` meets its contract: by whether the byte stands and is an underscore. Assumes nothing.
use native.Mathlib.Omega.{arith}
use mathlib.Core.Bool.{false≢true}
use lib.ListN.{get_or}
use lib.Dec.{eqb}
use mathlib.Core.Path.{refl, sym, ◌∙◌}
use borrow.Author.Tests.{ne_eqb}
use Rattle.text.proofs.PatternLaws.{and_left, and_right}
use Rattle.anchor.specs.Anchor.{is_word_last}
use Rattle.anchor.proofs.AnchorLaws.{follows_cut, follows_run, plain-cut, plain-run, plain_other, plain-none}
use Rattle.anchor.proofs.read.Goals as goal

pub returns-then-from : goal.returns-then-from
returns-then-from c = let f = c.args.from in plain-none (is_word_last f) f.markup c.args.text.now f.at f.end (omega arith)

pub returns-then-not-stands : goal.returns-then-not-stands
returns-then-not-stands c =
    let a = c.args in
    let f = a.from in
    let p = sym c.stands.ensures ∙ c.if-not-stands.true in (
      rw c.markup_after.ensures (plain-cut f.markup a.text.now f.at f.end (omega arith) (omega arith) (is_word_last f) p),
      (refl, (refl, (omega arith, ((omega arith, omega arith), λ h. rw c.markup_after.ensures (sym (follows_cut f.markup a.text.now f.at f.end (omega arith) (omega arith) p) ∙ c.requires.1 h))))),
    )

pub returns-then-b-ne95 : goal.returns-then-b-ne95
returns-then-b-ne95 c =
    let a = c.args in
    let f = a.from in
    let p = sym c.stands.ensures ∙ c.if-not-stands.false in (
      rw (c.is_text-shown.ensures, c.markup_after.ensures)
          (plain_other f.markup a.text.now f.at f.end (omega arith) (omega arith) (is_word_last f) f.stays p c.if-b-ne95.true),
      (refl, (refl, (omega arith, ((omega arith, omega arith), λ h. absurd (false≢true (sym (ne_eqb _ 0x5F c.if-b-ne95.true) ∙ and_left _ _ h)))))),
    )

pub run_stays-stays-requires : goal.run_stays-stays-requires
run_stays-stays-requires c =
    let a = c.args in
    let f = a.from in
    ((omega arith, omega arith), λ h. rw c.markup_after.ensures (sym (follows_run f.markup a.text.now f.at f.end (omega arith) (omega arith) c.if-b-ne95.false) ∙ c.requires.1 h))

pub returns : goal.returns
returns c =
    let a = c.args in
    let f = a.from in
    let p = sym c.stands.ensures ∙ c.if-not-stands.false in
    let r = rw c.markup_after.ensures at c.run_stays-stays.ensures in (
      rw (c.is_text-shown.ensures, c.markup_after.ensures)
          (plain-run f.markup a.text.now f.at f.end (omega arith) (omega arith) (is_word_last f) c.run_stays-stays.result p c.if-b-ne95.false r),
      (refl, (refl, (omega arith, ((omega arith, omega arith), λ h. and_right (is_word_last f) _ (sym c.run_stays-stays.ensures ∙ and_right (eqb (get_or a.text.now f.at 0) 0x5F) _ h))))),
    )
