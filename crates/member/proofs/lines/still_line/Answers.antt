-- `member::lines::still_line` meets its contract. Assumes nothing.
use mathlib.Core.Path.{◌≡◌, sym, ◌∙◌}
use mathlib.Core.Bool.{true, false, false≢true}
use borrow.Author.Tests.{ltb-true}
use Rattle.std.proofs.lemmas.Grind.{get_or_default_zero}
use Rattle.text.specs.Bytes.{part, is, any}
use Rattle.member.proofs.PassedLaws.{still_empty, still_other}
use Rattle.member.proofs.lines.still_line.Goals as goal
use Rattle.member.proofs.lines.still_line.Goals.{else-unlinked-via-then-unlinked+else-has, else-unlinked-via-else-unlinked}

pub returns-then-first-eq10 : goal.returns-then-first-eq10
returns-then-first-eq10 c =
    let a = c.args in
    let f = c.in_ok-first.ensures.lookup in
    let h = ltb-true _ _ (sym f.0) in
    still_empty a.s.now a.at h a.unlinked (sym (f.1 ∙ get_or_default_zero a.s.now a.at _ h) ∙ c.if-first-eq10.true)

pub returns : goal.returns
returns c =
    let a = c.args in
    let f = c.find_byte-end in
    let k : a.unlinked ≡ true → any (is 0x5D) (part a.at f.result a.s.now) ≡ false =
    elim c.else-unlinked.branch [
      | else-unlinked-via-then-unlinked+else-has w ↦ λ q. sym w.has.ensures ∙ w.if-has.false
      | else-unlinked-via-else-unlinked w ↦ λ q. absurd (false≢true (sym w.if-unlinked.false ∙ q))
    ]
    in
    let i = c.in_ok-first.ensures.lookup in
    let h = ltb-true _ _ (sym i.0) in
    still_other a.s.now a.at h a.unlinked f.result f.ensures.1 f.ensures.0 (rw (i.1 ∙ get_or_default_zero a.s.now a.at _ h) at (c.may_begin.ensures c.if-may_begin.false)) k
