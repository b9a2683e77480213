-- `buffer::decimal::parse` meets its contract. The invariant: n is the number of the digits passed. Assumes nothing.
use mathlib.Core.Path.{sym, ◌∙◌}
use native.Mathlib.Omega.{arith}
use Rattle.buffer.proofs.DecimalLaws.{at_other, at_digit, at-end, one_digit_more}
use Rattle.buffer.proofs.decimal.parse.Goals as goal

pub returns-then-not-is_ascii_digit : goal.returns-then-not-is_ascii_digit
returns-then-not-is_ascii_digit c =
    let l = c.loop-b in
    let e = sym c.is_ascii_digit.ensures.value ∙ c.if-not-is_ascii_digit.true in
    sym (at_other _ l.n l.b-index (omega arith) e) ∙ l.invariant.1

pub loop-b-preserved : goal.loop-b-preserved
loop-b-preserved c =
    let l = c.loop-b in
    let s = c.args.s.now in
    let e = sym c.is_ascii_digit.ensures.value ∙ c.if-not-is_ascii_digit.false in
    let on = at_digit s l.n l.b-index (omega arith) e in
    (rw c.from.ensures (one_digit_more l.n l.b-index _ l.invariant.0 e), rw c.from.ensures (sym on ∙ l.invariant.1))

pub returns : goal.returns
returns c =
    let l = c.loop-b in
    sym (at-end _ l.n l.b-index (omega arith)) ∙ l.invariant.1
