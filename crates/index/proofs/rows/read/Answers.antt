-- `rows::read` meets its contract. Assumes nothing.
use Rattle.std.proofs.Common.{◌≡◌, Some, sym, ◌∙◌, arith}
use Rattle.index.proofs.ReadLaws.{read_turn, lines_more, told_all, push_ok}
use Rattle.index.proofs.rows.read.Goals as goal

pub loop-line-preserved : goal.loop-line-preserved
loop-line-preserved c =
    let l = c.loop-line.invariant in
    let line = c.in-Some.ensures.steps in
    let is-record : c.read_line.result ≡ Some c.in_ok-fields.fields = grind arith in
    record {
      read = read_turn l.read l.left line (sym c.read_line.ensures ∙ is-record) (λ few. push_ok _ _ (c.try_push.ensures.variant.1 few) c.try_push.ensures.ok);
      left = lines_more l.read l.left line;
    }

pub returns-clause-told : goal.returns-clause-told
returns-clause-told c = let l = c.loop-line.invariant in told_all l.read l.left c.in-None.ensures.steps.0 c.if-at-index.false
