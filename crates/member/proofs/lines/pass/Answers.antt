-- `member::lines::pass` meets its contract. The invariant: `Passing`, lines passed over from the cursor on. Assumes nothing.
use Rattle.member.proofs.PassedLaws.{passed_none, passing_none, passing_more}
use Rattle.member.proofs.lines.pass.Goals as goal

pub returns-then-state : goal.returns-then-state
returns-then-state c = passed_none c.args.from c.args.end

pub loop-stop-init : goal.loop-stop-init
loop-stop-init c = passing_none c.requires c.args.end

pub loop-stop-preserved : goal.loop-stop-preserved
loop-stop-preserved c = passing_more c.if-state.false c.loop-stop.invariant c.in-Some.ensures c.last_end-last.ensures
