-- `emitted::put_next` meets its contract: what stands before the line, and then the line. Assumes nothing.
use mir.Syntax.{w32}
use Rattle.std.proofs.lemmas.Int.{to_z-of_z}
use Rattle.put.proofs.RunningLaws.{over_then}
use Rattle.rewrite.proofs.LinkedLaws.{rewriting_same}
use Rattle.emitted.proofs.EmittedLaws.{next_put}
use Rattle.emitted.proofs.put_next.Goals as goal

pub returns-in_err-put_between-clause-ran : goal.returns-in_err-put_between-clause-ran
returns-in_err-put_between-clause-ran c = rw c.from_residual.ensures (over_then _ c.in_err-put_between.ensures.ran)

pub returns-clause-ran : goal.returns-clause-ran
returns-clause-ran c =
    let p = c.in_ok-put_between.ensures.ran in
    let f = rewriting_same c.requires.stand p c.args.assembly.url.now c.args.dir.now in
    next_put c.requires.able p f (to_z-of_z w32 c.args.shift c.ranges.shift) c.args.line _ c.put_line.result c.put_line.ensures.ran
