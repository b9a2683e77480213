-- `emitted::put_block` meets its contract: what stands before the block, and then the block. Assumes nothing.
use native.Mathlib.Omega.{arith}
use borrow.Author.Tests.{le-leb, lt-leb}
use Rattle.put.proofs.RunningLaws.{grown_none, over_then, read_same, ran_then}
use Rattle.emitted.proofs.put_block.Goals as goal

pub returns-then-to-from-clause-ran : goal.returns-then-to-from-clause-ran
returns-then-to-from-clause-ran c = rw (le-leb c.args.to.line c.args.from.line c.if-to-from.true) (grown_none c.args.running.now c.requires.able.below)

pub returns-in_err-put_between-clause-ran : goal.returns-in_err-put_between-clause-ran
returns-in_err-put_between-clause-ran c =
    rw (c.from_residual.ensures, lt-leb c.args.to.line c.args.from.line (omega (arith, c.if-to-from.false))) (over_then _ c.in_err-put_between.ensures.ran)

pub returns-clause-ran : goal.returns-clause-ran
returns-clause-ran c =
    let p = c.in_ok-put_between.ensures.ran in
    rw (lt-leb c.args.to.line c.args.from.line (omega (arith, c.if-to-from.false)))
    (ran_then _ _ c.put_part.result p (rw (read_same c.requires.able p) at c.put_part.ensures.ran))
