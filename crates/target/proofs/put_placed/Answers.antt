-- `target::put_placed` meets its contract. Assumes nothing.
use native.Mathlib.Omega.{arith}
use Rattle.put.specs.Running.{text_of}
use Rattle.target.proofs.TitleLaws.{path-long, placed-long}
use Rattle.target.proofs.put_placed.Goals as goal

pub returns-in-None-clause-ran : goal.returns-in-None-clause-ran
returns-in-None-clause-ran c =
    let a = c.args in
    let now = a.running.now in
    let long = path-long a.dir.now (text_of now a.path) c.resolve_into.new.out (omega (arith, c.resolve_into.auto)) (rw c.bytes.ensures.text at c.in-None.ensures) in
    rw (placed-long c.requires.stand a.assembly.url.now _ (text_of now a.rest) now.contents.now now.work.now long) c.put_far.ensures.ran
