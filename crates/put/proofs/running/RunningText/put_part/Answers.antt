-- `put::running::RunningText::put_part` meets its contract: the part is copied from where the source lies. Assumes nothing.
use native.Mathlib.Omega.{arith}
use Rattle.std.proofs.Common.{◌+◌, refl}
use Rattle.text.proofs.BytesLaws.{part_full}
use Rattle.put.proofs.RunningLaws.{copied}
use Rattle.put.proofs.running.RunningText.put_part.Goals as goal
use Rattle.put.proofs.running.RunningText.put_part.Goals.{then-source, else-source}

pub returns-clause-ran : goal.returns-clause-ran
returns-clause-ran c =
    let able = c.requires.able in
    let within = c.requires.part_within in
    elim c.if-source.branch [
      | then-source w ↦
          rw (w.self-is, w.self2-is) (copied able _ _ within.0 within.1 (omega arith) (rw w.if-source.true w.copy_down-self.ensures.0) (omega arith) refl refl)
      | else-source w ↦
          let n = part_full c.args.self.now.contents.now (c.args.source.start + c.args.a) (c.args.source.start + c.args.e) (omega (arith, rw w.if-source.false at able.inside.1)) in
          rw (w.self-is, w.self2-is) (copied able _ _ within.0 within.1 (omega arith) (rw w.if-source.false w.copy-self.ensures.0) (omega (arith, n, w.copy-self.ensures.1)) refl refl)
    ]
