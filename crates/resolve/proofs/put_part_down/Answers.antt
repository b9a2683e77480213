-- `resolve::put_part_down` meets its contract: the `/` is written before the part's bytes, which stay. Assumes nothing.
use native.Mathlib.Omega.{arith}
use Rattle.text.specs.Bytes.{part}
use Rattle.text.proofs.BytesLaws.{part_full}
use Rattle.resolve.proofs.ResolveLaws.{closed-length, closed_down}
use Rattle.resolve.proofs.put_part_down.Goals as goal

pub returns : goal.returns
returns c =
    let a = c.args in
    let k = c.put_slash-e.ensures in
    let n = part_full a.work.now a.from a.to c.requires.1.1.1 in
    let l = closed-length (part a.from a.to a.work.now) a.at a.end in
    closed_down a.work.now _ _ _ _ _ _ a.from a.to k c.requires.1.0 (omega (arith, k.0, c.requires.0)) c.copy_down.ensures.0
