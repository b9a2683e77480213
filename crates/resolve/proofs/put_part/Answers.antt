-- `resolve::put_part` meets its contract: the `/` first, then the part before it. Assumes nothing.
use native.Mathlib.Omega.{arith}
use Rattle.resolve.proofs.ResolveLaws.{closed-length, closed_on}
use Rattle.resolve.proofs.put_part.Goals as goal

pub returns : goal.returns
returns c =
    let a = c.args in
    let k = c.put_slash-e.ensures in
    let n = closed-length a.part.now a.at a.end in
    rw c.copy.ensures.0 (closed_on a.part.now _ _ _ _ _ _ k (omega (arith, k.0)))
