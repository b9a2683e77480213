-- `buffer::copy` meets its contract. The invariant: the first j bytes of s are written. Assumes nothing.
use Prim.Native.Nat.{ℕ, ◌+◌}
use mathlib.Core.Path.{refl, ◌∙◌, ap}
use mathlib.Core.List.{List}
use native.Mathlib.Omega.{arith}
use lib.ListN.{get_or, set}
use lib.Seq.{take_all}
use Rattle.buffer.proofs.BufferLaws.{sets_more}
use Rattle.buffer.proofs.copy.Goals as goal

pub loop-j-preserved : goal.loop-j-preserved
loop-j-preserved c = let a = c.args in let l = c.loop-j in
    ap (λ (x : List ℕ). set x (a.at + l.j) (get_or a.s.now l.j 0)) l.invariant ∙ sets_more a.out.now a.s.now a.at l.j (omega arith)

pub returns : goal.returns
returns c = let l = c.loop-j in (rw (take_all l.j c.args.s.now (omega arith)) at l.invariant, refl)
