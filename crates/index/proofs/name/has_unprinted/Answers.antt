-- `name::has_unprinted` meets its contract. Assumes nothing.
use Rattle.std.proofs.Common.{◌≡◌, get_or, not, arith, ◌∙◌}
use Rattle.text.proofs.BytesLaws.{any_more}
use Rattle.std.proofs.lemmas.Bool.Decides.{nat_tests}
use Rattle.index.specs.Index.{is_unprinted}
use Rattle.index.proofs.name.has_unprinted.Goals as goal

pub loop-byte-preserved : goal.loop-byte-preserved
loop-byte-preserved c =
    let k : is_unprinted (get_or c.args.s.now c.loop-byte.byte-index 0) ≡ not c.contains.result = grind (arith, nat_tests) in
    rw (← k) (any_more is_unprinted c.args.s.now c.loop-byte.byte-index c.loop-byte.hit (omega arith) ∙ c.loop-byte.invariant)
