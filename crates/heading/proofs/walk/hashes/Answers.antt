-- `walk::hashes` meets its contract: the `#` at the start are those that are taken and counted. Assumes nothing.
use mathlib.Core.Path.{sym, ◌∙◌}
use native.Mathlib.Omega.{arith}
use Rattle.std.proofs.Common.{rules, tests}
use Rattle.std.proofs.lemmas.Iterator.{YieldsList-from_slice}
use Rattle.std.proofs.lemmas.Iterator.Consumers.{count_from_yields_List}
use Rattle.std.proofs.lemmas.Iterator.Search.{YieldsList-from_take_while}
use Rattle.std.proofs.lemmas.List.Folds.{length-prefix_len}
use Rattle.text.specs.Bytes.{is}
use Rattle.heading.proofs.WalkLaws.{hashes_le, hashes-prefix}
use Rattle.heading.proofs.walk.hashes.Goals as goal

pub returns : goal.returns
returns c =
    let l = c.args.line.now in
    let t = c.take_while.ensures in
    let e =
    count_from_yields_List c.take_while.result _ c.count.ensures.ran (YieldsList-from_take_while _ (is 0x23) (YieldsList-from_slice l cc) t.closure t.done (λ x b q k. search (rules, tests)))
    ∙ length-prefix_len (is 0x23) l
    ∙ sym (hashes-prefix l) in
    (e, omega (arith, e, hashes_le l))
