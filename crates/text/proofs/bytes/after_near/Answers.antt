-- `bytes::after_near` meets its contract: the bytes at the end that are not b start behind the last b. Assumes nothing.
use Prim.Native.Nat.{ℕ, ◌-◌}
use mathlib.Core.Path.{◌∙◌, sym, ap}
use mathlib.Core.Bool.{Bool, not}
use mathlib.Core.List.{reverse}
use native.Mathlib.Omega.{arith}
use lib.ListN.{length}
use Rattle.std.proofs.Common.{rules, tests}
use Rattle.std.proofs.lemmas.Iterator.Adapters.{YieldsList-from_rev_slice}
use Rattle.std.proofs.lemmas.Iterator.Consumers.{count_from_yields_List}
use Rattle.std.proofs.lemmas.Iterator.Search.{YieldsList-from_take_while}
use Rattle.std.proofs.lemmas.List.Folds.{length-prefix_len}
use Rattle.text.specs.Bytes.{is}
use Rattle.text.proofs.WordLaws.{not-not, after-suffix}
use Rattle.text.proofs.bytes.after_near.Goals as goal

pub returns : goal.returns
returns c =
    let s = c.args.s.now in
    let f = is c.args.b in
    let g : ℕ → Bool = λ x. not (f x) in
    let t = c.take_while.ensures in
    let e = count_from_yields_List c.take_while.result _ c.count.ensures.ran (YieldsList-from_take_while _ g (YieldsList-from_rev_slice s cc) t.closure t.done (λ x b q k. search (rules, tests))) ∙ length-prefix_len g (reverse s) in
    (ap (λ n. length s - n) e ∙ sym (after-suffix f g (λ x. sym (not-not (f x))) s), omega arith)
