-- `space::kept_near` meets its contract: the space bytes at the end start behind the last other byte. Assumes nothing.
use Prim.Native.Nat.{◌-◌}
use mathlib.Core.Path.{◌∙◌, sym, ap, refl}
use mathlib.Core.List.{reverse}
use native.Mathlib.Omega.{arith}
use lib.ListN.{length}
use Rattle.std.proofs.Common.{rules, tests}
use Rattle.std.proofs.lemmas.Iterator.Adapters.{YieldsList-from_rev_slice}
use Rattle.std.proofs.lemmas.Iterator.Consumers.{count_from_yields_List}
use Rattle.std.proofs.lemmas.Iterator.Search.{YieldsList-from_take_while}
use Rattle.std.proofs.lemmas.List.Folds.{length-prefix_len}
use Rattle.text.specs.Space.{is_space, is_other, kept}
use Rattle.text.proofs.WordLaws.{after-suffix}
use Rattle.text.proofs.space.kept_near.Goals as goal

pub returns : goal.returns
unfolding kept
returns c =
    let s = c.args.s.now in
    let t = c.take_while.ensures in
    let e = count_from_yields_List c.take_while.result _ c.count.ensures.ran (YieldsList-from_take_while _ is_space (YieldsList-from_rev_slice s cc) t.closure t.done (λ x b q k. search (rules, tests))) ∙ length-prefix_len is_space (reverse s) in
    (ap (λ n. length s - n) e ∙ sym (after-suffix is_other is_space (λ _. refl) s), omega arith)
