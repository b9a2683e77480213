-- `target::url_length` meets its contract: the slashes at the end start behind the last other byte. Assumes nothing.
use Prim.Native.Nat.{◌-◌}
use mathlib.Core.Path.{◌∙◌, sym, ap, refl}
use mathlib.Core.List.{reverse}
use native.Mathlib.Omega.{arith}
use lib.ListN.{length, take}
use Rattle.std.proofs.Common.{rules, tests}
use Rattle.std.proofs.lemmas.Iterator.Adapters.{YieldsList-from_rev_slice}
use Rattle.std.proofs.lemmas.Iterator.Consumers.{count_from_yields_List}
use Rattle.std.proofs.lemmas.Iterator.Search.{YieldsList-from_take_while}
use Rattle.std.proofs.lemmas.List.Folds.{length-prefix_len}
use Rattle.text.specs.Bytes.{is}
use Rattle.text.proofs.WordLaws.{after-suffix}
use Rattle.path.specs.Path.{SLASH}
use Rattle.link.specs.Target.{not_slash}
use Rattle.link.proofs.target.url_length.Goals as goal

pub returns : goal.returns
returns c =
    let u = c.args.url.now in
    let t = c.take_while.ensures in
    let e = count_from_yields_List c.take_while.result _ c.count.ensures.ran (YieldsList-from_take_while _ (is SLASH) (YieldsList-from_rev_slice u cc) t.closure t.done (λ x b q k. search (rules, tests))) ∙ length-prefix_len (is SLASH) (reverse u) in
    (ap (λ n. take n u) (ap (λ n. length u - n) e ∙ sym (after-suffix not_slash (is SLASH) (λ _. refl) u)), omega arith)
