-- `space::lead` meets its contract: the space bytes at the start end at the first other byte. Assumes nothing.
use mathlib.Core.Path.{◌∙◌, sym, refl}
use native.Mathlib.Omega.{arith}
use Rattle.std.proofs.Common.{rules, tests}
use Rattle.std.proofs.lemmas.Iterator.{YieldsList-from_slice}
use Rattle.std.proofs.lemmas.Iterator.Consumers.{count_from_yields_List}
use Rattle.std.proofs.lemmas.Iterator.Search.{YieldsList-from_take_while}
use Rattle.std.proofs.lemmas.List.Folds.{length-prefix_len}
use Rattle.text.specs.Space.{is_space, is_other, lead}
use Rattle.text.proofs.BytesLaws.{first_le}
use Rattle.text.proofs.WordLaws.{first-prefix}
use Rattle.text.proofs.space.lead.Goals as goal

pub returns : goal.returns
unfolding lead
returns c =
    let s = c.args.s.now in
    let t = c.take_while.ensures in
    let e = count_from_yields_List c.take_while.result _ c.count.ensures.ran (YieldsList-from_take_while _ is_space (YieldsList-from_slice s cc) t.closure t.done (λ x b q k. search (rules, tests))) ∙ length-prefix_len is_space s in
    let r = e ∙ sym (first-prefix is_other is_space (λ _. refl) s) in
    (r, omega (arith, r, first_le is_other s))
