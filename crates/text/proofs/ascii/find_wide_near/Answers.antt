-- `ascii::find_wide_near` meets its contract: the position, or the length where there is none, is `first`. Assumes nothing.
use mathlib.Core.Path.{◌∙◌, ap}
use native.Mathlib.Omega.{arith}
use lib.ListN.{length}
use Rattle.std.specs.Option.{unwrap_or}
use Rattle.std.proofs.Common.{rules, tests}
use Rattle.std.proofs.lemmas.Iterator.{YieldsList-from_slice}
use Rattle.std.proofs.lemmas.Iterator.Search.{position_from_yields_List}
use Rattle.text.specs.Ascii.{is_wide}
use Rattle.text.proofs.BytesLaws.{first_le}
use Rattle.text.proofs.WordLaws.{first-position}
use Rattle.text.proofs.ascii.find_wide_near.Goals as goal

pub returns : goal.returns
returns c =
    let s = c.args.s.now in
    let f = is_wide in
    let e = position_from_yields_List f _ _ _ c.position.ensures.ran (YieldsList-from_slice s cc) (λ x b q k. search (rules, tests)) in
    let r = c.unwrap_or.ensures ∙ ap (λ o. unwrap_or o (length s)) e ∙ first-position f s in
    (r, omega (arith, r, first_le f s))
