-- `bytes::block_has` meets its contract: a fold of "or" is `any`. Assumes nothing.
use mathlib.Core.Path.{◌∙◌}
use mathlib.Core.Bool.{◌||◌}
use Rattle.std.proofs.Common.{rules, tests}
use Rattle.std.proofs.lemmas.Iterator.{YieldsList-from_slice}
use Rattle.std.proofs.lemmas.Iterator.Consumers.{fold_from_yields_List}
use Rattle.text.specs.Bytes.{is}
use Rattle.text.proofs.WordLaws.{fold_any}
use Rattle.text.proofs.bytes.block_has.Goals as goal

pub returns : goal.returns
returns c =
    fold_from_yields_List _ (λ a x. a || is c.args.b x) _ _ c.fold.ensures.ran (YieldsList-from_slice c.args.block.now cc) (λ a x b q k. search (rules, tests))
    ∙ fold_any (is c.args.b) c.args.block.now
