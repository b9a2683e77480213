-- `space::block_has_other` meets its contract: a fold of "or" is `any`. Assumes nothing.
use mathlib.Core.Path.{◌∙◌}
use mathlib.Core.Bool.{◌||◌}
use Rattle.std.proofs.Common.{rules, tests}
use Rattle.std.proofs.lemmas.Iterator.{YieldsList-from_slice}
use Rattle.std.proofs.lemmas.Iterator.Consumers.{fold_from_yields_List}
use Rattle.text.specs.Space.{is_space, is_other}
use Rattle.text.proofs.WordLaws.{fold_any}
use Rattle.text.proofs.space.block_has_other.Goals as goal

pub returns : goal.returns
unfolding is_space
returns c =
    fold_from_yields_List _ (λ a x. a || is_other x) _ _ c.fold.ensures.ran (YieldsList-from_slice c.args.block.now cc) (λ a x b q k. search (rules, tests))
    ∙ fold_any is_other c.args.block.now
