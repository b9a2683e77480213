-- `space::is_blank` meets its contract. Assumes nothing.
use Rattle.text.specs.Space.{is_blank}
use Rattle.text.proofs.space.is_blank.Goals as goal

pub returns : goal.returns
unfolding is_blank
returns c = cc
