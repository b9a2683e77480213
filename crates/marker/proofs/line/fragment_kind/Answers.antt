-- `marker::line::fragment_kind` meets its contract: no fragment marker stands before the first marker. Assumes nothing.
use native.Mathlib.Omega.{arith}
use mathlib.Core.Path.{◌≡◌, sym, ◌∙◌}
use Rattle.text.specs.Pattern.{bytes, contains}
use Rattle.text.proofs.PatternLaws.{contains_longer}
use Rattle.marker.specs.Marker.{fragment_kind, OPEN, OPEN-FRAGMENT}
use Rattle.marker.proofs.line.fragment_kind.Goals.{After-contains}
use Rattle.marker.proofs.line.fragment_kind.Goals as goal

-- the line holds a fragment marker where one stands from its first marker on
sought : (c : After-contains) → contains OPEN-FRAGMENT c.args.line.bytes.now ≡ c.contains.result
sought c =
    contains_longer OPEN (bytes "fragment:") c.args.line.bytes.now c.args.i c.requires
    ∙ sym (rw c.from.ensures.1 at c.contains.ensures)

pub returns-in-None : goal.returns-in-None
unfolding fragment_kind
returns-in-None c = grind (arith, sought (goal.at.returns-in-None c).After-contains)

pub returns-in-None-2 : goal.returns-in-None-2
unfolding fragment_kind
returns-in-None-2 c = grind (arith, sought (goal.at.returns-in-None-2 c).After-contains)
