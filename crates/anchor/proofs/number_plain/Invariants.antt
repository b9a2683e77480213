-- `number_plain` meets its contract. The invariant: going on with what is left of the anchor gives the number, and no underscore is left. Assumes nothing.
use Rattle.std.proofs.Common.{◌≡◌, ◌+◌, ◌<◌, false}
use Rattle.text.specs.Bytes.{part, is, any}
use Rattle.anchor.specs.Anchor.{anchor_of, number_from}
use Rattle.anchor.proofs.AnchorLaws.{plain_in}
use Rattle.anchor.proofs.number_plain.Given as goal

abbrev pub invariant-loop-b : goal.invariant-loop-b
invariant-loop-b l =
    (l.n < 0x100_0000_0000)
    × ((any (is 0x5F) (part (l.fn.from.at + l.b-index) l.fn.from.end l.text) ≡ false)
    × (number_from l.n (anchor_of (plain_in false l.markup (part (l.fn.from.at + l.b-index) l.fn.from.end l.text)))
    ≡ number_from 0 (anchor_of (plain_in false l.fn.from.markup (part l.fn.from.at l.fn.from.end l.text)))))
