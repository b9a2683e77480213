-- `listing::listing::put_logged` meets its contract. The invariant: the rows of the words that are left, written after those before, are the whole. Assumes nothing.
use Rattle.event_log.specs.Log.{unpacked}
use Rattle.rows.specs.Sheet.{sheet, written}
use lib.ListN.{drop}
use mathlib.Core.List.{map}
use mathlib.Core.Path.{◌≡◌}
use Rattle.listing.proofs.listing.put_logged.Given as goal

abbrev pub invariant-loop-word : goal.invariant-loop-word
invariant-loop-word l =
    written (map unpacked (drop l.word-index l.words)) (sheet l.to l.out) ≡ written (map unpacked l.words) (sheet l.initial.to l.initial.out)
