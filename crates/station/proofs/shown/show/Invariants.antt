-- `station::shown::show` meets its contract. The invariant: the bytes before an index are shown. Assumes nothing.
use Rattle.station.specs.Station.{shown_up_to}
use mathlib.Core.Path.{◌≡◌}
use Rattle.station.proofs.shown.show.Given as goal

abbrev pub invariant-loop-b : goal.invariant-loop-b
invariant-loop-b l = l.s ≡ shown_up_to l.b-index l.initial.s
