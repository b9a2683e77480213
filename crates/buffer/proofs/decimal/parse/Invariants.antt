-- `buffer::decimal::parse` meets its contract. The invariant: n is the number of the digits passed. Assumes nothing.
use Prim.Native.Nat.{◌^◌, ◌<◌}
use mathlib.Core.Path.{◌≡◌}
use lib.ListN.{drop}
use Rattle.buffer.specs.Decimal.{number_from, number_of}
use Rattle.buffer.proofs.decimal.parse.Given as goal

abbrev pub invariant-loop-b : goal.invariant-loop-b
invariant-loop-b l = (l.n < 10 ^ l.b-index) × (number_from l.n (drop l.b-index l.s) ≡ number_of l.s)
