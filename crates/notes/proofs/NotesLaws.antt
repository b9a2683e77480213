-- The room for a record. Assumes nothing.
use Prim.Native.Nat.{ℕ, ◌≤◌}
use mathlib.Core.List.{List}
use native.Mathlib.Omega.{arith}
use lib.ListN.{length}
use Rattle.buffer.proofs.DecimalLaws.{decimal_le}
use Rattle.station.specs.Station.{record_line}
use Rattle.station.proofs.StationLaws.{record_length}

pub record_room : (name : List ℕ) (start size : ℕ) → length name ≤ 255 → length (record_line name start size) ≤ 298
record_room name start size h = omega (arith, record_length name start size, decimal_le start, decimal_le size)
