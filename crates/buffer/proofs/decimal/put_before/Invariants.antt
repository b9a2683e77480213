-- `buffer::decimal::put_before` meets its contract. The invariant: with m in front of place i, n would stand in front of place e. Assumes nothing.
use Prim.Native.Nat.{◌+◌, ◌≤◌}
use mathlib.Core.Path.{◌≡◌}
use mathlib.Core.List.{◌++◌}
use lib.ListN.{length, drop}
use Rattle.buffer.specs.Decimal.{decimal}
use Rattle.buffer.proofs.decimal.put_before.Given as goal

abbrev pub invariant-loop-m : goal.invariant-loop-m
invariant-loop-m l = record {
  place : l.i ≤ l.e;
  digits : l.i + length (decimal l.n) ≡ l.e + length (decimal l.m);
  bytes : decimal l.m ++ drop l.i l.out ≡ decimal l.n ++ drop l.e l.initial.out;
}

abbrev pub decreases-loop-m : goal.decreases-loop-m
decreases-loop-m l = l.m
