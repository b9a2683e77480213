-- `station::line::line_at` meets its contract: one more line is passed. Assumes nothing.
use Prim.Native.Nat.{◌+◌, ◌-◌}
use mathlib.Core.Path.{◌≡◌}
use native.Mathlib.Omega.{arith}
use Rattle.station.proofs.StationLaws.{line_on, piece_more}
use Rattle.station.proofs.line.line_at.Goals as goal

pub loop-passed-preserved : goal.loop-passed-preserved
loop-passed-preserved c =
    let p = c.piece-line.ensures in
    let e : c.args.n + 1 - (c.loop-passed._passed + 1) ≡ c.args.n + 1 - c.loop-passed._passed - 1 = omega arith in (
      piece_more _ _ _ p.from_le_end.1.1 c.if-line.false p.from_le_end.1.0,
      rw e (line_on _ c.loop-passed.invariant.1 (rw c.if-line.false at p.s_value) (omega arith)),
    )
