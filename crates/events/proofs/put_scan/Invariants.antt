-- `events::put_scan` meets its contract. The invariant: what a scan from place a on finds, put after what was put so far, is the whole. Assumes nothing.
use Rattle.event_log.specs.Sink.{held, put_all}
use Rattle.scan.specs.Scan.{scan, scan_from}
use Rattle.text.specs.Lines.{lines_from}
use lib.ListN.{length, drop}
use mathlib.Core.Path.{◌≡◌}
use Prim.Native.Nat.{◌+◌, ◌-◌, ◌≤◌}
use Rattle.events.proofs.put_scan.Given as goal

abbrev pub invariant-loop-line : goal.invariant-loop-line
invariant-loop-line l =
    (l.a ≤ length l.s)
    × ((l.n ≤ l.a)
    × ((l.sink.log.ghost_name ≡ l.initial.sink.log.ghost_name)
    × ((l.sink.out.ghost_name ≡ l.initial.sink.out.ghost_name)
    × (put_all (scan_from l.state (l.n + 1) (lines_from l.a (drop l.a l.s))) (held l.sink) ≡ put_all (scan l.s) (held l.initial.sink)))))

abbrev pub decreases-loop-line : goal.decreases-loop-line
decreases-loop-line l = length l.s - l.a
