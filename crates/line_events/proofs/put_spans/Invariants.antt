-- `line_events::put_spans` meets its contract. The invariant: what is left to read at place i of the line, put after what was put so far, is the whole.
use Prim.Native.Nat.{◌-◌, ◌≤◌}
use mathlib.Core.Path.{◌≡◌}
use lib.ListN.{length}
use Rattle.event_log.specs.Sink.{held}
use Rattle.line_events.proofs.SpanLaws.{Left}
use Rattle.line_events.proofs.put_spans.Given as goal

abbrev pub invariant-markers : goal.invariant-markers
invariant-markers l =
    (l.i ≤ length l.line.bytes.now)
    × ((l.sink.log.ghost_name ≡ l.initial.sink.log.ghost_name)
    × ((l.sink.out.ghost_name ≡ l.initial.sink.out.ghost_name)
    × Left l.line.bytes.now l.n l.line.at l.i (held l.initial.sink) (held l.sink)))

abbrev pub decreases-markers : goal.decreases-markers
decreases-markers l = length l.line.bytes.now - l.i
