-- `putting::put_lines` meets its contract. The invariant: the lines before place a are put. Assumes nothing.
use Rattle.std.proofs.Common.{◌≡◌, ◌+◌, ◌-◌}
use Rattle.putting.proofs.LineLaws.{Putting}
use Rattle.putting.proofs.put_lines.Given as goal

abbrev pub invariant-loop-line : goal.invariant-loop-line
invariant-loop-line l =
    record {
      putting : Putting l.embedding.host.now l.embedding.dir.now l.shift l.source l.initial.running l.running l.a l.state;
      same_reference : l.running.work.ghost_name ≡ l.initial.running.work.ghost_name;
    }

abbrev pub decreases-loop-line : goal.decreases-loop-line
decreases-loop-line l = l.source.end - l.source.start + 1 - l.a
