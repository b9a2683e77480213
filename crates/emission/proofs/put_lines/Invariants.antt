-- `emission::put_lines` meets its contract. The invariant: the lines before the cursor are put. Assumes nothing.
use Rattle.std.proofs.Common.{◌≡◌, ◌+◌, ◌-◌}
use Rattle.link.specs.Target.{rewrite_target}
use Rattle.target.specs.Titles.{titles_of}
use Rattle.emission.proofs.PuttingLaws.{Putting}
use Rattle.emission.proofs.put_lines.Given as goal

abbrev pub invariant-loop-running : goal.invariant-loop-running
invariant-loop-running l =
    record {
      putting : Putting (rewrite_target (titles_of l.initial.running l.assembly) l.assembly.url.now l.dir) l.shift l.source l.initial.running l.running l.cursor l.titled;
      same_reference : l.running.work.ghost_name ≡ l.initial.running.work.ghost_name;
    }

abbrev pub decreases-loop-running : goal.decreases-loop-running
decreases-loop-running l = l.source.end - l.source.start + 1 - l.cursor.at
