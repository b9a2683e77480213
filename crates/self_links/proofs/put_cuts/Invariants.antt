-- `self_links::put_cuts` meets its contract. The invariant: the source without the bytes that go is put up to place i. Assumes nothing.
use Rattle.std.proofs.Common.{◌≡◌, ◌-◌}
use Rattle.self_links.proofs.CuttingLaws.{Cutting}
use Rattle.self_links.proofs.put_cuts.Given as goal

abbrev pub invariant-loop-cut : goal.invariant-loop-cut
invariant-loop-cut l =
    record {
      cutting : Cutting l.embedding.host.now l.embedding.dir.now l.source l.initial.running l.running l.i;
      same_reference : l.running.work.ghost_name ≡ l.initial.running.work.ghost_name;
    }

abbrev pub decreases-loop-cut : goal.decreases-loop-cut
decreases-loop-cut l = l.source.end - l.source.start - l.i
