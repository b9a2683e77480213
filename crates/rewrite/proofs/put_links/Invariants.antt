-- `rewrite::put_links` meets its contract. The invariant: the source is put up to place i. Assumes nothing.
use Rattle.std.proofs.Common.{◌≡◌, ◌-◌}
use Rattle.link.specs.Target.{rewrite_target}
use Rattle.target.specs.Titles.{titles_of}
use Rattle.rewrite.proofs.LinkedLaws.{Linking}
use Rattle.rewrite.proofs.put_links.Given as goal

abbrev pub invariant-loop-link : goal.invariant-loop-link
invariant-loop-link l =
    record {
      linking : Linking (rewrite_target (titles_of l.initial.running l.assembly) l.assembly.url.now l.dir) l.source l.initial.running l.running l.i;
      same_reference : l.running.work.ghost_name ≡ l.initial.running.work.ghost_name;
    }

abbrev pub decreases-loop-link : goal.decreases-loop-link
decreases-loop-link l = l.source.end - l.source.start - l.i
