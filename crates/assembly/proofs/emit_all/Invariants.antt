-- `emit_all` meets its contract. The invariant: i members are emitted. Assumes nothing.
use Rattle.std.proofs.Common.{◌≡◌}
use Rattle.assembly.proofs.EmittingLaws.{Emitting}
use Rattle.assembly.proofs.emit_all.Given as goal

abbrev pub invariant-loop-i : goal.invariant-loop-i
invariant-loop-i l =
    record {
      emitting : Emitting l.assembly l.initial.running l.running l.file l.i;
      same_reference : l.running.work.ghost_name ≡ l.initial.running.work.ghost_name;
    }
