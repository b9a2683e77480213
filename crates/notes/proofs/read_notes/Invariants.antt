-- Each record takes at most its room.
use Rattle.std.proofs.Common.{◌*◌, ◌≤◌, length}
use Rattle.notes.proofs.read_notes.Given as goal

abbrev pub invariant-loop-k : goal.invariant-loop-k
invariant-loop-k g l = (l.indexed ≤ l.k * 298) × (l.end ≤ length l.contents)
