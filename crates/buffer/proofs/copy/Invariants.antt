-- `buffer::copy` meets its contract. The invariant: the first j bytes of s are written. Assumes nothing.
use mathlib.Core.Path.{◌≡◌}
use lib.ListN.{take}
use lib.Seq.{sets}
use Rattle.buffer.proofs.copy.Given as goal

abbrev pub invariant-loop-j : goal.invariant-loop-j
invariant-loop-j l = l.out ≡ sets l.initial.out l.at (take l.j l.s)
