-- `buffer::copy_down` meets its contract. The invariant: the first j bytes of the part are written. Assumes nothing.
use mathlib.Core.Path.{◌≡◌}
use lib.ListN.{take}
use lib.Seq.{sets}
use Rattle.text.specs.Bytes.{part}
use Rattle.buffer.proofs.copy_down.Given as goal

abbrev pub invariant-loop-j : goal.invariant-loop-j
invariant-loop-j l = l.out ≡ sets l.initial.out l.at (take l.j (part l.from l.to l.initial.out))
