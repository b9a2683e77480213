-- `name::has_unprinted` meets its contract. The invariant: what was seen, or what is left. Assumes nothing.
use Rattle.std.proofs.Common.{◌≡◌, ◌||◌, drop}
use Rattle.text.specs.Bytes.{any}
use Rattle.index.specs.Index.{is_unprinted}
use Rattle.index.proofs.name.has_unprinted.Given as goal

abbrev pub invariant-loop-byte : goal.invariant-loop-byte
invariant-loop-byte l = (l.hit || any is_unprinted (drop l.byte-index l.s)) ≡ any is_unprinted l.s
