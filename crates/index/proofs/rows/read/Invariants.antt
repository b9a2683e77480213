-- `rows::read` meets its contract. The invariant: how far the index is read, what the rows keep of it, and the lines that are left. Assumes nothing.
use mathlib.Core.Path.{◌≡◌}
use lib.ListN.{drop}
use Rattle.text.specs.Lines.{ended}
use Rattle.index.proofs.ReadLaws.{Upto}
use Rattle.index.proofs.rows.read.Given as goal

abbrev pub invariant-loop-line : goal.invariant-loop-line
invariant-loop-line l = record { read : Upto l.index l.rows.items l.n l.at; left : l.line-iterator ≡ ended (drop l.at l.index) }
