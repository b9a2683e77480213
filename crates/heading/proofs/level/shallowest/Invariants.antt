-- `heading::level::shallowest` meets its contract. The invariant: what was found, with the lines that are left, gives the shallowest level of all.
-- Assumes nothing.
use Rattle.std.specs.Prelude.{None}
use mathlib.Core.Path.{◌≡◌}
use Rattle.text.specs.Lines.{pieces}
use Rattle.heading.specs.Walk.{walk_begin, kinds_from}
use Rattle.heading.specs.Level.{shallowest_of}
use Rattle.heading.proofs.level.shallowest.Given as goal

abbrev pub invariant-loop-kind : goal.invariant-loop-kind
invariant-loop-kind l = shallowest_of l.found l.kind-iterator ≡ shallowest_of None (kinds_from walk_begin (pieces l.s))
