-- `scan::seek::has_trace` meets its contract. The invariant: what was seen, or what is left.
-- Assumes nothing.
use mathlib.Core.Path.{sym, ◌∙◌}
use native.Mathlib.Omega.{arith}
use Rattle.scan.specs.Skip.{trace}
use Rattle.scan.proofs.SkipLaws.{three_more, three-end}
use Rattle.scan.proofs.seek.has_trace.Goals as goal

pub loop-j-preserved : goal.loop-j-preserved
loop-j-preserved c = three_more trace c.args.s.now c.loop-j.j c.loop-j.hit (omega arith) ∙ c.loop-j.invariant

pub returns : goal.returns
returns c = sym (three-end trace c.args.s.now c.loop-j.j c.loop-j.hit (omega arith)) ∙ c.loop-j.invariant
