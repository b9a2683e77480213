-- `shift::ends::blank_ends` meets its contract: a law for each answer. Assumes nothing.
use native.Mathlib.Omega.{arith}
use mathlib.Core.Path.{sym, ◌∙◌}
use Rattle.shift.proofs.EndsLaws.{ends-none, ends-part}
use Rattle.shift.proofs.ends.blank_ends.Goals as goal

pub returns-then-k-eq0 : goal.returns-then-k-eq0
returns-then-k-eq0 c = ends-none c.args.s.now (sym c.kept-k.ensures.0 ∙ omega arith)

pub returns : goal.returns
returns c =
    let s = c.args.s.now in
    let k = c.kept-k in
    let f = c.find_byte in
    ends-part s k.result c.after_last.result f.result k.ensures.0 (omega arith) (rw c.lead-i.ensures.0 at c.after_last.ensures.0) f.ensures.0 f.ensures.1
