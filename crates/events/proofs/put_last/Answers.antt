-- `events::put_last` meets its contract. Assumes nothing.
use Rattle.events.proofs.EventLaws.{last_open, last_shut}
use Rattle.text.proofs.LineLaws.{lines-length}
use Rattle.text.proofs.BytesLaws.{rest}
use Rattle.text.specs.Lines.{lines_from}
use lib.ListN.{length, drop}
use native.Mathlib.Omega.{arith}
use mathlib.Core.Path.{◌≡◌}
use Prim.Native.Nat.{◌+◌}
use Rattle.events.proofs.put_last.Goals as goal

pub returns-then-state-clause-held : goal.returns-then-state-clause-held
returns-then-state-clause-held c =
    let a = c.args in
    let k : a.n + c.line_count.result ≡ a.n + length (lines_from a.a (drop a.a a.s.now)) = omega (arith, rw rest at c.line_count.ensures.0, lines-length (drop a.a a.s.now) 0 a.a) in
    last_open _ _ _ _ c.put_unclosed.ensures.held c.if-state.true (rw k at c.put.ensures.held)

pub returns-else-state-clause-held : goal.returns-else-state-clause-held
returns-else-state-clause-held c = last_shut _ _ _ _ c.put_unclosed.ensures.held c.if-state.false
