-- `target::anchor_self` meets its contract. Assumes nothing.
use native.Mathlib.Omega.{arith}
use mathlib.Core.Path.{sym}
use Rattle.link.proofs.TargetLaws.{anchor_untouched, anchor_bare, anchor_host, anchor_other}
use Rattle.link.proofs.target.anchor_self.Goals as goal

pub returns-in-Some : goal.returns-in-Some
returns-in-Some c = (anchor_host _ _ _ _ (sym c.in-Some.ensures) c.if-end-target.true (sym c.if-resolves_to.ensures), omega arith)

pub returns-in_default : goal.returns-in_default
returns-in_default c = (anchor_other _ _ _ _ (sym c.in-Some.ensures) (sym c.if-resolves_to.ensures), omega arith)

pub returns-in_default-2 : goal.returns-in_default-2
returns-in_default-2 c = (anchor_bare _ _ _ _ (sym c.in-Some.ensures) c.if-end-target.false, omega arith)

pub returns-in_default-3 : goal.returns-in_default-3
returns-in_default-3 c = (anchor_untouched _ _ _ (sym c.in_default.ensures), omega arith)
