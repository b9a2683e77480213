-- `resolve::resolves_to` meets its contract. The invariant: the parts found make up the name's bytes from `at` on. Assumes nothing.
use mathlib.Core.Path.{sym, ap, ◌∙◌}
use lib.Seq.{drop-length}
use native.Mathlib.Omega.{arith}
use Rattle.text.specs.Pattern.{equals}
use Rattle.text.proofs.PatternLaws.{equals-drop}
use Rattle.path.proofs.PathLaws.{reached_start, reached_root, reached_not}
use Rattle.resolve.proofs.resolves_to.Goals as goal

pub loop-before-init : goal.loop-before-init
loop-before-init c =
    let a = c.args in
    (omega arith, rw (c.from_end-c.ensures, drop-length a.name.now) (reached_start a.dir.now a.path.now))

pub returns-in_default-find_kept : goal.returns-in_default-find_kept
returns-in_default-find_kept c =
    let f = rw c.in_default-find_kept.is at c.find_kept.ensures in
    sym (reached_not c.loop-before.invariant.1 c.in-Some.ensures c.args.name.now f)

pub returns : goal.returns
returns c =
    let s = c.args.name.now in
    let l = c.loop-before in
    let h = rw c.in_default.is at c.last_part.ensures in
    sym (ap (equals s) (sym (reached_root l.invariant.1 h)) ∙ equals-drop s l.at l.invariant.0)
