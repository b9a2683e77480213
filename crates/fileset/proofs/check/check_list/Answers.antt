-- `check::check_list` meets its contract, by the tests in their order. Assumes nothing.
use Rattle.std.specs.Prelude.{◌≡◌, Some}
use native.Mathlib.Omega.{arith}
use mathlib.Core.Path.{sym, ◌∙◌}
use Rattle.fileset.proofs.CheckLaws.{list_sized}
use Rattle.fileset.proofs.check.check_list.Goals as goal

pub returns-in_err-check_sizes-clause-value : goal.returns-in_err-check_sizes-clause-value
returns-in_err-check_sizes-clause-value c =
    let s = c.args in
    let l : c.list_lines.result ≡ Some c.in_ok-lines.lines = grind arith in
    let e = list_sized s.index.text.now s.index.rows.now s.list.now s.sizes.limit s.sizes.output s.sizes.work (sym c.list_lines.ensures ∙ l) c.check_sizes.ensures in
    grind arith

pub returns-in-Some-clause-value : goal.returns-in-Some-clause-value
returns-in-Some-clause-value c =
    let s = c.args in
    let l : c.list_lines.result ≡ Some c.in_ok-lines.lines = grind arith in
    let e = list_sized s.index.text.now s.index.rows.now s.list.now s.sizes.limit s.sizes.output s.sizes.work (sym c.list_lines.ensures ∙ l) c.check_sizes.ensures in
    grind arith

pub returns-clause-value : goal.returns-clause-value
returns-clause-value c =
    let s = c.args in
    let l : c.list_lines.result ≡ Some c.in_ok-lines.lines = grind arith in
    let e = list_sized s.index.text.now s.index.rows.now s.list.now s.sizes.limit s.sizes.output s.sizes.work (sym c.list_lines.ensures ∙ l) c.check_sizes.ensures in
    grind arith
