-- `ascii::wide_line` meets its contract: where a byte is 80 hex or above, its line is 1 and the LFs before it. Assumes nothing.
use Rattle.std.specs.Prelude.{Some}
use Prim.Native.Nat.{ℕ, ◌+◌, ◌<◌}
use mathlib.Core.Path.{sym, ap, ◌∙◌}
use lib.ListN.{length, take}
use lib.Seq.{length-take-le}
use native.Mathlib.Omega.{arith}
use Rattle.text.specs.Bytes.{is, first, count}
use Rattle.text.specs.Lines.{LF}
use Rattle.text.specs.Ascii.{is_wide}
use Rattle.text.proofs.AsciiLaws.{wide_none, wide_some}
use Rattle.text.proofs.ascii.wide_line.Goals as goal

pub returns-then-p-s : goal.returns-then-p-s
returns-then-p-s c = sym (wide_none 1 c.args.s.now (sym c.find_wide-p.ensures.0 ∙ c.if-p-s.true))

pub slice_bounds-count_byte-end : goal.slice_bounds-count_byte-end
slice_bounds-count_byte-end c =
    let p = c.find_wide-p in
    sym (length-take-le p.result c.args.s.now p.ensures.1)

pub overflow_add-result : goal.overflow_add-result
overflow_add-result c =
    let p = c.find_wide-p in
    omega (arith, length-take-le p.result c.args.s.now p.ensures.1)

pub returns : goal.returns
returns c =
    let s = c.args.s.now in
    let p = c.find_wide-p in
    let h : first is_wide s < length s = omega arith in
    ap (λ (n : ℕ). Some (1 + n)) (c.count_byte.ensures.0 ∙ ap (λ (n : ℕ). count (is LF) (take n s)) p.ensures.0) ∙ sym (wide_some 1 s h)
