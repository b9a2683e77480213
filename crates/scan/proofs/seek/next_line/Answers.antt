-- `scan::seek::next_line` meets its contract: the lines up to the last LF before the place that `skip_blocks` gives are passed, and
-- the line after it is the answer; where that place is the length, all lines are passed.
-- Assumes nothing.
use Prim.Native.Nat.{ℕ, ◌+◌}
use mathlib.Core.Path.{ap}
use native.Mathlib.Omega.{arith}
use Rattle.text.specs.Bytes.{is}
use Rattle.text.specs.Lines.{LF}
use Rattle.text.proofs.BytesLaws.{part_length, last_block}
use Rattle.scan.proofs.SkipLaws.{passed_all, passed-some}
use Rattle.scan.proofs.seek.next_line.Goals as goal

pub returns-then-hint-s : goal.returns-then-hint-s
returns-then-hint-s c = let a = c.args in let k = c.skip_blocks-hint in
    passed_all a.s.now a.a k.result c.if-hint-s.true k.ensures.1.1

pub line-line-requires : goal.line-line-requires
line-line-requires c = let a = c.args in let k = c.skip_blocks-hint in
    let m = part_length a.s.now a.a k.result in
    (omega arith, (k.ensures.1.0, last_block (is LF) a.s.now a.a k.result _ k.ensures.0 k.ensures.1.0 (ap (λ (r : ℕ). a.a + r) c.after_last.ensures.0)))

pub returns : goal.returns
returns c =
    let s = c.args.s.now in
    let a = c.args.a in
    let p = c.skip_blocks-hint.result in
    let b = a + c.after_last.result in
    let l = c.line-line in (
      passed-some s a c.args.n p b c.count_byte.result l.result.end l.result.next c.skip_blocks-hint.ensures.0 c.skip_blocks-hint.ensures.1.1
          (ap (λ (r : ℕ). a + r) c.after_last.ensures.0) c.count_byte.ensures.0 (omega (arith, part_length s a p)) l.ensures.end_value.0 l.ensures.end_value.1,
      omega (arith, part_length s a b),
    )
