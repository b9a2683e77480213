-- `pointer::put_anchor` meets its contract. The invariant: the anchor is put up to the cursor. Assumes nothing.
use mathlib.Core.Path.{◌∙◌}
use mathlib.Core.List.{[], ◌∷◌}
use Rattle.std.specs.Prelude.{None}
use Rattle.put.proofs.RunningLaws.{grown_then, ran_then, reads_on, read_same, left_next, left_over, left_end, left_same}
use Rattle.pointer.proofs.put_anchor.Goals as goal

pub next-requires : goal.next-requires
next-requires c =
    let i = c.loop-byte.invariant in
    rw (c.bytes-in-loop-byte.ensures.text, left_same i.left (reads_on c.requires c.in_ok-put_bytes.ensures.ran)) i.within

pub returns-in_err-put_bytes-2-clause-ran : goal.returns-in_err-put_bytes-2-clause-ran
returns-in_err-put_bytes-2-clause-ran c =
    let p = c.in_ok-put_bytes.ensures.ran in
    let i = c.loop-byte.invariant in
    let n = rw (c.bytes-in-loop-byte.ensures.text, left_same i.left (reads_on c.requires p)) at c.in-Some.ensures in
    rw c.from_residual-in_err-put_bytes-2.ensures
    (ran_then _ _ None p (rw (read_same c.requires p) at (left_over i.left (c.in-Some.byte ∷ []) _ n.0 c.in_err-put_bytes-2.ensures.ran)))

pub loop-byte-preserved : goal.loop-byte-preserved
loop-byte-preserved c =
    let i = c.loop-byte.invariant in
    let n = rw (c.bytes-in-loop-byte.ensures.text, left_same i.left (reads_on c.requires c.in_ok-put_bytes.ensures.ran)) at c.in-Some.ensures in
    record {
      within = n.1.1;
      left = left_next i.left (c.in-Some.byte ∷ []) _ n.0 c.in_ok-put_bytes-2.ensures.ran;
      same_reference = c.in_ok-put_bytes-2.ensures.same_reference ∙ i.same_reference;
    }

pub returns-clause-ran : goal.returns-clause-ran
returns-clause-ran c =
    let p = c.in_ok-put_bytes.ensures.ran in
    let i = c.loop-byte.invariant in
    let n = rw (c.bytes-in-loop-byte.ensures.text, left_same i.left (reads_on c.requires p)) at c.in_default.ensures in
    grown_then p (rw (read_same c.requires p) at (left_end (rw n at i.left)))
