-- The call `book` meets its contract: what `run` made, given. Assumes nothing.
use native.Mathlib.Omega.{arith}
use Prim.Native.Nat.{ℕ}
use mathlib.Core.List.{List}
use Rattle.give.proofs.GivenLaws.{call_fits, call_gives}
use Rattle.book_call.proofs.book.Goals as goal

pub give-requires : goal.give-requires
give-requires c = let w : List ℕ = c.run-got.new.work in
    call_fits c.run-got.result w c.args.work.now (omega arith) _ c.run-got.ensures.fits

pub returns : goal.returns
returns c = let a = c.args in let r = c.run-got in let g = c.give in
    let w : List ℕ = r.new.work in
    let h =
    call_gives r.result w a.work.now (omega arith) a.out.now _ _ r.ensures.work_after r.ensures.fits g.ensures.out_after g.ensures.work_after in
    record { value = h.0; out_after = h.1.0; work_after = h.1.1 }
