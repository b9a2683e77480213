-- `assemble` meets its contract. Assumes nothing.
use Rattle.std.proofs.lemmas.Result.{err_from_is_err_and}
use native.Mathlib.Omega.{arith}
use lib.ListN.{length}
use Rattle.preparation.proofs.WideLaws.{can_prepare}
use Rattle.assembly.proofs.WholeLaws.{whole_stops, compare-stand, whole_shares, whole-emit, whole-goes}
use Rattle.assembly.proofs.assemble.Goals as goal

pub prepare_all-requires : goal.prepare_all-requires
prepare_all-requires c = let s = c in can_prepare (length s.args.work.now) s.requires.0 (omega arith)

pub table_end-end-requires : goal.table_end-end-requires
table_end-end-requires c = (omega arith, omega arith)

pub compare-requires : goal.compare-requires
compare-requires c = let s = c in let p = c.in_ok-prepare_all.ensures in (compare-stand s.requires.0 p, (omega arith, omega arith))

pub emit_all-requires : goal.emit_all-requires
emit_all-requires c = let s = c in let p = c.in_ok-prepare_all.ensures in whole-emit s.requires.0 p c.compare.new.work c.compare.ensures.work_unchanged s.requires.1.0 (omega arith)

pub returns : goal.returns
returns c = let s = c in
    let p = c.in_ok-prepare_all.ensures in
    let q = rw c.in_default.is at c.compare.ensures.shared_of in
    record { by_index = (λ B n. whole-goes s.requires.0 p c.compare.new.work c.compare.ensures.work_unchanged s.args.url.now q B s.args.limit n _ (c.emit_all.ensures.by_index B n)); assembled_within = c.emit_all.ensures.assembled_within }

pub returns-in-Some : goal.returns-in-Some
returns-in-Some c = let s = c in
    let p = c.in_ok-prepare_all.ensures in
    let q = rw c.in-Some.is at c.compare.ensures.shared_of in
    record { by_index = (λ B n. whole_shares s.requires.0 p s.args.url.now c.in-Some.first c.in-Some.second q.0 q.1 B s.args.limit n); assembled_within = tt }

pub returns-in_err-prepare_all : goal.returns-in_err-prepare_all
returns-in_err-prepare_all c = let s = c in
    let p = err_from_is_err_and c.from_residual.result c.from_residual.ensures.1 in
    rw (p.1, p.2) record { by_index = (λ B n. whole_stops s.args.index.now s.args.contents.now s.args.work.now s.args.members.now s.args.url.now _ (c.in_err-prepare_all.ensures s.args.index.now) B s.args.limit n); assembled_within = tt }
