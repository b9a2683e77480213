-- `assemble_made` meets its contract: the members are made, and then assembled. Assumes nothing.
use Rattle.std.specs.Prelude.{Ok, Err}
use Rattle.std.proofs.lemmas.Result.{err_from_is_err_and}
use native.Mathlib.Omega.{arith}
use Prim.Native.Nat.{ℕ}
use mathlib.Core.Path.{◌≡◌, sym, ap}
use mathlib.Core.List.{List}
use lib.ListN.{length}
use Rattle.index.specs.Index.{File}
use Rattle.walk.specs.Steps.{refused}
use Rattle.walk.specs.Outcome.{outcome}
use Rattle.index.specs.FileSets.{files_of}
use Rattle.members.specs.Members.{all_files}
use Rattle.made.specs.Made.{judged_all}
use Rattle.made.proofs.MakingLaws.{slot_le, table_fits}
use Rattle.made.proofs.BookLaws.{book-stopped}
use Rattle.book_walk.proofs.BookWalkLaws.{made_read}
use Rattle.book_walk.proofs.assemble_made.Goals as goal

pub overflow_add-table : goal.overflow_add-table
overflow_add-table c = omega (arith, c.requires.0.lie.few)

pub overflow_mul-table : goal.overflow_mul-table
overflow_mul-table c = let a = c.args in omega (arith, table_fits a.limit (length (files_of a.files)) (length a.members.now) (length a.work.now) c.requires.0.room, c.well_formed)

pub assemble-requires : goal.assemble-requires
assemble-requires c = let a = c.args in let p = c.requires in
    (c.put_made.ensures.all_lie, (omega (arith, slot_le a.limit 0 (length a.members.now) (omega arith)), (p.1, omega (arith, table_fits a.limit (length (files_of a.files)) (length a.members.now) (length a.work.now) p.0.room))))

pub returns-in_err-taken-clause-work_after : goal.returns-in_err-taken-clause-work_after
returns-in_err-taken-clause-work_after c = let a = c.args in
    let S : List File = files_of a.files in
    let hs : List File = all_files a.files.index.now a.files.contents.now a.work.now a.members.now in
    let q = err_from_is_err_and c.from_residual.result c.from_residual.ensures.1 in
    let e : judged_all a.allowance a.limit S hs ≡ refused _ = c.in_err-taken.ensures.made_of in
    rw (q.1, q.2) (ap outcome (sym (book-stopped a.allowance a.limit S hs a.url.now e)))

pub returns-in_err-length-clause-work_after : goal.returns-in_err-length-clause-work_after
returns-in_err-length-clause-work_after c = let a = c.args in
    let S : List File = files_of a.files in
    let hs : List File = all_files a.files.index.now a.files.contents.now a.work.now a.members.now in
    let w : List ℕ = c.assemble.new.work in
    let q = err_from_is_err_and c.from_residual-in_err-length.result c.from_residual-in_err-length.ensures.1 in
    rw (q.1, q.2) (made_read a.allowance a.limit S hs a.url.now (Err _) w c.in_ok-taken.ensures.made_of c.in_err-length.ensures.by_index)

pub returns-clause-work_after : goal.returns-clause-work_after
returns-clause-work_after c = let a = c.args in
    let S : List File = files_of a.files in
    let hs : List File = all_files a.files.index.now a.files.contents.now a.work.now a.members.now in
    let w : List ℕ = c.assemble.new.work in
    made_read a.allowance a.limit S hs a.url.now (Ok c.in_ok-length.length) w c.in_ok-taken.ensures.made_of c.in_ok-length.ensures.by_index
