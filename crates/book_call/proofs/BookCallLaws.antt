-- Laws of the call book: its answer by the walk of the book, once the checks pass. Assumes nothing.
use Rattle.std.specs.Prelude.{Result, Ok, Err}
use Prim.Native.Nat.{ℕ, ◌+◌, ◌*◌, ◌≤◌}
use native.Mathlib.Omega.{arith}
use mathlib.Core.Path.{◌≡◌, ap, ◌∙◌}
use mathlib.Core.List.{List}
use lib.ListN.{length}
use Rattle.answer.specs.declared.Answer.{Answer}
use Rattle.answer.specs.declared.Refusal.{Refusal}
use Rattle.fileset.specs.Check.{book_checked}
use Rattle.fileset.proofs.PassedLaws.{book_fit}
use Rattle.index.specs.Index.{File, records, files}
use Rattle.index.proofs.RowsLaws.{files-length}
use Rattle.fileset.proofs.MemberLaws.{members-length}
use Rattle.listed.specs.Files.{AreListed}
use Rattle.listed.proofs.FilesLaws.{are_listed}
use Rattle.fileset.specs.Members.{names, members}
use Rattle.walk.specs.Steps.{judge}
use Rattle.walk.specs.Outcome.{Outcome, refusal, outcome}
use Rattle.book.specs.BookWalk.{book}
use Rattle.book.specs.Calls.{book_outcome}
use Rattle.made.proofs.MakingLaws.{table_fits}
use Rattle.give.specs.Given.{Fits}
use Rattle.give.proofs.GivenLaws.{fits_more}

-- once the checks pass
module _ (index contents list url : List ℕ) (limit out work : ℕ) (p : book_checked index contents list url limit out work ≡ (Ok tt)) where
  pub book_held : (a : Result Answer Refusal) → Fits a limit limit → Fits a out work
  book_held a h =
      let f = book_fit index contents list url limit out work p in
      fits_more a limit out work f.1.0 (omega (arith, table_fits limit (length (records index)) (length (names list)) work f.1.1)) h

  module _ {S : List File} (same : S ≡ files index contents) {lines : List ℕ} (named : lines ≡ members (records index) list) where
    pub can-assemble : length lines ≤ 64 → AreListed (length S) lines × ((1 ≤ limit) × ((length S + length lines + 2) * limit ≤ work))
    can-assemble few =
        let f = book_fit index contents list url limit out work p in
        let n : length S ≡ length (records index) = ap length same ∙ files-length 1 contents (records index) in
        let m : length lines ≡ length (names list) = ap length named ∙ members-length (records index) (names list) in
        (rw same (are_listed index contents list url limit out work p named few), (f.0, rw (n, m) f.1.1))

    pub book-passed : (B : ℕ) {o : Outcome} → o ≡ outcome (judge B limit 0 (book S lines url)) → o ≡ book_outcome index contents list url limit B out work
    unfolding book_outcome
    book-passed B h = rw (p, ← same, ← named) h

pub book-stopped : (index contents list url : List ℕ) (limit B out work : ℕ) {x : Refusal} → Err x ≡ book_checked index contents list url limit out work
    → refusal x ≡ book_outcome index contents list url limit B out work
unfolding book_outcome
book-stopped index contents list url limit B out work e = rw (← e)
