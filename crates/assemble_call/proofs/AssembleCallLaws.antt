-- Laws of the call assemble: its answer by what was assembled, once the checks pass. Assumes nothing.
use Rattle.std.specs.Prelude.{Result, Ok, Err}
use Prim.Native.Nat.{ℕ, suc, ◌+◌, ◌*◌, ◌≤◌}
use native.Mathlib.Nat.{suc-mul}
use native.Mathlib.Omega.{arith}
use mathlib.Core.Path.{◌≡◌}
use mathlib.Core.List.{List}
use lib.ListN.{length}
use Rattle.index.specs.Index.{File, records, files}
use Rattle.fileset.specs.Members.{names, members}
use Rattle.fileset.specs.Check.{book_checked}
use Rattle.fileset.proofs.PassedLaws.{book_fit}
use Rattle.walk.specs.Steps.{judge}
use Rattle.walk.specs.Outcome.{Outcome, refusal, outcome}
use Rattle.answer.specs.declared.Refusal.{Refusal}
use Rattle.answer.specs.declared.Answer.{Answer}
use Rattle.assembled.specs.Assemble.{assemble}
use Rattle.listed.specs.Files.{AreListed}
use Rattle.listed.proofs.FilesLaws.{are_listed}
use Rattle.book.specs.Book.{members_of}
use Rattle.book.specs.Calls.{assemble_outcome}
use Rattle.give.specs.Given.{Fits}
use Rattle.give.proofs.GivenLaws.{fits_more}

-- once the checks pass
module _ (index contents list url : List ℕ) (limit out work : ℕ) (p : book_checked index contents list url limit out work ≡ (Ok tt)) where
  assemble-room : (1 ≤ limit) × (limit + limit ≤ work)
  assemble-room =
      let f = book_fit index contents list url limit out work p in
      let n : ℕ = length (records index) + length (names list) in
      let e : length (records index) + length (names list) + 2 ≡ suc (suc n) = omega arith in
      let h : suc (suc n) * limit ≤ work = rw e at f.1.1 in
      (f.0, omega (arith, suc-mul (suc n) limit, suc-mul n limit))

  pub assemble_held : (a : Result Answer Refusal) → Fits a limit limit → Fits a out work
  assemble_held a h = fits_more a limit out work (book_fit index contents list url limit out work p).1.0 (omega (arith, assemble-room.1)) h

  module _ {S : List File} (same : S ≡ files index contents) {lines : List ℕ} (named : lines ≡ members (records index) list) where
    pub can-assemble : length lines ≤ 64 → AreListed (length S) lines × ((1 ≤ limit) × (limit + limit ≤ work))
    can-assemble few = (rw same (are_listed index contents list url limit out work p named few), assemble-room)

    pub assemble-passed : {o : Outcome} → o ≡ outcome (judge 0 limit 0 (assemble url (members_of S lines))) → o ≡ assemble_outcome index contents list url limit out work
    unfolding assemble_outcome
    assemble-passed h = rw (p, ← same, ← named) h

pub assemble-stopped : (index contents list url : List ℕ) (limit out work : ℕ) {x : Refusal} → Err x ≡ book_checked index contents list url limit out work
    → refusal x ≡ assemble_outcome index contents list url limit out work
unfolding assemble_outcome
assemble-stopped index contents list url limit out work e = rw (← e)
