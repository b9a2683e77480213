-- Document 01, "Records": the calls fill, assembly and book: what they answer, and both buffers afterwards.
use Rattle.std.specs.Prelude.{ℕ, List, ◌++◌, length, drop, replicate, Result, Ok, Err}
use Rattle.answer.specs.declared.Answer.{Answer}
use Rattle.answer.specs.declared.Refusal.{Refusal}
use Rattle.answer.specs.declared.Answer.TheVariants.{Accepted, NoRegion}
use Rattle.index.specs.Index.{file_of, records, files}
use Rattle.fileset.specs.Members.{members}
use Rattle.fileset.specs.Check.{fill_checked, book_checked}
use Rattle.walk.specs.Steps.{judge}
use Rattle.chains.specs.Chains.{start_at}
use Rattle.walk.specs.Outcome.{Outcome, text, noRegion, refusal, outcome}
use Rattle.chains.specs.Fill.{filled}
use Rattle.assembled.specs.Assemble.{assemble}
use Rattle.book.specs.Book.{members_of}
use Rattle.book.specs.BookWalk.{book}

-- "Order: 1 to 8 ..; then 14 over the list ..; then the walk"
abbrev pub after_checks : Result (Unit {0}) Refusal → Outcome → Outcome
after_checks (Ok tt) o = o
after_checks (Err x) o = refusal x

-- "Acceptance gives length and files taken in"; ""No region" gives nothing more"; "A refusal gives number, place and second place"
abbrev pub answer_of : Outcome → Result Answer Refusal
answer_of (text t n) = Ok (Accepted (length t) n)
answer_of noRegion = (Ok NoRegion)
answer_of (refusal x) = Err x

-- "the output begins with the text or listing and its other bytes are unchanged"; else "the output is unchanged"
abbrev pub output_after : Outcome → List ℕ → List ℕ
output_after (text t n) out = t ++ drop (length t) out
output_after noRegion out = out
output_after (refusal x) out = out

-- "Work is zero after each call."
abbrev pub work_after : List ℕ → List ℕ
work_after work = replicate (length work) 0

-- a fill of the host handed in
unfoldable pub fill_outcome : List ℕ → List ℕ → List ℕ → List ℕ → ℕ → ℕ → ℕ → ℕ → Outcome
fill_outcome index contents name t L B out work =
    after_checks (fill_checked index contents name t L out work) (filled B L 0 (start_at (files index contents) (file_of 0 name t)))

-- an assembly takes nothing in, so no allowance matters
unfoldable pub assemble_outcome : List ℕ → List ℕ → List ℕ → List ℕ → ℕ → ℕ → ℕ → Outcome
assemble_outcome index contents list url L out work =
    after_checks (book_checked index contents list url L out work) (outcome (judge 0 L 0 (assemble url (members_of (files index contents) (members (records index) list)))))

unfoldable pub book_outcome : List ℕ → List ℕ → List ℕ → List ℕ → ℕ → ℕ → ℕ → ℕ → Outcome
book_outcome index contents list url L B out work =
    after_checks (book_checked index contents list url L out work) (outcome (judge B L 0 (book (files index contents) (members (records index) list) url)))
