-- What each call promises: its answer as six numbers, and the buffers after it. These are the contracts of the C functions.
use Rattle.std.specs.Prelude.{ℕ, List, ◌≡◌, length}
use Rattle.answer.specs.Answer.{numbers as numbers_of}
use Rattle.walk.specs.Outcome.{Outcome}
use Rattle.listing.specs.ScanCall.{answer_of as scanned, output_of}
use Rattle.book.specs.Calls.{answer_of, output_after, work_after, fill_outcome, assemble_outcome, book_outcome}

-- a call that comes to o: out and work are lent, and out' and work' are what they hold afterwards
pub record Gives (o : Outcome) (out work answer out' work' : List ℕ) : Type 0 where
  pub numbers : answer ≡ numbers_of (answer_of o)
  pub output : out' ≡ output_after o out
  pub cleared : work' ≡ work_after work

abbrev pub FillCall : (index contents name text : List ℕ) (L B : ℕ) (out work answer out' work' : List ℕ) → Type 0
FillCall index contents name text L B out work answer out' work' = Gives (fill_outcome index contents name text L B (length out) (length work)) out work answer out' work'

abbrev pub AssembleCall : (index contents list url : List ℕ) (L : ℕ) (out work answer out' work' : List ℕ) → Type 0
AssembleCall index contents list url L out work answer out' work' = Gives (assemble_outcome index contents list url L (length out) (length work)) out work answer out' work'

abbrev pub BookCall : (index contents list url : List ℕ) (L B : ℕ) (out work answer out' work' : List ℕ) → Type 0
BookCall index contents list url L B out work answer out' work' = Gives (book_outcome index contents list url L B (length out) (length work)) out work answer out' work'

-- a scan has no work buffer
pub record ScanCall (text out answer out' : List ℕ) : Type 0 where
  pub numbers : answer ≡ numbers_of (scanned (length out) text)
  pub output : out' ≡ output_of (scanned (length out) text) text out
