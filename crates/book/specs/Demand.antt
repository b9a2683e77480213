-- Demand 3, stated on outcomes; the crate `demands` states it of calls. S is the file set that an index and contents give, M the record of each list line. `Sound`, `book_text`, `book_faults` and `book_running` are
-- defined in `Book`; chains, their faults and their running texts in `Chains` of the crate `chains`. None of these knows of B, of L or of what the walk answers.
use Rattle.std.specs.Prelude.{ℕ, ◌≤◌, ◌<◌, ◌⊎◌, ◌↔◌, ◌≡◌, length, Ok, Err, Some}
use mathlib.Core.List.{List, Memᴰ}
use Rattle.answer.specs.Answer.{number, numbers}
use Rattle.answer.specs.declared.Refusal.{Refusal}
use Rattle.index.specs.Index.{File, records, files}
use Rattle.fileset.specs.Members.{members}
use Rattle.fileset.specs.Check.{book_checked}
use Rattle.chains.specs.Chains.{Chain, chain_at, faults, running, CountsChains}
use Rattle.book.specs.Book.{book_text, book_faults, book_running, Sound}
use Rattle.walk.specs.Outcome.{Outcome, text, noRegion, refusal}
use Rattle.book.specs.Calls.{book_outcome}

abbrev pub file_set : List ℕ → List ℕ → List File
file_set index contents = files index contents

abbrev pub listed : List ℕ → List ℕ → List ℕ
listed index list = members (records index) list

-- the number of a refusal, else 0
abbrev pub outcome_number : Outcome → ℕ
outcome_number (text t n) = 0
outcome_number noRegion = 0
outcome_number (refusal x) = number x

-- number, place and second place of a refusal
abbrev pub numbers_of : Refusal → List ℕ
numbers_of x = numbers (Err x)

-- a fault with the number and the places of x, at a chain that is reached or in the assembly
abbrev pub Faulty : List File → List ℕ → List ℕ → Refusal → Type 0
Faulty S M url x =
    ((p : List ℕ) × (c : Chain) × (chain_at S M p ≡ Some c) × (y : Refusal) × Memᴰ y (faults c) × (numbers_of x ≡ numbers_of y))
    ⊎ ((y : Refusal) × Memᴰ y (book_faults S M url) × (numbers_of x ≡ numbers_of y))

-- a running text over the limit, at a chain that is reached or in the assembly
abbrev pub Overlong : ℕ → List File → List ℕ → List ℕ → Type 0
Overlong L S M url =
    ((p : List ℕ) × (c : Chain) × (chain_at S M p ≡ Some c) × (t : List ℕ) × Memᴰ t (running c) × (L < length t))
    ⊎ ((t : List ℕ) × Memᴰ t (book_running S M url) × (L < length t))

-- why a book is refused: by 15, where more files are taken in than the allowance; by 17, where a running text is over the limit; by any other number for such a fault, which is never 15 or 17
pub record Reason (B L : ℕ) (S : List File) (M url : List ℕ) (x : Refusal) : Type 0 where
  pub overtaken : number x ≡ 15 → (n : ℕ) × CountsChains S M n × (B < n)
  pub overlong : number x ≡ 17 → Overlong L S M url
  pub faulty : (number x ≡ 15 → ⊥) → (number x ≡ 17 → ⊥) → Faulty S M url x

-- for every index, contents, list and URL, and all sizes, limits and allowances with nothing refused before the walk
pub record OutcomeDemand3 (index contents list url : List ℕ) : Type 0 where
  -- "The book is given exactly when nothing reached has a fault, the files taken in are within the allowance and no running text passes the limit"
  pub exactly_when : (L B out work : ℕ) → book_checked index contents list url L out work ≡ (Ok tt)
      → ((t : List ℕ) × (n : ℕ) × (book_outcome index contents list url L B out work ≡ text t n)) ↔ Sound B L (file_set index contents) (listed index list) url
  -- "its text and count are as defined on chains"
  pub as_defined : (L B out work : ℕ) → book_checked index contents list url L out work ≡ (Ok tt)
      → (t : List ℕ) (n : ℕ) → book_outcome index contents list url L B out work ≡ text t n
      → (book_text (file_set index contents) (listed index list) url ≡ Some t) × CountsChains (file_set index contents) (listed index list) n
  -- "two calls that differ only in limits and buffers answer alike unless the first answers 15 or 17"
  pub alike : (L B out work L' B' out' work' : ℕ) → book_checked index contents list url L out work ≡ (Ok tt) → book_checked index contents list url L' out' work' ≡ (Ok tt) → L ≤ L' → B ≤ B'
      → (outcome_number (book_outcome index contents list url L B out work) ≡ 15 → ⊥) → (outcome_number (book_outcome index contents list url L B out work) ≡ 17 → ⊥)
      → book_outcome index contents list url L B out work ≡ book_outcome index contents list url L' B' out' work'
  -- and a refusal has its reason on the chains or in the assembly
  pub with_reason : (L B out work : ℕ) → book_checked index contents list url L out work ≡ (Ok tt)
      → (x : Refusal) → book_outcome index contents list url L B out work ≡ refusal x → Reason B L (file_set index contents) (listed index list) url x
