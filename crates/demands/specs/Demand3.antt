-- Demand 3 of the call book, on what its caller finds afterwards. S is the file set that an index and contents give, M the record of each list line. `Sound` and `book_text` are defined
-- in `Book` of the crate `book`, chains in `Chains` of `chains`: by what lies on chains, and not by what a walk answers.
use Rattle.std.specs.Prelude.{ℕ, ◌≤◌, List, ◌↔◌, ◌≡◌, length, take, drop, Ok, Some}
use Rattle.answer.specs.declared.Refusal.{Refusal}
use Rattle.fileset.specs.Check.{book_checked}
use Rattle.chains.specs.Chains.{CountsChains}
use Rattle.book.specs.Book.{book_text, Sound}
use Rattle.book.specs.Demand.{file_set, listed, numbers_of, Reason}
use Rattle.book.specs.Promises.{BookCall}
use Rattle.demands.specs.Numbers.{Accepted, Refused, RefusedBy, length_of, files_of}

-- a call, with nothing refused before the walk: limit, allowance and buffers that are lent, six numbers and buffers that are found afterwards, as the contract of the C function says
pub record Call (index contents list url : List ℕ) : Type 0 where
  pub L : ℕ
  pub B : ℕ
  pub out : List ℕ
  pub work : List ℕ
  pub answer : List ℕ
  pub out' : List ℕ
  pub work' : List ℕ
  pub contract : BookCall index contents list url L B out work answer out' work'
  pub passed : book_checked index contents list url L (length out) (length work) ≡ (Ok tt)

-- an output that begins with a text; its other bytes are as before
pub record Begins (t out out' : List ℕ) : Type 0 where
  pub first : take (length t) out' ≡ t
  pub others : drop (length t) out' ≡ drop (length t) out
  pub whole : length out' ≡ length out

pub record Demand3 (index contents list url : List ℕ) : Type 0 where
  -- "The book is given exactly when nothing reached has a fault, the files taken in are within the allowance and no running text passes the limit". `Sound` says: no chain that is reached has a fault, nor
  -- has the assembly; the chains of two or more files are at most B; no running text of a chain or of the assembly has over L bytes
  pub exactly_when : (c : Call index contents list url) → Accepted c.answer ↔ Sound c.B c.L (file_set index contents) (listed index list) url
  -- "its text and count are as defined on chains"
  pub as_defined : (c : Call index contents list url) → Accepted c.answer
      → ((t : List ℕ) × (book_text (file_set index contents) (listed index list) url ≡ Some t) × (length_of c.answer ≡ length t) × Begins t c.out c.out')
      × CountsChains (file_set index contents) (listed index list) (files_of c.answer)
  -- "two calls that differ only in limits and buffers answer alike unless the first answers 15 or 17"
  pub alike : (c d : Call index contents list url) → c.L ≤ d.L → c.B ≤ d.B → (RefusedBy c.answer 15 → ⊥) → (RefusedBy c.answer 17 → ⊥)
      → (c.answer ≡ d.answer) × (Accepted c.answer → take (length_of c.answer) c.out' ≡ take (length_of c.answer) d.out')
  -- and a refusal has its reason on the chains or in the assembly
  pub with_reason : (c : Call index contents list url) → Refused c.answer
      → (x : Refusal) × (c.answer ≡ numbers_of x) × Reason c.B c.L (file_set index contents) (listed index list) url x
