-- Document 01, "Records" and "Assembly and book": the book on chains, without the walk.
use Rattle.std.specs.Prelude.{ℕ, ◌≤◌, ◌≡◌, length, Option, Some}
use mathlib.Core.List.{List, [], ◌∷◌, map, Memᴰ}
use Rattle.answer.specs.declared.Refusal.{Refusal}
use Rattle.index.specs.Index.{File, file_of}
use Rattle.walk.specs.Parts.{and_then, if_made}
use Rattle.chains.specs.Chains.{Chain, file_at, start, starts, chain_at, made, faults, running, CountsChains}
use Rattle.assembled.specs.Assembled.{assembled_text, assembly_faults, assembly_running}

-- S is the file set, and M has the record of each list line, counted from 0

-- the members, with the texts that were made
abbrev pub members_of : List File → List ℕ → List File
members_of S M = map (file_at S) M

unfoldable pub with_texts : List File → List (List ℕ) → List File
with_texts [] ts = []
with_texts (f ∷ fs) [] = []
with_texts (f ∷ fs) (t ∷ ts) = file_of f.number f.name t ∷ with_texts fs ts

-- the book's text: every member made, and all assembled
unfoldable pub made_all : List Chain → Option (List (List ℕ))
made_all [] = Some []
made_all (c ∷ cs) = and_then (made c) (λ t. and_then (made_all cs) (λ ts. Some (t ∷ ts)))

unfoldable pub book_text : List File → List ℕ → List ℕ → Option (List ℕ)
book_text S M url = and_then (made_all (starts S M)) (λ ts. assembled_text url (with_texts (members_of S M) ts))

-- the members whose texts are made
abbrev pub made_with : File → Option (List ℕ) → Option File
made_with f o = and_then o (λ t. Some (file_of f.number f.name t))

unfoldable pub made_members : List File → List ℕ → List (Option File)
made_members S [] = []
made_members S (k ∷ M) = made_with (file_at S k) (made (start S k)) ∷ made_members S M

-- the faults of the assembly, and its running texts
abbrev pub book_faults : List File → List ℕ → List ℕ → List Refusal
book_faults S M url = assembly_faults url (made_members S M)

abbrev pub book_running : List File → List ℕ → List ℕ → List (List ℕ)
book_running S M url = if_made (made_all (starts S M)) (λ ts. assembly_running url (with_texts (members_of S M) ts))

-- "nothing reached has a fault, the files taken in are within the allowance and no running text passes the limit"
pub record Sound (B L : ℕ) (S : List File) (M url : List ℕ) : Type 0 where
  pub faultless : (p : List ℕ) (c : Chain) → chain_at S M p ≡ Some c → faults c ≡ []
  pub assembles : book_faults S M url ≡ []
  pub allowed : (n : ℕ) × CountsChains S M n × (n ≤ B)
  pub fits : (p : List ℕ) (c : Chain) → chain_at S M p ≡ Some c → (t : List ℕ) → Memᴰ t (running c) → length t ≤ L
  pub joins_fit : (t : List ℕ) → Memᴰ t (book_running S M url) → length t ≤ L
