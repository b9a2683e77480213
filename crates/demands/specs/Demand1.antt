-- Demand 1 of the four calls, on what their callers find afterwards: for every input the answer is accepted, "no region" or one of the 19 refusals, a refusal leaves the output as it was, and
-- work is zero after each call. A call is six numbers and buffers that are as the contract of its C function says. It may give only some of the refusals, and each at places of its own.
use Rattle.std.specs.Prelude.{ℕ, ◌≤◌, Bool, true, false, ◌||◌, List, [], ◌∷◌, ◌⊎◌, ◌≡◌, eqb, length, drop, replicate}
use Rattle.index.specs.Index.{records}
use Rattle.book.specs.Promises.{ScanCall, FillCall, AssembleCall, BookCall}
use Rattle.demands.specs.Numbers.{Accepted, NoRegion, Refused, RefusedBy, length_of, files_of, refusal_number, place_file, place_line, second_file, second_line}

-- the refusals that each call may give
abbrev pub scan_refusals : List ℕ
scan_refusals = 5 ∷ 17 ∷ []

abbrev pub fill_refusals : List ℕ
fill_refusals = 1 ∷ 2 ∷ 3 ∷ 4 ∷ 5 ∷ 6 ∷ 8 ∷ 9 ∷ 10 ∷ 11 ∷ 12 ∷ 13 ∷ 14 ∷ 15 ∷ 16 ∷ 17 ∷ []

abbrev pub assemble_refusals : List ℕ
assemble_refusals = 1 ∷ 2 ∷ 3 ∷ 4 ∷ 5 ∷ 6 ∷ 7 ∷ 8 ∷ 14 ∷ 16 ∷ 17 ∷ 18 ∷ 19 ∷ []

abbrev pub book_refusals : List ℕ
book_refusals = 1 ∷ 2 ∷ 3 ∷ 4 ∷ 5 ∷ 6 ∷ 7 ∷ 8 ∷ 9 ∷ 10 ∷ 11 ∷ 12 ∷ 13 ∷ 14 ∷ 15 ∷ 16 ∷ 17 ∷ 18 ∷ 19 ∷ []

abbrev pub is_one_of : ℕ → List ℕ → Bool
is_one_of n [] = false
is_one_of n (k ∷ ks) = eqb n k || is_one_of n ks

-- the number of a refusal is one of these
abbrev pub NumberIn : List ℕ → List ℕ → Type 0
NumberIn ns answer = is_one_of (refusal_number answer) ns ≡ true

-- its file is one from a to b
abbrev pub FileFrom : ℕ → ℕ → List ℕ → Type 0
FileFrom a b answer = (a ≤ place_file answer) × (place_file answer ≤ b)

-- "second place (0, 0 except at 19)"
abbrev pub NoSecond : List ℕ → Type 0
NoSecond answer = (second_file answer ≡ 0) × (second_line answer ≡ 0)

-- where a refusal stands, by its number, among R records; the texts that a call reads are files from low on, 0 being a host handed in
pub data Placed (low R : ℕ) (answer : List ℕ) : Type 0 where
  -- 1 "at that line", 3 "at its index line", 4 "at the second"
  on-index : NumberIn (1 ∷ 3 ∷ 4 ∷ []) answer → FileFrom 0 0 answer → 1 ≤ place_line answer → NoSecond answer → Placed low R answer
  -- 2 "at line 65"
  past_index : NumberIn (2 ∷ []) answer → FileFrom 0 0 answer → place_line answer ≡ 65 → NoSecond answer → Placed low R answer
  -- 6, 7, 8 "line 0"
  no_line : NumberIn (6 ∷ 7 ∷ 8 ∷ []) answer → FileFrom 0 0 answer → place_line answer ≡ 0 → NoSecond answer → Placed low R answer
  -- 5 "in host, then in files"; "In the walk 9 and 10 stand at the marker's line and 12 to 15 at the opener", 11 "at its opener"
  in-text : NumberIn (5 ∷ 9 ∷ 10 ∷ 11 ∷ 12 ∷ 13 ∷ 15 ∷ []) answer → FileFrom low R answer → 1 ≤ place_line answer → NoSecond answer → Placed low R answer
  -- 14 "over the list, at the list's line", or at the opener
  absent : NumberIn (14 ∷ []) answer → FileFrom 0 R answer → 1 ≤ place_line answer → NoSecond answer → Placed low R answer
  -- 16 "the named file, line among embedded lines", or "at the member; lines count its prepared lines"
  heading : NumberIn (16 ∷ []) answer → FileFrom 1 R answer → 1 ≤ place_line answer → NoSecond answer → Placed low R answer
  -- 17 "in the text being filled, at the opener of its region, or at line 0"; "in assembly it stands at the member"
  limit : NumberIn (17 ∷ []) answer → FileFrom low R answer → NoSecond answer → Placed low R answer
  -- 18 "line 0"
  no-title : NumberIn (18 ∷ []) answer → FileFrom 1 R answer → place_line answer ≡ 0 → NoSecond answer → Placed low R answer
  -- 19 "second place is that one's"
  shared : NumberIn (19 ∷ []) answer → FileFrom 1 R answer → 1 ≤ place_line answer → (1 ≤ second_file answer) × (second_file answer ≤ R) → 1 ≤ second_line answer
      → Placed low R answer

-- where nothing is filled, 14 stands at the list's line and 17 at line 0, and no file is taken in: "files taken in (0 for assembly and scan)"
pub record NothingFilled (answer : List ℕ) : Type 0 where
  pub absent : RefusedBy answer 14 → place_file answer ≡ 0
  pub limit : RefusedBy answer 17 → place_line answer ≡ 0
  pub none : Accepted answer → files_of answer ≡ 0

-- an answer, with the output before and after it
pub data Answered (may : List ℕ) (low R : ℕ) (answer out out' : List ℕ) : Type 0 where
  accepted : Accepted answer → drop (length_of answer) out' ≡ drop (length_of answer) out → Answered may low R answer out out'
  refused : Refused answer → NumberIn may answer → Placed low R answer → out' ≡ out → Answered may low R answer out out'

-- "Work is zero after each call."
abbrev pub Zero : List ℕ → List ℕ → Type 0
Zero work work' = work' ≡ replicate (length work) 0

pub record Demand1 : Type 0 where
  pub scan : (text out answer out' : List ℕ) → ScanCall text out answer out' → Answered scan_refusals 0 0 answer out out' × NothingFilled answer
  pub fill : (index contents name text : List ℕ) (L B : ℕ) (out work answer out' work' : List ℕ) → FillCall index contents name text L B out work answer out' work'
      → ((NoRegion answer × (out' ≡ out))
      ⊎ Answered fill_refusals 0 (length (records index)) answer out out')
      × Zero work work'
  pub assemble : (index contents list url : List ℕ) (L : ℕ) (out work answer out' work' : List ℕ) → AssembleCall index contents list url L out work answer out' work'
      → Answered assemble_refusals 1 (length (records index)) answer out out' × NothingFilled answer
      × Zero work work'
  pub book : (index contents list url : List ℕ) (L B : ℕ) (out work answer out' work' : List ℕ) → BookCall index contents list url L B out work answer out' work'
      → Answered book_refusals 1 (length (records index)) answer out out'
      × Zero work work'
