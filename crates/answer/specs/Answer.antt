-- Document 01's answers as numbers: acceptance, "no region", and the table of refusals with each refusal's place and second place.
use Rattle.std.specs.Prelude.{ℕ, List, [], ◌∷◌, Result, Ok, Err}
use Rattle.answer.specs.declared.Place.{Place}
use Rattle.answer.specs.declared.Refusal.{Refusal}
use Rattle.answer.specs.declared.Refusal.TheVariants.{IndexLine, TooManyRecords, PastContents, NameTwice, WideByte, NameForm, ListForm, Sizes, NestedRegion, FragmentMarker, UnclosedRegion, PeerWithoutHeading, OnChain, Absent, Allowance, HeadingLevel, TextLimit, NoTitle, SharedAnchor}
use Rattle.answer.specs.declared.Answer.{Answer}
use Rattle.answer.specs.declared.Answer.TheVariants.{Accepted, NoRegion}

-- "Place: file and line. File is the record's number from 1; it is 0 for a host handed in, the index or the list. Lines count from 1; line 0 where there is none."
abbrev pub place : ℕ → ℕ → Place
place f n = record { file = f; line = n }

-- the table's number of each refusal
abbrev pub number : Refusal → ℕ
number (IndexLine n) = 1
number TooManyRecords = 2
number (PastContents n) = 3
number (NameTwice n) = 4
number (WideByte p) = 5
number NameForm = 6
number ListForm = 7
number Sizes = 8
number (NestedRegion p) = 9
number (FragmentMarker p) = 10
number (UnclosedRegion p) = 11
number (PeerWithoutHeading p) = 12
number (OnChain p) = 13
number (Absent p) = 14
number (Allowance p) = 15
number (HeadingLevel p) = 16
number (TextLimit p) = 17
number (NoTitle f) = 18
number (SharedAnchor p q) = 19

-- its place: the index line for 1 to 4 ("over 64 records, at line 65"), line 0 for 6 to 8 and 18
abbrev pub place_of : Refusal → Place
place_of (IndexLine n) = place 0 n
place_of TooManyRecords = place 0 65
place_of (PastContents n) = place 0 n
place_of (NameTwice n) = place 0 n
place_of (WideByte p) = p
place_of NameForm = place 0 0
place_of ListForm = place 0 0
place_of Sizes = place 0 0
place_of (NestedRegion p) = p
place_of (FragmentMarker p) = p
place_of (UnclosedRegion p) = p
place_of (PeerWithoutHeading p) = p
place_of (OnChain p) = p
place_of (Absent p) = p
place_of (Allowance p) = p
place_of (HeadingLevel p) = p
place_of (TextLimit p) = p
place_of (NoTitle f) = place f 0
place_of (SharedAnchor p q) = p

-- "second place (0, 0 except at 19)"
abbrev pub second : Refusal → Place
second (IndexLine n) = place 0 0
second TooManyRecords = place 0 0
second (PastContents n) = place 0 0
second (NameTwice n) = place 0 0
second (WideByte p) = place 0 0
second NameForm = place 0 0
second ListForm = place 0 0
second Sizes = place 0 0
second (NestedRegion p) = place 0 0
second (FragmentMarker p) = place 0 0
second (UnclosedRegion p) = place 0 0
second (PeerWithoutHeading p) = place 0 0
second (OnChain p) = place 0 0
second (Absent p) = place 0 0
second (Allowance p) = place 0 0
second (HeadingLevel p) = place 0 0
second (TextLimit p) = place 0 0
second (NoTitle f) = place 0 0
second (SharedAnchor p q) = q

-- "A refusal gives number, place and second place"
abbrev pub refusal_numbers : ℕ → Place → Place → List ℕ
refusal_numbers n p q = 2 ∷ n ∷ p.file ∷ p.line ∷ q.file ∷ q.line ∷ []

-- "Acceptance gives length and files taken in"; "`No region` gives nothing more"
abbrev pub numbers : Result Answer Refusal → List ℕ
numbers (Ok (Accepted n f)) = 0 ∷ n ∷ f ∷ 0 ∷ 0 ∷ 0 ∷ []
numbers (Ok NoRegion) = 1 ∷ 0 ∷ 0 ∷ 0 ∷ 0 ∷ 0 ∷ []
numbers (Err r) = refusal_numbers (number r) (place_of r) (second r)
