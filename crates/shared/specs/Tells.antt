-- What the table of marks tells of members, and what the functions find. Nothing here is document 01's: functions promise it.
use Rattle.std.specs.Prelude.{◌≡◌, List, [], ◌∷◌, ℕ, Option, Some, None}
use Rattle.answer.specs.declared.Place.{Place}
use Rattle.answer.specs.declared.Refusal.{Refusal}
use Rattle.answer.specs.declared.Refusal.TheVariants.{SharedAnchor}
use Rattle.text.specs.Bytes.{part}
use Rattle.anchor.specs.Anchor.{slug, anchor_number}
use Rattle.heading.specs.declared.walk.LineKind.{LineKind}
use Rattle.heading.specs.declared.walk.LineKind.TheVariants.{Quoted, Heading, Other}
use Rattle.shift.specs.Shift.{Told}
use Rattle.member.specs.Member.{Prepared}
use Rattle.marks.specs.Marks.{Marked}

-- the table tells of each heading of lines, and of members
abbrev pub TellsKind : List ℕ → ℕ → LineKind → List ℕ → Type 0
TellsKind table file Quoted l = Unit {0}
TellsKind table file (Heading n b e) l = Marked table (anchor_number (slug (part b e l))) file
TellsKind table file Other l = Unit {0}

unfoldable pub TellsLines : List ℕ → ℕ → List Told → Type 0
TellsLines table file [] = Unit {0}
TellsLines table file (t ∷ ts) = TellsKind table file t.kind t.bytes × TellsLines table file ts

unfoldable pub Tells : List ℕ → List Prepared → Type 0
Tells table [] = Unit {0}
Tells table (q ∷ qs) = TellsLines table q.file q.lines × Tells table qs

-- the first of refusals, or none
abbrev pub SharedOf : List Refusal → Option (Place × Place) → Type 0
SharedOf xs None = xs ≡ []
SharedOf xs (Some (p, q)) = (ys : List Refusal) × (xs ≡ SharedAnchor p q ∷ ys)

-- where nothing was found, the table tells of members
abbrev pub TellsAfter : Option (Place × Place) → List ℕ → List Prepared → Type 0
TellsAfter None table qs = Tells table qs
TellsAfter (Some (p, q)) table qs = Unit {0}
