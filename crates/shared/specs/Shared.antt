-- Document 01, "Assembly and book": members compared, 19.
use Rattle.std.specs.Prelude.{ℕ, ◌+◌, List, [], ◌∷◌, ◌++◌, Option, Some, None}
use Rattle.answer.specs.Answer.{place}
use Rattle.answer.specs.declared.Place.{Place}
use Rattle.answer.specs.declared.Refusal.{Refusal}
use Rattle.answer.specs.declared.Refusal.TheVariants.{SharedAnchor}
use Rattle.text.specs.Bytes.{part}
use Rattle.anchor.specs.Anchor.{slug}
use Rattle.heading.specs.declared.walk.LineKind.TheVariants.{Quoted, Heading, Other}
use Rattle.walk.specs.Parts.{Part, unless}
use Rattle.shift.specs.Shift.{Told}
use Rattle.member.specs.Member.{Prepared}
use Rattle.earlier.specs.Earlier.{earlier}

-- 19 "anchor also in an earlier member of another name; second place is that one's", for each heading; the lines count from n
abbrev pub shared_at : Place → Option Place → List Refusal
shared_at p (Some q) = SharedAnchor p q ∷ []
shared_at p None = []

abbrev pub shared_line : List Prepared → Prepared → ℕ → Told → List Refusal
shared_line qs m n t = elim t.kind [ Quoted ↦ [] | Heading k b e ↦ shared_at (place m.file n) (earlier m.name (slug (part b e t.bytes)) qs) | Other ↦ [] ]

unfoldable pub shared_in : List Prepared → Prepared → ℕ → List Told → List Refusal
shared_in qs m n [] = []
shared_in qs m n (t ∷ ts) = shared_line qs m n t ++ shared_in qs m (n + 1) ts

-- of members in order, with qs before them
unfoldable pub shared_from : List Prepared → List Prepared → List Refusal
shared_from qs [] = []
shared_from qs (m ∷ ms) = shared_in qs m 1 m.lines ++ shared_from (qs ++ (m ∷ [])) ms

-- "then compared (19 ..)"
abbrev pub compare : List Prepared → Part (List Prepared)
compare ms = unless (shared_from [] ms) ms
