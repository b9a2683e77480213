-- Document 01, "Assembly and book": where an earlier member has an anchor.
use Rattle.std.specs.Prelude.{ℕ, ◌+◌, Bool, false, cond, List, [], ◌∷◌, Option, Some, None}
use Rattle.answer.specs.Answer.{place}
use Rattle.answer.specs.declared.Place.{Place}
use Rattle.text.specs.Bytes.{part}
use Rattle.text.specs.Pattern.{equals}
use Rattle.anchor.specs.Anchor.{slug}
use Rattle.heading.specs.declared.walk.LineKind.TheVariants.{Quoted, Heading, Other}
use Rattle.shift.specs.Shift.{Told}
use Rattle.member.specs.Member.{Prepared}

-- whether a line is a heading with the anchor a
abbrev pub bears : List ℕ → Told → Bool
bears a t = elim t.kind [ Quoted ↦ false | Heading n b e ↦ equals a (slug (part b e t.bytes)) | Other ↦ false ]

-- "per member the first line of an anchor"; the lines count from n
unfoldable pub line_of : List ℕ → ℕ → List Told → Option ℕ
line_of a n [] = None
line_of a n (t ∷ ts) = cond (bears a t) (Some n) (line_of a (n + 1) ts)

-- the place of a line of a file, or a place further on
abbrev pub place_or : ℕ → Option ℕ → Option Place → Option Place
place_or file (Some n) p = Some (place file n)
place_or file None p = p

-- where an earlier member of another name than m has the anchor
unfoldable pub earlier : List ℕ → List ℕ → List Prepared → Option Place
earlier m a [] = None
earlier m a (q ∷ qs) = cond (equals m q.name) (earlier m a qs) (place_or q.file (line_of a 1 q.lines) (earlier m a qs))
