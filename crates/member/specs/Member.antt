-- Document 01, "Assembly and book": a member, prepared.
use Rattle.std.specs.Prelude.{ℕ, Bool, false, true, cond, List, [], ◌∷◌, eqb, Option, Some, None}
use Rattle.answer.specs.declared.Refusal.TheVariants.{NoTitle}
use Rattle.text.specs.Bytes.{part}
use Rattle.text.specs.Lines.{pieces}
use Rattle.heading.specs.Contents.{drops}
use Rattle.heading.specs.Walk.{walk_begin}
use Rattle.heading.specs.declared.walk.LineKind.{LineKind}
use Rattle.heading.specs.declared.walk.LineKind.TheVariants.{Quoted, Heading, Other}
use Rattle.walk.specs.Parts.{Part, good, flawed}
use Rattle.index.specs.Index.{File}
use Rattle.shift.specs.Shift.{Told, told_from, drop_end}

-- "Drop hand-written contents ..": the lines kept, where the line before was dropped or not
unfoldable pub without_contents : Bool → List (List ℕ) → List (List ℕ)
without_contents within [] = []
without_contents within (l ∷ ls) = cond (drops within l) (without_contents true ls) (l ∷ without_contents false ls)

-- ".. drop blank lines at the end only"
unfoldable pub prepared_lines : List ℕ → List Told
prepared_lines s = told_from walk_begin (drop_end (without_contents false (pieces s)))

-- a member once it is prepared
pub record Prepared : Type 0 where
  pub file : ℕ
  pub name : List ℕ
  pub lines : List Told
  pub title : List ℕ

-- "title is the first H1"
abbrev pub title_in : LineKind → List ℕ → Option (List ℕ) → Option (List ℕ)
title_in Quoted l o = o
title_in (Heading n a e) l o = cond (eqb n 1) (Some (part a e l)) o
title_in Other l o = o

unfoldable pub title_of : List Told → Option (List ℕ)
title_of [] = None
title_of (t ∷ ts) = title_in t.kind t.bytes (title_of ts)

-- 18 "no H1 in a member; line 0"
abbrev pub titled : File → List Told → Option (List ℕ) → Part Prepared
titled h ts None = flawed (NoTitle h.number) []
titled h ts (Some t) = good (record { file = h.number; name = h.name; lines = ts; title = t })

unfoldable pub prepare : File → Part Prepared
prepare h = titled h (prepared_lines h.text) (title_of (prepared_lines h.text))

-- "title excepted": the lines, the first H1 being no heading to be moved
abbrev pub still : LineKind → List ℕ → List Told → List Told → List Told
still Quoted l ts us = record { kind = Quoted; bytes = l } ∷ us
still (Heading n a e) l ts us = cond (eqb n 1) (record { kind = Other; bytes = l } ∷ ts) (record { kind = Heading n a e; bytes = l } ∷ us)
still Other l ts us = record { kind = Other; bytes = l } ∷ us

unfoldable pub movable : List Told → List Told
movable [] = []
movable (t ∷ ts) = still t.kind t.bytes ts (movable ts)
