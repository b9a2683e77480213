-- The answers of the leaf calls on regions as six numbers. Assumes nothing: these are definitions.
use Rattle.std.specs.Prelude.{ℕ, Bool, true, false, cond, ◌&&◌, List, [], ◌∷◌, ◌≡◌, length, leb, Option, Some, None}
use Rattle.scan.specs.Regions.{FoundRegion}
use Rattle.scan.specs.declared.event.Region.{Region}
use Rattle.scan.specs.declared.region.Cursor.{Cursor}
use Rattle.leaf.specs.Leaf.{one}

-- 1, or 2 for a peer
abbrev pub kind_number : Region → ℕ
kind_number g = cond g.peer 2 1

-- a region: its kind, where its path starts and ends, and the place and the line of the cursor after it; none: 0
abbrev pub region_numbers : Option (Region × Cursor) → List ℕ
region_numbers (Some (g, d)) = kind_number g ∷ g.path.start ∷ g.path.end ∷ d.at ∷ d.line ∷ 0 ∷ []
region_numbers None = one 0

-- its marker lines: its kind, the number and the place of its opener, and of its closer
abbrev pub marker_numbers : Option (Region × Cursor) → List ℕ
marker_numbers (Some (g, d)) = kind_number g ∷ g.opener.line ∷ g.opener.at ∷ g.closer.line ∷ g.closer.at ∷ 0 ∷ []
marker_numbers None = one 0

-- a place of a text so long, and no more lines before it than bytes
abbrev pub is_cursor : ℕ → ℕ → ℕ → Bool
is_cursor length at line = leb at length && leb line at

-- the next region from two numbers on: there is none where they are no cursor
abbrev pub NextIf : Bool → List ℕ → Cursor → Option (Region × Cursor) → Type 0
NextIf true s c found = FoundRegion s c found
NextIf false s c found = found ≡ None

abbrev pub NextFrom : List ℕ → ℕ → ℕ → Option (Region × Cursor) → Type 0
NextFrom s at line found = NextIf (is_cursor (length s) at line) s (record { at = at; line = line }) found

pub record RegionAnswer (told : Option (Region × Cursor) → List ℕ) (text : List ℕ) (at line : ℕ) (answer : List ℕ) : Type 0 where
  pub found : Option (Region × Cursor)
  pub next : NextFrom text at line found
  pub same : answer ≡ told found
