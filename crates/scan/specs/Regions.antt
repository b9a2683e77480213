-- The whole regions of a text, one after the other.
use Rattle.std.specs.Prelude.{ℕ, ◌+◌, ◌≤◌, ◌<◌, ◌≡◌, List, [], ◌∷◌, length, drop, Option, Some, None}
use Rattle.text.specs.Lines.{lines_from}
use Rattle.scan.specs.Scan.{begin, scan_from, regions_of, region_of}
use Rattle.scan.specs.declared.event.Region.{Region}
use Rattle.scan.specs.declared.state.Opener.{Opener}
use Rattle.scan.specs.declared.region.Cursor.{Cursor}

-- the regions that a scan finds from a cursor on, in order; those of the whole text from place 0, line 0
abbrev pub regions_from : List ℕ → Cursor → List Region
regions_from s c = regions_of (scan_from begin (c.line + 1) (lines_from c.at (drop c.at s)))

-- the first of them, and a cursor for the others
abbrev pub FoundRegion : List ℕ → Cursor → Option (Region × Cursor) → Type 0
FoundRegion s c None = regions_from s c ≡ []
FoundRegion s c (Some (g, d)) = (regions_from s c ≡ g ∷ regions_from s d) × ((c.at < d.at) × ((d.at ≤ length s) × (d.line ≤ d.at)))

-- the region that line n, at place o, closes, with the cursor at place x, where the next line starts
abbrev pub closed_at : Option Opener → ℕ → ℕ → ℕ → Option (Region × Cursor)
closed_at None n o x = None
closed_at (Some g) n o x = Some ((region_of n o g), (record { at = x; line = n }))
