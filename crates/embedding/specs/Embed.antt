-- Document 01, "Fill": embedding a filled file in its host.
use Rattle.std.specs.Prelude.{ℕ, ◌+◌, Bool, false, cond, ◌||◌, List, [], ◌∷◌, map, eqb}
use Rattle.answer.specs.Answer.{place}
use Rattle.answer.specs.declared.Refusal.TheVariants.{HeadingLevel}
use Rattle.text.specs.Lines.{pieces}
use Rattle.scan.specs.Scan.{scan, regions_of}
use Rattle.scan.specs.declared.event.Region.{Region}
use Rattle.link.specs.Links.{relink}
use Rattle.path.specs.Path.{parent_dir}
use Rattle.link.specs.Target.{anchor_self}
use Rattle.walk.specs.Parts.{Part, unless}
use Rattle.regions.specs.Regions.{HostRegion}
use Rattle.shift.specs.Shift.{Told, kinds_of, shift_for, moved_line, past_from, told_lines}

-- "Embedding drops the region marker lines that a scan of the filled file finds (that scan's problems refuse nothing ..)"
unfoldable pub is_marker : ℕ → List Region → Bool
is_marker n [] = false
is_marker n (g ∷ gs) = (eqb n g.opener.line || eqb n g.closer.line) || is_marker n gs

unfoldable pub unmarked_from : ℕ → List Region → List (List ℕ) → List (List ℕ)
unmarked_from n gs [] = []
unmarked_from n gs (l ∷ ls) = cond (is_marker n gs) (unmarked_from (n + 1) gs ls) (l ∷ unmarked_from (n + 1) gs ls)

-- "then blank lines at both ends"
unfoldable pub embedded_lines : List ℕ → List Told
embedded_lines s = told_lines (unmarked_from 1 (regions_of (scan s)) (pieces s))

-- "shifts (16: the named file, line among embedded lines), then `anchor_self_links` with the immediate host": the lines of a file with a name and a number d, in a
-- host at a target level
unfoldable pub embed_told : List ℕ → List ℕ → ℕ → ℕ → List Told → Part (List (List ℕ))
embed_told host name target d ts =
    unless (past_from (λ n. HeadingLevel (place d n)) 1 (shift_for target (kinds_of ts)) (kinds_of ts))
    (map (λ t. relink (anchor_self host (parent_dir name)) (moved_line (shift_for target (kinds_of ts)) t)) ts)

unfoldable pub embed : HostRegion → ℕ → List ℕ → Part (List (List ℕ))
embed g d s = embed_told g.host g.name g.target d (embedded_lines s)
