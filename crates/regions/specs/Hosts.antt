-- The regions of a host one after the other, as the functions of this crate give them. Nothing here is document 01's: callers read it, and the laws of
-- `proofs/HostLaws.antt` tie it to `Regions.antt`.
use Rattle.std.specs.Prelude.{ℕ, ◌+◌, ◌≤◌, ◌<◌, ◌≡◌, ◌⊎◌, cond, List, [], ◌∷◌, ◌++◌, length, drop, Option, Some, None}
use Rattle.answer.specs.Answer.{place}
use Rattle.answer.specs.declared.Refusal.TheVariants.{PeerWithoutHeading}
use Rattle.text.specs.Bytes.{part}
use Rattle.text.specs.Lines.{LF, pieces}
use Rattle.text.specs.Split.{join}
use Rattle.scan.specs.Scan.{scan, regions_of}
use Rattle.scan.specs.Regions as found
use Rattle.scan.specs.declared.region.Cursor.{Cursor}
use Rattle.heading.specs.Level.{shallowest_of, IsLevel}
use Rattle.heading.specs.Walk.{walk_begin, kinds_from, states_after}
use Rattle.index.specs.Index.{File, file_of}
use Rattle.regions.specs.Regions.{Regions, HostRegion, behind, region, regions_from, own_kinds, blanked_from, last_level}
use Rattle.regions.specs.declared.host.HostCursor.{HostCursor}
use Rattle.regions.specs.declared.host.Opening.{Opening}

-- the cursor at a host's start
abbrev pub start_cursor : HostCursor
start_cursor = record { at = 0; line = 0; from = 0; before = 0; state = walk_begin; above = None; top = None }

-- where a cursor stands, as for the scan
abbrev pub cursor_of : HostCursor → Cursor
cursor_of c = record { at = c.at; line = c.line }

-- what is left of a host's regions behind a cursor
unfoldable pub host_rest : File → HostCursor → Regions
host_rest h c =
    regions_from h (pieces h.text) (own_kinds (regions_of (scan h.text)) (pieces h.text)) c.before
    (found.regions_from h.text (cursor_of c))

-- lines b behind any lines ls are the bytes from the cursor's `from` up to place e behind the text of ls
abbrev pub Append : List ℕ → HostCursor → List (List ℕ) → ℕ → Type 0
Append s c b e =
    (ls : List (List ℕ)) → (c.from ≡ 0 → ls ≡ []) → (0 < c.from → 0 < length ls) → join LF (ls ++ b) ≡ join LF ls ++ part c.from e s

-- a line starts at a cursor, or the text ends there
pub record LineFrom (s : List ℕ) (c : Cursor) : Type 0 where
  pub within : c.at ≤ length s
  pub few : c.line ≤ c.at
  pub lines : (drop c.line (pieces s) ≡ pieces (drop c.at s)) ⊎ ((drop c.line (pieces s) ≡ []) × (c.at ≡ length s))

-- the lines from a cursor on, those of regions blanked
abbrev pub blanked_at : List ℕ → Cursor → List (List ℕ)
blanked_at s c = blanked_from (c.line + 1) (found.regions_from s c) (drop c.line (pieces s))

-- the shallowest own level of a host
abbrev pub top_of : List ℕ → Option ℕ
top_of s = shallowest_of None (own_kinds (regions_of (scan s)) (pieces s))

-- where the closer behind which a cursor stands starts: after an LF
pub record CloserAt (s : List ℕ) (c : HostCursor) : Type 0 where
  pub within : c.from + 1 < length s
  pub some : 0 < c.before
  pub lines : drop c.before (pieces s) ≡ pieces (drop (c.from + 1) s)

-- a cursor that `start` or `next_host` gave
pub record HostAt (s : List ℕ) (c : HostCursor) : Type 0 where
  pub line : LineFrom s (cursor_of c)
  pub first : c.from ≡ 0 → c.before ≡ 0
  pub later : 0 < c.from → CloserAt s c
  pub order : (c.from ≤ c.at) × (c.before ≤ c.line)
  pub passed : List (List ℕ)
  pub count : length passed ≡ c.line
  pub blanked : blanked_from 1 (regions_of (scan s)) (pieces s) ≡ passed ++ blanked_at s (cursor_of c)
  pub state : states_after walk_begin passed ≡ c.state
  pub above : last_level None (kinds_from walk_begin passed) ≡ c.above
  pub level : IsLevel c.top
  pub top : 0 < c.from → c.above ≡ None → c.top ≡ top_of s

-- the region that an opening tells of, with the lines b before it
abbrev pub region_at : ℕ → List ℕ → List ℕ → List (List ℕ) → Opening → HostRegion
region_at k name s b o = record {
  host = name;
  before = b;
  opener = place k o.line;
  faults = cond o.headless (PeerWithoutHeading (place k o.line) ∷ []) [];
  name = part o.path.start o.path.end s;
  target = o.target;
}

-- the first of what is left behind cursor c, and the cursor d behind it
pub record WholeHost (s : List ℕ) (c : HostCursor) (o : Opening) (d : HostCursor) : Type 0 where
  pub next : HostAt s d
  pub some : 0 < d.from
  pub later : c.at < d.at
  pub target : (1 ≤ o.target) × (o.target ≤ 7)
  pub ends : (c.from ≤ o.end) × (o.end ≤ length s)
  pub path : (o.path.start ≤ o.path.end) × (o.path.end ≤ length s)
  pub before : List (List ℕ)
  pub lines : 0 < length before
  pub append : Append s c before o.end
  pub rest : (k : ℕ) (name : List ℕ) → host_rest (file_of k name s) c ≡ region (region_at k name s before o) (host_rest (file_of k name s) d)

-- no region is left
pub record LastHost (s : List ℕ) (c : HostCursor) : Type 0 where
  pub lines : List (List ℕ)
  pub append : Append s c lines (length s)
  pub rest : (k : ℕ) (name : List ℕ) → host_rest (file_of k name s) c ≡ behind lines

-- either of them
abbrev pub FoundHost : List ℕ → HostCursor → Option (Opening × HostCursor) → Type 0
FoundHost s c (Some (o, d)) = WholeHost s c o d
FoundHost s c None = LastHost s c
