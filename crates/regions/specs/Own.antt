-- A host's own lines. Nothing here is document 01's: inner functions promise it, and the laws of `proofs/` tie it to `Regions.antt`.
use Rattle.std.specs.Prelude.{ℕ, ◌+◌, ◌-◌, ◌<◌, ◌≡◌, Bool, false, List, [], ◌∷◌, take, drop, Option, Some, None}
use Rattle.text.specs.Bytes.{is, first}
use Rattle.text.specs.Lines.{LF, pieces, line_next}
use Rattle.scan.specs.Regions.{regions_from}
use Rattle.scan.specs.declared.event.Region.{Region}
use Rattle.scan.specs.declared.region.Cursor.{Cursor}
use Rattle.heading.specs.Level.{shallower, IsLevel}
use Rattle.heading.specs.Walk.{step_kind, step_after}
use Rattle.regions.specs.Regions.{newer, target_level}
use Rattle.regions.specs.Hosts.{LineFrom, blanked_at, top_of}
use Rattle.regions.specs.declared.own.Own.{Own}
use Rattle.regions.specs.declared.host.HostCursor.{HostCursor}
use Rattle.regions.specs.declared.host.Opening.{Opening}

-- the walk behind a line, and behind lines
unfoldable pub own_step : Own → List ℕ → Own
own_step w l = record {
  state = step_after w.state.fence w.state.comment l;
  above = newer w.above (step_kind w.state.fence w.state.comment l);
  top = shallower w.top (step_kind w.state.fence w.state.comment l);
}

unfoldable pub own_after : Own → List (List ℕ) → Own
own_after w [] = w
own_after w (l ∷ ls) = own_after (own_step w l) ls

-- the lines from a cursor on that stand before line n
abbrev pub lines_before : List ℕ → Cursor → ℕ → List (List ℕ)
lines_before s c n = take (n - (c.line + 1)) (drop c.line (pieces s))

-- where the line after a region's closer starts
abbrev pub cursor_behind : List ℕ → Region → Cursor
cursor_behind s g = record { at = g.closer.at + line_next (drop g.closer.at s); line = g.closer.line }

-- the next region, the cursor d behind it, and the walk v over the lines before it
pub record OwnBefore (s : List ℕ) (c : Cursor) (w : Own) (g : Region) (d : Cursor) (v : Own) : Type 0 where
  pub found : regions_from s c ≡ g ∷ regions_from s d
  pub cursor : d ≡ cursor_behind s g
  pub own : v ≡ own_after w (lines_before s c g.opener.line)

abbrev pub FoundOwn : List ℕ → Cursor → Own → Option (Region × Cursor × Own) → Type 0
FoundOwn s c w (Some (g, d, v)) = OwnBefore s c w g d v
FoundOwn s c w None = regions_from s c ≡ []

-- 12, as a test
abbrev pub is_headless : Bool → Option ℕ → Bool
is_headless peer (Some n) = false
is_headless peer None = peer

-- the shallowest own level of a host, where it is needed
pub record IsTop (s : List ℕ) (above top : Option ℕ) : Type 0 where
  pub level : IsLevel top
  pub none : above ≡ None → top ≡ top_of s

-- it can be found: by the cursor before a region, or from the walk w at the region's opener and the cursor d behind it
pub record CanTop (s : List ℕ) (c : HostCursor) (d : Cursor) (w : Own) : Type 0 where
  pub line : LineFrom s d
  pub kept : 0 < c.from → IsTop s w.above c.top
  pub rest : w.above ≡ None → IsTop s w.above (own_after w (blanked_at s d)).top

-- a region as a fill needs it, and the cursor behind it
unfoldable pub opens_at : List ℕ → Region → Option ℕ → Option ℕ → Opening
opens_at s g above top = record {
  line = g.opener.line;
  end = g.opener.at + first (is LF) (drop g.opener.at s);
  path = g.path;
  target = target_level g.peer above top;
  headless = is_headless g.peer above;
}

unfoldable pub cursor_at : Region → Cursor → Own → Option ℕ → HostCursor
cursor_at g d w top = record {
  at = d.at;
  line = d.line;
  from = g.closer.at - 1;
  before = g.closer.line - 1;
  state = w.state;
  above = w.above;
  top = top;
}
