-- Document 01, "Fill": what a fill finds in a file before it takes anything in.
use Rattle.std.specs.Prelude.{ℕ, ◌+◌, ◌-◌, Bool, false, cond, ◌&&◌, ◌||◌, List, [], ◌∷◌, ◌++◌, take, drop, leb, Option, Some, None}
use Rattle.answer.specs.Answer.{place}
use Rattle.answer.specs.declared.Place.{Place}
use Rattle.answer.specs.declared.Refusal.{Refusal}
use Rattle.answer.specs.declared.Refusal.TheVariants.{NestedRegion, FragmentMarker, UnclosedRegion, PeerWithoutHeading}
use Rattle.marker.specs.declared.problem.Problem.{Problem}
use Rattle.marker.specs.declared.problem.Problem.TheVariants as problems
use Rattle.text.specs.Bytes.{part}
use Rattle.text.specs.Lines.{pieces}
use Rattle.scan.specs.Scan.{scan, regions_of}
use Rattle.scan.specs.declared.event.Region.{Region}
use Rattle.scan.specs.declared.event.Event.{Event}
use Rattle.scan.specs.declared.event.Event.TheVariants.{OfSpan, OfRegion, OfProblem}
use Rattle.heading.specs.Level.{shallowest_of}
use Rattle.heading.specs.Walk.{walk_begin, kinds_from}
use Rattle.heading.specs.declared.walk.LineKind.{LineKind}
use Rattle.heading.specs.declared.walk.LineKind.TheVariants.{Quoted, Heading, Other}
use Rattle.index.specs.Index.{File}

-- "Problems 2, 3, 4 are refusals 9, 10, 11"
abbrev pub refusal_of : Problem → Place → List Refusal
refusal_of problems.NestedRegion p = NestedRegion p ∷ []
refusal_of problems.FragmentMarker p = FragmentMarker p ∷ []
refusal_of problems.UnclosedRegion p = UnclosedRegion p ∷ []
refusal_of k p = []

-- those of what a scan finds, in its order: "the first found is given, line by line, problem 4 after all others"
unfoldable pub problems_of : ℕ → List Event → List Refusal
problems_of f [] = []
problems_of f (OfSpan x ∷ es) = problems_of f es
problems_of f (OfRegion g ∷ es) = problems_of f es
problems_of f (OfProblem n k ∷ es) = refusal_of k (place f n) ++ problems_of f es

-- "Own headings: all region lines, markers included, blanked."
unfoldable pub is_within : ℕ → List Region → Bool
is_within n [] = false
is_within n (g ∷ gs) = (leb g.opener.line n && leb n g.closer.line) || is_within n gs

unfoldable pub blanked_from : ℕ → List Region → List (List ℕ) → List (List ℕ)
blanked_from n gs [] = []
blanked_from n gs (l ∷ ls) = cond (is_within n gs) [] l ∷ blanked_from (n + 1) gs ls

abbrev pub own_kinds : List Region → List (List ℕ) → List LineKind
own_kinds gs ls = kinds_from walk_begin (blanked_from 1 gs ls)

-- the level of the last heading of lines, b standing before them
abbrev pub newer : Option ℕ → LineKind → Option ℕ
newer b Quoted = b
newer b (Heading n a e) = Some n
newer b Other = b

unfoldable pub last_level : Option ℕ → List LineKind → Option ℕ
last_level b [] = b
last_level b (k ∷ ks) = last_level (newer b k) ks

-- the "nearest own heading above" a line
abbrev pub above : ℕ → List LineKind → Option ℕ
above line own = last_level None (take (line - 1) own)

-- "Target: level of the nearest own heading above, plus 1 unless peer; with none above, the shallowest own level, else 1."
abbrev pub target_level : Bool → Option ℕ → Option ℕ → ℕ
target_level peer (Some n) top = cond peer n (n + 1)
target_level peer None (Some n) = n
target_level peer None None = 1

-- 12 "peer, no own heading above"
abbrev pub peer_faults : Bool → Option ℕ → Place → List Refusal
peer_faults peer (Some n) p = []
peer_faults peer None p = cond peer (PeerWithoutHeading p ∷ []) []

-- a region of a host: "host lines from the last closer (at first, line 1) through the opener", its place, its faults so far, the name in it, and the target level
pub record HostRegion : Type 0 where
  pub host : List ℕ
  pub before : List (List ℕ)
  pub opener : Place
  pub faults : List Refusal
  pub name : List ℕ
  pub target : ℕ

-- the regions of a host in order; last the lines "from the closer on"
pub data Regions : Type 0 where
  behind : List (List ℕ) → Regions
  region : HostRegion → Regions → Regions

-- ls are the host's lines, own their kinds as own headings, and n lines stand before the last closer
unfoldable pub regions_from : File → List (List ℕ) → List LineKind → ℕ → List Region → Regions
regions_from h ls own n [] = behind (drop n ls)
regions_from h ls own n (g ∷ gs) =
    region (record {
      host = h.name;
      before = take (g.opener.line - n) (drop n ls);
      opener = place h.number g.opener.line;
      faults = peer_faults g.peer (above g.opener.line own) (place h.number g.opener.line);
      name = part g.path.start g.path.end h.text;
      target = target_level g.peer (above g.opener.line own) (shallowest_of None own);
    })
    (regions_from h ls own (g.closer.line - 1) gs)

-- what a scan of a file gives a fill: refusals 9 to 11, also with regions; no region; or regions
pub data Scanned : Type 0 where
  problem : Refusal → List Refusal → Regions → Scanned
  noRegion : List ℕ → Scanned
  regions : Regions → Scanned

abbrev pub scanned_by : List Refusal → List ℕ → Regions → Scanned
scanned_by (x ∷ xs) s rs = problem x xs rs
scanned_by [] s (behind ls) = noRegion s
scanned_by [] s (region g rs) = regions (region g rs)

abbrev pub host_regions : File → List Region → Regions
host_regions h gs = regions_from h (pieces h.text) (own_kinds gs (pieces h.text)) 0 gs

unfoldable pub scanned : File → Scanned
scanned h = scanned_by (problems_of h.number (scan h.text)) h.text (host_regions h (regions_of (scan h.text)))
