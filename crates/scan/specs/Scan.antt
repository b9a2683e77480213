-- Document 01, "Marker scan", for a whole text: what is open at a line, what a line gives, and all that a scan finds.
use Rattle.std.specs.Prelude.{ℕ, zero, suc, ◌+◌, ◌-◌, false, cond, not, List, [], ◌∷◌, ◌++◌, map, length, drop, Option, Some, None, is_some}
use Rattle.text.specs.declared.part.Part.{Part}
use Rattle.text.specs.Lines.{Line, lines}
use Rattle.marker.specs.Marker.{kind_of, next_mark}
use Rattle.marker.specs.declared.line.Kind.{Kind}
use Rattle.marker.specs.declared.line.Kind.TheVariants.{Plain, Fence, Fault, Closes, Opens, Spans}
use Rattle.marker.specs.declared.span.Mark.{Mark}
use Rattle.marker.specs.declared.span.Mark.TheVariants.{Marked, Problem, End}
use Rattle.marker.specs.declared.problem.Problem as problems
use Rattle.marker.specs.declared.problem.Problem.TheVariants.{UnclosedRegion, UnclosedFence}
use Rattle.scan.specs.declared.event.Span.{Span}
use Rattle.scan.specs.declared.event.Region.{Region}
use Rattle.scan.specs.declared.event.Event.{Event}
use Rattle.scan.specs.declared.event.Event.TheVariants.{OfSpan, OfRegion, OfProblem}
use Rattle.scan.specs.declared.state.Opener.{Opener}
use Rattle.scan.specs.declared.state.State.{State}

-- "spans are read left to right, stopping the line at its first problem": the spans of a line, and the problem that stopped the reading, where one did
pub record Reading : Type 0 where
  pub spans : List Span
  pub stop : Option problems.Problem

abbrev pub stopped : Option problems.Problem → Reading
stopped t = record { spans = []; stop = t }

abbrev pub then_read : Span → Reading → Reading
then_read x r = record { spans = x ∷ r.spans; stop = r.stop }

-- a span of line n: where its spec and its text stand
abbrev pub span_of : ℕ → Part → Part → Span
span_of n a t = record { line = n; spec = a; text = t }

-- what is read at place o of line n; after a span the line is read on from its closer's end
unfoldable pub read_by : ℕ → ℕ → (ℕ → Reading) → Mark → Reading
read_by n o more End = stopped None
read_by n o more (Problem k) = stopped (Some k)
read_by n o more (Marked a t) = then_read (span_of n a t) (more (t.end + 10))

-- r is what is left of line n from place o on; at most f spans are read
unfoldable pub read_from : ℕ → ℕ → ℕ → List ℕ → Reading
read_from zero n o r = stopped None
read_from (suc f) n o r = read_by n o (λ p. read_from f n p (drop (p - o) r)) (next_mark o r)

-- a span takes up bytes, so a line has no more spans than bytes
unfoldable pub read_line : ℕ → ℕ → List ℕ → Reading
read_line n o l = read_from (length l) n o l

abbrev pub stop_events : ℕ → Option problems.Problem → List Event
stop_events n (Some k) = OfProblem n k ∷ []
stop_events n None = []

-- what the reading of line n from place o on, l, gives
unfoldable pub span_events : ℕ → ℕ → List ℕ → List Event
span_events n o l = map OfSpan (read_line n o l).spans ++ stop_events n (read_line n o l).stop

-- the region that line n, at place o, closes
abbrev pub region_of : ℕ → ℕ → Opener → Region
region_of n o g = record { opener = g.marker; closer = record { line = n; at = o }; path = g.path; peer = g.peer }

abbrev pub closed_by : ℕ → ℕ → Option Opener → List Event
closed_by n o None = []
closed_by n o (Some g) = OfRegion (region_of n o g) ∷ []

-- what line n, l, at place o and of a kind, gives
unfoldable pub events_of : State → ℕ → ℕ → List ℕ → Kind → List Event
events_of st n o l Plain = []
events_of st n o l Fence = []
events_of st n o l (Fault k) = OfProblem n k ∷ []
events_of st n o l Closes = closed_by n o st.region
events_of st n o l (Opens p) = []
events_of st n o l (Spans i) = span_events n (o + i) (drop i l)

-- and what is open after it
unfoldable pub after : State → ℕ → ℕ → Kind → State
after st n o Plain = st
after st n o Fence = record { fence = not st.fence; region = st.region }
after st n o (Fault k) = st
after st n o Closes = record { fence = st.fence; region = None }
after st n o (Opens p) = record {
  fence = st.fence;
  region = Some (record { marker = record { line = n; at = o }; path = p.path; peer = p.peer });
}
after st n o (Spans i) = st

unfoldable pub kind_at : State → ℕ → List ℕ → Kind
kind_at st o l = kind_of st.fence (is_some st.region) o l

-- "Problems at the end: 4 (unclosed region), then 5 (unclosed fence, at the last line)."
abbrev pub unclosed : Option Opener → List Event
unclosed None = []
unclosed (Some g) = OfProblem g.marker.line UnclosedRegion ∷ []

unfoldable pub last_of : State → ℕ → List Event
last_of st last = unclosed st.region ++ cond st.fence (OfProblem last UnclosedFence ∷ []) []

-- all that a scan finds from line n on
unfoldable pub scan_from : State → ℕ → List Line → List Event
scan_from st n [] = last_of st (n - 1)
scan_from st n (l ∷ ls) =
    events_of st n l.start l.bytes (kind_at st l.start l.bytes)
    ++ scan_from (after st n l.start (kind_at st l.start l.bytes)) (n + 1) ls

abbrev pub begin : State
begin = record { fence = false; region = None }

unfoldable pub scan : List ℕ → List Event
scan s = scan_from begin 1 (lines s)

-- the regions among what a scan finds
unfoldable pub regions_of : List Event → List Region
regions_of [] = []
regions_of (OfSpan x ∷ es) = regions_of es
regions_of (OfRegion g ∷ es) = g ∷ regions_of es
regions_of (OfProblem n k ∷ es) = regions_of es
