-- Document 01, "Marker scan", for one line: fragment markers, spans, and what a line is. A line is a list of bytes; o is the place of its first byte.
use Rattle.std.specs.Prelude.{ℕ, ◌+◌, ◌-◌, Bool, true, false, cond, ◌&&◌, ◌||◌, List, length, take, drop, eqb, Option, Some, None}
use Rattle.marker.specs.declared.line.Fragment.{Fragment}
use Rattle.text.specs.Pattern.{bytes, starts_with, ends_with, equals, find, contains}
use Rattle.text.specs.Space.{lead, trim}
use Rattle.fence.specs.Fences.{is_fence}
use Rattle.marker.specs.declared.problem.Problem.TheVariants.{MarkerInFence, NestedRegion, FragmentMarker, StrayCloser, UnclosedSpec, UnclosedSpan, NestedMarker, EmptySpec}
use Rattle.marker.specs.declared.line.Kind.{Kind}
use Rattle.marker.specs.declared.line.Kind.TheVariants.{Plain, Fence, Fault, Closes, Opens, Spans}
use Rattle.marker.specs.declared.span.Mark.{Mark}
use Rattle.marker.specs.declared.span.Mark.TheVariants.{Marked, Problem, End}

-- `<!--[` opens a marker, `]-->` ends its spec, `<!--[/]-->` closes a span or a region
abbrev pub OPEN : List ℕ
OPEN = bytes "<!--["

abbrev pub SPEC-END : List ℕ
SPEC-END = bytes "]-->"

abbrev pub CLOSE : List ℕ
CLOSE = bytes "<!--[/]-->"

abbrev pub OPEN-FRAGMENT : List ℕ
OPEN-FRAGMENT = bytes "<!--[fragment:"

-- "P not empty and without `:` or `]-->`": a path p at place o
unfoldable pub path_of : ℕ → Bool → List ℕ → Option Fragment
path_of o peer p =
    cond (eqb (length p) 0 || contains SPEC-END p || contains (bytes ":") p) None
    (Some (record { path = record { start = o; end = o + length p }; peer = peer }))

-- what stands at place o between `<!--[fragment:` and `]-->`: P, or P and `:peer`
unfoldable pub named_of : ℕ → List ℕ → Option Fragment
named_of o x =
    cond (ends_with (bytes ":peer") x) (path_of o true (take (length x - 5) x))
    (path_of o false x)

-- what stands at place o after `<!--[fragment:`
unfoldable pub rest_of : ℕ → List ℕ → Option Fragment
rest_of o x = cond (ends_with SPEC-END x) (named_of o (take (length x - 4) x)) None

-- "alone as `<!--[fragment:P]-->` or `<!--[fragment:P:peer]-->`": t is the trimmed line, at place o
unfoldable pub alone_of : ℕ → List ℕ → Option Fragment
alone_of o t = cond (starts_with OPEN-FRAGMENT t) (rest_of (o + 14) (drop 14 t)) None

unfoldable pub fragment_of : ℕ → List ℕ → Option Fragment
fragment_of o l = alone_of (o + lead l) (trim l)

-- "Span problems, in this order at each `<!--[`": b is what stands after it on the line, at place o
-- "8 no later `<!--[/]-->` on the line; 9 the text between holds `<!--[`; 10 empty spec": b is what stands after a spec of j bytes and its `]-->`
unfoldable pub text_of : ℕ → ℕ → List ℕ → Option ℕ → Mark
text_of o j b None = Problem UnclosedSpan
text_of o j b (Some k) =
    cond (contains OPEN (take k b)) (Problem NestedMarker)
    (cond (eqb j 0) (Problem EmptySpec)
    (Marked (record { start = o; end = o + j }) (record { start = o + j + 4; end = o + j + 4 + k })))

-- "7 no later `]-->`"
unfoldable pub spec_of : ℕ → List ℕ → Option ℕ → Mark
spec_of o b None = Problem UnclosedSpec
spec_of o b (Some j) = text_of o j (drop (j + 4) b) (find CLOSE (drop (j + 4) b))

-- "6 a `/` directly after it"
unfoldable pub mark_of : ℕ → List ℕ → Mark
mark_of o b = cond (starts_with (bytes "/") b) (Problem StrayCloser) (spec_of o b (find SPEC-END b))

-- the first marker of r, the rest of a line from place o on
unfoldable pub first_of : ℕ → List ℕ → Option ℕ → Mark
first_of o r None = End
first_of o r (Some i) = mark_of (o + i + 5) (drop (i + 5) r)

unfoldable pub next_mark : ℕ → List ℕ → Mark
next_mark o r = first_of o r (find OPEN r)

-- "a region opens (problem 2 if one is open); any other `<!--[fragment:` is 3; else spans are read", from the first marker on, at place i of the line
unfoldable pub fragment_kind : Bool → ℕ → List ℕ → Option Fragment → Kind
fragment_kind inside i l (Some p) = cond inside (Fault NestedRegion) (Opens p)
fragment_kind inside i l None = cond (contains OPEN-FRAGMENT l) (Fault FragmentMarker) (Spans i)

-- "if it holds `<!--[`: in a fence, problem 1; in an open region and trimmed to `<!--[/]-->`, the region closes"
unfoldable pub marked_kind : Bool → Bool → ℕ → List ℕ → Option ℕ → Kind
marked_kind fence inside o l None = Plain
marked_kind fence inside o l (Some i) =
    cond fence (Fault MarkerInFence)
    (cond (inside && equals CLOSE (trim l)) Closes
    (fragment_kind inside i l (fragment_of o l)))

unfoldable pub kind_of : Bool → Bool → ℕ → List ℕ → Kind
kind_of fence inside o l = cond (is_fence l) Fence (marked_kind fence inside o l (find OPEN l))
