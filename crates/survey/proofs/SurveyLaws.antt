-- Laws of `specs/Surveys.antt`: what a survey gathers is what `scanned` says; a turn of the survey; the text's end. Assumes nothing.
use Rattle.std.specs.Prelude.{Option, Some, None, Result, Ok, Err, is_some}
use Prim.Native.Nat.{ℕ, zero, suc, ◌+◌, ◌-◌}
use native.Mathlib.Omega.{arith}
use mathlib.Core.Path.{◌≡◌, refl, sym, ap, ◌∙◌, subst}
use mathlib.Core.Bool.{Bool, true, false, cond, ◌&&◌, ◌||◌, false≢true, or-true, or-false}
use mathlib.Core.List.{List, [], ◌∷◌, ◌++◌, map}
use lib.ListN.{length, take, drop}
use lib.Dec.{eqb}
use Rattle.marker.specs.declared.line.Fragment.{Fragment}
use Rattle.answer.specs.Answer.{place}
use Rattle.answer.specs.declared.Place.{Place}
use Rattle.answer.specs.declared.Refusal.{Refusal}
use Rattle.text.specs.Bytes.{part}
use Rattle.text.specs.Pattern.{starts_with, bytes, find, contains, equals}
use Rattle.text.specs.Space.{trim}
use Rattle.text.specs.Lines.{lines_from}
use Rattle.fence.specs.Fences.{is_fence}
use Rattle.marker.specs.Marker.{OPEN, SPEC-END, CLOSE, OPEN-FRAGMENT, text_of, spec_of, mark_of, first_of, next_mark, fragment_of, fragment_kind, marked_kind, kind_of}
use Rattle.marker.specs.declared.problem.Problem as problems
use Rattle.marker.specs.declared.problem.Problem.TheVariants.{MarkerInFence, NestedRegion, FragmentMarker, StrayCloser, NestedMarker, EmptySpec}
use Rattle.marker.specs.declared.line.Kind.{Kind}
use Rattle.marker.specs.declared.line.Kind.TheVariants.{Plain, Fence, Fault, Closes, Opens, Spans}
use Rattle.marker.specs.declared.span.Mark.{Mark}
use Rattle.marker.specs.declared.span.Mark.TheVariants.{Marked, Problem, End}
use Rattle.marker.proofs.MarkerLaws.{kind-closes}
use Rattle.scan.specs.Scan.{read_by, read_from, read_line, stop_events, span_events, closed_by, events_of, after, kind_at, last_of, scan_from, scan, regions_of}
use Rattle.scan.specs.Skip.{Sought}
use Rattle.scan.specs.declared.event.Event.{Event}
use Rattle.scan.specs.declared.event.Event.TheVariants.{OfSpan, OfRegion, OfProblem}
use Rattle.scan.specs.declared.event.Region.{Region}
use Rattle.scan.specs.declared.event.Span.{Span}
use Rattle.scan.specs.declared.state.Opener.{Opener}
use Rattle.scan.specs.declared.state.State.{State}
use Rattle.scan.proofs.ScanLaws.{sought_line, sought_end}
use Rattle.index.specs.Index.{File, file_of}
use Rattle.regions.specs.Regions as regions
use Rattle.regions.specs.Regions.{refusal_of, problems_of, regions_from, scanned_by, scanned}
use Rattle.survey.specs.Surveys.{survey_of, wrong_or, survey_from, refusal_at, closes, survey_end}
use Rattle.regions.specs.Hosts.{host_rest, start_cursor}
use Rattle.survey.specs.declared.Surveyed.{Surveyed}
use Rattle.survey.specs.declared.Surveyed.TheVariants.{NoRegion, Regions}

-- a problem that refuses nothing, as those of spans
abbrev Silent : problems.Problem → Type 0
Silent k = (p : Place) → refusal_of k p ≡ []

abbrev LateMark : Mark → Type 0
LateMark (Marked a t) = Unit {0}
LateMark (Problem k) = Silent k
LateMark End = Unit {0}

late_text : (o j : ℕ) (b : List ℕ) (f : Option ℕ) → LateMark (text_of o j b f)
unfolding text_of
late_text o j b None = λ p. refl
late_text o j b (Some k) = go (contains OPEN (take k b)) (eqb j 0)
  where
    go : (x y : Bool) → LateMark (cond x (Problem NestedMarker) (cond y (Problem EmptySpec) (Marked (record { start = o; end = o + j }) (record { start = o + j + 4; end = o + j + 4 + k }))))
    go true y = λ p. refl
    go false true = λ p. refl
    go false false = tt

late_spec : (o : ℕ) (b : List ℕ) (f : Option ℕ) → LateMark (spec_of o b f)
unfolding spec_of
late_spec o b None = λ p. refl
late_spec o b (Some j) = late_text o j (drop (j + 4) b) (find CLOSE (drop (j + 4) b))

late_mark : (o : ℕ) (b : List ℕ) → LateMark (mark_of o b)
unfolding mark_of
late_mark o b = go (starts_with (bytes "/") b)
  where
    go : (x : Bool) → LateMark (cond x (Problem StrayCloser) (spec_of o b (find SPEC-END b)))
    go true = λ p. refl
    go false = late_spec o b (find SPEC-END b)

late_next : (o : ℕ) (r : List ℕ) → LateMark (next_mark o r)
unfolding next_mark first_of
late_next o r = go (find OPEN r)
  where
    go : (f : Option ℕ) → LateMark (first_of o r f)
    go None = tt
    go (Some i) = late_mark (o + i + 5) (drop (i + 5) r)

abbrev LateStop : Option problems.Problem → Type 0
LateStop (Some k) = Silent k
LateStop None = Unit {0}

late_read : (f n o : ℕ) (r : List ℕ) → LateStop (read_from f n o r).stop
unfolding read_from read_by
late_read zero n o r = tt
late_read (suc f) n o r = go (next_mark o r) (late_next o r) (λ p t. late_read f n p t)
  where
    go : (m : Mark) → LateMark m → ((p : ℕ) (t : List ℕ) → LateStop (read_from f n p t).stop) → LateStop (read_by n o (λ p. read_from f n p (drop (p - o) r)) m).stop
    go End h ih = tt
    go (Problem k) h ih = h
    go (Marked a t) h ih = ih (t.end + 10) (drop (t.end + 10 - o) r)

-- of a line's other problems `refusal_at` tells all refusals
abbrev told : Option Refusal → List Refusal
told (Some x) = x ∷ []
told None = []

abbrev LowKind : Kind → Type 0
LowKind Plain = Unit {0}
LowKind Fence = Unit {0}
LowKind (Fault k) = (p : Place) → refusal_of k p ≡ told (refusal_at p (Fault k))
LowKind Closes = Unit {0}
LowKind (Opens f) = Unit {0}
LowKind (Spans i) = Unit {0}

low_fragment : (inside : Bool) (i : ℕ) (l : List ℕ) (f : Option Fragment) → LowKind (fragment_kind inside i l f)
unfolding fragment_kind
low_fragment true i l (Some p) = λ q. refl
low_fragment false i l (Some p) = tt
low_fragment inside i l None = by (contains OPEN-FRAGMENT l)
  where
    by : (x : Bool) → LowKind (cond x (Fault FragmentMarker) (Spans i))
    by true = λ q. refl
    by false = tt

low_kind : (fence inside : Bool) (o : ℕ) (l : List ℕ) → LowKind (kind_of fence inside o l)
unfolding kind_of marked_kind
low_kind fence inside o l = by (is_fence l) (find OPEN l)
  where
    marked : (a b : Bool) (k : Kind) → LowKind k → LowKind (cond a (Fault MarkerInFence) (cond b Closes k))
    marked true b k h = λ q. refl
    marked false true k h = tt
    marked false false k h = h

    by : (x : Bool) (f : Option ℕ) → LowKind (cond x Fence (marked_kind fence inside o l f))
    by true f = tt
    by false (Some i) = marked fence (inside && equals CLOSE (trim l)) (fragment_kind inside i l (fragment_of o l)) (low_fragment inside i l (fragment_of o l))
    by false None = tt

-- spans and what stops their reading are passed over
spans_over : (any : Bool) (f n : ℕ) (xs : List Span) (t : Option problems.Problem) (es : List Event) → LateStop t
    → survey_from any f ((map OfSpan xs ++ stop_events n t) ++ es) ≡ survey_from any f es
unfolding survey_from
spans_over any f n [] (Some k) es h = rw (h (place f n))
spans_over any f n [] None es h = refl
spans_over any f n (x ∷ xs) t es h = spans_over any f n xs t es h

-- one line: a refusal, or what follows is surveyed
fault_wrong : (p : Place) (k : problems.Problem) (x : Refusal) (r : Result Surveyed Refusal) → refusal_at p (Fault k) ≡ Some x → wrong_or (refusal_of k p) r ≡ Err x
fault_wrong p NestedRegion x r e = cc
fault_wrong p k x r e = cc

fault_over : (p : Place) (k : problems.Problem) (r : Result Surveyed Refusal) → LowKind (Fault k) → refusal_at p (Fault k) ≡ None → wrong_or (refusal_of k p) r ≡ r
fault_over p k r h e = rw (h p, e)

line_wrong : (any : Bool) (f : ℕ) (st : State) (n o : ℕ) (l : List ℕ) (kind : Kind) (es : List Event) (x : Refusal) → refusal_at (place f n) kind ≡ Some x
    → survey_from any f (events_of st n o l kind ++ es) ≡ Err x
unfolding survey_from events_of
line_wrong any f st n o l Plain es x e = cc
line_wrong any f st n o l Fence es x e = cc
line_wrong any f st n o l (Fault k) es x e = fault_wrong (place f n) k x (survey_from any f es) e
line_wrong any f st n o l Closes es x e = cc
line_wrong any f st n o l (Opens g) es x e = cc
line_wrong any f st n o l (Spans i) es x e = cc

line_over : (any : Bool) (f : ℕ) (st : State) (n o : ℕ) (l : List ℕ) (kind : Kind) (es : List Event) → kind ≡ kind_at st o l
    → refusal_at (place f n) kind ≡ None → survey_from any f (events_of st n o l kind ++ es) ≡ survey_from (any || closes kind) f es
unfolding events_of kind_at span_events read_line survey_from
line_over any f st n o l Plain es e x = rw (or-false any)
line_over any f st n o l Fence es e x = rw (or-false any)
line_over any f st n o l (Fault k) es e x =
    let h : LowKind (Fault k) = subst LowKind (sym e) (low_kind st.fence (is_some st.region) o l) in
    fault_over (place f n) k (survey_from any f es) h x ∙ rw (or-false any)
line_over any f st n o l Closes es e x = rw (or-true any) (go st.region (kind-closes st.fence (is_some st.region) o l (sym e)).1)
  where
    go : (r : Option Opener) → is_some r ≡ true → survey_from any f (closed_by n o r ++ es) ≡ survey_from true f es
    go None q = absurd (false≢true q)
    go (Some g) q = refl
line_over any f st n o l (Opens g) es e x = rw (or-false any)
line_over any f st n o l (Spans i) es e x =
    rw (or-false any)
    (spans_over any f n (read_line n (o + i) (drop i l)).spans (read_line n (o + i) (drop i l)).stop es
    (late_read (length (drop i l)) n (o + i) (drop i l)))

last_survey : (any : Bool) (f k : ℕ) (region : Option Opener) (fence : Bool)
    → survey_from any f (last_of (record { fence = fence; region = region }) k) ≡ survey_end any f region
unfolding survey_from last_of
last_survey any f k None true = refl
last_survey any f k None false = refl
last_survey any f k (Some g) true = refl
last_survey any f k (Some g) false = refl

-- one turn of the survey of file f, whose answer is w
module _ (s : List ℕ) (a n k b e x f : ℕ) (any : Bool) (st : State) (w : Result Surveyed Refusal) (i : survey_from any f (scan_from st (n + 1) (lines_from a (drop a s))) ≡ w) where
  abbrev l : List ℕ
  l = part b e s

  turn : {kind : Kind} → Sought s a n (Some (record { number = k; start = b; end = e; next = x })) → kind ≡ kind_at st b l
      → survey_from any f (events_of st k b l kind ++ scan_from (after st k b kind) (k + 1) (lines_from x (drop x s))) ≡ w
  turn {kind} h ek = rw ek (ap (survey_from any f) (sym (sought_line s a n k b e x st h)) ∙ i)

  pub survey_on : {kind : Kind} {next : State} {more : Bool} → Sought s a n (Some (record { number = k; start = b; end = e; next = x })) → kind ≡ kind_at st b l → refusal_at (place f k) kind ≡ None
      → more ≡ closes kind → next ≡ after st k b kind
      → survey_from (any || more) f (scan_from next (k + 1) (lines_from x (drop x s))) ≡ w
  survey_on {kind} h ek p em en =
      rw (em, en) (sym (line_over any f st k b l kind (scan_from (after st k b kind) (k + 1) (lines_from x (drop x s))) ek p) ∙ turn h ek)

  pub survey_wrong : {kind : Kind} {y : Refusal} → Sought s a n (Some (record { number = k; start = b; end = e; next = x })) → kind ≡ kind_at st b l → refusal_at (place f k) kind ≡ Some y → Err y ≡ w
  survey_wrong {kind} {y} h ek q = sym (line_wrong any f st k b l kind (scan_from (after st k b kind) (k + 1) (lines_from x (drop x s))) y q) ∙ turn h ek

  pub survey_end_lem : Sought s a n None → survey_end any f st.region ≡ w
  survey_end_lem h =
      let last : ℕ = n + length (lines_from a (drop a s)) in
      sym (ap (survey_from any f) (sought_end s a n st h) ∙ last_survey any f last st.region st.fence) ∙ i

-- what was gathered, by the problems and the regions
abbrev survey_by : Bool → List Refusal → List Region → Result Surveyed Refusal
survey_by any (x ∷ xs) gs = Err x
survey_by any [] [] = cond any (Ok Regions) (Ok NoRegion)
survey_by any [] (g ∷ gs) = (Ok Regions)

by_region : (any : Bool) (xs : List Refusal) (g : Region) (gs : List Region) → survey_by true xs gs ≡ survey_by any xs (g ∷ gs)
by_region any (x ∷ xs) g gs = refl
by_region any [] g [] = refl
by_region any [] g (h ∷ gs) = refl

by_problem : (any : Bool) (xs ys : List Refusal) (gs : List Region) → wrong_or xs (survey_by any ys gs) ≡ survey_by any (xs ++ ys) gs
by_problem any [] ys gs = refl
by_problem any (x ∷ xs) ys gs = refl

by_lists : (any : Bool) (f : ℕ) (es : List Event) → survey_from any f es ≡ survey_by any (problems_of f es) (regions_of es)
unfolding survey_from problems_of regions_of
by_lists any f [] = refl
by_lists any f (OfSpan x ∷ es) = by_lists any f es
by_lists any f (OfRegion g ∷ es) = by_lists true f es ∙ by_region any (problems_of f es) g (regions_of es)
by_lists any f (OfProblem n k ∷ es) =
    ap (wrong_or (refusal_of k (place f n))) (by_lists any f es) ∙ by_problem any (refusal_of k (place f n)) (problems_of f es) (regions_of es)

-- a test for the closer's kind
pub closes-not : (kind : Kind) → (kind ≡ Closes → ⊥) → closes kind ≡ false
closes-not Plain h = refl
closes-not Fence h = refl
closes-not (Fault k) h = refl
closes-not Closes h = absurd (h refl)
closes-not (Opens f) h = refl
closes-not (Spans i) h = refl

-- the survey of a file is what `scanned` says of it
pub survey_scanned : (f : ℕ) (name s : List ℕ) → survey_from false f (scan s) ≡ survey_of (scanned (file_of f name s))
unfolding scanned regions_from
survey_scanned f name s = by_lists false f (scan s) ∙ go (problems_of f (scan s)) (regions_of (scan s))
  where
    go : (xs : List Refusal) (gs : List Region) → survey_by false xs gs ≡ survey_of (scanned_by xs s (regions.host_regions (file_of f name s) gs))
    go (x ∷ xs) gs = refl
    go [] [] = refl
    go [] (g ∷ gs) = refl

-- for callers: what `scanned` is, by the answer. Regions: those from the start on
pub survey_regions : (h : File) → survey_of (scanned h) ≡ (Ok Regions) → scanned h ≡ regions.regions (host_rest h start_cursor)
unfolding scanned host_rest scan
survey_regions h e = go (problems_of h.number (scan h.text)) (host_rest h start_cursor) e
  where
    go : (xs : List Refusal) (rs : regions.Regions) → survey_of (scanned_by xs h.text rs) ≡ (Ok Regions) → scanned_by xs h.text rs ≡ regions.regions rs
    go (x ∷ xs) rs q = let z : ◌≡◌ {A = ℕ} 0 1 = cc in absurd (omega arith)
    go [] (regions.behind ls) q = let z : ◌≡◌ {A = ℕ} 0 1 = cc in absurd (omega arith)
    go [] (regions.region g rs) q = refl

-- no region
pub survey_none : (h : File) → survey_of (scanned h) ≡ (Ok NoRegion) → scanned h ≡ regions.noRegion h.text
unfolding scanned
survey_none h e = go (problems_of h.number (scan h.text)) (regions.host_regions h (regions_of (scan h.text))) e
  where
    go : (xs : List Refusal) (rs : regions.Regions) → survey_of (scanned_by xs h.text rs) ≡ (Ok NoRegion) → scanned_by xs h.text rs ≡ regions.noRegion h.text
    go (x ∷ xs) rs q = let z : ◌≡◌ {A = ℕ} 0 1 = cc in absurd (omega arith)
    go [] (regions.behind ls) q = refl
    go [] (regions.region g rs) q = let z : ◌≡◌ {A = ℕ} 0 1 = cc in absurd (omega arith)

-- a problem, the first of those that there are
pub record IsProblem (h : File) (x : Refusal) : Type 0 where
  pub others : List Refusal
  pub behind : regions.Regions
  pub is : scanned h ≡ regions.problem x others behind

pub survey_problem : (h : File) {x : Refusal} → survey_of (scanned h) ≡ Err x → IsProblem h x
survey_problem h {x} e = go (scanned h) refl e
  where
    go : (r : regions.Scanned) → scanned h ≡ r → survey_of r ≡ Err x → IsProblem h x
    go (regions.problem y ys rs) p q =
        let z : y ≡ x = cc in
        record { others = ys; behind = rs; is = rw z at p }
    go (regions.noRegion s) p q = let z : ◌≡◌ {A = ℕ} 0 1 = cc in absurd (omega arith)
    go (regions.regions rs) p q = let z : ◌≡◌ {A = ℕ} 0 1 = cc in absurd (omega arith)
