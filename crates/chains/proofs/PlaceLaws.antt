-- The places of a fill's refusals: what holds of each refusal at such a place holds of all that the walk of a chain may come to. Assumes nothing.
use Rattle.std.specs.Prelude.{Option, Some, None}
use Prim.Native.Nat.{ℕ, zero, suc, ◌+◌, ◌-◌, ◌≤◌, ◌<◌}
use native.Mathlib.Omega.{arith}
use native.Mathlib.Nat.{add-zero}
use mathlib.Core.Path.{◌≡◌, refl}
use mathlib.Core.Bool.{Bool, true, false, cond}
use mathlib.Core.List.{List, [], ◌∷◌, ◌++◌, map}
use lib.ListN.{length, get_or, set, drop}
use lib.IntN.{ℤ, pos, ◌+ℤ◌}
use Rattle.answer.specs.Answer.{place}
use Rattle.answer.specs.declared.Place.{Place}
use Rattle.answer.specs.declared.Refusal.{Refusal}
use Rattle.answer.specs.declared.Refusal.TheVariants.{NestedRegion, FragmentMarker, UnclosedRegion, PeerWithoutHeading, OnChain, Absent, Allowance, HeadingLevel, TextLimit}
use Rattle.text.specs.Lines.{Line, lines}
use Rattle.text.specs.Pattern.{equals}
use Rattle.marker.specs.declared.line.Kind.{Kind}
use Rattle.marker.specs.declared.line.Kind.TheVariants.{Plain, Fence, Fault, Closes, Opens, Spans}
use Rattle.marker.specs.declared.problem.Problem.{Problem}
use Rattle.marker.specs.declared.problem.Problem.TheVariants as problems
use Rattle.scan.specs.Scan.{Reading, read_line, stop_events, span_events, closed_by, events_of, after, kind_at, unclosed, last_of, scan_from, begin, scan, regions_of}
use Rattle.scan.specs.declared.state.Opener.{Opener}
use Rattle.scan.specs.declared.event.Event.{Event}
use Rattle.scan.specs.declared.event.Event.TheVariants.{OfSpan, OfRegion, OfProblem}
use Rattle.scan.specs.declared.event.Region.{Region}
use Rattle.scan.specs.declared.event.Span.{Span}
use Rattle.scan.specs.declared.state.State.{State}
use Rattle.heading.specs.Level.{moved_to}
use Rattle.heading.specs.declared.walk.LineKind.{LineKind}
use Rattle.heading.specs.declared.walk.LineKind.TheVariants.{Quoted, Heading, Other}
use Rattle.index.specs.Index.{Record, File, files_from, find_file}
use Rattle.walk.specs.Steps.{failed, part}
use Rattle.walk.proofs.HoldLaws.{Each, each_append, Holds, holds_go, holds_unless}
use Rattle.regions.specs.Regions.{HostRegion, Regions, behind, region, refusal_of, problems_of, peer_faults, above, regions_from, host_regions, scanned_by, scanned}
use Rattle.shift.specs.Shift.{past, past_line, past_from}
use Rattle.embedding.specs.Embed.{embed_told, embed}
use Rattle.chains.specs.Chains.{Chain, plain, Next, stop, on, file_at, next_found, next, branch, through, found, grow, headed}
use Rattle.chains.specs.Fill.{walk, walk_rest}
use Rattle.chains.proofs.GrowLaws.{next-free}

-- ---- lines of a scan count from 1: those of openers, and of problems 2 to 4

abbrev Lined : Event → Type 0
Lined (OfSpan x) = Unit {0}
Lined (OfRegion g) = 1 ≤ g.opener.line
Lined (OfProblem n k) = (k ≡ problems.UnclosedFence → ⊥) → 1 ≤ n

abbrev LinedOpen : Option Opener → Type 0
LinedOpen None = Unit {0}
LinedOpen (Some g) = 1 ≤ g.marker.line

spans_lined : (xs : List Span) → Each Lined (map OfSpan xs)
unfolding Each
spans_lined [] = tt
spans_lined (x ∷ xs) = (tt, spans_lined xs)

stop_lined : (n : ℕ) (t : Option Problem) → 1 ≤ n → Each Lined (stop_events n t)
unfolding Each
stop_lined n (Some k) h = (λ q. h, tt)
stop_lined n None h = tt

closed_lined : (n o : ℕ) (r : Option Opener) → LinedOpen r → Each Lined (closed_by n o r)
unfolding Each
closed_lined n o None h = tt
closed_lined n o (Some g) h = (h, tt)

events_lined : (st : State) (n o : ℕ) (l : List ℕ) (k : Kind) → 1 ≤ n → LinedOpen st.region → Each Lined (events_of st n o l k)
unfolding events_of span_events Each
events_lined st n o l Plain h q = tt
events_lined st n o l Fence h q = tt
events_lined st n o l (Fault k) h q = (λ z. h, tt)
events_lined st n o l Closes h q = closed_lined n o st.region q
events_lined st n o l (Opens f) h q = tt
events_lined st n o l (Spans i) h q =
    let r : Reading = read_line n (o + i) (drop i l) in
    each_append Lined (map OfSpan r.spans) (stop_events n r.stop) (spans_lined r.spans) (stop_lined n r.stop h)

after_lined : (st : State) (n o : ℕ) (k : Kind) → 1 ≤ n → LinedOpen st.region → LinedOpen (after st n o k).region
unfolding after
after_lined st n o Plain h q = q
after_lined st n o Fence h q = q
after_lined st n o (Fault k) h q = q
after_lined st n o Closes h q = tt
after_lined st n o (Opens f) h q = h
after_lined st n o (Spans i) h q = q

last_lined : (st : State) (n : ℕ) → LinedOpen st.region → Each Lined (last_of st n)
unfolding last_of Each
last_lined st n q = each_append Lined (unclosed st.region) _ (at-region st.region q) (at-fence st.fence)
  where
    at-region : (r : Option Opener) → LinedOpen r → Each Lined (unclosed r)
    at-region None q = tt
    at-region (Some g) q = (λ z. q, tt)

    at-fence : (b : Bool) → Each Lined (cond b (OfProblem n problems.UnclosedFence ∷ []) [])
    at-fence true = (λ z. absurd (z refl), tt)
    at-fence false = tt

from_lined : (st : State) (n : ℕ) (ls : List Line) → 1 ≤ n → LinedOpen st.region → Each Lined (scan_from st n ls)
unfolding scan_from
from_lined st n [] h q = last_lined st (n - 1) q
from_lined st n (l ∷ ls) h q =
    let k : Kind = kind_at st l.start l.bytes in
    each_append Lined (events_of st n l.start l.bytes k) _ (events_lined st n l.start l.bytes k h q)
    (from_lined (after st n l.start k) (n + 1) ls (omega arith) (after_lined st n l.start k h q))

scan_lined : (s : List ℕ) → Each Lined (scan s)
unfolding scan
scan_lined s = from_lined begin 1 (lines s) (omega arith) tt

regions_lined : (es : List Event) → Each Lined es → Each (λ (g : Region). 1 ≤ g.opener.line) (regions_of es)
unfolding regions_of Each
regions_lined [] h = tt
regions_lined (OfSpan x ∷ es) h = regions_lined es h.1
regions_lined (OfRegion g ∷ es) h = (h.0, regions_lined es h.1)
regions_lined (OfProblem n k ∷ es) h = regions_lined es h.1

-- ---- the refusals of a fill

-- P of 9 to 15 and 17 at a place
pub record AtLine (P : Refusal → Type 0) (p : Place) : Type 0 where
  pub nested : P (NestedRegion p)
  pub marker : P (FragmentMarker p)
  pub unclosed : P (UnclosedRegion p)
  pub peer : P (PeerWithoutHeading p)
  pub chain : P (OnChain p)
  pub absent : P (Absent p)
  pub allowance : P (Allowance p)
  pub limit : P (TextLimit p)

-- the same at each line of a file from low to n; 17 at line 0; and 16 at each line of a record's file
pub record FillPlaces (P : Refusal → Type 0) (low n : ℕ) : Type 0 where
  pub one : low ≤ 1
  pub at-line : (f l : ℕ) → low ≤ f → f ≤ n → 1 ≤ l → AtLine P (place f l)
  pub at-end : (f : ℕ) → low ≤ f → f ≤ n → P (TextLimit (place f 0))
  pub heading : (f l : ℕ) → 1 ≤ f → f ≤ n → 1 ≤ l → P (HeadingLevel (place f l))

-- 16 at each line of a file
module _ (P : Refusal → Type 0) (f : ℕ → Refusal) (h : (l : ℕ) → 1 ≤ l → P (f l)) (z : ℤ) where
  past-each : (l : ℕ) (ks : List LineKind) → 1 ≤ l → Each P (past_from f l z ks)
  unfolding past_from Each
  past-each l [] k = tt
  past-each l (x ∷ ks) k = each_append P (past_line z x (f l)) _ (at-kind x) (past-each (l + 1) ks (omega arith))
    where
      at_moved : (y : Option ℕ) → Each P (past y (f l))
      at_moved (Some m) = tt
      at_moved None = (h l k, tt)

      at-kind : (y : LineKind) → Each P (past_line z y (f l))
      at-kind Quoted = tt
      at-kind (Heading m a e) = at_moved (moved_to (pos m +ℤ z))
      at-kind Other = tt

pub past_places : (P : Refusal → Type 0) (f : ℕ → Refusal) → ((l : ℕ) → 1 ≤ l → P (f l)) → (z : ℤ) (ks : List LineKind) → Each P (past_from f 1 z ks)
past_places P f h z ks = past-each P f h z 1 ks (omega arith)

module _ {P : Refusal → Type 0} {low n : ℕ} (h : FillPlaces P low n) where
  -- 9 to 11
  problems-each : (k : ℕ) (es : List Event) → low ≤ k → k ≤ n → Each Lined es → Each P (problems_of k es)
  unfolding problems_of Each
  problems-each k [] a b q = tt
  problems-each k (OfSpan x ∷ es) a b q = problems-each k es a b q.1
  problems-each k (OfRegion g ∷ es) a b q = problems-each k es a b q.1
  problems-each k (OfProblem l j ∷ es) a b q = each_append P (refusal_of j (place k l)) _ (at-problem j q.0) (problems-each k es a b q.1)
    where
      at-problem : (i : Problem) → ((i ≡ problems.UnclosedFence → ⊥) → 1 ≤ l) → Each P (refusal_of i (place k l))
      at-problem problems.NestedRegion f = ((h.at-line k l a b (f (λ e. let z : ◌≡◌ {A = ℕ} 0 1 = cc in omega arith))).nested, tt)
      at-problem problems.FragmentMarker f = ((h.at-line k l a b (f (λ e. let z : ◌≡◌ {A = ℕ} 0 1 = cc in omega arith))).marker, tt)
      at-problem problems.UnclosedRegion f = ((h.at-line k l a b (f (λ e. let z : ◌≡◌ {A = ℕ} 0 1 = cc in omega arith))).unclosed, tt)
      at-problem i f = tt

  -- a region's own place, and 12
  record Good (g : HostRegion) : Type 0 where
    here : AtLine P g.opener
    faults : Each P g.faults

  unfoldable AllGood : Regions → Type 0
  AllGood (behind ls) = Unit {0}
  AllGood (region g rs) = Good g × AllGood rs

  peer-each : (peer : Bool) (b : Option ℕ) (p : Place) → AtLine P p → Each P (peer_faults peer b p)
  unfolding Each
  peer-each peer (Some m) p q = tt
  peer-each true None p q = (q.peer, tt)
  peer-each false None p q = tt

  regions-good : (f : File) → low ≤ f.number → f.number ≤ n → (ls : List (List ℕ)) (own : List LineKind) (k : ℕ) (gs : List Region) → Each (λ (g : Region). 1 ≤ g.opener.line) gs
      → AllGood (regions_from f ls own k gs)
  unfolding regions_from Each AllGood
  regions-good f a b ls own k [] q = tt
  regions-good f a b ls own k (g ∷ gs) q =
      let p : AtLine P (place f.number g.opener.line) = h.at-line f.number g.opener.line a b q.0 in
      (record { here = p; faults = peer-each g.peer (above g.opener.line own) _ p }, regions-good f a b ls own (g.closer.line - 1) gs q.1)

  -- ---- the walk at the regions of a host, where the files of S have numbers from 1 to n

  -- of a text or of lines that are made nothing is said
  abbrev Whole : List ℕ → Type 0
  Whole t = Unit {0}

  abbrev Lines : List (List ℕ) → Type 0
  Lines ls = Unit {0}

  abbrev NextGood : Next → Type 0
  NextGood (stop x) = P x
  NextGood (on d) = Unit {0}

  next-good : (S : List File) (top : List ℕ) (m : List Bool) (g : HostRegion) → AtLine P g.opener → NextGood (next S top m g)
  unfolding next
  next-good S top m g p = at_name (equals top g.name) (find_file g.name S)
    where
      at_mark : (d : ℕ) (b : Bool) → NextGood (cond b (stop (OnChain g.opener)) (on d))
      at_mark d true = p.chain
      at_mark d false = tt

      at_name : (b : Bool) (o : Option ℕ) → NextGood (cond b (stop (OnChain g.opener)) (next_found m g.opener o))
      at_name true o = p.chain
      at_name false (Some d) = at_mark d (get_or m d false)
      at_name false None = p.absent

  embed-each : (g : HostRegion) (d : ℕ) (v : List ℕ) → 1 ≤ d → d ≤ n → Holds P Lines (part (embed g d v))
  unfolding embed embed_told
  embed-each g d v a b = holds_unless P Lines _ _ (past_places P (λ l. HeadingLevel (place d l)) (λ l k. h.heading d l a b k) _ _) tt

  module _ (S : List File) (numbers : (d : ℕ) → d < length S → (1 ≤ (file_at S d).number) × ((file_at S d).number ≤ n)) (top : List ℕ) (m : List Bool) (k : ℕ) (a : low ≤ k) (b : k ≤ n)
      (more : ℕ → Chain) (deeper : (d : ℕ) → d < length S → Holds P Whole (walk (more d))) where
    rest-holds : (rs : Regions) (ls : List (List ℕ)) → AllGood rs → Holds P Whole (walk_rest (through S top m k more rs) ls)
    unfolding through walk_rest Holds AllGood
    rest-holds (behind us) ls q = ((λ l. h.at-end k a b), tt)
    rest-holds (region g rs) ls q = at_next (next S top m g) refl (next-good S top m g q.0.here) (λ us. rest-holds rs us q.1)
      where
        head : Holds P Lines (part (headed g))
        head = holds_unless P Lines g.faults [] q.0.faults tt

        at_next : (y : Next) → next S top m g ≡ y → NextGood y → ((us : List (List ℕ)) → Holds P Whole (walk_rest (through S top m k more rs) us))
            → Holds P Whole (walk_rest (branch S g y more (through S top m k more rs)) ls)
        at_next (stop x) e p ih = ((λ l. q.0.here.limit), holds_go P Lines Whole (part (headed g)) (λ u. failed x) head (λ u z. p))
        at_next (on d) e p ih =
            let i = numbers d (next-free S top m g d e).0 in (
              (λ l. q.0.here.limit),
              holds_go P Lines Whole (part (headed g)) _ head (λ u z. (
                q.0.here.allowance,
                holds_go P Whole Whole (walk (more d)) _ (deeper d (next-free S top m g d e).0) (λ v y.
                    holds_go P Lines Whole (part (embed g (file_at S d).number v)) _ (embed-each g (file_at S d).number v i.0 i.1) (λ es x.
                    ((λ l. q.0.here.limit), ih ((ls ++ g.before) ++ es)))),
              )),
            )

    found-holds : (f : File) → low ≤ f.number → f.number ≤ n → Holds P Whole (walk (found S top m k more (scanned f)))
    unfolding scanned walk Each Holds
    found-holds f c d =
        at-scan (problems_of f.number (scan f.text)) (host_regions f (regions_of (scan f.text))) (problems-each f.number (scan f.text) c d (scan_lined f.text))
        (regions-good f c d _ _ 0 (regions_of (scan f.text)) (regions_lined (scan f.text) (scan_lined f.text)))
      where
        at-scan : (xs : List Refusal) (rs : Regions) → Each P xs → AllGood rs → Holds P Whole (walk (found S top m k more (scanned_by xs f.text rs)))
        at-scan (x ∷ xs) rs p q = p.0
        at-scan [] (behind ls) p q = tt
        at-scan [] (region g rs) p q = rest-holds (region g rs) [] q

  -- of every chain
  module _ (S : List File) (numbers : (d : ℕ) → d < length S → (1 ≤ (file_at S d).number) × ((file_at S d).number ≤ n)) (top : List ℕ) where
    pub grow_holds : (i : ℕ) (m : List Bool) (f : File) → low ≤ f.number → f.number ≤ n → Holds P Whole (walk (grow i S top m f))
    unfolding grow walk Holds
    grow_holds zero m f a b = found-holds S numbers top m f.number a b (λ d. plain []) (λ d l. tt) f a b
    grow_holds (suc i) m f a b =
        found-holds S numbers top m f.number a b (λ d. grow i S top (set m d true) (file_at S d))
        (λ d l. let q = numbers d l in grow_holds i (set m d true) (file_at S d) (omega (arith, h.one)) q.1) f a b

-- the numbers of a file set
pub set_number : (k : ℕ) (contents : List ℕ) (rs : List Record) (d : ℕ) → d < length (files_from k contents rs) → (file_at (files_from k contents rs) d).number ≡ k + d
unfolding files_from
set_number k contents [] d h = absurd (omega arith)
set_number k contents (r ∷ rs) zero h = rw add-zero
set_number k contents (r ∷ rs) (suc d) h = let e : k + suc d ≡ (k + 1) + d = omega arith in rw e (set_number (k + 1) contents rs d (omega arith))
