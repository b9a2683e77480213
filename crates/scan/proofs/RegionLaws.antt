-- Laws of `specs/Regions.antt`: the regions among what a scan finds, line by line. Assumes nothing.
use Rattle.std.specs.Prelude.{Option, Some, None, is_some}
use Prim.Native.Nat.{ℕ, ◌+◌, ◌≤◌}
use native.Mathlib.Omega.{arith}
use mathlib.Core.Path.{◌≡◌, refl, sym, ap, ◌∙◌}
use mathlib.Core.Bool.{Bool, true, false, false≢true}
use mathlib.Core.List.{List, [], ◌∷◌, ◌++◌, map}
use lib.ListN.{length, drop}
use Rattle.text.specs.Bytes.{part}
use Rattle.text.specs.Lines.{lines_from}
use Rattle.scan.specs.Scan.{read_line, stop_events, span_events, events_of, after, kind_at, last_of, scan_from, regions_of}
use Rattle.scan.specs.Regions.{regions_from, FoundRegion, closed_at}
use Rattle.scan.specs.Skip.{Sought}
use Rattle.scan.specs.declared.event.Event.{Event}
use Rattle.scan.specs.declared.event.Event.TheVariants.{OfSpan, OfRegion, OfProblem}
use Rattle.scan.specs.declared.event.Region.{Region}
use Rattle.scan.specs.declared.event.Span.{Span}
use Rattle.marker.specs.declared.line.Kind.{Kind}
use Rattle.marker.specs.declared.line.Kind.TheVariants.{Plain, Fence, Fault, Closes, Opens, Spans}
use Rattle.scan.specs.declared.region.Cursor.{Cursor}
use Rattle.marker.specs.declared.problem.Problem.{Problem}
use Rattle.scan.specs.declared.state.Opener.{Opener}
use Rattle.scan.specs.declared.state.State.{State}
use Rattle.marker.proofs.MarkerLaws.{kind-closes}
use Rattle.scan.proofs.ScanLaws.{sought_line, sought_end}

pub regions_append : (a b : List Event) → regions_of (a ++ b) ≡ regions_of a ++ regions_of b
unfolding regions_of
regions_append [] b = refl
regions_append (OfSpan x ∷ a) b = regions_append a b
regions_append (OfRegion g ∷ a) b = ap (λ (r : List Region). g ∷ r) (regions_append a b)
regions_append (OfProblem n k ∷ a) b = regions_append a b

-- a line that closes no region gives none
spans-none : (n : ℕ) (xs : List Span) (t : Option Problem) → regions_of (map OfSpan xs ++ stop_events n t) ≡ []
unfolding regions_of
spans-none n [] (Some k) = refl
spans-none n [] None = refl
spans-none n (x ∷ xs) t = spans-none n xs t

pub line-none : (st : State) (n o : ℕ) (l : List ℕ) (kind : Kind) → (kind ≡ Closes → ⊥) → regions_of (events_of st n o l kind) ≡ []
unfolding regions_of events_of span_events
line-none st n o l Plain h = refl
line-none st n o l Fence h = refl
line-none st n o l (Fault k) h = refl
line-none st n o l Closes h = absurd (h refl)
line-none st n o l (Opens p) h = refl
line-none st n o l (Spans i) h = spans-none n (read_line n (o + i) (drop i l)).spans (read_line n (o + i) (drop i l)).stop

pub last_none : (region : Option Opener) (fence : Bool) (k : ℕ) → regions_of (last_of (record { fence = fence; region = region }) k) ≡ []
unfolding regions_of last_of
last_none None true k = refl
last_none None false k = refl
last_none (Some g) true k = refl
last_none (Some g) false k = refl

-- a region is closed only where one is open, outside a fence
kind-at-closes : (st : State) (o : ℕ) (l : List ℕ) → kind_at st o l ≡ Closes → (st.fence ≡ false) × (is_some st.region ≡ true)
unfolding kind_at
kind-at-closes st o l h = kind-closes st.fence (is_some st.region) o l h

-- one turn of the search: the regions from place a on are rs
module _ (s : List ℕ) (a n k b e x : ℕ) (st : State) (rs : List Region) (i : regions_of (scan_from st (n + 1) (lines_from a (drop a s))) ≡ rs) where
  split : Sought s a n (Some (record { number = k; start = b; end = e; next = x }))
      → regions_of (events_of st k b (part b e s) (kind_at st b (part b e s))) ++ regions_of (scan_from (after st k b (kind_at st b (part b e s))) (k + 1) (lines_from x (drop x s))) ≡ rs
  split h =
      sym (regions_append (events_of st k b (part b e s) (kind_at st b (part b e s))) (scan_from (after st k b (kind_at st b (part b e s))) (k + 1) (lines_from x (drop x s))))
      ∙ ap regions_of (sym (sought_line s a n k b e x st h))
      ∙ i

  pub region_on : {kind : Kind} {next : State} → Sought s a n (Some (record { number = k; start = b; end = e; next = x })) → kind ≡ kind_at st b (part b e s) → (kind ≡ Closes → ⊥) → next ≡ after st k b kind
      → regions_of (scan_from next (k + 1) (lines_from x (drop x s))) ≡ rs
  region_on {kind} h ek c en = rw (en, ek) (rw (line-none st k b (part b e s) (kind_at st b (part b e s)) (λ q. c (ek ∙ q))) at (split h))

  pub region_none : Sought s a n None → rs ≡ []
  region_none h = sym i ∙ ap regions_of (sought_end s a n st h) ∙ last_none st.region st.fence (n + length (lines_from a (drop a s)))

  pub region_found : (from : Cursor) → rs ≡ regions_from s from → from.at ≤ a → Sought s a n (Some (record { number = k; start = b; end = e; next = x })) → Closes ≡ kind_at st b (part b e s)
      → FoundRegion s from (closed_at st.region k b x)
  unfolding events_of after regions_of
  region_found from q f h c = go st.region refl
    where
      w : (st.fence ≡ false) × (is_some st.region ≡ true)
      w = kind-at-closes st b (part b e s) (sym c)

      go : (region : Option Opener) → st.region ≡ region → FoundRegion s from (closed_at region k b x)
      go None r = absurd (false≢true (rw r at w.1))
      go (Some g) r = (sym q ∙ sym (rw (← c, w.0, r) at (split h)), (omega (arith, h.1), (h.1.1.1.1.0, h.1.1.1.1.1)))
