-- Laws of `specs/Marker.antt`: where a span lies, and what follows from the kind of a line. Assumes nothing.
use Rattle.std.specs.Prelude.{Option, Some, None}
use Prim.Native.Nat.{ℕ, ◌+◌, ◌≤◌, ◌<◌}
use native.Mathlib.Omega.{arith}
use mathlib.Core.Path.{◌≡◌, refl, subst}
use mathlib.Core.Bool.{Bool, true, false, cond, ◌&&◌}
use mathlib.Core.List.{List}
use lib.ListN.{length, take, drop, length-drop}
use lib.Dec.{eqb}
use Rattle.marker.specs.declared.line.Fragment.{Fragment}
use Rattle.text.specs.declared.part.Part.{Part}
use Rattle.text.specs.Pattern.{bytes, starts_with, equals, find, contains}
use Rattle.text.specs.Space.{trim}
use Rattle.text.proofs.PatternLaws.{find-within, contains_nothing}
use Rattle.marker.specs.declared.problem.Problem.TheVariants.{MarkerInFence, FragmentMarker, StrayCloser, NestedMarker, EmptySpec}
use Rattle.marker.specs.declared.line.Kind.{Kind}
use Rattle.fence.specs.Fences.{is_fence}
use Rattle.marker.specs.declared.line.Kind.TheVariants.{Plain, Fence, Fault, Closes, Opens, Spans}
use Rattle.marker.specs.declared.span.Mark.{Mark}
use Rattle.marker.specs.declared.span.Mark.TheVariants.{Marked, Problem, End}
use Rattle.marker.specs.Marker.{OPEN, SPEC-END, CLOSE, OPEN-FRAGMENT, text_of, spec_of, mark_of, first_of, next_mark, fragment_of, fragment_kind, marked_kind, kind_of}

-- a span's text ends past lo, and its closer ends by hi
abbrev Ends : ℕ → ℕ → Mark → Type 0
Ends lo hi (Marked a t) = (lo < t.end) × (t.end + 10 ≤ hi)
Ends lo hi (Problem k) = Unit {0}
Ends lo hi End = Unit {0}

weaken : (lo lo' hi hi' : ℕ) (m : Mark) → lo' ≤ lo → hi ≤ hi' → Ends lo hi m → Ends lo' hi' m
weaken lo lo' hi hi' (Marked a t) p q h = omega arith
weaken lo lo' hi hi' (Problem k) p q h = tt
weaken lo lo' hi hi' End p q h = tt

ends-text : (o j : ℕ) (b : List ℕ) → Ends o (o + j + 4 + length b) (text_of o j b (find CLOSE b))
unfolding text_of
ends-text o j b = go (find CLOSE b) refl
  where
    by : (k : ℕ) (x y : Bool) → k + 10 ≤ length b
        → Ends o (o + j + 4 + length b) (cond x (Problem NestedMarker) (cond y (Problem EmptySpec) (Marked (record { start = o; end = o + j }) (record { start = o + j + 4; end = o + j + 4 + k }))))
    by k true y h = tt
    by k false true h = tt
    by k false false h = omega arith

    go : (f : Option ℕ) → find CLOSE b ≡ f → Ends o (o + j + 4 + length b) (text_of o j b f)
    go (Some k) e = by k (contains OPEN (take k b)) (eqb j 0) (find-within CLOSE b k e)
    go None e = tt

ends-mark : (o : ℕ) (b : List ℕ) → Ends o (o + length b) (mark_of o b)
unfolding mark_of spec_of
ends-mark o b = by (starts_with (bytes "/") b) (go (find SPEC-END b) refl)
  where
    go : (f : Option ℕ) → find SPEC-END b ≡ f → Ends o (o + length b) (spec_of o b f)
    go (Some j) e =
        let r : List ℕ = drop (j + 4) b in
        weaken o o (o + j + 4 + length r) (o + length b) (text_of o j r (find CLOSE r)) (omega arith)
        (omega (arith, length-drop (j + 4) b, find-within SPEC-END b j e))
        (ends-text o j r)
    go None e = tt

    by : (x : Bool) → Ends o (o + length b) (spec_of o b (find SPEC-END b)) → Ends o (o + length b) (cond x (Problem StrayCloser) (spec_of o b (find SPEC-END b)))
    by true h = tt
    by false h = h

ends_next : (o : ℕ) (r : List ℕ) → Ends o (o + length r) (next_mark o r)
unfolding next_mark first_of
ends_next o r = go (find OPEN r) refl
  where
    go : (f : Option ℕ) → find OPEN r ≡ f → Ends o (o + length r) (first_of o r f)
    go (Some i) e =
        let b : List ℕ = drop (i + 5) r in
        weaken (o + i + 5) o (o + i + 5 + length b) (o + length r) (mark_of (o + i + 5) b) (omega arith)
        (omega (arith, length-drop (i + 5) r, find-within OPEN r i e))
        (ends-mark (o + i + 5) b)
    go None e = tt

-- a span that is read ends within the line, past where the reading began
pub mark-within : (o : ℕ) (r : List ℕ) (a t : Part) → next_mark o r ≡ Marked a t → (o < t.end) × (t.end + 10 ≤ o + length r)
mark-within o r a t q = subst (Ends o (o + length r)) q (ends_next o r)

-- spans are read from a place of the line, and a region closes only outside a fence and where one is open
abbrev Fits : Bool → Bool → List ℕ → Kind → Type 0
Fits fence inside l Plain = Unit {0}
Fits fence inside l Fence = Unit {0}
Fits fence inside l (Fault k) = Unit {0}
Fits fence inside l Closes = (fence ≡ false) × (inside ≡ true)
Fits fence inside l (Opens p) = Unit {0}
Fits fence inside l (Spans i) = i ≤ length l

fits_fragment : (fence inside : Bool) (i : ℕ) (l : List ℕ) (f : Option Fragment) → i ≤ length l → Fits fence inside l (fragment_kind inside i l f)
unfolding fragment_kind
fits_fragment fence true i l (Some p) h = tt
fits_fragment fence false i l (Some p) h = tt
fits_fragment fence inside i l None h = by (contains OPEN-FRAGMENT l)
  where
    by : (x : Bool) → Fits fence inside l (cond x (Fault FragmentMarker) (Spans i))
    by true = tt
    by false = h

fits-kind : (fence inside : Bool) (o : ℕ) (l : List ℕ) → Fits fence inside l (kind_of fence inside o l)
unfolding kind_of marked_kind
fits-kind fence inside o l = by (is_fence l) (go (find OPEN l) refl)
  where
    marked : (a b c : Bool) (k : Kind) → Fits a b l k → Fits a b l (cond a (Fault MarkerInFence) (cond (b && c) Closes k))
    marked true b c k h = tt
    marked false true true k h = (refl, refl)
    marked false true false k h = h
    marked false false c k h = h

    go : (f : Option ℕ) → find OPEN l ≡ f → Fits fence inside l (marked_kind fence inside o l f)
    go (Some i) e = marked fence inside (equals CLOSE (trim l)) (fragment_kind inside i l (fragment_of o l))
        (fits_fragment fence inside i l (fragment_of o l) (omega (arith, find-within OPEN l i e)))
    go None e = tt

    by : (x : Bool) → Fits fence inside l (marked_kind fence inside o l (find OPEN l))
        → Fits fence inside l (cond x Fence (marked_kind fence inside o l (find OPEN l)))
    by true h = tt
    by false h = h

pub kind-spans : (fence inside : Bool) (o i : ℕ) (l : List ℕ) → kind_of fence inside o l ≡ Spans i → i ≤ length l
kind-spans fence inside o i l e = subst (Fits fence inside l) e (fits-kind fence inside o l)

pub kind-closes : (fence inside : Bool) (o : ℕ) (l : List ℕ) → kind_of fence inside o l ≡ Closes → (fence ≡ false) × (inside ≡ true)
kind-closes fence inside o l e = subst (Fits fence inside l) e (fits-kind fence inside o l)

-- a line that is no fence and holds no marker is plain
pub kind-plain : (fence inside : Bool) (o : ℕ) (l : List ℕ) → is_fence l ≡ false → contains OPEN l ≡ false → kind_of fence inside o l ≡ Plain
unfolding kind_of marked_kind
kind-plain fence inside o l p q = rw (p, contains_nothing OPEN l q)
