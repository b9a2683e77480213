-- Where the lines of a text start, and the regions of a scan in the order of their lines and places. Assumes nothing.
use Rattle.std.specs.Prelude.{Option, Some, None, is_some}
use Prim.Native.Nat.{ℕ, zero, suc, ◌+◌, ◌-◌, ◌≤◌, ◌<◌}
use native.Mathlib.Omega.{arith}
use mathlib.Core.Path.{◌≡◌, refl, ap}
use mathlib.Core.Bool.{Bool, true, false, cond, ◌&&◌, ◌||◌}
use mathlib.Core.List.{List, [], ◌∷◌, ◌++◌}
use lib.ListN.{length, take, drop, length-take, length-drop, drop_of_length-le}
use lib.Seq.{drop-drop}
use lib.Dec.{eqb, ltb}
use borrow.Author.Tests.{eqb-false, ltb-true, ltb-false}
use Rattle.marker.specs.declared.line.Fragment.{Fragment}
use Rattle.text.specs.Bytes.{part, is, first}
use Rattle.text.specs.Lines.{LF, pieces, lines_from, line_end, line_next}
use Rattle.text.specs.Pattern.{bytes, starts_with, ends_with, equals, find, contains}
use Rattle.text.specs.Space.{lead, kept, trim_start, trim_end, trim}
use Rattle.text.proofs.BytesLaws.{first_le, part_length}
use Rattle.text.proofs.SplitLaws.{split_step, split-some}
use Rattle.text.proofs.LineLaws.{lines_at, line-next, line-last, line-within}
use Rattle.fence.specs.Fences.{is_fence}
use Rattle.marker.specs.Marker.{OPEN, SPEC-END, CLOSE, OPEN-FRAGMENT, path_of, named_of, rest_of, alone_of, fragment_of, fragment_kind, marked_kind, kind_of}
use Rattle.scan.specs.Scan.{closed_by, events_of, after, kind_at, begin, scan_from, regions_of}
use Rattle.scan.specs.declared.event.Region.{Region}
use Rattle.marker.specs.declared.problem.Problem.TheVariants.{MarkerInFence, FragmentMarker}
use Rattle.marker.specs.declared.line.Kind.{Kind}
use Rattle.marker.specs.declared.line.Kind.TheVariants.{Plain, Fence, Fault, Closes, Opens, Spans}
use Rattle.scan.specs.declared.state.Opener.{Opener}
use Rattle.scan.specs.declared.state.State.{State}
use Rattle.scan.proofs.RegionLaws.{regions_append, line-none, last_none}

-- line n of s starts at place o
pub record Starts (s : List ℕ) (n o : ℕ) : Type 0 where
  pub counted : 0 < n
  pub within : o < length s
  pub lines : drop (n - 1) (pieces s) ≡ pieces (drop o s)

-- the next line of a text starts after its first LF
next-pieces : (s : List ℕ) → line_next s < length s → drop 1 (pieces s) ≡ pieces (drop (line_next s) s)
next-pieces s h =
    let q : first (is LF) s ≡ length s → ⊥ = λ e. omega (arith, (line-last s e).1) in
    let k : first (is LF) s < length s = omega (arith, first_le (is LF) s) in
    rw (line-next s k, split_step LF s k)

-- from a line the next
pub starts-next : {s : List ℕ} {n o : ℕ} → Starts s n o → o + line_next (drop o s) < length s → Starts s (n + 1) (o + line_next (drop o s))
starts-next {s} {n} {o} a h =
    let k : (n + 1) - 1 ≡ (n - 1) + 1 = omega (arith, a.counted) in
    record {
      counted = omega arith;
      within = h;
      lines = rw (k, ← drop-drop 1 (n - 1) (pieces s), a.lines, ← drop-drop (line_next (drop o s)) o s)
          (next-pieces (drop o s) (omega (arith, length-drop o s)));
    }

-- a line of the text is one of its pieces
pub starts-within : {s : List ℕ} {n o : ℕ} → Starts s n o → n ≤ length (pieces s)
starts-within {s} {n} {o} a = omega (arith, a.counted, split-some LF (drop o s), length-drop (n - 1) (pieces s), ap length a.lines)

-- the path of an opener lies from place lo up to place hi
abbrev InFragment : ℕ → ℕ → Option Fragment → Type 0
InFragment lo hi (Some p) = (lo ≤ p.path.start) × ((p.path.start < p.path.end) × (p.path.end ≤ hi))
InFragment lo hi None = Unit {0}

abbrev pub InKind : ℕ → ℕ → Kind → Type 0
InKind lo hi Plain = Unit {0}
InKind lo hi Fence = Unit {0}
InKind lo hi (Fault k) = Unit {0}
InKind lo hi Closes = Unit {0}
InKind lo hi (Opens p) = (lo ≤ p.path.start) × ((p.path.start < p.path.end) × (p.path.end ≤ hi))
InKind lo hi (Spans i) = Unit {0}

wider : (lo hi a e : ℕ) (f : Option Fragment) → lo ≤ a → (a < e → e ≤ hi) → InFragment a e f → InFragment lo hi f
wider lo hi a e (Some p) h k q = let z : a < e = omega arith in let w = k z in omega arith
wider lo hi a e None h k q = tt

in_path : (o : ℕ) (peer : Bool) (p : List ℕ) → InFragment o (o + length p) (path_of o peer p)
unfolding path_of
in_path o peer p = go (eqb (length p) 0) (contains SPEC-END p) (contains (bytes ":") p) refl
  where
    go : (x y z : Bool) → eqb (length p) 0 ≡ x → InFragment o (o + length p) (cond (x || y || z) None (Some (record { path = record { start = o; end = o + length p }; peer = peer })))
    go true y z e = tt
    go false true z e = tt
    go false false true e = tt
    go false false false e = let w = eqb-false (length p) 0 e in omega arith

in_named : (o : ℕ) (x : List ℕ) → InFragment o (o + length x) (named_of o x)
unfolding named_of
in_named o x = go (ends_with (bytes ":peer") x)
  where
    go : (b : Bool) → InFragment o (o + length x) (cond b (path_of o true (take (length x - 5) x)) (path_of o false x))
    go true =
        wider o (o + length x) o (o + length (take (length x - 5) x)) (path_of o true (take (length x - 5) x)) (omega arith)
        (λ z. omega (arith, length-take (length x - 5) x)) (in_path o true (take (length x - 5) x))
    go false = in_path o false x

in_rest : (o : ℕ) (x : List ℕ) → InFragment o (o + length x) (rest_of o x)
unfolding rest_of
in_rest o x = go (ends_with SPEC-END x)
  where
    go : (b : Bool) → InFragment o (o + length x) (cond b (named_of o (take (length x - 4) x)) None)
    go true =
        wider o (o + length x) o (o + length (take (length x - 4) x)) (named_of o (take (length x - 4) x)) (omega arith)
        (λ z. omega (arith, length-take (length x - 4) x)) (in_named o (take (length x - 4) x))
    go false = tt

-- the marker's first 14 bytes stand before it
in_alone : (o : ℕ) (t : List ℕ) → InFragment (o + 14) (o + length t) (alone_of o t)
unfolding alone_of
in_alone o t = go (starts_with OPEN-FRAGMENT t)
  where
    go : (b : Bool) → InFragment (o + 14) (o + length t) (cond b (rest_of (o + 14) (drop 14 t)) None)
    go true =
        wider (o + 14) (o + length t) (o + 14) ((o + 14) + length (drop 14 t)) (rest_of (o + 14) (drop 14 t)) (omega arith)
        (λ z. omega (arith, length-drop 14 t)) (in_rest (o + 14) (drop 14 t))
    go false = tt

in_fragment : (o : ℕ) (l : List ℕ) → InFragment (o + 14) (o + length l) (fragment_of o l)
unfolding fragment_of trim trim_end trim_start
in_fragment o l =
    let d : List ℕ = drop (lead l) l in
    wider (o + 14) (o + length l) ((o + lead l) + 14) ((o + lead l) + length (trim l)) (alone_of (o + lead l) (trim l)) (omega arith)
    (λ z. omega (arith, length-take (kept d) d, length-drop (lead l) l))
    (in_alone (o + lead l) (trim l))

pub kind-path : (fence inside : Bool) (o : ℕ) (l : List ℕ) (hi : ℕ) → o + length l ≤ hi → InKind (o + 14) hi (kind_of fence inside o l)
unfolding kind_of marked_kind fragment_kind
kind-path fence inside o l hi h = by (is_fence l) (find OPEN l)
  where
    go : (f : Option Fragment) (i : ℕ) (b : Bool) → InFragment (o + 14) (o + length l) f → InKind (o + 14) hi (fragment_kind b i l f)
    go (Some p) i true q = tt
    go (Some p) i false q = omega arith
    go None i b q = else (contains OPEN-FRAGMENT l)
      where
        else : (x : Bool) → InKind (o + 14) hi (cond x (Fault FragmentMarker) (Spans i))
        else true = tt
        else false = tt

    marked : (a b c : Bool) (k : Kind) → InKind (o + 14) hi k → InKind (o + 14) hi (cond a (Fault MarkerInFence) (cond (b && c) Closes k))
    marked true b c k q = tt
    marked false true true k q = tt
    marked false true false k q = q
    marked false false c k q = q

    by : (x : Bool) (f : Option ℕ) → InKind (o + 14) hi (cond x Fence (marked_kind fence inside o l f))
    by true f = tt
    by false (Some i) = marked fence inside (equals CLOSE (trim l)) (fragment_kind inside i l (fragment_of o l)) (go (fragment_of o l) i inside (in_fragment o l))
    by false None = tt

-- a region after line n, from place o on
pub record Placed (s : List ℕ) (n o : ℕ) (g : Region) : Type 0 where
  pub opens : Starts s g.opener.line g.opener.at
  pub closes : Starts s g.closer.line g.closer.at
  pub later : n < g.opener.line
  pub from : o ≤ g.opener.at
  pub lines : g.opener.line < g.closer.line
  pub places : g.opener.at < g.closer.at
  pub path : (g.opener.at + 14 ≤ g.path.start) × ((g.path.start < g.path.end) × (g.path.end ≤ g.closer.at))

-- regions after line n, from place o on, each after the one before
unfoldable pub Ordered : List ℕ → ℕ → ℕ → List Region → Type 0
Ordered s n o [] = Unit {0}
Ordered s n o (g ∷ gs) = Placed s n o g × Ordered s g.closer.line (suc g.closer.at) gs

-- the first of them, and the others
pub ordered_on : (s : List ℕ) (n o : ℕ) (rs : List Region) {g : Region} {gs : List Region} → Ordered s n o rs → rs ≡ g ∷ gs
    → Placed s n o g × Ordered s g.closer.line (suc g.closer.at) gs
unfolding Ordered
ordered_on s n o rs h e = rw e at h

-- at line n, place o: what is open was opened before, and after line m, from place p on
record Since (s : List ℕ) (m p n o : ℕ) (g : Opener) : Type 0 where
  opens : Starts s g.marker.line g.marker.at
  later : m < g.marker.line
  from : p ≤ g.marker.at
  line : g.marker.line < n
  place : g.marker.at < o
  path : (g.marker.at + 14 ≤ g.path.start) × ((g.path.start < g.path.end) × (g.path.end ≤ o))

abbrev Opened : List ℕ → ℕ → ℕ → ℕ → ℕ → Option Opener → Type 0
Opened s m p n o None = Unit {0}
Opened s m p n o (Some g) = Since s m p n o g

-- one line of a scan: ih is for what follows
module _ (s : List ℕ) (n o x : ℕ) (a : Starts s n o) (hx : o < x) where
  abbrev Rest : ℕ → ℕ → State → List Region
  Rest k y st = regions_of (scan_from st k (lines_from y (drop y s)))

  abbrev Onward : Type 0
  Onward = (st : State) (m p : ℕ) → m ≤ n → p ≤ x → Opened s m p (n + 1) x st.region → Ordered s m p (Rest (n + 1) x st)

  module _ (ih : Onward) (m p : ℕ) (hm : m < n) (hp : p ≤ o) where
    still : (r : Option Opener) → Opened s m p n o r → Opened s m p (n + 1) x r
    still None q = tt
    still (Some g) q =
        record { opens = q.opens; later = q.later; from = q.from; line = omega arith; place = omega arith; path = omega arith }

    closed : (f : Bool) (r : Option Opener) → Opened s m p n o r
        → Ordered s m p (regions_of (closed_by n o r) ++ Rest (n + 1) x (record { fence = f; region = None }))
    unfolding regions_of Ordered
    closed f None q = ih (record { fence = f; region = None }) m p (omega arith) (omega arith) tt
    closed f (Some g) q = (
      record { opens = q.opens; closes = a; later = q.later; from = q.from; lines = q.line; places = q.place; path = q.path },
      ih (record { fence = f; region = None }) n (suc o) (omega arith) (omega arith) tt,
    )

    turned : (l : List ℕ) (st : State) (kind : Kind) → InKind (o + 14) x kind → Opened s m p n o st.region
        → Ordered s m p (regions_of (events_of st n o l kind) ++ Rest (n + 1) x (after st n o kind))
    unfolding regions_of events_of after
    turned l st Plain w q = ih st m p (omega arith) (omega arith) (still st.region q)
    turned l st Fence w q = ih (after st n o Fence) m p (omega arith) (omega arith) (still st.region q)
    turned l st (Fault k) w q = ih st m p (omega arith) (omega arith) (still st.region q)
    turned l st Closes w q = closed st.fence st.region q
    turned l st (Opens f) w q = ih (after st n o (Opens f)) m p (omega arith) (omega arith)
        (record { opens = a; later = hm; from = hp; line = omega arith; place = hx; path = w })
    turned l st (Spans i) w q =
        rw (line-none st n o l (Spans i) (λ e. let z : ◌≡◌ {A = ℕ} 0 1 = cc in omega arith))
        (ih st m p (omega arith) (omega arith) (still st.region q))

-- the regions from line n, place o on
scan-line : (s : List ℕ) (n o : ℕ) → (o < length s → Starts s n o) → (st : State) (m p : ℕ) → m < n → p ≤ o → Opened s m p n o st.region
    → ((a : Starts s n o) (hx : o < o + line_next (drop o s)) → Onward s n o (o + line_next (drop o s)) a hx)
    → Ordered s m p (regions_of (scan_from st n (lines_from o (drop o s))))
unfolding scan_from lines_from kind_at Ordered
scan-line s n o a st m p hm hp q ih = go (ltb o (length s)) refl
  where
    go : (b : Bool) → ltb o (length s) ≡ b → Ordered s m p (regions_of (scan_from st n (lines_from o (drop o s))))
    go false e = rw (drop_of_length-le s (ltb-false o (length s) e), last_none st.region st.fence (n - 1)) tt
    go true e =
        let h : o < length s = ltb-true o (length s) e in
        let x : ℕ = o + line_next (drop o s) in
        let l : List ℕ = part o (o + line_end (drop o s)) s in
        let hx : o < x = omega (arith, (line-within (drop o s)).1.1 (omega (arith, length-drop o s))) in
        let hl : o + length l ≤ x = omega (arith, (line-within (drop o s)).0, part_length s o (o + line_end (drop o s))) in
        rw (lines_at s o (o + line_end (drop o s)) x h refl refl, regions_append (events_of st n o l (kind_at st o l)) (scan_from (after st n o (kind_at st o l)) (n + 1) (lines_from x (drop x s))))
        (turned s n o x (a h) hx (ih (a h) hx) m p hm hp l st (kind_at st o l) (kind-path st.fence (is_some st.region) o l x hl) q)

scan_fuel : (f : ℕ) (s : List ℕ) (n o : ℕ) → length s - o ≤ f → (o < length s → Starts s n o) → (st : State) (m p : ℕ) → m < n → p ≤ o → Opened s m p n o st.region
    → Ordered s m p (regions_of (scan_from st n (lines_from o (drop o s))))
scan_fuel zero s n o hf a st m p hm hp q = scan-line s n o a st m p hm hp q (λ b hx. absurd (omega (arith, b.within)))
scan_fuel (suc f) s n o hf a st m p hm hp q =
    scan-line s n o a st m p hm hp q
    (λ b hx t k y hk hy r. scan_fuel f s (n + 1) (o + line_next (drop o s)) (omega (arith, b.within)) (λ z. starts-next b z) t k y (omega arith) hy r)

-- the same with nothing open, as from a cursor
pub scan_ordered : (s : List ℕ) (n o : ℕ) → (o < length s → Starts s (n + 1) o) → Ordered s n o (regions_of (scan_from begin (n + 1) (lines_from o (drop o s))))
scan_ordered s n o a = scan_fuel (length s) s (n + 1) o (omega arith) a begin n o (omega arith) (omega arith) tt
