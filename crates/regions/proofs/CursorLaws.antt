-- Cursors: the regions that are left behind one, where it stands, and the lines between a cursor and the next region. Assumes nothing.
use Rattle.std.specs.Prelude.{Option, Some, None, is_some}
use Prim.Native.Nat.{ℕ, zero, suc, ◌+◌, ◌-◌, ◌≤◌, ◌<◌}
use native.Mathlib.Omega.{arith}
use mathlib.Core.Path.{◌≡◌, refl, sym, ap, ◌∙◌}
use mathlib.Core.Logic.{◌⊎◌, ⊎_elim, inl, inr}
use mathlib.Core.Bool.{Bool, true, false, cond, false≢true}
use mathlib.Core.List.{List, [], ◌∷◌, ◌++◌}
use lib.ListN.{length, take, drop, replicate, length-drop, drop_of_length-le}
use lib.Seq.{drop-drop}
use lib.Dec.{eqb, ltb}
use borrow.Author.Tests.{ltb-true, ltb-false}
use Rattle.text.specs.Bytes.{part, is, first}
use Rattle.text.specs.Lines.{LF, pieces, lines_from, line_end, line_next}
use Rattle.text.specs.Split.{onto, split, join}
use Rattle.text.proofs.BytesLaws.{first_le, count_le, count_block, part_length, rest}
use Rattle.text.proofs.SplitLaws.{split_step, split-last, split-some, split-count}
use Rattle.text.proofs.LineLaws.{lines_at, line-next, line-last, line-within}
use Rattle.text.proofs.LedLaws.{join-split}
use Rattle.marker.specs.declared.line.Kind.{Kind}
use Rattle.marker.specs.declared.line.Kind.TheVariants.{Plain, Fence, Fault, Closes, Opens, Spans}
use Rattle.marker.proofs.MarkerLaws.{kind-closes}
use Rattle.scan.specs.Scan.{closed_by, events_of, after, kind_at, scan_from, regions_of}
use Rattle.scan.specs.Regions.{regions_from}
use Rattle.scan.specs.declared.event.Region.{Region}
use Rattle.scan.specs.declared.region.Cursor.{Cursor}
use Rattle.scan.specs.declared.state.Opener.{Opener}
use Rattle.scan.specs.declared.state.State.{State}
use Rattle.scan.proofs.RegionLaws.{regions_append, line-none, last_none}
use Rattle.regions.specs.Hosts.{LineFrom, blanked_at}
use Rattle.regions.specs.Own.{own_after, lines_before, cursor_behind, OwnBefore}
use Rattle.regions.specs.declared.own.Own.{Own}
use Rattle.regions.proofs.PlaceLaws.{Starts, Placed, Ordered, ordered_on, starts-within, scan_ordered}
use Rattle.regions.proofs.BlankLaws.{blanked-next, blanked-end}
use Rattle.regions.proofs.OwnLaws.{own-append, own-blanks, own-none}

-- behind the first of regions, the others are left
abbrev Behind : List ℕ → List Region → Type 0
Behind s [] = Unit {0}
Behind s (g ∷ gs) = gs ≡ regions_from s (cursor_behind s g)

-- one line of a scan: ih is for what follows
module _ (s : List ℕ) (n o : ℕ) where
  abbrev Rest : State → List Region
  Rest st = regions_of (scan_from st (n + 1) (lines_from (o + line_next (drop o s)) (drop (o + line_next (drop o s)) s)))

  closed : (st : State) (r : Option Opener) → st.fence ≡ false → is_some r ≡ true
      → Behind s (regions_of (closed_by n o r) ++ Rest (record { fence = st.fence; region = None }))
  unfolding regions_of
  closed st None f e = absurd (false≢true e)
  closed st (Some g) f e = rw f

  turned : ((st : State) → Behind s (Rest st)) → (l : List ℕ) (st : State) (kind : Kind) → kind ≡ kind_at st o l
      → Behind s (regions_of (events_of st n o l kind) ++ Rest (after st n o kind))
  unfolding regions_of events_of after kind_at
  turned ih l st Plain e = ih st
  turned ih l st Fence e = ih (after st n o Fence)
  turned ih l st (Fault k) e = ih st
  turned ih l st Closes e =
      let h = kind-closes st.fence (is_some st.region) o l (sym e) in
      closed st st.region h.0 h.1
  turned ih l st (Opens f) e = ih (after st n o (Opens f))
  turned ih l st (Spans i) e = rw (line-none st n o l (Spans i) (λ q. let z : ◌≡◌ {A = ℕ} 0 1 = cc in omega arith)) (ih st)

behind-line : (s : List ℕ) (n o : ℕ) (st : State) → (o < length s → (t : State) → Behind s (Rest s n o t)) → Behind s (regions_of (scan_from st n (lines_from o (drop o s))))
unfolding scan_from lines_from
behind-line s n o st ih = go (ltb o (length s)) refl
  where
    go : (b : Bool) → ltb o (length s) ≡ b → Behind s (regions_of (scan_from st n (lines_from o (drop o s))))
    go false e = rw (drop_of_length-le s (ltb-false o (length s) e), last_none st.region st.fence (n - 1)) tt
    go true e =
        let h : o < length s = ltb-true o (length s) e in
        let x : ℕ = o + line_next (drop o s) in
        let l : List ℕ = part o (o + line_end (drop o s)) s in
        rw (lines_at s o (o + line_end (drop o s)) x h refl refl, regions_append (events_of st n o l (kind_at st o l)) (scan_from (after st n o (kind_at st o l)) (n + 1) (lines_from x (drop x s))))
        (turned s n o (ih h) l st (kind_at st o l) refl)

behind_fuel : (f : ℕ) (s : List ℕ) (n o : ℕ) (st : State) → length s - o ≤ f → Behind s (regions_of (scan_from st n (lines_from o (drop o s))))
behind_fuel zero s n o st h = behind-line s n o st (λ k t. absurd (omega arith))
behind_fuel (suc f) s n o st h =
    behind-line s n o st
    (λ k t. behind_fuel f s (n + 1) (o + line_next (drop o s)) t (omega (arith, (line-within (drop o s)).1.1 (omega (arith, length-drop o s)))))

pub regions_behind : (s : List ℕ) (c : Cursor) {g : Region} {gs : List Region} → regions_from s c ≡ g ∷ gs → gs ≡ regions_from s (cursor_behind s g)
regions_behind s c e =
    let h : Behind s (regions_from s c) = behind_fuel (length s) s (c.line + 1) c.at (record { fence = false; region = None }) (omega arith) in
    rw e at h

-- a line that starts at place o has at most o lines before it
starts-few : {s : List ℕ} {n o : ℕ} → Starts s n o → n ≤ o + 1
starts-few {s} {n} {o} a =
    omega (
      arith,
      a.counted,
      starts-within a,
      split-count LF s,
      split-count LF (drop o s),
      ap length a.lines,
      length-drop (n - 1) (pieces s),
      count_block (is LF) s 0 o (omega arith),
      count_le (is LF) (part 0 o s),
      part_length s 0 o,
    )

-- the lines after it
rest_lines : {s : List ℕ} {n o : ℕ} → Starts s n o → drop n (pieces s) ≡ drop 1 (pieces (drop o s))
rest_lines {s} {n} {o} a =
    let k : (n - 1) + 1 ≡ n = omega (arith, a.counted) in
    ap (λ (i : ℕ). drop i (pieces s)) (sym k) ∙ sym (drop-drop 1 (n - 1) (pieces s)) ∙ ap (drop 1) a.lines

-- the cursor at the line after it
line-behind : {s : List ℕ} {n o : ℕ} → Starts s n o → LineFrom s (record { at = o + line_next (drop o s); line = n })
line-behind {s} {n} {o} a =
    let w = line-within (drop o s) in
    let k : 0 < length (drop o s) = omega (arith, length-drop o s, a.within) in
    let p = w.1.1 k in
    record {
      within = omega (arith, w.1.0, length-drop o s);
      few = omega (arith, starts-few a);
      lines = go (ltb (first (is LF) (drop o s)) (length (drop o s))) refl;
    }
  where
    go : (b : Bool) → ltb (first (is LF) (drop o s)) (length (drop o s)) ≡ b
        → (drop n (pieces s) ≡ pieces (drop (o + line_next (drop o s)) s)) ⊎ ((drop n (pieces s) ≡ []) × (o + line_next (drop o s) ≡ length s))
    go true e =
        let h : first (is LF) (drop o s) < length (drop o s) = ltb-true (first (is LF) (drop o s)) (length (drop o s)) e in
        inl (rest_lines a ∙ rw (split_step LF (drop o s) h, line-next (drop o s) h) (ap pieces (drop-drop (suc (first (is LF) (drop o s))) o s)))
    go false e =
        let h : first (is LF) (drop o s) ≡ length (drop o s) = omega (arith, ltb-false (first (is LF) (drop o s)) (length (drop o s)) e, first_le (is LF) (drop o s)) in
        inr (rest_lines a ∙ rw (split-last LF (drop o s) h), omega (arith, (line-last (drop o s) h).1, length-drop o s, a.within))

-- a cursor before the text's end stands at a line
pub line-starts : {s : List ℕ} {c : Cursor} → LineFrom s c → c.at < length s → Starts s (c.line + 1) c.at
line-starts {s} {c} a h =
    let k : (c.line + 1) - 1 ≡ c.line = omega arith in
    record { counted = omega arith; within = h; lines = rw k (⊎_elim (λ q. q) (λ q. absurd (omega arith)) a.lines) }

-- the next region from a cursor on, and the cursor behind it
module _ {s : List ℕ} {c : Cursor} (a : LineFrom s c) {g : Region} {gs : List Region} (e : regions_from s c ≡ g ∷ gs) where
  pub next_ordered : Ordered s c.line c.at (g ∷ gs)
  next_ordered = rw e at (scan_ordered s c.line c.at (λ h. line-starts a h))

  pub next-placed : Placed s c.line c.at g
  next-placed = (ordered_on s c.line c.at (g ∷ gs) next_ordered refl).0

  pub next-line : LineFrom s (cursor_behind s g)
  next-line = line-behind next-placed.closes

  pub next-later : g.closer.at < (cursor_behind s g).at
  next-later =
      let p = next-placed.closes in
      omega (arith, (line-within (drop g.closer.at s)).1.1 (omega (arith, length-drop g.closer.at s, p.within)))

-- lines of a text up to place p, where line j + 1 starts: those before it, and an empty piece
pub pieces_upto : (u : List ℕ) (j p : ℕ) → p ≤ length u → drop j (pieces u) ≡ pieces (drop p u) → pieces (take p u) ≡ take j (pieces u) ++ ([] ∷ [])
unfolding split
pieces_upto u j zero h e =
    let z : j ≡ 0 = omega (arith, ap length e, length-drop j (pieces u), split-some LF u) in
    rw z
pieces_upto [] j (suc p) h e = absurd (omega arith)
pieces_upto (x ∷ u) zero (suc p) h e =
    let q : x ∷ u ≡ drop p u = sym (join-split LF (x ∷ u)) ∙ ap (join LF) e ∙ join-split LF (drop p u) in
    absurd (omega (arith, ap length q, length-drop p u))
pieces_upto (x ∷ u) (suc j) (suc p) h e = go (eqb x LF) (pieces u) (split-some LF u) (λ i q. pieces_upto u i p (omega arith) q) e
  where
    go : (a : Bool) (l : List (List ℕ)) → 0 < length l → ((i : ℕ) → drop i l ≡ pieces (drop p u) → pieces (take p u) ≡ take i l ++ ([] ∷ []))
        → drop (suc j) (cond a ([] ∷ l) (onto x l)) ≡ pieces (drop p u)
        → cond a ([] ∷ pieces (take p u)) (onto x (pieces (take p u))) ≡ take (suc j) (cond a ([] ∷ l) (onto x l)) ++ ([] ∷ [])
    go a [] k ih q = absurd (omega arith)
    go true (m ∷ l) k ih q = ap (λ (t : List (List ℕ)). [] ∷ t) (ih j q)
    go false (m ∷ l) k ih q = ap (onto x) (ih (suc j) q)

-- the walk from a cursor up to line n, which starts at place b
pub own-before : {s : List ℕ} {c : Cursor} {n b : ℕ} (w : Own) → LineFrom s c → Starts s n b → c.at ≤ b → c.line < n
    → own_after w (pieces (part c.at b s)) ≡ own_after w (lines_before s c n)
own-before {s} {c} {n} {b} w a t h k =
    let u : List ℕ = drop c.at s in
    let j : ℕ = n - (c.line + 1) in
    let q : drop c.line (pieces s) ≡ pieces u = ⊎_elim (λ y. y) (λ y. absurd (omega (arith, t.within))) a.lines in
    let x : c.line + j ≡ n - 1 = omega arith in
    let y : c.at + (b - c.at) ≡ b = omega arith in
    let d : drop j (pieces u) ≡ pieces (drop (b - c.at) u) =
    ap (drop j) (sym q)
    ∙ drop-drop j c.line (pieces s)
    ∙ ap (λ (i : ℕ). drop i (pieces s)) x
    ∙ t.lines
    ∙ ap pieces (sym (drop-drop (b - c.at) c.at s ∙ ap (λ (i : ℕ). drop i s) y)) in
    rw (pieces_upto u j (b - c.at) (omega (arith, length-drop c.at s, t.within)) d, q)
    (own-append w (take j (pieces u)) ([] ∷ []) ∙ own-blanks 1 (own_after w (take j (pieces u))) [] ∙ own-none (own_after w (take j (pieces u))))

-- the walk over all lines from a cursor on
pub own-rest : {s : List ℕ} {c : Cursor} (w : Own) → LineFrom s c → own_after w (pieces (drop c.at s)) ≡ own_after w (drop c.line (pieces s))
unfolding split
own-rest {s} {c} w a =
    ⊎_elim (λ q. rw q)
    (λ q. let h : length s ≤ c.at = omega (arith, q.1) in rw (q.0, drop_of_length-le s h) (own-blanks 1 w []))
    a.lines

-- what `next_own` finds
pub own-found : {s : List ℕ} {c : Cursor} (w : Own) → LineFrom s c → {g : Region} {gs : List Region} → regions_from s c ≡ g ∷ gs → {d : Cursor} {v : Own} → d ≡ cursor_behind s g
    → v ≡ own_after w (pieces (part c.at g.opener.at s)) → OwnBefore s c w g d v
own-found {s} {c} w a {g} e f h =
    let p = next-placed a e in
    record {
      found = rw f (e ∙ ap (λ (r : List Region). g ∷ r) (regions_behind s c e));
      cursor = f;
      own = h ∙ own-before w a p.opens p.from p.later;
    }

-- the lines from a cursor on, by the next region
pub region_blanked : {s : List ℕ} {c : Cursor} {g : Region} → LineFrom s c → regions_from s c ≡ g ∷ regions_from s (cursor_behind s g)
    → blanked_at s c ≡ lines_before s c g.opener.line ++ (replicate (g.closer.line + 1 - g.opener.line) [] ++ blanked_at s (cursor_behind s g))
region_blanked {s} {c} {g} a e = rw e (blanked-next s c.line c.at g (regions_from s (cursor_behind s g)) (next_ordered a e))

-- the walk over them: on behind a region, and to the end
pub own-next : {s : List ℕ} {c d : Cursor} {w v : Own} {g : Region} → LineFrom s c → OwnBefore s c w g d v
    → LineFrom s d × ((c.at < d.at) × (own_after v (blanked_at s d) ≡ own_after w (blanked_at s c)))
own-next {s} {c} {d} {w} {v} {g} a b =
    let e : regions_from s c ≡ g ∷ regions_from s (cursor_behind s g) = rw b.cursor at b.found in
    let p = next-placed a e in
    let ls : List (List ℕ) = lines_before s c g.opener.line in
    let k : ℕ = g.closer.line + 1 - g.opener.line in
    rw b.cursor (
      next-line a e,
      (
        omega (arith, p.from, p.places, next-later a e),
        rw b.own
            (sym
            (ap (own_after w) (region_blanked a e)
            ∙ own-append w ls (replicate k [] ++ blanked_at s (cursor_behind s g))
            ∙ own-blanks k (own_after w ls) (blanked_at s (cursor_behind s g)))),
      ),
    )

pub own-end : {s : List ℕ} {c : Cursor} (w : Own) → LineFrom s c → regions_from s c ≡ [] → own_after w (pieces (part c.at (length s) s)) ≡ own_after w (blanked_at s c)
own-end {s} {c} w a e = rw (rest s c.at, e, blanked-end (c.line + 1) (drop c.line (pieces s))) (own-rest w a)

pub ruleset cursors = (next-placed, own-end)
