-- Laws for a loop that takes marker lines out of a buffer: the bytes from the cursor on are as they were, and those put so far are lines, an LF after
-- each. Assumes nothing.
use Prim.Native.Nat.{ℕ, zero, suc, ◌+◌, ◌-◌, ◌≤◌, ◌<◌}
use native.Mathlib.Omega.{arith}
use mathlib.Core.Path.{◌≡◌, refl, sym, ap, ◌∙◌}
use mathlib.Core.Logic.{⊎_elim, inl}
use mathlib.Core.Bool.{Bool, true, false, cond}
use mathlib.Core.List.{List, [], ◌∷◌, ◌++◌, append_assoc, append-nil}
use lib.ListN.{length, take, drop, length-append, length-drop, drop_of_length-le}
use lib.Seq.{sets, length-sets, drop-drop, take-take, length-take-le}
use lib.Dec.{eqb, ltb}
use borrow.Author.Tests.{ltb-true, ltb-false}
use Rattle.text.specs.Bytes.{part, is, first}
use Rattle.text.specs.Lines.{LF, pieces, lines_from, line_next}
use Rattle.text.specs.Split.{onto, split}
use Rattle.text.proofs.BytesLaws.{first_le, drop_take, part_full}
use Rattle.text.proofs.SplitLaws.{split-some}
use Rattle.text.proofs.LineLaws.{line-next, line-last, line-within}
use Rattle.buffer.proofs.BufferLaws.{sets_append, drop_past, take_sets}
use Rattle.scan.specs.Scan.{begin, scan_from, scan, regions_of}
use Rattle.scan.specs.Regions.{regions_from}
use Rattle.scan.specs.declared.event.Region.{Region}
use Rattle.scan.specs.declared.region.Cursor.{Cursor}
use Rattle.regions.specs.Hosts.{LineFrom}
use Rattle.regions.proofs.PlaceLaws.{Starts, Placed, starts-next}
use Rattle.regions.proofs.CursorLaws.{regions_behind, line-starts, pieces_upto, next_ordered, next-placed, next-line}
use Rattle.shift.proofs.EndsLaws.{ends_more}
use Rattle.shift.specs.Shift.{drop_start, drop_end}
use Rattle.embedding.specs.Embed.{unmarked_from}
use Rattle.embedding.specs.Unmarked.{Unmarked, line_after}
use Rattle.embedding.proofs.UnmarkedLaws.{unmarked_next, unmarked_end}

-- lines with an LF after each, and a text behind them
pub pieces-ended : (a b : List ℕ) (p : List (List ℕ)) → pieces a ≡ p ++ ([] ∷ []) → pieces (a ++ b) ≡ p ++ pieces b
unfolding split
pieces-ended [] b [] e = refl
pieces-ended [] b (l ∷ p) e = absurd (omega (arith, ap length e, length-append p ([] ∷ [])))
pieces-ended (x ∷ a) b p e = go (eqb x LF) (pieces a) (split-some LF a) p (λ q w. pieces-ended a b q w) e
  where
    go : (t : Bool) (l : List (List ℕ)) → 0 < length l → (p : List (List ℕ)) → ((q : List (List ℕ)) → l ≡ q ++ ([] ∷ []) → pieces (a ++ b) ≡ q ++ pieces b)
        → cond t ([] ∷ l) (onto x l) ≡ p ++ ([] ∷ []) → cond t ([] ∷ pieces (a ++ b)) (onto x (pieces (a ++ b))) ≡ p ++ pieces b
    go t [] h p ih q = absurd (omega arith)
    go true (m ∷ l) h [] ih q = absurd (omega (arith, ap length q))
    go true (m ∷ l) h (y ∷ p) ih q =
        let i : [] ≡ y = cc in
        let j : m ∷ l ≡ p ++ ([] ∷ []) = cc in
        rw (ih p j) (ap (λ (k : List ℕ). k ∷ (p ++ pieces b)) i)
    go false (m ∷ l) h [] ih q = let z : ◌≡◌ {A = ℕ} 0 1 = cc in absurd (omega arith)
    go false (m ∷ l) h (y ∷ p) ih q =
        let i : x ∷ m ≡ y = cc in
        let j : l ≡ p ++ ([] ∷ []) = cc in
        rw (ih (m ∷ p) (ap (λ (k : List (List ℕ)). m ∷ k) j)) (ap (λ (k : List ℕ). k ∷ (p ++ pieces b)) i)

-- within its first line a text has as many lines from a place on as from its start
same_count : (u : List ℕ) (q : ℕ) → q ≤ first (is LF) u → length (pieces (drop q u)) ≡ length (pieces u)
unfolding split first
same_count u zero h = refl
same_count [] (suc q) h = absurd (omega arith)
same_count (x ∷ u) (suc q) h = go (eqb x LF) (pieces u) (split-some LF u) (λ k. same_count u q k) h
  where
    go : (t : Bool) (l : List (List ℕ)) → 0 < length l → (q ≤ first (is LF) u → length (pieces (drop q u)) ≡ length l) → suc q ≤ cond t 0 (suc (first (is LF) u))
        → length (pieces (drop q u)) ≡ length (cond t ([] ∷ l) (onto x l))
    go t [] h ih k = absurd (omega arith)
    go true (m ∷ l) h ih k = absurd (omega arith)
    go false (m ∷ l) h ih k = ih (omega arith)

-- a line does not start before the line after an earlier one
starts-after : {s : List ℕ} {n o m p : ℕ} → Starts s n o → Starts s m p → n < m → o < p → line_after o s ≤ p
starts-after {s} {n} {o} {m} {p} a b h k = go (ltb p (line_after o s)) refl
  where
    u : List ℕ
    u = drop o s

    near : p < line_after o s → p - o ≤ first (is LF) u
    near q = by (ltb (first (is LF) u) (length u)) refl
      where
        by : (t : Bool) → ltb (first (is LF) u) (length u) ≡ t → p - o ≤ first (is LF) u
        by true e = omega (arith, line-next u (ltb-true (first (is LF) u) (length u) e))
        by false e = let f : first (is LF) u ≡ length u = omega (arith, ltb-false (first (is LF) u) (length u) e, first_le (is LF) u) in omega (arith, (line-last u f).1)

    go : (t : Bool) → ltb p (line_after o s) ≡ t → line_after o s ≤ p
    go false e = ltb-false p (line_after o s) e
    go true e =
        let i : o + (p - o) ≡ p = omega arith in
        let d : drop (p - o) u ≡ drop p s = drop-drop (p - o) o s ∙ ap (λ (j : ℕ). drop j s) i in
        absurd (omega (
          arith,
          same_count u (p - o) (near (ltb-true p (line_after o s) e)),
          ap (λ (l : List ℕ). length (pieces l)) d,
          ap length a.lines,
          ap length b.lines,
          length-drop (n - 1) (pieces s),
          length-drop (m - 1) (pieces s),
          split-some LF (drop p s),
          a.counted,
        ))

-- the lines from line m, which starts at place a, up to line n, which starts at place b
pieces_between : {s : List ℕ} {m a n b : ℕ} → Starts s m a → Starts s n b → a ≤ b → m ≤ n
    → pieces (part a b s) ≡ take (n - m) (drop (m - 1) (pieces s)) ++ ([] ∷ [])
pieces_between {s} {m} {a} {n} {b} f t h k =
    let u : List ℕ = drop a s in
    let x : (m - 1) + (n - m) ≡ n - 1 = omega (arith, f.counted) in
    let y : a + (b - a) ≡ b = omega arith in
    let d : drop (n - m) (pieces u) ≡ pieces (drop (b - a) u) =
    ap (drop (n - m)) (sym f.lines)
    ∙ drop-drop (n - m) (m - 1) (pieces s)
    ∙ ap (λ (i : ℕ). drop i (pieces s)) x
    ∙ t.lines
    ∙ ap pieces (sym (drop-drop (b - a) a s ∙ ap (λ (i : ℕ). drop i s) y)) in
    rw f.lines (pieces_upto u (n - m) (b - a) (omega (arith, length-drop a s, t.within)) d)

-- two parts of a buffer copied down to place `at`, one behind the other
pub both_copied : (w : List ℕ) (a b k m : ℕ) {w' w'' : List ℕ} {at e : ℕ} → w' ≡ sets w at (part a b w) → e ≡ at + (b - a) → w'' ≡ sets w' e (part k m w') → at ≤ a → a ≤ b → b ≤ k → b ≤ length w
    → w'' ≡ sets w at (part a b w ++ part k m w)
both_copied w a b k m {w'} {w''} {at} {e} p q r h i j l =
    let x : List ℕ = part a b w in
    let n : length x ≡ b - a = part_full w a b l in
    let u : e ≡ at + length x = omega arith in
    let y : part k m w' ≡ part k m w = ap (take (m - k)) (ap (drop k) p ∙ drop_past w x at k (omega arith)) in
    r ∙ rw (y, p, u) (sets_append w x (part k m w) at)

-- a buffer w that is as w₀ from place a on
module _ (w₀ w : List ℕ) (a : ℕ) (same : drop a w ≡ drop a w₀) where
  same_drop : (k : ℕ) → a ≤ k → drop k w ≡ drop k w₀
  same_drop k h =
      let e : a + (k - a) ≡ k = omega arith in
      sym (drop-drop (k - a) a w ∙ ap (λ (i : ℕ). drop i w) e) ∙ ap (drop (k - a)) same ∙ drop-drop (k - a) a w₀ ∙ ap (λ (i : ℕ). drop i w₀) e

  -- so are its first n bytes
  same_text : (n k : ℕ) → a ≤ k → drop k (take n w) ≡ drop k (take n w₀)
  same_text n k h = drop_take w k n ∙ ap (take (n - k)) (same_drop k h) ∙ sym (drop_take w₀ k n)

  -- and their parts
  same-part : (n k e : ℕ) → a ≤ k → e ≤ n → part k e w ≡ part k e (take n w₀)
  same-part n k e h i =
      ap (take (e - k)) (same_drop k h) ∙ sym (take-take (e - k) (n - k) (drop k w₀) (omega arith)) ∙ ap (take (e - k)) (sym (drop_take w₀ k n))

-- lines are taken out of the first n bytes of w₀: behind the cursor nothing has changed, and the lines before it stand in the first `at` bytes
pub record Dropped (w₀ : List ℕ) (n : ℕ) (w : List ℕ) (at : ℕ) (c : Cursor) : Type 0 where
  pub sized : length w ≡ length w₀
  pub line : LineFrom (take n w₀) c
  pub order : at ≤ c.at
  pub same : drop c.at w ≡ drop c.at w₀
  pub put : List (List ℕ)
  pub bytes : pieces (take at w) ≡ put ++ ([] ∷ [])
  pub rest : unmarked_from 1 (regions_of (scan (take n w₀))) (pieces (take n w₀))
      ≡ put ++ unmarked_from (c.line + 1) (regions_from (take n w₀) c) (drop c.line (pieces (take n w₀)))

pub dropped-none : (w₀ : List ℕ) (n : ℕ) → Dropped w₀ n w₀ 0 (record { at = 0; line = 0 })
unfolding split scan
dropped-none w₀ n =
    record {
      sized = refl;
      line = record { within = omega arith; few = omega arith; lines = inl refl };
      order = omega arith;
      same = refl;
      put = [];
      bytes = refl;
      rest = refl;
    }

module _ {w₀ : List ℕ} {n : ℕ} {w : List ℕ} {at : ℕ} {c : Cursor} (d : Dropped w₀ n w at c) (fits : n ≤ length w₀) where
  text-length : length (take n w₀) ≡ n
  text-length = length-take-le n w₀ fits

  -- what is found in the buffer is what is left of the text
  found : {rs : List Region} → regions_from (take n w) c ≡ rs → regions_from (take n w₀) c ≡ rs
  found e = ap (λ (t : List ℕ). regions_of (scan_from begin (c.line + 1) (lines_from c.at t))) (sym (same_text w₀ w c.at d.same n c.at (omega arith))) ∙ e

  pub dropped-within : (c.at ≤ n) × (c.line ≤ c.at)
  dropped-within = (omega (arith, d.line.within, text-length), d.line.few)

  -- a block copied down to `at`
  put-block : (b w' : List ℕ) (e : ℕ) → w' ≡ sets w at b → e ≡ at + length b → e ≤ n → take e w' ≡ take at w ++ b
  put-block b w' e p q h = ap (take e) p ∙ take_sets w b at e (sym q) (omega (arith, d.sized))

  -- no region is left
  pub dropped-last : {w' : List ℕ} {r : ℕ} → regions_from (take n w) c ≡ [] → w' ≡ sets w at (part c.at n w) → r ≡ at + (n - c.at)
      → (r ≤ n) × Unmarked (take n w₀) (take r w')
  unfolding split
  dropped-last {w'} {r} e p q =
      let v : List ℕ = take n w₀ in
      let b : List ℕ = part c.at n w in
      let h = dropped-within in
      let l : length b ≡ n - c.at = part_full w c.at n (omega (arith, d.sized)) in
      let t : b ≡ drop c.at v = ap (take (n - c.at)) d.same ∙ sym (drop_take w₀ c.at n) in
      let u : pieces (take r w') ≡ d.put ++ pieces (drop c.at v) =
      ap pieces (put-block b w' r p (omega arith) (omega (arith, d.order)) ∙ ap (λ (x : List ℕ). take at w ++ x) t) ∙ pieces-ended (take at w) (drop c.at v) d.put d.bytes in
      let m : unmarked_from 1 (regions_of (scan v)) (pieces v) ≡ d.put ++ drop c.line (pieces v) =
      d.rest
      ∙ ap (λ (x : List (List ℕ)). d.put ++ x)
      (ap (λ (gs : List Region). unmarked_from (c.line + 1) gs (drop c.line (pieces v))) (found e) ∙ unmarked_end (c.line + 1) (drop c.line (pieces v))) in
      let k : (x y : List (List ℕ)) → x ≡ y → drop_end (drop_start x) ≡ drop_end (drop_start y) = λ x y z. ap (λ (l : List (List ℕ)). drop_end (drop_start l)) z in (
        omega (arith, d.order),
        ⊎_elim (λ i. k (pieces (take r w')) (unmarked_from 1 (regions_of (scan v)) (pieces v)) (u ∙ ap (λ (x : List (List ℕ)). d.put ++ x) (sym i) ∙ sym m))
            (λ i.
            let z : length v ≤ c.at = omega (arith, i.1) in
            k (pieces (take r w')) (d.put ++ ([] ∷ [])) (u ∙ ap (λ (x : List ℕ). d.put ++ pieces x) (drop_of_length-le v z))
            ∙ ends_more d.put
            ∙ k d.put (unmarked_from 1 (regions_of (scan v)) (pieces v)) (sym (m ∙ ap (λ (x : List (List ℕ)). d.put ++ x) i.0 ∙ append-nil d.put)))
            d.line.lines,
      )

  -- the next region
  module _ {g : Region} {gs : List Region} (e : regions_from (take n w) c ≡ g ∷ gs) where
    placed : Placed (take n w₀) c.line c.at g
    placed = next-placed d.line (found e)

    -- where the line after a later place starts, in the buffer and in the text
    after_same : (o : ℕ) → c.at ≤ o → line_after o (take n w) ≡ line_after o (take n w₀)
    after_same o h = ap (λ (t : List ℕ). o + line_next t) (same_text w₀ w c.at d.same n o h)

    -- its lines: where the one after the opener starts, and the one after the closer
    module _ {start next : ℕ} (ps : start ≡ line_after g.opener.at (take n w)) (pn : next ≡ line_after g.closer.at (take n w)) where
      start_is : start ≡ line_after g.opener.at (take n w₀)
      start_is = ps ∙ after_same g.opener.at placed.from

      next-is : next ≡ line_after g.closer.at (take n w₀)
      next-is = pn ∙ after_same g.closer.at (omega (arith, placed.from, placed.places))

      pub dropped_places : ((c.at ≤ g.opener.at) × (g.opener.at < start)) × ((start ≤ g.closer.at) × ((g.closer.at < next) × (next ≤ n)))
      dropped_places =
          let o : ℕ = g.opener.at in
          let e : ℕ = g.closer.at in
          let v : List ℕ = take n w₀ in
          let p = placed in
          let x = line-within (drop o v) in
          let y = line-within (drop e v) in (
            (p.from, omega (arith, start_is, x.1.1 (omega (arith, length-drop o v, p.opens.within)))),
            (
              omega (arith, start_is, starts-after p.opens p.closes p.lines p.places),
              (
                omega (arith, next-is, y.1.1 (omega (arith, length-drop e v, p.closes.within))),
                omega (arith, next-is, y.1.0, length-drop e v, p.closes.within, text-length),
              ),
            ),
          )

      -- the lines before it and those between its markers are put
      pub dropped_turn : {w' : List ℕ} {r : ℕ} → w' ≡ sets w at (part c.at g.opener.at w ++ part start g.closer.at w)
          → r ≡ at + (g.opener.at - c.at) + (g.closer.at - start) → Dropped w₀ n w' r (record { at = next; line = g.closer.line })
      dropped_turn {w'} {r} p q =
          let o : ℕ = g.opener.at in
          let k : ℕ = g.closer.at in
          let v : List ℕ = take n w₀ in
          let a : List ℕ = part c.at o w in
          let b : List ℕ = part start k w in
          let x : List (List ℕ) = take (g.opener.line - (c.line + 1)) (drop c.line (pieces v)) in
          let y : List (List ℕ) = take (g.closer.line - (g.opener.line + 1)) (drop g.opener.line (pieces v)) in
          let h = dropped_places in
          let la : length a ≡ o - c.at = part_full w c.at o (omega (arith, d.sized)) in
          let lb : length b ≡ k - start = part_full w start k (omega (arith, d.sized)) in
          let lc : length (a ++ b) ≡ length a + length b = length-append a b in
          let c1 : (c.line + 1) - 1 ≡ c.line = omega arith in
          let c2 : (g.opener.line + 1) - 1 ≡ g.opener.line = omega arith in
          let ea : pieces a ≡ x ++ ([] ∷ []) =
          ap pieces (same-part w₀ w c.at d.same n c.at o (omega arith) (omega arith)) ∙ pieces_between (line-starts d.line (omega (arith, text-length))) placed.opens placed.from (omega (arith, placed.later))
          ∙ ap (λ (i : ℕ). take (g.opener.line - (c.line + 1)) (drop i (pieces v)) ++ ([] ∷ [])) c1 in
          let eb : pieces b ≡ y ++ ([] ∷ []) =
          ap pieces (same-part w₀ w c.at d.same n start k (omega arith) (omega arith) ∙ ap (λ (i : ℕ). part i k v) start_is)
          ∙ pieces_between (starts-next placed.opens (omega (arith, start_is, text-length))) placed.closes (omega (arith, start_is)) (omega (arith, placed.lines))
          ∙ ap (λ (i : ℕ). take (g.closer.line - (g.opener.line + 1)) (drop i (pieces v)) ++ ([] ∷ [])) c2 in
          rw next-is
          (record {
            sized = ap length p ∙ length-sets w at (a ++ b) ∙ d.sized;
            line = next-line d.line (found e);
            order = omega (arith, next-is, d.order);
            same = ap (drop (line_after k v)) p ∙ drop_past w (a ++ b) at (line_after k v) (omega (arith, next-is, d.order)) ∙ same_drop w₀ w c.at d.same (line_after k v) (omega (arith, next-is));
            put = d.put ++ (x ++ y);
            bytes = ap pieces (put-block (a ++ b) w' r p (omega arith) (omega (arith, d.order)))
                ∙ pieces-ended (take at w) (a ++ b) d.put d.bytes
                ∙ ap (λ (l : List (List ℕ)). d.put ++ l) (pieces-ended a b x ea ∙ ap (λ (l : List (List ℕ)). x ++ l) eb)
                ∙ simp append_assoc;
            rest = d.rest
                ∙ ap (λ (l : List (List ℕ)). d.put ++ l)
                (ap (λ (l : List Region). unmarked_from (c.line + 1) l (drop c.line (pieces v))) (found e)
                ∙ unmarked_next v c.line c.at g gs (next_ordered d.line (found e))
                ∙ ap (λ (l : List Region). x ++ (y ++ unmarked_from (g.closer.line + 1) l (drop g.closer.line (pieces v)))) (regions_behind v c (found e)))
                ∙ simp append_assoc;
          })
