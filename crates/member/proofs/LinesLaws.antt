-- Laws of `specs/Lines.antt`: the lines of a text from a line's start on, and those kept of them, one after the other. Assumes nothing.
use Prim.Native.Nat.{ℕ, zero, suc, ◌+◌, ◌-◌, ◌≤◌, ◌<◌}
use native.Mathlib.Omega.{arith}
use mathlib.Core.Path.{◌≡◌, refl, sym, ap, ◌∙◌}
use mathlib.Core.Bool.{Bool, true, false, cond}
use mathlib.Core.List.{List, [], ◌∷◌}
use lib.ListN.{length, take, drop, length-drop}
use lib.Seq.{length-take-le, take-length, take-take}
use lib.Dec.{eqb, leb}
use borrow.Author.Tests.{le-leb, lt-leb, leb-true, eqb-true}
use Rattle.text.specs.Bytes.{part, is, first}
use Rattle.text.specs.Lines.{LF, pieces, pieces_after}
use Rattle.text.proofs.BytesLaws.{first_le, drop_take, part_full}
use Rattle.text.proofs.LineLaws.{pieces-at, before-end}
use Rattle.heading.specs.Contents.{drops}
use Rattle.heading.specs.Walk.{step_kind, step_after}
use Rattle.heading.specs.declared.walk.LineKind.{LineKind}
use Rattle.heading.specs.declared.walk.WalkState.{WalkState}
use Rattle.shift.specs.Shift.{told_from}
use Rattle.member.specs.Member.{without_contents}
use Rattle.member.specs.Lines.{lines_on, left_of, IsLine}
use Rattle.member.specs.declared.lines.LineCursor.{LineCursor}

-- the lines from a line's start on, and behind the last
pub lines_on_lem : (s : List ℕ) (a : ℕ) → a ≤ length s → lines_on a s ≡ pieces (drop a s)
lines_on_lem s a h = rw (le-leb a (length s) h)

pub lines-off : (s : List ℕ) (a : ℕ) → length s < a → lines_on a s ≡ []
lines-off s a h = rw (lt-leb a (length s) h)

-- those behind a line that ends at e
lines_after : (s : List ℕ) (e : ℕ) (last : Bool) → e ≤ length s → last ≡ eqb e (length s) → pieces_after last e s ≡ lines_on (e + 1) s
lines_after s e true h q = let z : e ≡ length s = eqb-true e (length s) (sym q) in sym (lines-off s (e + 1) (omega arith))
lines_after s e false h q = let z : e < length s = before-end q refl h in sym (lines_on_lem s (e + 1) (omega arith))

-- the line that starts at a and ends at the first LF from there on, and those behind it
line_first : (s : List ℕ) (a e : ℕ) → a ≤ e → e ≤ length s → e ≡ a + first (is LF) (drop a s) → lines_on a s ≡ part a e s ∷ lines_on (e + 1) s
line_first s a e h i q =
    lines_on_lem s a (omega arith)
    ∙ pieces-at s a e i q
    ∙ ap (λ (ls : List (List ℕ)). part a e s ∷ ls) (lines_after s e (eqb e (length s)) i refl)

-- a text that is cut behind the first byte of a kind, or at it
first-cut : (f : ℕ → Bool) (u : List ℕ) (n : ℕ) → first f u ≤ n → first f (take n u) ≡ first f u
unfolding first
first-cut f [] zero h = refl
first-cut f [] (suc n) h = refl
first-cut f (x ∷ u) zero h = omega arith
first-cut f (x ∷ u) (suc n) h = go (f x) (λ k. first-cut f u n k) h
  where
    go : (b : Bool) → (first f u ≤ n → first f (take n u) ≡ first f u) → cond b 0 (suc (first f u)) ≤ suc n
        → ◌≡◌ {A = ℕ} (cond b 0 (suc (first f (take n u)))) (cond b 0 (suc (first f u)))
    go true ih k = refl
    go false ih k = ap suc (ih (omega arith))

-- a piece that `text::lines::piece` finds ends there
module _ (s : List ℕ) (a e : ℕ) (ls : List (List ℕ)) (h : a ≤ e) (i : e ≤ length s) (p : pieces (drop a s) ≡ part a e s ∷ ls) where
  piece-end : e ≡ a + first (is LF) (drop a s)
  piece-end =
      let f : ℕ = a + first (is LF) (drop a s) in
      let k : f ≤ length s = omega (arith, first_le (is LF) (drop a s), length-drop a s) in
      let q : part a e s ≡ part a f s = cc (p, pieces-at s a f k refl) in
      omega (arith, ap length q, part_full s a e i, part_full s a f k)

  -- so it is a line of the text up to any place behind it
  pub lines_cut : (n : ℕ) → e ≤ n → n ≤ length s → lines_on a (take n s) ≡ part a e s ∷ lines_on (e + 1) (take n s)
  lines_cut n k m =
      let l : length (take n s) ≡ n = length-take-le n s m in
      let f : first (is LF) (part a n s) ≡ first (is LF) (drop a s) = first-cut (is LF) (drop a s) (n - a) (omega (arith, piece-end)) in
      let q : part a e (take n s) ≡ part a e s = ap (take (e - a)) (drop_take s a n) ∙ take-take (e - a) (n - a) (drop a s) (omega arith) in
      line_first (take n s) a e h (omega arith) (omega (arith, piece-end, ap (first (is LF)) (drop_take s a n)))
      ∙ ap (λ (u : List ℕ). u ∷ lines_on (e + 1) (take n s)) q

-- the line that is left first
pub record LineAt (s : List ℕ) (a : ℕ) (x : List ℕ) (ls : List (List ℕ)) : Type 0 where
  pub within : a + length x ≤ length s
  pub whole : x ≡ part a (a + length x) s
  pub first : pieces (drop a s) ≡ part a (a + length x) s ∷ ls
  pub left : lines_on (a + length x + 1) s ≡ ls

module _ (s : List ℕ) (a : ℕ) {x : List ℕ} {ls : List (List ℕ)} (q : lines_on a s ≡ x ∷ ls) where
  on-text : a ≤ length s
  on-text = go (leb a (length s)) refl q
    where
      go : (b : Bool) → leb a (length s) ≡ b → cond b (pieces (drop a s)) [] ≡ x ∷ ls → a ≤ length s
      go true e r = leb-true a (length s) e
      go false e r = absurd (omega (arith, ap length r))

  pub line_at : LineAt s a x ls
  line_at =
      let e : ℕ = a + first (is LF) (drop a s) in
      let h : a ≤ length s = on-text in
      let w : e ≤ length s = omega (arith, first_le (is LF) (drop a s), length-drop a s) in
      let y : x ∷ ls ≡ part a e s ∷ lines_on (e + 1) s = sym q ∙ line_first s a e (omega arith) w refl in
      let i : x ≡ part a e s = cc in
      let j : ls ≡ lines_on (e + 1) s = cc in
      let k : a + length x ≡ e = omega (arith, ap length i, part_full s a e w) in
      record {
        within = rw k w;
        whole = rw k i;
        first = rw k (sym (lines_on_lem s a h) ∙ q ∙ ap (λ (u : List ℕ). u ∷ ls) i);
        left = rw k (sym j);
      }

-- a line that is dropped, and one that is kept
module _ (within : Bool) {l : List ℕ} {ks ls : List (List ℕ)} (p : ks ≡ l ∷ ls) where
  pub without_drop : drops within l ≡ true → without_contents within ks ≡ without_contents true ls
  unfolding without_contents
  without_drop e = rw (p, e)

  pub without_keep : drops within l ≡ false → without_contents within ks ≡ l ∷ without_contents false ls
  unfolding without_contents
  without_keep e = rw (p, e)

-- the lines kept from place a on are those that a cursor has left, in the text up to any place that is not before a
pub record Kept (s : List ℕ) (from a : ℕ) (within : Bool) : Type 0 where
  pub order : from ≤ a
  pub inside : a ≤ suc (length s)
  pub same : (n : ℕ) → a ≤ suc n → n ≤ length s → without_contents within (lines_on a (take n s)) ≡ without_contents false (lines_on from (take n s))

pub kept-none : (s : List ℕ) (a : ℕ) → a ≤ suc (length s) → Kept s a a false
kept-none s a h = record { order = omega arith; inside = h; same = λ n i j. refl }

-- none is left
pub kept-end : {s : List ℕ} {a : ℕ} {within : Bool} (c : LineCursor) → Kept s c.at a within → lines_on a s ≡ [] → left_of c s ≡ []
unfolding without_contents told_from
kept-end {s} {a} {within} c k h =
    let e = rw (take-length s) at (k.same (length s) k.inside (omega arith)) in
    ap (told_from c.state) (sym e ∙ ap (without_contents within) h)

-- the line that stands from a up to e
module _ {s : List ℕ} {a : ℕ} {within : Bool} (from e : ℕ) (k : Kept s from a within)
    (p : (n : ℕ) → e ≤ n → n ≤ length s → lines_on a (take n s) ≡ part a e s ∷ lines_on (e + 1) (take n s)) (h : (a ≤ e) × (e ≤ length s)) where
  -- is dropped
  pub kept-drop : {b : Bool} → b ≡ drops within (part a e s) → b ≡ true → Kept s from (e + 1) b
  kept-drop q r =
      record {
        order = omega (arith, k.order);
        inside = omega arith;
        same = λ n i j. rw r (sym (without_drop within (p n (omega arith) j) (sym q ∙ r)) ∙ k.same n (omega arith) j);
      }

  -- or is the next
  kept_next : (n : ℕ) → drops within (part a e s) ≡ false → e ≤ n → n ≤ length s
      → without_contents false (lines_on from (take n s)) ≡ part a e s ∷ without_contents false (lines_on (e + 1) (take n s))
  kept_next n q i j = sym (k.same n (omega arith) j) ∙ without_keep within (p n i j) q

pub kept_line : {s : List ℕ} {a : ℕ} {within : Bool} (c : LineCursor) (e : ℕ) → Kept s c.at a within
    → ((n : ℕ) → e ≤ n → n ≤ length s → lines_on a (take n s) ≡ part a e s ∷ lines_on (e + 1) (take n s)) → (a ≤ e) × (e ≤ length s)
    → drops within (part a e s) ≡ false → {k : LineKind} {st : WalkState} → k ≡ step_kind c.state.fence c.state.comment (part a e s)
    → st ≡ step_after c.state.fence c.state.comment (part a e s) → IsLine s c a e k (record { at = e + 1; line = c.line + 1; state = st })
unfolding told_from
kept_line {s} {a} {within} c e w p h q {k} {st} f g =
    record {
      order = w.order;
      forward = h.0;
      within = h.1;
      kind = f;
      after = rw g;
      left = rw (take-length s) at (next (length s) h.1 (omega arith));
      up_to = next;
    }
  where
    next : (n : ℕ) → e ≤ n → n ≤ length s
        → left_of c (take n s) ≡ record { kind = k; bytes = part a e s } ∷ told_from st (without_contents false (lines_on (e + 1) (take n s)))
    next n i j = ap (told_from c.state) (kept_next c.at e w p h n q i j) ∙ rw (g, f)
