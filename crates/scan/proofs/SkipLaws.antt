-- Laws of `specs/Skip.antt`: three bytes side by side in a text and in its parts, for code that looks for them byte by byte or block
-- by block; a text without a hint has plain lines only; and what a walk that skips such lines has passed.
-- Assumes nothing.
use Rattle.std.specs.Prelude.{None}
use Prim.Native.Nat.{ℕ, zero, suc, ◌+◌, ◌-◌, ◌≤◌, ◌<◌, zero-le}
use native.Mathlib.Nat.{zero-add}
use native.Mathlib.Numerals.{add-one, add-two}
use native.Mathlib.Omega.{arith}
use mathlib.Core.Path.{◌≡◌, refl, sym, ap, ◌∙◌}
use mathlib.Core.Bool.{Bool, true, false, ◌&&◌, ◌||◌, false≢true, and-false, or_assoc, or-false}
use mathlib.Core.List.{List, [], ◌∷◌, ◌++◌}
use lib.ListN.{length, take, drop, get_or, length-drop}
use lib.Seq.{drop-cons, drop-drop, take-take, take-nil}
use lib.Dec.{eqb}
use lib.Bits.{bit_xor}
use borrow.Author.Tests.{eqb-true}
use Rattle.text.specs.Bytes.{part, is, count, after_last}
use Rattle.text.specs.Pattern.{starts_with, find, is_at, contains}
use Rattle.text.specs.Space.{lead, trim_start}
use Rattle.text.specs.Lines.{LF, Line, lines_from, line_end, line_next}
use Rattle.text.proofs.BytesLaws.{part_length, or_left, or_right, rest, after_le}
use Rattle.text.proofs.LineLaws.{lines_step, lines_at, line-within, lines-split-at, lines_skipped_at}
use Rattle.fence.specs.Fences.{is_fence}
use Rattle.marker.specs.Marker.{OPEN}
use Rattle.scan.specs.Skip.{any_three, hint, trace, all_plain, Skipped}

or_none : (a b : Bool) → a ≡ false → b ≡ false → (a || b) ≡ false
or_none true b e d = e
or_none false b e d = d

-- a part of a part
take_within : (k n m : ℕ) (l : List ℕ) → k + n ≤ m → take n (drop k (take m l)) ≡ take n (drop k l)
take_within zero n m l h = take-take n m l (omega arith)
take_within (suc k) n m [] h = rw (take-nil m)
take_within (suc k) n zero (x ∷ l) h = absurd (omega arith)
take_within (suc k) n (suc m) (x ∷ l) h = take_within k n m l (omega arith)

pub part-within : (s : List ℕ) (a b d e : ℕ) → a ≤ b → b ≤ d → d ≤ e → take (d - b) (drop (b - a) (part a e s)) ≡ part b d s
part-within s a b d e h i j =
    let k : a + (b - a) ≡ b = omega arith in
    take_within (b - a) (d - b) (e - a) (drop a s) (omega arith) ∙ rw (drop-drop, k)

-- three bytes at place i
three : (s : List ℕ) (i : ℕ) → i + 2 < length s → drop i s ≡ get_or s i 0 ∷ get_or s (i + 1) 0 ∷ get_or s (i + 2) 0 ∷ drop (suc (suc (suc i))) s
three s i h = rw (add-one, add-two, drop-cons s i 0 (omega arith), drop-cons s (suc i) 0 (omega arith), drop-cons s (suc (suc i)) 0 (omega arith))

next : (s : List ℕ) (i : ℕ) → i + 2 < length s → drop (i + 1) s ≡ get_or s (i + 1) 0 ∷ get_or s (i + 2) 0 ∷ drop (suc (suc (suc i))) s
next s i h = rw (add-one, add-two, drop-cons s (suc i) 0 (omega arith), drop-cons s (suc (suc i)) 0 (omega arith))

module _ (g : ℕ → ℕ → ℕ → Bool) where
  -- a walk by place i, with what was seen before it
  pub three_more : (s : List ℕ) (i : ℕ) (h : Bool) → i + 2 < length s
      → ((h || g (get_or s i 0) (get_or s (i + 1) 0) (get_or s (i + 2) 0)) || any_three g (drop (i + 1) s)) ≡ (h || any_three g (drop i s))
  unfolding any_three
  three_more s i h p =
      or_assoc h (g (get_or s i 0) (get_or s (i + 1) 0) (get_or s (i + 2) 0)) (any_three g (drop (i + 1) s)) ∙ rw (three s i p, next s i p)

  pub three-short : (l : List ℕ) → length l ≤ 2 → any_three g l ≡ false
  unfolding any_three
  three-short [] h = refl
  three-short (x ∷ []) h = refl
  three-short (x ∷ y ∷ []) h = refl
  three-short (x ∷ y ∷ z ∷ l) h = absurd (omega arith)

  pub three-end : (s : List ℕ) (i : ℕ) (h : Bool) → length s - i ≤ 2 → (h || any_three g (drop i s)) ≡ h
  three-end s i h p = rw (three-short (drop i s) (omega (arith, length-drop i s))) (or-false h)

  -- a part of a text without such a place has none
  three-tail : (x : ℕ) (l : List ℕ) → any_three g (x ∷ l) ≡ false → any_three g l ≡ false
  unfolding any_three
  three-tail x [] e = refl
  three-tail x (y ∷ []) e = refl
  three-tail x (y ∷ z ∷ l) e = or_right (g x y z) (any_three g (y ∷ z ∷ l)) e

  pub three-drop : (k : ℕ) (l : List ℕ) → any_three g l ≡ false → any_three g (drop k l) ≡ false
  three-drop zero l e = e
  three-drop (suc k) [] e = e
  three-drop (suc k) (x ∷ l) e = three-drop k l (three-tail x l e)

  -- a byte before a part, where none stands at it in a longer part
  three-head : (x : ℕ) (n k : ℕ) (t : List ℕ) → any_three g (x ∷ take (suc (suc k)) t) ≡ false → any_three g (take n t) ≡ false → any_three g (x ∷ take n t) ≡ false
  unfolding any_three
  three-head x zero k t e h = refl
  three-head x (suc n) k [] e h = refl
  three-head x (suc zero) k (y ∷ t) e h = refl
  three-head x (suc (suc n)) k (y ∷ []) e h = refl
  three-head x (suc (suc n)) k (y ∷ z ∷ t) e h =
      or_none (g x y z) (any_three g (y ∷ z ∷ take n t)) (or_left (g x y z) (any_three g (y ∷ z ∷ take k t)) e) h

  three-first : (x : ℕ) (t : List ℕ) → any_three g (x ∷ t) ≡ false → any_three g (x ∷ take 2 t) ≡ false
  unfolding any_three
  three-first x [] e = refl
  three-first x (y ∷ []) e = refl
  three-first x (y ∷ z ∷ t) e = or_none (g x y z) false (or_left (g x y z) (any_three g (y ∷ z ∷ t)) e) refl

  pub three-take : (n : ℕ) (l : List ℕ) → any_three g l ≡ false → any_three g (take n l) ≡ false
  three-take zero l e = three-short [] zero-le
  three-take (suc n) [] e = e
  three-take (suc n) (x ∷ l) e = three-head x n 0 l (three-first x l e) (three-take n l (three-tail x l e))

  pub three-within : (s : List ℕ) (a b d e : ℕ) → a ≤ b → b ≤ d → d ≤ e → any_three g (part a e s) ≡ false → any_three g (part b d s) ≡ false
  three-within s a b d e h i j q =
      rw (← part-within s a b d e h i j) (three-take (d - b) (drop (b - a) (part a e s)) (three-drop (b - a) (part a e s) q))

  -- two parts that overlap by two bytes
  three-join : (k m : ℕ) (l : List ℕ) → any_three g (take (k + 2) l) ≡ false → any_three g (take m (drop k l)) ≡ false → any_three g (take (k + m) l) ≡ false
  three-join zero m l e h = rw (zero-add m) h
  three-join (suc k) m [] e h = ap (any_three g) (take-nil (suc k + m)) ∙ three-short [] zero-le
  three-join (suc k) m (x ∷ t) e h =
      let y : suc k + m ≡ suc (k + m) = omega arith in
      let z : suc k + 2 ≡ suc (suc (suc k)) = omega arith in
      let w : k + 2 ≡ suc (suc k) = omega arith in
      let d : any_three g (x ∷ take (suc (suc k)) t) ≡ false = rw z at e in
      let i : any_three g (take (k + m) t) ≡ false = three-join k m t (rw w (three-tail x (take (suc (suc k)) t) d)) h in
      rw y (three-head x (k + m) k t d i)

  pub three_joined : (s : List ℕ) (a i e : ℕ) → a ≤ i → i ≤ e → any_three g (part a (i + 2) s) ≡ false → any_three g (part i e s) ≡ false
      → any_three g (part a e s) ≡ false
  three_joined s a i e h j p q =
      let k : e - a ≡ (i - a) + (e - i) = omega arith in
      let n : (i + 2) - a ≡ (i - a) + 2 = omega arith in
      let m : a + (i - a) ≡ i = omega arith in
      rw k (three-join (i - a) (e - i) (drop a s) (rw n at p) (rw (drop-drop, m) q))

  -- by blocks that overlap so, from place a on
  pub three-start : (s : List ℕ) (a : ℕ) → any_three g (part a (a + 2) s) ≡ false
  three-start s a = three-short (part a (a + 2) s) (omega (arith, part_length s a (a + 2)))

  pub three_block : (s : List ℕ) (a i n : ℕ) → a ≤ i → any_three g (part a (i + 2) s) ≡ false → any_three g (part i (i + (n + 2)) s) ≡ false
      → any_three g (part a ((i + n) + 2) s) ≡ false
  three_block s a i n h p q =
      let k : (i + n) + 2 ≡ i + (n + 2) = omega arith in
      rw k (three_joined s a i (i + (n + 2)) h (omega arith) p q)

  -- a text without such a place holds no pattern that begins with one
  pub three-starts : (a b c : ℕ) (p l : List ℕ) → g a b c ≡ true → any_three g l ≡ false → starts_with (a ∷ b ∷ c ∷ p) l ≡ false
  unfolding starts_with any_three
  three-starts a b c p [] h e = refl
  three-starts a b c p (x ∷ []) h e = and-false (eqb x a)
  three-starts a b c p (x ∷ y ∷ []) h e = rw (and-false (eqb y b)) (and-false (eqb x a))
  three-starts a b c p (x ∷ y ∷ z ∷ l) h e = go (eqb x a) (eqb y b) (eqb z c) refl refl refl
    where
      go : (q r t : Bool) → eqb x a ≡ q → eqb y b ≡ r → eqb z c ≡ t → (q && (r && (t && starts_with p l))) ≡ false
      go true true true i j k =
          let d : g x y z ≡ false = or_left (g x y z) (any_three g (y ∷ z ∷ l)) e in
          absurd (false≢true (sym (rw (eqb-true x a i, eqb-true y b j, eqb-true z c k) at d) ∙ h))
      go true true false i j k = refl
      go true false t i j k = refl
      go false r t i j k = refl

  -- nor one that has one after other bytes q
  three-starts-in : (q : List ℕ) (a b c : ℕ) (p l : List ℕ) → g a b c ≡ true → any_three g l ≡ false → starts_with (q ++ a ∷ b ∷ c ∷ p) l ≡ false
  unfolding starts_with
  three-starts-in [] a b c p l h e = three-starts a b c p l h e
  three-starts-in (d ∷ q) a b c p [] h e = refl
  three-starts-in (d ∷ q) a b c p (x ∷ l) h e = rw (three-starts-in q a b c p l h (three-tail x l e)) (and-false (eqb x d))

  pub three-find : (q : List ℕ) (a b c : ℕ) (p l : List ℕ) → g a b c ≡ true → any_three g l ≡ false → find (q ++ a ∷ b ∷ c ∷ p) l ≡ None
  unfolding find
  three-find q a b c p [] h e = rw (three-starts-in q a b c p [] h e)
  three-find q a b c p (x ∷ l) h e = rw (three-starts-in q a b c p (x ∷ l) h e, three-find q a b c p l h (three-tail x l e))

  -- a test that passes less finds no more
  three-fewer : (f : ℕ → ℕ → ℕ → Bool) → ((x y z : ℕ) → g x y z ≡ false → f x y z ≡ false) → (l : List ℕ) → any_three g l ≡ false → any_three f l ≡ false
  unfolding any_three
  three-fewer f less [] e = refl
  three-fewer f less (x ∷ []) e = refl
  three-fewer f less (x ∷ y ∷ []) e = refl
  three-fewer f less (x ∷ y ∷ z ∷ l) e =
      or_none (f x y z) (any_three f (y ∷ z ∷ l)) (less x y z (or_left (g x y z) (any_three g (y ∷ z ∷ l)) e))
      (three-fewer f less (y ∷ z ∷ l) (or_right (g x y z) (any_three g (y ∷ z ∷ l)) e))

-- a hint leaves its trace
traced : (x y z : ℕ) → trace x y z ≡ false → hint x y z ≡ false
traced x y z e = go (eqb x 0x2D) (eqb z 0x5B) refl refl
  where
    marks : (eqb x 0x60 || eqb x 0x7E) ≡ false
    marks = or_left (eqb x 0x60 || eqb x 0x7E) (eqb (bit_xor x z) 0x76) e

    go : (q r : Bool) → eqb x 0x2D ≡ q → eqb z 0x5B ≡ r → (eqb x y && ((eqb x z && (eqb x 0x60 || eqb x 0x7E)) || (q && r))) ≡ false
    go true true i j =
        let d : eqb (bit_xor x z) 0x76 ≡ false = or_right (eqb x 0x60 || eqb x 0x7E) (eqb (bit_xor x z) 0x76) e in
        absurd (false≢true (sym (rw (eqb-true x 0x2D i, eqb-true z 0x5B j) at d)))
    go true false i j = rw (marks, and-false (eqb x z)) (and-false (eqb x y))
    go false r i j = rw (marks, and-false (eqb x z)) (and-false (eqb x y))

pub no_trace : (l : List ℕ) → any_three trace l ≡ false → any_three hint l ≡ false
no_trace l e = three-fewer trace hint traced l e

-- so a line without a hint is no fence and holds no marker
pub plain-line : (l : List ℕ) → any_three hint l ≡ false → (is_fence l ≡ false) × (contains OPEN l ≡ false)
unfolding is_fence trim_start
plain-line l e =
    let d : any_three hint (drop (lead l) l) ≡ false = three-drop hint (lead l) l e in (
      rw (three-starts hint 0x60 0x60 0x60 [] (drop (lead l) l) refl d) (three-starts hint 0x7E 0x7E 0x7E [] (drop (lead l) l) refl d),
      ap is_at (three-find hint (0x3C ∷ 0x21 ∷ []) 0x2D 0x2D 0x5B [] l refl e),
    )

-- and a text without one has plain lines only
plain-first : (s : List ℕ) (o : ℕ) → any_three hint s ≡ false
    → (0 < length s → all_plain (lines_from (o + line_next s) (drop (line_next s) s)) ≡ true) → all_plain (lines_from o s) ≡ true
unfolding all_plain lines_from
plain-first [] o e others = refl
plain-first (x ∷ t) o e others =
    let s : List ℕ = x ∷ t in
    let p = plain-line (take (line_end s) s) (three-take hint (line_end s) s e) in
    rw (lines_step s o (omega arith), p.0, p.1) (others (omega arith))

plain_fuel : (k : ℕ) (s : List ℕ) (o : ℕ) → length s ≤ k → any_three hint s ≡ false → all_plain (lines_from o s) ≡ true
plain_fuel zero s o h e = plain-first s o e (λ z. absurd (omega arith))
plain_fuel (suc k) s o h e =
    plain-first s o e
    (λ z. plain_fuel k (drop (line_next s) s) (o + line_next s) (omega (arith, length-drop (line_next s) s, (line-within s).1.1 z)) (three-drop hint (line_next s) s e))

pub plain_lines : (s : List ℕ) (o : ℕ) → any_three hint s ≡ false → all_plain (lines_from o s) ≡ true
plain_lines s o e = plain_fuel (length s) s o (omega arith) e

-- what was passed: all lines, or those up to the last LF before a place p, where no hint stands before that
pub passed_all : (s : List ℕ) (a p : ℕ) → p ≡ length s → any_three hint (part a p s) ≡ false → all_plain (lines_from a (drop a s)) ≡ true
passed_all s a p h e = plain_lines (drop a s) a (rw (h, rest) at e)

pub passed-some : (s : List ℕ) (a n p b c e x : ℕ) → a ≤ p → any_three hint (part a p s) ≡ false → b ≡ a + after_last (is LF) (part a p s)
    → c ≡ count (is LF) (part a b s) → b < length s → e ≡ b + line_end (drop b s) → x ≡ b + line_next (drop b s)
    → Skipped s a (n + 1) ((n + c) + 1) (record { start = b; bytes = part b e s } ∷ lines_from x (drop x s))
passed-some s a n p b c e x h q hb hc l he hx = record {
  passed = lines_from a (part a b s);
  lines = lines-split-at s a p b hb ∙ ap (λ (r : List Line). lines_from a (part a b s) ++ r) (lines_at s b e x l he hx);
  plain = plain_lines (part a b s) a
      (three-within hint s a a b p (omega arith) (omega arith) (omega (arith, after_le (is LF) (part a p s), part_length s a p)) q);
  number = omega (arith, lines_skipped_at s a p b hb);
}
