-- Laws of `specs/Index.antt`: a needless zero, a line by its tabs, and the first line that is ill formed, line by line.
-- Assumes nothing.
use Rattle.std.specs.Prelude.{Some, None}
use Prim.Native.Nat.{ℕ, ◌+◌, ◌-◌, ◌≤◌, ◌<◌}
use native.Mathlib.Nat.{not-suc-le-zero, sub-zero}
use native.Mathlib.Omega.{arith}
use mathlib.Core.Path.{◌≡◌, refl}
use mathlib.Core.Bool.{Bool, cond, and-true}
use mathlib.Core.List.{List, [], ◌∷◌}
use lib.ListN.{length, take, drop, get_or, length-drop}
use lib.Seq.{length-take-le}
use lib.Dec.{eqb}
use borrow.Author.Tests.{le-leb, eq-eqb, ne_eqb}
use Rattle.text.specs.Bytes.{part, is, first}
use Rattle.text.specs.Lines.{LF, pieces}
use Rattle.text.specs.Pattern.{starts_with}
use Rattle.text.specs.Split.{split}
use Rattle.text.proofs.BytesLaws.{part_length, any_more, any-end}
use Rattle.text.proofs.SplitLaws.{split-step-at, split-last-at, split-some}
use Rattle.index.specs.Index.{TAB, is_name, is_needless, field_of, numbered, fields, line_of, is_fields, ill_formed_from}

-- a needless zero, by the first byte
pub needless_by : (s : List ℕ) (b : Bool) → 1 < length s → eqb (get_or s 0 0) 0x30 ≡ b → is_needless s ≡ b
unfolding starts_with
needless_by [] b h e = absurd (not-suc-le-zero h)
needless_by (x ∷ s) b h e = rw (le-leb 2 (length (x ∷ s)) h, e) (and-true b)

-- a line by the places of its tabs
four : (n a z : List ℕ) (ls : List (List ℕ)) → 0 < length ls → None ≡ fields (n ∷ a ∷ z ∷ ls)
four n a z [] h = absurd (not-suc-le-zero h)
four n a z (y ∷ ls) h = refl

abbrev Tab : List ℕ → ℕ → ℕ → Type 0
Tab l i e = e ≡ i + first (is TAB) (drop i l)

module _ (l : List ℕ) (a : ℕ) (p : Tab l 0 a) where
  pub line-one : a ≡ length l → None ≡ line_of l
  unfolding line_of
  line-one h = rw (split-last-at TAB l 0 a h p)

  module _ (b : ℕ) (h : a < length l) (q : Tab l (a + 1) b) where
    pub line-two : b ≡ length l → None ≡ line_of l
    unfolding line_of
    line-two k = rw (split-step-at TAB l 0 a h p, split-last-at TAB l (a + 1) b k q)

    module _ (c : ℕ) (k : b < length l) (r : Tab l (b + 1) c) where
      pub line_four : c < length l → None ≡ line_of l
      unfolding line_of
      line_four m =
          rw (split-step-at TAB l 0 a h p, split-step-at TAB l (a + 1) b k q, split-step-at TAB l (b + 1) c m r)
          (four (part 0 a l) (part (a + 1) b l) (part (b + 1) c l) (split TAB (drop (c + 1) l)) (split-some TAB (drop (c + 1) l)))

      pub line-three : c ≡ length l
          → line_of l ≡ cond (is_name (take a l)) (numbered a (field_of (part (a + 1) b l)) (field_of (part (b + 1) (length l) l))) None
      unfolding line_of
      line-three m =
          let n : length (take a l) ≡ a = length-take-le a l (omega arith) in
          rw (split-step-at TAB l 0 a h p, split-step-at TAB l (a + 1) b k q, split-last-at TAB l (b + 1) c m r, sub-zero a, n, m)

-- the first line that is ill formed, where the piece at place a ends at e: the last piece, then one with a piece behind it
before-piece : (n : ℕ) (l : List ℕ) (ls : List (List ℕ)) → 0 < length ls
    → ill_formed_from n (l ∷ ls) ≡ cond (is_fields (line_of l)) (ill_formed_from (n + 1) ls) (Some n)
unfolding ill_formed_from
before-piece n l [] h = absurd (not-suc-le-zero h)
before-piece n l (m ∷ ls) h = refl

module _ (s : List ℕ) (n a e : ℕ) where
  module _ (p : pieces (drop a s) ≡ part a e s ∷ []) where
    pub last_empty : a ≡ e → None ≡ ill_formed_from n (pieces (drop a s))
    unfolding ill_formed_from
    last_empty h = rw (p, eq-eqb (length (part a e s)) 0 (omega (arith, part_length s a e)))

    pub last_open : a < e → e ≤ length s → Some n ≡ ill_formed_from n (pieces (drop a s))
    unfolding ill_formed_from
    last_open h k =
        let m : length (part a e s) ≡ e - a = length-take-le (e - a) (drop a s) (omega (arith, length-drop a s)) in
        rw (p, ne_eqb (length (part a e s)) 0 (λ z. omega arith))

  pub next-piece : pieces (drop a s) ≡ part a e s ∷ pieces (drop (e + 1) s)
      → ill_formed_from n (pieces (drop a s)) ≡ cond (is_fields (line_of (part a e s))) (ill_formed_from (n + 1) (pieces (drop (e + 1) s))) (Some n)
  next-piece p = rw p (before-piece n (part a e s) (pieces (drop (e + 1) s)) (split-some LF (drop (e + 1) s)))

pub ruleset lines = (line-one, line-two, line_four, line-three)

pub ruleset bytes_more = (any_more, any-end)
