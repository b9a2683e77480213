-- Laws of the pieces between LFs, as the iterators of `src/lines.rt` give them: the first one, and those that are left behind it.
-- Assumes nothing.
use Prim.Native.Nat.{ℕ, suc, ◌+◌, ◌-◌, ◌≤◌, ◌<◌, zero-le}
use native.Mathlib.Nat.{not-suc-le-zero}
use native.Mathlib.Numerals.{sub-one}
use native.Mathlib.Decide.{dec_le}
use native.Mathlib.Omega.{arith}
use mathlib.Core.Path.{◌≡◌, refl, sym, ap, ◌∙◌}
use mathlib.Core.Bool.{cond}
use mathlib.Core.List.{List, [], ◌∷◌}
use lib.ListN.{length, take, drop, length-drop, length-take}
use lib.Dec.{leb}
use borrow.Author.Tests.{le-leb, lt-leb}
use Rattle.text.specs.Bytes.{part, is, first}
use Rattle.text.specs.Lines.{LF, pieces, pieces_from, ended}
use Rattle.text.proofs.BytesLaws.{first_le, count_le, part_full}
use Rattle.text.proofs.SplitLaws.{split-step-at, split-last-at, split-count, split-some}

-- the pieces from place 0 on are all
pub all_pieces : (s : List ℕ) → pieces_from s 0 ≡ pieces s
unfolding pieces_from
all_pieces s = rw (le-leb 0 (length s) zero-le)

-- the piece from place a on, which stands up to the next LF, and those behind that
pub more_pieces : (s : List ℕ) (a : ℕ) → a ≤ length s
    → pieces_from s a ≡ part a (a + first (is LF) (drop a s)) s ∷ pieces_from s (a + first (is LF) (drop a s) + 1)
unfolding pieces_from
more_pieces s a h = rw (le-leb a (length s) h) (go (dec_le (length s) (a + first (is LF) (drop a s))))
  where
    go : Dec (length s ≤ a + first (is LF) (drop a s))
        → pieces (drop a s) ≡ part a (a + first (is LF) (drop a s)) s ∷ cond (leb (a + first (is LF) (drop a s) + 1) (length s)) (pieces (drop (a + first (is LF) (drop a s) + 1) s)) []
    go (yes k) =
        rw (lt-leb (a + first (is LF) (drop a s) + 1) (length s) (omega arith))
        (split-last-at LF s a (a + first (is LF) (drop a s)) (omega (arith, length-drop a s, first_le (is LF) (drop a s))) refl)
    go (no k) = rw (le-leb (a + first (is LF) (drop a s) + 1) (length s) (omega arith)) (split-step-at LF s a (a + first (is LF) (drop a s)) (omega arith) refl)

-- behind the text there is none
pub no_pieces : (s : List ℕ) (a : ℕ) → length s < a → pieces_from s a ≡ []
unfolding pieces_from
no_pieces s a h = rw (lt-leb a (length s) h)

-- a text has at most one piece more than bytes
pub pieces_few : (s : List ℕ) → length (pieces s) ≤ length s + 1
pieces_few s = omega (arith, split-count LF s, count_le (is LF) s)

-- and no more that an LF ends than bytes
pub ended_few : (s : List ℕ) → length (ended s) ≤ length s
ended_few s = omega (arith, length-take (length (pieces s) - 1) (pieces s), pieces_few s)

-- the piece from place a on, where an LF ends it, and those behind that which one ends
all-but-last : (l : List ℕ) (ls : List (List ℕ)) → 0 < length ls → take (suc (length ls) - 1) (l ∷ ls) ≡ l ∷ take (length ls - 1) ls
all-but-last l [] h = absurd (not-suc-le-zero h)
all-but-last l (m ∷ ls) h = simp sub-one

pub more_ended : (s : List ℕ) (a : ℕ) → a + first (is LF) (drop a s) < length s
    → ended (drop a s) ≡ part a (a + first (is LF) (drop a s)) s ∷ ended (drop (a + first (is LF) (drop a s) + 1) s)
more_ended s a h =
    let e : ℕ = a + first (is LF) (drop a s) in
    rw (split-step-at LF s a e h refl) (all-but-last (part a e s) (pieces (drop (e + 1) s)) (split-some LF (drop (e + 1) s)))

-- where none does, all that is left is one piece
one_piece : (s : List ℕ) (a : ℕ) → a + first (is LF) (drop a s) ≡ length s → pieces (drop a s) ≡ part a (length s) s ∷ []
one_piece s a h = split-last-at LF s a (length s) refl (sym h)

pub no_ended : (s : List ℕ) (a : ℕ) → a + first (is LF) (drop a s) ≡ length s → ended (drop a s) ≡ []
no_ended s a h = rw (one_piece s a h)

-- a line that an LF ends, from place a on, and those behind it
pub record EndedAt (s : List ℕ) (a : ℕ) (l : List ℕ) (ls : List (List ℕ)) : Type 0 where
  pub before : a + length l < length s
  pub whole : l ≡ part a (a + length l) s
  pub piece : pieces (drop a s) ≡ part a (a + length l) s ∷ pieces (drop (a + length l + 1) s)
  pub more : ls ≡ ended (drop (a + length l + 1) s)

module _ (s : List ℕ) (a : ℕ) (w : a ≤ length s) where
  f : ℕ
  f = a + first (is LF) (drop a s)

  within : f ≤ length s
  unfolding f
  within = omega (arith, length-drop a s, first_le (is LF) (drop a s))

  pub ended_at : {l : List ℕ} {ls : List (List ℕ)} → ended (drop a s) ≡ l ∷ ls → EndedAt s a l ls
  unfolding f
  ended_at {l} {ls} e = go (dec_le (length s) f)
    where
      go : Dec (length s ≤ f) → EndedAt s a l ls
      go (yes h) = absurd (omega (arith, ap length (sym e ∙ no_ended s a (omega (arith, within)))))
      go (no h) =
          let k : f < length s = omega arith in
          let p = split-step-at LF s a f k refl in
          let q = sym e ∙ more_ended s a k in
          let w : l ≡ part a f s = cc in
          let n : a + length l ≡ f = omega (arith, ap length w, part_full s a f (omega arith)) in
          record { before = rw n k; whole = rw n w; piece = rw n p; more = rw n cc }

  pub ended_none : ended (drop a s) ≡ [] → pieces (drop a s) ≡ part a (length s) s ∷ []
  unfolding f
  ended_none e = go (dec_le (length s) f)
    where
      go : Dec (length s ≤ f) → pieces (drop a s) ≡ part a (length s) s ∷ []
      go (yes k) = one_piece s a (omega (arith, within))
      go (no k) = absurd (omega (arith, ap length (sym e ∙ more_ended s a (omega arith))))
