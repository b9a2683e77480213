-- Trimming and stripping are the same where no other space byte stands at an end and there only, and a closing run is no part of the text. Assumes nothing.
use Prim.Native.Nat.{ℕ, zero, suc, ◌-◌, ◌≤◌, ◌<◌}
use mathlib.Core.Path.{◌≡◌, refl, sym, ◌∙◌, ap}
use mathlib.Core.Bool.{Bool, true, false, cond, not, ◌||◌, false≢true}
use mathlib.Core.List.{List, [], ◌∷◌}
use native.Mathlib.Omega.{arith}
use borrow.Author.Tests.{not-true, not-false, eqb-true, ltb-true}
use lib.ListN.{length, take, drop, get_or, length-take}
use lib.Seq.{length-take-le, get_or-take, take-length}
use lib.Dec.{eqb}
use Rattle.text.specs.Bytes.{is, first, after_last}
use Rattle.text.specs.Space.{is_space, is_other, lead, kept, trim, trim_start, trim_end}
use Rattle.text.proofs.BytesLaws.{or_left, or_right, after_le, after_hit}
use Rattle.text.proofs.PatternLaws.{and_left}
use Rattle.commonmark.specs.Strip.{is_shown, strip, strip_start, strip_end}
use Rattle.commonmark.specs.Atx.{run_start, is_closed, unclosed}
use Rattle.commonmark.specs.Headings.{is_spaced}
use Rattle.commonmark.proofs.BoolLaws.{or_first}

-- the first byte of a text, and the byte before a place, pass a test
abbrev HeadIs : (ℕ → Bool) → List ℕ → Type 0
HeadIs g [] = Unit {0}
HeadIs g (x ∷ s) = g x ≡ true

abbrev LastIs : (ℕ → Bool) → List ℕ → ℕ → Type 0
LastIs g s zero = Unit {0}
LastIs g s (suc k) = g (get_or s k 0) ≡ true

-- two tests, where what passes the second passes the first
module _ (f g : ℕ → Bool) (within : (x : ℕ) → f x ≡ false → g x ≡ false) where
  first-same : (s : List ℕ) → HeadIs g (drop (first f s) s) → first g s ≡ first f s
  unfolding first
  first-same [] h = refl
  first-same (x ∷ s) h = go (f x) refl h (first-same s)
    where
      go : (b : Bool) → f x ≡ b → HeadIs g (drop (cond b 0 (suc (first f s))) (x ∷ s)) → (HeadIs g (drop (first f s) s) → first g s ≡ first f s)
          → cond (g x) 0 (suc (first g s)) ≡ cond b 0 (suc (first f s))
      go true e k ih = rw k
      go false e k ih = rw (within x e, ih k)

  after_same : (s : List ℕ) → LastIs g s (after_last f s) → after_last g s ≡ after_last f s
  unfolding after_last
  after_same [] h = refl
  after_same (x ∷ s) h = go (f x) (after_last f s) refl h (after_same s)
    where
      go : (b : Bool) (m : ℕ) → f x ≡ b → LastIs g (x ∷ s) (elim m [ zero ↦ cond b 1 0 | suc k ↦ suc (suc k) ]) → (LastIs g s m → after_last g s ≡ m)
          → ◌≡◌ {A = ℕ} (elim (after_last g s) [ zero ↦ cond (g x) 1 0 | suc k ↦ suc (suc k) ]) (elim m [ zero ↦ cond b 1 0 | suc k ↦ suc (suc k) ])
      go true zero e h ih = rw (ih tt, h)
      go false zero e h ih = rw (ih tt, within x e)
      go b (suc k) e h ih = rw (ih h)

first-is : (f : ℕ → Bool) (s : List ℕ) → HeadIs f (drop (first f s) s)
unfolding first
first-is f [] = tt
first-is f (x ∷ s) = go (f x) refl (first-is f s)
  where
    go : (b : Bool) → f x ≡ b → HeadIs f (drop (first f s) s) → HeadIs f (drop (cond b 0 (suc (first f s))) (x ∷ s))
    go true e ih = e
    go false e ih = ih

after-some : (f : ℕ → Bool) (x : ℕ) (s : List ℕ) → f x ≡ true → 0 < after_last f (x ∷ s)
unfolding after_last
after-some f x s e = go (after_last f s)
  where
    go : (m : ℕ) → 0 < elim m [ zero ↦ cond (f x) 1 0 | suc k ↦ suc (suc k) ]
    go zero = rw e (omega arith)
    go (suc k) = omega arith

-- a space or a tab is a space byte
shown_other : (x : ℕ) → is_shown x ≡ false → is_other x ≡ false
unfolding is_space
shown_other x h = go (eqb x 0x20) (eqb x 0x09) refl refl h
  where
    go : (a b : Bool) → eqb x 0x20 ≡ a → eqb x 0x09 ≡ b → not (a || b) ≡ false → is_other x ≡ false
    go true b p q h = rw (eqb-true x 0x20 p)
    go false true p q h = rw (eqb-true x 0x09 q)
    go false false p q h = absurd (false≢true (sym h))

other_is : (x : ℕ) → is_space x ≡ false → is_other x ≡ true
other_is x h = rw h

-- the ends of a stripped text are no other space bytes
head_other : (r : List ℕ) → HeadIs is_shown r → is_spaced (strip_end r) ≡ false → HeadIs is_other r
unfolding strip_end
head_other [] h e = tt
head_other (x ∷ r) h e = go (after_last is_shown (x ∷ r)) (after-some is_shown x r h) e
  where
    go : (k : ℕ) → 0 < k → is_spaced (take k (x ∷ r)) ≡ false → is_other x ≡ true
    go zero p e = absurd (omega arith)
    go (suc k) p e = other_is x (or_left (is_space x) _ e)

last_byte : (x : ℕ) (r : List ℕ) (k : ℕ) → k ≤ length r → is_spaced (take (suc k) (x ∷ r)) ≡ false → is_space (get_or (x ∷ r) k 0) ≡ false
last_byte x r k p e =
    let n : length (take k r) ≡ k = length-take-le k r p in
    let w = or_right (is_space x) (is_space (get_or (x ∷ take k r) (length (take k r)) 0)) e in
    ap is_space (sym (get_or-take (suc k) (x ∷ r) k 0 (omega arith))) ∙ (rw n at w)

last_other : (r : List ℕ) → is_spaced (strip_end r) ≡ false → LastIs is_other r (after_last is_shown r)
unfolding strip_end
last_other r e = go r (after_last is_shown r) (after_le is_shown r) e
  where
    go : (r : List ℕ) (k : ℕ) → k ≤ length r → is_spaced (take k r) ≡ false → LastIs is_other r k
    go r zero p e = tt
    go [] (suc k) p e = absurd (omega arith)
    go (x ∷ r) (suc k) p e = other_is (get_or (x ∷ r) k 0) (last_byte x r k (omega arith) e)

pub trim-strip : (s : List ℕ) → is_spaced (strip s) ≡ false → trim s ≡ strip s
unfolding trim trim_start trim_end lead kept strip strip_start strip_end
trim-strip s e =
    let r : List ℕ = drop (first is_shown s) s in
    let h = first-same is_shown is_other shown_other s (head_other r (first-is is_shown s) e) in
    let k = after_same is_shown is_other shown_other r (last_other r e) in
    rw (h, k)

-- a trimmed text has no space byte at its ends
after_is : (f : ℕ → Bool) (s : List ℕ) → LastIs f s (after_last f s)
unfolding after_last
after_is f [] = tt
after_is f (x ∷ s) = go (f x) refl (after_last f s) (after_is f s)
  where
    go : (b : Bool) → f x ≡ b → (m : ℕ) → LastIs f s m → LastIs f (x ∷ s) (elim m [ zero ↦ cond b 1 0 | suc k ↦ suc (suc k) ])
    go true e zero h = e
    go false e zero h = tt
    go b e (suc k) h = h

ends_other : (r : List ℕ) (k : ℕ) → k ≤ length r → HeadIs is_other r → LastIs is_other r k → is_spaced (take k r) ≡ false
ends_other r zero p h l = refl
ends_other [] (suc k) p h l = refl
ends_other (x ∷ r) (suc k) p h l =
    let n : length (take k r) ≡ k = length-take-le k r (omega arith) in
    rw (not-true (is_space x) h, n, get_or-take (suc k) (x ∷ r) k 0 (omega arith), not-true (is_space (get_or (x ∷ r) k 0)) l)

pub trim-ends : (s : List ℕ) → is_spaced (trim s) ≡ false
unfolding trim trim_start trim_end lead kept
trim-ends s = let r : List ℕ = drop (first is_other s) s in ends_other r (after_last is_other r) (after_le is_other r) (first-is is_other s) (after_is is_other r)

-- the text without a closing run is shorter
unclosed_shorter : (s : List ℕ) → is_closed s ≡ true → length (unclosed s) < length s
unfolding unclosed strip_end is_closed
unclosed_shorter s h =
    let n = ltb-true (run_start s) (length s) (and_left _ _ h) in
    rw h (omega (arith, length-take (after_last is_shown (take (run_start s) s)) (take (run_start s) s), length-take (run_start s) s))

-- a closed text ends in `#`, so a space byte at an end of it stands at its start, and is left where the run goes
run-last : (f : ℕ → Bool) (x : ℕ) (s : List ℕ) → after_last f (x ∷ s) < length (x ∷ s) → f (get_or (x ∷ s) (length s) 0) ≡ false
run-last f x s h = go (f (get_or (x ∷ s) (length s) 0)) refl
  where
    n : suc (length s) - 1 ≡ length s
    n = omega arith

    go : (b : Bool) → f (get_or (x ∷ s) (length s) 0) ≡ b → b ≡ false
    go true e = let k = ap (after_last f) (sym (take-length (x ∷ s))) ∙ after_hit f (x ∷ s) (suc (length s)) (omega arith) (omega arith) (rw n e) in absurd (omega arith)
    go false e = refl

closed-last : (x : ℕ) (s : List ℕ) → is_closed (x ∷ s) ≡ true → is_space (get_or (x ∷ s) (length s) 0) ≡ false
unfolding is_closed run_start is_space
closed-last x s h =
    let y : ℕ = get_or (x ∷ s) (length s) 0 in
    rw (eqb-true y 0x23 (not-false (eqb y 0x23) (run-last (λ z. not (is 0x23 z)) x s (ltb-true (run_start (x ∷ s)) (length (x ∷ s)) (and_left _ _ h)))))

kept-start : (x : ℕ) (s : List ℕ) (k : ℕ) → 0 < k → is_shown x ≡ true → is_space x ≡ true → is_spaced (strip_end (take k (x ∷ s))) ≡ true
unfolding strip_end
kept-start x s zero p v e = absurd (omega arith)
kept-start x s (suc k) p v e = go (after_last is_shown (x ∷ take k s)) (after-some is_shown x (take k s) v)
  where
    go : (j : ℕ) → 0 < j → is_spaced (take j (x ∷ take k s)) ≡ true
    go zero p = absurd (omega arith)
    go (suc j) p = rw e

space_mark : (x : ℕ) → is_space x ≡ true → not (is 0x23 x) ≡ true
unfolding is_space
space_mark x h = go (eqb x 0x23) refl
  where
    go : (b : Bool) → eqb x 0x23 ≡ b → not b ≡ true
    go true e = absurd (false≢true (rw (eqb-true x 0x23 e) at h))
    go false e = refl

spaced_start : (x : ℕ) (s : List ℕ) → is_shown x ≡ true → is_space x ≡ true → is_closed (x ∷ s) ≡ true → is_spaced (unclosed (x ∷ s)) ≡ true
unfolding unclosed run_start
spaced_start x s v e h = rw h (kept-start x s (run_start (x ∷ s)) (after-some (λ y. not (is 0x23 y)) x s (space_mark x e)) v e)

strip_head : (s : List ℕ) → HeadIs is_shown (strip s)
unfolding strip strip_start strip_end
strip_head s = let r : List ℕ = drop (first is_shown s) s in go r (after_last is_shown r) (first-is is_shown s)
  where
    go : (r : List ℕ) (k : ℕ) → HeadIs is_shown r → HeadIs is_shown (take k r)
    go r zero h = tt
    go [] (suc k) h = tt
    go (x ∷ r) (suc k) h = h

still_spaced : (s : List ℕ) → HeadIs is_shown s → is_spaced s ≡ true → is_closed s ≡ true → is_spaced (unclosed s) ≡ true
still_spaced [] v e h = absurd (false≢true e)
still_spaced (x ∷ s) v e h = spaced_start x s v (or_first (is_space x) _ (closed-last x s h) e) h

-- our text is not CommonMark's where a space byte stands at an end of it, or a closing run is dropped
pub spaced_differs : (s : List ℕ) → is_spaced (strip s) ≡ true → trim s ≡ unclosed (strip s) → ⊥
unfolding unclosed
spaced_differs s h e = go (is_closed (strip s)) refl
  where
    go : (b : Bool) → is_closed (strip s) ≡ b → ⊥
    go true c = false≢true (sym (trim-ends s) ∙ (ap is_spaced e ∙ still_spaced (strip s) (strip_head s) h c))
    go false c = false≢true (sym (trim-ends s) ∙ (ap is_spaced (rw c at e) ∙ h))

pub closed_differs : (s : List ℕ) → is_closed (strip s) ≡ true → trim s ≡ unclosed (strip s) → ⊥
closed_differs s h e = go (is_spaced (strip s)) refl
  where
    go : (b : Bool) → is_spaced (strip s) ≡ b → ⊥
    go true p = spaced_differs s p e
    go false p = omega (arith, unclosed_shorter (strip s) h, ap length (sym (trim-strip s p) ∙ e))
