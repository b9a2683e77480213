-- Laws of `specs/Pattern.antt`: patterns at the start of a text by its bytes, texts that are a pattern or end with it, searches by their places, and
-- what is found lies within.
-- Assumes nothing.
use Prim.Native.Nat.{ℕ, zero, suc, ◌+◌, ◌-◌, ◌≤◌, ◌<◌, zero-le}
use native.Mathlib.Nat.{add-zero, add_assoc, zero-add, not-suc-le-zero}
use native.Mathlib.Numerals.{add-one, one-add}
use native.Mathlib.Omega.{arith}
use mathlib.Core.Path.{◌≡◌, refl, sym, ap, ◌∙◌, subst}
use Rattle.std.specs.Prelude.{Option, Some, None}
use Rattle.std.specs.List.{list_all, zip}
use lib.Pointwise.{pointwise}
use mathlib.Core.Bool.{Bool, true, false, cond, ◌&&◌, false≢true, and-false}
use mathlib.Core.List.{List, [], ◌∷◌, ◌++◌}
use lib.ListN.{length, take, drop, get_or, drop_of_length-le, take-append-drop, length-append, length-drop}
use lib.Seq.{drop-cons, drop-drop, take_all, drop-append_seam}
use lib.Dec.{eqb, leb, eqb-suc-zero, eqb-suc-suc}
use borrow.Author.Tests.{eq-eqb, ne_eqb, eqb-true, leb-true, le-leb}
use Rattle.text.specs.Bytes.{is, first, part}
use Rattle.text.specs.Pattern.{starts_with, ends_with, equals, find, later, is_at, contains}
use Rattle.text.proofs.BytesLaws.{rest}

pub and_left : (a b : Bool) → (a && b) ≡ true → a ≡ true
and_left true b e = refl
and_left false b e = e

pub and_right : (a b : Bool) → (a && b) ≡ true → b ≡ true
and_right true b e = e
and_right false b e = absurd (false≢true e)

-- a pattern at the start, by the byte at place j
module _ (p s : List ℕ) (j : ℕ) where
  pub starts_more : j < length p → j < length s → get_or s j 0 ≡ get_or p j 0
      → starts_with (drop j p) (drop j s) ≡ starts_with (drop (j + 1) p) (drop (j + 1) s)
  unfolding starts_with
  starts_more hp hs e = rw (add-one, drop-cons p j 0, drop-cons s j 0, eq-eqb _ _ e)

  pub starts_differs : j < length p → j < length s → (get_or s j 0 ≡ get_or p j 0 → ⊥) → starts_with (drop j p) (drop j s) ≡ false
  unfolding starts_with
  starts_differs hp hs e = rw (drop-cons p j 0, drop-cons s j 0, ne_eqb _ _ e)

  pub starts-end : length p ≤ j → starts_with (drop j p) (drop j s) ≡ true
  unfolding starts_with
  starts-end h = rw (drop_of_length-le p h)

-- byte against byte, where s has room for the pattern
pub starts-zip : (p s : List ℕ) → length p ≤ length s → list_all (λ (x : ℕ × ℕ). eqb x.0 x.1) (zip s p) ≡ starts_with p s
unfolding starts_with
starts-zip [] [] h = refl
starts-zip [] (x ∷ s) h = refl
starts-zip (b ∷ p) [] h = absurd (not-suc-le-zero h)
starts-zip (b ∷ p) (x ∷ s) h = ap (λ r. eqb x b && r) (starts-zip p s (omega arith))

-- a pattern at the start stands in the first bytes, as many as it has
pub starts-front : (p s : List ℕ) → starts_with p (take (length p) s) ≡ starts_with p s
unfolding starts_with
starts-front [] s = refl
starts-front (b ∷ p) [] = refl
starts-front (b ∷ p) (x ∷ s) = ap (λ r. eqb x b && r) (starts-front p s)

pub equals-pointwise : (s p : List ℕ) → pointwise eqb s p ≡ equals p s
unfolding equals starts_with
equals-pointwise [] [] = refl
equals-pointwise [] (b ∷ p) = sym (and-false (eqb 0 (suc (length p))))
equals-pointwise (x ∷ s) [] = rw eqb-suc-zero
equals-pointwise (x ∷ s) (b ∷ p) = rw (equals-pointwise s p, eqb-suc-suc) (go (eqb x b))
  where
    go : (t : Bool) → (t && (eqb (length s) (length p) && starts_with p s)) ≡ (eqb (length s) (length p) && (t && starts_with p s))
    go true = refl
    go false = sym (and-false (eqb (length s) (length p)))

-- a text that has the pattern has room for it
pub starts-long : (p s : List ℕ) → starts_with p s ≡ true → length p ≤ length s
unfolding starts_with
starts-long [] s e = zero-le
starts-long (b ∷ p) [] e = absurd (false≢true e)
starts-long (b ∷ p) (x ∷ s) e = omega (arith, starts-long p s (and_right (eqb x b) (starts_with p s) e))

pub starts-short : (p s : List ℕ) → length s < length p → starts_with p s ≡ false
starts-short p s h = go (starts_with p s) refl
  where
    go : (b : Bool) → starts_with p s ≡ b → b ≡ false
    go true e = absurd (omega (arith, starts-long p s e))
    go false e = refl

pub ends-long : (p s : List ℕ) → ends_with p s ≡ true → length p ≤ length s
unfolding ends_with
ends-long p s e = leb-true _ _ (and_left (leb (length p) (length s)) (starts_with p (drop (length s - length p) s)) e)

-- texts that begin with the pattern, are it, or end with it
starts-take : (p s : List ℕ) → starts_with p s ≡ true → take (length p) s ≡ p
unfolding starts_with
starts-take [] s e = refl
starts-take (b ∷ p) [] e = absurd (false≢true e)
starts-take (b ∷ p) (x ∷ s) e =
    let h : x ≡ b = eqb-true x b (and_left (eqb x b) (starts_with p s) e) in
    rw (h, starts-take p s (and_right (eqb x b) (starts_with p s) e))

starts_self : (s : List ℕ) → starts_with s s ≡ true
unfolding starts_with
starts_self [] = refl
starts_self (x ∷ s) = rw (eq-eqb x x refl) (starts_self s)

pub equals-same : (p s : List ℕ) → equals p s ≡ true → p ≡ s
unfolding equals
equals-same p s e =
    let h : length s ≡ length p = eqb-true _ _ (and_left (eqb (length s) (length p)) (starts_with p s) e) in
    sym (starts-take p s (and_right (eqb (length s) (length p)) (starts_with p s) e)) ∙ take_all (length p) s (omega arith)

same-equals : (s : List ℕ) → equals s s ≡ true
unfolding equals
same-equals s = rw (eq-eqb (length s) (length s) refl) (starts_self s)

-- a text is what stands from a place of it on just where that is its start
pub equals-drop : (s : List ℕ) (i : ℕ) → i ≤ length s → equals s (drop i s) ≡ eqb i 0
unfolding equals
equals-drop s zero h = same-equals s
equals-drop s (suc i) h = rw (ne_eqb (length (drop (suc i) s)) (length s) (λ e. omega (arith, length-drop (suc i) s)), eqb-suc-zero i)

pub ends-drop : (p s : List ℕ) → ends_with p s ≡ true → drop (length s - length p) s ≡ p
unfolding ends_with
ends-drop p s e =
    let t : List ℕ = drop (length s - length p) s in
    let h : length p ≤ length s = ends-long p s e in
    sym (take_all (length p) t (omega (arith, length-drop (length s - length p) s)))
    ∙ starts-take p t (and_right (leb (length p) (length s)) (starts_with p t) e)

pub ends-append : (s p : List ℕ) → ends_with p (s ++ p) ≡ true
unfolding ends_with
ends-append s p =
    let n : length (s ++ p) ≡ length s + length p = length-append s p in
    let k : length (s ++ p) - length p ≡ length s = omega arith in
    let h : length p ≤ length (s ++ p) = omega arith in
    rw (le-leb (length p) (length (s ++ p)) h, k, drop-append_seam s p) (starts_self p)

-- a text that is no bytes before the pattern does not end with it, and is no text that does
pub ends-not : (p s : List ℕ) → ((x : List ℕ) → x ++ p ≡ s → ⊥) → ends_with p s ≡ false
ends-not p s h = go (ends_with p s) refl
  where
    n : ℕ
    n = length s - length p

    go : (b : Bool) → ends_with p s ≡ b → b ≡ false
    go true e = absurd (h (take n s) (ap (λ (t : List ℕ). take n s ++ t) (sym (ends-drop p s e)) ∙ take-append-drop n s))
    go false e = refl

pub equals-not : (x p s : List ℕ) → ends_with p s ≡ false → equals s (x ++ p) ≡ false
equals-not x p s h = go (equals s (x ++ p)) refl
  where
    go : (b : Bool) → equals s (x ++ p) ≡ b → b ≡ false
    go true e = absurd (false≢true (sym h ∙ ap (ends_with p) (equals-same s (x ++ p) e) ∙ ends-append x p))
    go false e = refl

-- a search by its first place
pub later-zero : (f : Option ℕ) → later 0 f ≡ f
later-zero (Some i) = ap Some (zero-add i)
later-zero None = refl

pub later-later : (j k : ℕ) (f : Option ℕ) → later j (later k f) ≡ later (j + k) f
later-later j k (Some i) = ap Some (sym (add_assoc j k i))
later-later j k None = refl

pub find_hit : (p s : List ℕ) → starts_with p s ≡ true → find p s ≡ Some 0
unfolding find
find_hit p [] e = rw e
find_hit p (x ∷ s) e = rw e

pub find_miss : (p s : List ℕ) → 0 < length s → starts_with p s ≡ false → find p s ≡ later 1 (find p (drop 1 s))
unfolding find
find_miss p [] h e = absurd (not-suc-le-zero h)
find_miss p (x ∷ s) h e = rw e

pub find_none : (p : List ℕ) → 0 < length p → find p [] ≡ None
unfolding find starts_with
find_none [] h = absurd (not-suc-le-zero h)
find_none (b ∷ p) h = refl

-- no place before that of the pattern's first byte
pub find_jump : (p s : List ℕ) → 0 < length p
    → find p s ≡ later (first (is (get_or p 0 0)) s) (find p (drop (first (is (get_or p 0 0)) s) s))
unfolding find starts_with first
find_jump [] s h = absurd (not-suc-le-zero h)
find_jump (b ∷ p) [] h = refl
find_jump (b ∷ p) (x ∷ s) h = go (eqb x b) (find_jump (b ∷ p) s h) refl
  where
    go : (t : Bool) → find (b ∷ p) s ≡ later (first (is b) s) (find (b ∷ p) (drop (first (is b) s) s)) → eqb x b ≡ t
        → find (b ∷ p) (x ∷ s) ≡ later (cond t 0 (suc (first (is b) s))) (find (b ∷ p) (drop (cond t 0 (suc (first (is b) s))) (x ∷ s)))
    go true ih e = sym (later-zero (find (b ∷ p) (x ∷ s)))
    go false ih e = rw (e, ih) (later-later 1 (first (is b) s) (find (b ∷ p) (drop (first (is b) s) s)) ∙ rw one-add)

-- a search that has passed j places and looks at place j
module _ (p s : List ℕ) (j : ℕ) (passed : find p s ≡ later j (find p (drop j s))) where
  pub found_here : starts_with p (part j (length s) s) ≡ true → find p s ≡ Some j
  found_here e = passed ∙ ap (later j) (find_hit p (drop j s) (rw rest at e)) ∙ ap Some (add-zero j)

  pub found-later : j < length s → starts_with p (part j (length s) s) ≡ false → find p s ≡ later (j + 1) (find p (drop (j + 1) s))
  found-later h e =
      let k : 0 < length (drop j s) = omega (arith, length-drop j s) in
      passed
      ∙ ap (later j) (find_miss p (drop j s) k (rw rest at e) ∙ ap (λ (l : List ℕ). later 1 (find p l)) (drop-drop 1 j s))
      ∙ later-later j 1 (find p (drop (j + 1) s))

  pub found_jump : (k : ℕ) → 0 < length p → k ≡ j + first (is (get_or p 0 0)) (drop j s) → find p s ≡ later k (find p (drop k s))
  found_jump k h e =
      let n : ℕ = first (is (get_or p 0 0)) (drop j s) in
      passed
      ∙ ap (later j) (find_jump p (drop j s) h ∙ ap (λ (l : List ℕ). later n (find p l)) (drop-drop n j s))
      ∙ later-later j n (find p (drop (j + n) s))
      ∙ rw e

  pub found_none : 0 < length p → length s ≤ j → find p s ≡ None
  found_none h k = passed ∙ rw (drop_of_length-le s k, find_none p h)

-- what is found lies within the text
abbrev Within : List ℕ → List ℕ → Option ℕ → Type 0
Within p s (Some i) = i + length p ≤ length s
Within p s None = Unit {0}

within : (p s : List ℕ) → Within p s (find p s)
unfolding find
within p [] = here (starts_with p []) refl
  where
    here : (b : Bool) → starts_with p [] ≡ b → Within p [] (cond b (Some 0) None)
    here true e = omega (arith, starts-long p [] e)
    here false e = tt
within p (x ∷ s) = here (starts_with p (x ∷ s)) (find p s) refl (within p s)
  where
    here : (b : Bool) (f : Option ℕ) → starts_with p (x ∷ s) ≡ b → Within p s f → Within p (x ∷ s) (cond b (Some 0) (later 1 f))
    here true f e h = omega (arith, starts-long p (x ∷ s) e)
    here false (Some i) e h = omega arith
    here false None e h = tt

pub find-within : (p s : List ℕ) (i : ℕ) → find p s ≡ Some i → i + length p ≤ length s
find-within p s i e = subst (Within p s) e (within p s)

-- a longer pattern stands at no place before the first of its start
starts_longer : (p q s : List ℕ) → starts_with p s ≡ false → starts_with (p ++ q) s ≡ false
unfolding starts_with
starts_longer [] q s e = absurd (false≢true (sym e))
starts_longer (b ∷ p) q [] e = refl
starts_longer (b ∷ p) q (x ∷ s) e = go (eqb x b) (starts_longer p q s) e
  where
    go : (t : Bool) → (starts_with p s ≡ false → starts_with (p ++ q) s ≡ false) → (t && starts_with p s) ≡ false
        → (t && starts_with (p ++ q) s) ≡ false
    go true h k = h k
    go false h k = refl

abbrev Onward : List ℕ → List ℕ → Option ℕ → Type 0
Onward p s (Some i) = find p s ≡ later i (find p (drop i s))
Onward p s None = Unit {0}

onward : (p q s : List ℕ) → Onward (p ++ q) s (find p s)
unfolding find
onward p q [] = here (starts_with p [])
  where
    here : (b : Bool) → Onward (p ++ q) [] (cond b (Some 0) None)
    here true = sym (later-zero (find (p ++ q) []))
    here false = tt
onward p q (x ∷ s) = here (starts_with p (x ∷ s)) (find p s) refl (onward p q s)
  where
    here : (b : Bool) (f : Option ℕ) → starts_with p (x ∷ s) ≡ b → Onward (p ++ q) s f → Onward (p ++ q) (x ∷ s) (cond b (Some 0) (later 1 f))
    here true f e h = sym (later-zero (find (p ++ q) (x ∷ s)))
    here false (Some i) e h = rw (starts_longer p q (x ∷ s) e, h) (later-later 1 i (find (p ++ q) (drop i s)) ∙ rw one-add)
    here false None e h = tt

pub find_longer : (p q s : List ℕ) (i : ℕ) → find p s ≡ Some i → find (p ++ q) s ≡ later i (find (p ++ q) (drop i s))
find_longer p q s i e = subst (Onward (p ++ q) s) e (onward p q s)

is_at-later : (k : ℕ) (f : Option ℕ) → is_at (later k f) ≡ is_at f
is_at-later k (Some i) = refl
is_at-later k None = refl

pub contains_longer : (p q s : List ℕ) (i : ℕ) → find p s ≡ Some i → contains (p ++ q) s ≡ contains (p ++ q) (drop i s)
contains_longer p q s i e = ap is_at (find_longer p q s i e) ∙ is_at-later i (find (p ++ q) (drop i s))

-- a text that does not hold the pattern has it at no place
pub contains_nothing : (p s : List ℕ) → contains p s ≡ false → find p s ≡ None
contains_nothing p s = go (find p s)
  where
    go : (f : Option ℕ) → is_at f ≡ false → f ≡ None
    go (Some i) e = absurd (false≢true (sym e))
    go None e = refl
