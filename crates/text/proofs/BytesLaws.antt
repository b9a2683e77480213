-- Laws of `specs/Bytes.antt`, for code that walks a text byte by byte or block by block, and of parts of a text.
-- Assumes nothing.
use Prim.Native.Nat.{ℕ, zero, suc, ◌+◌, ◌-◌, ◌≤◌, ◌<◌, zero-le}
use native.Mathlib.Nat.{zero-add, sub-zero, zero-sub, suc-sub-suc, le_of_suc-le-suc, not-suc-le-zero}
use native.Mathlib.Numerals.{add-one, sub-one}
use native.Mathlib.Omega.{arith}
use mathlib.Core.Path.{◌≡◌, refl, sym, ap, ◌∙◌}
use mathlib.Core.Bool.{Bool, true, false, cond, ◌||◌, false≢true, or_assoc, or-false}
use mathlib.Core.List.{List, [], ◌∷◌, ◌++◌}
use lib.ListN.{length, take, drop, get_or, drop_of_length-le, length-drop, length-take, take-append-drop}
use lib.Seq.{drop-cons, drop-drop, take_all, take-nil, length-slice}
use Rattle.text.specs.Bytes.{part, any, first, count, after_last}

pub or_left : (a b : Bool) → (a || b) ≡ false → a ≡ false
or_left true b e = e
or_left false b e = refl

pub or_right : (a b : Bool) → (a || b) ≡ false → b ≡ false
or_right true b e = absurd (false≢true (sym e))
or_right false b e = e

-- what stands from i to the end, as the part `&s[i..]` that a call is handed
pub rest : (s : List ℕ) (i : ℕ) → part i (length s) s ≡ drop i s
rest s i = take_all (length s - i) (drop i s) (omega (arith, length-drop i s))

pub rest-length : (s : List ℕ) (i : ℕ) → length (part i (length s) s) ≡ length s - i
rest-length s i = rw (rest s i) (length-drop i s)

-- what stands from place e on, seen from a place before it
onward : (s : List ℕ) (i e : ℕ) → i ≤ e → drop (e - i) (drop i s) ≡ drop e s
onward s i e h =
    let k : i + (e - i) ≡ e = omega arith in
    drop-drop (e - i) i s ∙ ap (λ (n : ℕ). drop n s) k

-- what stands from place a on in what stands up to place e
pub drop_take : (s : List ℕ) (a e : ℕ) → drop a (take e s) ≡ part a e s
drop_take s zero e = rw sub-zero
drop_take s (suc a) zero = rw zero-sub
drop_take [] (suc a) (suc e) = sym (take-nil (suc e - suc a))
drop_take (x ∷ s) (suc a) (suc e) = rw suc-sub-suc (drop_take s a e)

-- a part is no longer than its places say, and just as long where they lie within
pub part_length : (s : List ℕ) (a e : ℕ) → length (part a e s) ≤ e - a
part_length s a e = omega (arith, length-take (e - a) (drop a s))

pub part_full : (s : List ℕ) (a e : ℕ) → e ≤ length s → length (part a e s) ≡ e - a
part_full s a e h = ap length (sym (drop_take s a e)) ∙ length-slice a e s h

-- walks by the byte at place i
module _ (f : ℕ → Bool) (s : List ℕ) (i : ℕ) where
  pub any_more : (h : Bool) → i < length s → ((h || f (get_or s i 0)) || any f (drop (i + 1) s)) ≡ (h || any f (drop i s))
  unfolding any
  any_more h p = or_assoc h (f (get_or s i 0)) (any f (drop (i + 1) s)) ∙ rw (add-one, drop-cons s i 0)

  pub any-end : (h : Bool) → length s ≤ i → (h || any f (drop i s)) ≡ h
  unfolding any
  any-end h p = rw (drop_of_length-le s p) (or-false h)

  pub first_hit : i < length s → f (get_or s i 0) ≡ true → i + first f (drop i s) ≡ i
  unfolding first
  first_hit h e = rw (drop-cons s i 0, e) (omega arith)

  pub first_miss : i < length s → f (get_or s i 0) ≡ false → (i + 1) + first f (drop (i + 1) s) ≡ i + first f (drop i s)
  unfolding first
  first_miss h e = rw (add-one, drop-cons s i 0, e) (omega arith)

  pub first-end : length s ≤ i → i + first f (drop i s) ≡ i
  unfolding first
  first-end h = rw (drop_of_length-le s h) (omega arith)

pub count_le : (f : ℕ → Bool) (s : List ℕ) → count f s ≤ length s
unfolding count
count_le f [] = zero-le
count_le f (x ∷ s) = go (f x) (count_le f s)
  where
    go : (b : Bool) → count f s ≤ length s → cond b (suc (count f s)) (count f s) ≤ suc (length s)
    go true h = omega arith
    go false h = omega arith

-- in two parts: for the first that passes, one in which none passes, or one in which it stands
pub first_past : (f : ℕ → Bool) (a b : List ℕ) → any f a ≡ false → first f (a ++ b) ≡ length a + first f b
unfolding any first
first_past f [] b e = sym (zero-add (first f b))
first_past f (x ∷ a) b e =
    let ih : first f (a ++ b) ≡ length a + first f b = first_past f a b (or_right (f x) (any f a) e) in
    rw (or_left (f x) (any f a) e) (omega arith)

pub first_none : (f : ℕ → Bool) (s : List ℕ) → any f s ≡ false → first f s ≡ length s
unfolding any first
first_none f [] e = refl
first_none f (x ∷ s) e = rw (or_left (f x) (any f s) e) (ap suc (first_none f s (or_right (f x) (any f s) e)))

pub first_inside : (f : ℕ → Bool) (a b : List ℕ) → any f a ≡ true → first f (a ++ b) ≡ first f a
unfolding any first
first_inside f [] b e = absurd (false≢true e)
first_inside f (x ∷ a) b e = go (f x) (first_inside f a b) e
  where
    go : (d : Bool) → (any f a ≡ true → first f (a ++ b) ≡ first f a) → (d || any f a) ≡ true
        → cond d 0 (suc (first f (a ++ b))) ≡ cond d 0 (suc (first f a))
    go true h q = refl
    go false h q = ap suc (h q)

first_lt : (f : ℕ → Bool) (s : List ℕ) → any f s ≡ true → first f s < length s
unfolding any first
first_lt f [] e = absurd (false≢true e)
first_lt f (x ∷ s) e = go (f x) (first_lt f s) e
  where
    go : (b : Bool) → (any f s ≡ true → first f s < length s) → (b || any f s) ≡ true → cond b 0 (suc (first f s)) < suc (length s)
    go true h q = omega arith
    go false h q = omega (arith, h q)

pub count-append : (f : ℕ → Bool) (a b : List ℕ) → count f (a ++ b) ≡ count f a + count f b
unfolding count
count-append f [] b = sym (zero-add (count f b))
count-append f (x ∷ a) b = go (f x) (count-append f a b)
  where
    go : (d : Bool) → count f (a ++ b) ≡ count f a + count f b
        → cond d (suc (count f (a ++ b))) (count f (a ++ b)) ≡ cond d (suc (count f a)) (count f a) + count f b
    go true h = omega arith
    go false h = h

pub after_none : (f : ℕ → Bool) (s : List ℕ) → any f s ≡ false → after_last f s ≡ 0
unfolding any after_last
after_none f [] e = refl
after_none f (x ∷ s) e = rw (after_none f s (or_right (f x) (any f s) e), or_left (f x) (any f s) e)

after_skip : (f : ℕ → Bool) (s : List ℕ) (i n : ℕ) → any f (take n (drop i s)) ≡ false → after_last f (take i s) ≡ after_last f (take (i + n) s)
unfolding after_last
after_skip f s zero n e = rw (zero-add n) (sym (after_none f (take n s) e))
after_skip f [] (suc i) n e = ap (after_last f) (sym (take-nil (suc i + n)))
after_skip f (x ∷ s) (suc i) n e =
    let k : suc i + n ≡ suc (i + n) = omega arith in
    rw (k, after_skip f s i n e)

module _ (f : ℕ → Bool) (s : List ℕ) (i e : ℕ) (h : i ≤ e) where
  onward_parts : part i e s ++ drop e s ≡ drop i s
  onward_parts = ap (λ (l : List ℕ). part i e s ++ l) (sym (onward s i e h)) ∙ take-append-drop (e - i) (drop i s)

  pub first_block : e ≤ length s → any f (part i e s) ≡ false → e + first f (drop e s) ≡ i + first f (drop i s)
  first_block k q = omega (arith, first_past f (part i e s) (drop e s) q, ap (first f) onward_parts, part_full s i e k)

  pub first-within : any f (part i e s) ≡ true → i + first f (drop i s) < e
  first-within q =
      omega (arith, first_inside f (part i e s) (drop e s) q, ap (first f) onward_parts, first_lt f (part i e s) q, part_length s i e)

  pub count_block : count f (part i e s) + count f (drop e s) ≡ count f (drop i s)
  count_block = sym (count-append f (part i e s) (drop e s)) ∙ ap (count f) onward_parts

  pub after_block : any f (part i e s) ≡ false → after_last f (take i s) ≡ after_last f (take e s)
  after_block q =
      let k : i + (e - i) ≡ e = omega arith in
      after_skip f s i (e - i) q ∙ ap (λ (n : ℕ). after_last f (take n s)) k

-- a walk backwards, by the byte before place e
after_hit_suc : (f : ℕ → Bool) (s : List ℕ) (e : ℕ) → e < length s → f (get_or s e 0) ≡ true → after_last f (take (suc e) s) ≡ suc e
unfolding after_last
after_hit_suc f [] e h q = absurd (not-suc-le-zero h)
after_hit_suc f (x ∷ s) zero h q = rw q
after_hit_suc f (x ∷ s) (suc e) h q = rw (after_hit_suc f s e (le_of_suc-le-suc h) q)

after_miss_suc : (f : ℕ → Bool) (s : List ℕ) (e : ℕ) → e < length s → f (get_or s e 0) ≡ false → after_last f (take e s) ≡ after_last f (take (suc e) s)
unfolding after_last
after_miss_suc f [] e h q = absurd (not-suc-le-zero h)
after_miss_suc f (x ∷ s) zero h q = rw q
after_miss_suc f (x ∷ s) (suc e) h q = rw (after_miss_suc f s e (le_of_suc-le-suc h) q)

module _ (f : ℕ → Bool) (s : List ℕ) where
  pub after_hit : (e : ℕ) → 0 < e → e ≤ length s → f (get_or s (e - 1) 0) ≡ true → after_last f (take e s) ≡ e
  after_hit zero p h q = absurd (not-suc-le-zero p)
  after_hit (suc e) p h q = after_hit_suc f s e h (rw sub-one at q)

  pub after_miss : (e : ℕ) → 0 < e → e ≤ length s → f (get_or s (e - 1) 0) ≡ false → after_last f (take (e - 1) s) ≡ after_last f (take e s)
  after_miss zero p h q = absurd (not-suc-le-zero p)
  after_miss (suc e) p h q = rw sub-one (after_miss_suc f s e h (rw sub-one at q))

  pub after-end : (e : ℕ) → e ≤ 0 → after_last f (take e s) ≡ e
  unfolding after_last
  after-end zero h = refl
  after-end (suc e) h = absurd (not-suc-le-zero h)

-- places that a search gives lie within
pub first_le : (f : ℕ → Bool) (s : List ℕ) → first f s ≤ length s
unfolding first
first_le f [] = zero-le
first_le f (x ∷ s) = go (f x) (first_le f s)
  where
    go : (b : Bool) → first f s ≤ length s → cond b 0 (suc (first f s)) ≤ suc (length s)
    go true h = zero-le
    go false h = omega arith

pub after_le : (f : ℕ → Bool) (s : List ℕ) → after_last f s ≤ length s
unfolding after_last
after_le f [] = zero-le
after_le f (x ∷ s) = go (f x) (after_last f s) (after_le f s)
  where
    go : (b : Bool) (m : ℕ) → m ≤ length s → elim m [ zero ↦ cond b 1 0 | suc k ↦ suc (suc k) ] ≤ suc (length s)
    go true zero h = omega arith
    go false zero h = omega arith
    go b (suc k) h = omega arith

-- behind the last byte that passes none does, so a search from there on and one from a later place of that part agree
after-rest : (f : ℕ → Bool) (s : List ℕ) → any f (drop (after_last f s) s) ≡ false
unfolding after_last any
after-rest f [] = refl
after-rest f (x ∷ s) = go (f x) refl (after_last f s) (after-rest f s)
  where
    go : (b : Bool) → f x ≡ b → (m : ℕ) → any f (drop m s) ≡ false → any f (drop (elim m [ zero ↦ cond b 1 0 | suc k ↦ suc (suc k) ]) (x ∷ s)) ≡ false
    go true e zero h = h
    go false e zero h = rw e h
    go b e (suc k) h = h

pub last_block : (f : ℕ → Bool) (s : List ℕ) (a p b : ℕ) → a ≤ p → p ≤ length s → b ≡ a + after_last f (part a p s)
    → p + first f (drop p s) ≡ b + first f (drop b s)
last_block f s a p b h k e =
    let n = after_le f (part a p s) in
    let m = part_length s a p in
    let q : p - a - after_last f (part a p s) ≡ p - b = omega arith in
    let w : drop (after_last f (part a p s)) (part a p s) ≡ part b p s =
    drop_take (drop a s) (after_last f (part a p s)) (p - a) ∙ rw (drop-drop, q, e) in
    first_block f s b p (omega arith) k (rw w at (after-rest f (part a p s)))
