-- Laws of `specs/Lines.antt`: the lines of a text one by one, by the first LF, in parts that end with an LF, and how many they are; and
-- the pieces between LFs.
-- Assumes nothing.
use Prim.Native.Nat.{ℕ, zero, suc, ◌+◌, ◌-◌, ◌≤◌, ◌<◌, min, zero-le}
use native.Mathlib.Nat.{add-zero, not-suc-le-zero}
use native.Mathlib.Numerals.{add-one, add-two}
use native.Mathlib.Omega.{arith}
use mathlib.Core.Path.{◌≡◌, refl, sym, ap, ◌∙◌}
use mathlib.Core.Bool.{Bool, true, false, cond, ◌&&◌, and-false}
use mathlib.Core.List.{List, [], ◌∷◌, ◌++◌}
use lib.ListN.{length, take, drop, get_or, length-drop, length-take, take-append-drop}
use lib.Seq.{drop-drop, take-length, take-take, length-take-le, get_or-drop}
use lib.Dec.{eqb}
use borrow.Author.Tests.{eq-eqb, ne_eqb, eqb-true, eqb-false}
use Rattle.text.specs.Bytes.{part, is, first, count, after_last}
use Rattle.text.specs.Pattern.{starts_with}
use Rattle.text.specs.Lines.{LF, CR, breaks, Line, front, lines_from, line_end, line_next, pieces, pieces_after}
use Rattle.text.proofs.BytesLaws.{after_le, after_hit, after_miss}
use Rattle.text.proofs.SplitLaws.{split-step-at, split-last-at}

-- a CR before an LF, by the bytes
breaks-one : (x : ℕ) → breaks (x ∷ []) ≡ false
unfolding breaks starts_with
breaks-one x = and-false (eqb x CR)

breaks-two : (x y : ℕ) (t : List ℕ) (b d : Bool) → eqb x CR ≡ b → eqb y LF ≡ d → breaks (x ∷ y ∷ t) ≡ (b && (d && true))
unfolding breaks starts_with
breaks-two x y t b d p q = rw (p, q)

-- the first line, and the lines from the next one's start on
abbrev Steps : List ℕ → ℕ → Type 0
Steps s o = lines_from o s ≡ record { start = o; bytes = take (line_end s) s } ∷ lines_from (o + line_next s) (drop (line_next s) s)

step_feed : (x : ℕ) (s : List ℕ) (o : ℕ) → eqb x LF ≡ true → Steps (x ∷ s) o
unfolding lines_from line_end line_next
step_feed x s o e = rw (e, add-one)

step_break : (x y : ℕ) (s : List ℕ) (o : ℕ) → eqb x LF ≡ false → eqb y LF ≡ true → breaks (x ∷ y ∷ s) ≡ true → Steps (x ∷ y ∷ s) o
unfolding lines_from line_end line_next
step_break x y s o e f b = rw (e, b, f, add-two)

step-last : (x o : ℕ) → eqb x LF ≡ false → Steps (x ∷ []) o
unfolding lines_from line_end line_next
step-last x o e = rw (e, breaks-one x)

step_more : (x : ℕ) (t : List ℕ) (o : ℕ) → eqb x LF ≡ false → breaks (x ∷ t) ≡ false → Steps t (suc o) → Steps (x ∷ t) o
unfolding lines_from line_end line_next
step_more x t o e b ih =
    let n : suc o + line_next t ≡ o + suc (line_next t) = omega arith in
    rw (e, b, ih, n)

step-any : (x y : ℕ) (t : List ℕ) (o : ℕ) (a b d : Bool) → eqb x LF ≡ a → eqb x CR ≡ b → eqb y LF ≡ d → Steps (y ∷ t) (suc o) → Steps (x ∷ y ∷ t) o
step-any x y t o true b d p q r ih = step_feed x (y ∷ t) o p
step-any x y t o false true true p q r ih = step_break x y t o p r (breaks-two x y t true true q r)
step-any x y t o false true false p q r ih = step_more x (y ∷ t) o p (breaks-two x y t true false q r) ih
step-any x y t o false false d p q r ih = step_more x (y ∷ t) o p (breaks-two x y t false d q r) ih

step-one : (x o : ℕ) (a : Bool) → eqb x LF ≡ a → Steps (x ∷ []) o
step-one x o true e = step_feed x [] o e
step-one x o false e = step-last x o e

pub lines_step : (s : List ℕ) (o : ℕ) → 0 < length s
    → lines_from o s ≡ record { start = o; bytes = take (line_end s) s } ∷ lines_from (o + line_next s) (drop (line_next s) s)
lines_step [] o h = absurd (not-suc-le-zero h)
lines_step (x ∷ []) o h = step-one x o (eqb x LF) refl
lines_step (x ∷ y ∷ t) o h = step-any x y t o (eqb x LF) (eqb x CR) (eqb y LF) refl refl refl (lines_step (y ∷ t) (suc o) (omega arith))

-- the same from place i on, where the line ends at e and the next one starts at n
pub lines_at : (s : List ℕ) (i e n : ℕ) → i < length s → e ≡ i + line_end (drop i s) → n ≡ i + line_next (drop i s)
    → lines_from i (drop i s) ≡ record { start = i; bytes = part i e s } ∷ lines_from n (drop n s)
lines_at s i e n h p q =
    let k : e - i ≡ line_end (drop i s) = omega arith in
    lines_step (drop i s) i (omega (arith, length-drop i s)) ∙ rw (k, q, drop-drop)

-- the line's end and the next one's start are within the text, and the walk goes on
pub line-within : (s : List ℕ) → (line_end s ≤ line_next s) × ((line_next s ≤ length s) × (0 < length s → 0 < line_next s))
unfolding line_end line_next
line-within [] = (zero-le, (zero-le, λ h. h))
line-within (x ∷ s) = go (eqb x LF) (breaks (x ∷ s)) (line-within s)
  where
    go : (f b : Bool) → (line_end s ≤ line_next s) × ((line_next s ≤ length s) × (0 < length s → 0 < line_next s))
        → (cond f 0 (cond b 0 (suc (line_end s))) ≤ cond f 1 (suc (line_next s))) × ((cond f 1 (suc (line_next s)) ≤ suc (length s)) × (0 < suc (length s) → 0 < cond f 1 (suc (line_next s))))
    go true b h = omega arith
    go false true h = omega arith
    go false false h = omega arith

-- by the first LF: the next line starts after it
pub line-next : (s : List ℕ) → first (is LF) s < length s → line_next s ≡ suc (first (is LF) s)
unfolding first line_next
line-next [] h = absurd (not-suc-le-zero h)
line-next (x ∷ s) h = go (eqb x LF) (λ q. line-next s q) h
  where
    go : (b : Bool) → (first (is LF) s < length s → line_next s ≡ suc (first (is LF) s)) → cond b 0 (suc (first (is LF) s)) < suc (length s)
        → cond b 1 (suc (line_next s)) ≡ suc (cond b 0 (suc (first (is LF) s)))
    go true ih q = refl
    go false ih q = ap suc (ih (omega arith))

-- a CR stands before an LF where the first LF of what follows it is next
breaks_yes : (x : ℕ) (s : List ℕ) → first (is LF) s ≡ 0 → 0 < length s → x ≡ CR → breaks (x ∷ s) ≡ true
unfolding first
breaks_yes x [] h k c = absurd (not-suc-le-zero k)
breaks_yes x (y ∷ t) h k c = go (eqb y LF) refl h
  where
    go : (d : Bool) → eqb y LF ≡ d → ◌≡◌ {A = ℕ} (cond d 0 (suc (first (is LF) t))) 0 → breaks (x ∷ y ∷ t) ≡ true
    go true e q = breaks-two x y t true true (eq-eqb x CR c) e
    go false e q = absurd (omega arith)

breaks_no : (x : ℕ) (s : List ℕ) → (first (is LF) s ≡ 0 → 0 < length s → x ≡ CR → ⊥) → breaks (x ∷ s) ≡ false
unfolding first
breaks_no x [] n = breaks-one x
breaks_no x (y ∷ t) n = go (eqb x CR) (eqb y LF) refl refl
  where
    go : (b d : Bool) → eqb x CR ≡ b → eqb y LF ≡ d → breaks (x ∷ y ∷ t) ≡ false
    go true true p q = absurd (n (rw q) (omega arith) (eqb-true x CR p))
    go true false p q = breaks-two x y t true false p q
    go false d p q = breaks-two x y t false d p q

-- it ends at the LF where no CR stands before that, and else at the CR
pub line_feed : (s : List ℕ) → first (is LF) s < length s → (0 < first (is LF) s → get_or s (first (is LF) s - 1) 0 ≡ CR → ⊥)
    → line_end s ≡ first (is LF) s
unfolding first line_end
line_feed [] h n = absurd (not-suc-le-zero h)
line_feed (x ∷ s) h n = go (eqb x LF) (λ k m. line_feed s k m) h n
  where
    q : ℕ
    q = first (is LF) s

    go : (a : Bool) → (q < length s → (0 < q → get_or s (q - 1) 0 ≡ CR → ⊥) → line_end s ≡ q)
        → cond a 0 (suc q) < suc (length s) → (0 < cond a 0 (suc q) → get_or (x ∷ s) (cond a 0 (suc q) - 1) 0 ≡ CR → ⊥)
        → ◌≡◌ {A = ℕ} (cond a 0 (cond (breaks (x ∷ s)) 0 (suc (line_end s)))) (cond a 0 (suc q))
    go true ih k m = refl
    go false ih k m =
        let b : breaks (x ∷ s) ≡ false = breaks_no x s (λ z l c. let w : suc q - 1 ≡ 0 = omega arith in m (omega arith) (rw w c)) in
        rw b (ap suc (ih (omega arith) (λ z c. let w : suc q - 1 ≡ suc (q - 1) = omega arith in m (omega arith) (rw w c))))

pub line_return : (s : List ℕ) → first (is LF) s < length s → 0 < first (is LF) s → get_or s (first (is LF) s - 1) 0 ≡ CR
    → line_end s ≡ first (is LF) s - 1
unfolding first line_end
line_return [] h n c = absurd (not-suc-le-zero h)
line_return (x ∷ s) h n c = go (eqb x LF) (λ k m d. line_return s k m d) h n c
  where
    q : ℕ
    q = first (is LF) s

    here : (m : ℕ) → q ≡ m → (q < length s → 0 < q → get_or s (q - 1) 0 ≡ CR → line_end s ≡ q - 1) → q < length s → get_or (x ∷ s) (suc q - 1) 0 ≡ CR
        → ◌≡◌ {A = ℕ} (cond (breaks (x ∷ s)) 0 (suc (line_end s))) (suc q - 1)
    here zero e ih k d =
        let w : suc q - 1 ≡ 0 = omega arith in
        rw (w, breaks_yes x s e (omega arith) (rw w at d))
    here (suc m) e ih k d =
        let w : suc q - 1 ≡ suc (q - 1) = omega arith in
        rw (w, breaks_no x s (λ z l f. omega arith)) (ap suc (ih k (omega arith) (rw w at d)))

    go : (a : Bool) → (q < length s → 0 < q → get_or s (q - 1) 0 ≡ CR → line_end s ≡ q - 1)
        → cond a 0 (suc q) < suc (length s) → 0 < cond a 0 (suc q) → get_or (x ∷ s) (cond a 0 (suc q) - 1) 0 ≡ CR
        → ◌≡◌ {A = ℕ} (cond a 0 (cond (breaks (x ∷ s)) 0 (suc (line_end s)))) (cond a 0 (suc q) - 1)
    go true ih k m d = absurd (omega arith)
    go false ih k m d = here q refl ih (omega arith) d

-- a text without an LF is one line
pub line-last : (s : List ℕ) → first (is LF) s ≡ length s → (line_end s ≡ length s) × (line_next s ≡ length s)
unfolding first line_end line_next
line-last [] h = (refl, refl)
line-last (x ∷ s) h = go (eqb x LF) (λ k. line-last s k) h
  where
    go : (a : Bool) → (first (is LF) s ≡ length s → (line_end s ≡ length s) × (line_next s ≡ length s))
        → cond a 0 (suc (first (is LF) s)) ≡ suc (length s)
        → (cond a 0 (cond (breaks (x ∷ s)) 0 (suc (line_end s))) ≡ suc (length s)) × (cond a 1 (suc (line_next s)) ≡ suc (length s))
    go true ih k = absurd (omega arith)
    go false ih k =
        let e : first (is LF) s ≡ length s = omega arith in
        (rw (breaks_no x s (λ z l c. omega arith)) (ap suc (ih e).0), ap suc (ih e).1)

-- the same at places: the line that starts at i, where e is the place of the first LF from there on
byte-before : (s : List ℕ) (i k : ℕ) → 0 < k → get_or s ((i + k) - 1) 0 ≡ get_or (drop i s) (k - 1) 0
byte-before s i k h =
    let w : (i + k) - 1 ≡ i + (k - 1) = omega arith in
    rw w (sym (get_or-drop i s (k - 1) 0))

module _ (s : List ℕ) (i e : ℕ) (q : e ≡ i + first (is LF) (drop i s)) where
  pub line-at-last : e ≡ length s → (e ≡ i + line_end (drop i s)) × (e ≡ i + line_next (drop i s))
  line-at-last k = omega (arith, length-drop i s, line-last (drop i s) (omega (arith, length-drop i s)))

  pub line-at_feed : e < length s → (i < e → get_or s (e - 1) 0 ≡ CR → ⊥) → (e ≡ i + line_end (drop i s)) × (e + 1 ≡ i + line_next (drop i s))
  line-at_feed k n =
      let f : ℕ = first (is LF) (drop i s) in
      let l : f < length (drop i s) = omega (arith, length-drop i s) in
      let d : line_end (drop i s) ≡ f = line_feed (drop i s) l (λ z c. n (omega arith) (rw q (byte-before s i f z ∙ c))) in
      omega (arith, line-next (drop i s) l)

  pub line-at_return : e < length s → i < e → get_or s (e - 1) 0 ≡ CR → (e - 1 ≡ i + line_end (drop i s)) × (e + 1 ≡ i + line_next (drop i s))
  line-at_return k n c =
      let f : ℕ = first (is LF) (drop i s) in
      let l : f < length (drop i s) = omega (arith, length-drop i s) in
      let z : 0 < f = omega arith in
      let d : line_end (drop i s) ≡ f - 1 = line_return (drop i s) l z (sym (byte-before s i f z) ∙ (rw q at c)) in
      omega (arith, line-next (drop i s) l)

-- places after the last byte that passes
after_again : (f : ℕ → Bool) (s : List ℕ) → after_last f (take (after_last f s) s) ≡ after_last f s
unfolding after_last
after_again f [] = refl
after_again f (x ∷ s) = go (f x) refl (after_last f s) (after_again f s)
  where
    go : (b : Bool) → f x ≡ b → (m : ℕ) → after_last f (take m s) ≡ m
        → after_last f (take (elim m [ zero ↦ cond b 1 0 | suc k ↦ suc (suc k) ]) (x ∷ s)) ≡ elim m [ zero ↦ cond b 1 0 | suc k ↦ suc (suc k) ]
    go true e zero h = rw e
    go false e zero h = refl
    go b e (suc k) h = rw h

count-after : (f : ℕ → Bool) (s : List ℕ) → (count f s ≤ after_last f s) × (0 < after_last f s → 0 < count f s)
unfolding count after_last
count-after f [] = (zero-le, λ h. h)
count-after f (x ∷ s) = go (f x) (after_last f s) (count-after f s)
  where
    go : (b : Bool) (m : ℕ) → (count f s ≤ m) × (0 < m → 0 < count f s)
        → (cond b (suc (count f s)) (count f s) ≤ elim m [ zero ↦ cond b 1 0 | suc k ↦ suc (suc k) ])
        × (0 < elim m [ zero ↦ cond b 1 0 | suc k ↦ suc (suc k) ] → 0 < cond b (suc (count f s)) (count f s))
    go true zero h = (omega arith, λ z. omega arith)
    go false zero h = (omega arith, λ z. absurd (omega arith))
    go true (suc k) h = (omega arith, λ z. omega arith)
    go false (suc k) h = (omega arith, λ z. h.1 (omega arith))

-- how many lines: as many as LFs, and one more where something follows the last LF
front_length : (o : ℕ) (b : List ℕ) (l : List Line) → length (front o b l) ≡ suc (length l - 1)
front_length o b [] = refl
front_length o b (x ∷ l) = omega arith

pub lines-count : (s : List ℕ) (o : ℕ) → length (lines_from o s) ≡ count (is LF) s + min 1 (length s - after_last (is LF) s)
unfolding lines_from count after_last
lines-count [] o = refl
lines-count (x ∷ s) o = go (eqb x LF) (after_last (is LF) s) (count-after (is LF) s) (lines-count s (suc o))
  where
    b : List ℕ
    b = cond (breaks (x ∷ s)) [] (x ∷ [])

    ls : List Line
    ls = lines_from (suc o) s

    go : (a : Bool) (m : ℕ) → (count (is LF) s ≤ m) × (0 < m → 0 < count (is LF) s) → length ls ≡ count (is LF) s + min 1 (length s - m)
        → length (cond a (record { start = o; bytes = [] } ∷ ls) (front o b ls))
        ≡ cond a (suc (count (is LF) s)) (count (is LF) s) + min 1 (suc (length s) - elim m [ zero ↦ cond a 1 0 | suc k ↦ suc (suc k) ])
    go true zero h ih = omega arith
    go true (suc k) h ih = omega arith
    go false zero h ih = omega (arith, front_length o b ls)
    go false (suc k) h ih = let z : 0 < count (is LF) s = h.1 (omega arith) in omega (arith, front_length o b ls)

-- it does not depend on where the text starts, and is at most its length
pub lines-length : (s : List ℕ) (o p : ℕ) → length (lines_from o s) ≡ length (lines_from p s)
lines-length s o p = lines-count s o ∙ sym (lines-count s p)

pub lines_le : (s : List ℕ) (o : ℕ) → length (lines_from o s) ≤ length s
lines_le s o = omega (arith, lines-count s o, (count-after (is LF) s).0, after_le (is LF) s)

-- by the last byte
whole : (f : ℕ → Bool) (s : List ℕ) → after_last f (take (length s) s) ≡ after_last f s
whole f s = ap (after_last f) (take-length s)

module _ (s : List ℕ) (o : ℕ) (h : 0 < length s) where
  pub lines-closed : get_or s (length s - 1) 0 ≡ LF → length (lines_from o s) ≡ count (is LF) s
  lines-closed e =
      omega (arith, lines-count s o, whole (is LF) s, after_hit (is LF) s (length s) h (omega arith) (eq-eqb (get_or s (length s - 1) 0) LF e))

  pub lines_open : (get_or s (length s - 1) 0 ≡ LF → ⊥) → length (lines_from o s) ≡ count (is LF) s + 1
  lines_open e =
      let m = after_miss (is LF) s (length s) h (omega arith) (ne_eqb (get_or s (length s - 1) 0) LF e) in
      omega (
        arith,
        lines-count s o,
        whole (is LF) s,
        m,
        after_le (is LF) (take (length s - 1) s),
        length-take (length s - 1) s,
      )

-- a part that ends with an LF, or is empty, has whole lines
ended-tail : (f : ℕ → Bool) (x y : ℕ) (t : List ℕ) → after_last f (x ∷ y ∷ t) ≡ suc (suc (length t)) → after_last f (y ∷ t) ≡ suc (length t)
unfolding after_last
ended-tail f x y t h = go (f x) (after_last f (y ∷ t)) h
  where
    go : (b : Bool) (m : ℕ) → elim m [ zero ↦ cond b 1 0 | suc k ↦ suc (suc k) ] ≡ suc (suc (length t)) → m ≡ suc (length t)
    go true zero q = absurd (omega arith)
    go false zero q = absurd (omega arith)
    go b (suc k) q = omega arith

front-append : (o : ℕ) (b : List ℕ) (l m : List Line) → 0 < length l → front o b (l ++ m) ≡ front o b l ++ m
front-append o b [] m h = absurd (not-suc-le-zero h)
front-append o b (x ∷ l) m h = refl

pub lines-append : (a b : List ℕ) (o : ℕ) → after_last (is LF) a ≡ length a → lines_from o (a ++ b) ≡ lines_from o a ++ lines_from (o + length a) b
unfolding lines_from after_last breaks starts_with
lines-append [] b o h = rw add-zero
lines-append (x ∷ []) b o h = go (eqb x LF) h
  where
    go : (a : Bool) → ◌≡◌ {A = ℕ} (cond a 1 0) 1
        → cond a (record { start = o; bytes = [] } ∷ lines_from (suc o) b) (front o (cond (breaks (x ∷ b)) [] (x ∷ [])) (lines_from (suc o) b))
        ≡ cond a (record { start = o; bytes = [] } ∷ []) (front o (cond (breaks (x ∷ [])) [] (x ∷ [])) []) ++ lines_from (o + 1) b
    go true q = rw add-one
    go false q = absurd (omega arith)
lines-append (x ∷ y ∷ t) b o h =
    go (eqb x LF) (lines-append (y ∷ t) b (suc o) (ended-tail (is LF) x y t h))
    (omega (arith, ap length (lines_step (y ∷ t) (suc o) (omega arith))))
  where
    c : List ℕ
    c = cond (breaks (x ∷ y ∷ t)) [] (x ∷ [])

    go : (a : Bool) → lines_from (suc o) (y ∷ (t ++ b)) ≡ lines_from (suc o) (y ∷ t) ++ lines_from (suc o + suc (length t)) b → 0 < length (lines_from (suc o) (y ∷ t))
        → cond a (record { start = o; bytes = [] } ∷ lines_from (suc o) (y ∷ (t ++ b))) (front o c (lines_from (suc o) (y ∷ (t ++ b))))
        ≡ cond a (record { start = o; bytes = [] } ∷ lines_from (suc o) (y ∷ t)) (front o c (lines_from (suc o) (y ∷ t))) ++ lines_from (o + suc (suc (length t))) b
    go true ih k =
        let n : o + suc (suc (length t)) ≡ suc o + suc (length t) = omega arith in
        rw (n, ih)
    go false ih k =
        let n : o + suc (suc (length t)) ≡ suc o + suc (length t) = omega arith in
        rw (n, ih) (front-append o c (lines_from (suc o) (y ∷ t)) (lines_from (suc o + suc (length t)) b) k)

-- so a whole number of lines splits off: those up to the last LF before place p
ended : (f : ℕ → Bool) (s : List ℕ) (p r : ℕ) → r ≡ after_last f (take p s) → (after_last f (take r s) ≡ r) × (length (take r s) ≡ r)
ended f s p r e =
    let l : r ≤ min p (length s) = omega (arith, after_le f (take p s), length-take p s) in
    (ap (after_last f) (sym (take-take r p s (omega arith))) ∙ rw e (after_again f (take p s)), length-take-le r s (omega arith))

module _ (s : List ℕ) (o p r : ℕ) (e : r ≡ after_last (is LF) (take p s)) where
  pub lines_split : lines_from o s ≡ lines_from o (take r s) ++ lines_from (o + r) (drop r s)
  lines_split =
      let d = ended (is LF) s p r e in
      ap (lines_from o) (sym (take-append-drop r s))
      ∙ lines-append (take r s) (drop r s) o (d.0 ∙ sym d.1)
      ∙ ap (λ (k : ℕ). lines_from o (take r s) ++ lines_from (o + k) (drop r s)) d.1

  pub lines_skipped : length (lines_from o (take r s)) ≡ count (is LF) (take r s)
  lines_skipped = let d = ended (is LF) s p r e in omega (arith, lines-count (take r s) o)

-- the same from place a on, where the last LF before place p stands before place b
module _ (s : List ℕ) (a p b : ℕ) (e : b ≡ a + after_last (is LF) (part a p s)) where
  pub lines-split-at : lines_from a (drop a s) ≡ lines_from a (part a b s) ++ lines_from b (drop b s)
  lines-split-at =
      let k : a + (b - a) ≡ b = omega arith in
      lines_split (drop a s) a (p - a) (b - a) (omega arith) ∙ rw (drop-drop, k)

  pub lines_skipped_at : length (lines_from a (part a b s)) ≡ count (is LF) (part a b s)
  lines_skipped_at = lines_skipped (drop a s) a (p - a) (b - a) (omega arith)

-- the pieces from place i on, where the first ends at e
pub pieces-at : (s : List ℕ) (i e : ℕ) → e ≤ length s → e ≡ i + first (is LF) (drop i s)
    → pieces (drop i s) ≡ part i e s ∷ pieces_after (eqb e (length s)) e s
pieces-at s i e k q = go (eqb e (length s)) refl
  where
    go : (a : Bool) → eqb e (length s) ≡ a → pieces (drop i s) ≡ part i e s ∷ pieces_after a e s
    go true p = split-last-at LF s i e (eqb-true e (length s) p) q
    go false p =
        let z : e ≡ length s → ⊥ = eqb-false e (length s) p in
        split-step-at LF s i e (omega arith) q

-- a piece that is not the last ends before the text
pub before-end : {e n : ℕ} {last : Bool} → last ≡ eqb e n → last ≡ false → e ≤ n → e < n
before-end {e} {n} p q h = let d : e ≡ n → ⊥ = eqb-false e n (sym p ∙ q) in omega arith
