-- `is_within` and `blanked_from` region by region. Assumes nothing.
use Prim.Native.Nat.{ℕ, zero, suc, ◌+◌, ◌-◌, ◌≤◌, ◌<◌}
use native.Mathlib.Nat.{add-zero}
use native.Mathlib.Omega.{arith}
use mathlib.Core.Path.{◌≡◌, refl, ◌∙◌, ap}
use mathlib.Core.Bool.{true, false, cond, and-false}
use mathlib.Core.List.{List, [], ◌∷◌, ◌++◌}
use lib.ListN.{length, take, drop, replicate, length-drop}
use lib.Seq.{drop-drop}
use borrow.Author.Tests.{le-leb, lt-leb}
use Rattle.text.specs.Lines.{pieces}
use Rattle.scan.specs.declared.event.Region.{Region}
use Rattle.regions.specs.Regions.{is_within, blanked_from}
use Rattle.regions.proofs.PlaceLaws.{Placed, Ordered, ordered_on, starts-within}

-- regions after line n, each after the one before: what `Ordered` says of lines
unfoldable pub Sorted : ℕ → List Region → Type 0
Sorted n [] = Unit {0}
Sorted n (g ∷ gs) = (n < g.opener.line) × ((g.opener.line < g.closer.line) × Sorted g.closer.line gs)

pub ordered_sorted : (s : List ℕ) (n o : ℕ) (gs : List Region) → Ordered s n o gs → Sorted n gs
unfolding Ordered Sorted
ordered_sorted s n o [] h = tt
ordered_sorted s n o (g ∷ gs) h = (h.0.later, (h.0.lines, ordered_sorted s g.closer.line (suc g.closer.at) gs h.1))

-- the first of them: its lines, and all of them after a line before it
module _ (m : ℕ) (g : Region) (gs : List Region) (h : Sorted m (g ∷ gs)) where
  pub sorted_lines : g.opener.line < g.closer.line
  unfolding Sorted
  sorted_lines = h.1.0

  pub sorted_before : (i : ℕ) → i < g.opener.line → Sorted i (g ∷ gs)
  unfolding Sorted
  sorted_before i k = (k, h.1)

-- line n + 1 of a text, from line k + 1 on
pub onward : (s : List ℕ) (k n : ℕ) → k ≤ n → drop (n + 1 - (k + 1)) (drop k (pieces s)) ≡ drop n (pieces s)
onward s k n j = let e : k + (n + 1 - (k + 1)) ≡ n = omega arith in drop-drop (n + 1 - (k + 1)) k (pieces s) ∙ ap (λ (i : ℕ). drop i (pieces s)) e

-- a line up to m, where all openers come after m
pub within_none : (n m : ℕ) (gs : List Region) → Sorted m gs → n ≤ m → is_within n gs ≡ false
unfolding Sorted is_within
within_none n m [] h k = refl
within_none n m (g ∷ gs) h k = rw (lt-leb g.opener.line n (omega arith)) (within_none n g.closer.line gs h.1.1 (omega arith))

module _ (n : ℕ) (g : Region) (gs : List Region) where
  -- a line past g's closer
  pub within-past : g.closer.line < n → is_within n (g ∷ gs) ≡ is_within n gs
  unfolding is_within
  within-past h = rw (lt-leb n g.closer.line h, and-false)

  -- a line of g
  pub within-here : g.opener.line ≤ n → n ≤ g.closer.line → is_within n (g ∷ gs) ≡ true
  unfolding is_within
  within-here h k = rw (le-leb g.opener.line n h, le-leb n g.closer.line k)

-- lines of no region, k of them, stay
module _ (gs : List Region) where
  blanked-stay : (k n : ℕ) (ls : List (List ℕ)) → ((i : ℕ) → n ≤ i → i < n + k → is_within i gs ≡ false)
      → blanked_from n gs ls ≡ take k ls ++ blanked_from (n + k) gs (drop k ls)
  unfolding blanked_from
  blanked-stay zero n ls h = rw add-zero
  blanked-stay (suc k) n [] h = refl
  blanked-stay (suc k) n (l ∷ ls) h =
      let e : n + suc k ≡ (n + 1) + k = omega arith in
      rw (h n (omega arith) (omega arith), e) (ap (λ (r : List (List ℕ)). l ∷ r) (blanked-stay k (n + 1) ls (λ i p q. h i (omega arith) (omega arith))))

  -- lines of a region are blanked
  blanked-away : (k n : ℕ) (ls : List (List ℕ)) → k ≤ length ls → ((i : ℕ) → n ≤ i → i < n + k → is_within i gs ≡ true)
      → blanked_from n gs ls ≡ replicate k [] ++ blanked_from (n + k) gs (drop k ls)
  unfolding blanked_from
  blanked-away zero n ls j h = rw add-zero
  blanked-away (suc k) n [] j h = absurd (omega arith)
  blanked-away (suc k) n (l ∷ ls) j h =
      let e : n + suc k ≡ (n + 1) + k = omega arith in
      rw (h n (omega arith) (omega arith), e) (ap (λ (r : List (List ℕ)). [] ∷ r) (blanked-away k (n + 1) ls (omega arith) (λ i p q. h i (omega arith) (omega arith))))

-- no region is left
pub blanked-end : (n : ℕ) (ls : List (List ℕ)) → blanked_from n [] ls ≡ ls
unfolding blanked_from is_within
blanked-end n [] = refl
blanked-end n (l ∷ ls) = ap (λ (r : List (List ℕ)). l ∷ r) (blanked-end (n + 1) ls)

module _ (g : Region) (gs : List Region) where
  -- past g's closer, g may be taken out
  pub blanked-past : (n : ℕ) (ls : List (List ℕ)) → g.closer.line < n → blanked_from n (g ∷ gs) ls ≡ blanked_from n gs ls
  unfolding blanked_from
  blanked-past n [] h = refl
  blanked-past n (l ∷ ls) h = rw (within-past n g gs h) (ap (λ (r : List (List ℕ)). cond (is_within n gs) [] l ∷ r) (blanked-past (n + 1) ls (omega arith)))

  -- from line n on, where g is the next region: the lines before it, those of it, and what follows
  module _ (m n : ℕ) (ls : List (List ℕ)) (h : Sorted m (g ∷ gs)) (hn : n ≤ g.opener.line) where
    pub blanked_region : g.closer.line < n + length ls
        → blanked_from n (g ∷ gs) ls
        ≡ take (g.opener.line - n) ls ++ (replicate (g.closer.line + 1 - g.opener.line) [] ++ blanked_from (g.closer.line + 1) gs (drop (g.closer.line + 1 - n) ls))
    blanked_region hl =
        let o : ℕ = g.opener.line in
        let c : ℕ = g.closer.line in
        let z : o < c = sorted_lines m g gs h in
        let p : n + (o - n) ≡ o = omega arith in
        let q : o + (c + 1 - o) ≡ c + 1 = omega arith in
        let r : (o - n) + (c + 1 - o) ≡ c + 1 - n = omega arith in
        blanked-stay (g ∷ gs) (o - n) n ls (λ i j k. within_none i i (g ∷ gs) (sorted_before m g gs h i (omega arith)) (omega arith))
        ∙ ap (λ (x : List (List ℕ)). take (o - n) ls ++ x)
        (ap (λ (i : ℕ). blanked_from i (g ∷ gs) (drop (o - n) ls)) p
        ∙ blanked-away (g ∷ gs) (c + 1 - o) o (drop (o - n) ls) (omega (arith, length-drop (o - n) ls)) (λ i j k. within-here i g gs (omega arith) (omega arith))
        ∙ ap (λ (x : List (List ℕ)). replicate (c + 1 - o) [] ++ x)
        (ap (λ (i : ℕ). blanked_from i (g ∷ gs) (drop (c + 1 - o) (drop (o - n) ls))) q
        ∙ ap (blanked_from (c + 1) (g ∷ gs)) (drop-drop (c + 1 - o) (o - n) ls ∙ ap (λ (i : ℕ). drop i ls) r)
        ∙ blanked-past (c + 1) (drop (c + 1 - n) ls) (omega arith)))

-- the same from the line after line k on, in a text whose regions come in order
module _ (s : List ℕ) (k p : ℕ) (g : Region) (gs : List Region) (h : Ordered s k p (g ∷ gs)) where
  pub blanked-next : blanked_from (k + 1) (g ∷ gs) (drop k (pieces s))
      ≡ take (g.opener.line - (k + 1)) (drop k (pieces s))
      ++ (replicate (g.closer.line + 1 - g.opener.line) [] ++ blanked_from (g.closer.line + 1) gs (drop g.closer.line (pieces s)))
  blanked-next =
      let a : Placed s k p g = (ordered_on s k p (g ∷ gs) h refl).0 in
      rw (← onward s k g.closer.line (omega arith))
      (blanked_region g gs k (k + 1) (drop k (pieces s)) (ordered_sorted s k p (g ∷ gs) h) (omega arith)
      (omega (arith, starts-within a.closes, length-drop k (pieces s))))
