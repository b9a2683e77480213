-- `is_marker` and `unmarked_from` region by region. Assumes nothing.
use Prim.Native.Nat.{ℕ, zero, suc, ◌+◌, ◌-◌, ◌≤◌, ◌<◌}
use native.Mathlib.Nat.{add-zero}
use native.Mathlib.Omega.{arith}
use mathlib.Core.Path.{◌≡◌, refl, ◌∙◌, ap}
use mathlib.Core.Bool.{true, false, or-true}
use mathlib.Core.List.{List, [], ◌∷◌, ◌++◌}
use lib.ListN.{take, drop}
use lib.Seq.{drop-drop}
use borrow.Author.Tests.{eq-eqb, ne_eqb}
use Rattle.text.specs.Lines.{pieces}
use Rattle.scan.specs.declared.event.Region.{Region}
use Rattle.regions.proofs.PlaceLaws.{Placed, Ordered, ordered_on}
use Rattle.regions.proofs.BlankLaws.{Sorted, ordered_sorted, sorted_lines, sorted_before, onward}
use Rattle.embedding.specs.Embed.{is_marker, unmarked_from}

-- a line up to m, where all openers come after m
pub marker_none : (n m : ℕ) (gs : List Region) → Sorted m gs → n ≤ m → is_marker n gs ≡ false
unfolding Sorted is_marker
marker_none n m [] h k = refl
marker_none n m (g ∷ gs) h k =
    rw (ne_eqb n g.opener.line (λ e. omega arith), ne_eqb n g.closer.line (λ e. omega arith))
    (marker_none n g.closer.line gs h.1.1 (omega arith))

module _ (n : ℕ) (g : Region) (gs : List Region) where
  -- a line past g's closer
  pub marker_past : g.opener.line < n → g.closer.line < n → is_marker n (g ∷ gs) ≡ is_marker n gs
  unfolding is_marker
  marker_past h k = rw (ne_eqb n g.opener.line (λ e. omega arith), ne_eqb n g.closer.line (λ e. omega arith))

  -- g's marker lines, and those between
  pub marker_opener : n ≡ g.opener.line → is_marker n (g ∷ gs) ≡ true
  unfolding is_marker
  marker_opener h = rw (eq-eqb n g.opener.line h)

  pub marker_closer : n ≡ g.closer.line → is_marker n (g ∷ gs) ≡ true
  unfolding is_marker
  marker_closer h = rw (eq-eqb n g.closer.line h, or-true)

  pub marker_between : (m : ℕ) → Sorted m (g ∷ gs) → g.opener.line < n → n < g.closer.line → is_marker n (g ∷ gs) ≡ false
  unfolding Sorted is_marker
  marker_between m s h k =
      rw (ne_eqb n g.opener.line (λ e. omega arith), ne_eqb n g.closer.line (λ e. omega arith))
      (marker_none n g.closer.line gs s.1.1 (omega arith))

-- lines of no region, k of them, stay
module _ (gs : List Region) where
  unmarked-stay : (k n : ℕ) (ls : List (List ℕ)) → ((i : ℕ) → n ≤ i → i < n + k → is_marker i gs ≡ false)
      → unmarked_from n gs ls ≡ take k ls ++ unmarked_from (n + k) gs (drop k ls)
  unfolding unmarked_from
  unmarked-stay zero n ls h = rw add-zero
  unmarked-stay (suc k) n [] h = refl
  unmarked-stay (suc k) n (l ∷ ls) h =
      let e : n + suc k ≡ (n + 1) + k = omega arith in
      rw (h n (omega arith) (omega arith), e) (ap (λ (r : List (List ℕ)). l ∷ r) (unmarked-stay k (n + 1) ls (λ i p q. h i (omega arith) (omega arith))))

  -- a marker line goes
  unmarked-away : (n : ℕ) (ls : List (List ℕ)) → is_marker n gs ≡ true → unmarked_from n gs ls ≡ unmarked_from (n + 1) gs (drop 1 ls)
  unfolding unmarked_from
  unmarked-away n [] h = refl
  unmarked-away n (l ∷ ls) h = rw h

  -- the k lines before the first opener, which comes after line m
  module _ (m k n : ℕ) (ls : List (List ℕ)) (h : Sorted m gs) (j : n + k ≤ suc m) where
    pub unmarked_before : unmarked_from n gs ls ≡ take k ls ++ unmarked_from (n + k) gs (drop k ls)
    unmarked_before = unmarked-stay k n ls (λ i p q. marker_none i m gs h (omega arith))

-- no region is left
pub unmarked_end : (n : ℕ) (ls : List (List ℕ)) → unmarked_from n [] ls ≡ ls
unfolding unmarked_from is_marker
unmarked_end n [] = refl
unmarked_end n (l ∷ ls) = ap (λ (r : List (List ℕ)). l ∷ r) (unmarked_end (n + 1) ls)

module _ (g : Region) (gs : List Region) where
  -- past g's closer, g may be taken out
  pub unmarked_past : (n : ℕ) (ls : List (List ℕ)) → g.opener.line < n → g.closer.line < n → unmarked_from n (g ∷ gs) ls ≡ unmarked_from n gs ls
  unfolding unmarked_from
  unmarked_past n [] h k = refl
  unmarked_past n (l ∷ ls) h k = rw (marker_past n g gs h k, unmarked_past (n + 1) ls (omega arith) (omega arith))

  -- from line n on, where g is the next region: the lines before it, those of it, and what follows
  module _ (m n : ℕ) (ls : List (List ℕ)) (h : Sorted m (g ∷ gs)) (hn : n ≤ g.opener.line) where
    pub unmarked_region : unmarked_from n (g ∷ gs) ls
        ≡ take (g.opener.line - n) ls
        ++ (take (g.closer.line - (g.opener.line + 1)) (drop (g.opener.line + 1 - n) ls) ++ unmarked_from (g.closer.line + 1) gs (drop (g.closer.line + 1 - n) ls))
    unmarked_region =
        let o : ℕ = g.opener.line in
        let c : ℕ = g.closer.line in
        let z : o < c = sorted_lines m g gs h in
        let p : n + (o - n) ≡ o = omega arith in
        let q : (o - n) + 1 ≡ o + 1 - n = omega arith in
        let r : (o + 1) + (c - (o + 1)) ≡ c = omega arith in
        let u : (o + 1 - n) + (c - (o + 1) + 1) ≡ c + 1 - n = omega arith in
        let d : List (List ℕ) = drop (o + 1 - n) ls in
        unmarked-stay (g ∷ gs) (o - n) n ls (λ i j k. marker_none i i (g ∷ gs) (sorted_before m g gs h i (omega arith)) (omega arith))
        ∙ ap (λ (x : List (List ℕ)). take (o - n) ls ++ x)
        (ap (λ (i : ℕ). unmarked_from i (g ∷ gs) (drop (o - n) ls)) p
        ∙ unmarked-away (g ∷ gs) o (drop (o - n) ls) (marker_opener o g gs refl)
        ∙ ap (unmarked_from (o + 1) (g ∷ gs)) (drop-drop 1 (o - n) ls ∙ ap (λ (i : ℕ). drop i ls) q)
        ∙ unmarked-stay (g ∷ gs) (c - (o + 1)) (o + 1) d (λ i j k. marker_between i g gs m h (omega arith) (omega arith))
        ∙ ap (λ (x : List (List ℕ)). take (c - (o + 1)) d ++ x)
        (ap (λ (i : ℕ). unmarked_from i (g ∷ gs) (drop (c - (o + 1)) d)) r
        ∙ unmarked-away (g ∷ gs) c (drop (c - (o + 1)) d) (marker_closer c g gs refl)
        ∙ ap (unmarked_from (c + 1) (g ∷ gs))
        (drop-drop 1 (c - (o + 1)) d ∙ drop-drop (c - (o + 1) + 1) (o + 1 - n) ls ∙ ap (λ (i : ℕ). drop i ls) u)
        ∙ unmarked_past (c + 1) (drop (c + 1 - n) ls) (omega arith) (omega arith)))

-- the same from the line after line k on, in a text whose regions come in order
module _ (s : List ℕ) (k p : ℕ) (g : Region) (gs : List Region) (h : Ordered s k p (g ∷ gs)) where
  pub unmarked_next : unmarked_from (k + 1) (g ∷ gs) (drop k (pieces s))
      ≡ take (g.opener.line - (k + 1)) (drop k (pieces s))
      ++ (take (g.closer.line - (g.opener.line + 1)) (drop g.opener.line (pieces s)) ++ unmarked_from (g.closer.line + 1) gs (drop g.closer.line (pieces s)))
  unmarked_next =
      let a : Placed s k p g = (ordered_on s k p (g ∷ gs) h refl).0 in
      rw (← onward s k g.opener.line (omega arith), ← onward s k g.closer.line (omega arith))
      (unmarked_region g gs k (k + 1) (drop k (pieces s)) (ordered_sorted s k p (g ∷ gs) h) (omega arith))
