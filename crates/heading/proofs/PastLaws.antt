-- Laws of `deepest_of`: whether a heading goes past the levels is asked of the deepest one, where the shallowest goes to a level of 1 or more. Assumes nothing.
use Rattle.std.specs.Prelude.{Option, Some, None}
use Prim.Native.Nat.{ℕ, suc, ◌+◌, ◌-◌, ◌≤◌, min, max}
use native.Mathlib.Omega.{arith}
use mathlib.Core.Path.{◌≡◌, refl, sym, ap, ◌∙◌}
use mathlib.Core.Bool.{Bool, true, false, cond, ◌||◌, or_assoc}
use mathlib.Core.List.{List, [], ◌∷◌}
use lib.Dec.{ltb}
use lib.IntN.{ℤ, pos, negsuc, ◌+ℤ◌, ◌-ℤ◌, +ℤ_comm, -ℤ-+ℤ_cancel}
use borrow.Author.Tests.{le-leb, lt-leb, lt-ltb, le-ltb, ltb-true, ltb-false}
use Rattle.heading.specs.Level.{shallowest_of, shift_of, moved_to, deepest_of, is_past, any_past}
use Rattle.heading.specs.declared.walk.LineKind.{LineKind}
use Rattle.heading.specs.declared.walk.LineKind.TheVariants.{Quoted, Heading, Other}

-- no heading, or none above level n
abbrev Least : ℕ → Option ℕ → Type 0
Least n None = Unit {0}
Least n (Some m) = n ≤ m

abbrev AtLeast : ℕ → List LineKind → Type 0
AtLeast n [] = Unit {0}
AtLeast n (Quoted ∷ ks) = AtLeast n ks
AtLeast n (Heading m a e ∷ ks) = (n ≤ m) × AtLeast n ks
AtLeast n (Other ∷ ks) = AtLeast n ks

shallowest_least : (n : ℕ) (b : Option ℕ) (ks : List LineKind) → shallowest_of b ks ≡ Some n → Least n b × AtLeast n ks
unfolding shallowest_of
shallowest_least n None [] e = (tt, tt)
shallowest_least n (Some m) [] e = let q : m ≡ n = cc in (omega arith, tt)
shallowest_least n b (Quoted ∷ ks) e = shallowest_least n b ks e
shallowest_least n b (Other ∷ ks) e = shallowest_least n b ks e
shallowest_least n None (Heading m i j ∷ ks) e = let h = shallowest_least n (Some m) ks e in (tt, (h.0, h.1))
shallowest_least n (Some k) (Heading m i j ∷ ks) e =
    let h = shallowest_least n (Some (min m k)) ks e in
    let q : n ≤ min m k = h.0 in
    (omega arith, (omega arith, h.1))

-- a shift that takes level n to level m takes deeper ones as far
shifted : (n k m : ℕ) (z : ℤ) → n ≤ k → pos n +ℤ z ≡ pos m → pos k +ℤ z ≡ pos (k - n + m)
shifted n k m (pos a) h e = let q : n + a ≡ m = cc in let r : k + a ≡ k - n + m = omega arith in ap pos r
shifted n k m (negsuc a) h e = go (ltb n (suc a)) refl e
  where
    go : (b : Bool) → ltb n (suc a) ≡ b → cond b (negsuc (suc a - suc n)) (pos (n - suc a)) ≡ pos m → pos k +ℤ negsuc a ≡ pos (k - n + m)
    go true p q = let z : ◌≡◌ {A = ℕ} 0 1 = cc in absurd (omega arith)
    go false p q =
        let r : n - suc a ≡ m = cc in
        let s : suc a ≤ n = ltb-false n (suc a) p in
        let t : k - suc a ≡ k - n + m = omega arith in
        rw (le-ltb k (suc a) (omega arith), t)

past-number : (q : ℕ) → 1 ≤ q → is_past (moved_to (pos q)) ≡ ltb 6 q
past-number q h = go (ltb 6 q) refl
  where
    go : (b : Bool) → ltb 6 q ≡ b → is_past (moved_to (pos q)) ≡ b
    go true e = rw (le-leb 1 q h, lt-leb q 6 (ltb-true 6 q e))
    go false e = rw (le-leb 1 q h, le-leb q 6 (ltb-false 6 q e))

or_nothing : (b : Bool) → b ≡ (b || false)
or_nothing true = refl
or_nothing false = refl

or_either : (x y : ℕ) → ltb 6 (max x y) ≡ (ltb 6 x || ltb 6 y)
or_either x y = go (ltb 6 x) (ltb 6 y) refl refl
  where
    go : (a b : Bool) → ltb 6 x ≡ a → ltb 6 y ≡ b → ltb 6 (max x y) ≡ (a || b)
    go true b p q = lt-ltb 6 (max x y) (omega (arith, ltb-true 6 x p))
    go false true p q = lt-ltb 6 (max x y) (omega (arith, ltb-true 6 y q))
    go false false p q = le-ltb 6 (max x y) (omega (arith, ltb-false 6 x p, ltb-false 6 y q))

module _ (n m : ℕ) (z : ℤ) (e : pos n +ℤ z ≡ pos (suc m)) where
  past-level : (k : ℕ) → n ≤ k → is_past (moved_to (pos k +ℤ z)) ≡ ltb 6 (k - n + suc m)
  past-level k h = rw (shifted n k (suc m) z h e) (past-number (k - n + suc m) (omega arith))

  past-max : (b k : ℕ) → n ≤ b → n ≤ k → is_past (moved_to (pos (max b k) +ℤ z)) ≡ (is_past (moved_to (pos b +ℤ z)) || is_past (moved_to (pos k +ℤ z)))
  past-max b k h l =
      let q : max b k - n + suc m ≡ max (b - n + suc m) (k - n + suc m) = omega arith in
      past-level (max b k) (omega arith) ∙ rw (q, past-level b h, past-level k l) (or_either (b - n + suc m) (k - n + suc m))

  deepest-from : (b : ℕ) (ks : List LineKind) → n ≤ b → AtLeast n ks → is_past (moved_to (pos (deepest_of b ks) +ℤ z)) ≡ (is_past (moved_to (pos b +ℤ z)) || any_past z ks)
  unfolding deepest_of any_past
  deepest-from b [] h l = or_nothing (is_past (moved_to (pos b +ℤ z)))
  deepest-from b (Quoted ∷ ks) h l = deepest-from b ks h l
  deepest-from b (Other ∷ ks) h l = deepest-from b ks h l
  deepest-from b (Heading k i j ∷ ks) h l =
      deepest-from (max b k) ks (omega arith) l.1
      ∙ rw (past-max b k h l.0) (or_assoc (is_past (moved_to (pos b +ℤ z))) (is_past (moved_to (pos k +ℤ z))) (any_past z ks))

  -- the shallowest goes to level 1 or more: a heading goes past just where the deepest does
  pub deepest-past : (ks : List LineKind) → shallowest_of None ks ≡ Some n → any_past z ks ≡ is_past (moved_to (pos (deepest_of 0 ks) +ℤ z))
  unfolding deepest_of any_past shallowest_of
  deepest-past [] q = let y : ◌≡◌ {A = ℕ} 0 1 = cc in absurd (omega arith)
  deepest-past (Quoted ∷ ks) q = deepest-past ks q
  deepest-past (Other ∷ ks) q = deepest-past ks q
  deepest-past (Heading k i j ∷ ks) q =
      let h = shallowest_least n (Some k) ks q in
      let y : max 0 k ≡ k = omega arith in
      rw y (sym (deepest-from k ks h.0 h.1))

-- with no heading nothing goes past
some-heading : (m : ℕ) (ks : List LineKind) → shallowest_of (Some m) ks ≡ None → ⊥
unfolding shallowest_of
some-heading m [] q = let y : ◌≡◌ {A = ℕ} 0 1 = cc in omega arith
some-heading m (Quoted ∷ ks) q = some-heading m ks q
some-heading m (Other ∷ ks) q = some-heading m ks q
some-heading m (Heading k i j ∷ ks) q = some-heading (min k m) ks q

pub none-past : (z : ℤ) (ks : List LineKind) → shallowest_of None ks ≡ None → any_past z ks ≡ false
unfolding shallowest_of any_past
none-past z [] q = refl
none-past z (Quoted ∷ ks) q = none-past z ks q
none-past z (Other ∷ ks) q = none-past z ks q
none-past z (Heading k i j ∷ ks) q = absurd (some-heading k ks q)

-- "target less shallowest level" takes the shallowest to the target
pub shift_level : (k t : ℕ) → pos t +ℤ shift_of k (Some t) ≡ pos k
shift_level k t = +ℤ_comm (pos t) (pos k -ℤ pos t) ∙ -ℤ-+ℤ_cancel (pos k) (pos t)
