-- The buffer of a fill: a part that is lent and comes back, and room for each file not on the chain. Assumes nothing.
use Prim.Native.Nat.{ℕ, zero, suc, ◌+◌, ◌-◌, ◌*◌, ◌≤◌, ◌<◌}
use native.Mathlib.Nat.{suc-mul}
use native.Mathlib.Omega.{arith}
use mathlib.Core.Path.{◌≡◌, refl, ◌∙◌, ap}
use mathlib.Core.Bool.{Bool, true, false}
use mathlib.Core.List.{List, ◌++◌, append-nil}
use lib.ListN.{length, get_or, take, drop, set, replicate, length-append, length-drop, drop_of_length-le}
use lib.Seq.{length-take-le, take_all, take-append-le, take-take, drop_at, take-set-lt, get_or-take}
use Rattle.text.specs.Bytes.{part}
use Rattle.chains.specs.Chains.{free}
use Rattle.chains.proofs.GrowLaws.{free_set}

-- ---- a part that was lent and has come back

module _ (w y : List ℕ) (limit : ℕ) (h : limit ≤ length w) (k : length y ≡ length w - limit) where
  pub back_take : (n : ℕ) → n ≤ limit → take n (take limit w ++ (y ++ drop (length w - limit) (drop limit w))) ≡ take n w
  back_take n l =
      take-append-le n (take limit w) (y ++ drop (length w - limit) (drop limit w)) (omega (arith, length-take-le limit w h))
      ∙ take-take n limit w l

  pub back_drop : drop limit (take limit w ++ (y ++ drop (length w - limit) (drop limit w))) ≡ y
  back_drop =
      drop_at (take limit w) (y ++ drop (length w - limit) (drop limit w)) limit (length-take-le limit w h)
      ∙ ap (λ r. y ++ r) (drop_of_length-le (drop limit w) {i = length w - limit} (omega (arith, length-drop limit w)))
      ∙ append-nil y

  pub back_length : length (take limit w ++ (y ++ drop (length w - limit) (drop limit w))) ≡ length w
  back_length = simp (length-append, length-take-le limit w h, length-drop) (omega (arith, length-drop limit w))

  pub back_part : (n : ℕ) → part limit (limit + n) (take limit w ++ (y ++ drop (length w - limit) (drop limit w))) ≡ take n y
  back_part n = let e : limit + n - limit ≡ n = omega arith in rw e (ap (take n) back_drop)

-- the part that is lent to the next level
pub lent_all : (w : List ℕ) (limit : ℕ) → take (length w - limit) (drop limit w) ≡ drop limit w
lent_all w limit = take_all (length w - limit) (drop limit w) (omega (arith, length-drop limit w))

pub lent_length : (w : List ℕ) (limit : ℕ) → limit ≤ length w → length (take (length w - limit) (drop limit w)) ≡ length w - limit
lent_length w limit h = length-take-le (length w - limit) (drop limit w) (omega (arith, length-drop limit w))

-- ---- room for each file not on the chain

-- none of n is on a chain that starts
pub free-none : (n k : ℕ) → n ≤ k → free (take n (replicate k false)) ≡ n
unfolding free
free-none zero k h = refl
free-none (suc n) zero h = absurd (omega arith)
free-none (suc n) (suc k) h = ap suc (free-none n k (omega arith))

module _ (m : List Bool) (n d : ℕ) (h : d < n) (k : n ≤ length m) (e : get_or m d false ≡ false) where
  -- with the file d on it one less
  pub free-next : free (take n m) ≡ suc (free (take n (set m d true)))
  free-next =
      rw (take-set-lt n m d true h)
      (free_set (take n m) d (omega (arith, length-take-le n m k)) (get_or-take n m d false h ∙ e))

  module _ (L W : ℕ) (r : suc (free (take n m)) * L ≤ W) where
    pub room_next : suc (free (take n (set m d true))) * L + L ≤ W
    room_next =
        let f = free-next in
        let a : suc (free (take n m)) * L ≡ free (take n m) * L + L = suc-mul (free (take n m)) L in
        let b : free (take n m) * L ≡ suc (free (take n (set m d true))) * L = ap (λ (x : ℕ). x * L) f in
        omega arith

    pub room-two : L + L ≤ W
    room-two =
        let a : suc (free (take n (set m d true))) * L ≡ free (take n (set m d true)) * L + L = suc-mul (free (take n (set m d true))) L in
        omega (arith, room_next)
