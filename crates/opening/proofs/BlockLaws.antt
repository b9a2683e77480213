-- Bytes put behind a text within the limit, or no room. Assumes nothing.
use Prim.Native.Nat.{ℕ, ◌+◌, ◌≤◌, ◌<◌}
use native.Mathlib.Omega.{arith}
use mathlib.Core.Path.{◌≡◌, ◌∙◌, ap}
use mathlib.Core.List.{List, ◌++◌}
use lib.ListN.{length, take, drop, length-append}
use lib.Seq.{sets, sets-eq, length-take-le, take_at}
use borrow.Author.Tests.{le-leb, lt-leb}
use Rattle.answer.specs.declared.Place.{Place}
use Rattle.answer.specs.declared.Refusal.TheVariants.{TextLimit}
use Rattle.insertion.specs.Insertion.{joined, stopped, tested}

module _ (L : ℕ) (p : Place) (w s : List ℕ) (len : ℕ) where
  put-length : len ≤ length w → length (take len w ++ s) ≡ len + length s
  put-length h = length-append (take len w) s ∙ ap (λ (n : ℕ). n + length s) (length-take-le len w h)

  put_in : len + length s ≤ L → L ≤ length w → joined (take (len + length s) (sets w len s)) ≡ tested L p (take len w ++ s)
  put_in h k =
      let e : length (take len w ++ s) ≡ len + length s = put-length (omega arith) in
      ap joined (ap (take (len + length s)) (sets-eq s w len (omega arith)) ∙ take_at (take len w ++ s) (drop (len + length s) w) (len + length s) e)
      ∙ rw (le-leb (length (take len w ++ s)) L (omega arith))

  -- what a copy leaves and answers
  pub put_done : (y : List ℕ) (r : ℕ) → len + length s ≤ L → L ≤ length w → y ≡ sets w len s → r ≡ len + length s → (joined (take r y) ≡ tested L p (take len w ++ s)) × (r ≤ L)
  put_done y r h k e i = (rw (e, i) (put_in h k), omega arith)

  pub put_over : len ≤ length w → L < len + length s → stopped (TextLimit p) ≡ tested L p (take len w ++ s)
  put_over h k =
      let e : length (take len w ++ s) ≡ len + length s = put-length h in
      rw (lt-leb (length (take len w ++ s)) L (omega arith))
