-- Laws of `specs/Link.antt`: a text in an output that is too short for it, or not. Assumes nothing.
use Prim.Native.Nat.{ℕ, ◌-◌, ◌≤◌, ◌<◌}
use native.Mathlib.Omega.{arith}
use mathlib.Core.Path.{◌≡◌, ap, ◌∙◌}
use mathlib.Core.List.{List}
use lib.ListN.{length}
use lib.Seq.{sets}
use borrow.Author.Tests.{le-leb, lt-leb}
use Rattle.leaf.specs.Link.{written}

module _ (s out : List ℕ) (n : ℕ) (e : n ≡ length s) where
  pub short : length out < n → out ≡ written s out
  short h = rw (lt-leb (length s) (length out) (omega arith))

  pub roomy : (x : List ℕ) → n ≤ length out → x ≡ sets out (n - length s) s → x ≡ written s out
  roomy x h q =
      let z : n - length s ≡ 0 = omega arith in
      rw (le-leb (length s) (length out) (omega arith)) (q ∙ ap (λ (k : ℕ). sets out k s) z)
