-- Laws of `specs/Target.antt`: where a target's path ends, and what a target becomes in a file that is taken into a host. Assumes nothing.
use Rattle.std.specs.Prelude.{Option, Some, None}
use Prim.Native.Nat.{ℕ, ◌≤◌, ◌<◌}
use native.Mathlib.Omega.{arith}
use mathlib.Core.Path.{◌≡◌, subst}
use mathlib.Core.Bool.{Bool, true, false, cond, ◌||◌, and-false}
use mathlib.Core.List.{List}
use lib.ListN.{length, take, drop, length-drop}
use lib.Seq.{drop-length}
use lib.Dec.{eqb}
use borrow.Author.Tests.{ne_eqb}
use Rattle.text.specs.Bytes.{is, first}
use Rattle.text.specs.Pattern.{equals}
use Rattle.text.proofs.BytesLaws.{first_le}
use Rattle.path.specs.Path.{resolve}
use Rattle.link.specs.Target.{is_right, target_of, anchor_self}

-- a path ends within its target
abbrev Inside : List ℕ → Option ℕ → Type 0
Inside t None = Unit {0}
Inside t (Some e) = e ≤ length t

pub path-within : (t : List ℕ) (e : ℕ) → target_of t ≡ Some e → e ≤ length t
unfolding target_of
path-within t e p = subst (Inside t) p (go (is_right t || eqb (length t) 0))
  where
    go : (b : Bool) → Inside t (cond b None (Some (first (is 0x23) t)))
    go true = tt
    go false = first_le (is 0x23) t

-- a fragment is there where the path ends before the target does
fragment_some : (t : List ℕ) (e : ℕ) → e < length t → eqb (length (drop e t)) 0 ≡ false
fragment_some t e h = ne_eqb (length (drop e t)) 0 (λ z. omega (arith, length-drop e t))

-- what a target becomes in a file that is taken into a host
module _ (host dir t : List ℕ) where
  pub anchor_untouched : target_of t ≡ None → t ≡ anchor_self host dir t
  unfolding anchor_self
  anchor_untouched p = rw p

  module _ (e : ℕ) (p : target_of t ≡ Some e) where
    pub anchor_bare : length t ≤ e → t ≡ anchor_self host dir t
    unfolding anchor_self
    anchor_bare q =
        let k : e ≡ length t = omega (arith, path-within t e p) in
        rw (p, k, drop-length t, and-false (equals host (resolve dir (take (length t) t))))

    pub anchor_host : e < length t → equals host (resolve dir (take e t)) ≡ true → drop e t ≡ anchor_self host dir t
    unfolding anchor_self
    anchor_host q h = rw (p, h, fragment_some t e q)

    pub anchor_other : equals host (resolve dir (take e t)) ≡ false → t ≡ anchor_self host dir t
    unfolding anchor_self
    anchor_other h = rw (p, h)
