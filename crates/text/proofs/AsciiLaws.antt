-- Laws of `specs/Ascii.antt`: the line of the first byte 80 hex or above, by its place. Assumes nothing.
use Rattle.std.specs.Prelude.{Some, None}
use Prim.Native.Nat.{ℕ, suc, ◌+◌, ◌≤◌, ◌<◌}
use native.Mathlib.Nat.{not-suc-le-zero}
use native.Mathlib.Omega.{arith}
use mathlib.Core.Path.{◌≡◌, refl, ap, ◌∙◌}
use mathlib.Core.Bool.{Bool, true, false, cond}
use mathlib.Core.List.{List, [], ◌∷◌}
use lib.ListN.{length, take}
use lib.Dec.{eqb}
use Rattle.text.specs.Bytes.{is, first, count}
use Rattle.text.specs.Lines.{LF}
use Rattle.text.specs.Ascii.{is_wide, wide_line}

pub wide_none : (n : ℕ) (s : List ℕ) → first is_wide s ≡ length s → wide_line n s ≡ None
unfolding first wide_line
wide_none n [] e = refl
wide_none n (x ∷ s) e = go (is_wide x) (wide_none (cond (eqb x LF) (suc n) n) s) e
  where
    go : (b : Bool) → (first is_wide s ≡ length s → wide_line (cond (eqb x LF) (suc n) n) s ≡ None)
        → cond b 0 (suc (first is_wide s)) ≡ suc (length s) → cond b (Some n) (wide_line (cond (eqb x LF) (suc n) n) s) ≡ None
    go true h q = absurd (omega arith)
    go false h q = h (omega arith)

pub wide_some : (n : ℕ) (s : List ℕ) → first is_wide s < length s → wide_line n s ≡ Some (n + count (is LF) (take (first is_wide s) s))
unfolding first wide_line count
wide_some n [] h = absurd (not-suc-le-zero h)
wide_some n (x ∷ s) h = go (is_wide x) (eqb x LF) refl (λ m. wide_some m s) h
  where
    go : (b d : Bool) → eqb x LF ≡ d → ((m : ℕ) → first is_wide s < length s → wide_line m s ≡ Some (m + count (is LF) (take (first is_wide s) s)))
        → cond b 0 (suc (first is_wide s)) < suc (length s)
        → cond b (Some n) (wide_line (cond d (suc n) n) s) ≡ Some (n + count (is LF) (take (cond b 0 (suc (first is_wide s))) (x ∷ s)))
    go true d q ih k = let z : n ≡ n + 0 = omega arith in ap Some z
    go false true q ih k = let z : suc n + count (is LF) (take (first is_wide s) s) ≡ n + suc (count (is LF) (take (first is_wide s) s)) = omega arith in rw q (ih (suc n) (omega arith) ∙ ap Some z)
    go false false q ih k = rw q (ih n (omega arith))

pub wide_least : (n : ℕ) (s : List ℕ) (l : ℕ) → wide_line n s ≡ Some l → n ≤ l
unfolding wide_line
wide_least n [] l e = cc
wide_least n (x ∷ s) l e = go (is_wide x) (eqb x LF) (λ m. wide_least m s l) e
  where
    go : (b d : Bool) → ((m : ℕ) → wide_line m s ≡ Some l → m ≤ l) → cond b (Some n) (wide_line (cond d (suc n) n) s) ≡ Some l → n ≤ l
    go true d ih h = let q : n ≡ l = cc in omega arith
    go false true ih h = omega (arith, ih (suc n) h)
    go false false ih h = ih n h
