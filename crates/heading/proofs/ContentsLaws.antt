-- Laws of `specs/Contents.antt`: a lowercased text against another, by the byte at a place. Assumes nothing.
use Prim.Native.Nat.{ℕ}
use native.Mathlib.Omega.{arith}
use Rattle.std.specs.Prelude.{IsTrue, ◌↔◌}
use Rattle.std.specs.Char.{to_ascii_lowercase}
use Rattle.std.proofs.lemmas.Bool.Decides.{nat_tests}
use mathlib.Core.Path.{◌≡◌, refl, sym, ◌∙◌}
use mathlib.Core.Bool.{Bool, true, false, ◌&&◌, ◌||◌, false≢true}
use mathlib.Core.List.{List, [], ◌∷◌, map}
use Rattle.text.specs.Pattern.{bytes, starts_with, equals}
use Rattle.text.proofs.PatternLaws.{equals-same, equals-drop}
use Rattle.text.specs.Ascii.{lower}
use Rattle.heading.specs.Contents.{is_lowered, is_contents, drops}
use Rattle.heading.proofs.StillLaws.{no_hash_lem}

-- a text in lower case, against one that is in lower case, as std compares them
lower-same : (x : ℕ) → to_ascii_lowercase x ≡ lower x
unfolding lower
lower-same x = grind (arith, nat_tests)

equals_self : {p s : List ℕ} → p ≡ s → equals p s ≡ true
equals_self {p} {s} e = rw e (equals-drop s 0 (omega arith))

map_same : (s : List ℕ) → map to_ascii_lowercase s ≡ map lower s
map_same [] = refl
map_same (x ∷ s) = rw (lower-same x, map_same s)

pub lowered_same : (p s : List ℕ) {r : Bool} → map to_ascii_lowercase p ≡ p → (IsTrue r ↔ (map to_ascii_lowercase s ≡ map to_ascii_lowercase p)) → r ≡ is_lowered p s
unfolding is_lowered
lowered_same p s {r} q h = go r (equals p (map lower s)) refl h
  where
    go : (a b : Bool) → equals p (map lower s) ≡ b → (IsTrue a ↔ (map to_ascii_lowercase s ≡ map to_ascii_lowercase p)) → a ≡ b
    go true true e h = refl
    go false false e h = refl
    go true false e h = let w : p ≡ map lower s = sym (sym (map_same s) ∙ h.0 refl ∙ q) in absurd (false≢true (sym e ∙ equals_self w))
    go false true e h = h.1 (map_same s ∙ sym (equals-same p (map lower s) e) ∙ sym q)

-- whether a line is dropped, by its first byte
pub drops_other : (within : Bool) (l : List ℕ) → starts_with (bytes "#") l ≡ false → drops within l ≡ within
unfolding drops is_contents
drops_other true l e = rw (no_hash_lem l e, e)
drops_other false l e = rw (no_hash_lem l e)

pub drops_hash : (within : Bool) (l : List ℕ) → starts_with (bytes "#") l ≡ true → drops within l ≡ is_contents l
unfolding drops
drops_hash within l e = rw e (go within (is_contents l))
  where
    go : (w b : Bool) → (b || (w && false)) ≡ b
    go true true = refl
    go true false = refl
    go false true = refl
    go false false = refl
