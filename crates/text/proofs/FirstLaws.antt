-- Laws of blank lines, and of lines that do not begin with a byte of `specs/First.antt`: what stands at their trimmed start. Assumes nothing.
use Prim.Native.Nat.{ℕ, suc, ◌≤◌}
use native.Mathlib.Omega.{arith}
use mathlib.Core.Path.{◌≡◌, refl, sym, ap, ◌∙◌}
use Rattle.std.specs.Prelude.{None}
use mathlib.Core.Bool.{Bool, true, false, cond, not, false≢true}
use mathlib.Core.List.{List, [], ◌∷◌}
use lib.ListN.{length, drop_of_length-le}
use lib.Dec.{eqb}
use borrow.Author.Tests.{eqb-true, ne_eqb, eq-eqb}
use Rattle.text.specs.Bytes.{first}
use Rattle.text.specs.Pattern.{starts_with, find}
use Rattle.text.specs.Space.{is_space, is_other, lead, trim_start, is_blank}
use Rattle.text.specs.First.{is_first, begins}
use Rattle.text.proofs.BytesLaws.{or_left, or_right}

-- a byte that passes a test is none that fails it
pub apart : (f : ℕ → Bool) (x b : ℕ) (v w : Bool) → f x ≡ v → f b ≡ w → (v ≡ w → ⊥) → eqb x b ≡ false
apart f x b v w p q h = ne_eqb x b (λ e. h (sym p ∙ ap f e ∙ q))

-- a blank line, byte by byte
blank_cons : (x : ℕ) (s : List ℕ) → is_blank (x ∷ s) ≡ true → (is_space x ≡ true) × (is_blank s ≡ true)
unfolding is_blank lead first
blank_cons x s e = go (is_space x) (eqb-true _ _ e)
  where
    go : (b : Bool) → cond (not b) 0 (suc (first is_other s)) ≡ suc (length s) → (b ≡ true) × (eqb (first is_other s) (length s) ≡ true)
    go true q = (refl, eq-eqb (first is_other s) (length s) (omega arith))
    go false q = absurd (omega arith)

-- it has nothing but space bytes: its trimmed start is empty
pub blank_trimmed : (l : List ℕ) → is_blank l ≡ true → trim_start l ≡ []
unfolding is_blank trim_start
blank_trimmed l e =
    let h : length l ≤ lead l = omega (arith, eqb-true (lead l) (length l) e) in
    drop_of_length-le l h

-- a blank line holds no pattern that begins with another byte
pub blank_find : (b : ℕ) (p l : List ℕ) → is_space b ≡ false → is_blank l ≡ true → find (b ∷ p) l ≡ None
unfolding find starts_with
blank_find b p [] h e = refl
blank_find b p (x ∷ l) h e =
    let c = blank_cons x l e in
    rw (apart is_space x b true false c.0 h (λ q. false≢true (sym q)), blank_find b p l h c.1)

-- nor does it begin with one
pub blank_begins : (b : ℕ) (p l : List ℕ) → is_space b ≡ false → is_blank l ≡ true → starts_with (b ∷ p) l ≡ false
unfolding starts_with
blank_begins b p [] h e = refl
blank_begins b p (x ∷ l) h e = rw (apart is_space x b true false (blank_cons x l e).0 h (λ q. false≢true (sym q)))

-- a line that does not begin with a byte of `is_first` stands trimmed at its start
pub begins_trimmed : (l : List ℕ) → begins l ≡ false → trim_start l ≡ l
unfolding begins is_first trim_start lead first
begins_trimmed [] e = refl
begins_trimmed (x ∷ l) e =
    let s : is_space x ≡ false = or_left (is_space x) _ (or_right (eqb x 0x23) _ e) in
    rw s

-- and it begins with no pattern that begins with one
pub begins-starts : (b : ℕ) (p l : List ℕ) → is_first b ≡ true → begins l ≡ false → starts_with (b ∷ p) l ≡ false
unfolding begins starts_with
begins-starts b p [] h e = refl
begins-starts b p (x ∷ l) h e = rw (apart is_first x b false true e h false≢true)
