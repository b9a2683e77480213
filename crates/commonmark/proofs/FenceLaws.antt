-- What our search for three bytes and CommonMark's run of them have to do with each other. Assumes nothing.
use Prim.Native.Nat.{ℕ, suc}
use mathlib.Core.Path.{◌≡◌, refl, sym, ◌∙◌, ap}
use mathlib.Core.Bool.{Bool, true, false, cond, not, ◌&&◌, false≢true}
use mathlib.Core.List.{List, [], ◌∷◌}
use native.Mathlib.Omega.{arith}
use borrow.Author.Tests.{eqb-true, le-leb, leb-false}
use lib.ListN.{drop}
use lib.Dec.{eqb, leb}
use Rattle.text.specs.Bytes.{first}
use Rattle.text.specs.Pattern.{starts_with}
use Rattle.text.specs.Space.{is_space, is_other, lead, trim_start}
use Rattle.commonmark.specs.Strip.{indent}
use Rattle.commonmark.specs.Fenced.{Mark, backtick, tilde, byte_of, unindented, run}
use Rattle.commonmark.specs.Fences.{three_of}

-- three of a byte at the start of a text
abbrev pub starts : Mark → List ℕ → Bool
starts m t = starts_with (byte_of m ∷ byte_of m ∷ byte_of m ∷ []) t

-- the first byte of a text is a fence's
abbrev pub HeadIs : Mark → List ℕ → Type 0
HeadIs m [] = ⊥
HeadIs m (x ∷ t) = x ≡ byte_of m

one : (a : Bool) → leb 3 (cond {A = ℕ} (not a) 0 1) ≡ (a && false)
one true = refl
one false = refl

two : (a b : Bool) → leb 3 (cond {A = ℕ} (not a) 0 (suc (cond {A = ℕ} (not b) 0 1))) ≡ (a && (b && false))
two true true = refl
two true false = refl
two false b = refl

three : (a b c : Bool) (n : ℕ) → leb 3 (cond {A = ℕ} (not a) 0 (suc (cond {A = ℕ} (not b) 0 (suc (cond {A = ℕ} (not c) 0 (suc n)))))) ≡ (a && (b && (c && true)))
three true true true n = le-leb 3 (suc (suc (suc n))) (omega arith)
three true true false n = refl
three true false c n = refl
three false b c n = refl

pub run-three : (m : Mark) (t : List ℕ) → leb 3 (run m t) ≡ starts m t
unfolding run first starts_with
run-three m [] = refl
run-three m (x ∷ []) = one (eqb x (byte_of m))
run-three m (x ∷ y ∷ []) = two (eqb x (byte_of m)) (eqb y (byte_of m))
run-three m (x ∷ y ∷ z ∷ t) = three (eqb x (byte_of m)) (eqb y (byte_of m)) (eqb z (byte_of m)) (run m t)

-- a byte of a fence is no space
mark_other : (m : Mark) → is_other (byte_of m) ≡ true
unfolding is_space
mark_other backtick = refl
mark_other tilde = refl

-- a text that begins with three of a byte begins with one
starts-cons : (m : Mark) (t : List ℕ) → starts m t ≡ true → HeadIs m t
unfolding starts_with
starts-cons m [] h = absurd (false≢true h)
starts-cons m (x ∷ t) h = go (eqb x (byte_of m)) refl h
  where
    go : (b : Bool) → eqb x (byte_of m) ≡ b → (b && starts_with (byte_of m ∷ byte_of m ∷ []) t) ≡ true → x ≡ byte_of m
    go true e h = eqb-true x (byte_of m) e
    go false e h = absurd (false≢true h)

-- where the byte behind the spaces of a line is a fence's, the spaces are all that stands before
pub lead-indent : (m : Mark) (l : List ℕ) → HeadIs m (unindented l) → lead l ≡ indent l
unfolding lead indent first is_space
lead-indent m [] h = refl
lead-indent m (x ∷ l) h = go (eqb x 0x20) refl h (lead-indent m l)
  where
    go : (b : Bool) → eqb x 0x20 ≡ b → HeadIs m (drop (cond {A = ℕ} (not b) 0 (suc (indent l))) (x ∷ l)) → (HeadIs m (unindented l) → lead l ≡ indent l)
        → cond {A = ℕ} (is_other x) 0 (suc (lead l)) ≡ cond {A = ℕ} (not b) 0 (suc (indent l))
    go true e h ih = rw (eqb-true x 0x20 e, ih h)
    go false e h ih = rw (h, mark_other m)

pub trimmed : (l : List ℕ) → lead l ≡ indent l → trim_start l ≡ unindented l
unfolding trim_start
trimmed l e = rw e

-- a run behind up to three spaces is one that we see
pub unseen : (m : Mark) (l : List ℕ) → three_of m l ≡ false → leb 3 (run m (unindented l)) ≡ false
unseen m l h = go (starts m (unindented l)) refl
  where
    go : (b : Bool) → starts m (unindented l) ≡ b → leb 3 (run m (unindented l)) ≡ false
    go true e = absurd (false≢true (sym h ∙ (ap (starts m) (trimmed l (lead-indent m l (starts-cons m (unindented l) e))) ∙ e)))
    go false e = run-three m (unindented l) ∙ e

-- and what we see behind spaces alone is a run
pub seen : (m : Mark) (l : List ℕ) → three_of m l ≡ true → lead l ≡ indent l → leb 3 (run m (unindented l)) ≡ true
seen m l h e = run-three m (unindented l) ∙ (sym (ap (starts m) (trimmed l e)) ∙ h)

-- not both kinds
pub not_both : (l : List ℕ) → three_of tilde l ≡ true → three_of backtick l ≡ false
unfolding starts_with
not_both l h = go (trim_start l) (starts-cons tilde (trim_start l) h)
  where
    go : (t : List ℕ) → HeadIs tilde t → starts backtick t ≡ false
    go [] e = refl
    go (x ∷ t) e = rw e

-- a run behind other bytes than spaces is none
run_head : (m : Mark) (t : List ℕ) → leb 1 (run m t) ≡ true → HeadIs m t
unfolding run first
run_head m [] h = absurd (false≢true h)
run_head m (x ∷ t) h = go (eqb x (byte_of m)) refl h
  where
    go : (b : Bool) → eqb x (byte_of m) ≡ b → leb 1 (cond {A = ℕ} (not b) 0 (suc (run m t))) ≡ true → x ≡ byte_of m
    go true e h = eqb-true x (byte_of m) e
    go false e h = absurd (false≢true h)

pub stray : (m : Mark) (l : List ℕ) → (lead l ≡ indent l → ⊥) → run m (unindented l) ≡ 0
stray m l n = go (leb 1 (run m (unindented l))) refl
  where
    go : (b : Bool) → leb 1 (run m (unindented l)) ≡ b → run m (unindented l) ≡ 0
    go true e = absurd (n (lead-indent m l (run_head m (unindented l) e)))
    go false e = omega (arith, leb-false 1 (run m (unindented l)) e)
