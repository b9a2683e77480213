-- Laws of `specs/Decimal.antt`: a number's digits by its tenth, how many they are, their writing from the last one to the first, and their reading.
-- Assumes nothing.
use Rattle.std.specs.Prelude.{Some, None}
use Prim.Native.Nat.{ℕ, zero, suc, ◌+◌, ◌*◌, ◌-◌, ◌/◌, ◌%◌, ◌^◌, ◌≤◌, ◌<◌, zero-le}
use native.Mathlib.Decide.{dec_le}
use native.Mathlib.Numerals.{add-one}
use native.Mathlib.Omega.{arith}
use mathlib.Core.Path.{◌≡◌, sym, ap, ◌∙◌}
use mathlib.Core.Bool.{Bool, true, false, cond}
use mathlib.Core.List.{List, [], ◌∷◌, ◌++◌, append_assoc}
use lib.ListN.{length, set, drop, get_or, length-append, drop_of_length-le}
use lib.Seq.{drop-cons}
use lib.Dec.{ltb, leb}
use borrow.Author.Tests.{le-ltb, lt-ltb, leb-true}
use Rattle.text.specs.Ascii.{is_digit}
use Rattle.buffer.specs.Decimal.{digits, decimal, number_from}
use Rattle.text.proofs.PatternLaws.{and_right}
use Rattle.buffer.proofs.BufferLaws.{set_before}

digits-small : (f n : ℕ) → n < 10 → digits (suc f) n ≡ (0x30 + n) ∷ []
unfolding digits
digits-small f n h = rw (lt-ltb n 10 h)

digits_large : (f n : ℕ) → 10 ≤ n → digits (suc f) n ≡ digits f (n / 10) ++ ((0x30 + n % 10) ∷ [])
unfolding digits
digits_large f n h = rw (le-ltb n 10 h)

-- digits enough are enough
more_digits : (f n : ℕ) → n < 10 ^ suc f → digits (suc f) n ≡ digits (suc (suc f)) n
more_digits zero n h = digits-small 0 n (omega arith) ∙ sym (digits-small 1 n (omega arith))
more_digits (suc f) n h = go (dec_le 10 n) (more_digits f (n / 10) (omega arith))
  where
    go : Dec (10 ≤ n) → digits (suc f) (n / 10) ≡ digits (suc (suc f)) (n / 10) → digits (suc (suc f)) n ≡ digits (suc (suc (suc f))) n
    go (yes q) ih = digits_large (suc f) n q ∙ ap (λ (l : List ℕ). l ++ ((0x30 + n % 10) ∷ [])) ih ∙ sym (digits_large (suc (suc f)) n q)
    go (no q) ih = digits-small (suc f) n (omega arith) ∙ sym (digits-small (suc (suc f)) n (omega arith))

pub decimal-small : (n : ℕ) → n < 10 → decimal n ≡ (0x30 + n) ∷ []
unfolding decimal
decimal-small n h = digits-small 19 n h

pub decimal_large : (n : ℕ) → 10 ≤ n → n < 2 ^ 64 → decimal n ≡ decimal (n / 10) ++ ((0x30 + n % 10) ∷ [])
unfolding decimal
decimal_large n h k = digits_large 19 n h ∙ ap (λ (l : List ℕ). l ++ ((0x30 + n % 10) ∷ [])) (more_digits 18 (n / 10) (omega arith))

-- how many digits: one, or one more than the tenth has
pub decimal-one : (n : ℕ) → n < 10 → length (decimal n) ≡ 1
decimal-one n h = rw (decimal-small n h)

pub decimal-suc : (n : ℕ) → 10 ≤ n → n < 2 ^ 64 → length (decimal n) ≡ suc (length (decimal (n / 10)))
decimal-suc n h k =
    ap length (decimal_large n h k) ∙ omega (arith, length-append (decimal (n / 10)) ((0x30 + n % 10) ∷ []))

digits_le : (f n : ℕ) → length (digits f n) ≤ f
unfolding digits
digits_le zero n = zero-le
digits_le (suc f) n = go (ltb n 10) (digits_le f (n / 10))
  where
    go : (b : Bool) → length (digits f (n / 10)) ≤ f
        → length (cond b ((0x30 + n) ∷ []) (digits f (n / 10) ++ ((0x30 + n % 10) ∷ []))) ≤ suc f
    go true h = omega arith
    go false h = omega (arith, length-append (digits f (n / 10)) ((0x30 + n % 10) ∷ []))

pub decimal_le : (n : ℕ) → length (decimal n) ≤ 20
unfolding decimal
decimal_le n = digits_le 20 n

digits-some : (f n : ℕ) → 0 < length (digits (suc f) n)
unfolding digits
digits-some f n = go (ltb n 10)
  where
    go : (b : Bool) → 0 < length (cond b ((0x30 + n) ∷ []) (digits f (n / 10) ++ ((0x30 + n % 10) ∷ [])))
    go true = omega arith
    go false = omega (arith, length-append (digits f (n / 10)) ((0x30 + n % 10) ∷ []))

pub decimal-some : (n : ℕ) → 0 < length (decimal n)
unfolding decimal
decimal-some n = digits-some 19 n

pub ruleset some_digits = (decimal-some)

-- a number stands before place i once its last digit stands there and its tenth before that; a digit does by itself
pub before_large : (l : List ℕ) (i m : ℕ) → 10 ≤ m → m < 2 ^ 64 → 0 < i → i ≤ length l
    → decimal (m / 10) ++ drop (i - 1) (set l (i - 1) (0x30 + m % 10)) ≡ decimal m ++ drop i l
before_large l i m h k p q =
    ap (λ (b : List ℕ). decimal (m / 10) ++ b) (set_before l i (0x30 + m % 10) p q)
    ∙ sym (append_assoc (decimal (m / 10)) ((0x30 + m % 10) ∷ []) (drop i l))
    ∙ ap (λ (a : List ℕ). a ++ drop i l) (sym (decimal_large m h k))

pub before_small : (l : List ℕ) (i m : ℕ) → m < 10 → 0 < i → i ≤ length l → drop (i - 1) (set l (i - 1) (0x30 + m)) ≡ decimal m ++ drop i l
before_small l i m h p q = set_before l i (0x30 + m) p q ∙ ap (λ (a : List ℕ). a ++ drop i l) (sym (decimal-small m h))

-- at byte i of s, behind the number n
module _ (s : List ℕ) (n i : ℕ) (h : i < length s) where
  pub at_other : is_digit (get_or s i 0) ≡ false → number_from n (drop i s) ≡ None
  unfolding number_from
  at_other q = rw (drop-cons s i 0 h, q)

  pub at_digit : is_digit (get_or s i 0) ≡ true → number_from n (drop i s) ≡ number_from (n * 10 + (get_or s i 0 - 0x30)) (drop (i + 1) s)
  unfolding number_from
  at_digit q = rw (drop-cons s i 0 h, q, add-one i)

pub at-end : (s : List ℕ) (n i : ℕ) → length s ≤ i → number_from n (drop i s) ≡ Some n
unfolding number_from
at-end s n i h = rw (drop_of_length-le s h)

pub one_digit_more : (n i x : ℕ) → n < 10 ^ i → is_digit x ≡ true → n * 10 + (x - 0x30) < 10 ^ (i + 1)
one_digit_more n i x h e = rw (add-one i) (omega (arith, leb-true x 0x39 (and_right (leb 0x30 x) (leb x 0x39) e)))
