-- Numbers in decimal.
use Rattle.std.specs.Prelude.{ℕ, zero, suc, ◌+◌, ◌*◌, ◌-◌, ◌/◌, ◌%◌, cond, List, [], ◌∷◌, ◌++◌, ltb, Option, Some, None}
use Rattle.text.specs.Ascii.{is_digit}

-- n in decimal without needless zeros, with at most f digits
unfoldable pub digits : ℕ → ℕ → List ℕ
digits zero n = []
digits (suc f) n = cond (ltb n 10) ((0x30 + n) ∷ []) (digits f (n / 10) ++ ((0x30 + n % 10) ∷ []))

-- n in decimal: a 64-bit number has at most 20 digits
unfoldable pub decimal : ℕ → List ℕ
decimal n = digits 20 n

-- the number that the digits of n and then those of s make; none where s has another byte
unfoldable pub number_from : ℕ → List ℕ → Option ℕ
number_from n [] = Some n
number_from n (x ∷ s) = cond (is_digit x) (number_from (n * 10 + (x - 0x30)) s) None

-- the number that the digits of s make
abbrev pub number_of : List ℕ → Option ℕ
number_of s = number_from 0 s
