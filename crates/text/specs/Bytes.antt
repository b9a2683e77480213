-- Texts are lists of bytes. A place in a text is the count of the bytes before it; a part of a text is a take of a drop.
use Rattle.std.specs.Prelude.{ℕ, zero, suc, ◌-◌, Bool, true, false, cond, ◌||◌, List, [], ◌∷◌, take, drop, eqb}

-- the bytes of s from place a up to, not including, place e
abbrev pub part : ℕ → ℕ → List ℕ → List ℕ
part a e s = take (e - a) (drop a s)

-- the test of a byte x that it is b
abbrev pub is : ℕ → ℕ → Bool
is b x = eqb x b

-- what is so or not, as a number: 1 or 0
abbrev pub bit : Bool → ℕ
bit true = 1
bit false = 0

-- whether a byte of s passes the test f
unfoldable pub any : (ℕ → Bool) → List ℕ → Bool
any f [] = false
any f (x ∷ s) = f x || any f s

-- the first place of s whose byte passes the test f, or the length of s
unfoldable pub first : (ℕ → Bool) → List ℕ → ℕ
first f [] = 0
first f (x ∷ s) = cond (f x) 0 (suc (first f s))

-- how many bytes of s pass the test f
unfoldable pub count : (ℕ → Bool) → List ℕ → ℕ
count f [] = 0
count f (x ∷ s) = cond (f x) (suc (count f s)) (count f s)

-- the place after the last byte of s that passes the test f, or 0
unfoldable pub after_last : (ℕ → Bool) → List ℕ → ℕ
after_last f [] = 0
after_last f (x ∷ s) = elim (after_last f s) [ zero ↦ cond (f x) 1 0 | suc k ↦ suc (suc k) ]
