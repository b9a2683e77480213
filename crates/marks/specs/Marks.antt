-- The table of marks, which spares comparisons of anchors. Nothing here is document 01's: functions promise it.
use Rattle.std.specs.Prelude.{ℕ, ◌+◌, ◌-◌, ◌*◌, ◌≤◌, ◌/◌, ◌%◌, ◌≡◌, Bool, true, false, ◌⊎◌, List, length, get_or}

-- 255 stands where there are several marks
abbrev pub MANY : ℕ
MANY = 255

-- the mark of a file, 1 to 64, for an anchor's number; and what marks of one number have in common
abbrev pub mark_of : ℕ → ℕ → ℕ
mark_of number file = file + 64 * (number % 3)

abbrev pub print_of : ℕ → ℕ
print_of mark = (mark - 1) / 64

-- a place of the table has a mark, or several
abbrev pub Holds : List ℕ → ℕ → ℕ → Type 0
Holds table p mark = (get_or table p 0 ≡ MANY) ⊎ (get_or table p 0 ≡ mark)

-- the three places of a number in a table of n bytes
abbrev pub place_one : ℕ → ℕ → ℕ
place_one number n = number % n

abbrev pub place_two : ℕ → ℕ → ℕ
place_two number n = number / n % n

abbrev pub place_three : ℕ → ℕ → ℕ
place_three number n = number % 16777213 % n

-- all three tell of a file
pub record Marked (table : List ℕ) (number file : ℕ) : Type 0 where
  pub one : Holds table (place_one number (length table)) (mark_of number file)
  pub two : Holds table (place_two number (length table)) (mark_of number file)
  pub three : Holds table (place_three number (length table)) (mark_of number file)

-- another mark, or several, stand at a place
abbrev pub HasOther : List ℕ → ℕ → ℕ → Type 0
HasOther table p mark = (get_or table p 0 ≡ 0 → ⊥) × (get_or table p 0 ≡ mark → ⊥)

-- what marking a place leaves: what the table told it tells still; the place has the mark; where the answer is false it had no other of that print, and where it is true it had another; no other mark comes in
pub record Mark (table after : List ℕ) (at mark : ℕ) (other : Bool) : Type 0 where
  pub long : length after ≡ length table
  pub still : (p m : ℕ) → 1 ≤ m → Holds table p m → Holds after p m
  pub own : Holds after at mark
  pub alone : other ≡ false → (m : ℕ) → 1 ≤ m → print_of m ≡ print_of mark → Holds table at m → m ≡ mark
  pub spared : other ≡ true → HasOther table at mark
  pub apart : (p : ℕ) → HasOther after p mark → HasOther table p mark

-- the same of a number
pub record Marks (table after : List ℕ) (number file : ℕ) (maybe : Bool) : Type 0 where
  pub long : length after ≡ length table
  pub still : (n f : ℕ) → 1 ≤ f → Marked table n f → Marked after n f
  pub own : Marked after number file
  pub alone : maybe ≡ false → (f : ℕ) → 1 ≤ f → f ≤ 64 → Marked table number f → f ≡ file
  pub spared : maybe ≡ true → HasOther table (place_one number (length table)) (mark_of number file)
      × (HasOther table (place_two number (length table)) (mark_of number file) × HasOther table (place_three number (length table)) (mark_of number file))
