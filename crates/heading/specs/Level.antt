-- Document 01, "Headings and levels": the shallowest level, the shift and what a heading becomes.
use Rattle.std.specs.Prelude.{ℕ, suc, ◌≤◌, min, max, Bool, true, false, cond, ◌&&◌, ◌||◌, List, [], ◌∷◌, ◌++◌, replicate, ℤ, pos, negsuc, ◌+ℤ◌, ◌-ℤ◌, leb, Option, Some, None}
use Rattle.heading.specs.declared.walk.LineKind.{LineKind}
use Rattle.heading.specs.declared.walk.LineKind.TheVariants.{Quoted, Heading, Other}

-- the shallower of what was found and a line
abbrev pub least : ℕ → Option ℕ → Option ℕ
least n (Some m) = Some (min n m)
least n None = Some n

abbrev pub shallower : Option ℕ → LineKind → Option ℕ
shallower b Quoted = b
shallower b (Heading n a e) = least n b
shallower b Other = b

-- "shallowest level" of the lines' kinds, with b found before
unfoldable pub shallowest_of : Option ℕ → List LineKind → Option ℕ
shallowest_of b [] = b
shallowest_of b (k ∷ ks) = shallowest_of (shallower b k) ks

-- "The shift is a signed number: target less shallowest level, 0 without headings."
abbrev pub shift_of : ℕ → Option ℕ → ℤ
shift_of target (Some n) = pos target -ℤ pos n
shift_of target None = pos 0

-- "heading past level 6": 1 to 6 is a level, and any other number is past them
abbrev pub moved_to : ℤ → Option ℕ
moved_to (pos n) = cond (leb 1 n && leb n 6) (Some n) None
moved_to (negsuc n) = None

-- "Each heading becomes its new hashes, one space, its text, even at shift 0."
abbrev pub heading_line : ℕ → List ℕ → List ℕ
heading_line n text = replicate n 0x23 ++ (0x20 ∷ text)

-- a level found is one that a heading has: "1 to 6 `#`"
abbrev pub IsLevel : Option ℕ → Type 0
IsLevel (Some n) = (1 ≤ n) × (n ≤ 6)
IsLevel None = Unit {0}

-- the deepest level of the lines' kinds, with b found before
abbrev pub deeper : ℕ → LineKind → ℕ
deeper b Quoted = b
deeper b (Heading n a e) = max b n
deeper b Other = b

unfoldable pub deepest_of : ℕ → List LineKind → ℕ
deepest_of b [] = b
deepest_of b (k ∷ ks) = deepest_of (deeper b k) ks

-- whether a shift takes a heading past the levels; whether it does so to one of the lines; how many lines stand before the first
abbrev pub is_past : Option ℕ → Bool
is_past (Some n) = false
is_past None = true

abbrev pub goes_past : ℤ → LineKind → Bool
goes_past z Quoted = false
goes_past z (Heading n a e) = is_past (moved_to (pos n +ℤ z))
goes_past z Other = false

unfoldable pub any_past : ℤ → List LineKind → Bool
any_past z [] = false
any_past z (k ∷ ks) = goes_past z k || any_past z ks

unfoldable pub first_past : ℤ → List LineKind → ℕ
first_past z [] = 0
first_past z (k ∷ ks) = cond (goes_past z k) 0 (suc (first_past z ks))
