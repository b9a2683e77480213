-- Lines that a scan may pass over. Nothing here is document 01's: inner functions promise it, and the laws of `proofs/` tie it to the scan.
use Rattle.std.specs.Prelude.{ℕ, ◌+◌, ◌≤◌, ◌<◌, ◌≡◌, Bool, true, false, not, ◌&&◌, ◌||◌, List, [], ◌∷◌, ◌++◌, length, drop, eqb, Option, Some, None}
use Rattle.std.specs.Int.Bits.{bit_xor}
use Rattle.scan.specs.declared.seek.LineAt.{LineAt}
use Rattle.text.specs.Bytes.{part}
use Rattle.text.specs.Pattern.{contains}
use Rattle.text.specs.Lines.{Line, lines_from}
use Rattle.fence.specs.Fences.{is_fence}
use Rattle.marker.specs.Marker.{OPEN}

-- whether three bytes side by side in s pass the test g
unfoldable pub any_three : (ℕ → ℕ → ℕ → Bool) → List ℕ → Bool
any_three g [] = false
any_three g (x ∷ []) = false
any_three g (x ∷ y ∷ []) = false
any_three g (x ∷ y ∷ z ∷ s) = g x y z || any_three g (y ∷ z ∷ s)

-- three backticks, three tildes or `--[`: a line without these is no fence and holds no marker
abbrev pub hint : ℕ → ℕ → ℕ → Bool
hint x y z = eqb x y && ((eqb x z && (eqb x 0x60 || eqb x 0x7E)) || (eqb x 0x2D && eqb z 0x5B))

-- what the first and third byte show of a hint; `-` and `[` differ by 76 hex
abbrev pub trace : ℕ → ℕ → ℕ → Bool
trace x y z = (eqb x 0x60 || eqb x 0x7E) || eqb (bit_xor x z) 0x76

-- whether no line of ls is a fence or holds a marker
unfoldable pub all_plain : List Line → Bool
all_plain [] = true
all_plain (l ∷ ls) = (not (is_fence l.bytes) && not (contains OPEN l.bytes)) && all_plain ls

-- of the lines from place a on, of which the first is line n, all before line k are plain, and the others are rest
pub record Skipped (s : List ℕ) (a n k : ℕ) (rest : List Line) : Type 0 where
  pub passed : List Line
  pub lines : lines_from a (drop a s) ≡ passed ++ rest
  pub plain : all_plain passed ≡ true
  pub number : k ≡ n + length passed

-- from place a on, after n lines: a line and its number, where it starts and ends and where the next starts; or plain lines only
abbrev pub Sought : List ℕ → ℕ → ℕ → Option LineAt → Type 0
Sought s a n (Some p) =
    Skipped s a (n + 1) p.number (record { start = p.start; bytes = part p.start p.end s } ∷ lines_from p.next (drop p.next s))
    × ((p.start ≤ p.end) × ((p.end ≤ p.next) × ((a < p.next) × ((p.next ≤ length s) × (p.number ≤ p.next)))))
Sought s a n None = all_plain (lines_from a (drop a s)) ≡ true
