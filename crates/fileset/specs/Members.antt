-- Document 01, "Records": "Member list: one name a line, LF after each, 0 to 64 lines; a name may come twice."
use Rattle.std.specs.Prelude.{ℕ, ◌+◌, ◌-◌, Bool, cond, ◌&&◌, ◌||◌, List, [], ◌∷◌, length, take, eqb, leb, Option, Some, None, is_some}
use Rattle.text.specs.Lines.{LF, pieces}
use Rattle.text.specs.Pattern.{ends_with}
use Rattle.index.specs.Index.{Record, find_record}

-- the names: what stands before each LF
abbrev pub names : List ℕ → List (List ℕ)
names list = take (length (pieces list) - 1) (pieces list)

-- refusal 7 stands where the "list lacks its last LF or has over 64 lines"
abbrev pub is_list : List ℕ → Bool
is_list list = (eqb (length list) 0 || ends_with (LF ∷ []) list) && leb (length (names list)) 64

-- for the functions: how many lines a list has
unfoldable pub list_lines : List ℕ → Option ℕ
list_lines list = cond (is_list list) (Some (length (names list))) None

-- the first line whose name no record has; the lines count from n
unfoldable pub absent_from : ℕ → List Record → List (List ℕ) → Option ℕ
absent_from n rs [] = None
absent_from n rs (l ∷ ls) = cond (is_some (find_record l rs)) (absent_from (n + 1) rs ls) (Some n)

-- the members: for each name its record, counted from 0
abbrev pub record_found : Option ℕ → ℕ
record_found (Some k) = k
record_found None = 0

unfoldable pub members_from : List Record → List (List ℕ) → List ℕ
members_from rs [] = []
members_from rs (l ∷ ls) = record_found (find_record l rs) ∷ members_from rs ls

abbrev pub members : List Record → List ℕ → List ℕ
members rs list = members_from rs (names list)
