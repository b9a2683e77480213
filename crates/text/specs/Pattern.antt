-- Patterns in a text: at its start, at its end, and anywhere.
use Rattle.std.specs.Prelude.{ℕ, ◌+◌, ◌-◌, Bool, true, false, cond, ◌&&◌, List, [], ◌∷◌, length, drop, eqb, leb, Option, Some, None}
use Prim.Native.String.{String}
use Prim.Native.String as str
use Prim.Native.Char.{code}

-- the bytes of an ASCII text in quotes
abbrev pub bytes : String → List ℕ
bytes str.[] = []
bytes (str.◌∷◌ c s) = code c ∷ bytes s

-- whether s begins with p
unfoldable pub starts_with : List ℕ → List ℕ → Bool
starts_with [] s = true
starts_with (b ∷ p) [] = false
starts_with (b ∷ p) (x ∷ s) = eqb x b && starts_with p s

-- whether s ends with p
unfoldable pub ends_with : List ℕ → List ℕ → Bool
ends_with p s = leb (length p) (length s) && starts_with p (drop (length s - length p) s)

-- whether s is p
unfoldable pub equals : List ℕ → List ℕ → Bool
equals p s = eqb (length s) (length p) && starts_with p s

-- a place found in what stands k bytes further on
abbrev pub later : ℕ → Option ℕ → Option ℕ
later k (Some i) = Some (k + i)
later k None = None

-- the first place of s at which p stands
unfoldable pub find : List ℕ → List ℕ → Option ℕ
find p [] = cond (starts_with p []) (Some 0) None
find p (x ∷ s) = cond (starts_with p (x ∷ s)) (Some 0) (later 1 (find p s))

abbrev pub is_at : Option ℕ → Bool
is_at (Some i) = true
is_at None = false

-- whether p stands anywhere in s
abbrev pub contains : List ℕ → List ℕ → Bool
contains p s = is_at (find p s)
