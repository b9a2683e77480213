-- The pieces of a text between bytes of one kind, as `split` gives them, and texts joined by such a byte.
use Rattle.std.specs.Prelude.{ℕ, cond, List, [], ◌∷◌, ◌++◌, eqb}

-- a byte before the first piece
abbrev pub onto : ℕ → List (List ℕ) → List (List ℕ)
onto x [] = (x ∷ []) ∷ []
onto x (l ∷ ls) = (x ∷ l) ∷ ls

-- the pieces of a text between bytes b: one more than it has bytes b
unfoldable pub split : ℕ → List ℕ → List (List ℕ)
split b [] = [] ∷ []
split b (x ∷ s) = cond (eqb x b) ([] ∷ split b s) (onto x (split b s))

-- texts with a byte b between each two
unfoldable pub join : ℕ → List (List ℕ) → List ℕ
join b [] = []
join b (l ∷ []) = l
join b (l ∷ m ∷ ls) = l ++ (b ∷ join b (m ∷ ls))
