-- Parts joined to the text that the parts behind them make: how long it gets, and how it is written. Nothing here is document 01's: inner functions promise it, and the laws of `proofs/` tie it to `resolve`.
use Rattle.std.specs.Prelude.{ℕ, zero, suc, ◌+◌, cond, List, [], ◌∷◌, ◌++◌, ◌≡◌, length, eqb}
use Rattle.std.proofs.lemmas.List.Edits.{sets}
use Rattle.path.specs.Path.{SLASH}

-- how long a part of k bytes is before a text of n bytes
abbrev pub lengthened : ℕ → ℕ → ℕ
lengthened zero k = k
lengthened (suc n) k = suc n + suc k

-- a part with a `/` behind it unless its place is the end of all
abbrev pub closed : ℕ → ℕ → List ℕ → List ℕ
closed at end p = cond (eqb at end) p (p ++ (SLASH ∷ []))

-- a text once a part is written so that it ends at a place, and where it starts
abbrev pub Closed : List ℕ → ℕ → ℕ → List ℕ → ℕ → List ℕ → Type 0
Closed p at end out r out' = (r + length (closed at end p) ≡ at) × (out' ≡ sets out r (closed at end p))
