-- What is printed of an answer: a row of its numbers, and its text.
use Rattle.std.specs.Prelude.{ℕ, cond, ◌&&◌, List, [], ◌∷◌, ◌++◌, length, take, get_or, eqb, leb, decimal}

-- each in decimal, a tab between
unfoldable pub row_text : List ℕ → List ℕ
row_text [] = []
row_text (n ∷ []) = decimal n
row_text (n ∷ m ∷ s) = decimal n ++ (0x09 ∷ row_text (m ∷ s))

-- the text of an acceptance, if it lies in the output, with LF behind
abbrev pub text_of : List ℕ → List ℕ → List ℕ
text_of ns out = cond (eqb (get_or ns 0 0) 0 && leb (get_or ns 1 0) (length out)) (take (get_or ns 1 0) out ++ (0x0a ∷ [])) []

unfoldable pub answer_text : List ℕ → List ℕ → List ℕ
answer_text ns out = row_text ns ++ (0x0a ∷ text_of ns out)
