-- Document 01, "Assembly and book": the walk of a book, without its limits.
use Rattle.std.specs.Prelude.{ℕ, List, [], ◌∷◌}
use Rattle.index.specs.Index.{File}
use Rattle.walk.specs.Steps.{Steps, done, go}
use Rattle.chains.specs.Chains.{Chain, starts}
use Rattle.chains.specs.Fill.{walk}
use Rattle.assembled.specs.Assemble.{assemble}
use Rattle.book.specs.Book.{members_of, with_texts}

-- "The book fills each member, B running on through the list, keeps its text on "no region""
unfoldable pub walk_all : List Chain → Steps (List (List ℕ))
walk_all [] = done []
walk_all (c ∷ cs) = go (walk c) (λ t. go (walk_all cs) (λ ts. done (t ∷ ts)))

-- "then assembles"
unfoldable pub book : List File → List ℕ → List ℕ → Steps (List ℕ)
book S M url = go (walk_all (starts S M)) (λ ts. assemble url (with_texts (members_of S M) ts))
