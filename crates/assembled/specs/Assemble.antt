-- Document 01, "Assembly and book": the walk of an assembly, without its limit.
use Rattle.std.specs.Prelude.{ℕ, List, [], ◌∷◌, ◌++◌}
use Rattle.answer.specs.Answer.{place}
use Rattle.text.specs.Lines.{LF}
use Rattle.text.specs.Split.{join}
use Rattle.walk.specs.Parts.{Part}
use Rattle.walk.specs.Steps.{Steps, done, sized, go, part}
use Rattle.index.specs.Index.{File}
use Rattle.member.specs.Member.{Prepared, prepare}
use Rattle.shared.specs.Shared.{compare}
use Rattle.target.specs.Titles.{title_named}
use Rattle.emitted.specs.Emit.{emit, join_lines}

-- "All members are prepared (18)"
unfoldable pub prepare_all : List File → Steps (List Prepared)
prepare_all [] = done []
prepare_all (h ∷ hs) = go (part (prepare h)) (λ m. go (prepare_all hs) (λ ms. done (m ∷ ms)))

-- "the text so far is the running text here, tested against L after each member and after the last LF"; 17 "stands at the member (for the last LF the last member), line 0"
unfoldable pub emit_all : (Prepared → Part (List (List ℕ))) → ℕ → List Prepared → List (List ℕ) → Steps (List ℕ)
emit_all f k [] ls = sized (join LF ls ++ (LF ∷ [])) (place k 0) (done (join LF ls ++ (LF ∷ [])))
emit_all f k (m ∷ ms) ls = go (part (f m)) (λ es. sized (join LF (join_lines ls es)) (place m.file 0) (emit_all f m.file ms (join_lines ls es)))

abbrev pub assemble_prepared : List ℕ → List Prepared → Steps (List ℕ)
assemble_prepared url ms = emit_all (emit (title_named ms) url) 0 ms []

unfoldable pub assemble : List ℕ → List File → Steps (List ℕ)
assemble url hs = go (prepare_all hs) (λ ms. go (part (compare ms)) (λ us. assemble_prepared url us))
