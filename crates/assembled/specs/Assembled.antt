-- The text that an assembly makes, its faults and its running texts, without the walk.
use Rattle.std.specs.Prelude.{List, [], ◌∷◌, ◌++◌, ℕ, Option, Some, None}
use Rattle.answer.specs.declared.Refusal.{Refusal}
use Rattle.text.specs.Lines.{LF}
use Rattle.text.specs.Split.{join}
use Rattle.index.specs.Index.{File}
use Rattle.walk.specs.Parts.{Part, part_made, part_faults, and_then, if_made}
use Rattle.member.specs.Member.{Prepared, prepare}
use Rattle.shared.specs.Shared.{shared_from, compare}
use Rattle.target.specs.Titles.{title_named}
use Rattle.emitted.specs.Emit.{emit, join_lines}

-- the text: every member prepared, all compared, every one emitted, and joined
unfoldable pub prepared_all : List File → Option (List Prepared)
prepared_all [] = Some []
prepared_all (h ∷ hs) = and_then (part_made (prepare h)) (λ m. and_then (prepared_all hs) (λ ms. Some (m ∷ ms)))

unfoldable pub joined_all : (Prepared → Part (List (List ℕ))) → List Prepared → List (List ℕ) → Option (List ℕ)
joined_all f [] ls = Some (join LF ls ++ (LF ∷ []))
joined_all f (m ∷ ms) ls = and_then (part_made (f m)) (λ es. joined_all f ms (join_lines ls es))

unfoldable pub assembled_text : List ℕ → List File → Option (List ℕ)
assembled_text url hs = and_then (prepared_all hs) (λ ms. and_then (part_made (compare ms)) (λ us. joined_all (emit (title_named us) url) us []))

-- the faults of the assembly: 18 at each member that is made; 19 among those, and 16 at each of those, that are prepared as well
unfoldable pub each_faults : {A B : Type 0} → (A → Part B) → List (Option A) → List Refusal
each_faults f [] = []
each_faults f (o ∷ os) = if_made o (λ a. part_faults (f a)) ++ each_faults f os

unfoldable pub each_made : {A B : Type 0} → (A → Part B) → List (Option A) → List (Option B)
each_made f [] = []
each_made f (o ∷ os) = and_then o (λ a. part_made (f a)) ∷ each_made f os

unfoldable pub present : {A : Type 0} → List (Option A) → List A
present [] = []
present (None ∷ os) = present os
present (Some a ∷ os) = a ∷ present os

abbrev pub prepared_faults : List ℕ → List (Option Prepared) → List Refusal
prepared_faults url ps = shared_from [] (present ps) ++ each_faults (emit (title_named (present ps)) url) ps

abbrev pub assembly_faults : List ℕ → List (Option File) → List Refusal
assembly_faults url os = each_faults prepare os ++ prepared_faults url (each_made prepare os)

-- the running texts of the assembly: the text so far after each member and after the last LF; none behind one that is not made
unfoldable pub joins : (Prepared → Part (List (List ℕ))) → List Prepared → List (List ℕ) → List (List ℕ)
joins f [] ls = (join LF ls ++ (LF ∷ [])) ∷ []
joins f (m ∷ ms) ls = if_made (part_made (f m)) (λ es. join LF (join_lines ls es) ∷ joins f ms (join_lines ls es))

abbrev pub assembly_running : List ℕ → List File → List (List ℕ)
assembly_running url hs = if_made (prepared_all hs) (λ ms. if_made (part_made (compare ms)) (λ us. joins (emit (title_named us) url) us []))
