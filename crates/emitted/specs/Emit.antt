-- Document 01, "Assembly and book": a member emitted, and members joined.
use Rattle.std.specs.Prelude.{ℕ, List, [], ◌∷◌, ◌++◌, map, Option}
use Rattle.answer.specs.Answer.{place}
use Rattle.answer.specs.declared.Refusal.TheVariants.{HeadingLevel}
use Rattle.text.specs.Pattern.{bytes}
use Rattle.path.specs.Path.{parent_dir}
use Rattle.link.specs.Target.{rewrite_target}
use Rattle.walk.specs.Parts.{Part, unless}
use Rattle.shift.specs.Shift.{kinds_of, shift_for, moved_line, past_from}
use Rattle.member.specs.Member.{Prepared, movable}
use Rattle.emitted.specs.Line.{rewrite_line}

-- "shifted to 2, title excepted (16), links outside fences rewritten as `rewrite_links`"; "Here 16, 18 and 19 stand at the member; lines count its prepared lines."
unfoldable pub emit : (List ℕ → Option (List ℕ)) → List ℕ → Prepared → Part (List (List ℕ))
emit titles url m =
    unless (past_from (λ n. HeadingLevel (place m.file n)) 1 (shift_for 2 (kinds_of (movable m.lines))) (kinds_of (movable m.lines)))
    (map (λ t. rewrite_line (rewrite_target titles url (parent_dir m.name)) t.kind (moved_line (shift_for 2 (kinds_of (movable m.lines))) t)) (movable m.lines))

-- "joined by empty line, `---`, empty line": the lines so far, and those of a member
abbrev pub join_lines : List (List ℕ) → List (List ℕ) → List (List ℕ)
join_lines [] es = es
join_lines (l ∷ ls) es = (l ∷ ls) ++ ([] ∷ bytes "---" ∷ [] ∷ es)
