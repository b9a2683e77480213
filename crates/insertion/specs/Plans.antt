-- What comes of a text before any of its lines is put. Nothing here is document 01's: an inner function promises it.
use Rattle.std.specs.Prelude.{ℕ, ◌≤◌, ◌≡◌, List, [], map, length, Option, Some, None, Result, Ok, Err}
use Rattle.std.specs.Int.Signed.{mag}
use Rattle.insertion.specs.declared.plan.Plan.{Plan}
use Rattle.answer.specs.Answer.{place}
use Rattle.answer.specs.declared.Refusal.{Refusal}
use Rattle.answer.specs.declared.Refusal.TheVariants.{HeadingLevel}
use Rattle.text.specs.Bytes.{part}
use Rattle.text.specs.Lines.{pieces}
use Rattle.heading.specs.Walk.{walk_begin}
use Rattle.path.specs.Path.{parent_dir}
use Rattle.walk.specs.Parts.{Part, good, flawed}
use Rattle.shift.specs.Shift.{told_from, told_lines}
use Rattle.embedding.specs.Embed.{embed_told}
use Rattle.putting.specs.Lines.{linked_line}

-- a text embedded in a host, its blank ends dropped
abbrev pub embed_text : List ℕ → List ℕ → ℕ → ℕ → List ℕ → Part (List (List ℕ))
embed_text host name target d s = embed_told host name target d (told_lines (pieces s))

-- no line; 16 at a line; or lines from a place up to another, under a shift
abbrev pub PlanOf : List ℕ → ℕ → Result (Option Plan) ℕ → Type 0
PlanOf s target (Ok None) = (host name : List ℕ) (d : ℕ) → embed_text host name target d s ≡ good []
PlanOf s target (Err n) = (host name : List ℕ) (d : ℕ) → (xs : List Refusal) × (embed_text host name target d s ≡ flawed (HeadingLevel (place d n)) xs)
PlanOf s target (Ok (Some p)) =
    ((p.start ≤ p.end) × ((p.end ≤ length s) × (mag p.shift ≤ 7)))
    × ((host name : List ℕ) (d : ℕ) → embed_text host name target d s ≡ good (map (linked_line host (parent_dir name) p.shift) (told_from walk_begin (pieces (part p.start p.end s)))))
