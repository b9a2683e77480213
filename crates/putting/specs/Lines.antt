-- The lines of a text as they become in a host. Nothing here is document 01's: inner functions promise it, and the laws of `proofs/` tie it to the embedding.
use Rattle.std.specs.Prelude.{ℕ, ◌+◌, ◌≤◌, ◌≡◌, List, ◌∷◌, map, length, ℤ, [], Option, Some, None}
use Rattle.text.specs.Bytes.{part}
use Rattle.text.specs.Lines.{LF, pieces, pieces_from, led}
use Rattle.heading.specs.Walk.{step_kind, step_after, walk_begin}
use Rattle.heading.specs.declared.walk.WalkState.{WalkState}
use Rattle.shift.specs.Shift.{Told, told_from, moved_line}
use Rattle.put.specs.NewText.{new_text_of, level_text}
use Rattle.self_links.specs.Cuts.{linked_text}
use Rattle.putting.specs.declared.line.LineStep.{LineStep}

-- what a line becomes under a shift, its file being in a directory; and the lines of a text, an LF before each
abbrev pub linked_line : List ℕ → List ℕ → ℤ → Told → List ℕ
linked_line host dir z t = linked_text host dir (moved_line z t)

abbrev pub linked_from : List ℕ → List ℕ → ℤ → WalkState → List (List ℕ) → List ℕ
linked_from host dir z st ls = led (map (linked_line host dir z) (told_from st ls))

abbrev pub linked_lines : List ℕ → List ℕ → ℤ → List ℕ → List ℕ
linked_lines host dir z s = linked_from host dir z walk_begin (pieces s)

-- what stands before the text of a line: an LF, and a heading's hashes and space
abbrev pub start_of : Option ℕ → List ℕ
start_of level = LF ∷ level_text level

-- the line of a text that starts at a place, and the walk's step over it; or none is left
pub record IsLine (s : List ℕ) (a : ℕ) (st : WalkState) (z : ℤ) (r : LineStep) : Type 0 where
  pub order : a ≤ r.end
  pub within : r.end ≤ length s
  pub lines : pieces_from s a ≡ part a r.end s ∷ pieces_from s (r.end + 1)
  pub text : r.text ≡ new_text_of z a r.end (step_kind st.fence st.comment (part a r.end s))
  pub after : r.state ≡ step_after st.fence st.comment (part a r.end s)

abbrev pub FoundLine : List ℕ → ℕ → WalkState → ℤ → Option LineStep → Type 0
FoundLine s a st z (Some r) = IsLine s a st z r
FoundLine s a st z None = pieces_from s a ≡ []
