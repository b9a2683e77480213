-- What a line becomes under a shift, by places. Nothing here is document 01's: inner functions promise it.
use Rattle.std.specs.Prelude.{ℕ, ◌+◌, ◌≤◌, List, [], ℤ, pos, ◌+ℤ◌, Option, Some, None}
use Rattle.heading.specs.Level.{moved_to, heading_line}
use Rattle.heading.specs.declared.walk.LineKind.{LineKind}
use Rattle.heading.specs.declared.walk.LineKind.TheVariants.{Quoted, Heading, Other}
use Rattle.put.specs.declared.line.NewText.{NewText}

-- what a line of the kind k that stands from a up to e becomes under a shift: the level of a heading, and where its text stands
abbrev pub new_text_at : Option ℕ → ℕ → ℕ → ℕ → ℕ → NewText
new_text_at (Some n) a e p q = record { level = Some n; start = a + p; end = a + q }
new_text_at None a e p q = record { level = None; start = a; end = e }

abbrev pub new_text_of : ℤ → ℕ → ℕ → LineKind → NewText
new_text_of z a e Quoted = record { level = None; start = a; end = e }
new_text_of z a e (Heading n p q) = new_text_at (moved_to (pos n +ℤ z)) a e p q
new_text_of z a e Other = record { level = None; start = a; end = e }

-- a heading's level and text, in a line of n bytes
abbrev pub KindIn : ℕ → LineKind → Type 0
KindIn n Quoted = Unit {0}
KindIn n (Heading l a e) = (l ≤ 6) × ((a ≤ e) × (e ≤ n))
KindIn n Other = Unit {0}

-- what stands before the text of a line: a heading's hashes and space; and that a level is one of a heading
abbrev pub level_text : Option ℕ → List ℕ
level_text (Some n) = heading_line n []
level_text None = []

abbrev pub LevelIn : Option ℕ → Type 0
LevelIn (Some n) = n ≤ 6
LevelIn None = Unit {0}
