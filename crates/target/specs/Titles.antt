-- The titles of members by their names, and what a link to one of them becomes.
use Rattle.std.specs.Prelude.{ℕ, ◌+◌, ◌≤◌, ◌≡◌, cond, List, [], ◌∷◌, eqb, length, All, Contains, Option, Some, None}
use Rattle.text.specs.Pattern.{equals}
use Rattle.anchor.specs.Anchor.{slug}
use Rattle.put.specs.Put.{source_text}
use Rattle.put.specs.declared.running.RunningText.{RunningText}
use Rattle.member.specs.Member.{Prepared}
use Rattle.members.specs.Members.{title_source, all_prepared, AllStand}
use Rattle.members.specs.declared.Assembly.{Assembly}
use Rattle.members.specs.declared.Member.{Member}

-- Document 01, "Assembly and book": "For a name listed twice the later title serves links."
unfoldable pub title_named : List Prepared → List ℕ → Option (List ℕ)
title_named [] name = None
title_named (m ∷ ms) name = elim (title_named ms name) [ None ↦ cond (equals m.name name) (Some m.title) None | Some t ↦ Some t ]

-- Nothing from here on is document 01's: functions promise it. The titles of members by their names
abbrev pub titles_in : List ℕ → List ℕ → List ℕ → List Member → List ℕ → Option (List ℕ)
titles_in index contents work ms = title_named (all_prepared index contents work ms)

-- the same of an assembly; and its members stand beside a running text. Functions ask for that, and no type holds it: it relates the members to the running text, which changes at each put.
abbrev pub titles_of : RunningText → Assembly → List ℕ → Option (List ℕ)
titles_of r a = titles_in a.index.now r.contents.now r.work.now a.members.now

abbrev pub Stand : RunningText → Assembly → Type 0
Stand r a = AllStand a.index.now (length r.contents.now) r.limit (length r.work.now) a.members.now

-- the names of members lie in the index
abbrev pub AreNamed : List ℕ → List Member → Type 0
AreNamed index ms = All (λ m. (m.name.start ≤ m.name.end) × (m.name.end ≤ length index)) ms

-- the last of members that has a name, whatever the buffers hold
abbrev pub FoundMember : List ℕ → List Member → List ℕ → Option Member → Type 0
FoundMember index ms name (Some m) =
    Contains ms m × ((contents work : List ℕ) → titles_in index contents work ms name ≡ Some (source_text (title_source m) contents work))
FoundMember index ms name None = (contents work : List ℕ) → titles_in index contents work ms name ≡ None

-- a member's title lies in its text
abbrev pub TitleIn : Member → Type 0
TitleIn m = (m.outline.title.start ≤ m.outline.title.end) × (m.source.start + m.outline.title.end ≤ m.source.end)

-- what a link to a member becomes: its fragment, or where there is none the anchor of the member's title
abbrev pub inside : List ℕ → List ℕ → List ℕ
inside fragment title = cond (eqb (length fragment) 0) (0x23 ∷ slug title) fragment
