-- The lines that a member keeps, one after the other. Nothing here is document 01's: functions promise it.
use Rattle.std.specs.Prelude.{ℕ, suc, ◌+◌, ◌≤◌, ◌≡◌, false, cond, List, [], ◌∷◌, ◌++◌, leb, length, take, drop, Option, Some, None}
use Rattle.member.specs.declared.lines.KeptHeading.{KeptHeading}
use Rattle.member.specs.declared.lines.KeptLine.{KeptLine}
use Rattle.text.specs.Bytes.{part}
use Rattle.text.specs.Lines.{pieces}
use Rattle.heading.specs.Walk.{step_kind, step_after, walk_begin}
use Rattle.heading.specs.declared.walk.LineKind.{LineKind}
use Rattle.heading.specs.declared.walk.LineKind.TheVariants.{Quoted, Heading, Other}
use Rattle.shift.specs.Shift.{Told, told_from}
use Rattle.member.specs.Member.{without_contents}
use Rattle.member.specs.declared.lines.LineCursor.{LineCursor}

-- the lines of a text without hand-written contents, with what each is
abbrev pub kept_lines : List ℕ → List Told
kept_lines s = told_from walk_begin (without_contents false (pieces s))

-- a text's lines from a line's start on; none behind the last
abbrev pub lines_on : ℕ → List ℕ → List (List ℕ)
lines_on a s = cond (leb a (length s)) (pieces (drop a s)) []

-- the lines kept that a cursor has left
abbrev pub left_of : LineCursor → List ℕ → List Told
left_of c s = told_from c.state (without_contents false (lines_on c.at s))

-- a cursor before the first line
abbrev pub at_first : LineCursor
at_first = record { at = 0; line = 0; state = walk_begin }

-- a cursor stands at most behind the last line, and a line has a byte or an LF
abbrev pub CursorIn : LineCursor → List ℕ → Type 0
CursorIn c s = (c.line ≤ c.at) × (c.at ≤ suc (length s))

-- the next line kept, of the kind k, stands from a up to e, and d is the cursor behind it; so it is in the text up to any place behind it
pub record IsLine (s : List ℕ) (c : LineCursor) (a e : ℕ) (k : LineKind) (d : LineCursor) : Type 0 where
  pub order : c.at ≤ a
  pub forward : a ≤ e
  pub within : e ≤ length s
  pub kind : k ≡ step_kind c.state.fence c.state.comment (part a e s)
  pub after : d ≡ record { at = e + 1; line = c.line + 1; state = step_after c.state.fence c.state.comment (part a e s) }
  pub left : left_of c s ≡ record { kind = k; bytes = part a e s } ∷ left_of d s
  pub up_to : (n : ℕ) → e ≤ n → n ≤ length s → left_of c (take n s) ≡ record { kind = k; bytes = part a e s } ∷ left_of d (take n s)

abbrev pub FoundLine : List ℕ → LineCursor → Option KeptLine → Type 0
FoundLine s c (Some p) = IsLine s c p.start p.end p.kind p.behind
FoundLine s c None = left_of c s ≡ []

-- none of the lines is a heading
abbrev pub IsPlain : LineKind → Type 0
IsPlain Quoted = Unit {0}
IsPlain (Heading n a e) = ⊥
IsPlain Other = Unit {0}

unfoldable pub Plain : List Told → Type 0
Plain [] = Unit {0}
Plain (t ∷ ts) = IsPlain t.kind × Plain ts

-- the next heading, of level n, has its text from p up to q, and d is the cursor behind it
pub record IsHeading (s : List ℕ) (c : LineCursor) (n p q : ℕ) (d : LineCursor) : Type 0 where
  pub passed : List Told
  pub line : List ℕ
  pub start : ℕ
  pub end : ℕ
  pub plain : Plain passed
  pub left : left_of c s ≡ passed ++ (record { kind = Heading n start end; bytes = line } ∷ left_of d s)
  pub text : part start end line ≡ part p q s
  pub count : d.line ≡ c.line + length passed + 1
  pub level : (1 ≤ n) × (n ≤ 6)
  pub forward : p ≤ q
  pub within : q ≤ length s
  pub next : CursorIn d s
  pub later : suc c.at ≤ d.at

abbrev pub FoundHeading : List ℕ → LineCursor → Option KeptHeading → Type 0
FoundHeading s c (Some l) = IsHeading s c l.level l.start l.end l.behind
FoundHeading s c None = Plain (left_of c s)
