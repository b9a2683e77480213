-- Lines that their first byte tells to be no headings and to leave the walk's state, passed over one after the other. Nothing here is document 01's: functions promise it.
use Rattle.std.specs.Prelude.{ℕ, zero, suc, ◌+◌, ◌≤◌, ◌≡◌, Bool, true, false, cond, List, length, drop, Option, Some, None}
use Rattle.text.specs.Bytes.{part, is, first}
use Rattle.text.specs.First.{begins}
use Rattle.text.specs.Lines.{LF}
use Rattle.text.specs.Space.{is_blank}
use Rattle.heading.specs.Walk.{still_kind}
use Rattle.link.specs.Links.{relink}
use Rattle.member.specs.Lines.{IsLine}
use Rattle.member.specs.declared.lines.LineCursor.{LineCursor}
use Rattle.member.specs.declared.lines.Passed.{Passed}

-- no link stands in a line
abbrev pub Unlinked : List ℕ → Type 0
Unlinked l = (f : List ℕ → List ℕ) → relink f l ≡ l

-- the line that starts at a ends at e
pub record IsStill (s : List ℕ) (a : ℕ) (unlinked : Bool) (e : ℕ) : Type 0 where
  pub within : e ≤ length s
  pub ends : e ≡ a + first (is LF) (drop a s)
  pub still : begins (part a e s) ≡ false
  pub plain : unlinked ≡ true → Unlinked (part a e s)

abbrev pub FoundStill : List ℕ → ℕ → Bool → Option ℕ → Type 0
FoundStill s a unlinked (Some e) = IsStill s a unlinked e
FoundStill s a unlinked None = Unit {0}

-- such a line stands between two cursors; lines that are not blank end at m before it, and at n with it
pub record PassedLine (s : List ℕ) (unlinked : Bool) (c : LineCursor) (m : ℕ) (d : LineCursor) (n : ℕ) : Type 0 where
  pub stop : ℕ
  pub here : IsStill s c.at unlinked stop
  pub line : IsLine s c c.at stop (still_kind c.state.fence) d
  pub same : d.state ≡ c.state
  pub end : n ≡ cond (is_blank (part c.at stop s)) m stop

-- so do i lines
unfoldable pub PassedLines : ℕ → List ℕ → Bool → LineCursor → ℕ → LineCursor → ℕ → Type 0
PassedLines zero s unlinked c m d n = (d ≡ c) × (n ≡ m)
PassedLines (suc i) s unlinked c m d n = (x : LineCursor) × (k : ℕ) × PassedLines i s unlinked c m x k × PassedLine s unlinked x k d n

pub record PassedTo (s : List ℕ) (unlinked : Bool) (c : LineCursor) (m : ℕ) (d : LineCursor) (n : ℕ) : Type 0 where
  pub count : ℕ
  pub lines : PassedLines count s unlinked c m d n

abbrev pub PassedOver : List ℕ → LineCursor → ℕ → Bool → Passed → Type 0
PassedOver s c m unlinked r = PassedTo s unlinked c m r.behind r.end
