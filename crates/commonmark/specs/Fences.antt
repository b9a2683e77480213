-- Where our fences and CommonMark's part: the named departures of docs/DIFFERENCES.md, each a test of the open fence and the line, and the theorems that there are no others and that each is one.
use Rattle.std.specs.Prelude.{ℕ, ◌≤◌, Bool, true, false, not, ◌&&◌, ◌||◌, List, [], ◌∷◌, ◌++◌, ◌≡◌, eqb, leb, ltb, None, Option, Some, is_some}
use Rattle.text.specs.Bytes.{is, any}
use Rattle.text.specs.Pattern.{bytes, starts_with}
use Rattle.text.specs.Space.{lead, trim_start}
use Rattle.fence.specs.declared.Fence.{Fence}
use Rattle.fence.specs.declared.Fence.TheVariants.{Ticks, Tildes}
use Rattle.scan.specs.Scan.{after, kind_at}
use Rattle.scan.specs.declared.state.State.{State}
use Rattle.heading.specs.Walk.{step_after}
use Rattle.commonmark.specs.Strip.{ended, is_shown, indent}
use Rattle.commonmark.specs.Fenced.{Mark, backtick, tilde, CodeFence, byte_of, run, info, code_after}

-- a line whose trimmed start has three of a byte: what we look for
abbrev pub three_of : Mark → List ℕ → Bool
three_of m l = starts_with (byte_of m ∷ byte_of m ∷ byte_of m ∷ []) (trim_start l)

-- a fence that we see: outside either kind, in a fence its own
abbrev pub is_seen : Option CodeFence → List ℕ → Bool
is_seen None l = three_of backtick l || three_of tilde l
is_seen (Some f) l = three_of f.mark l

-- indented by four spaces or more: we open or close, CommonMark does not
abbrev pub indented_by_four : Option CodeFence → List ℕ → Bool
indented_by_four o l = is_seen o l && leb 4 (indent l)

-- a tab or another space byte before it: the same
abbrev pub other_space_before : Option CodeFence → List ℕ → Bool
other_space_before o l = is_seen o l && not (eqb (lead l) (indent l))

-- a backtick in the info string: we open, CommonMark does not
abbrev pub backtick_in_info : Option CodeFence → List ℕ → Bool
backtick_in_info None l = three_of backtick l && any (is 0x60) (info backtick (trim_start l))
backtick_in_info (Some f) l = false

-- a closer with fewer bytes than the opener: we close, CommonMark does not
abbrev pub shorter_closer : Option CodeFence → List ℕ → Bool
shorter_closer None l = false
shorter_closer (Some f) l = three_of f.mark l && ltb (run f.mark (trim_start l)) f.length

-- text after a closer: the same
abbrev pub text_after_closer : Option CodeFence → List ℕ → Bool
text_after_closer None l = false
text_after_closer (Some f) l = three_of f.mark l && any is_shown (info f.mark (trim_start l))

-- the scan alone: a fence of the other kind closes
abbrev pub other_of : Mark → Mark
other_of backtick = tilde
other_of tilde = backtick

abbrev pub other_kind_closes : Option CodeFence → List ℕ → Bool
other_kind_closes None l = false
other_kind_closes (Some f) l = three_of (other_of f.mark) l

-- the list for the heading walk, and that for the scan
unfoldable pub departs : Option CodeFence → List ℕ → Bool
departs o l =
    indented_by_four o l
    || other_space_before o l
    || backtick_in_info o l
    || shorter_closer o l
    || text_after_closer o l

unfoldable pub scan_departs : Option CodeFence → List ℕ → Bool
scan_departs o l = other_kind_closes o l || departs o l

-- CommonMark's open fence as ours: the heading walk knows its kind, the scan only that there is one
abbrev pub kind_of_mark : Mark → Fence
kind_of_mark backtick = Ticks
kind_of_mark tilde = Tildes

abbrev pub as_fence : Option CodeFence → Option Fence
as_fence None = None
as_fence (Some f) = Some (kind_of_mark f.mark)

-- an opener has three bytes or more
abbrev pub IsFence : Option CodeFence → Type 0
IsFence None = Unit {0}
IsFence (Some f) = 3 ≤ f.length

-- for every line of ours: where none of them holds of CommonMark's line, the fence that is open behind it is CommonMark's
abbrev pub SameFence : Type 0
SameFence =
    (o : Option CodeFence) (comment : Bool) (l : List ℕ) → IsFence o → departs o (ended l) ≡ false → (step_after (as_fence o) comment l).fence ≡ as_fence (code_after o (ended l))

abbrev pub SameFlag : Type 0
SameFlag =
    (o : Option CodeFence) (st : State) (n at : ℕ) (l : List ℕ) → IsFence o → st.fence ≡ is_some o → scan_departs o (ended l) ≡ false
    → (after st n at (kind_at st at l)).fence ≡ is_some (code_after o (ended l))

-- and where one of them holds, it is not
abbrev pub OtherFence : Type 0
OtherFence =
    (o : Option CodeFence) (comment : Bool) (l : List ℕ) → IsFence o → departs o (ended l) ≡ true → (step_after (as_fence o) comment l).fence ≡ as_fence (code_after o (ended l)) → ⊥

abbrev pub OtherFlag : Type 0
OtherFlag =
    (o : Option CodeFence) (st : State) (n at : ℕ) (l : List ℕ) → IsFence o → st.fence ≡ is_some o → scan_departs o (ended l) ≡ true
    → (after st n at (kind_at st at l)).fence ≡ is_some (code_after o (ended l)) → ⊥

-- what is open behind a line stays one
abbrev pub StaysFence : Type 0
StaysFence = (o : Option CodeFence) (l : List ℕ) → IsFence o → IsFence (code_after o l)

-- a line on which a departure holds, and what is open behind it for us and for CommonMark
abbrev pub Parts : (Option CodeFence → List ℕ → Bool) → Option CodeFence → List ℕ → Option Fence → Option Fence → Type 0
Parts test o l ours theirs = (test o (ended l) ≡ true) × (((step_after (as_fence o) false l).fence ≡ ours) × (as_fence (code_after o (ended l)) ≡ theirs))

abbrev ticks : ℕ → Option CodeFence
ticks n = Some (record { mark = backtick; length = n })

-- each of them parts the two, as an opener or as a closer
abbrev pub EachParts : Type 0
EachParts =
    Parts indented_by_four None (bytes "    ```") (Some Ticks) None
    × (Parts indented_by_four (ticks 3) (bytes "    ```") None (Some Ticks)
    × (Parts other_space_before None (0x09 ∷ bytes "~~~") (Some Tildes) None
    × (Parts other_space_before (ticks 3) (0x0B ∷ bytes "```") None (Some Ticks)
    × (Parts backtick_in_info None (bytes "```a`") (Some Ticks) None
    × (Parts shorter_closer (ticks 4) (bytes "```") None (Some Ticks)
    × (Parts text_after_closer (ticks 3) (bytes "```a") None (Some Ticks)
    × Parts text_after_closer (ticks 3) (bytes "```" ++ (0x0B ∷ [])) None (Some Ticks)))))))

-- and in the scan a closer of the other kind
abbrev pub OtherKindParts : Type 0
OtherKindParts =
    (other_kind_closes (ticks 3) (bytes "~~~") ≡ true)
    × (((after (record { fence = true; region = None }) 2 4 (kind_at (record { fence = true; region = None }) 4 (bytes "~~~"))).fence ≡ false)
    × (is_some (code_after (ticks 3) (bytes "~~~")) ≡ true))

-- lines on which none of them holds: openers, closers and others, outside and in a fence
abbrev pub NoneHolds : Type 0
NoneHolds =
    (scan_departs None (bytes "```rust") ≡ false)
    × ((scan_departs None (bytes "   ~~~~") ≡ false)
    × ((scan_departs None (bytes "a ``` b `") ≡ false)
    × ((scan_departs None (bytes "    a") ≡ false)
    × ((scan_departs (ticks 3) (bytes "```") ≡ false)
    × ((scan_departs (ticks 3) (bytes "  `````  ") ≡ false)
    × ((scan_departs (ticks 3) (bytes "    a ```") ≡ false)
    × ((scan_departs None (0x09 ∷ bytes "a") ≡ false)
    × ((scan_departs (ticks 3) (bytes "```" ++ (0x09 ∷ [])) ≡ false)
    × ((scan_departs (ticks 3) (ended (bytes "```" ++ (0x0D ∷ []))) ≡ false)
    × (departs (ticks 3) (bytes "~~~ a") ≡ false))))))))))
