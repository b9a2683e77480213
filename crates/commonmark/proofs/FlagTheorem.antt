-- Where no named departure holds, and only there, the scan is in a fence behind a line just where CommonMark is. Assumes nothing.
use Rattle.std.specs.Prelude.{Option, Some, None, is_some}
use Prim.Native.Nat.{ℕ, ◌≤◌}
use mathlib.Core.Path.{◌≡◌, refl, sym, ◌∙◌, ap}
use mathlib.Core.Bool.{Bool, true, false, cond, not, ◌&&◌, ◌||◌, false≢true}
use mathlib.Core.List.{List, [], ◌∷◌, ◌++◌}
use borrow.Author.Tests.{leb-true}
use lib.Dec.{leb}
use Rattle.marker.specs.declared.line.Fragment.{Fragment}
use Rattle.text.specs.Pattern.{starts_with, equals, contains, find}
use Rattle.text.specs.Space.{is_space, lead, trim_start, trim}
use Rattle.text.specs.Bytes.{any, first}
use Rattle.text.proofs.BytesLaws.{or_left, or_right}
use Rattle.text.proofs.PatternLaws.{and_left, and_right}
use Rattle.fence.specs.Fences.{is_fence, opener}
use Rattle.marker.specs.Marker.{OPEN, CLOSE, OPEN-FRAGMENT, fragment_of, fragment_kind, marked_kind, kind_of}
use Rattle.marker.specs.declared.problem.Problem.TheVariants.{FragmentMarker}
use Rattle.marker.specs.declared.line.Kind.{Kind}
use Rattle.marker.specs.declared.line.Kind.TheVariants.{Plain, Fence, Fault, Closes, Opens, Spans}
use Rattle.heading.specs.Walk.{closes, step_after, outside_after, comment_after}
use Rattle.scan.specs.Scan.{after, kind_at}
use Rattle.scan.specs.declared.state.State.{State}
use Rattle.commonmark.specs.Strip.{ended, indent}
use Rattle.commonmark.specs.Fenced.{Mark, backtick, tilde, CodeFence, unindented, run, opens_with, code_opener, closes_code, code_after}
use Rattle.commonmark.specs.Fences.{three_of, is_seen, other_of, other_kind_closes, departs, scan_departs, as_fence, IsFence, SameFlag, OtherFlag, StaysFence, EachParts, OtherKindParts, NoneHolds}
use Rattle.commonmark.proofs.BoolLaws.{◌or◌}
use Rattle.commonmark.proofs.LineLaws.{by_ended, three_cr}
use Rattle.commonmark.proofs.FenceLaws.{not_both}
use Rattle.commonmark.proofs.FenceTheorem.{opened, closed, not_closing, IsMissed, apart, one-kind, seen_opens}

-- a kind that is no fence
abbrev IsOther : Kind → Type 0
IsOther Plain = Unit {0}
IsOther Fence = ⊥
IsOther (Fault k) = Unit {0}
IsOther Closes = Unit {0}
IsOther (Opens p) = Unit {0}
IsOther (Spans i) = Unit {0}

kept : (st : State) (n at : ℕ) (k : Kind) → IsOther k → (after st n at k).fence ≡ st.fence
unfolding after
kept st n at Plain h = refl
kept st n at Fence h = absurd h
kept st n at (Fault k) h = refl
kept st n at Closes h = refl
kept st n at (Opens p) h = refl
kept st n at (Spans i) h = refl

other_fragment : (b : Bool) (i : ℕ) (l : List ℕ) (f : Option Fragment) → IsOther (fragment_kind b i l f)
unfolding fragment_kind
other_fragment true i l (Some p) = tt
other_fragment false i l (Some p) = tt
other_fragment b i l None = go (contains OPEN-FRAGMENT l)
  where
    go : (x : Bool) → IsOther (cond x (Fault FragmentMarker) (Spans i))
    go true = tt
    go false = tt

other_marked : (fence inside : Bool) (o : ℕ) (l : List ℕ) (f : Option ℕ) → IsOther (marked_kind fence inside o l f)
unfolding marked_kind
other_marked fence inside o l None = tt
other_marked true inside o l (Some i) = tt
other_marked false inside o l (Some i) = go (inside && equals CLOSE (trim l))
  where
    go : (x : Bool) → IsOther (cond x Closes (fragment_kind inside i l (fragment_of o l)))
    go true = tt
    go false = other_fragment inside i l (fragment_of o l)

-- the flag behind a line
flag : (st : State) (n at : ℕ) (l : List ℕ) (b : Bool) → is_fence l ≡ b → (after st n at (kind_at st at l)).fence ≡ cond b (not st.fence) st.fence
unfolding kind_at kind_of after
flag st n at l true e = rw e
flag st n at l false e = rw e (kept st n at (marked_kind st.fence (is_some st.region) at l (find OPEN l)) (other_marked st.fence (is_some st.region) at l (find OPEN l)))

-- a fence of either kind
either_kind : (l : List ℕ) → is_fence l ≡ (three_of backtick l || three_of tilde l)
unfolding is_fence
either_kind l = refl

or_here : (a b : Bool) → b ≡ false → (a || b) ≡ a
or_here true b e = refl
or_here false b e = e

-- in a fence, only its own kind is left
own : (m : Mark) (l : List ℕ) → three_of (other_of m) l ≡ false → is_fence l ≡ three_of m l
own backtick l h = either_kind l ∙ or_here (three_of backtick l) (three_of tilde l) h
own tilde l h = either_kind l ∙ rw h

code_opens : (o : Option CodeFence) → is_some (as_fence o) ≡ is_some o
code_opens None = refl
code_opens (Some f) = refl

same : (o : Option CodeFence) (st : State) (n at : ℕ) (l : List ℕ) → IsFence o → st.fence ≡ is_some o → scan_departs o l ≡ false → cond (is_fence l) (not st.fence) st.fence ≡ is_some (code_after o l)
unfolding scan_departs
same None st n at l h e d = go (is_fence l) ∙ (either_kind l ∙ (sym (seen_opens l) ∙ (ap is_some (opened l (three_of backtick l) (three_of tilde l) refl refl (or_right (other_kind_closes None l) _ d)) ∙ code_opens (code_opener l))))
  where
    go : (b : Bool) → cond b (not st.fence) st.fence ≡ b
    go true = rw e
    go false = e
same (Some f) st n at l h e d = rw (own f.mark l (or_left (other_kind_closes (Some f) l) _ d)) (go (three_of f.mark l) (closed f l (three_of f.mark l) refl h (or_right (other_kind_closes (Some f) l) _ d)))
  where
    go : (b : Bool) → closes_code f l ≡ b → cond b (not st.fence) st.fence ≡ is_some (code_after (Some f) l)
    go true q = rw (e, q)
    go false q = rw (e, q)

-- where a departure holds the scan sees a fence, and CommonMark none
parts : (o : Option CodeFence) (st : State) (l : List ℕ) → st.fence ≡ is_some o → is_fence l ≡ true → IsMissed o l → cond (is_fence l) (not st.fence) st.fence ≡ is_some (code_after o l) → ⊥
parts None st l e s m q = false≢true (sym (rw (s, e, m) at q))
parts (Some f) st l e s m q = false≢true (rw (s, e, m) at q)

mark_fence : (m : Mark) (l : List ℕ) → three_of m l ≡ true → is_fence l ≡ true
mark_fence backtick l h = either_kind l ∙ rw h
mark_fence tilde l h = either_kind l ∙ rw (h, not_both l h)

seen_fence : (o : Option CodeFence) (l : List ℕ) → is_seen o l ≡ true → is_fence l ≡ true
seen_fence None l h = either_kind l ∙ h
seen_fence (Some f) l h = mark_fence f.mark l h

own_unseen : (m : Mark) (l : List ℕ) → three_of (other_of m) l ≡ true → three_of m l ≡ false
own_unseen backtick l h = not_both l h
own_unseen tilde l h = one-kind l (three_of tilde l) refl h

other_apart : (o : Option CodeFence) (l : List ℕ) → IsFence o → other_kind_closes o l ≡ true → (is_fence l ≡ true) × IsMissed o l
other_apart None l h k = absurd (false≢true k)
other_apart (Some f) l h k = (mark_fence (other_of f.mark) l k, not_closing f l (own_unseen f.mark l k) h)

walk-apart : (o : Option CodeFence) (l : List ℕ) → IsFence o → departs o l ≡ true → (is_fence l ≡ true) × IsMissed o l
walk-apart o l h d = let a = apart o l h d in (seen_fence o l a.seen, a.missed)

scan-apart : (o : Option CodeFence) (l : List ℕ) → IsFence o → scan_departs o l ≡ true → (is_fence l ≡ true) × IsMissed o l
unfolding scan_departs
scan-apart o l h =
    other_apart o l h
    or walk-apart o l h

-- a CR at the end of our line is no part of CommonMark's
fence_cr : (l : List ℕ) → is_fence (l ++ (0x0D ∷ [])) ≡ is_fence l
unfolding is_fence
fence_cr l = rw (three_cr backtick l, three_cr tilde l)

flag_ended : (st : State) (n at : ℕ) (l : List ℕ) → (after st n at (kind_at st at l)).fence ≡ cond (is_fence (ended l)) (not st.fence) st.fence
flag_ended st n at l = flag st n at l (is_fence (ended l)) (by_ended (λ l m. is_fence l ≡ is_fence m) (λ l. refl) fence_cr l)

pub same_flag : SameFlag
same_flag o st n at l h e d = flag_ended st n at l ∙ same o st n at (ended l) h e d

pub other_flag : OtherFlag
other_flag o st n at l h e d q = let a = scan-apart o (ended l) h d in parts o st (ended l) e a.0 a.1 (sym (flag_ended st n at l) ∙ q)

-- an opener has three bytes or more, so what is open stays a fence
opener-long : (m : Mark) (l : List ℕ) → opens_with m l ≡ true → 3 ≤ run m (unindented l)
unfolding opens_with
opener-long m l h = leb-true 3 (run m (unindented l)) (and_left _ _ (and_right (leb (indent l) 3) _ h))

pub stays_fence : StaysFence
unfolding code_opener
stays_fence None l h = go (opens_with backtick l) (opens_with tilde l) refl refl
  where
    go : (a b : Bool) → opens_with backtick l ≡ a → opens_with tilde l ≡ b → IsFence (code_opener l)
    go true b p q = rw p (opener-long backtick l p)
    go false true p q = rw (p, q) (opener-long tilde l q)
    go false false p q = rw (p, q) tt
stays_fence (Some f) l h = go (closes_code f l)
  where
    go : (b : Bool) → IsFence (cond b None (Some f))
    go true = tt
    go false = h

pub each_parts : EachParts
unfolding ended step_after outside_after closes opener code_opener opens_with closes_code run indent first any lead trim_start is_space starts_with comment_after
each_parts = ((refl, (refl, refl)), ((refl, (refl, refl)), ((refl, (refl, refl)), ((refl, (refl, refl)), ((refl, (refl, refl)), ((refl, (refl, refl)), ((refl, (refl, refl)), (refl, (refl, refl)))))))))

pub other_kind_parts : OtherKindParts
unfolding after kind_at kind_of is_fence closes_code run indent first lead trim_start is_space starts_with
other_kind_parts = (refl, (refl, refl))

pub none_holds : NoneHolds
unfolding ended scan_departs departs run indent first any lead trim_start is_space starts_with
none_holds = (refl, (refl, (refl, (refl, (refl, (refl, (refl, (refl, (refl, (refl, refl))))))))))
