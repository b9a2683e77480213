-- The fence that is open behind a line is CommonMark's, in the heading walk, where no named departure holds, and only there. Assumes nothing.
use Rattle.std.specs.Prelude.{Option, Some, None, is_some}
use Prim.Native.Nat.{ℕ, ◌≤◌, ◌<◌}
use mathlib.Core.Path.{◌≡◌, refl, sym, ◌∙◌, ap}
use mathlib.Core.Bool.{Bool, true, false, cond, not, false≢true}
use mathlib.Core.List.{List, [], ◌∷◌, ◌++◌}
use native.Mathlib.Omega.{arith}
use borrow.Author.Tests.{not-true, not-false, eqb-true, eqb-false, le-leb, lt-leb, leb-true, leb-false, ltb-true, ltb-false}
use lib.Dec.{eqb, leb}
use Rattle.text.specs.Bytes.{any}
use Rattle.text.specs.Space.{lead, trim_start}
use Rattle.text.proofs.PatternLaws.{and_left, and_right}
use Rattle.fence.specs.Fences.{opener, is_fence}
use Rattle.fence.specs.declared.Fence.{Fence}
use Rattle.fence.proofs.FenceLaws.{fence_opener}
use Rattle.heading.specs.Walk.{closes, step_after, outside_after}
use Rattle.heading.proofs.WalkLaws.{closes-ticks, closes_tildes}
use Rattle.commonmark.specs.Strip.{ended, is_shown, indent}
use Rattle.commonmark.specs.Fenced.{Mark, backtick, tilde, CodeFence, unindented, run, info, is_info, opens_with, code_opener, closes_code, code_after}
use Rattle.commonmark.specs.Fences.{three_of, is_seen, indented_by_four, other_space_before, backtick_in_info, shorter_closer, text_after_closer, departs, kind_of_mark, as_fence, IsFence, SameFence, OtherFence}
use Rattle.commonmark.proofs.BoolLaws.{of-list, second, and_false, and_last, ◌or◌}
use Rattle.commonmark.proofs.LineLaws.{by_ended, three_cr}
use Rattle.commonmark.proofs.FenceLaws.{trimmed, unseen, seen, not_both, stray}

-- what does not hold of a line that does not depart, one law for each departure
module _ (o : Option CodeFence) (l : List ℕ) (d : departs o l ≡ false) (s : is_seen o l ≡ true) where
  no-indented : leb (indent l) 3 ≡ true
  unfolding departs
  no-indented =
      let h : indented_by_four o l ≡ false = search of-list in
      let n = leb-false 4 (indent l) (second _ _ s h) in
      le-leb (indent l) 3 (omega arith)

  no-other-space : lead l ≡ indent l
  unfolding departs
  no-other-space = let h : other_space_before o l ≡ false = search of-list in eqb-true (lead l) (indent l) (not-false _ (second _ _ s h))

no_backtick : (l : List ℕ) → departs None l ≡ false → three_of backtick l ≡ true → lead l ≡ indent l → is_info backtick (info backtick (unindented l)) ≡ true
unfolding departs
no_backtick l d t e = let h : backtick_in_info None l ≡ false = search of-list in rw (rw (trimmed l e) at (second _ _ t h))

module _ (f : CodeFence) (l : List ℕ) (d : departs (Some f) l ≡ false) (t : three_of f.mark l ≡ true) (e : lead l ≡ indent l) where
  no-shorter : leb f.length (run f.mark (unindented l)) ≡ true
  unfolding departs
  no-shorter =
      let h : shorter_closer (Some f) l ≡ false = search of-list in
      let n = ltb-false (run f.mark (unindented l)) f.length (rw (trimmed l e) at (second _ _ t h)) in
      le-leb f.length (run f.mark (unindented l)) (omega arith)

  no_text : any is_shown (info f.mark (unindented l)) ≡ false
  unfolding departs
  no_text = let h : text_after_closer (Some f) l ≡ false = search of-list in rw (trimmed l e) at (second _ _ t h)

-- an opener
opens_with_lem : (m : Mark) (l : List ℕ) → three_of m l ≡ true → leb (indent l) 3 ≡ true → lead l ≡ indent l → is_info m (info m (unindented l)) ≡ true → opens_with m l ≡ true
unfolding opens_with
opens_with_lem m l t p e i = rw (p, seen m l t e, i)

short : (m : Mark) (l : List ℕ) → leb 3 (run m (unindented l)) ≡ false → opens_with m l ≡ false
unfolding opens_with
short m l h = rw h (and_false (leb (indent l) 3) (is_info m (info m (unindented l))))

shut : (m : Mark) (l : List ℕ) → three_of m l ≡ false → opens_with m l ≡ false
shut m l t = short m l (unseen m l t)

pub opened : (l : List ℕ) (a b : Bool) → three_of backtick l ≡ a → three_of tilde l ≡ b → departs None l ≡ false → opener l ≡ as_fence (code_opener l)
unfolding opener code_opener
opened l true b p q d =
    let s : is_seen None l ≡ true = rw p in
    let e = no-other-space None l d s in
    rw (p, opens_with_lem backtick l p (no-indented None l d s) e (no_backtick l d p e))
opened l false true p q d =
    let s : is_seen None l ≡ true = rw (p, q) in
    rw (p, q, shut backtick l p, opens_with_lem tilde l q (no-indented None l d s) (no-other-space None l d s) refl)
opened l false false p q d = rw (p, q, shut backtick l p, shut tilde l q)

-- a closer
same_kind : (m : Mark) (l : List ℕ) (b : Bool) → three_of m l ≡ b → closes (kind_of_mark m) l ≡ b
same_kind backtick l b p = closes-ticks l ∙ p
same_kind tilde l b p = closes_tildes l ∙ p

unclosing : (f : CodeFence) (l : List ℕ) → run f.mark (unindented l) < f.length → closes_code f l ≡ false
unfolding closes_code
unclosing f l h = rw (lt-leb f.length (run f.mark (unindented l)) h) (and_false (leb (indent l) 3) (not (any is_shown (info f.mark (unindented l)))))

pub not_closing : (f : CodeFence) (l : List ℕ) → three_of f.mark l ≡ false → 3 ≤ f.length → closes_code f l ≡ false
not_closing f l p h = unclosing f l (omega (arith, h, leb-false 3 (run f.mark (unindented l)) (unseen f.mark l p)))

pub closed : (f : CodeFence) (l : List ℕ) (b : Bool) → three_of f.mark l ≡ b → 3 ≤ f.length → departs (Some f) l ≡ false → closes_code f l ≡ b
unfolding closes_code
closed f l true p h d = let e = no-other-space (Some f) l d p in rw (no-indented (Some f) l d p, no-shorter f l d p e, no_text f l d p e)
closed f l false p h d = not_closing f l p h

-- each departure: we see a fence, and CommonMark none
abbrev pub IsMissed : Option CodeFence → List ℕ → Type 0
IsMissed None l = code_opener l ≡ None
IsMissed (Some f) l = closes_code f l ≡ false

pub record Apart (o : Option CodeFence) (l : List ℕ) : Type 0 where
  pub seen : is_seen o l ≡ true
  pub missed : IsMissed o l

unopening : (l : List ℕ) → opens_with backtick l ≡ false → opens_with tilde l ≡ false → code_opener l ≡ None
unfolding code_opener
unopening l p q = rw (p, q)

-- behind other bytes than spaces it is none to CommonMark
spaced : (o : Option CodeFence) (l : List ℕ) → IsFence o → (lead l ≡ indent l → IsMissed o l) → IsMissed o l
spaced o l h k = go o h k (eqb (lead l) (indent l)) refl
  where
    go : (o : Option CodeFence) → IsFence o → (lead l ≡ indent l → IsMissed o l) → (b : Bool) → eqb (lead l) (indent l) ≡ b → IsMissed o l
    go o h k true e = k (eqb-true (lead l) (indent l) e)
    go None h k false e = unopening l (none_of backtick) (none_of tilde)
      where
        none_of : (m : Mark) → opens_with m l ≡ false
        none_of m = short m l (rw (stray m l (eqb-false (lead l) (indent l) e)))
    go (Some f) h k false e = unclosing f l (omega (arith, h, stray f.mark l (eqb-false (lead l) (indent l) e)))

indented-apart : (o : Option CodeFence) (l : List ℕ) → IsFence o → indented_by_four o l ≡ true → Apart o l
unfolding opens_with closes_code
indented-apart o l i h = record {
  seen = and_left (is_seen o l) _ h;
  missed = go o (lt-leb (indent l) 3 (omega (arith, leb-true 4 (indent l) (and_right (is_seen o l) _ h))));
}
  where
    go : (o : Option CodeFence) → leb (indent l) 3 ≡ false → IsMissed o l
    go None n = unopening l (rw n) (rw n)
    go (Some f) n = rw n

space_apart : (o : Option CodeFence) (l : List ℕ) → IsFence o → other_space_before o l ≡ true → Apart o l
space_apart o l h k = record {
  seen = and_left (is_seen o l) _ k;
  missed = spaced o l h (λ e. absurd (eqb-false (lead l) (indent l) (not-true _ (and_right (is_seen o l) _ k)) e));
}

pub one-kind : (l : List ℕ) (b : Bool) → three_of tilde l ≡ b → three_of backtick l ≡ true → b ≡ false
one-kind l true q p = absurd (false≢true (sym (not_both l q) ∙ p))
one-kind l false q p = refl

backtick_apart : (o : Option CodeFence) (l : List ℕ) → IsFence o → backtick_in_info o l ≡ true → Apart o l
unfolding opens_with
backtick_apart (Some f) l h k = absurd (false≢true k)
backtick_apart None l h k =
    let t = and_left (three_of backtick l) _ k in
    let i = and_right (three_of backtick l) _ k in
    record {
      seen = rw t;
      missed = spaced None l h (λ e. unopening l (rw (rw (trimmed l e) at i) (and_last (leb (indent l) 3) (leb 3 (run backtick (unindented l))))) (shut tilde l (one-kind l (three_of tilde l) refl t)));
    }

shorter_apart : (o : Option CodeFence) (l : List ℕ) → IsFence o → shorter_closer o l ≡ true → Apart o l
shorter_apart None l h k = absurd (false≢true k)
shorter_apart (Some f) l h k = record {
  seen = and_left (three_of f.mark l) _ k;
  missed = spaced (Some f) l h (λ e. unclosing f l (rw (trimmed l e) at (ltb-true (run f.mark (trim_start l)) f.length (and_right (three_of f.mark l) _ k))));
}

text-apart : (o : Option CodeFence) (l : List ℕ) → IsFence o → text_after_closer o l ≡ true → Apart o l
unfolding closes_code
text-apart None l h k = absurd (false≢true k)
text-apart (Some f) l h k = record {
  seen = and_left (three_of f.mark l) _ k;
  missed = spaced (Some f) l h (λ e. rw (rw (trimmed l e) at (and_right (three_of f.mark l) _ k)) (and_last (leb (indent l) 3) (leb f.length (run f.mark (unindented l)))));
}

pub apart : (o : Option CodeFence) (l : List ℕ) → IsFence o → departs o l ≡ true → Apart o l
unfolding departs
apart o l h =
    indented-apart o l h
    or space_apart o l h
    or backtick_apart o l h
    or shorter_apart o l h
    or text-apart o l h

-- the walk
after-outside : (comment : Bool) (l : List ℕ) (f : Option Fence) → (outside_after comment l f).fence ≡ f
unfolding outside_after
after-outside comment l None = refl
after-outside comment l (Some f) = refl

after_open : (m : Mark) (comment : Bool) (l : List ℕ) → (step_after (Some (kind_of_mark m)) comment l).fence ≡ cond (closes (kind_of_mark m) l) None (Some (kind_of_mark m))
unfolding step_after
after_open m comment l = refl

opener_cr : (l : List ℕ) → opener (l ++ (0x0D ∷ [])) ≡ opener l
unfolding opener
opener_cr l = rw (three_cr backtick l, three_cr tilde l)

same : (o : Option CodeFence) (comment : Bool) (l : List ℕ) → IsFence o → departs o l ≡ false → (step_after (as_fence o) comment l).fence ≡ as_fence (code_after o l)
unfolding step_after
same None comment l h d = after-outside comment l (opener l) ∙ opened l (three_of backtick l) (three_of tilde l) refl refl d
same (Some f) comment l h d = after_open f.mark comment l ∙ go (three_of f.mark l) (same_kind f.mark l (three_of f.mark l) refl) (closed f l (three_of f.mark l) refl h d)
  where
    go : (b : Bool) → closes (kind_of_mark f.mark) l ≡ b → closes_code f l ≡ b → cond (closes (kind_of_mark f.mark) l) None (Some (kind_of_mark f.mark)) ≡ as_fence (code_after (Some f) l)
    go true p q = rw (p, q)
    go false p q = rw (p, q)

pub seen_opens : (l : List ℕ) → is_some (opener l) ≡ is_seen None l
unfolding is_fence
seen_opens l = fence_opener l

parts : (o : Option CodeFence) (comment : Bool) (l : List ℕ) → Apart o l → (step_after (as_fence o) comment l).fence ≡ as_fence (code_after o l) → ⊥
unfolding step_after
parts None comment l a e = false≢true (ap (λ (o : Option CodeFence). is_some (as_fence o)) (sym a.missed) ∙ (ap is_some (sym e ∙ after-outside comment l (opener l)) ∙ (seen_opens l ∙ a.seen)))
parts (Some f) comment l a e =
    let p : (step_after (Some (kind_of_mark f.mark)) comment l).fence ≡ None = after_open f.mark comment l ∙ rw (same_kind f.mark l true a.seen) in
    let q : as_fence (code_after (Some f) l) ≡ Some (kind_of_mark f.mark) = rw a.missed in
    false≢true (ap is_some (sym p ∙ (e ∙ q)))

-- a CR at the end of our line is no part of CommonMark's
step_cr : (f : Option Fence) (comment : Bool) (l : List ℕ) → (step_after f comment (l ++ (0x0D ∷ []))).fence ≡ (step_after f comment l).fence
unfolding step_after closes
step_cr None comment l = after-outside comment _ (opener (l ++ (0x0D ∷ []))) ∙ (opener_cr l ∙ sym (after-outside comment l (opener l)))
step_cr (Some f) comment l = rw (opener_cr l)

step-ended : (f : Option Fence) (comment : Bool) (l : List ℕ) → (step_after f comment l).fence ≡ (step_after f comment (ended l)).fence
step-ended f comment = by_ended (λ l m. (step_after f comment l).fence ≡ (step_after f comment m).fence) (λ l. refl) (step_cr f comment)

pub same_fence : SameFence
same_fence o comment l h d = step-ended (as_fence o) comment l ∙ same o comment (ended l) h d

pub other_fence : OtherFence
other_fence o comment l h d e = parts o comment (ended l) (apart o (ended l) h d) (sym (step-ended (as_fence o) comment l) ∙ e)
