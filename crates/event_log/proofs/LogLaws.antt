-- Laws of `specs/Log.antt`: a word writes the row of its event, and a whole log has the rows of all that was noted. Assumes nothing.
use Rattle.std.specs.Prelude.{Option, Some, None}
use Prim.Native.Nat.{ℕ, ◌+◌, ◌≤◌, ◌<◌}
use native.Mathlib.Numerals.{add-one}
use native.Mathlib.Omega.{arith}
use borrow.Author.Tests.{eqb-true, ltb-true, not-true}
use mathlib.Core.Path.{◌≡◌, refl, sym, ap, ◌∙◌}
use mathlib.Core.Bool.{Bool, true, false, cond, not, ◌&&◌, false≢true}
use mathlib.Core.List.{List, [], ◌∷◌, map, map-append}
use lib.ListN.{length, take, set, length-set}
use lib.Seq.{take-suc-set}
use lib.Dec.{eqb, ltb}
use Rattle.text.proofs.PatternLaws.{and_left, and_right}
use Rattle.rows.specs.Row.{row}
use Rattle.rows.specs.Sheet.{Sheet, write, written}
use Rattle.event_log.specs.Log.{unpacked, event_word, shown, same_part, same_start, same_event, packed, Log, events, added, note}
use Rattle.text.specs.declared.part.Part.{Part}
use Rattle.marker.specs.Problems.{number_of, of_number}
use Rattle.marker.specs.declared.problem.Problem.{Problem}
use Rattle.marker.proofs.ProblemLaws.{numbered}
use Rattle.scan.specs.declared.event.LineStart.{LineStart}
use Rattle.scan.specs.declared.event.Event.{Event}
use Rattle.scan.specs.declared.event.Event.TheVariants.{OfSpan, OfRegion, OfProblem}
use Rattle.rows.proofs.SheetLaws.{written-append}

-- equal parts, starts and events are the same
same-part : (p q : Part) → same_part p q ≡ true → p ≡ q
same-part p q h = rw (eqb-true p.start q.start (and_left _ (eqb p.end q.end) h), eqb-true p.end q.end (and_right (eqb p.start q.start) _ h))

same-start : (p q : LineStart) → same_start p q ≡ true → p ≡ q
same-start p q h = rw (eqb-true p.line q.line (and_left _ (eqb p.at q.at) h), eqb-true p.at q.at (and_right (eqb p.line q.line) _ h))

same-bool : (a b : Bool) → cond a b (not b) ≡ true → a ≡ b
same-bool true b h = sym h
same-bool false b h = sym (not-true b h)

same-problem : (k j : Problem) → eqb (number_of k) (number_of j) ≡ true → k ≡ j
same-problem k j h = sym (numbered k) ∙ ap of_number (eqb-true (number_of k) (number_of j) h) ∙ numbered j

same-event : (e f : Event) → same_event e f ≡ true → e ≡ f
same-event (OfSpan x) (OfSpan y) h =
    let r = and_right (eqb x.line y.line) _ h in
    rw (
      eqb-true x.line y.line (and_left _ (same_part x.spec y.spec && same_part x.text y.text) h),
      same-part x.spec y.spec (and_left _ (same_part x.text y.text) r),
      same-part x.text y.text (and_right (same_part x.spec y.spec) _ r),
    )
same-event (OfRegion g) (OfRegion k) h =
    let r = and_right (same_start g.opener k.opener) _ h in
    let s = and_right (same_start g.closer k.closer) _ r in
    rw (
      same-start g.opener k.opener (and_left _ (same_start g.closer k.closer && (same_part g.path k.path && cond g.peer k.peer (not k.peer))) h),
      same-start g.closer k.closer (and_left _ (same_part g.path k.path && cond g.peer k.peer (not k.peer)) r),
      same-part g.path k.path (and_left _ (cond g.peer k.peer (not k.peer)) s),
      same-bool g.peer k.peer (and_right (same_part g.path k.path) _ s),
    )
same-event (OfProblem n k) (OfProblem m j) h =
    rw (
      eqb-true n m (and_left _ (eqb (number_of k) (number_of j)) h),
      same-problem k j (and_right (eqb n m) _ h),
    )
same-event e f h = absurd (false≢true h)

-- the row is of what it shows
shown-row : (e : Event) (t : Sheet) → write (shown e) t ≡ write e t
unfolding write row
shown-row (OfRegion g) t = refl
shown-row e t = refl

-- the word that an event is packed into gives back its row
word_row : (e : Event) (w : ℕ) (t : Sheet) → packed e ≡ Some w → write (unpacked w) t ≡ write e t
unfolding packed
word_row e w t = go (same_event (unpacked (event_word e)) (shown e)) refl
  where
    go : (b : Bool) → same_event (unpacked (event_word e)) (shown e) ≡ b → cond b (Some (event_word e)) None ≡ Some w → write (unpacked w) t ≡ write e t
    go true h e' =
        let q : event_word e ≡ w = cc in
        rw (← q, same-event (unpacked (event_word e)) (shown e) h) (shown-row e t)
    go false h e' = let z : ◌≡◌ {A = ℕ} 0 1 = cc in absurd (omega arith)

-- a word behind those of a log
events_more : (b : List ℕ) (n w : ℕ) (t : Sheet) → n < length b → written (map unpacked (take (n + 1) (set b n w))) t ≡ write (unpacked w) (written (map unpacked (take n b)) t)
unfolding written
events_more b n w t h =
    rw (add-one, take-suc-set b n w h, map-append unpacked (take n b) (w ∷ []))
    (written-append (map unpacked (take n b)) (unpacked w ∷ []) t)

-- a log that is whole after an event was noted was whole before, and has the event's row behind the others
pub note-whole : (e : Event) (l : Log) → (note e l).whole ≡ true → l.whole ≡ true
unfolding note
note-whole e l h = go l.whole refl h
  where
    go : (b : Bool) → l.whole ≡ b → (cond (b && ltb l.words (length l.buffer)) (added (packed e) l.words l.buffer) (record { buffer = l.buffer; words = l.words; whole = false })).whole ≡ true → l.whole ≡ true
    go true q k = q
    go false q k = absurd (false≢true k)

pub note-row : (e : Event) (l : Log) (t : Sheet) → (note e l).whole ≡ true → written (events (note e l)) t ≡ write e (written (events l) t)
unfolding note
note-row e l t = go (l.whole && ltb l.words (length l.buffer)) refl (packed e) refl
  where
    lost : Log
    lost = record { buffer = l.buffer; words = l.words; whole = false }

    go : (b : Bool) → (l.whole && ltb l.words (length l.buffer)) ≡ b → (p : Option ℕ) → packed e ≡ p
        → (cond b (added p l.words l.buffer) lost).whole ≡ true → written (events (cond b (added p l.words l.buffer) lost)) t ≡ write e (written (events l) t)
    go true q (Some w) k h =
        events_more l.buffer l.words w t (ltb-true l.words (length l.buffer) (and_right l.whole _ q))
        ∙ word_row e w (written (events l) t) k
    go true q None k h = absurd (false≢true h)
    go false q p k h = absurd (false≢true h)

-- a log's words lie in its buffer
pub note-within : (e : Event) (l : Log) → l.words ≤ length l.buffer → (note e l).words ≤ length (note e l).buffer
unfolding note
note-within e l h = go (l.whole && ltb l.words (length l.buffer)) refl (packed e)
  where
    lost : Log
    lost = record { buffer = l.buffer; words = l.words; whole = false }

    go : (b : Bool) → (l.whole && ltb l.words (length l.buffer)) ≡ b → (p : Option ℕ)
        → (cond b (added p l.words l.buffer) lost).words ≤ length (cond b (added p l.words l.buffer) lost).buffer
    go true q (Some w) = simp length-set (omega (arith, ltb-true l.words (length l.buffer) (and_right l.whole _ q)))
    go true q None = h
    go false q p = h
