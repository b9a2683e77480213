-- Laws of `specs/Scan.antt`: lines that are passed over, a turn of the scan, the reading of a line, and the regions. Assumes nothing.
use Rattle.std.specs.Prelude.{Some, None, is_some}
use Prim.Native.Nat.{ℕ, zero, suc, ◌+◌, ◌-◌, ◌≤◌, ◌<◌}
use native.Mathlib.Nat.{add-zero}
use native.Mathlib.Omega.{arith}
use mathlib.Core.Path.{◌≡◌, refl, sym, ap, ◌∙◌}
use mathlib.Core.Bool.{true, false, not, ◌&&◌}
use mathlib.Core.List.{List, [], ◌∷◌, ◌++◌, append-nil}
use lib.ListN.{length, drop, length-drop, drop_of_length-le}
use lib.Seq.{drop-drop}
use borrow.Author.Tests.{not-true}
use Rattle.text.specs.declared.part.Part.{Part}
use Rattle.text.specs.Bytes.{part}
use Rattle.text.specs.Pattern.{starts_with, find, contains}
use Rattle.text.specs.Lines.{Line, lines_from}
use Rattle.text.proofs.PatternLaws.{and_left, and_right}
use Rattle.fence.specs.Fences.{is_fence}
use Rattle.marker.specs.Marker.{OPEN, next_mark, first_of}
use Rattle.scan.specs.Scan.{Reading, read_by, read_from, read_line, then_read, events_of, after, kind_at, last_of, scan_from, span_of, stopped}
use Rattle.scan.specs.Skip.{all_plain, Sought}
use Rattle.marker.specs.declared.line.Kind.TheVariants.{Spans}
use Rattle.marker.specs.declared.span.Mark.{Mark}
use Rattle.marker.specs.declared.span.Mark.TheVariants.{Marked, Problem, End}
use Rattle.marker.specs.declared.problem.Problem as problems
use Rattle.scan.specs.declared.state.State.{State}
use Rattle.marker.proofs.MarkerLaws.{kind-plain, kind-spans, mark-within}

-- a plain line gives nothing and changes nothing
plain-line : (st : State) (n : ℕ) (l : Line) (ls : List Line) → is_fence l.bytes ≡ false → contains OPEN l.bytes ≡ false
    → scan_from st n (l ∷ ls) ≡ scan_from st (n + 1) ls
unfolding scan_from kind_at events_of after
plain-line st n l ls h k = rw (kind-plain st.fence (is_some st.region) l.start l.bytes h k)

pub scan_skip : (ls rest : List Line) (st : State) (n : ℕ) → all_plain ls ≡ true → scan_from st n (ls ++ rest) ≡ scan_from st (n + length ls) rest
unfolding all_plain
scan_skip [] rest st n h = rw add-zero
scan_skip (l ∷ ls) rest st n h =
    let p : (not (is_fence l.bytes) && not (contains OPEN l.bytes)) ≡ true = and_left _ (all_plain ls) h in
    let k : (n + 1) + length ls ≡ n + suc (length ls) = omega arith in
    plain-line st n l (ls ++ rest) (not-true _ (and_left _ (not (contains OPEN l.bytes)) p)) (not-true _ (and_right (not (is_fence l.bytes)) _ p))
    ∙ scan_skip ls rest st (n + 1) (and_right (not (is_fence l.bytes) && not (contains OPEN l.bytes)) (all_plain ls) h)
    ∙ ap (λ (m : ℕ). scan_from st m rest) k

-- a scan from place a on, after n lines, up to the next line that is looked at
pub sought_line : (s : List ℕ) (a n k b e x : ℕ) (st : State) → Sought s a n (Some (record { number = k; start = b; end = e; next = x }))
    → scan_from st (n + 1) (lines_from a (drop a s))
    ≡ events_of st k b (part b e s) (kind_at st b (part b e s)) ++ scan_from (after st k b (kind_at st b (part b e s))) (k + 1) (lines_from x (drop x s))
unfolding scan_from
sought_line s a n k b e x st h =
    let l : Line = record { start = b; bytes = part b e s } in
    ap (scan_from st (n + 1)) h.0.lines
    ∙ scan_skip h.0.passed (l ∷ lines_from x (drop x s)) st (n + 1) h.0.plain
    ∙ ap (λ (m : ℕ). scan_from st m (l ∷ lines_from x (drop x s))) (sym h.0.number)

-- or up to the text's end
pub sought_end : (s : List ℕ) (a n : ℕ) (st : State) → Sought s a n None
    → scan_from st (n + 1) (lines_from a (drop a s)) ≡ last_of st (n + length (lines_from a (drop a s)))
unfolding scan_from
sought_end s a n st h =
    let ls : List Line = lines_from a (drop a s) in
    let q : (n + 1) + length ls - 1 ≡ n + length ls = omega arith in
    ap (scan_from st (n + 1)) (sym (append-nil ls)) ∙ scan_skip ls [] st (n + 1) h ∙ ap (last_of st) q

-- more than enough is no more: f bounds the spans of r, and cuts none off, where r has at most f bytes
read_none : (f n o : ℕ) → read_from f n o [] ≡ read_from (suc f) n o []
unfolding read_from read_by next_mark first_of find starts_with
read_none zero n o = refl
read_none (suc f) n o = refl

read_enough : (f n o : ℕ) (r : List ℕ) → length r ≤ f → read_from f n o r ≡ read_from (suc f) n o r
unfolding read_from read_by
read_enough zero n o r h =
    let z : r ≡ [] = drop_of_length-le r h in
    ap (read_from 0 n o) z ∙ read_none 0 n o ∙ ap (read_from 1 n o) (sym z)
read_enough (suc f) n o r h = go (next_mark o r) refl (λ p t k. read_enough f n p t k)
  where
    go : (m : Mark) → next_mark o r ≡ m → ((p : ℕ) (t : List ℕ) → length t ≤ f → read_from f n p t ≡ read_from (suc f) n p t)
        → read_by n o (λ p. read_from f n p (drop (p - o) r)) m ≡ read_by n o (λ p. read_from (suc f) n p (drop (p - o) r)) m
    go (Marked a b) e ih =
        ap (then_read (span_of n a b))
        (ih (b.end + 10) (drop (b.end + 10 - o) r) (omega (arith, length-drop (b.end + 10 - o) r, mark-within o r a b e)))
    go (Problem k) e ih = refl
    go End e ih = refl

-- what is left to read of line n, l, at place i of it
abbrev pub left_at : List ℕ → ℕ → ℕ → ℕ → Reading
left_at l n o i = read_from (length l) n (o + i) (drop i l)

pub left-start : (l : List ℕ) (n o : ℕ) → left_at l n o 0 ≡ read_line n o l
unfolding read_line
left-start l n o = rw add-zero

read_next : (l : List ℕ) (n o i : ℕ) → left_at l n o i
    ≡ read_by n (o + i) (λ p. read_from (length l) n p (drop (p - (o + i)) (drop i l))) (next_mark (o + i) (drop i l))
unfolding read_from
read_next l n o i = read_enough (length l) n (o + i) (drop i l) (omega (arith, length-drop i l))

-- the first marker of a line lies in it
pub kind-within : (st : State) (o i : ℕ) (l : List ℕ) → kind_at st o l ≡ Spans i → i ≤ length l
unfolding kind_at
kind-within st o i l h = kind-spans st.fence (is_some st.region) o i l h

-- the marker at place i of line n, l: a span, a problem, or none
module _ (l : List ℕ) (n o i : ℕ) where
  abbrev Here : Mark → Type 0
  Here m = m ≡ next_mark (o + i) (drop i l)

  pub left_problem : (k : problems.Problem) → Here (Problem k) → left_at l n o i ≡ stopped (Some k)
  unfolding read_by
  left_problem k e = read_next l n o i ∙ rw (← e)

  pub left_end : Here End → left_at l n o i ≡ stopped None
  unfolding read_by
  left_end e = read_next l n o i ∙ rw (← e)

  module _ (a b : Part) (e : Here (Marked a b)) where
    pub span_within : (o + i < b.end) × (b.end + 10 ≤ o + length l)
    span_within = omega (arith, mark-within (o + i) (drop i l) a b (sym e), length-drop i l)

    pub left_span : left_at l n o i ≡ then_read (span_of n a b) (left_at l n o (b.end + 10 - o))
    unfolding read_by
    left_span =
        let w = span_within in
        let q : i + (b.end + 10 - (o + i)) ≡ b.end + 10 - o = omega arith in
        let r : b.end + 10 ≡ o + (b.end + 10 - o) = omega arith in
        read_next l n o i
        ∙ rw (← e)
        (ap (λ (z : List ℕ). then_read (span_of n a b) (read_from (length l) n (b.end + 10) z)) (drop-drop (b.end + 10 - (o + i)) i l ∙ ap (λ (j : ℕ). drop j l) q)
        ∙ ap (λ (p : ℕ). then_read (span_of n a b) (read_from (length l) n p (drop (b.end + 10 - o) l))) r)

    pub span_stop : (left_at l n o (b.end + 10 - o)).stop ≡ (left_at l n o i).stop
    span_stop = ap (λ (r : Reading). r.stop) (sym left_span)
