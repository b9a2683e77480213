-- Laws of writing: the spans of a line. Assumes nothing.
use Rattle.std.specs.Prelude.{Some, None}
use Prim.Native.Nat.{ℕ, ◌+◌, ◌-◌}
use mathlib.Core.Path.{◌≡◌, sym, ap, ◌∙◌}
use mathlib.Core.List.{List, [], ◌∷◌, append-nil, map}
use lib.ListN.{length, drop, length-drop}
use Rattle.text.specs.declared.part.Part.{Part}
use Rattle.marker.specs.Marker.{next_mark}
use Rattle.marker.specs.declared.span.Mark.TheVariants.{Marked, Problem, End}
use Rattle.marker.specs.declared.problem.Problem as problems
use Rattle.scan.specs.Scan.{Reading, read_line, span_events, span_of}
use Rattle.scan.specs.declared.event.Event.TheVariants.{OfSpan, OfProblem}
use Rattle.scan.proofs.ScanLaws.{kind-within, left_at, left-start, left_span, left_problem, left_end, span_within, span_stop}
use Rattle.event_log.specs.Sink.{Held, put, put_all}
use Rattle.event_log.proofs.SinkLaws.{all_append}

-- what is left to read at place i of line n, put after u, is the whole of the line, put after t
pub record Left (l : List ℕ) (n o i : ℕ) (t u : Held) : Type 0 where
  pub spans : put_all (map OfSpan (left_at l n o i).spans) u ≡ put_all (map OfSpan (read_line n o l).spans) t
  pub stop : (left_at l n o i).stop ≡ (read_line n o l).stop

module _ (l : List ℕ) (n o : ℕ) (t : Held) where
  pub left_begin : Left l n o 0 t t
  left_begin =
      let e = left-start l n o in
      record { spans = ap (λ (r : Reading). put_all (map OfSpan r.spans) t) e; stop = ap (λ (r : Reading). r.stop) e }

module _ {l : List ℕ} {n o i : ℕ} {t u : Held} (h : Left l n o i t u) where
  -- a span is put, and the reading goes on after its closer
  pub left_put : (a b : Part) → Marked a b ≡ next_mark (o + i) (drop i l) → {w : Held} → w ≡ put (OfSpan (span_of n a b)) u
      → Left l n o (b.end + 10 - o) t w
  unfolding put_all
  left_put a b e q =
      record {
        spans = rw q (ap (λ (r : Reading). put_all (map OfSpan r.spans) u) (sym (left_span l n o i a b e)) ∙ h.spans);
        stop = span_stop l n o i a b e ∙ h.stop;
      }

  -- or it stops
  pub left_at_problem : (k : problems.Problem) → Problem k ≡ next_mark (o + i) (drop i l)
      → (u ≡ put_all (map OfSpan (read_line n o l).spans) t) × (Some k ≡ (read_line n o l).stop)
  unfolding put_all
  left_at_problem k e = let q = left_problem l n o i k e in (rw q at h.spans, rw q at h.stop)

  pub left_at_end : End ≡ next_mark (o + i) (drop i l) → (u ≡ put_all (map OfSpan (read_line n o l).spans) t) × (None ≡ (read_line n o l).stop)
  unfolding put_all
  left_at_end e = let q = left_end l n o i e in (rw q at h.spans, rw q at h.stop)

-- what the reading of a line gives, after what is put for its spans
module _ (l : List ℕ) (n o : ℕ) (t u : Held) (h : u ≡ put_all (map OfSpan (read_line n o l).spans) t) where
  pub stop_problem : (k : problems.Problem) {v : Held} → Some k ≡ (read_line n o l).stop → v ≡ put (OfProblem n k) u → v ≡ put_all (span_events n o l) t
  unfolding span_events put_all
  stop_problem k e f =
      rw (← e)
      (f ∙ ap (put (OfProblem n k)) h ∙ sym (all_append (map OfSpan (read_line n o l).spans) (OfProblem n k ∷ []) t))

  pub stop-end : None ≡ (read_line n o l).stop → u ≡ put_all (span_events n o l) t
  unfolding span_events
  stop-end e = rw (← e, append-nil) h

-- what the proofs of the functions apply
pub ruleset reading = (left_at_problem, left_at_end, span_within, length-drop, stop-end, kind-within)
