-- Laws of writing: a turn of the writing scan, and the problems at its end. Assumes nothing.
use Rattle.std.specs.Prelude.{Some, None}
use Prim.Native.Nat.{ℕ, ◌+◌}
use mathlib.Core.Path.{◌≡◌, sym, ap, ◌∙◌}
use mathlib.Core.Bool.{true, false}
use mathlib.Core.List.{List, [], ◌∷◌, append-nil}
use lib.ListN.{length, drop}
use Rattle.text.specs.Bytes.{part}
use Rattle.text.specs.Lines.{lines_from}
use Rattle.marker.specs.declared.line.Kind.{Kind}
use Rattle.marker.specs.declared.problem.Problem.TheVariants.{UnclosedFence}
use Rattle.scan.specs.Scan.{events_of, after, kind_at, unclosed, last_of, scan_from}
use Rattle.scan.specs.Skip.{Sought}
use Rattle.scan.specs.declared.event.Event.{Event}
use Rattle.scan.specs.declared.event.Event.TheVariants.{OfProblem}
use Rattle.scan.specs.declared.state.State.{State}
use Rattle.scan.proofs.ScanLaws.{sought_line, sought_end}
use Rattle.event_log.specs.Sink.{Held, put, put_all}
use Rattle.event_log.proofs.SinkLaws.{all_append}

-- one turn of the writing scan: w is what the whole scan writes
module _ (s : List ℕ) (a n : ℕ) (st : State) (t u w : Held) (i : put_all (scan_from st (n + 1) (lines_from a (drop a s))) t ≡ w) where
  pub turned : {k b e x : ℕ} {kind : Kind} {next : State} → Sought s a n (Some (record { number = k; start = b; end = e; next = x })) → kind ≡ kind_at st b (part b e s) → u ≡ put_all (events_of st k b (part b e s) kind) t → next ≡ after st k b kind
      → put_all (scan_from next (k + 1) (lines_from x (drop x s))) u ≡ w
  turned {k} {b} {e} {x} {kind} {next} h ek eu en =
      let l : List ℕ = part b e s in
      rw (en, eu, ek)
      (sym (all_append (events_of st k b l (kind_at st b l)) (scan_from (after st k b (kind_at st b l)) (k + 1) (lines_from x (drop x s))) t)
      ∙ ap (λ (es : List Event). put_all es t) (sym (sought_line s a n k b e x st h))
      ∙ i)

  pub ended : Sought s a n None → u ≡ put_all (last_of st (n + length (lines_from a (drop a s)))) t → u ≡ w
  ended h eu = eu ∙ ap (λ (es : List Event). put_all es t) (sym (sought_end s a n st h)) ∙ i

-- the problems at the end, after what is put for the open region
module _ (st : State) (last : ℕ) (t u : Held) (h : u ≡ put_all (unclosed st.region) t) where
  pub last_open : {v : Held} → st.fence ≡ true → v ≡ put (OfProblem last UnclosedFence) u → v ≡ put_all (last_of st last) t
  unfolding last_of put_all
  last_open f e = rw f (e ∙ ap (put (OfProblem last UnclosedFence)) h ∙ sym (all_append (unclosed st.region) (OfProblem last UnclosedFence ∷ []) t))

  pub last_shut : st.fence ≡ false → u ≡ put_all (last_of st last) t
  unfolding last_of
  last_shut f = rw (f, append-nil) h
