-- Laws of one member emitted behind those before it. Assumes nothing.
use Rattle.std.specs.Prelude.{Option, Some, None, Err}
use Prim.Native.Nat.{ℕ, ◌+◌, ◌≤◌, ◌<◌}
use native.Mathlib.Omega.{arith}
use mathlib.Core.Path.{◌≡◌, sym, ap, ◌∙◌}
use mathlib.Core.Bool.{false}
use mathlib.Core.List.{List, ◌∷◌, ◌++◌}
use borrow.Author.Tests.{le-leb, lt-leb}
use lib.IntN.{ℤ}
use lib.ListN.{length, take, length-append}
use lib.Seq.{length-take-le}
use Rattle.answer.specs.Answer.{place}
use Rattle.answer.specs.declared.Refusal.{Refusal}
use Rattle.answer.specs.declared.Refusal.TheVariants.{HeadingLevel, TextLimit}
use Rattle.buffer.proofs.BufferLaws.{take_sets}
use Rattle.text.specs.Lines.{LF}
use Rattle.text.specs.Split.{join}
use Rattle.path.specs.Path.{parent_dir}
use Rattle.link.specs.Target.{rewrite_target}
use Rattle.heading.specs.Level.{any_past}
use Rattle.shift.specs.Shift.{shift_for}
use Rattle.walk.specs.Parts.{Part, good, flawed}
use Rattle.walk.specs.Steps.{Steps, go, refused, judge}
use Rattle.put.specs.Running.{Grown, Ran}
use Rattle.put.specs.declared.running.RunningText.{RunningText}
use Rattle.member.specs.Member.{Prepared}
use Rattle.member.specs.Lines.{kept_lines}
use Rattle.outline.specs.Outline.{moved_kinds, ShiftBelow}
use Rattle.emitted.specs.Emit.{emit, join_lines}
use Rattle.emission.specs.Emission.{emitted_lines}
use Rattle.emission.proofs.EmitLaws.{emit_good, emit-past}
use Rattle.assembled.specs.Assemble.{emit_all}
use Rattle.joining.specs.Joining.{rule_before, put_answer, Running, AddedBehind}
use Rattle.joining.proofs.RuleLaws.{join_rule, join-some}

-- ---- one member, by whether a heading goes past level 6

module _ (titles : List ℕ → Option (List ℕ)) (url s : List ℕ) (m : Prepared) (kept : m.lines ≡ kept_lines s) where
  pub shifted_good : (z : ℤ) → (z ≡ shift_for 2 (moved_kinds s)) × (any_past (shift_for 2 (moved_kinds s)) (moved_kinds s) ≡ false)
      → emit titles url m ≡ good (emitted_lines (rewrite_target titles url (parent_dir m.name)) z s)
  shifted_good z h =
      emit_good titles url m s kept h.1 ∙ ap (λ (y : ℤ). good (emitted_lines (rewrite_target titles url (parent_dir m.name)) y s)) (sym h.0)

  pub shifted_past : (n : ℕ) → ShiftBelow s (Err n) → (xs : List Refusal) × (emit titles url m ≡ flawed (HeadingLevel (place m.file n)) xs)
  shifted_past n h =
      let p = emit-past titles url m s kept h.0 in
      (p.0, p.1 ∙ ap (λ (k : ℕ). flawed (HeadingLevel (place m.file k)) p.0) (sym h.1))

-- ---- one member behind the text

module _ (B L n : ℕ) (f : Prepared → Part (List (List ℕ))) (k : ℕ) (m : Prepared) (ms : List Prepared) (ls : List (List ℕ)) where
  emit-stops : (x : Refusal) (xs : List Refusal) → f m ≡ flawed x xs → judge B L n (emit_all f k (m ∷ ms) ls) ≡ refused x
  unfolding emit_all go judge
  emit-stops x xs e = rw e

  module _ (es : List (List ℕ)) (e : f m ≡ good es) where
    emit-over : L < length (join LF (join_lines ls es)) → judge B L n (emit_all f k (m ∷ ms) ls) ≡ refused (TextLimit (place m.file 0))
    unfolding emit_all go judge
    emit-over h = rw (e, lt-leb (length (join LF (join_lines ls es))) L h)

    emit-next : length (join LF (join_lines ls es)) ≤ L → judge B L n (emit_all f k (m ∷ ms) ls) ≡ judge B L n (emit_all f m.file ms (join_lines ls es))
    unfolding emit_all go judge
    emit-next h = rw (e, le-leb (length (join LF (join_lines ls es))) L h)

-- what is put behind the text at the front of a buffer
pub grown-take : {x : List ℕ} {old new : RunningText} → old.limit ≤ length old.work.now → Grown x old new → take new.at new.work.now ≡ take old.at old.work.now ++ x
grown-take {x} {old} {new} fits p =
    ap (take new.at) p.wrote ∙ take_sets old.work.now x old.at new.at (sym p.place) (omega (arith, p.below, p.limit))

module _ (f : Prepared → Part (List (List ℕ))) (m : Prepared) (i : ℕ) (old new : RunningText) where
  pub behind_stops : (x : Refusal) (xs : List Refusal) → f m ≡ flawed x xs → AddedBehind f m i old new (Err x)
  behind_stops x xs e whole k ms r B n = sym (r.left B n) ∙ emit-stops B old.limit n f k m ms r.lines x xs e

  module _ (es : List (List ℕ)) (e : f m ≡ good es) (some : 0 < length es) (below : old.at ≤ old.limit) (fits : old.limit ≤ length old.work.now) where
    abbrev added : List ℕ
    added = rule_before i ++ join LF es

    long : {whole : Steps (List ℕ)} {k : ℕ} {ms : List Prepared} (r : Running old.limit f whole k (m ∷ ms) i (take old.at old.work.now))
        → join LF (join_lines r.lines es) ≡ take old.at old.work.now ++ added
    long r = join_rule i r.lines es r.none r.some some ∙ ap (λ (y : List ℕ). y ++ added) r.made

    joined-length : {whole : Steps (List ℕ)} {k : ℕ} {ms : List Prepared} (r : Running old.limit f whole k (m ∷ ms) i (take old.at old.work.now))
        → length (join LF (join_lines r.lines es)) ≡ old.at + length added
    joined-length r = ap length (long r) ∙ length-append (take old.at old.work.now) added ∙ ap (λ (j : ℕ). j + length added) (length-take-le old.at old.work.now (omega arith))

    pub behind-put : (r : Option (Unit {0})) → Ran added old new r → AddedBehind f m i old new (put_answer m.file r)
    behind-put (Some u) p whole k ms r = record {
      next = record {
        lines = join_lines r.lines es;
        made = long r ∙ sym (grown-take fits p);
        none = λ z. absurd (omega arith);
        some = λ z. join-some r.lines es some;
        left = λ B j. sym (emit-next B old.limit j f k m ms r.lines es e (omega (arith, joined-length r, p.place, p.below, p.limit))) ∙ r.left B j;
      };
      made = added;
      grown = p;
    }
    behind-put None p whole k ms r = λ B n. sym (r.left B n) ∙ emit-over B old.limit n f k m ms r.lines es e (omega (arith, joined-length r, p.over))
