-- Laws of the last LF. Assumes nothing.
use Rattle.std.specs.Prelude.{Ok}
use Prim.Native.Nat.{ℕ, ◌+◌, ◌≤◌, ◌<◌}
use native.Mathlib.Omega.{arith}
use mathlib.Core.Path.{◌≡◌, sym, ap, ◌∙◌}
use mathlib.Core.List.{List, [], ◌∷◌, ◌++◌}
use borrow.Author.Tests.{le-leb, lt-leb}
use lib.ListN.{length, take, length-append}
use lib.Seq.{length-take-le}
use Rattle.answer.specs.Answer.{place}
use Rattle.answer.specs.declared.Refusal.TheVariants.{TextLimit}
use Rattle.text.specs.Lines.{LF}
use Rattle.text.specs.Split.{join}
use Rattle.walk.specs.Outcome.{text, refusal, outcome}
use Rattle.walk.specs.Parts.{Part}
use Rattle.walk.specs.Steps.{Steps, given, refused, judge}
use Rattle.put.specs.Running.{Grown}
use Rattle.put.specs.declared.running.RunningText.{RunningText}
use Rattle.member.specs.Member.{Prepared}
use Rattle.assembled.specs.Assemble.{emit_all}
use Rattle.joining.specs.Joining.{Running}
use Rattle.assembly.specs.Parts.{read_assembled}
use Rattle.joining.proofs.TurnLaws.{grown-take}

module _ {f : Prepared → Part (List (List ℕ))} {whole : Steps (List ℕ)} {k i : ℕ} (old : RunningText) (below : old.at ≤ old.limit) (fits : old.limit ≤ length old.work.now)
    (r : Running old.limit f whole k [] i (take old.at old.work.now)) where
  last-length : length (join LF r.lines ++ (LF ∷ [])) ≡ old.at + 1
  last-length = length-append (join LF r.lines) (LF ∷ []) ∙ ap (λ (j : ℕ). j + 1) (ap length r.made ∙ length-take-le old.at old.work.now (omega arith))

  pub last-put : {new : RunningText} → Grown (LF ∷ []) old new → (B n : ℕ) → read_assembled n (Ok new.at) new.work.now ≡ outcome (judge B old.limit n whole)
  unfolding emit_all judge
  last-put {new} p B n =
      let q : take new.at new.work.now ≡ join LF r.lines ++ (LF ∷ []) = grown-take fits p ∙ ap (λ (t : List ℕ). t ++ (LF ∷ [])) (sym r.made) in
      let h : judge B old.limit n (emit_all f k [] r.lines) ≡ given (join LF r.lines ++ (LF ∷ [])) n =
      rw (le-leb (length (join LF r.lines ++ (LF ∷ []))) old.limit (omega (arith, last-length, p.place, p.below, p.limit))) in
      ap (λ (t : List ℕ). text t n) q ∙ ap outcome (sym h ∙ r.left B n)

  pub last-over : old.limit < old.at + 1 → (B n : ℕ) → refusal (TextLimit (place k 0)) ≡ outcome (judge B old.limit n whole)
  unfolding emit_all judge
  last-over p B n =
      let h : judge B old.limit n (emit_all f k [] r.lines) ≡ refused (TextLimit (place k 0)) =
      rw (lt-leb (length (join LF r.lines ++ (LF ∷ []))) old.limit (omega (arith, last-length))) in
      ap outcome (sym h ∙ r.left B n)
