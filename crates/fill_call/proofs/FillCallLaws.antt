-- Laws of the call fill: what `fill_regions` asks for once the checks pass. Assumes nothing.
use Rattle.std.specs.Prelude.{Result, Ok, Err}
use Prim.Native.Nat.{ℕ, suc, ◌+◌, ◌*◌, ◌≤◌}
use native.Mathlib.Nat.{suc-mul}
use native.Mathlib.Omega.{arith}
use mathlib.Core.Path.{◌≡◌, ap, ◌∙◌}
use mathlib.Core.List.{List}
use lib.ListN.{length, take}
use Rattle.index.specs.Index.{File, file_of, records, files}
use Rattle.index.proofs.RowsLaws.{files-length}
use Rattle.fileset.specs.Check.{fill_checked}
use Rattle.fileset.proofs.PassedLaws.{fill_fit}
use Rattle.chains.specs.Chains.{free, no_marks, chain}
use Rattle.walk.specs.Outcome.{Outcome, refusal}
use Rattle.chains.specs.Fill.{filled}
use Rattle.answer.specs.declared.Answer.{Answer}
use Rattle.answer.specs.declared.Answer.TheVariants.{Accepted, NoRegion}
use Rattle.answer.specs.declared.Refusal.{Refusal}
use Rattle.book.specs.Calls.{fill_outcome}
use Rattle.give.specs.Given.{Fits}
use Rattle.filling.proofs.RoomLaws.{free-none}
use Rattle.filling.specs.Filling.{FilledWithin}

-- once the checks pass

module _ (index contents name text : List ℕ) (limit out work : ℕ) (p : fill_checked index contents name text limit out work ≡ (Ok tt)) {S : List File} (same : S ≡ files index contents)
  where
    roomy : suc (length S) * limit + limit ≤ work
    roomy =
        let n : length S ≡ length (records index) = ap length same ∙ files-length 1 contents (records index) in
        let k : length (records index) + 0 + 2 ≡ suc (suc (length S)) = omega arith in
        let h : suc (suc (length S)) * limit ≤ work = rw k at (fill_fit index contents name text limit out work p).1.1 in
        omega (arith, suc-mul (suc (length S)) limit)

    pub fill-room : length S ≤ 64 → suc (free (take (length S) no_marks)) * limit ≤ work
    fill-room few = rw (free-none (length S) 64 few) (omega (arith, roomy))

    pub fill-passed : {o : Outcome} (B : ℕ) → o ≡ filled B limit 0 (chain S name no_marks (file_of 0 name text)) → o ≡ fill_outcome index contents name text limit B out work
    unfolding fill_outcome
    fill-passed B h = rw (p, ← same) h

    pub fill_held : (r : Result Answer Refusal) → FilledWithin r limit → Fits r out work
    fill_held (Ok (Accepted m f)) h = (omega (arith, (fill_fit index contents name text limit out work p).1.0), omega (arith, roomy))
    fill_held (Ok NoRegion) h = tt
    fill_held (Err x) h = tt

pub fill-stopped : (index contents name text : List ℕ) (limit B out work : ℕ) {x : Refusal} → Err x ≡ fill_checked index contents name text limit out work
    → refusal x ≡ fill_outcome index contents name text limit B out work
unfolding fill_outcome
fill-stopped index contents name text limit B out work e = rw (← e)
