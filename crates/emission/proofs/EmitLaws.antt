-- Laws of `specs/Emit.antt`: a member emitted is its lines as they are put, or the first heading that goes past level 6. Assumes nothing.
use Rattle.std.specs.Prelude.{Option}
use Prim.Native.Nat.{ℕ, ◌+◌}
use mathlib.Core.Path.{◌≡◌}
use mathlib.Core.Bool.{true, false}
use mathlib.Core.List.{List}
use lib.IntN.{ℤ}
use Rattle.answer.specs.Answer.{place}
use Rattle.answer.specs.declared.Refusal.{Refusal}
use Rattle.answer.specs.declared.Refusal.TheVariants.{HeadingLevel}
use Rattle.heading.specs.Level.{any_past, first_past}
use Rattle.path.specs.Path.{parent_dir}
use Rattle.link.specs.Target.{rewrite_target}
use Rattle.walk.specs.Parts.{good, flawed}
use Rattle.shift.specs.Shift.{shift_for}
use Rattle.shift.proofs.ShiftLaws.{past-none, past-some}
use Rattle.member.specs.Member.{Prepared}
use Rattle.member.specs.Lines.{kept_lines}
use Rattle.outline.specs.Outline.{moved_kinds}
use Rattle.emitted.specs.Emit.{emit}
use Rattle.emission.specs.Emission.{emitted_lines}

module _ (titles : List ℕ → Option (List ℕ)) (url : List ℕ) (m : Prepared) (s : List ℕ) (lines : m.lines ≡ kept_lines s) where
  abbrev z : ℤ
  z = shift_for 2 (moved_kinds s)

  pub emit_good : any_past z (moved_kinds s) ≡ false → emit titles url m ≡ good (emitted_lines (rewrite_target titles url (parent_dir m.name)) z s)
  unfolding emit
  emit_good e = rw (lines, past-none (λ n. HeadingLevel (place m.file n)) z 1 (moved_kinds s) e)

  pub emit-past : any_past z (moved_kinds s) ≡ true → (xs : List Refusal) × (emit titles url m ≡ flawed (HeadingLevel (place m.file (1 + first_past z (moved_kinds s)))) xs)
  unfolding emit
  emit-past e = let p = past-some (λ n. HeadingLevel (place m.file n)) z 1 (moved_kinds s) e in (p.0, rw (lines, p.1))
