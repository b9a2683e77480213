-- Laws of one member, by what its shift is. Assumes nothing.
use Rattle.std.specs.Prelude.{Option, Err, Contains}
use Prim.Native.Nat.{ℕ, ◌≤◌}
use mathlib.Core.Path.{◌≡◌, refl}
use mathlib.Core.Bool.{false}
use mathlib.Core.List.{List, ◌++◌}
use lib.IntN.{ℤ}
use Rattle.answer.specs.Answer.{place}
use Rattle.answer.specs.declared.Refusal.TheVariants.{HeadingLevel}
use Rattle.put.specs.Running.{text_of, Ran}
use Rattle.put.specs.declared.running.RunningText.{RunningText}
use Rattle.heading.specs.Level.{any_past}
use Rattle.heading.specs.declared.walk.LineKind.{LineKind}
use Rattle.shift.specs.Shift.{shift_for}
use Rattle.outline.specs.Outline.{moved_kinds, ShiftBelow}
use Rattle.members.specs.Members.{text_source}
use Rattle.members.specs.declared.Assembly.{Assembly}
use Rattle.members.specs.declared.Member.{Member}
use Rattle.target.specs.Titles.{titles_of}
use Rattle.emission.specs.Emission.{emitted_lines, emitted_text}
use Rattle.joining.specs.Joining.{rule_before, target_of, Emits, emit_of, prepared_of, put_answer, AddedBehind}
use Rattle.joining.proofs.StandLaws.{emitted_some}
use Rattle.joining.proofs.TurnLaws.{shifted_good, shifted_past, behind_stops, behind-put}

-- member i behind the text, by what its shift is
module _ (old : RunningText) (a : Assembly) (can : Emits old a) {m : Member} (h : Contains a.members.now m) (i : ℕ) (new : RunningText) where
  pub behind-past : (line : ℕ) → ShiftBelow (text_of old (text_source m)) (Err line) → AddedBehind (emit_of old a) (prepared_of old a m) i old new (Err (HeadingLevel (place m.file line)))
  behind-past line q =
      let p = shifted_past (titles_of old a) a.url.now (text_of old (text_source m)) (prepared_of old a m) refl line q in
      behind_stops (emit_of old a) (prepared_of old a m) i old new (HeadingLevel (place m.file line)) p.0 p.1

  abbrev ks : List LineKind
  ks = moved_kinds (text_of old (text_source m))

  pub behind-lines : old.at ≤ old.limit → (z : ℤ) → (z ≡ shift_for 2 ks) × (any_past (shift_for 2 ks) ks ≡ false) → (r : Option (Unit {0}))
      → Ran (rule_before i ++ emitted_text (target_of old a m) z (text_of old (text_source m))) old new r
      → AddedBehind (emit_of old a) (prepared_of old a m) i old new (put_answer m.file r)
  behind-lines below z q r p =
      let g = shifted_good (titles_of old a) a.url.now (text_of old (text_source m)) (prepared_of old a m) refl z q in
      let es : List (List ℕ) = emitted_lines (target_of old a m) z (text_of old (text_source m)) in
      behind-put (emit_of old a) (prepared_of old a m) i old new es g (emitted_some can h (titles_of old a) a.url.now es g) below can.fits r p
