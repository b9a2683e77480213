-- Laws of members joined by a rule. Assumes nothing.
use Prim.Native.Nat.{ℕ, zero, suc, ◌<◌}
use native.Mathlib.Omega.{arith}
use mathlib.Core.Path.{◌≡◌, refl, ap, ◌∙◌}
use mathlib.Core.List.{List, [], ◌∷◌, ◌++◌}
use lib.ListN.{length}
use Rattle.text.specs.Lines.{LF, led}
use Rattle.text.specs.Pattern.{bytes}
use Rattle.text.specs.Split.{join}
use Rattle.text.proofs.LedLaws.{join-led, text_more}
use Rattle.emitted.specs.Emit.{join_lines}
use Rattle.joining.specs.Joining.{rule_before}
use Rattle.assembled.proofs.EmitLaws.{Ends, line}

-- such lines are some
pub ends_some : (es : List (List ℕ)) → Ends line es → 0 < length es
unfolding Ends
ends_some [] h = absurd h
ends_some (e ∷ es) h = omega arith

-- an empty line, `---`, an empty line and lines, behind lines of which there is one
led_rule : (es : List (List ℕ)) → 0 < length es → led ([] ∷ bytes "---" ∷ [] ∷ es) ≡ bytes "\n\n---\n\n" ++ join LF es
unfolding led
led_rule [] h = absurd (omega arith)
led_rule (e ∷ es) h = rw (join-led e es)

pub join_rule : (i : ℕ) (ls es : List (List ℕ)) → (i ≡ 0 → ls ≡ []) → (0 < i → 0 < length ls) → 0 < length es
    → join LF (join_lines ls es) ≡ join LF ls ++ (rule_before i ++ join LF es)
unfolding join
join_rule zero ls es n s h = rw (n refl)
join_rule (suc i) [] es n s h = let z : 0 < length {A = List ℕ} [] = s (omega arith) in absurd (omega arith)
join_rule (suc i) (l ∷ ls) es n s h = text_more (l ∷ ls) ([] ∷ bytes "---" ∷ [] ∷ es) (omega arith) ∙ ap (λ (k : List ℕ). join LF (l ∷ ls) ++ k) (led_rule es h)

-- lines and some more are some
pub join-some : (ls es : List (List ℕ)) → 0 < length es → 0 < length (join_lines ls es)
join-some [] es h = h
join-some (l ∷ ls) es h = omega arith
