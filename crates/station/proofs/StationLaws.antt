-- Laws of a record, of a line by its number, and of the path of a region's opener. Assumes nothing.
use Prim.Native.Nat.{ℕ, zero, suc, ◌+◌, ◌-◌, ◌≤◌, ◌<◌}
use mathlib.Core.Path.{◌≡◌, refl, sym, ◌∙◌, ap, subst}
use mathlib.Core.Bool.{Bool, false}
use mathlib.Core.List.{List, [], ◌∷◌, ◌++◌}
use native.Mathlib.Omega.{arith}
use borrow.Author.Tests.{eqb-false}
use lib.Dec.{eqb}
use lib.ListN.{length, set, get_or, length-append}
use lib.Seq.{sets}
use Rattle.text.specs.Lines.{LF}
use Rattle.buffer.specs.Decimal.{decimal}
use Rattle.buffer.proofs.BufferLaws.{sets_append}
use Rattle.marker.specs.Marker.{kind_of}
use Rattle.marker.specs.declared.line.Fragment.{Fragment}
use Rattle.marker.specs.declared.line.Kind.TheVariants.{Opens}
use Rattle.regions.proofs.PlaceLaws.{InKind, kind-path}
use Rattle.station.specs.Station.{TAB, record_line, nth_line, shown_byte, shown_up_to}

pub line-none : (k : ℕ) (x : List (List ℕ)) {n : List ℕ} → nth_line k x ≡ n → k ≡ 0 → [] ≡ n
unfolding nth_line
line-none k x h q = rw q at h

-- the line that lines start with, those behind it, and none behind the last
pub line-here : (k : ℕ) {x ls : List (List ℕ)} {l n : List ℕ} → nth_line k x ≡ n → x ≡ l ∷ ls → k ≡ 1 → l ≡ n
unfolding nth_line
line-here k h e q = rw (q, e) at h

pub line_on : (k : ℕ) {x ls : List (List ℕ)} {l n : List ℕ} → nth_line k x ≡ n → x ≡ l ∷ ls → 1 < k → nth_line (k - 1) ls ≡ n
unfolding nth_line
line_on zero h e q = absurd (omega arith)
line_on (suc zero) h e q = absurd (omega arith)
line_on (suc (suc k)) h e q = let z : suc (suc k) - 1 ≡ suc k = omega arith in rw z (rw e at h)

pub line-past : (k : ℕ) {x : List (List ℕ)} {l n : List ℕ} → nth_line k x ≡ n → x ≡ l ∷ [] → 1 < k → [] ≡ n
unfolding nth_line
line-past zero h e q = absurd (omega arith)
line-past (suc zero) h e q = absurd (omega arith)
line-past (suc (suc k)) h e q = rw e at h

-- a piece that is not the last ends before an LF
pub piece_more : (last : Bool) (e n : ℕ) → last ≡ eqb e n → last ≡ false → e ≤ n → e + 1 ≤ n
piece_more last e n p q h = let z = eqb-false e n (sym p ∙ q) in omega arith

pub named-opens : (l : List ℕ) (p : Fragment) → kind_of false false 0 l ≡ Opens p → (p.path.start ≤ p.path.end) × (p.path.end ≤ length l)
named-opens l p q =
    let w : InKind 14 (length l) (Opens p) = subst (InKind 14 (length l)) q (kind-path false false 0 l (length l) (omega arith)) in
    omega arith

behind : (l a b : List ℕ) (i j : ℕ) {m : List ℕ} → m ≡ sets l i a → j ≡ i + length a → sets m j b ≡ sets l i (a ++ b)
behind l a b i j p q = rw (p, q) (sets_append l a b i)

pub record_put :
    (l name : List ℕ) (start size at : ℕ) {l₁ l₂ l₃ : List ℕ} {i j k : ℕ} → l₁ ≡ sets l at name → i ≡ at + length name
    → l₂ ≡ sets l₁ i (TAB ∷ decimal start) → j ≡ i + length (TAB ∷ decimal start) → l₃ ≡ sets l₂ j (TAB ∷ decimal size) → k ≡ j + length (TAB ∷ decimal size)
    → set l₃ k LF ≡ sets l at (record_line name start size)
record_put l name start size at {l₁} {l₂} {l₃} {i} {j} {k} p₁ q₁ p₂ q₂ p₃ q₃ =
    behind l₂ (TAB ∷ decimal size) (LF ∷ []) j k p₃ q₃
    ∙ (behind l₁ (TAB ∷ decimal start) ((TAB ∷ decimal size) ++ (LF ∷ [])) i j p₂ q₂
    ∙ behind l name ((TAB ∷ decimal start) ++ ((TAB ∷ decimal size) ++ (LF ∷ []))) at i p₁ q₁)

pub record_length : (name : List ℕ) (start size : ℕ) → length (record_line name start size) ≡ length name + (length (decimal start) + (length (decimal size) + 3))
record_length name start size =
    omega (arith, length-append name ((TAB ∷ decimal start) ++ ((TAB ∷ decimal size) ++ (LF ∷ []))), length-append (TAB ∷ decimal start) ((TAB ∷ decimal size) ++ (LF ∷ [])), length-append (TAB ∷ decimal size) (LF ∷ []))

-- one byte more is shown
pub shown-length : (n : ℕ) (s : List ℕ) → length (shown_up_to n s) ≡ length s
unfolding shown_up_to
shown-length zero s = refl
shown-length (suc n) [] = refl
shown-length (suc n) (x ∷ s) = ap suc (shown-length n s)

shown-next : (n : ℕ) (s : List ℕ) → n < length s → get_or (shown_up_to n s) n 0 ≡ get_or s n 0
unfolding shown_up_to
shown-next zero s h = refl
shown-next (suc n) [] h = refl
shown-next (suc n) (x ∷ s) h = shown-next n s (omega arith)

shown_more : (n : ℕ) (s : List ℕ) → n < length s → set (shown_up_to n s) n (shown_byte (get_or s n 0)) ≡ shown_up_to (n + 1) s
unfolding shown_up_to
shown_more n [] h = absurd (omega arith)
shown_more zero (x ∷ s) h = refl
shown_more (suc n) (x ∷ s) h = let z : suc n + 1 ≡ suc (n + 1) = omega arith in rw z (ap (λ (l : List ℕ). shown_byte x ∷ l) (shown_more n s (omega arith)))

pub shown_turn : (i : ℕ) (s₀ : List ℕ) {s : List ℕ} {b : ℕ} → s ≡ shown_up_to i s₀ → i < length s₀ → b ≡ shown_byte (get_or s i 0) → set s i b ≡ shown_up_to (i + 1) s₀
shown_turn i s₀ p h q = rw (q, p, shown-next i s₀ h) (shown_more i s₀ h)

pub shown-none : (s : List ℕ) → s ≡ shown_up_to 0 s
unfolding shown_up_to
shown-none s = refl

-- what the proofs of the functions apply
pub ruleset showing = (shown-length, shown_turn, shown-none)

pub ruleset naming = (named-opens)

pub ruleset passing = (line-none, line-here, line_on, line-past, piece_more)
