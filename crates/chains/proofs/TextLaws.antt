-- The text that a fill gives is within the limit. Assumes nothing.
use Prim.Native.Nat.{ℕ, suc, ◌≤◌}
use native.Mathlib.Omega.{arith}
use mathlib.Core.Path.{◌≡◌, refl}
use mathlib.Core.Bool.{Bool, true, false, cond}
use mathlib.Core.List.{List, [], ◌++◌}
use lib.ListN.{length}
use lib.Dec.{leb, ltb}
use borrow.Author.Tests.{leb-true}
use Rattle.answer.specs.declared.Place.{Place}
use Rattle.answer.specs.declared.Refusal.{Refusal}
use Rattle.answer.specs.declared.Refusal.TheVariants.{Allowance, TextLimit}
use Rattle.walk.specs.Parts.{Part, good, flawed}
use Rattle.walk.specs.Steps.{Judged, given, refused, judge}
use Rattle.walk.proofs.StepsLaws.{judge_then}
use Rattle.embedding.specs.Embed.{embed}
use Rattle.chains.specs.Chains.{Chain, wrong, plain, host, Rest, last, shut, into, headed, text_of}
use Rattle.walk.specs.Outcome.{text, outcome}
use Rattle.chains.specs.Fill.{walk, walk_rest, filled}
use Rattle.chains.proofs.FillLaws.{or_fault, judge_after, judge_shut, judge_into, judge-last}

clash : {t : List ℕ} {n : ℕ} {x : Refusal} → refused x ≡ given t n → ⊥
clash e = let z : ◌≡◌ {A = ℕ} 0 1 = cc in omega arith

-- a text that is given passed its last test
module _ (B L : ℕ) where
  abbrev Fits : Judged (List ℕ) → Type 0
  Fits j = (t : List ℕ) (n : ℕ) → j ≡ given t n → length t ≤ L

  tested : (b : Bool) (j : Judged (List ℕ)) (x : Refusal) → Fits j → Fits (cond b j (refused x))
  tested true j x h = h
  tested false j x h = λ t n e. absurd (clash e)

  through-part : {A : Type 0} (y : Part A) (k : A → Judged (List ℕ)) → ((a : A) → Fits (k a)) → Fits (or_fault y k)
  through-part (good a) k h = h a
  through-part (flawed x xs) k h = λ t n e. absurd (clash e)

  through-judge : (j : Judged (List ℕ)) (k : List ℕ → ℕ → Judged (List ℕ)) → ((v : List ℕ) (n : ℕ) → Fits (k v n)) → Fits (judge_then j k)
  through-judge (given v m) k h = h v m
  through-judge (refused x) k h = λ t n e. absurd (clash e)

  last_fits : (us : List ℕ) (n : ℕ) (p : Place) (b : Bool) → leb (length us) L ≡ b → Fits (cond b (given us n) (refused (TextLimit p)))
  last_fits us n p true q t m e = let w : us ≡ t = cc in rw (← w) (leb-true (length us) L q)
  last_fits us n p false q t m e = absurd (clash e)

  rest-fits : (r : Rest) (n : ℕ) (ls : List (List ℕ)) → Fits (judge B L n (walk_rest r ls))
  rest-fits (last us p) n ls = rw (judge-last B L n us ls p) (last_fits (text_of (ls ++ us)) n p (leb (length (text_of (ls ++ us))) L) refl)
  rest-fits (shut g x r) n ls =
      rw (judge_shut B L n g r ls x) (tested (leb (length (text_of (ls ++ g.before))) L) _ (TextLimit g.opener) (through-part (headed g) (λ u. refused x) (λ u t m e. absurd (clash e))))
  rest-fits (into g d c r) n ls =
      rw (judge_into B L n g r ls d c)
      (tested (leb (length (text_of (ls ++ g.before))) L) _ (TextLimit g.opener)
      (through-part (headed g) _ (λ u. tested (ltb n B) _ (Allowance g.opener)
      (through-judge (judge B L (suc n) (walk c)) (judge_after B L g d r (ls ++ g.before))
      (λ v m. through-part (embed g d v) _ (λ es. tested (leb (length (text_of ((ls ++ g.before) ++ es))) L) _ (TextLimit g.opener) (rest-fits r m ((ls ++ g.before) ++ es))))))))

outcome-given : (j : Judged (List ℕ)) (t : List ℕ) (n : ℕ) → outcome j ≡ text t n → j ≡ given t n
outcome-given (given a m) t n e = let p : a ≡ t = cc in let q : m ≡ n = cc in rw (p, q)
outcome-given (refused x) t n e = let z : ◌≡◌ {A = ℕ} 0 1 = cc in absurd (omega arith)

-- a fill's text is within the limit
pub filled-fits : (B L n : ℕ) (c : Chain) (t : List ℕ) (m : ℕ) → filled B L n c ≡ text t m → length t ≤ L
unfolding walk judge
filled-fits B L n (wrong x xs r) t m e = absurd (clash (outcome-given (judge B L n (walk (wrong x xs r))) t m e))
filled-fits B L n (plain s) t m e = let z : ◌≡◌ {A = ℕ} 0 1 = cc in absurd (omega arith)
filled-fits B L n (host r) t m e = rest-fits B L r n [] t m (outcome-given (judge B L n (walk_rest r [])) t m e)
