-- The answers of the leaf calls on links and on the file set as six numbers. Assumes nothing: these are definitions.
use Rattle.std.specs.Prelude.{ℕ, min, ◌≤◌, cond, List, [], ◌∷◌, ◌≡◌, length, drop, leb, Option, Some, None, Result, Ok, Err}
use Rattle.std.proofs.lemmas.List.Edits.{sets}
use Rattle.text.specs.declared.part.Part.{Part}
use Rattle.answer.specs.Answer.{numbers}
use Rattle.answer.specs.declared.Refusal.{Refusal}
use Rattle.answer.specs.declared.Answer.TheVariants.{Accepted}
use Rattle.link.specs.Links.{FoundLink}
use Rattle.link.specs.Target.{anchor_self}
use Rattle.leaf.specs.Leaf.{one}

-- a text at the front of an output that has room for it
abbrev pub written : List ℕ → List ℕ → List ℕ
written s out = cond (leb (length s) (length out)) (sets out 0 s) out

-- a link: 1, and where its target starts and ends; none: 0
abbrev pub link_numbers : Option Part → List ℕ
link_numbers (Some p) = 1 ∷ p.start ∷ p.end ∷ 0 ∷ 0 ∷ 0 ∷ []
link_numbers None = one 0

pub record NextAnswer (line : List ℕ) (from : ℕ) (answer : List ℕ) : Type 0 where
  pub found : Option Part
  pub next : FoundLink line (min from (length line)) found
  pub same : answer ≡ link_numbers found

-- from which place on a target's bytes stay
pub record SelfAnswer (host dir target : List ℕ) (answer : List ℕ) : Type 0 where
  pub from : ℕ
  pub within : from ≤ length target
  pub kept : drop from target ≡ anchor_self host dir target
  pub same : answer ≡ one from

-- a target: 0, or 1 and where its path ends
abbrev pub target_numbers : Option ℕ → List ℕ
target_numbers None = one 0
target_numbers (Some e) = 1 ∷ e ∷ 0 ∷ 0 ∷ 0 ∷ 0 ∷ []

-- checks passed: six zeros; else the refusal's numbers
abbrev pub check_numbers : Result (Unit {0}) Refusal → List ℕ
check_numbers (Ok tt) = numbers (Ok (Accepted 0 0))
check_numbers (Err r) = numbers (Err r)
