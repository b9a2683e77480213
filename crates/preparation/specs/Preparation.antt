-- Members that are prepared, for the functions. Nothing here is document 01's: functions promise it, and the laws of `proofs/` tie it to the walk.
use Rattle.std.specs.Prelude.{ℕ, ◌≡◌, List, All, Result, Ok, Err}
use Rattle.std.specs.List.{AllZip}
use Rattle.answer.specs.declared.Refusal.{Refusal}
use Rattle.walk.specs.Steps.{failed}
use Rattle.put.specs.Put.{Inside}
use Rattle.members.specs.Members.{all_files, AllKnown}
use Rattle.members.specs.declared.Member.{Member}
use Rattle.assembled.specs.Assemble.{prepare_all}

-- the texts of members lie in contents and a work buffer of so many bytes
abbrev pub CanPrepare : ℕ → ℕ → List Member → Type 0
CanPrepare contents work ms = All (λ m. Inside m.source 0 contents work) ms

-- members that differ at most in their outlines
pub record SameFile (old new : Member) : Type 0 where
  pub name : new.name ≡ old.name
  pub file : new.file ≡ old.file
  pub source : new.source ≡ old.source

-- all are prepared, or one is not
pub record ArePrepared (contents work : List ℕ) (old new : List Member) : Type 0 where
  pub same : AllZip SameFile old new
  pub known : AllKnown contents work new

abbrev pub ReadyOf : List ℕ → List ℕ → List Member → List Member → Result (Unit {0}) Refusal → Type 0
ReadyOf contents work old new (Ok tt) = ArePrepared contents work old new
ReadyOf contents work old new (Err x) = (index : List ℕ) → prepare_all (all_files index contents work old) ≡ failed x
