-- Laws of an assembly whose members are prepared, and then compared. Assumes nothing.
use Prim.Native.Nat.{ℕ, ◌≤◌}
use native.Mathlib.Omega.{arith}
use mathlib.Core.Path.{◌≡◌, sym, ap, ◌∙◌}
use mathlib.Core.List.{List, [], ◌∷◌}
use lib.ListN.{length, take}
use Rattle.answer.specs.declared.Place.{Place}
use Rattle.answer.specs.declared.Refusal.{Refusal}
use Rattle.answer.specs.declared.Refusal.TheVariants.{SharedAnchor}
use Rattle.index.specs.Index.{File}
use Rattle.walk.specs.Outcome.{Outcome, refusal, outcome}
use Rattle.walk.specs.Steps.{done, failed, go, refused, judge}
use Rattle.member.specs.Member.{Prepared}
use Rattle.members.specs.Members.{all_files, all_prepared, AllLie, AllStand, AllKnown}
use Rattle.members.specs.declared.Member.{Member}
use Rattle.members.proofs.MembersLaws.{prepared_up, source_up}
use Rattle.shared.specs.Shared.{shared_from}
use Rattle.assembled.specs.Assemble.{prepare_all, assemble_prepared, assemble}
use Rattle.preparation.specs.Preparation.{ArePrepared}
use Rattle.joining.specs.Joining.{CanEmit}
use Rattle.preparation.proofs.PrepareLaws.{prepared_all, prepared_stand}
use Rattle.preparation.proofs.WideLaws.{stand_wide}
use Rattle.joining.proofs.StandLaws.{known_each}

-- the walk, by what is prepared and what is shared
module _ (B L n : ℕ) (url : List ℕ) (hs : List File) where
  assemble-stops : (x : Refusal) → prepare_all hs ≡ failed x → judge B L n (assemble url hs) ≡ refused x
  unfolding assemble go judge
  assemble-stops x e = rw e

  assemble-shares : (ms : List Prepared) (x : Refusal) (xs : List Refusal) → prepare_all hs ≡ done ms → shared_from [] ms ≡ x ∷ xs → judge B L n (assemble url hs) ≡ refused x
  unfolding assemble go judge
  assemble-shares ms x xs e q = rw (e, q)

  assemble-goes : (ms : List Prepared) → prepare_all hs ≡ done ms → shared_from [] ms ≡ [] → judge B L n (assemble url hs) ≡ judge B L n (assemble_prepared url ms)
  unfolding assemble go
  assemble-goes ms e q = rw (e, q)

-- members that were compared can be emitted
can_emit : (index contents : List ℕ) (ms : List Member) (limit table : ℕ) (v w : List ℕ) → AllStand index (length contents) limit table ms → AllKnown contents w ms
    → take table v ≡ take table w → limit ≤ table → table ≤ length v → CanEmit index contents ms limit v
can_emit index contents ms limit table v w a k q h l = record {
  stand = stand_wide limit table limit (length v) (omega arith) l a;
  known = known_each contents v w ms (λ i d j. source_up _ limit (length contents) table contents v w (a.stand i d j).lies.inside q) k;
  fits = omega arith;
}

-- 18
pub whole_stops : (index contents w : List ℕ) (old : List Member) (url : List ℕ) (x : Refusal) → prepare_all (all_files index contents w old) ≡ failed x
    → (B L k : ℕ) → refusal x ≡ outcome (judge B L k (assemble url (all_files index contents w old)))
whole_stops index contents w old url x e B L k = sym (ap outcome (assemble-stops B L k url (all_files index contents w old) x e))

module _ {index contents : List ℕ} {limit table : ℕ} {old new : List Member} {w : List ℕ} (a : AllLie index (length contents) limit table old) (p : ArePrepared contents w old new) where
  pub compare-stand : AllStand index (length contents) 0 table new
  compare-stand = stand_wide limit table 0 table (omega arith) (omega arith) (prepared_stand a p)

  -- 19
  pub whole_shares : (url : List ℕ) (x y : Place) (xs : List Refusal) → shared_from [] (all_prepared index contents w new) ≡ SharedAnchor x y ∷ xs
      → (B L k : ℕ) → refusal (SharedAnchor x y) ≡ outcome (judge B L k (assemble url (all_files index contents w old)))
  whole_shares url x y xs e B L k =
      sym (ap outcome (assemble-shares B L k url (all_files index contents w old) (all_prepared index contents w new) (SharedAnchor x y) xs (prepared_all a p) e))

  -- else they are emitted, from a buffer that is the same up to the table
  module _ (v : List ℕ) (same : take table v ≡ take table w) where
    pub whole-emit : limit ≤ table → table ≤ length v → CanEmit index contents new limit v
    whole-emit h l = can_emit index contents new limit table v w (prepared_stand a p) p.known same h l

    pub whole-goes : (url : List ℕ) → shared_from [] (all_prepared index contents w new) ≡ [] → (B L k : ℕ) (o : Outcome)
        → o ≡ outcome (judge B L k (assemble_prepared url (all_prepared index contents v new))) → o ≡ outcome (judge B L k (assemble url (all_files index contents w old)))
    whole-goes url e B L k o q =
        q
        ∙ ap (λ (ms : List Prepared). outcome (judge B L k (assemble_prepared url ms))) (prepared_up contents v w (prepared_stand a p) same)
        ∙ sym (ap outcome (assemble-goes B L k url (all_files index contents w old) (all_prepared index contents w new) (prepared_all a p) e))
