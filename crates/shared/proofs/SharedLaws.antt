-- Laws of members that are compared, one after the other. Assumes nothing.
use Rattle.std.specs.Prelude.{Option, Some}
use Rattle.std.proofs.lemmas.List.{take_more, map_more, at_drop_more, at_drop_all}
use Prim.Native.Nat.{ℕ, ◌+◌, ◌≤◌, ◌<◌}
use mathlib.Core.Path.{◌≡◌, refl, sym, ap, ◌∙◌}
use mathlib.Core.List.{List, [], ◌∷◌, ◌++◌}
use lib.ListN.{length, take, drop, get_or}
use Rattle.answer.specs.declared.Place.{Place}
use Rattle.answer.specs.declared.Refusal.{Refusal}
use Rattle.answer.specs.declared.Refusal.TheVariants.{SharedAnchor}
use Rattle.text.specs.Bytes.{part}
use Rattle.member.specs.Member.{Prepared}
use Rattle.members.specs.Members.{prepared_in, all_prepared, AllStand}
use Rattle.members.specs.declared.Member.{Member}
use Rattle.members.proofs.MembersLaws.{prepared_up, prepared_same, source_up, stand_take}
use Rattle.shared.specs.Shared.{shared_in, shared_from}
use Rattle.shared.specs.Tells.{Tells, SharedOf}

-- refusals of members in order, by the first member
module _ (qs : List Prepared) (m : Prepared) (ms : List Prepared) where
  pub from-none : shared_in qs m 1 m.lines ≡ [] → shared_from qs (m ∷ ms) ≡ shared_from (qs ++ (m ∷ [])) ms
  unfolding shared_from
  from-none e = rw e

  pub from_some : (x : Refusal) (xs : List Refusal) → shared_in qs m 1 m.lines ≡ x ∷ xs → shared_from qs (m ∷ ms) ≡ x ∷ (xs ++ shared_from (qs ++ (m ∷ [])) ms)
  unfolding shared_from
  from_some x xs e = rw e

-- the members before member i are compared, and the work buffer was w₀ and is w
pub record Compared (index contents : List ℕ) (ms : List Member) (table stop : ℕ) (w₀ w : List ℕ) (i : ℕ) : Type 0 where
  pub long : length w ≡ length w₀
  pub same : take table w ≡ take table w₀
  pub tells : Tells (part table stop w) (all_prepared index contents w₀ (take i ms))
  pub left : shared_from [] (all_prepared index contents w₀ ms) ≡ shared_from (all_prepared index contents w₀ (take i ms)) (all_prepared index contents w₀ (drop i ms))

pub compared_start : (index contents : List ℕ) (ms : List Member) (table stop : ℕ) (w : List ℕ) → Compared index contents ms table stop w w 0
unfolding Tells
compared_start index contents ms table stop w = record { long = refl; same = refl; tells = tt; left = refl }

-- member i stands behind those before it
pub turn_stand : {index : List ℕ} {n limit stop : ℕ} {ms : List Member} {i : ℕ} → AllStand index n limit stop ms → i < length ms → (d : Member)
    → AllStand index n limit stop (take i ms ++ (get_or ms i d ∷ []))
turn_stand {ms = ms} {i = i} all h d = rw (take_more ms i d h) at (stand_take (i + 1) all)

module _ {index contents : List ℕ} {ms : List Member} {table stop : ℕ} {w₀ w : List ℕ} {i : ℕ}
    (all : AllStand index (length contents) 0 table ms) (x : Compared index contents ms table stop w₀ w i) where
  pub compared_end : length ms ≤ i → shared_from [] (all_prepared index contents w₀ ms) ≡ []
  unfolding shared_from
  compared_end h = x.left ∙ at_drop_all (λ l. shared_from (all_prepared index contents w₀ (take i ms)) (all_prepared index contents w₀ l)) ms i h

  -- as the work buffer was before the table was made
  pub entry_found : (w₁ : List ℕ) → take table w₀ ≡ take table w₁ → (r : Option (Place × Place))
      → SharedOf (shared_from [] (all_prepared index contents w₀ ms)) r → SharedOf (shared_from [] (all_prepared index contents w₁ ms)) r
  entry_found w₁ e r f = rw (prepared_up contents w₀ w₁ all e) at f

  before_is : all_prepared index contents w (take i ms) ≡ all_prepared index contents w₀ (take i ms)
  before_is = prepared_up contents w w₀ (stand_take i all) x.same

  pub turn_tells : Tells (part table stop w) (all_prepared index contents w (take i ms))
  turn_tells = rw before_is x.tells

  module _ (h : i < length ms) (d : Member) where
    abbrev member : Member
    member = get_or ms i d

    -- what is compared with what, as the work buffer is and as it was
    abbrev qs : List ℕ → List Prepared
    qs v = all_prepared index contents v (take i ms)

    abbrev mine : List ℕ → Prepared
    mine v = prepared_in index contents v member

    member_is : mine w ≡ mine w₀
    member_is = let s = all.stand i d h in prepared_same index contents w w₀ member s (source_up member.source 0 (length contents) table contents w w₀ s.lies.inside x.same)

    found-is : shared_in (qs w) (mine w) 1 (mine w).lines ≡ shared_in (qs w₀) (mine w₀) 1 (mine w₀).lines
    found-is =
        ap (λ (ps : List Prepared). shared_in ps (mine w) 1 (mine w).lines) before_is
        ∙ ap (λ (m : Prepared). shared_in (qs w₀) m 1 m.lines) member_is

    left_at : shared_from [] (all_prepared index contents w₀ ms) ≡ shared_from (qs w₀) (mine w₀ ∷ all_prepared index contents w₀ (drop (i + 1) ms))
    left_at = x.left ∙ at_drop_more (λ l. shared_from (qs w₀) (all_prepared index contents w₀ l)) ms i d h

    pub turn_next : (u : List ℕ) → length u ≡ length w → take table u ≡ take table w → shared_in (qs w) (mine w) 1 (mine w).lines ≡ []
        → Tells (part table stop u) (all_prepared index contents w (take i ms ++ (member ∷ []))) → Compared index contents ms table stop w₀ u (i + 1)
    turn_next u l e n t = record {
      long = l ∙ x.long;
      same = e ∙ x.same;
      tells = rw (take_more ms i d h) (rw (prepared_up contents w w₀ (turn_stand all h d) x.same) at t);
      left =
          left_at
          ∙ from-none (qs w₀) (mine w₀) (all_prepared index contents w₀ (drop (i + 1) ms)) (sym found-is ∙ n)
          ∙ ap (λ (ps : List Prepared). shared_from ps (all_prepared index contents w₀ (drop (i + 1) ms))) (sym (map_more (prepared_in index contents w₀) ms i d h));
    }

    pub turn_found : {r : Place × Place} → SharedOf (shared_in (qs w) (mine w) 1 (mine w).lines) (Some r) → SharedOf (shared_from [] (all_prepared index contents w₀ ms)) (Some r)
    turn_found {r} f = (
      f.0 ++ shared_from (qs w₀ ++ (mine w₀ ∷ [])) (all_prepared index contents w₀ (drop (i + 1) ms)),
      left_at ∙ from_some (qs w₀) (mine w₀) (all_prepared index contents w₀ (drop (i + 1) ms)) (SharedAnchor r.0 r.1) f.0 (sym found-is ∙ f.1),
    )
