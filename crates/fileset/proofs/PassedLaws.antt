-- What holds once nothing is refused before the walk. Assumes nothing.
use Rattle.std.specs.Prelude.{Option, Some, None, Result, Ok, Err}
use Prim.Native.Nat.{ℕ, ◌+◌, ◌*◌, ◌≤◌}
use native.Mathlib.Omega.{arith}
use mathlib.Core.Path.{◌≡◌, refl}
use mathlib.Core.Bool.{Bool, true, false, not, ◌&&◌}
use mathlib.Core.List.{List, []}
use lib.ListN.{length}
use lib.Dec.{leb, ltb}
use borrow.Author.Tests.{leb-true, ltb-false}
use Rattle.answer.specs.Answer.{place}
use Rattle.answer.specs.declared.Refusal.{Refusal}
use Rattle.answer.specs.declared.Refusal.TheVariants.{IndexLine, TooManyRecords, ListForm, Sizes, Absent}
use Rattle.index.specs.Index.{ill_formed, records, files}
use Rattle.index.proofs.RowsLaws.{files-length}
use Rattle.fileset.specs.Members.{names, is_list, absent_from}
use Rattle.fileset.specs.Check.{in_order, refuse_if, refuse_at, index_checked, head_checked, are_sizes, refuse_sizes, fill_checked, book_checked}

-- both of two checks pass
order-first : (c d : Result (Unit {0}) Refusal) → in_order c d ≡ Ok tt → c ≡ Ok tt
order-first (Ok tt) d e = refl
order-first (Err r) d e = let z : ◌≡◌ {A = ℕ} 0 1 = cc in absurd (omega arith)

order-second : (c d : Result (Unit {0}) Refusal) → in_order c d ≡ Ok tt → d ≡ Ok tt
order-second (Ok tt) d e = e
order-second (Err r) d e = let z : ◌≡◌ {A = ℕ} 0 1 = cc in absurd (omega arith)

refuse_not : (b : Bool) (r : Refusal) → refuse_if b r ≡ Ok tt → b ≡ false
refuse_not true r e = let z : ◌≡◌ {A = ℕ} 0 1 = cc in absurd (omega arith)
refuse_not false r e = refl

index_few : (index contents : List ℕ) → index_checked index contents ≡ Ok tt → length (records index) ≤ 64
unfolding index_checked
index_few index contents e =
    ltb-false 64 (length (records index)) (refuse_not (ltb 64 (length (records index))) TooManyRecords (order-first _ _ (order-second (refuse_at (ill_formed index) IndexLine) _ e)))

-- at most 64 files
pub book-few : (index contents list url : List ℕ) (limit out work : ℕ) → book_checked index contents list url limit out work ≡ Ok tt → length (files index contents) ≤ 64
unfolding book_checked
book-few index contents list url limit out work e =
    let h = index_few index contents (order-first (index_checked index contents) _ (order-first (head_checked index contents [] url) _ e)) in
    omega (arith, files-length 1 contents (records index))

-- the limit is no 0, the output has room for a text of L bytes, and the work buffer for one a record, a list line and two more
sizes_fit : (n m limit out work : ℕ) → refuse_sizes n m limit out work ≡ Ok tt → (1 ≤ limit) × ((limit ≤ out) × ((n + m + 2) * limit ≤ work))
sizes_fit n m limit out work e =
    go (leb 1 limit) (leb limit 1048576) (leb limit out) (leb ((n + m + 2) * limit) work) refl refl refl (refuse_not (not (are_sizes n m limit out work)) Sizes e)
  where
    go : (l a b c : Bool) → leb 1 limit ≡ l → leb limit out ≡ b → leb ((n + m + 2) * limit) work ≡ c → not ((l && a) && (b && c)) ≡ false
        → (1 ≤ limit) × ((limit ≤ out) × ((n + m + 2) * limit ≤ work))
    go true true true true o p q h = (leb-true 1 limit o, (leb-true limit out p, leb-true ((n + m + 2) * limit) work q))
    go true true true false o p q h = let z : ◌≡◌ {A = ℕ} 0 1 = cc in absurd (omega arith)
    go true true false c o p q h = let z : ◌≡◌ {A = ℕ} 0 1 = cc in absurd (omega arith)
    go true false b c o p q h = let z : ◌≡◌ {A = ℕ} 0 1 = cc in absurd (omega arith)
    go false a b c o p q h = let z : ◌≡◌ {A = ℕ} 0 1 = cc in absurd (omega arith)

pub fill_fit : (index contents name text : List ℕ) (limit out work : ℕ) → fill_checked index contents name text limit out work ≡ Ok tt
    → (1 ≤ limit) × ((limit ≤ out) × ((length (records index) + 0 + 2) * limit ≤ work))
unfolding fill_checked
fill_fit index contents name text limit out work e = sizes_fit (length (records index)) 0 limit out work (order-second (head_checked index contents text name) _ e)

pub book_fit : (index contents list url : List ℕ) (limit out work : ℕ) → book_checked index contents list url limit out work ≡ Ok tt
    → (1 ≤ limit) × ((limit ≤ out) × ((length (records index) + length (names list) + 2) * limit ≤ work))
unfolding book_checked
book_fit index contents list url limit out work e =
    sizes_fit (length (records index)) (length (names list)) limit out work (order-first _ _
    (order-second (refuse_if (not (is_list list)) ListForm) _ (order-second (head_checked index contents [] url) _ e)))

-- every name of the list is a record's
refuse_none : {A : Type 0} (o : Option A) (f : A → Refusal) → refuse_at o f ≡ Ok tt → o ≡ None
refuse_none (Some a) f e = let z : ◌≡◌ {A = ℕ} 0 1 = cc in absurd (omega arith)
refuse_none None f e = refl

pub book-named : (index contents list url : List ℕ) (limit out work : ℕ) → book_checked index contents list url limit out work ≡ Ok tt → absent_from 1 (records index) (names list) ≡ None
unfolding book_checked
book-named index contents list url limit out work e =
    refuse_none _ (λ n. Absent (place 0 n)) (order-second (refuse_sizes (length (records index)) (length (names list)) limit out work) _
    (order-second (refuse_if (not (is_list list)) ListForm) _ (order-second (head_checked index contents [] url) _ e)))
