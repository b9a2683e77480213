-- The refusals before the walk, and their places: what holds of each of them holds of the one that is given. Assumes nothing.
use Rattle.std.specs.Prelude.{Option, Some, None, is_some, Result, Ok, Err}
use Prim.Native.Nat.{ℕ, ◌+◌, ◌≤◌}
use native.Mathlib.Omega.{arith}
use mathlib.Core.Path.{◌≡◌, refl}
use mathlib.Core.Bool.{Bool, true, false, cond, not}
use mathlib.Core.List.{List, [], ◌∷◌, ◌++◌}
use lib.ListN.{length}
use lib.Dec.{eqb, ltb}
use Rattle.answer.specs.Answer.{place}
use Rattle.answer.specs.declared.Refusal.{Refusal}
use Rattle.answer.specs.declared.Refusal.TheVariants.{IndexLine, TooManyRecords, PastContents, NameTwice, WideByte, NameForm, ListForm, Sizes, Absent}
use Rattle.text.specs.Ascii.{wide_line}
use Rattle.text.proofs.AsciiLaws.{wide_least}
use Rattle.text.specs.Lines.{pieces}
use Rattle.index.specs.Index.{is_name, line_of, is_fields, ill_formed_from, ill_formed, Record, records, file_text, find_record}
use Rattle.index.specs.Records.{past_from, twice_from, wide_or, wide_from}
use Rattle.fileset.specs.Members.{names, is_list, absent_from}
use Rattle.fileset.specs.Check.{in_order, refuse_if, refuse_at, refuse_sizes, are_sizes, index_checked, head_checked, list_checked, fill_checked, book_checked}

-- P of refusals 1 to 6 and 8, at lines from 1 and among so many records
pub record HeadPlaces (P : Refusal → Type 0) (n : ℕ) : Type 0 where
  pub index_line : (l : ℕ) → 1 ≤ l → P (IndexLine l)
  pub too_many : P TooManyRecords
  pub past : (l : ℕ) → 1 ≤ l → P (PastContents l)
  pub twice : (l : ℕ) → 1 ≤ l → P (NameTwice l)
  pub wide : (f l : ℕ) → 1 ≤ f → f ≤ n → 1 ≤ l → P (WideByte (place f l))
  pub name : P NameForm
  pub sizes : P Sizes

-- a line that is found is one from the first on
abbrev From : ℕ → Option ℕ → Type 0
From n o = (l : ℕ) → o ≡ Some l → n ≤ l

from_later : {m n : ℕ} {o : Option ℕ} → n ≤ m → From m o → From n o
from_later k h l e = omega (arith, h l e)

from_this : (n : ℕ) → From n (Some n)
from_this n l e = let q : n ≡ l = cc in omega arith

from_none : (n : ℕ) → From n None
from_none n l e = cc

from_cond : {n : ℕ} (b : Bool) {o p : Option ℕ} → From n o → From n p → From n (cond b o p)
from_cond true h k = h
from_cond false h k = k

ill-line : (n : ℕ) (ls : List (List ℕ)) → From n (ill_formed_from n ls)
unfolding ill_formed_from
ill-line n [] = from_none n
ill-line n (l ∷ []) = from_cond (eqb (length l) 0) (from_none n) (from_this n)
ill-line n (l ∷ m ∷ ls) = from_cond (is_fields (line_of l)) (from_later (omega arith) (ill-line (n + 1) (m ∷ ls))) (from_this n)

past-line : (n room : ℕ) (rs : List Record) → From n (past_from n room rs)
unfolding past_from
past-line n room [] = from_none n
past-line n room (r ∷ rs) = from_cond (ltb room (r.start + r.size)) (from_this n) (from_later (omega arith) (past-line (n + 1) room rs))

twice-line : (n : ℕ) (qs rs : List Record) → From n (twice_from n qs rs)
unfolding twice_from
twice-line n qs [] = from_none n
twice-line n qs (r ∷ rs) = from_cond (is_some (find_record r.name qs)) (from_this n) (from_later (omega arith) (twice-line (n + 1) (qs ++ (r ∷ [])) rs))

absent-line : (n : ℕ) (rs : List Record) (ls : List (List ℕ)) → From n (absent_from n rs ls)
unfolding absent_from
absent-line n rs [] = from_none n
absent-line n rs (l ∷ ls) = from_cond (is_some (find_record l rs)) (from_later (omega arith) (absent-line (n + 1) rs ls)) (from_this n)

module _ (P : Refusal → Type 0) where
  abbrev Held : Result (Unit {0}) Refusal → Type 0
  Held (Ok tt) = Unit {0}
  Held (Err x) = P x

  held-order : (c d : Result (Unit {0}) Refusal) → Held c → Held d → Held (in_order c d)
  held-order (Ok tt) d h k = k
  held-order (Err x) d h k = h

  held-if : (b : Bool) (x : Refusal) → P x → Held (refuse_if b x)
  held-if true x h = h
  held-if false x h = tt

  held_at : {A : Type 0} (o : Option A) (f : A → Refusal) → ((a : A) → o ≡ Some a → P (f a)) → Held (refuse_at o f)
  held_at (Some a) f h = h a refl
  held_at None f h = tt

  module _ (n : ℕ) (h : HeadPlaces P n) where
    -- a wide byte in a file
    wide-held : (k : ℕ) (contents : List ℕ) (rs : List Record) → 1 ≤ k → k + length rs ≤ n + 1 → Held (refuse_at (wide_from k contents rs) WideByte)
    unfolding wide_from
    wide-held k contents [] a b = tt
    wide-held k contents (r ∷ rs) a b = go (wide_line 1 (file_text contents r)) refl (wide-held (k + 1) contents rs (omega arith) (omega arith))
      where
        go : (o : Option ℕ) → wide_line 1 (file_text contents r) ≡ o → Held (refuse_at (wide_from (k + 1) contents rs) WideByte)
            → Held (refuse_at (wide_or k o (wide_from (k + 1) contents rs)) WideByte)
        go (Some l) q ih = h.wide k l a (omega arith) (wide_least 1 (file_text contents r) l q)
        go None q ih = ih

    index-held : (index contents : List ℕ) → Held (index_checked index contents)
    unfolding index_checked
    index-held index contents =
        held-order (refuse_at (ill_formed index) IndexLine) _ (held_at (ill_formed index) IndexLine (λ l e. h.index_line l (ill-line 1 (pieces index) l e)))
        (held-order (refuse_if (ltb 64 (length (records index))) TooManyRecords) _ (held-if (ltb 64 (length (records index))) TooManyRecords h.too_many)
        (held-order (refuse_at (past_from 1 (length contents) (records index)) PastContents) _ (held_at (past_from 1 (length contents) (records index)) PastContents (λ l e. h.past l (past-line 1 (length contents) (records index) l e)))
        (held_at (twice_from 1 [] (records index)) NameTwice (λ l e. h.twice l (twice-line 1 [] (records index) l e)))))

    head-held : (index contents text url : List ℕ) → length (records index) ≡ n → Held (refuse_at (wide_line 1 text) (λ l. WideByte (place 0 l))) → Held (head_checked index contents text url)
    head-held index contents text url e w =
        held-order (index_checked index contents) _ (index-held index contents)
        (held-order (refuse_at (wide_line 1 text) (λ l. WideByte (place 0 l))) _ w
        (held-order (refuse_at (wide_from 1 contents (records index)) WideByte) _ (wide-held 1 contents (records index) (omega arith) (omega arith))
        (held-if (not (is_name url)) NameForm h.name)))

    sizes-held : (m k limit out work : ℕ) → Held (refuse_sizes m k limit out work)
    sizes-held m k limit out work = held-if (not (are_sizes m k limit out work)) Sizes h.sizes

  held-given : (c : Result (Unit {0}) Refusal) (x : Refusal) → Held c → c ≡ Err x → P x
  held-given (Ok tt) x h e = let z : ◌≡◌ {A = ℕ} 0 1 = cc in absurd (omega arith)
  held-given (Err y) x h e = let q : y ≡ x = cc in rw (← q) h

  -- a fill: 5 in the host too
  pub fill_held : (index contents name text : List ℕ) (limit out work : ℕ) (x : Refusal) → HeadPlaces P (length (records index)) → ((l : ℕ) → 1 ≤ l → P (WideByte (place 0 l)))
      → fill_checked index contents name text limit out work ≡ Err x → P x
  unfolding fill_checked
  fill_held index contents name text limit out work x h w e =
      held-given (in_order (head_checked index contents text name) (refuse_sizes (length (records index)) 0 limit out work)) x
      (held-order (head_checked index contents text name) _ (head-held (length (records index)) h index contents text name refl (held_at (wide_line 1 text) (λ l. WideByte (place 0 l)) (λ l q. w l (wide_least 1 text l q))))
      (sizes-held (length (records index)) h (length (records index)) 0 limit out work)) e

  -- an assembly or a book: 7, and 14 over the list
  pub book_held : (index contents list url : List ℕ) (limit out work : ℕ) (x : Refusal) → HeadPlaces P (length (records index)) → P ListForm → ((l : ℕ) → 1 ≤ l → P (Absent (place 0 l)))
      → book_checked index contents list url limit out work ≡ Err x → P x
  unfolding book_checked wide_line
  book_held index contents list url limit out work x h f a e =
      held-given (in_order (head_checked index contents [] url) (list_checked (records index) list limit out work)) x
      (held-order (head_checked index contents [] url) _ (head-held (length (records index)) h index contents [] url refl tt)
      (held-order (refuse_if (not (is_list list)) ListForm) _ (held-if (not (is_list list)) ListForm f)
      (held-order (refuse_sizes (length (records index)) (length (names list)) limit out work) _ (sizes-held (length (records index)) h (length (records index)) (length (names list)) limit out work)
      (held_at (absent_from 1 (records index) (names list)) (λ n. Absent (place 0 n)) (λ l q. a l (absent-line 1 (records index) (names list) l q)))))) e
