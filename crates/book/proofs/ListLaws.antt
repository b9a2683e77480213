-- Once nothing is refused before the walk, the members are the files that the list names. Assumes nothing.
use Rattle.std.specs.Prelude.{Option, Some, None, is_some, Ok}
use Prim.Native.Nat.{ℕ, ◌+◌, ◌<◌}
use mathlib.Core.Path.{◌≡◌, refl, ◌∙◌}
use mathlib.Core.Bool.{cond}
use mathlib.Core.List.{List, [], ◌∷◌, map}
use lib.ListN.{length}
use Rattle.index.specs.Index.{Record, files_from, records, files, find_record}
use Rattle.fileset.specs.Members.{names, record_found, members_from, members, absent_from}
use Rattle.fileset.specs.Check.{book_checked}
use Rattle.fileset.proofs.PassedLaws.{book-named}
use Rattle.walk.proofs.HoldLaws.{Each}
use Rattle.index.proofs.RowsLaws.{find-files}
use Rattle.chains.proofs.GrowLaws.{find-within, find-name}
use Rattle.book.specs.Book.{members_of}

listed-names : (contents : List ℕ) (rs : List Record) (n : ℕ) (ls : List (List ℕ)) → absent_from n rs ls ≡ None
    → map (λ f. f.name) (members_of (files_from 1 contents rs) (members_from rs ls)) ≡ ls
unfolding absent_from members_from
listed-names contents rs n [] e = refl
listed-names contents rs n (l ∷ ls) e = go (find_record l rs) refl e (λ q. listed-names contents rs (n + 1) ls q)
  where
    go : (o : Option ℕ) → find_record l rs ≡ o → cond (is_some o) (absent_from (n + 1) rs ls) (Some n) ≡ None
        → (absent_from (n + 1) rs ls ≡ None → map (λ f. f.name) (members_of (files_from 1 contents rs) (members_from rs ls)) ≡ ls)
        → map (λ f. f.name) (members_of (files_from 1 contents rs) (record_found o ∷ members_from rs ls)) ≡ l ∷ ls
    go (Some k) p q ih = rw (find-name l (files_from 1 contents rs) k (find-files l 1 contents rs ∙ p), ih q)
    go None p q ih = cc

pub member_names : (index contents list url : List ℕ) (limit out work : ℕ) → book_checked index contents list url limit out work ≡ (Ok tt)
    → map (λ f. f.name) (members_of (files index contents) (members (records index) list)) ≡ names list
member_names index contents list url limit out work e =
    listed-names contents (records index) 1 (names list) (book-named index contents list url limit out work e)

-- and each is a file of the set
listed-within : (contents : List ℕ) (rs : List Record) (n : ℕ) (ls : List (List ℕ)) → absent_from n rs ls ≡ None → Each (λ k. k < length (files_from 1 contents rs)) (members_from rs ls)
unfolding absent_from members_from Each
listed-within contents rs n [] e = tt
listed-within contents rs n (l ∷ ls) e = go (find_record l rs) refl e (λ q. listed-within contents rs (n + 1) ls q)
  where
    go : (o : Option ℕ) → find_record l rs ≡ o → cond (is_some o) (absent_from (n + 1) rs ls) (Some n) ≡ None
        → (absent_from (n + 1) rs ls ≡ None → Each (λ k. k < length (files_from 1 contents rs)) (members_from rs ls))
        → (record_found o < length (files_from 1 contents rs)) × Each (λ k. k < length (files_from 1 contents rs)) (members_from rs ls)
    go (Some k) p q ih = (find-within l (files_from 1 contents rs) k (find-files l 1 contents rs ∙ p), ih q)
    go None p q ih = cc

pub members-within : (index contents list url : List ℕ) (limit out work : ℕ) → book_checked index contents list url limit out work ≡ (Ok tt)
    → Each (λ k. k < length (files index contents)) (members (records index) list)
members-within index contents list url limit out work e = listed-within contents (records index) 1 (names list) (book-named index contents list url limit out work e)
