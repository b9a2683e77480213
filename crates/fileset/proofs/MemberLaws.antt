-- Laws of `specs/Members.antt`: how many names a list has, a turn of the walk that finds their records and
-- what the form of a list tells. Assumes nothing.
use Rattle.std.specs.Prelude.{Some, None}
use Prim.Native.Nat.{ℕ, suc, ◌+◌, ◌-◌, ◌≤◌}
use native.Mathlib.Omega.{arith}
use mathlib.Core.Path.{◌≡◌, refl, ap, ◌∙◌}
use mathlib.Core.Bool.{Bool, true, false, cond, ◌||◌}
use mathlib.Core.List.{List, [], ◌∷◌, ◌++◌, append_assoc, append-nil}
use lib.ListN.{length}
use lib.Seq.{length-take-le}
use lib.Dec.{eqb, leb}
use borrow.Author.Tests.{leb-true}
use Rattle.text.specs.Bytes.{is, count}
use Rattle.text.specs.Lines.{LF, pieces}
use Rattle.text.specs.Pattern.{ends_with}
use Rattle.text.proofs.PatternLaws.{and_right}
use Rattle.text.proofs.SplitLaws.{split-count}
use Rattle.index.specs.Index.{Record, find_record}
use Rattle.fileset.specs.Members.{names, is_list, list_lines, absent_from, members_from}

-- as many names as LFs
pub names-count : (s : List ℕ) → length (names s) ≡ count (is LF) s
names-count s = length-take-le (length (pieces s) - 1) (pieces s) (omega arith) ∙ omega (arith, split-count LF s)

-- a turn of the walk: a name that a record has, and one that none has
module _ (rs : List Record) {l : List ℕ} {ls ns : List (List ℕ)} (e : ns ≡ l ∷ ls) where
  pub absent-not : (n k : ℕ) → find_record l rs ≡ Some k → absent_from (n + 1) rs ls ≡ absent_from n rs ns
  unfolding absent_from
  absent-not n k f = rw (e, f)

  pub absent-here : (n : ℕ) → find_record l rs ≡ None → Some n ≡ absent_from n rs ns
  unfolding absent_from
  absent-here n f = rw (e, f)

  pub members_more : (m : List ℕ) (k : ℕ) → find_record l rs ≡ Some k → (m ++ (k ∷ [])) ++ members_from rs ls ≡ m ++ members_from rs ns
  unfolding members_from
  members_more m k f = rw (e, f) (append_assoc m (k ∷ []) (members_from rs ls))

-- no name is left
module _ (rs : List Record) (n : ℕ) {ns : List (List ℕ)} (e : ns ≡ []) where
  pub absent_none : None ≡ absent_from n rs ns
  unfolding absent_from
  absent_none = rw e

  pub members-end : (m : List ℕ) → m ≡ m ++ members_from rs ns
  unfolding members_from
  members-end m = rw (e, append-nil)

-- a record for each name
pub members-length : (rs : List Record) (ls : List (List ℕ)) → length (members_from rs ls) ≡ length ls
unfolding members_from
members-length rs [] = refl
members-length rs (l ∷ ls) = ap suc (members-length rs ls)

-- what an answer tells
module _ (s : List ℕ) where
  pub lines_none : list_lines s ≡ None → is_list s ≡ false
  unfolding list_lines
  lines_none e = go (is_list s) e
    where
      go : (b : Bool) → cond b (Some (length (names s))) None ≡ None → b ≡ false
      go false h = refl
      go true h = cc

  pub lines_some : {n : ℕ} → list_lines s ≡ Some n → is_list s ≡ true
  unfolding list_lines
  lines_some {n} e = go (is_list s) e
    where
      go : (b : Bool) → cond b (Some (length (names s))) None ≡ Some n → b ≡ true
      go true h = refl
      go false h = cc

  pub lines_count : {n : ℕ} → list_lines s ≡ Some n → n ≡ length (names s)
  unfolding list_lines
  lines_count {n} e = go (is_list s) e
    where
      go : (b : Bool) → cond b (Some (length (names s))) None ≡ Some n → n ≡ length (names s)
      go true h = cc
      go false h = cc

-- a list has at most 64 names
pub list_short : (s : List ℕ) → is_list s ≡ true → length (names s) ≤ 64
list_short s e = leb-true (length (names s)) 64 (and_right (eqb (length s) 0 || ends_with (LF ∷ []) s) (leb (length (names s)) 64) e)

-- what the proofs of the functions apply
pub ruleset counting = (names-count)

pub ruleset walking = (absent-not, absent-here, absent_none, members_more, members-end)
