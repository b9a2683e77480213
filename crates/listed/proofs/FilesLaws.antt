-- Laws of `specs/Files.antt`: once nothing is refused before the walk, the list lines name files, and the members that stand for them lie in index and contents and are these
-- files. Assumes nothing.
use Rattle.std.specs.Prelude.{Option, Some, None, is_some, Ok, All, slice_index_or}
use Prim.Native.Nat.{ℕ, zero, suc, ◌+◌, ◌≤◌, ◌<◌}
use native.Mathlib.Nat.{not-suc-le-zero}
use native.Mathlib.Omega.{arith}
use mathlib.Core.Path.{◌≡◌, refl, sym, ap, ◌∙◌}
use mathlib.Core.Bool.{false, cond}
use mathlib.Core.List.{List, [], ◌∷◌, map, map-map}
use lib.ListN.{length, take, get_or}
use Rattle.std.proofs.lemmas.List.{length-map, length-take-le, map_more, take_all}
use Rattle.std.proofs.lemmas.List.Elements.{All-map}
use Rattle.index.specs.Index.{Record, files_from as recordFiles, records, files, find_record}
use Rattle.index.specs.Rows.{zero_row, AreShort}
use Rattle.index.specs.FileSets.{files_of}
use Rattle.index.specs.declared.rows.Row.{Row}
use Rattle.index.specs.declared.file_set.FileSet.{FileSet}
use Rattle.index.proofs.RowsLaws.{files-length, rows-length, row-file, find-files}
use Rattle.fileset.specs.Members.{names, absent_from, record_found, members_from, members}
use Rattle.fileset.specs.Check.{book_checked}
use Rattle.fileset.proofs.PassedLaws.{book-named}
use Rattle.chains.specs.Chains.{file_at}
use Rattle.chains.proofs.GrowLaws.{find-within}
use Rattle.members.specs.Members.{name_of, file_in, all_files, Lies, Agree, AllLie}
use Rattle.members.specs.declared.Member.{Member}
use Rattle.members.proofs.MembersLaws.{map-each}
use Rattle.listed.specs.Files.{line_member, line_members, HaveRows, AreListed}

-- a name's record is one of them, and there is one for each name
found_below : (l : List ℕ) (rs : List Record) (k : ℕ) → find_record l rs ≡ Some k → k < length rs
found_below l rs k e = omega (arith, find-within l (recordFiles 1 [] rs) k (find-files l 1 [] rs ∙ e), files-length 1 [] rs)

members-below : (rs : List Record) (n : ℕ) (ls : List (List ℕ)) → absent_from n rs ls ≡ None → All (λ k. k < length rs) (members_from rs ls)
unfolding absent_from members_from
members-below rs n [] e = λ i d h. absurd (not-suc-le-zero h)
members-below rs n (l ∷ ls) e = go (find_record l rs) refl e (members-below rs (n + 1) ls)
  where
    go : (o : Option ℕ) → find_record l rs ≡ o → cond (is_some o) (absent_from (n + 1) rs ls) (Some n) ≡ None
        → (absent_from (n + 1) rs ls ≡ None → All (λ k. k < length rs) (members_from rs ls)) → All (λ k. k < length rs) (record_found o ∷ members_from rs ls)
    go None p q ih = λ i d h. cc
    go (Some k) p q ih = λ i d h. at_line i d h
      where
        at_line : (i d : ℕ) → i < suc (length (members_from rs ls)) → slice_index_or (k ∷ members_from rs ls) i d < length rs
        at_line zero d h = found_below l rs k p
        at_line (suc i) d h = ih q i d (omega arith)

-- once nothing is refused before the walk, the members of a list name files
pub are_listed : (index contents list url : List ℕ) (limit out work : ℕ) → book_checked index contents list url limit out work ≡ Ok tt
    → {lines : List ℕ} → lines ≡ members (records index) list → length lines ≤ 64 → AreListed (length (files index contents)) lines
are_listed index contents list url limit out work p e few =
    record { few = few; listed = rw (e, files-length 1 contents (records index)) (members-below (records index) 1 (names list) (book-named index contents list url limit out work p)) }

-- there is room for the next member
pub few_members : (rows : List Row) (lines : List ℕ) {ms : List Member} {i : ℕ} → ms ≡ line_members rows (take i lines) → i < length lines → length lines ≤ 64 → length ms < 64
few_members rows lines {ms} {i} e h few = omega (arith, ap length e ∙ length-map (take i lines) (line_member rows) ∙ length-take-le i lines (omega arith))

pub ruleset listing = (few_members, map_more, take_all, rows-length)

-- such members stand in the contents, and are the files that the lines name
module _ (files : FileSet) {lines : List ℕ} (l : AreListed (length (files_of files)) lines) where
  below : All (λ k. k < length files.rows.now) lines
  below i d h = omega (arith, l.listed i d h, rows-length files.index.now files.contents.now files.rows.now)

  pub have_rows : length files.contents.now ≤ 0xFFFFFFFFFFFFFFFF → HaveRows files.rows.now lines
  have_rows fits = record {
    few = l.few;
    listed = λ i d h. omega (arith, below i d h, files.few);
    ends = λ i d h. omega (arith, files.within (get_or lines i d) zero_row (below i d h));
  }

  pub lines-stand : All (λ m. m.source.work ≡ false) (line_members files.rows.now lines)
  lines-stand = All-map (λ m. m.source.work ≡ false) (line_member files.rows.now) lines (λ i d h. refl)

  pub all_lie : AreShort files.rows.now → (limit table : ℕ) → AllLie files.index.now (length files.contents.now) limit table (line_members files.rows.now lines)
  all_lie short limit table = record {
    few = omega (arith, length-map lines (line_member files.rows.now), l.few);
    lie = All-map (Lies (length files.index.now) (length files.contents.now) limit table) (line_member files.rows.now) lines (λ i d h. lies (get_or lines i d) (below i d h));
    same = All-map (λ m. All (Agree files.index.now m) (line_members files.rows.now lines)) (line_member files.rows.now) lines
        (λ i d h. All-map (Agree files.index.now (line_member files.rows.now (get_or lines i d))) (line_member files.rows.now) lines
        (λ j e k q. let z : get_or lines i d ≡ get_or lines j e = omega arith in ap (λ (n : ℕ). name_of files.index.now (line_member files.rows.now n)) z));
  }
    where
      lies : (k : ℕ) → k < length files.rows.now → Lies (length files.index.now) (length files.contents.now) limit table (line_member files.rows.now k)
      lies k b = record {
        forward = (files.named k zero_row b).0;
        named = (files.named k zero_row b).1;
        short = short k zero_row b;
        first = omega arith;
        last = omega (arith, files.few);
        inside = (omega arith, files.within k zero_row b);
      }

  pub files-same : (w : List ℕ) → all_files files.index.now files.contents.now w (line_members files.rows.now lines) ≡ map (file_at (files_of files)) lines
  files-same w =
      map-map (file_in files.index.now files.contents.now w) (line_member files.rows.now) lines
      ∙ map-each (λ k. file_in files.index.now files.contents.now w (line_member files.rows.now k)) (file_at (files_of files)) lines
      (λ i d h. sym (row-file files.index.now files.contents.now files.rows.now (get_or lines i d) (l.listed i d h)))
