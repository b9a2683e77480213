-- Laws of how an index is read into rows: line by line, judged and kept at once. Assumes nothing.
use Rattle.std.specs.Prelude.{Option, Some, None, Result, Ok, Err, IsOk, OnOk}
use Prim.Native.Nat.{ℕ, suc, ◌+◌, ◌-◌, ◌≤◌, ◌<◌}
use native.Mathlib.Nat.{add-zero, not-suc-le-zero}
use native.Mathlib.Decide.{dec_le}
use native.Mathlib.Omega.{arith}
use mathlib.Core.Path.{◌≡◌, refl, sym, ap, ◌∙◌}
use mathlib.Core.Bool.{Bool, true, false, cond}
use mathlib.Core.List.{List, [], ◌∷◌, ◌++◌, append_assoc, append-nil}
use lib.ListN.{length, take, drop, length-take}
use lib.Seq.{take-take}
use lib.Dec.{eqb}
use borrow.Author.Tests.{ne_eqb}
use Rattle.std.proofs.lemmas.List.{length-append, map-append}
use Rattle.std.proofs.lemmas.List.Elements.{All-push}
use Rattle.index.specs.declared.line.IndexLine.{IndexLine}
use Rattle.text.specs.Bytes.{part, is, first, count}
use Rattle.text.specs.Lines.{LF, pieces, ended}
use Rattle.text.specs.Split.{split}
use Rattle.text.proofs.BytesLaws.{first_le, part_length}
use Rattle.text.proofs.PieceLaws.{EndedAt, ended_at, ended_none}
use Rattle.text.proofs.SplitLaws.{split_step, split-last, split-count}
use Rattle.index.specs.Index.{TAB, Record, is_name, field_of, numbered, fields, is_fields, line_of, ill_formed_from, ill_formed, entry, recorded, records_from, records}
use Rattle.index.specs.Rows.{row, records_of, AreNamed, AreRows, judged, index_read}
use Rattle.index.specs.declared.rows.Row.{Row}
use Rattle.index.proofs.IndexLaws.{last_empty, last_open, next-piece}

-- the name is the first field of its line
fields-name : (p : List ℕ) (ps : List (List ℕ)) (i : IndexLine) → fields (p ∷ ps) ≡ Some i → i.name ≡ length p
fields-name p [] i e = cc
fields-name p (f ∷ []) i e = cc
fields-name p (f ∷ g ∷ []) i e = go (is_name p) (field_of f) (field_of g) e
  where
    go : (b : Bool) (x y : Option ℕ) → cond b (numbered (length p) x y) None ≡ Some i → i.name ≡ length p
    go true (Some x) (Some y) h = let q : record { name = length p; start = x; size = y } ≡ i = cc in rw (← q)
    go true (Some x) None h = cc
    go true None y h = cc
    go false x y h = cc
fields-name p (f ∷ g ∷ q ∷ ps) i e = cc

name-within : (l : List ℕ) (i : IndexLine) → line_of l ≡ Some i → i.name ≤ length l
unfolding line_of
name-within l i e = go (dec_le (length l) k)
  where
    k : ℕ
    k = first (is TAB) l

    go : Dec (length l ≤ k) → i.name ≤ length l
    go (yes h) = omega (arith, fields-name l [] i (rw (split-last TAB l (omega (arith, first_le (is TAB) l))) at e))
    go (no h) =
        omega (arith, length-take k l, fields-name (take k l) (split TAB (drop (suc k) l)) i (rw (split_step TAB l (omega arith)) at e))

name-part : (index : List ℕ) (a e n : ℕ) → a + n ≤ e → take n (part a e index) ≡ part a (a + n) index
name-part index a e n h =
    let k : n ≡ a + n - a = omega arith in
    take-take n (e - a) (drop a index) (omega arith) ∙ ap (λ (i : ℕ). take i (drop a index)) k

-- an empty line is no record
no_record : (l : List ℕ) → length l ≡ 0 → records_from (l ∷ []) ≡ []
unfolding records_from line_of split
no_record [] h = refl
no_record (x ∷ l) h = absurd (omega arith)

-- how far an index is read: its lines up to place a are n records, and the first 64 are in the rows
pub record Upto (index : List ℕ) (rows : List Row) (n a : ℕ) : Type 0 where
  pub within : a ≤ length index
  pub short : n ≤ a
  pub judged : ill_formed_from (n + 1) (pieces (drop a index)) ≡ ill_formed index
  pub counted : n + length (records_from (pieces (drop a index))) ≡ length (records index)
  pub kept : n ≤ 64 → length rows ≡ n
  pub same : n ≤ 64 → records_of index rows ++ records_from (pieces (drop a index)) ≡ records index
  pub named : n ≤ 64 → AreNamed index rows

pub read_start : (index : List ℕ) {rows : List Row} → rows ≡ [] → Upto index rows 0 0
read_start index e =
    rw e (record {
      within = omega arith;
      short = omega arith;
      judged = refl;
      counted = omega arith;
      kept = λ h. refl;
      same = λ h. refl;
      named = λ h k d i. absurd (not-suc-le-zero i);
    })

-- in an index that is not ill formed each piece but the last is a record, and the last is empty
recorded-length : (n : ℕ) (k : Option ℕ) (l : List ℕ) (rs : List Record) (o : Option IndexLine) → cond (is_fields o) k (Some n) ≡ None
    → (k ≡ None) × (length (recorded l o rs) ≡ suc (length rs))
recorded-length n k l rs (Some i) e = (e, refl)
recorded-length n k l rs None e = cc

pieces-length : (n : ℕ) (ls : List (List ℕ)) → 0 < length ls → ill_formed_from n ls ≡ None → suc (length (records_from ls)) ≡ length ls
unfolding ill_formed_from records_from line_of split
pieces-length n [] k e = absurd (not-suc-le-zero k)
pieces-length n ([] ∷ []) k e = refl
pieces-length n ((x ∷ l) ∷ []) k e = let z : Some n ≡ None = rw (ne_eqb (suc (length l)) 0 (λ q. omega arith)) at e in cc
pieces-length n (l ∷ m ∷ ls) k e =
    let r = recorded-length n (ill_formed_from (n + 1) (m ∷ ls)) l (records_from (m ∷ ls)) (line_of l) e in
    ap suc (r.1 ∙ pieces-length (n + 1) (m ∷ ls) (omega arith) r.0)

-- so it has as many records as LFs
pub records-count : (index : List ℕ) → ill_formed index ≡ None → count (is LF) index ≡ length (records index)
records-count index e =
    let l = pieces-length 1 (pieces index) (omega (arith, split-count LF index)) e in
    omega (arith, split-count LF index)

-- what is answered
read_bad : (index : List ℕ) {n : ℕ} → Some n ≡ ill_formed index → Err n ≡ index_read index
unfolding index_read
read_bad index e = rw (← e)

read_good : (index : List ℕ) {n : ℕ} → None ≡ ill_formed index → n ≡ length (records index) → Ok n ≡ index_read index
unfolding index_read
read_good index z e = rw (← z, e)

-- and what an answer tells
module _ (index : List ℕ) {n : ℕ} where
  pub read_line : Err n ≡ index_read index → ill_formed index ≡ Some n
  unfolding index_read
  read_line e = go (ill_formed index) e
    where
      go : (o : Option ℕ) → Err n ≡ judged o (length (records index)) → o ≡ Some n
      go (Some line) h = cc
      go None h = cc

  pub read_none : Ok n ≡ index_read index → ill_formed index ≡ None
  unfolding index_read
  read_none e = go (ill_formed index) e
    where
      go : (o : Option ℕ) → Ok n ≡ judged o (length (records index)) → o ≡ None
      go (Some line) h = cc
      go None h = refl

  pub read_records : Ok n ≡ index_read index → n ≡ length (records index)
  unfolding index_read
  read_records e = go (ill_formed index) e
    where
      go : (o : Option ℕ) → Ok n ≡ judged o (length (records index)) → n ≡ length (records index)
      go (Some line) h = cc
      go None h = cc

-- what follows the last LF; and of the lines that an LF ends, one that is ill formed, and a record
module _ {index : List ℕ} {rows : List Row} {n a : ℕ} (u : Upto index rows n a) {left : List (List ℕ)} (q : left ≡ ended (drop a index)) where
  module _ (p : left ≡ []) where
    last : pieces (drop a index) ≡ part a (length index) index ∷ []
    last = ended_none index a u.within (sym q ∙ p)

    pub read_open : a < length index → Err (n + 1) ≡ index_read index
    read_open h = read_bad index (last_open index (n + 1) a (length index) last h (omega arith) ∙ u.judged)

    module _ (h : length index ≤ a) where
      at-end : a ≡ length index
      at-end = omega (arith, u.within)

      none_left : records_from (pieces (drop a index)) ≡ []
      none_left = rw last (no_record (part a (length index) index) (omega (arith, part_length index a (length index))))

      pub read_all : Ok n ≡ index_read index
      read_all = read_good index (last_empty index (n + 1) a (length index) last at-end ∙ u.judged) (rw (none_left, add-zero) at u.counted)

      pub told_all : n ≤ 64 → AreRows index rows
      told_all few = record { same = rw (none_left, append-nil) at (u.same few); named = u.named few }

  module _ {l : List ℕ} {more : List (List ℕ)} (p : left ≡ l ∷ more) where
    line : EndedAt index a l more
    line = ended_at index a u.within (sym q ∙ p)

    behind : a + (length l + 1) ≡ a + length l + 1
    behind = omega arith

    pub lines_more : more ≡ ended (drop (a + (length l + 1)) index)
    lines_more = rw behind line.more

    pub read_ill : line_of l ≡ None → Err (n + 1) ≡ index_read index
    read_ill h = read_bad index (sym (rw (← line.whole, h) at (next-piece index (n + 1) a (a + length l) line.piece)) ∙ u.judged)

    module _ {i : IndexLine} (h : line_of l ≡ Some i) where
      pub name_within : a + i.name ≤ length index
      name_within = omega (arith, name-within l i h, line.before)

      name : take i.name l ≡ part a (a + i.name) index
      name = ap (take i.name) line.whole ∙ name-part index a (a + length l) i.name (omega (arith, name-within l i h))

      one_more : records_from (pieces (drop a index)) ≡ entry (take i.name l) i.start i.size ∷ records_from (pieces (drop (a + length l + 1) index))
      unfolding records_from
      one_more = rw (line.piece, ← line.whole, h)

      abbrev here : Row
      here = row a (a + i.name) i.start i.size

      pub read_turn : {rows' : List Row} → (length rows < 64 → rows' ≡ rows ++ here ∷ []) → Upto index rows' (n + 1) (a + (length l + 1))
      read_turn {rows'} push =
          let added : n + 1 ≤ 64 → rows' ≡ rows ++ here ∷ [] = λ few. push (omega (arith, u.kept (omega arith))) in
          rw behind (record {
            within = omega (arith, line.before);
            short = omega (arith, u.short);
            judged = sym (rw (← line.whole, h) at (next-piece index (n + 1) a (a + length l) line.piece)) ∙ u.judged;
            counted = omega (arith, u.counted, ap length one_more);
            kept = λ few. ap length (added few) ∙ omega (arith, length-append rows (here ∷ []), u.kept (omega arith));
            same = λ few. rw (added few, map-append, append_assoc, ← name, ← one_more) (u.same (omega arith));
            named = λ few. rw (added few) (All-push (λ (r : Row). (r.name ≤ r.end) × (r.end ≤ length index)) rows here (u.named (omega arith)) (omega arith, name_within));
          })

-- what a push tells
pub push_ok : {T E : Type 0} (r : Result T E) (P : Type 0) → IsOk r → OnOk r P → P
push_ok (Ok _) P h p = p
push_ok (Err _) P h p = absurd (cc h)

pub ruleset reading = (read_start, read_open, read_all, read_ill, name_within)
