-- Laws of the names of records: "1 to 255 bytes". Assumes nothing.
use Rattle.std.specs.Prelude.{Option, Some, None}
use Prim.Native.Nat.{ℕ, zero, suc, ◌≤◌, ◌<◌}
use native.Mathlib.Nat.{not-suc-le-zero}
use native.Mathlib.Omega.{arith}
use mathlib.Core.Path.{◌≡◌, refl, sym, ap, ◌∙◌}
use mathlib.Core.Bool.{Bool, true, false, cond, not, ◌&&◌}
use mathlib.Core.List.{List, [], ◌∷◌}
use lib.ListN.{length, get_or, length-take}
use lib.Dec.{leb}
use borrow.Author.Tests.{leb-true}
use Rattle.index.specs.declared.line.IndexLine.{IndexLine}
use Rattle.text.specs.Bytes.{any}
use Rattle.text.specs.Lines.{pieces}
use Rattle.text.specs.Split.{split}
use Rattle.text.proofs.BytesLaws.{part_full}
use Rattle.text.proofs.PatternLaws.{and_left, and_right}
use Rattle.index.specs.Index.{TAB, is_unprinted, is_name, field_of, numbered, fields, line_of, Record, recorded, records_from, records}
use Rattle.index.specs.Rows.{zero_row, record_of, AreShort, AreRows}
use Rattle.index.specs.declared.rows.Row.{Row}
use Rattle.std.proofs.lemmas.List.{length-map, get_or-map}

name-at-most : (s : List ℕ) → is_name s ≡ true → length s ≤ 255
unfolding is_name
name-at-most s e =
    leb-true (length s) 255 (and_right (leb 1 (length s)) (leb (length s) 255) (and_left (leb 1 (length s) && leb (length s) 255) (not (any is_unprinted s)) e))

fields-short : (ps : List (List ℕ)) (i : IndexLine) → fields ps ≡ Some i → i.name ≤ 255
fields-short [] i e = cc
fields-short (p ∷ []) i e = cc
fields-short (p ∷ f ∷ []) i e = cc
fields-short (p ∷ f ∷ g ∷ []) i e = go (is_name p) refl (field_of f) (field_of g) e
  where
    go : (b : Bool) → is_name p ≡ b → (x y : Option ℕ) → cond b (numbered (length p) x y) None ≡ Some i → i.name ≤ 255
    go true t (Some x) (Some y) h = let q : record { name = length p; start = x; size = y } ≡ i = cc in rw (← q) (name-at-most p t)
    go true t (Some x) None h = cc
    go true t None y h = cc
    go false t x y h = cc
fields-short (p ∷ f ∷ g ∷ q ∷ ps) i e = cc

-- of record k, counted from 0, whatever stands behind the last
records-short : (ls : List (List ℕ)) (k : ℕ) (d : Record) → k < length (records_from ls) → length (get_or (records_from ls) k d).name ≤ 255
unfolding records_from line_of
records-short [] k d h = absurd (not-suc-le-zero h)
records-short (l ∷ ls) k d h = go (fields (split TAB l)) refl k h (λ i j. records-short ls i d j)
  where
    go : (i : Option IndexLine) → fields (split TAB l) ≡ i → (k : ℕ) → k < length (recorded l i (records_from ls))
        → ((j : ℕ) → j < length (records_from ls) → length (get_or (records_from ls) j d).name ≤ 255)
        → length (get_or (recorded l i (records_from ls)) k d).name ≤ 255
    go (Some p) e zero t ih = omega (arith, length-take p.name l, fields-short (split TAB l) p e)
    go (Some p) e (suc j) t ih = ih j (omega arith)
    go None e j t ih = ih j t

-- the names that rows tell of
pub rows_short : {index : List ℕ} {rows : List Row} → AreRows index rows → AreShort rows
rows_short {index} {rows} a k d h =
    let r : Row = get_or rows k d in
    let none : Record = record_of index zero_row in
    let e : get_or (records index) k none ≡ record_of index r =
    ap (λ (rs : List Record). get_or rs k none) (sym a.same) ∙ get_or-map (record_of index) rows k d none h in
    let l : length rows ≡ length (records index) = sym (length-map rows (record_of index)) ∙ ap length a.same in
    let s : length (record_of index r).name ≤ 255 = rw e at (records-short (pieces index) k none (omega arith)) in
    omega (arith, part_full index r.name r.end (a.named k d h).1)
