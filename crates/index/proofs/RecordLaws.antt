-- Laws of refusals 3 to 5 (`specs/Records.antt`) over the rows of the records: at a row, and behind the last. Assumes nothing.
use Rattle.std.specs.Prelude.{Option, Some, None, is_some, slice_index_or}
use Prim.Native.Nat.{ℕ, zero, suc, ◌+◌, ◌≤◌, ◌<◌}
use native.Mathlib.Nat.{not-suc-le-zero}
use native.Mathlib.Omega.{arith}
use mathlib.Core.Path.{◌≡◌, refl}
use mathlib.Core.Bool.{Bool, true, false, cond}
use mathlib.Core.List.{List, [], ◌∷◌}
use lib.ListN.{length, get_or, take, drop}
use lib.Dec.{ltb}
use borrow.Author.Tests.{lt-ltb, le-ltb, ltb-false}
use Rattle.answer.specs.Answer.{place}
use Rattle.text.specs.Ascii.{wide_line}
use Rattle.index.specs.Index.{Record, file_text, find_record}
use Rattle.index.specs.Rows.{zero_row, record_of, records_of, AreWithin}
use Rattle.index.specs.declared.rows.Row.{Row}
use Rattle.index.proofs.RowsLaws.{records-at, records-end, records_more}
use Rattle.index.specs.Records.{past_from, twice_from, wide_from}

-- at row k
module _ (index : List ℕ) (rows : List Row) (k : ℕ) (h : k < length rows) where
  abbrev here : Record
  here = record_of index (get_or rows k zero_row)

  pub past-here : (room : ℕ) → room < here.start + here.size → Some (k + 1) ≡ past_from (k + 1) room (records_of index (drop k rows))
  unfolding past_from
  past-here room t = rw (records-at index rows k h, lt-ltb room (here.start + here.size) t)

  pub past_on : (room : ℕ) → here.start + here.size ≤ room
      → past_from (k + 1 + 1) room (records_of index (drop (k + 1) rows)) ≡ past_from (k + 1) room (records_of index (drop k rows))
  unfolding past_from
  past_on room t = rw (records-at index rows k h, le-ltb room (here.start + here.size) t)

  module _ (contents : List ℕ) where
    pub wide_here : {line : ℕ} → Some line ≡ wide_line 1 (file_text contents here)
        → Some (place (k + 1) line) ≡ wide_from (k + 1) contents (records_of index (drop k rows))
    unfolding wide_from
    wide_here t = rw (records-at index rows k h, ← t)

    pub wide_on : None ≡ wide_line 1 (file_text contents here)
        → wide_from (k + 1 + 1) contents (records_of index (drop (k + 1) rows)) ≡ wide_from (k + 1) contents (records_of index (drop k rows))
    unfolding wide_from
    wide_on t = rw (records-at index rows k h, ← t)

  module _ {f : Option ℕ} (q : f ≡ find_record here.name (records_of index (take k rows))) where
    pub twice_here : is_some f ≡ true → Some (k + 1) ≡ twice_from (k + 1) (records_of index (take k rows)) (records_of index (drop k rows))
    unfolding twice_from
    twice_here t = rw (records-at index rows k h, ← q, t)

    pub twice_on : is_some f ≡ false
        → twice_from (k + 1 + 1) (records_of index (take (k + 1) rows)) (records_of index (drop (k + 1) rows))
        ≡ twice_from (k + 1) (records_of index (take k rows)) (records_of index (drop k rows))
    unfolding twice_from
    twice_on t = rw (records-at index rows k h, ← q, t, records_more index rows k h)

-- behind the last row
module _ (index : List ℕ) (rows : List Row) (k : ℕ) (h : length rows ≤ k) where
  pub past_end : (room : ℕ) → None ≡ past_from (k + 1) room (records_of index (drop k rows))
  unfolding past_from
  past_end room = rw (records-end index rows k h)

  pub wide_end : (contents : List ℕ) → None ≡ wide_from (k + 1) contents (records_of index (drop k rows))
  unfolding wide_from
  wide_end contents = rw (records-end index rows k h)

  pub twice_end : None ≡ twice_from (k + 1) (records_of index (take k rows)) (records_of index (drop k rows))
  unfolding twice_from
  twice_end = rw (records-end index rows k h)

-- no part ends past the contents
pub are_within : (index : List ℕ) (rows : List Row) (room n : ℕ) → past_from n room (records_of index rows) ≡ None → AreWithin room rows
unfolding past_from
are_within index [] room n e = λ k d h. absurd (not-suc-le-zero h)
are_within index (r ∷ rows) room n e = go (ltb room (r.start + r.size)) refl e (are_within index rows room (n + 1))
  where
    go : (b : Bool) → ltb room (r.start + r.size) ≡ b → cond b (Some n) (past_from (n + 1) room (records_of index rows)) ≡ None
        → (past_from (n + 1) room (records_of index rows) ≡ None → AreWithin room rows) → AreWithin room (r ∷ rows)
    go true t q ih = λ k d h. cc
    go false t q ih = λ k d h. at_row k d h
      where
        at_row : (k : ℕ) (d : Row) → k < suc (length rows) → (slice_index_or (r ∷ rows) k d).start + (slice_index_or (r ∷ rows) k d).size ≤ room
        at_row zero d h = ltb-false room (r.start + r.size) t
        at_row (suc k) d h = ih q k d (omega arith)

pub ruleset passing = (past-here, past_on, past_end)

pub ruleset wide = (wide_here, wide_on, wide_end)

pub ruleset twice = (twice_here, twice_on, twice_end)
