-- The file that a name leads to. Assumes nothing.
use Rattle.std.specs.Prelude.{Some, None, Result, Ok, Err}
use Prim.Native.Nat.{ℕ, ◌≤◌, ◌<◌}
use native.Mathlib.Omega.{arith}
use mathlib.Core.Path.{◌≡◌, sym, ◌∙◌}
use mathlib.Core.Bool.{Bool, true, false}
use mathlib.Core.List.{List, []}
use lib.ListN.{get_or}
use borrow.Author.Tests.{lt-ltb, le-ltb}
use Rattle.text.specs.Pattern.{equals}
use Rattle.answer.specs.declared.Place.{Place}
use Rattle.answer.specs.declared.Refusal.{Refusal}
use Rattle.answer.specs.declared.Refusal.TheVariants.{OnChain, Absent, Allowance}
use Rattle.index.specs.Index.{find_record}
use Rattle.index.specs.Rows.{records_of, files_in}
use Rattle.index.specs.FileSets.{records_in}
use Rattle.index.specs.declared.records.Index.{Index}
use Rattle.index.specs.declared.rows.Row.{Row}
use Rattle.index.proofs.RowsLaws.{rows-length, find-files}
use Rattle.chains.specs.Chains.{next_named}
use Rattle.chains.proofs.GrowLaws.{find-within}
use Rattle.opening.specs.Opening.{named_of}

-- a file that is found is one of 64
pub find-few : (index : Index) (name : List ℕ) (d : ℕ) → Some d ≡ find_record name (records_in index) → d < 64
find-few index name d e =
    omega (arith, find-within name (files_in index.text.now [] index.rows.now) d (find-files name 1 [] (records_in index) ∙ sym e), rows-length index.text.now [] index.rows.now, index.few)

-- where a name leads: 13, 14, 15, or a file
module _ (index contents : List ℕ) (rows : List Row) (B used : ℕ) (top : List ℕ) (m : List Bool) (p : Place) (name : List ℕ) (off : equals top name ≡ false) where
  abbrev leading : Result ℕ Refusal
  leading = named_of B used p (next_named (files_in index contents rows) top m p name)

  pub named-absent : None ≡ find_record name (records_of index rows) → Err (Absent p) ≡ leading
  named-absent e = rw (off, find-files name 1 contents (records_of index rows), ← e)

  module _ (d : ℕ) (e : Some d ≡ find_record name (records_of index rows)) where
    pub named_marked : get_or m d false ≡ true → Err (OnChain p) ≡ leading
    named_marked h = rw (off, find-files name 1 contents (records_of index rows), ← e, h)

    pub named_spent : get_or m d false ≡ false → B ≤ used → Err (Allowance p) ≡ leading
    named_spent h k = rw (off, find-files name 1 contents (records_of index rows), ← e, h, le-ltb used B k)

    pub named-given : get_or m d false ≡ false → used < B → Ok d ≡ leading
    named-given h k = rw (off, find-files name 1 contents (records_of index rows), ← e, h, lt-ltb used B k)

pub ruleset leads = (find-few, named-absent, named_marked, named_spent, named-given)
