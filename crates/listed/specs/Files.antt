-- The members that list lines name, each as it stands in the contents. Nothing here is document 01's: inner functions promise it, and the laws of `proofs/` tie it to the members.
use Rattle.std.specs.Prelude.{ℕ, ◌+◌, ◌≤◌, ◌<◌, false, List, length, map, get_or, All, None}
use Rattle.index.specs.Rows.{zero_row}
use Rattle.index.specs.declared.rows.Row.{Row}
use Rattle.outline.specs.declared.Outline.{Outline}
use Rattle.members.specs.declared.Member.{Member}

abbrev pub no_outline : Outline
no_outline = record { end = 0; title = record { start = 0; end = 0 }; levels = None }

-- the member that is the file of record k, counted from 0, by its row, before it is prepared
abbrev pub member_of : ℕ → Row → Member
member_of k r = record {
  name = record { start = r.name; end = r.end };
  file = k + 1;
  source = record { work = false; start = r.start; end = r.start + r.size };
  outline = no_outline;
}

-- the member of a list line, which has the number of its record, counted from 0; and of each line
abbrev pub line_member : List Row → ℕ → Member
line_member rows k = member_of k (get_or rows k zero_row)

abbrev pub line_members : List Row → List ℕ → List Member
line_members rows lines = map (line_member rows) lines

-- lines name rows, and the files of these end at a number of 64 bits
pub record HaveRows (rows : List Row) (lines : List ℕ) : Type 0 where
  pub few : length lines ≤ 64
  pub listed : All (λ k. k < 64) lines
  pub ends : All (λ k. (get_or rows k zero_row).start + (get_or rows k zero_row).size ≤ 0xFFFFFFFFFFFFFFFF) lines

-- the lines name some of n files
pub record AreListed (n : ℕ) (lines : List ℕ) : Type 0 where
  pub few : length lines ≤ 64
  pub listed : All (λ k. k < n) lines
