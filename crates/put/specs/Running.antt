-- What is put into a running text. Nothing here is document 01's: inner functions promise it.
use Rattle.std.specs.Prelude.{ℕ, zero, suc, ◌+◌, ◌≤◌, ◌<◌, ◌≡◌, List, [], length, Option, Some, None}
use Rattle.std.proofs.lemmas.List.Edits.{sets}
use Rattle.put.specs.Put.{Inside, source_text}
use Rattle.put.specs.declared.Source.{Source}
use Rattle.put.specs.declared.running.RunningText.{RunningText}

-- the next piece goes up to the limit, which lies in the work buffer
abbrev pub Fits : RunningText → Type 0
Fits r = (r.at ≤ r.limit) × (r.limit ≤ length r.work.now)

-- the bytes of a source; and it can be read while pieces are put. Functions ask for that, and no type holds it: it relates a source to the running text, which changes at each put.
abbrev pub text_of : RunningText → Source → List ℕ
text_of r source = source_text source r.contents.now r.work.now

pub record Reads (r : RunningText) (source : Source) : Type 0 where
  pub inside : Inside source r.limit (length r.contents.now) (length r.work.now)
  pub below : r.at ≤ r.limit
  pub fits : r.limit ≤ length r.work.now

-- what a running text keeps whatever is put into it
pub record Kept (old new : RunningText) : Type 0 where
  pub contents : new.contents.now ≡ old.contents.now
  pub limit : new.limit ≡ old.limit
  pub long : length new.work.now ≡ length old.work.now

-- x was put into a running text
pub record Grown (x : List ℕ) (old new : RunningText) : Type 0 where
  pub contents : new.contents.now ≡ old.contents.now
  pub place : new.at ≡ old.at + length x
  pub below : new.at ≤ new.limit
  pub limit : new.limit ≡ old.limit
  pub long : length new.work.now ≡ length old.work.now
  pub wrote : new.work.now ≡ sets old.work.now old.at x

-- x goes over the limit of a running text; some of it may be put by then
pub record Over (x : List ℕ) (old new : RunningText) : Type 0 where
  pub contents : new.contents.now ≡ old.contents.now
  pub limit : new.limit ≡ old.limit
  pub long : length new.work.now ≡ length old.work.now
  pub over : old.limit < old.at + length x

-- x was put into a running text, or goes over its limit
abbrev pub Ran : List ℕ → RunningText → RunningText → Option (Unit {0}) → Type 0
Ran x old new (Some _) = Grown x old new
Ran x old new None = Over x old new

-- what stands before piece n of a sequence: x, but nothing before the first
abbrev pub between : ℕ → List ℕ → List ℕ
between zero x = []
between (suc n) x = x
