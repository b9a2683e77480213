-- What stands before a region's file, for the functions. Nothing here is document 01's: inner functions promise it, and the laws of `filling` tie it to the walk.
use Rattle.std.specs.Prelude.{ℕ, ◌≤◌, Bool, cond, List, ltb, take, Result, Ok, Err}
use Rattle.opening.specs.declared.Opened.{Opened}
use Rattle.answer.specs.declared.Place.{Place}
use Rattle.answer.specs.declared.Refusal.{Refusal}
use Rattle.answer.specs.declared.Refusal.TheVariants.{PeerWithoutHeading, Allowance}
use Rattle.regions.specs.declared.host.Opening.{Opening}
use Rattle.insertion.specs.Insertion.{Joined, joined, stopped, tested}
use Rattle.chains.specs.Chains.{Next, stop, on}

-- 13, 14, then 15, where n files are taken in before
abbrev pub named_of : ℕ → ℕ → Place → Next → Result ℕ Refusal
named_of B n p (stop x) = Err x
named_of B n p (on d) = cond (ltb n B) (Ok d) (Err (Allowance p))

-- what a region comes to before its file is filled: the text through the opener and the file, or a refusal
pub data Entry : Type 0 where
  enters : List ℕ → ℕ → Entry
  barred : Refusal → Entry

abbrev pub read_opened : Result Opened Refusal → List ℕ → Entry
read_opened (Ok p) w = enters (take p.length w) p.file
read_opened (Err x) w = barred x

abbrev pub OpenedWithin : Result Opened Refusal → ℕ → Type 0
OpenedWithin (Ok p) limit = p.length ≤ limit
OpenedWithin (Err x) limit = Unit {0}

abbrev pub entered : List ℕ → Result ℕ Refusal → Entry
entered t (Ok d) = enters t d
entered t (Err x) = barred x

abbrev pub joined_entry : Joined → (List ℕ → Entry) → Entry
joined_entry (joined t) k = k t
joined_entry (stopped x) k = barred x

-- 17 for the text t, 12, then 13, 14 and 15
unfoldable pub entry_of : ℕ → Place → Bool → List ℕ → Result ℕ Refusal → Entry
entry_of L p headless t r = joined_entry (tested L p t) (λ u. cond headless (barred (PeerWithoutHeading p)) (entered u r))

-- ---- what callers have to show

-- a region can be opened: the block and the path lie in a host of k bytes, and the limit in a buffer of w bytes
pub record CanOpen (k from : ℕ) (o : Opening) (len limit w : ℕ) : Type 0 where
  pub forward : from ≤ o.end
  pub within : o.end ≤ k
  pub path_forward : o.path.start ≤ o.path.end
  pub path_within : o.path.end ≤ k
  pub fits : len ≤ limit
  pub room : limit ≤ w
