-- A text that is put behind the running text of its host: what comes of it. Assumes nothing: these are definitions.
use Rattle.std.specs.Prelude.{ℕ, ◌≤◌, cond, List, ◌++◌, length, take, leb, Result, Ok, Err}
use Rattle.answer.specs.declared.Place.{Place}
use Rattle.answer.specs.declared.Refusal.{Refusal}
use Rattle.answer.specs.declared.Refusal.TheVariants.{TextLimit}
use Rattle.text.specs.Lines.{led}
use Rattle.walk.specs.Parts.{Part, good, flawed}

-- the running text with what is embedded, or a refusal
pub data Joined : Type 0 where
  joined : List ℕ → Joined
  stopped : Refusal → Joined

abbrev pub read_inserted : Result ℕ Refusal → List ℕ → Joined
read_inserted (Ok n) w = joined (take n w)
read_inserted (Err x) w = stopped x

-- a running text that is tested against the limit L at a place: 17, or it stands
abbrev pub tested : ℕ → Place → List ℕ → Joined
tested L p t = cond (leb (length t) L) (joined t) (stopped (TextLimit p))

-- lines behind a running text t, an LF before each, tested at the opener's place p
abbrev pub inserted_of : ℕ → List ℕ → Place → Part (List (List ℕ)) → Joined
inserted_of L t p (good es) = tested L p (t ++ led es)
inserted_of L t p (flawed x xs) = stopped x

abbrev pub Within : Result ℕ Refusal → ℕ → Type 0
Within (Ok n) L = n ≤ L
Within (Err x) L = Unit {0}
