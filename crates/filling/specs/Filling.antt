-- Filling, for the functions. Nothing here is document 01's: inner functions promise it, and the laws of `proofs/` tie it to the walk.
use Rattle.std.specs.Prelude.{ℕ, suc, ◌+◌, ◌*◌, ◌≤◌, ◌<◌, ◌≡◌, Bool, true, false, List, [], length, take, get_or, set, Result, Ok, Err}
use Rattle.answer.specs.declared.Place.{Place}
use Rattle.text.specs.Lines.{pieces}
use Rattle.index.specs.Index.{File, file_of}
use Rattle.regions.specs.Hosts.{host_rest}
use Rattle.regions.specs.declared.host.HostCursor.{HostCursor}
use Rattle.shift.specs.Shift.{Told, told_lines}
use Rattle.walk.specs.Parts.{Part}
use Rattle.walk.specs.Steps.{Judged, given, refused, judge}
use Rattle.embedding.specs.Embed.{embedded_lines}
use Rattle.insertion.specs.Insertion.{Joined, joined, stopped, inserted_of}
use Rattle.answer.specs.declared.Answer.{Answer}
use Rattle.answer.specs.declared.Refusal.{Refusal}
use Rattle.answer.specs.declared.Answer.TheVariants.{Accepted, NoRegion}
use Rattle.filling.specs.declared.Filled.{Filled}
use Rattle.chains.specs.Chains.{Chain, Rest, file_at, through, free, chain, text_of}
use Rattle.walk.specs.Outcome.{Outcome, text, noRegion, refusal}
use Rattle.chains.specs.Fill.{walk_rest}

-- a fill's answer, with the buffer that begins with its text
abbrev pub read_filled : Result Answer Refusal → List ℕ → Outcome
read_filled (Ok (Accepted n f)) w = text (take n w) f
read_filled (Ok NoRegion) w = noRegion
read_filled (Err x) w = refusal x

-- the text of an answer is within the limit
abbrev pub FilledWithin : Result Answer Refusal → ℕ → Type 0
FilledWithin (Ok (Accepted n f)) limit = n ≤ limit
FilledWithin (Ok NoRegion) limit = Unit {0}
FilledWithin (Err x) limit = Unit {0}

-- a text that a fill has put, with the buffer that begins with it
abbrev pub read_text : Result Filled Refusal → List ℕ → Outcome
read_text (Ok x) w = text (take x.length w) x.files
read_text (Err x) w = refusal x

abbrev pub TextWithin : Result Filled Refusal → ℕ → Type 0
TextWithin (Ok x) limit = x.length ≤ limit
TextWithin (Err x) limit = Unit {0}

-- a running text with the files taken in, or a refusal
abbrev pub with_files : ℕ → Joined → Outcome
with_files n (joined t) = text t n
with_files n (stopped x) = refusal x

-- the chain that goes on to the file d
abbrev pub chain_to : List File → List ℕ → List Bool → ℕ → Chain
chain_to S top m d = chain S top (set m d true) (file_at S d)

-- what a fill came to is embedded by g behind the text t: the filled text, or the file's own text s with n files taken in, or its refusal
abbrev pub taken_in : ℕ → Place → List ℕ → (List Told → Part (List (List ℕ))) → List ℕ → ℕ → Outcome → Outcome
taken_in L p t g s n (text v k) = with_files k (inserted_of L t p (g (embedded_lines v)))
taken_in L p t g s n noRegion = with_files n (inserted_of L t p (g (told_lines (pieces s))))
taken_in L p t g s n (refusal x) = refusal x

-- the same of a judged walk
abbrev pub embedded_by : ℕ → Place → List ℕ → (List Told → Part (List (List ℕ))) → Judged (List ℕ) → Outcome
embedded_by L p t g (given v n) = with_files n (inserted_of L t p (g (embedded_lines v)))
embedded_by L p t g (refused x) = refusal x

-- ---- the loop of a fill

-- what is left of the chain behind a cursor of its last file, which has a name and a number
abbrev pub rest_at : List File → List ℕ → List Bool → List ℕ → List ℕ → ℕ → HostCursor → Rest
rest_at S top m name s k c = through S top m k (chain_to S top m) (host_rest (file_of k name s) c)

-- the lines put so far make the text t, up to place from of the host; from them on the walk comes to what the whole comes to
pub record Running (B L : ℕ) (whole : Judged (List ℕ)) (r : Rest) (from used : ℕ) (t : List ℕ) : Type 0 where
  pub lines : List (List ℕ)
  pub made : text_of lines ≡ t
  pub none : from ≡ 0 → lines ≡ []
  pub some : 0 < from → 0 < length lines
  pub left : judge B L used (walk_rest r lines) ≡ whole

-- a region came to a longer text, or the whole is refused
abbrev pub Turned : ℕ → ℕ → Judged (List ℕ) → Rest → ℕ → Outcome → Type 0
Turned B L whole r from (text u n) = Running B L whole r from n u
Turned B L whole r from noRegion = ⊥
Turned B L whole r from (refusal x) = whole ≡ refused x

-- ---- what callers have to show

-- what a fill gave can be embedded: its text lies past the limit
pub record CanTake (got : Result Answer Refusal) (target len limit w : ℕ) : Type 0 where
  pub given : FilledWithin got limit
  pub least : 1 ≤ target
  pub most : target ≤ 7
  pub fits : len ≤ limit
  pub room : limit + limit ≤ w

-- a file can be taken in: it is one of n and not on the chain m, and the buffer of w bytes has room for it and each other file that is not
pub record CanEmbed (m : List Bool) (n d : ℕ) (target len limit w : ℕ) : Type 0 where
  pub one : d < n
  pub off : get_or m d false ≡ false
  pub least : 1 ≤ target
  pub most : target ≤ 7
  pub fits : len ≤ limit
  pub room : suc (free (take n m)) * limit ≤ w
