-- Members that are joined, for the functions. Nothing here is document 01's: functions promise it, and the laws of `proofs/` tie it to the walk.
use Rattle.std.specs.Prelude.{ℕ, ◌+◌, ◌≤◌, ◌<◌, ◌≡◌, List, [], ◌∷◌, length, take, Option, Some, None, Result, Ok, Err}
use Rattle.answer.specs.Answer.{place}
use Rattle.answer.specs.declared.Refusal.{Refusal}
use Rattle.answer.specs.declared.Refusal.TheVariants.{TextLimit}
use Rattle.text.specs.Lines.{LF}
use Rattle.text.specs.Split.{join}
use Rattle.walk.specs.Parts.{Part}
use Rattle.walk.specs.Steps.{Steps, refused, judge}
use Rattle.member.specs.Member.{Prepared}
use Rattle.target.specs.Titles.{titles_of}
use Rattle.emitted.specs.Emit.{emit}
use Rattle.assembled.specs.Assemble.{emit_all}
use Rattle.text.specs.Pattern.{bytes}
use Rattle.path.specs.Path.{parent_dir}
use Rattle.link.specs.Target.{rewrite_target}
use Rattle.members.specs.Members.{name_of, prepared_in, AllStand, AllKnown}
use Rattle.members.specs.declared.Assembly.{Assembly}
use Rattle.members.specs.declared.Member.{Member}
use Rattle.put.specs.Running.{Grown, between}
use Rattle.put.specs.declared.running.RunningText.{RunningText}

-- what joins member i to the text before it
abbrev pub rule_before : ℕ → List ℕ
rule_before i = between i (bytes "\n\n---\n\n")

-- members are prepared, and a text can be put up to the limit
pub record CanEmit (index contents : List ℕ) (ms : List Member) (limit : ℕ) (work : List ℕ) : Type 0 where
  pub stand : AllStand index (length contents) limit (length work) ms
  pub known : AllKnown contents work ms
  pub fits : limit ≤ length work

-- the same of an assembly beside a running text
abbrev pub Emits : RunningText → Assembly → Type 0
Emits r a = CanEmit a.index.now r.contents.now a.members.now r.limit r.work.now

-- a member of it once it is prepared; what becomes of a member; and of the target of a link in a member
abbrev pub prepared_of : RunningText → Assembly → Member → Prepared
prepared_of r a m = prepared_in a.index.now r.contents.now r.work.now m

abbrev pub emit_of : RunningText → Assembly → Prepared → Part (List (List ℕ))
emit_of r a = emit (titles_of r a) a.url.now

abbrev pub target_of : RunningText → Assembly → Member → List ℕ → List ℕ
target_of r a m = rewrite_target (titles_of r a) a.url.now (parent_dir (name_of a.index.now m))

-- a member's answer from what was put
abbrev pub put_answer : ℕ → Option (Unit {0}) → Result (Unit {0}) Refusal
put_answer file (Some u) = Ok u
put_answer file None = Err (TextLimit (place file 0))

-- the lines of i members make the text t, the last of them being file k; from them on the walk comes to what the whole comes to
pub record Running (L : ℕ) (f : Prepared → Part (List (List ℕ))) (whole : Steps (List ℕ)) (k : ℕ) (ms : List Prepared) (i : ℕ) (t : List ℕ) : Type 0 where
  pub lines : List (List ℕ)
  pub made : join LF lines ≡ t
  pub none : i ≡ 0 → lines ≡ []
  pub some : 0 < i → 0 < length lines
  pub left : (B n : ℕ) → judge B L n (emit_all f k ms lines) ≡ judge B L n whole

-- a member is put behind the text, or the whole is refused
pub record IsAdded (f : Prepared → Part (List (List ℕ))) (whole : Steps (List ℕ)) (k : ℕ) (ms : List Prepared) (i : ℕ) (old new : RunningText) : Type 0 where
  pub next : Running old.limit f whole k ms i (take new.at new.work.now)
  pub made : List ℕ
  pub grown : Grown made old new

abbrev pub Added : (Prepared → Part (List (List ℕ))) → Steps (List ℕ) → ℕ → List Prepared → ℕ → RunningText → RunningText → Result (Unit {0}) Refusal → Type 0
Added f whole k ms i old new (Ok u) = IsAdded f whole k ms i old new
Added f whole k ms i old new (Err x) = (B n : ℕ) → judge B old.limit n whole ≡ refused x

-- member m, which is member i, behind the text so far, whatever the members after it
abbrev pub AddedBehind : (Prepared → Part (List (List ℕ))) → Prepared → ℕ → RunningText → RunningText → Result (Unit {0}) Refusal → Type 0
AddedBehind f m i old new r =
    (whole : Steps (List ℕ)) (k : ℕ) (ms : List Prepared) → Running old.limit f whole k (m ∷ ms) i (take old.at old.work.now) → Added f whole m.file ms (i + 1) old new r
