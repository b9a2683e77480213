-- Laws of the loop that emits members one behind the other. Assumes nothing.
use Rattle.std.specs.Prelude.{Option, Some, None, Result, Ok, Err, Contains}
use Rattle.std.proofs.Common.{drop-cons}
use Rattle.std.proofs.lemmas.List.{drop_all}
use Rattle.std.proofs.lemmas.List.Elements.{Contains-get_or}
use Prim.Native.Nat.{ℕ, ◌+◌, ◌≤◌, ◌<◌}
use native.Mathlib.Numerals.{add-one}
use native.Mathlib.Omega.{arith}
use mathlib.Core.Path.{◌≡◌, refl, sym, ap, subst}
use mathlib.Core.List.{List, [], ◌∷◌, ◌++◌}
use lib.ListN.{length, take, drop, get_or}
use Rattle.answer.specs.Answer.{place}
use Rattle.answer.specs.declared.Refusal.{Refusal}
use Rattle.answer.specs.declared.Refusal.TheVariants.{TextLimit}
use Rattle.text.specs.Split.{join}
use Rattle.walk.specs.Outcome.{refusal, outcome}
use Rattle.walk.specs.Parts.{Part}
use Rattle.walk.specs.Steps.{Steps, judge}
use Rattle.put.specs.Running.{Grown, Ran}
use Rattle.put.specs.declared.running.RunningText.{RunningText}
use Rattle.put.proofs.RunningLaws.{grown_none, grown_then}
use Rattle.text.specs.Lines.{LF}
use Rattle.member.specs.Member.{Prepared}
use Rattle.members.specs.Members.{all_prepared}
use Rattle.members.specs.declared.Assembly.{Assembly}
use Rattle.members.specs.declared.Member.{Member}
use Rattle.target.proofs.TitleLaws.{titles_same}
use Rattle.assembled.specs.Assemble.{assemble_prepared}
use Rattle.emitted.specs.Emit.{emit}
use Rattle.joining.specs.Joining.{Emits, emit_of, prepared_of, put_answer, Running, Added, AddedBehind}
use Rattle.assembly.specs.Parts.{read_assembled}
use Rattle.joining.proofs.StandLaws.{can_on, prepared_kept}
use Rattle.assembly.proofs.LastLaws.{last-put, last-over}

-- the members of an assembly from member i on, as they are prepared beside a running text; and the whole
abbrev from_member : Assembly → RunningText → ℕ → List Prepared
from_member a start i = all_prepared a.index.now start.contents.now start.work.now (drop i a.members.now)

abbrev whole_of : Assembly → RunningText → Steps (List ℕ)
whole_of a start = assemble_prepared a.url.now (all_prepared a.index.now start.contents.now start.work.now a.members.now)

-- the members before member i are emitted; the last of them is a file
pub record Emitting (a : Assembly) (start now : RunningText) (file i : ℕ) : Type 0 where
  pub made : List ℕ
  pub grown : Grown made start now
  pub run : Running start.limit (emit_of start a) (whole_of a start) file (from_member a start i) i (take now.at now.work.now)

pub emitting_start : (a : Assembly) (start : RunningText) → start.at ≡ 0 → Emitting a start start 0 0
unfolding join
emitting_start a start z = record {
  made = [];
  grown = grown_none start (omega arith);
  run = record { lines = []; made = rw z; none = λ z. refl; some = λ z. absurd (omega arith); left = λ B k. refl };
}

module _ {a : Assembly} {start now : RunningText} {file i : ℕ} (can : Emits start a) (e : Emitting a start now file i) where
  pub emitting_can : Emits now a
  emitting_can = can_on start a can e.grown

  -- the next member is put behind the text, or the whole is refused
  module _ (d : Member) (h : i < length a.members.now) where
    abbrev m : Member
    m = get_or a.members.now i d

    pub emitting_among : Contains a.members.now m
    emitting_among = Contains-get_or a.members.now i d h

    member-left : from_member a start i ≡ prepared_of start a m ∷ from_member a start (i + 1)
    member-left =
        let q : drop i a.members.now ≡ m ∷ drop (i + 1) a.members.now = rw add-one (drop-cons a.members.now i d h) in
        ap (all_prepared a.index.now start.contents.now start.work.now) q

    run-here : Running now.limit (emit_of start a) (whole_of a start) file (prepared_of start a m ∷ from_member a start (i + 1)) i (take now.at now.work.now)
    run-here = rw e.grown.limit (rw member-left at e.run)

    turn : (new : RunningText) (r : Result (Unit {0}) Refusal) → AddedBehind (emit_of now a) (prepared_of now a m) i now new r
        → Added (emit_of start a) (whole_of a start) m.file (from_member a start (i + 1)) (i + 1) now new r
    turn new r b =
        let emits : emit_of now a ≡ emit_of start a = ap (λ (t : List ℕ → Option (List ℕ)). emit t a.url.now) (titles_same can.stand e.grown) in
        let c = subst (λ (g : Prepared → Part (List (List ℕ))). AddedBehind g (prepared_of now a m) i now new r) emits b in
        let k = subst (λ (p : Prepared). AddedBehind (emit_of start a) p i now new r) (prepared_kept start a can e.grown emitting_among) c in
        k (whole_of a start) file (from_member a start (i + 1)) run-here

    pub emitting_next : {new : RunningText} → AddedBehind (emit_of now a) (prepared_of now a m) i now new (Ok tt) → Emitting a start new m.file (i + 1)
    emitting_next {new} b = let t = turn new (Ok tt) b in record { made = e.made ++ t.made; grown = grown_then e.grown t.grown; run = rw (← e.grown.limit) t.next }

    pub emitting_stops : (new : RunningText) (x : Refusal) → AddedBehind (emit_of now a) (prepared_of now a m) i now new (Err x)
        → (B k : ℕ) → refusal x ≡ outcome (judge B start.limit k (whole_of a start))
    emitting_stops new x b B k = ap outcome (sym (rw e.grown.limit at (turn new (Err x) b B k)))

  -- the last LF
  module _ (h : length a.members.now ≤ i) where
    run_last : Running now.limit (emit_of start a) (whole_of a start) file [] i (take now.at now.work.now)
    run_last = rw e.grown.limit (rw (drop_all i a.members.now h) at e.run)

    emitting_last : {new : RunningText} → Grown (LF ∷ []) now new → (B k : ℕ) → read_assembled k (Ok new.at) new.work.now ≡ outcome (judge B start.limit k (whole_of a start))
    emitting_last p B k = rw (← e.grown.limit) (last-put now e.grown.below emitting_can.fits run_last p B k)

    emitting_over : now.limit < now.at + 1 → (B k : ℕ) → refusal (TextLimit (place file 0)) ≡ outcome (judge B start.limit k (whole_of a start))
    emitting_over p B k = rw (← e.grown.limit) (last-over now e.grown.below emitting_can.fits run_last p B k)

    pub emitting_full : (new : RunningText) (r : Option (Unit {0})) → Ran (LF ∷ []) now new r → (x : Refusal) → put_answer file r ≡ Err x
        → (B k : ℕ) → refusal x ≡ outcome (judge B start.limit k (whole_of a start))
    emitting_full new (Some u) p x q = absurd (cc)
    emitting_full new None p x q = let z : TextLimit (place file 0) ≡ x = cc in rw (← z) (emitting_over p.over)

    pub emitting_ended : (new : RunningText) (r : Option (Unit {0})) → Ran (LF ∷ []) now new r → (u : Unit {0}) → put_answer file r ≡ Ok u
        → (v : List ℕ) → v ≡ new.work.now → (B k : ℕ) → read_assembled k (Ok new.at) v ≡ outcome (judge B start.limit k (whole_of a start))
    emitting_ended new (Some u) p w q v s B k = rw s (emitting_last p B k)
    emitting_ended new None p w q v s B k = absurd (cc)
