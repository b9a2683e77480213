-- Laws of members that stand in their buffers, and of a work buffer that changes beside them. Assumes nothing.
use Rattle.std.specs.Prelude.{Option, All, Contains}
use Rattle.std.proofs.lemmas.List.Elements.{All-contains}
use Prim.Native.Nat.{ℕ, ◌≤◌, ◌<◌}
use native.Mathlib.Omega.{arith}
use mathlib.Core.Path.{◌≡◌, sym, subst}
use mathlib.Core.List.{List}
use lib.ListN.{length, drop, get_or}
use Rattle.put.specs.Put.{source_text}
use Rattle.put.specs.Running.{Reads, Grown}
use Rattle.put.specs.declared.running.RunningText.{RunningText}
use Rattle.put.proofs.RunningLaws.{grown_behind}
use Rattle.outline.specs.Outline.{IsOutline, moved_kinds}
use Rattle.members.specs.Members.{text_source, prepared_in, all_prepared, Stands, IsKnown, AllKnown, file_in}
use Rattle.members.specs.declared.Assembly.{Assembly}
use Rattle.members.specs.declared.Member.{Member}
use Rattle.members.proofs.MembersLaws.{source_on, prepared_same, prepared_on, text-part, text-inside, prepares}
use Rattle.joining.specs.Joining.{CanEmit, Emits, prepared_of}
use Rattle.shift.specs.Levels.{AreLevels}
use Rattle.emitted.specs.Emit.{emit}
use Rattle.walk.specs.Parts.{good}
use Rattle.assembled.proofs.EmitLaws.{emitted_ends}
use Rattle.joining.proofs.RuleLaws.{ends_some}

-- what is known stays so where the members' texts stay
pub known_each : (contents v w : List ℕ) (ms : List Member) → All (λ m. source_text m.source contents v ≡ source_text m.source contents w) ms
    → AllKnown contents w ms → AllKnown contents v ms
known_each contents v w ms e k i d h = subst (λ (s : List ℕ). IsOutline s (get_or ms i d).outline) (sym (e i d h)) (k i d h)

module _ {index contents : List ℕ} {ms : List Member} {limit : ℕ} {w : List ℕ} (e : CanEmit index contents ms limit w) where
  -- where the text so far grows
  module _ (v : List ℕ) (q : drop limit v ≡ drop limit w) where
    pub emit_on : length v ≡ length w → CanEmit index contents ms limit v
    emit_on l = record {
      stand = rw l e.stand;
      known = known_each contents v w ms (λ i d h. source_on _ limit (length contents) (length w) contents v w (e.stand.stand i d h).lies.inside q) e.known;
      fits = omega (arith, e.fits);
    }

    pub members_on : all_prepared index contents v ms ≡ all_prepared index contents w ms
    members_on = prepared_on contents v w e.stand q

  -- one of them
  module _ {m : Member} (h : Contains ms m) where
    pub stands-here : Stands (length index) (length contents) limit (length w) m
    stands-here = All-contains (Stands (length index) (length contents) limit (length w)) ms m e.stand.stand h

    known-here : IsKnown contents w m
    known-here = All-contains (IsKnown contents w) ms m e.known h

    pub member_on : (v : List ℕ) → drop limit v ≡ drop limit w → prepared_in index contents v m ≡ prepared_in index contents w m
    member_on v q = prepared_same index contents v w m stands-here (source_on m.source limit (length contents) (length w) contents v w stands-here.lies.inside q)

    -- what the shift is made from
    pub shift_ready : AreLevels (moved_kinds (source_text (text_source m) contents w)) m.outline.levels
    shift_ready = rw (text-part stands-here contents w, ← known-here.lines) known-here.levels

    pub emitted_some : (titles : List ℕ → Option (List ℕ)) (url : List ℕ) (es : List (List ℕ)) → emit titles url (prepared_in index contents w m) ≡ good es → 0 < length es
    emitted_some titles url es q =
        ends_some es (emitted_ends titles url (file_in index contents w m) (prepared_in index contents w m) es (prepares stands-here.lies contents w index known-here) q)

-- beside a running text
module _ (old : RunningText) (a : Assembly) (e : Emits old a) where
  pub text_reads : old.at ≤ old.limit → {m : Member} → Contains a.members.now m → Reads old (text_source m)
  text_reads below h = record { inside = text-inside (stands-here e h); below = below; fits = e.fits }

  module _ {x : List ℕ} {new : RunningText} (p : Grown x old new) where
    pub can_on : Emits new a
    can_on = rw (p.contents, p.limit) (emit_on e new.work.now (grown_behind p) p.long)

    pub prepared_kept : {m : Member} → Contains a.members.now m → prepared_of new a m ≡ prepared_of old a m
    prepared_kept h = rw p.contents (member_on e h new.work.now (grown_behind p))
