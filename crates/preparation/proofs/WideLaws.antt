-- Laws of members that stand in their buffers, where more of the work buffer is allowed. Assumes nothing.
use Prim.Native.Nat.{ℕ, ◌≤◌}
use native.Mathlib.Omega.{arith}
use mathlib.Core.Bool.{Bool, true, false}
use mathlib.Core.List.{List}
use Rattle.put.specs.Put.{Held, Inside}
use Rattle.put.specs.declared.Source.{Source}
use Rattle.members.specs.Members.{Stands, AllLie, AllStand}
use Rattle.members.specs.declared.Member.{Member}
use Rattle.preparation.specs.Preparation.{CanPrepare}

held_wide : (b : Bool) (a e limit contents stop limit' stop' : ℕ) → limit' ≤ limit → stop ≤ stop' → Held b a e limit contents stop → Held b a e limit' contents stop'
held_wide true a e limit contents stop limit' stop' h k q = (omega arith, omega arith)
held_wide false a e limit contents stop limit' stop' h k q = q

module _ (limit stop limit' stop' : ℕ) (h : limit' ≤ limit) (k : stop ≤ stop') where
  inside-wide : (s : Source) (contents : ℕ) → Inside s limit contents stop → Inside s limit' contents stop'
  inside-wide s contents q = (q.0, held_wide s.work s.start s.end limit contents stop limit' stop' h k q.1)

  stands-wide : (index contents : ℕ) (m : Member) → Stands index contents limit stop m → Stands index contents limit' stop' m
  stands-wide index contents m s = record {
    lies = record {
      forward = s.lies.forward;
      named = s.lies.named;
      short = s.lies.short;
      first = s.lies.first;
      last = s.lies.last;
      inside = inside-wide m.source contents s.lies.inside;
    };
    text = s.text;
    order = s.order;
    title = s.title;
  }

  pub stand_wide : {index : List ℕ} {contents : ℕ} {ms : List Member} → AllStand index contents limit stop ms → AllStand index contents limit' stop' ms
  stand_wide a = record { few = a.few; stand = λ k d q. stands-wide _ _ _ (a.stand k d q); same = a.same }

pub can_prepare : {index : List ℕ} {contents limit stop : ℕ} {ms : List Member} (work : ℕ) → AllLie index contents limit stop ms → stop ≤ work → CanPrepare contents work ms
can_prepare {contents = contents} {limit = limit} {stop = stop} work a h k d q = inside-wide limit stop 0 work (omega arith) h _ contents (a.lie k d q).inside
