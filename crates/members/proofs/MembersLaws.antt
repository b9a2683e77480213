-- Laws of `specs/Members.antt`: members whose buffers change, and members that are prepared. Assumes nothing.
use Rattle.std.specs.Prelude.{map, All}
use Rattle.std.proofs.lemmas.List.Elements.{All-head, All-tail, All-take}
use Prim.Native.Nat.{ℕ, ◌+◌, ◌-◌, ◌≤◌}
use native.Mathlib.Nat.{sub-zero}
use native.Mathlib.Omega.{arith}
use mathlib.Core.Path.{◌≡◌, refl, ap, ◌∙◌}
use mathlib.Core.Bool.{Bool, true, false, cond}
use mathlib.Core.List.{List, [], ◌∷◌}
use lib.ListN.{length, take, drop, get_or, length-take}
use lib.Seq.{take-take, drop-drop}
use Rattle.text.specs.Bytes.{part}
use Rattle.text.proofs.BytesLaws.{part_length, drop_take}
use Rattle.index.specs.Index.{File, file_of}
use Rattle.walk.specs.Parts.{good}
use Rattle.put.specs.Put.{source_text, Held, Inside}
use Rattle.put.specs.declared.Source.{Source}
use Rattle.put.proofs.PutLaws.{source-part, inside-part}
use Rattle.member.specs.Member.{prepared_lines, titled, prepare}
use Rattle.members.specs.Members.{text_source, title_source, file_in, prepared_in, all_files, all_prepared, Lies, Stands, Agree, AllLie, AllStand, IsKnown, AllKnown}
use Rattle.members.specs.declared.Member.{Member}

-- two functions that agree at each element of a list
pub map-each : {A B : Type 0} (f g : A → B) (xs : List A) → All (λ x. f x ≡ g x) xs → map f xs ≡ map g xs
map-each f g [] e = refl
map-each f g (x ∷ xs) e = rw (All-head (λ y. f y ≡ g y) x xs e, map-each f g xs (All-tail (λ y. f y ≡ g y) x xs e))

-- a source where the work buffer changes behind it
held_up : (b : Bool) (a e limit n stop : ℕ) (c v w : List ℕ) → Held b a e limit n stop → take stop v ≡ take stop w → part a e (cond b v c) ≡ part a e (cond b w c)
held_up true a e limit n stop c v w h q =
    rw (← drop_take v a e, ← drop_take w a e, ← take-take e stop v h.1, ← take-take e stop w h.1, q)
held_up false a e limit n stop c v w h q = refl

held_on : (b : Bool) (a e limit n stop : ℕ) (c v w : List ℕ) → Held b a e limit n stop → drop limit v ≡ drop limit w → part a e (cond b v c) ≡ part a e (cond b w c)
held_on true a e limit n stop c v w h q =
    let k : limit + (a - limit) ≡ a = omega arith in
    rw (← k, ← drop-drop (a - limit) limit v, ← drop-drop (a - limit) limit w, q)
held_on false a e limit n stop c v w h q = refl

module _ (source : Source) (limit n stop : ℕ) (contents v w : List ℕ) (h : Inside source limit n stop) where
  pub source_up : take stop v ≡ take stop w → source_text source contents v ≡ source_text source contents w
  source_up q = held_up source.work source.start source.end limit n stop contents v w h.1 q

  -- or before it
  pub source_on : drop limit v ≡ drop limit w → source_text source contents v ≡ source_text source contents w
  source_on q = held_on source.work source.start source.end limit n stop contents v w h.1 q

-- a source lies in a longer work buffer
held_more : (b : Bool) (a e limit c w v : ℕ) → w ≤ v → Held b a e limit c w → Held b a e limit c v
held_more true a e limit c w v q h = (omega arith, omega arith)
held_more false a e limit c w v q h = h

pub inside_more : (source : Source) (limit c w : ℕ) → Inside source limit c w → (v : ℕ) → w ≤ v → Inside source limit c v
inside_more source limit c w h v k = (h.0, held_more source.work source.start source.end limit c w v k h.1)

-- a member's lines and its title are parts of its text
module _ {index n limit stop : ℕ} {m : Member} (s : Stands index n limit stop m) where
  module _ (contents work : List ℕ) where
    pub text-part : source_text (text_source m) contents work ≡ take m.outline.end (source_text m.source contents work)
    text-part = source-part m.source contents work 0 m.outline.end s.text ∙ rw sub-zero

    pub title-part : source_text (title_source m) contents work ≡ part m.outline.title.start m.outline.title.end (source_text m.source contents work)
    title-part = source-part m.source contents work m.outline.title.start m.outline.title.end (omega (arith, s.text, s.title))

  pub text-inside : Inside (text_source m) limit n stop
  text-inside = inside-part m.source limit n stop s.lies.inside 0 m.outline.end (omega arith) s.text

  pub title-inside : Inside (title_source m) limit n stop
  title-inside = inside-part m.source limit n stop s.lies.inside m.outline.title.start m.outline.title.end s.order (omega (arith, s.text, s.title))

pub prepared_same : {size n limit stop : ℕ} (index contents v w : List ℕ) (m : Member) → Stands size n limit stop m
    → source_text m.source contents v ≡ source_text m.source contents w → prepared_in index contents v m ≡ prepared_in index contents w m
prepared_same index contents v w m s e = rw (text-part s contents v, text-part s contents w, title-part s contents v, title-part s contents w, e)

-- members where the work buffer changes behind them, or before them
module _ {index : List ℕ} {n limit stop : ℕ} {ms : List Member} (contents v w : List ℕ) where
  pub prepared_up : AllStand index n limit stop ms → take stop v ≡ take stop w → all_prepared index contents v ms ≡ all_prepared index contents w ms
  prepared_up a q =
      map-each _ _ ms (λ k d h. let s = a.stand k d h in prepared_same index contents v w _ s (source_up _ limit n stop contents v w s.lies.inside q))

  pub prepared_on : AllStand index n limit stop ms → drop limit v ≡ drop limit w → all_prepared index contents v ms ≡ all_prepared index contents w ms
  prepared_on a q =
      map-each _ _ ms (λ k d h. let s = a.stand k d h in prepared_same index contents v w _ s (source_on _ limit n stop contents v w s.lies.inside q))

  pub files_up : AllLie index n limit stop ms → take stop v ≡ take stop w → all_files index contents v ms ≡ all_files index contents w ms
  files_up a q =
      map-each _ _ ms (λ k d h. ap (file_of _ _) (source_up _ limit n stop contents v w (a.lie k d h).inside q))

-- the first of members that stand
pub stand_take : {index : List ℕ} {n limit stop : ℕ} {ms : List Member} (i : ℕ) → AllStand index n limit stop ms → AllStand index n limit stop (take i ms)
stand_take {index} {n} {limit} {stop} {ms} i a = record {
  few = omega (arith, length-take i ms, a.few);
  stand = All-take (Stands (length index) n limit stop) i ms a.stand;
  same = All-take (λ m. All (Agree index m) (take i ms)) i ms (λ k d h. All-take (Agree index (get_or ms k d)) i ms (a.same k d h));
}

-- what is known of a member is its outline: it is prepared so
module _ {size n limit stop : ℕ} {m : Member} (l : Lies size n limit stop m) (contents work : List ℕ) where
  pub stands : IsKnown contents work m → Stands size n limit stop m
  stands o = record {
    lies = l;
    text = omega (arith, o.within, part_length (cond m.source.work work contents) m.source.start m.source.end, l.inside.0);
    order = o.forward;
    title = o.inside;
  }

  pub prepares : (index : List ℕ) → IsKnown contents work m → prepare (file_in index contents work m) ≡ good (prepared_in index contents work m)
  unfolding prepare
  prepares index o =
      let s = stands o in
      let f : File = file_in index contents work m in
      ap (titled f (prepared_lines f.text)) o.title
      ∙ rw (o.lines, ← text-part s contents work, ← title-part s contents work)

pub all_stand : {index : List ℕ} {n limit stop : ℕ} {ms : List Member} (contents work : List ℕ) → AllLie index n limit stop ms → AllKnown contents work ms
    → AllStand index n limit stop ms
all_stand contents work a k = record { few = a.few; stand = λ i d h. stands (a.lie i d h) contents work (k i d h); same = a.same }
