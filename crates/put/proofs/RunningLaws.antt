-- Laws of what is put into a running text, piece after piece. Assumes nothing.
use Prim.Native.Nat.{ℕ, ◌+◌, ◌-◌, ◌≤◌, ◌<◌}
use native.Mathlib.Omega.{arith}
use mathlib.Core.Path.{◌≡◌, refl, sym, ap, ◌∙◌}
use mathlib.Core.Bool.{cond}
use mathlib.Core.List.{List, [], ◌++◌, append_assoc, append-nil}
use lib.ListN.{length, drop, length-append}
use lib.Seq.{sets, length-sets}
use Rattle.std.specs.Prelude.{Option, Some, None}
use Rattle.text.specs.Bytes.{part}
use Rattle.text.proofs.BytesLaws.{part_full}
use Rattle.buffer.proofs.BufferLaws.{sets_append}
use Rattle.put.specs.Put.{Inside, part_of}
use Rattle.put.specs.Running.{Fits, Reads, text_of, Kept, Grown, Over, Ran}
use Rattle.put.specs.declared.Source.{Source}
use Rattle.put.specs.declared.running.RunningText.{RunningText}
use Rattle.put.proofs.PutLaws.{drop_behind, source-part, length_inside, inside-any, inside-part, source-same}

-- x was put, by the place, the buffers and the limit after it
pub grown : {old new : RunningText} {x : List ℕ} → new.at ≡ old.at + length x → new.at ≤ old.limit → new.work.now ≡ sets old.work.now old.at x
    → new.limit ≡ old.limit → new.contents.now ≡ old.contents.now → Grown x old new
grown {x = x} p b w e c = record { contents = c; place = p; below = rw e b; limit = e; long = ap length w ∙ length-sets _ _ x; wrote = w }

pub grown_none : (old : RunningText) → old.at ≤ old.limit → Grown [] old old
grown_none old h = record { contents = refl; place = omega arith; below = h; limit = refl; long = refl; wrote = refl }

-- one text put behind another
pub grown_then : {a b : List ℕ} {old mid new : RunningText} → Grown a old mid → Grown b mid new → Grown (a ++ b) old new
grown_then {a} {b} {old} p q = record {
  contents = q.contents ∙ p.contents;
  place = omega (arith, length-append a b, p.place, q.place);
  below = q.below;
  limit = q.limit ∙ p.limit;
  long = q.long ∙ p.long;
  wrote = q.wrote ∙ rw (p.wrote, p.place) (sets_append old.work.now a b old.at);
}

pub ran_then : {a : List ℕ} {old mid : RunningText} (b : List ℕ) (new : RunningText) (r : Option (Unit {0})) → Grown a old mid → Ran b mid new r → Ran (a ++ b) old new r
ran_then b new (Some _) p q = grown_then p q
ran_then {a} b new None p q = record {
  contents = q.contents ∙ p.contents;
  limit = q.limit ∙ p.limit;
  long = q.long ∙ p.long;
  over = omega (arith, length-append a b, p.place, p.limit, q.over);
}

pub ran_kept : (x : List ℕ) {old new : RunningText} (r : Option (Unit {0})) → Ran x old new r → Kept old new
ran_kept x (Some _) p = record { contents = p.contents; limit = p.limit; long = p.long }
ran_kept x None p = record { contents = p.contents; limit = p.limit; long = p.long }

-- nothing more of x was put, or nothing more of what x is the front of
pub over_now : {x : List ℕ} (old : RunningText) → old.limit < old.at + length x → Over x old old
over_now old h = record { contents = refl; limit = refl; long = refl; over = h }

pub over_then : {a : List ℕ} {old new : RunningText} (b : List ℕ) → Over a old new → Over (a ++ b) old new
over_then {a} b h = record { contents = h.contents; limit = h.limit; long = h.long; over = omega (arith, length-append a b, h.over) }

module _ {x : List ℕ} {old new : RunningText} (p : Grown x old new) where
  pub grown_behind : drop old.limit new.work.now ≡ drop old.limit old.work.now
  grown_behind = ap (drop old.limit) p.wrote ∙ drop_behind x old.work.now old.at old.limit (omega (arith, p.place, p.below, p.limit))

  pub grown_fits : old.limit ≤ length old.work.now → Fits new
  grown_fits h = (p.below, omega (arith, p.long, p.limit))

-- a source is read as before while texts are put
module _ {old : RunningText} {source : Source} (reads : Reads old source) where
  pub reads-inside : Inside source 0 (length old.contents.now) (length old.work.now)
  reads-inside = inside-any source old.limit _ _ reads.inside

  pub source-length : length (text_of old source) ≡ source.end - source.start
  source-length = length_inside source old.limit _ _ reads.inside

  module _ (a e : ℕ) (order : a ≤ e) (within : source.start + e ≤ source.end) where
    pub reads_part : Reads old (part_of source a e)
    reads_part = record { inside = inside-part source old.limit _ _ reads.inside a e order within; below = reads.below; fits = reads.fits }

    -- it is copied from where the source lies
    pub copied : {new : RunningText} → e - a ≤ old.limit - old.at
        → new.work.now ≡ sets old.work.now old.at (part (source.start + a) (source.start + e) (cond source.work old.work.now old.contents.now))
        → new.at ≡ old.at + (e - a) → new.limit ≡ old.limit → new.contents.now ≡ old.contents.now → Grown (part a e (text_of old source)) old new
    copied {new} room w n l c =
        let long = part_full (text_of old source) a e (omega (arith, source-length)) in
        let same = source-part source old.contents.now old.work.now a e within in
        grown (omega (arith, long)) (omega (arith, reads.below)) (w ∙ ap (λ (x : List ℕ). sets old.work.now old.at x) same) l c

  module _ {x : List ℕ} {new : RunningText} (p : Grown x old new) where
    pub reads_on : Reads new source
    reads_on = record { inside = rw (p.contents, p.limit, p.long) reads.inside; below = p.below; fits = omega (arith, p.long, p.limit, reads.fits) }

    pub read_same : text_of new source ≡ text_of old source
    read_same = rw p.contents (source-same source old.limit _ _ reads.inside new.work.now (grown_behind p))

    pub part_same : (a e : ℕ) → source.start + e ≤ source.end → text_of new (part_of source a e) ≡ part a e (text_of old source)
    part_same a e h = source-part source new.contents.now new.work.now a e h ∙ rw read_same

-- of x, which is put into a running text, y is left
pub record Left (x : List ℕ) (old now : RunningText) (y : List ℕ) : Type 0 where
  pub made : List ℕ
  pub put : Grown made old now
  pub whole : made ++ y ≡ x

pub left_start : (x : List ℕ) (old : RunningText) → old.at ≤ old.limit → Left x old old x
left_start x old h = record { made = []; put = grown_none old h; whole = refl }

pub left_end : {x : List ℕ} {old new : RunningText} → Left x old new [] → Grown x old new
left_end q = rw (← q.whole, append-nil q.made) q.put

module _ {x y : List ℕ} {old now : RunningText} (p : Left x old now y) where
  pub left_fits : old.limit ≤ length old.work.now → Fits now
  left_fits h = grown_fits p.put h

  module _ {source : Source} (reads : Reads old source) where
    pub left_reads : Reads now source
    left_reads = reads_on reads p.put

    pub left-inside : Inside source 0 (length now.contents.now) (length now.work.now)
    left-inside = reads-inside left_reads

    pub left_same : text_of now source ≡ text_of old source
    left_same = read_same reads p.put

  -- a piece of what is left is put, or goes over the limit; so does all that is left
  module _ (a b : List ℕ) (e : y ≡ a ++ b) where
    pub left_next : {new : RunningText} → Grown a now new → Left x old new b
    left_next {new} h = record { made = p.made ++ a; put = grown_then p.put h; whole = append_assoc p.made a b ∙ rw (← e) p.whole }

    pub left_over : {new : RunningText} → Over a now new → Over x old new
    left_over {new} h = rw (← p.whole, e) (ran_then (a ++ b) new None p.put (over_then b h))

  pub left_last : (new : RunningText) (r : Option (Unit {0})) → Ran y now new r → Ran x old new r
  left_last new (Some u) h = left_end (left_next y [] (sym (append-nil y)) h)
  left_last new None h = left_over y [] (sym (append-nil y)) h
