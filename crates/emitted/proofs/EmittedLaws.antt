-- Laws of `specs/Emitted.antt`: what a line becomes, by what stands before its text and by its text. Assumes nothing.
use Rattle.std.specs.Prelude.{Option, Some, None}
use Prim.Native.Nat.{ℕ, ◌+◌, ◌-◌, ◌≤◌}
use native.Mathlib.Omega.{arith}
use mathlib.Core.Path.{◌≡◌, refl, sym, ap, subst, ◌∙◌}
use mathlib.Core.List.{List, ◌++◌}
use lib.IntN.{ℤ, pos, ◌+ℤ◌}
use Rattle.text.specs.Bytes.{part}
use Rattle.heading.specs.Level.{moved_to}
use Rattle.heading.specs.declared.walk.LineKind.{LineKind}
use Rattle.heading.specs.declared.walk.LineKind.TheVariants.{Quoted, Heading, Other}
use Rattle.link.specs.Links.{relink}
use Rattle.member.specs.declared.lines.KeptLine.{KeptLine}
use Rattle.shift.specs.Shift.{at_level}
use Rattle.put.specs.Put.{part_of}
use Rattle.put.specs.Running.{Reads, text_of, Grown, Over, Ran}
use Rattle.put.specs.NewText.{new_text_at, new_text_of, KindIn, LevelIn, level_text}
use Rattle.put.specs.declared.Source.{Source}
use Rattle.put.specs.declared.running.RunningText.{RunningText}
use Rattle.put.specs.declared.line.NewText.{NewText}
use Rattle.text.proofs.PartLaws.{part-part}
use Rattle.put.proofs.NewTextLaws.{heading-linked, TextIn, text_in}
use Rattle.put.proofs.RunningLaws.{over_then, ran_then, reads_on, reads_part, read_same, part_same}
use Rattle.target.proofs.TitleLaws.{stand_on}
use Rattle.emitted.specs.Emitted.{emitted_line, line_of, LineIn}

-- a line that is not quoted
abbrev pub Open : LineKind → Type 0
Open Quoted = ⊥
Open (Heading n a e) = Unit {0}
Open Other = Unit {0}

pub open_line : (k : LineKind) → (k ≡ Quoted → ⊥) → Open k
open_line Quoted h = h refl
open_line (Heading n a e) h = tt
open_line Other h = tt

-- by what stands before its text and by its text
module _ (f : List ℕ → List ℕ) (z : ℤ) (s : List ℕ) (a e : ℕ) where
  abbrev Becomes : NewText → List ℕ → Type 0
  Becomes r l = l ≡ level_text r.level ++ relink f (part r.start r.end s)

  line_becomes : a ≤ e → (k : LineKind) → Open k → KindIn (e - a) k → Becomes (new_text_of z a e k) (emitted_line f z (record { kind = k; bytes = part a e s }))
  line_becomes h Quoted o w = absurd o
  line_becomes h (Heading n p q) o w = go (moved_to (pos n +ℤ z)) refl
    where
      go : (m : Option ℕ) → moved_to (pos n +ℤ z) ≡ m → Becomes (new_text_at m a e p q) (relink f (at_level m (part p q (part a e s)) (part a e s)))
      go (Some m) y = rw (part-part s a e p q (omega (arith, w))) (heading-linked f m (part p q (part a e s)))
      go None y = refl
  line_becomes h Other o w = refl

-- such a line put: a heading's hashes and space or nothing, and then its text
module _ {source : Source} {old : RunningText} (reads : Reads old source) (f : List ℕ → List ℕ) (z : ℤ) (line : KeptLine) (inside : LineIn source line) (o : line.kind ≡ Quoted → ⊥)
    (new : NewText) (is : new ≡ new_text_of z line.start line.end line.kind) where
  new_in : TextIn line.start line.end new
  new_in = rw is (text_in z line.start line.end line.kind inside.1.1 inside.0)

  pub new_within : LevelIn new.level × ((new.start ≤ new.end) × (source.start + new.end ≤ source.end))
  new_within = (new_in.0, (new_in.1.1.0, omega (arith, new_in, inside)))

  abbrev whole : List ℕ
  whole = emitted_line f z (line_of (text_of old source) line)

  line-is : level_text new.level ++ relink f (part new.start new.end (text_of old source)) ≡ whole
  line-is =
      ap (λ (r : NewText). level_text r.level ++ relink f (part r.start r.end (text_of old source))) is
      ∙ sym (line_becomes f z (text_of old source) line.start line.end inside.0 line.kind (open_line line.kind o) inside.1.1)

  pub new_over : {last : RunningText} → Over (level_text new.level) old last → Over whole old last
  new_over {last} h = subst (λ (x : List ℕ). Over x old last) line-is (over_then _ h)

  module _ {mid : RunningText} (q : Grown (level_text new.level) old mid) where
    pub new_reads : Reads mid (part_of source new.start new.end)
    new_reads = reads_part (reads_on reads q) new.start new.end new_within.1.0 new_within.1.1

    pub new_put : {g : List ℕ → List ℕ} → g ≡ f → (last : RunningText) (r : Option (Unit {0})) → Ran (relink g (text_of mid (part_of source new.start new.end))) mid last r → Ran whole old last r
    new_put {g} same last r h =
        let s : relink g (text_of mid (part_of source new.start new.end)) ≡ relink f (part new.start new.end (text_of old source)) =
        ap (λ (h : List ℕ → List ℕ). relink h (text_of mid (part_of source new.start new.end))) same ∙ ap (relink f) (part_same reads q new.start new.end new_within.1.1) in
        subst (λ (x : List ℕ). Ran x old last r) line-is (ran_then _ last r q (subst (λ (x : List ℕ). Ran x mid last r) s h))

-- a line that is put behind what stands before it is what would be put there
module _ {source : Source} {old mid : RunningText} (reads : Reads old source) {x : List ℕ} (p : Grown x old mid) where
  pub next_put : {f g : List ℕ → List ℕ} → g ≡ f → {y z : ℤ} → y ≡ z → (line : KeptLine) (new : RunningText) (r : Option (Unit {0}))
      → Ran (emitted_line g y (line_of (text_of mid source) line)) mid new r → Ran (x ++ emitted_line f z (line_of (text_of old source) line)) old new r
  next_put {f} {g} e {y} {z} s line new r q =
      let same : emitted_line g y (line_of (text_of mid source) line) ≡ emitted_line f z (line_of (text_of old source) line) =
      ap (λ (h : List ℕ → List ℕ). emitted_line h y (line_of (text_of mid source) line)) e
      ∙ ap (λ (n : ℤ). emitted_line f n (line_of (text_of mid source) line)) s
      ∙ ap (λ (t : List ℕ). emitted_line f z (line_of t line)) (read_same reads p) in
      ran_then _ new r p (subst (λ (t : List ℕ). Ran t mid new r) same q)

pub ruleset emitting = (reads_on, stand_on)
