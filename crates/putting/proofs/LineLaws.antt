-- Laws of a source's lines as they become, put piece after piece. Assumes nothing.
use Rattle.std.specs.Prelude.{Option, Some, None}
use Prim.Native.Nat.{ℕ, ◌+◌, ◌-◌, ◌≤◌}
use native.Mathlib.Omega.{arith}
use mathlib.Core.Path.{◌≡◌, refl, ap, subst}
use mathlib.Core.List.{List, [], ◌∷◌, ◌++◌}
use lib.IntN.{ℤ, pos, ◌+ℤ◌}
use Rattle.text.specs.Bytes.{part}
use Rattle.text.specs.Lines.{LF, pieces_from, led}
use Rattle.text.proofs.BytesLaws.{part_full}
use Rattle.text.proofs.PieceLaws.{all_pieces}
use Rattle.heading.specs.Level.{moved_to}
use Rattle.heading.specs.Walk.{step_kind, step_after, walk_begin}
use Rattle.heading.specs.declared.walk.LineKind.{LineKind}
use Rattle.heading.specs.declared.walk.LineKind.TheVariants.{Quoted, Heading, Other}
use Rattle.heading.specs.declared.walk.WalkState.{WalkState}
use Rattle.link.specs.Links.{relink}
use Rattle.link.specs.Target.{anchor_self}
use Rattle.shift.specs.Shift.{told_from, at_level, moved_line}
use Rattle.put.specs.Running.{Reads, text_of, Grown, Over}
use Rattle.put.specs.NewText.{new_text_at, new_text_of, KindIn, LevelIn}
use Rattle.self_links.specs.Cuts.{linked_text}
use Rattle.putting.specs.Lines.{linked_from, linked_lines, start_of, IsLine}
use Rattle.put.specs.declared.Source.{Source}
use Rattle.put.specs.declared.running.RunningText.{RunningText}
use Rattle.putting.specs.declared.line.LineStep.{LineStep}
use Rattle.put.specs.declared.line.NewText.{NewText}
use Rattle.text.proofs.PartLaws.{part-part}
use Rattle.put.proofs.NewTextLaws.{heading-linked, kind_in, TextIn, text_in}
use Rattle.put.proofs.RunningLaws.{source-length, Left, left_start, left_next, left_over, left_end, left_same, left-inside, left_reads}

-- a line as it becomes, by what stands before its text and by its text
module _ (f : List ℕ → List ℕ) (z : ℤ) (s : List ℕ) (a e : ℕ) where
  abbrev Becomes : NewText → List ℕ → Type 0
  Becomes r l = (LF ∷ relink f l) ≡ start_of r.level ++ relink f (part r.start r.end s)

  text-becomes : (k : LineKind) → KindIn (e - a) k → a ≤ e → Becomes (new_text_of z a e k) (moved_line z (record { kind = k; bytes = part a e s }))
  text-becomes Quoted w h = refl
  text-becomes (Heading n p q) w h = go (moved_to (pos n +ℤ z)) refl
    where
      go : (m : Option ℕ) → moved_to (pos n +ℤ z) ≡ m → Becomes (new_text_at m a e p q) (at_level m (part p q (part a e s)) (part a e s))
      go (Some m) y = rw (part-part s a e p q (omega (arith, w))) (ap (λ (x : List ℕ). LF ∷ x) (heading-linked f m (part p q (part a e s))))
      go None y = refl
  text-becomes Other w h = refl

-- the lines before place a are put, and the walk's state there is st
pub record Putting (host dir : List ℕ) (z : ℤ) (source : Source) (old now : RunningText) (a : ℕ) (st : WalkState) : Type 0 where
  pub left : Left (linked_lines host dir z (text_of old source)) old now (linked_from host dir z st (pieces_from (text_of old source) a))

next-line : (host dir : List ℕ) (z : ℤ) (st after : WalkState) (b l : List ℕ) (ps ls : List (List ℕ)) → ps ≡ l ∷ ls
    → (LF ∷ linked_text host dir (moved_line z (record { kind = step_kind st.fence st.comment l; bytes = l }))) ≡ b → after ≡ step_after st.fence st.comment l
    → linked_from host dir z st ps ≡ b ++ linked_from host dir z after ls
unfolding led told_from
next-line host dir z st after b l ps ls p q r = rw (p, r) (ap (λ (x : List ℕ). x ++ linked_from host dir z (step_after st.fence st.comment l) ls) q)

module _ {source : Source} {old : RunningText} (reads : Reads old source) where
  pub putting_start : (host dir : List ℕ) (z : ℤ) → Putting host dir z source old old 0 walk_begin
  putting_start host dir z = record { left = rw (all_pieces (text_of old source)) (left_start (linked_lines host dir z (text_of old source)) old reads.below) }

  module _ {host dir : List ℕ} {z : ℤ} {now : RunningText} {a : ℕ} {st : WalkState} (p : Putting host dir z source old now a st) where
    -- no line is left
    pub lines_end : pieces_from (text_of now source) a ≡ [] → Grown (linked_lines host dir z (text_of old source)) old now
    unfolding led told_from
    lines_end h =
        let e : pieces_from (text_of old source) a ≡ [] = rw (left_same p.left reads) at h in
        left_end (rw e at p.left)

    module _ {r : LineStep} (f : IsLine (text_of now source) a st z r) where
      found : IsLine (text_of old source) a st z r
      found = rw (left_same p.left reads) at f

      kind : KindIn (r.end - a) (step_kind st.fence st.comment (part a r.end (text_of old source)))
      kind = kind_in st.fence st.comment (part a r.end (text_of old source)) (r.end - a) (part_full (text_of old source) a r.end found.within)

      text-inside : TextIn a r.end r.text
      text-inside = rw found.text (text_in z a r.end (step_kind st.fence st.comment (part a r.end (text_of old source))) kind found.order)

      abbrev new : List ℕ
      new = start_of r.text.level ++ linked_text host dir (part r.text.start r.text.end (text_of old source))

      abbrev rest : List ℕ
      rest = linked_from host dir z r.state (pieces_from (text_of old source) (r.end + 1))

      -- the text lies in the source
      pub text_within : LevelIn r.text.level × ((r.text.start ≤ r.text.end) × (source.start + r.text.end ≤ source.end))
      text_within = (text-inside.0, (text-inside.1.1.0, omega (arith, source-length reads, found.within, reads.inside.0, text-inside)))

      pub line_before : (a ≤ r.end) × (r.end ≤ source.end - source.start)
      line_before = (found.order, omega (arith, found.within, source-length reads))

      line-next : linked_from host dir z st (pieces_from (text_of old source) a) ≡ new ++ rest
      line-next =
          next-line host dir z st r.state new (part a r.end (text_of old source)) _ _ found.lines
          (rw found.text (text-becomes (anchor_self host dir) z (text_of old source) a r.end (step_kind st.fence st.comment (part a r.end (text_of old source))) kind found.order))
          found.after

      abbrev put-now : List ℕ
      put-now = start_of r.text.level ++ linked_text host dir (part r.text.start r.text.end (text_of now source))

      now-new : put-now ≡ new
      now-new = rw (left_same p.left reads)

      -- the line is put, or goes over the limit
      pub line_over : {mid : RunningText} → Over put-now now mid → Over (linked_lines host dir z (text_of old source)) old mid
      line_over {mid} h = left_over p.left new rest line-next (subst (λ (x : List ℕ). Over x now mid) now-new h)

      module _ {mid : RunningText} (q : Grown put-now now mid) where
        pub lines_on : Putting host dir z source old mid (r.end + 1) r.state
        lines_on = record { left = left_next p.left new rest line-next (subst (λ (x : List ℕ). Grown x now mid) now-new q) }

pub ruleset putting = (left-inside, left_reads, line_before)
