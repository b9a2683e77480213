-- Laws of a member's lines put one after the other: a line, lines put as a block, and all. Assumes nothing.
use Rattle.std.specs.Prelude.{Some}
use Prim.Native.Nat.{ℕ, suc, ◌+◌, ◌-◌, ◌≤◌, ◌<◌}
use native.Mathlib.Omega.{arith}
use mathlib.Core.Path.{◌≡◌, sym, ap, subst, ◌∙◌}
use mathlib.Core.Bool.{Bool, true, false}
use mathlib.Core.List.{List, [], ◌++◌, append_assoc}
use lib.IntN.{ℤ}
use Rattle.text.specs.Bytes.{part}
use Rattle.text.proofs.BytesLaws.{part_full}
use Rattle.heading.specs.declared.walk.LineKind.{LineKind}
use Rattle.put.specs.Running.{Reads, text_of, Grown, Over}
use Rattle.put.specs.NewText.{KindIn}
use Rattle.put.specs.declared.Source.{Source}
use Rattle.put.specs.declared.running.RunningText.{RunningText}
use Rattle.put.proofs.NewTextLaws.{kind_in}
use Rattle.put.proofs.RunningLaws.{source-length, Left, left_start, left_next, left_over, left_end, left_same, left-inside, left_reads}
use Rattle.member.specs.Lines.{left_of, at_first, CursorIn, IsLine, FoundLine}
use Rattle.member.specs.declared.lines.KeptLine.{KeptLine}
use Rattle.member.specs.Passed.{PassedTo}
use Rattle.outline.specs.Seen.{titled_by, moved_kind}
use Rattle.member.specs.declared.lines.LineCursor.{LineCursor}
use Rattle.member.proofs.LinesLaws.{lines_on_lem}
use Rattle.target.proofs.TitleLaws.{stand_on}
use Rattle.emitted.specs.Emitted.{emitted_line, break_before, block_text, LineIn}
use Rattle.emission.specs.Emission.{emitted_text}
use Rattle.emission.proofs.LeftLaws.{kind-kept, left_text, text-next, text-none}
use Rattle.emission.proofs.BlockLaws.{Block, block}

-- the lines before a cursor are put
pub record Putting (f : List ℕ → List ℕ) (z : ℤ) (source : Source) (old now : RunningText) (d : LineCursor) (titled : Bool) : Type 0 where
  pub within : CursorIn d (text_of old source)
  pub left : Left (emitted_text f z (text_of old source)) old now (left_text f z d.line titled (left_of d (text_of old source)))

module _ {source : Source} {old : RunningText} (reads : Reads old source) where
  pub putting_start : (f : List ℕ → List ℕ) (z : ℤ) → Putting f z source old old at_first false
  putting_start f z = record {
    within = (omega arith, omega arith);
    left = rw (lines_on_lem (text_of old source) 0 (omega arith)) (left_start (emitted_text f z (text_of old source)) old reads.below);
  }

  module _ {f : List ℕ → List ℕ} {z : ℤ} {now : RunningText} {d : LineCursor} {titled : Bool} (p : Putting f z source old now d titled) where
    same : text_of now source ≡ text_of old source
    same = left_same p.left reads

    pub cursor_in : CursorIn d (text_of now source)
    cursor_in = subst (λ (s : List ℕ). CursorIn d s) (sym same) p.within

    -- no line is left
    pub putting_end : left_of d (text_of now source) ≡ [] → Grown (emitted_text f z (text_of old source)) old now
    putting_end h =
        let e : left_text f z d.line titled (left_of d (text_of old source)) ≡ [] =
        ap (left_text f z d.line titled) (subst (λ (s : List ℕ). left_of d s ≡ []) same h) ∙ text-none f z d.line titled in
        left_end (subst (λ (x : List ℕ). Left (emitted_text f z (text_of old source)) old now x) e p.left)

    -- lines that neither change nor have a link are put as a block
    module _ {b : LineCursor} {i j : ℕ} (h : PassedTo (text_of now source) true d i b j) where
      passed : Block f z (text_of old source) titled d b
      passed = block f z (text_of old source) titled d p.within (subst (λ (s : List ℕ). PassedTo s true d i b j) same h)

      pub block_bounds : (d.at ≤ b.at) × ((b.at ≤ suc (source.end - source.start)) × (d.line < b.line → d.at < b.at))
      block_bounds = (passed.order, (omega (arith, passed.cursor.1, source-length reads), passed.some))

      pub block_over : {mid : RunningText} → Over (block_text (text_of now source) d b) now mid → Over (emitted_text f z (text_of old source)) old mid
      block_over {mid} k = left_over p.left (block_text (text_of old source) d b) _ passed.left (subst (λ (s : List ℕ). Over (block_text s d b) now mid) same k)

      pub putting_block : {mid : RunningText} → Grown (block_text (text_of now source) d b) now mid → Putting f z source old mid b titled
      putting_block {mid} k = record {
        within = passed.cursor;
        left = left_next p.left (block_text (text_of old source) d b) _ passed.left (subst (λ (s : List ℕ). Grown (block_text s d b) now mid) same k);
      }

    -- a line is left
    module _ {found : KeptLine} (h : FoundLine (text_of now source) d (Some found)) where
      abbrev a : ℕ
      a = found.start

      abbrev e : ℕ
      e = found.end

      abbrev k : LineKind
      k = found.kind

      abbrev b : LineCursor
      b = found.behind

      line : IsLine (text_of old source) d a e k b
      line = subst (λ (s : List ℕ). IsLine s d a e k b) same h

      pub line_in : {moved : LineKind} → moved ≡ moved_kind titled k → LineIn source (record { start = a; end = e; kind = moved; behind = b })
      line_in {moved} q =
          let kind : KindIn (e - a) (moved_kind titled k) =
          kind-kept (e - a) titled k (rw line.kind (kind_in d.state.fence d.state.comment (part a e (text_of old source)) (e - a) (part_full (text_of old source) a e line.within))) in
          (line.forward, (omega (arith, line.within, source-length reads, reads.inside.0), rw q kind))

      pub line-less : (d.at < b.at) × (b.at ≤ suc (source.end - source.start))
      line-less = let n : b.at ≡ e + 1 = ap (λ (x : LineCursor). x.at) line.after in (omega (arith, line.order, line.forward), omega (arith, line.within, source-length reads))

      abbrev new : List ℕ
      new = emitted_line f z (record { kind = moved_kind titled k; bytes = part a e (text_of old source) })

      abbrev rest : List ℕ
      rest = left_text f z b.line (titled_by titled k) (left_of b (text_of old source))

      line-next : left_text f z d.line titled (left_of d (text_of old source)) ≡ break_before d.line ++ (new ++ rest)
      line-next =
          let n : b.line ≡ d.line + 1 = ap (λ (x : LineCursor). x.line) line.after in
          ap (left_text f z d.line titled) line.left
          ∙ text-next f z d.line titled (record { kind = k; bytes = part a e (text_of old source) }) (left_of b (text_of old source))
          ∙ ap (λ (i : ℕ). break_before d.line ++ (new ++ left_text f z i (titled_by titled k) (left_of b (text_of old source)))) (sym n)

      module _ {g : List ℕ → List ℕ} (is : g ≡ f) {moved : LineKind} (kind : moved ≡ moved_kind titled k) {y : ℤ} (shift : y ≡ z) where
        abbrev put-now : List ℕ
        put-now = break_before d.line ++ emitted_line g y (record { kind = moved; bytes = part a e (text_of now source) })

        now-new : put-now ≡ break_before d.line ++ new
        now-new =
            ap (λ (x : List ℕ → List ℕ). break_before d.line ++ emitted_line x y (record { kind = moved; bytes = part a e (text_of now source) })) is
            ∙ ap (λ (x : ℤ). break_before d.line ++ emitted_line f x (record { kind = moved; bytes = part a e (text_of now source) })) shift
            ∙ ap (λ (x : LineKind). break_before d.line ++ emitted_line f z (record { kind = x; bytes = part a e (text_of now source) })) kind
            ∙ ap (λ (x : List ℕ). break_before d.line ++ emitted_line f z (record { kind = moved_kind titled k; bytes = part a e x })) same

        next-left : left_text f z d.line titled (left_of d (text_of old source)) ≡ (break_before d.line ++ new) ++ rest
        next-left = line-next ∙ sym (append_assoc (break_before d.line) new rest)

        pub line_over : {mid : RunningText} → Over put-now now mid → Over (emitted_text f z (text_of old source)) old mid
        line_over {mid} j = left_over p.left (break_before d.line ++ new) rest next-left (subst (λ (x : List ℕ). Over x now mid) now-new j)

        pub putting_on : {mid : RunningText} → Grown put-now now mid → Putting f z source old mid b (titled_by titled k)
        putting_on {mid} j = record {
          within = let i : b.at ≡ e + 1 = ap (λ (x : LineCursor). x.at) line.after in
              let o : b.line ≡ d.line + 1 = ap (λ (x : LineCursor). x.line) line.after in
              (omega (arith, p.within, line.order, line.forward), omega (arith, line.within));
          left = left_next p.left (break_before d.line ++ new) rest next-left (subst (λ (x : List ℕ). Grown x now mid) now-new j);
        }

pub ruleset putting = (left-inside, left_reads, stand_on, cursor_in, putting_block)
