-- Laws of lines that neither change nor have a link, put as a block. Assumes nothing.
use Rattle.std.specs.Prelude.{Option, Some, None}
use Prim.Native.Nat.{ℕ, zero, suc, ◌+◌, ◌-◌, ◌≤◌, ◌<◌}
use native.Mathlib.Omega.{arith}
use mathlib.Core.Path.{◌≡◌, refl, sym, ap, ◌∙◌}
use mathlib.Core.Bool.{Bool, true, false, cond}
use mathlib.Core.List.{List, [], ◌∷◌, ◌++◌, append_assoc}
use lib.IntN.{ℤ}
use lib.Dec.{leb}
use lib.ListN.{length, drop, get_or, length-drop}
use lib.Seq.{get_or-drop}
use borrow.Author.Tests.{le-leb, lt-leb, eqb-true}
use Rattle.text.specs.Bytes.{part, is, first}
use Rattle.text.specs.Lines.{LF}
use Rattle.text.proofs.PartLaws.{part_join}
use Rattle.anchor.proofs.AnchorLaws.{part-cons}
use Rattle.fence.specs.declared.Fence.{Fence}
use Rattle.heading.specs.Walk.{still_kind}
use Rattle.member.specs.Lines.{left_of, CursorIn}
use Rattle.outline.specs.Seen.{titled_by}
use Rattle.member.specs.Passed.{Unlinked, PassedLine, PassedLines, PassedTo}
use Rattle.member.specs.declared.lines.LineCursor.{LineCursor}
use Rattle.emitted.specs.Emitted.{break_before, block_text}
use Rattle.emission.proofs.LeftLaws.{left_text, new_line, text-next}

-- the byte that a search finds
first-is : (f : ℕ → Bool) (s : List ℕ) → first f s < length s → f (get_or s (first f s) 0) ≡ true
unfolding first
first-is f [] h = absurd (omega arith)
first-is f (x ∷ s) h = go (f x) refl h (λ k. first-is f s k)
  where
    go : (b : Bool) → f x ≡ b → cond b 0 (suc (first f s)) < suc (length s) → (first f s < length s → f (get_or s (first f s) 0) ≡ true)
        → f (get_or (x ∷ s) (cond b 0 (suc (first f s))) 0) ≡ true
    go true e k ih = e
    go false e k ih = ih (omega arith)

-- a line's LF stands behind it
line_feed : (s : List ℕ) (a e : ℕ) → e ≡ a + first (is LF) (drop a s) → e < length s → get_or s e 0 ≡ LF
line_feed s a e q h = eqb-true (get_or s e 0) LF (rw (q, ← get_or-drop a s (first (is LF) (drop a s)) 0) (first-is (is LF) (drop a s) (omega (arith, length-drop a s))))

-- a part of a text, the LF behind it, and a part behind that
part_feed : (s : List ℕ) (a b e : ℕ) → a ≤ b → b < e → e ≤ length s → get_or s b 0 ≡ LF → part a b s ++ (LF ∷ part (b + 1) e s) ≡ part a e s
part_feed s a b e h k l q = ap (λ (u : List ℕ). part a b s ++ u) (sym (part-cons s b e k l ∙ ap (λ (x : ℕ). x ∷ part (b + 1) e s) q)) ∙ part_join s a b e h (omega arith)

-- such a line is put as it stands, and is no title
still-line : (f : List ℕ → List ℕ) (z : ℤ) (titled : Bool) (g : Option Fence) (l : List ℕ) → Unlinked l → new_line f z titled (record { kind = still_kind g; bytes = l }) ≡ l
still-line f z titled None l u = u f
still-line f z titled (Some g) l u = refl

still_untitled : (titled : Bool) (g : Option Fence) → titled_by titled (still_kind g) ≡ titled
still_untitled titled None = refl
still_untitled titled (Some g) = refl

-- the text left from cursor c on is the block up to cursor d, and the text left from there on
module _ (f : List ℕ → List ℕ) (z : ℤ) (s : List ℕ) (titled : Bool) (c : LineCursor) where
  abbrev leftFrom : LineCursor → List ℕ
  leftFrom d = left_text f z d.line titled (left_of d s)

  -- i lines stand between them
  record Blocked (i : ℕ) (d : LineCursor) : Type 0 where
    pub same : i ≡ 0 → d ≡ c
    pub count : d.line ≡ c.line + i
    pub place : c.at + i ≤ d.at
    pub inside : 0 < i → d.at ≤ suc (length s)
    pub feed : 0 < i → d.at ≤ length s → get_or s (d.at - 1) 0 ≡ LF
    pub left : leftFrom c ≡ block_text s c d ++ leftFrom d

  module _ (i : ℕ) (x d : LineCursor) (b : Blocked i x) {k n : ℕ} (l : PassedLine s true x k d n) where
    behind-at : d.at ≡ l.stop + 1
    behind-at = ap (λ (y : LineCursor). y.at) l.line.after

    behind-line : d.line ≡ x.line + 1
    behind-line = ap (λ (y : LineCursor). y.line) l.line.after

    abbrev here : List ℕ
    here = part x.at l.stop s

    line_step : leftFrom x ≡ break_before x.line ++ (here ++ leftFrom d)
    line_step =
        ap (left_text f z x.line titled) l.line.left
        ∙ text-next f z x.line titled (record { kind = still_kind x.state.fence; bytes = here }) (left_of d s)
        ∙ rw (still-line f z titled x.state.fence here (l.here.plain refl), still_untitled titled x.state.fence, ← behind-line)

    grown : block_text s c x ++ (break_before x.line ++ here) ≡ block_text s c d
    grown = go i refl
      where
        past : leb d.line c.line ≡ false
        past = lt-leb d.line c.line (omega (arith, b.count, behind-line))

        end : d.at - 1 ≡ l.stop
        end = omega (arith, behind-at)

        go : (j : ℕ) → i ≡ j → block_text s c x ++ (break_before x.line ++ here) ≡ block_text s c d
        go zero e = rw (b.same e, le-leb c.line c.line (omega arith), past, end)
        go (suc j) e =
            let far : leb x.line c.line ≡ false = lt-leb x.line c.line (omega (arith, b.count)) in
            let some : x.line ≡ suc (c.line + j) = omega (arith, b.count) in
            let before : (x.at - 1) + 1 ≡ x.at = omega (arith, b.place) in
            let q : part c.at (x.at - 1) s ++ (LF ∷ part ((x.at - 1) + 1) l.stop s) ≡ part c.at l.stop s =
            part_feed s c.at (x.at - 1) l.stop (omega (arith, b.place)) (omega (arith, l.here.ends, b.place)) l.here.within
            (b.feed (omega arith) (omega (arith, l.here.ends, l.here.within))) in
            rw (past, far, end, some, append_assoc) (ap (λ (u : List ℕ). break_before c.line ++ u) (rw before at q))

    blocked-line : Blocked (suc i) d
    blocked-line = record {
      same = λ e. absurd (omega arith);
      count = omega (arith, b.count, behind-line);
      place = omega (arith, b.place, behind-at, l.here.ends);
      inside = λ h. omega (arith, behind-at, l.here.within);
      feed = λ h k. let e : d.at - 1 ≡ l.stop = omega (arith, behind-at) in rw e (line_feed s x.at l.stop l.here.ends (omega (arith, behind-at)));
      left = b.left
          ∙ ap (λ (u : List ℕ). block_text s c x ++ u) (line_step ∙ sym (append_assoc (break_before x.line) here (leftFrom d)))
          ∙ sym (append_assoc (block_text s c x) (break_before x.line ++ here) (leftFrom d))
          ∙ ap (λ (u : List ℕ). u ++ leftFrom d) grown;
    }

  blocked-none : Blocked 0 c
  blocked-none = record {
    same = λ e. refl;
    count = omega arith;
    place = omega arith;
    inside = λ h. absurd (omega arith);
    feed = λ h k. absurd (omega arith);
    left = rw (le-leb c.line c.line (omega arith));
  }

  blocked : (i : ℕ) (d : LineCursor) (m n : ℕ) → PassedLines i s true c m d n → Blocked i d
  unfolding PassedLines
  blocked zero d m n h = rw h.0 blocked-none
  blocked (suc i) d m n (x, k, h, l) = blocked-line i x d (blocked i x m k h) l

  -- what callers need of it
  pub record Block (d : LineCursor) : Type 0 where
    pub cursor : CursorIn d s
    pub order : c.at ≤ d.at
    pub some : c.line < d.line → c.at < d.at
    pub left : leftFrom c ≡ block_text s c d ++ leftFrom d

  pub block : {d : LineCursor} {m n : ℕ} → CursorIn c s → PassedTo s true c m d n → Block d
  block {d} {m} {n} h p =
      let b = blocked p.count d m n p.lines in
      record {
        cursor = (omega (arith, b.count, b.place), within p.count b.same b.inside);
        order = omega (arith, b.place);
        some = λ k. omega (arith, b.count, b.place);
        left = b.left;
      }
    where
      within : (i : ℕ) → (i ≡ 0 → d ≡ c) → (0 < i → d.at ≤ suc (length s)) → d.at ≤ suc (length s)
      within zero e k = rw (e refl) h.1
      within (suc i) e k = k (omega arith)
