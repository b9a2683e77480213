-- Laws of `specs/Passed.antt`: a line that its first byte tells, and such lines passed over one after the other. Assumes nothing.
use Prim.Native.Nat.{ℕ, zero, suc, ◌+◌, ◌-◌, ◌≤◌, ◌<◌}
use native.Mathlib.Nat.{add-zero}
use native.Mathlib.Omega.{arith}
use mathlib.Core.Path.{◌≡◌, refl, sym, ap, ◌∙◌}
use mathlib.Core.Bool.{Bool, true, false, cond}
use mathlib.Core.List.{List, [], ◌∷◌}
use lib.Dec.{ltb, eqb}
use lib.ListN.{length, drop, get_or}
use lib.Seq.{get_or-take, get_or-drop}
use borrow.Author.Tests.{lt-ltb, le-ltb}
use Rattle.text.specs.Bytes.{part, is, any, first}
use Rattle.text.specs.First.{is_first, begins}
use Rattle.text.specs.Lines.{LF}
use Rattle.text.specs.Pattern.{starts_with}
use Rattle.text.specs.Space.{is_blank}
use Rattle.text.proofs.BytesLaws.{or_left, or_right, first_hit, part_full}
use Rattle.text.proofs.FirstLaws.{blank_trimmed, begins_trimmed, begins-starts}
use Rattle.text.proofs.LineLaws.{pieces-at}
use Rattle.heading.specs.Contents.{is_contents, drops}
use Rattle.heading.specs.Walk.{still_kind}
use Rattle.heading.proofs.StillLaws.{no_hash_lem, begins-none, none_blank, other_kind, other_after}
use Rattle.link.specs.Links.{relink}
use Rattle.member.specs.Lines.{CursorIn, IsLine}
use Rattle.member.specs.Passed.{Unlinked, IsStill, PassedLine, PassedLines, PassedTo}
use Rattle.member.specs.declared.lines.LineCursor.{LineCursor}
use Rattle.member.proofs.LinesLaws.{lines_cut, kept-none, kept_line}

-- a line with no `]` has no link
pub none-linked : (l : List ℕ) → any (is 0x5D) l ≡ false → Unlinked l
unfolding relink any starts_with
none-linked [] e f = refl
none-linked (x ∷ l) e f = rw (or_left (eqb x 0x5D) (any (is 0x5D) l) e, none-linked l (or_right (eqb x 0x5D) (any (is 0x5D) l) e) f)

no_bytes : (l : List ℕ) → length l ≡ 0 → l ≡ []
no_bytes [] e = refl
no_bytes (x ∷ l) e = absurd (omega arith)

-- a line that begins with no byte of `is_first` is blank only where it is empty
still-shown : (l : List ℕ) → begins l ≡ false → 0 < length l → is_blank l ≡ false
still-shown l e h = go (is_blank l) refl
  where
    go : (b : Bool) → is_blank l ≡ b → b ≡ false
    go true q = let z : l ≡ [] = sym (begins_trimmed l e) ∙ blank_trimmed l q in absurd (omega (arith, ap length z))
    go false q = refl

module _ (s : List ℕ) (a : ℕ) (h : a < length s) (unlinked : Bool) where
  -- an empty line
  pub still_empty : get_or s a 0 ≡ LF → IsStill s a unlinked a
  unfolding begins relink
  still_empty e =
      let z : part a a s ≡ [] = no_bytes (part a a s) (omega (arith, part_full s a a (omega arith))) in
      record {
        within = omega arith;
        ends = sym (first_hit (is LF) s a h (rw e));
        still = rw z;
        plain = λ q f. rw z;
      }

  -- a line by its first byte
  pub still_other : (e : ℕ) → e ≤ length s → e ≡ a + first (is LF) (drop a s) → is_first (get_or s a 0) ≡ false → (unlinked ≡ true → any (is 0x5D) (part a e s) ≡ false) → IsStill s a unlinked e
  unfolding begins
  still_other e w q f n =
      record {
        within = w;
        ends = q;
        still = at_length (length (part a e s)) refl;
        plain = λ u. none-linked (part a e s) (n u);
      }
    where
      at_length : (n : ℕ) → length (part a e s) ≡ n → begins (part a e s) ≡ false
      at_length zero z = rw (no_bytes (part a e s) z)
      at_length (suc n) z =
          let k : 0 < e - a = omega (arith, part_full s a e w) in
          begins-none (part a e s) (rw (get_or-take (e - a) (drop a s) 0 0 k, get_or-drop a s 0 0, add-zero a) f)

-- such a line is the next that is kept, and leaves the state where no comment is open
module _ {s : List ℕ} {unlinked : Bool} {e : ℕ} (c : LineCursor) (h : IsStill s c.at unlinked e) (bare : c.state.comment ≡ false) where
  abbrev pub passed_to : LineCursor
  passed_to = record { at = e + 1; line = c.line + 1; state = c.state }

  line-order : c.at ≤ e
  line-order = omega (arith, h.ends)

  line_kept : drops false (part c.at e s) ≡ false
  unfolding drops is_contents is_first
  line_kept = rw (no_hash_lem (part c.at e s) (begins-starts 0x23 [] (part c.at e s) refl h.still))

  still-next : IsLine s c c.at e (still_kind c.state.fence) passed_to
  still-next =
      kept_line c e (kept-none s c.at (omega (arith, h.within, line-order)))
      (lines_cut s c.at e _ line-order h.within (pieces-at s c.at e h.within h.ends)) (line-order, h.within) line_kept
      (sym (other_kind c.state.fence c.state.comment (part c.at e s) h.still))
      (sym (other_after c.state.fence c.state.comment (part c.at e s) h.still (λ q. bare)))

  end_same : (m : ℕ) → cond (ltb c.at e) e m ≡ cond (is_blank (part c.at e s)) m e
  end_same m = at_length (e - c.at) refl
    where
      full : length (part c.at e s) ≡ e - c.at
      full = part_full s c.at e h.within

      at_length : (n : ℕ) → e - c.at ≡ n → cond (ltb c.at e) e m ≡ cond (is_blank (part c.at e s)) m e
      at_length zero z = rw (le-ltb c.at e (omega (arith, line-order)), none_blank (part c.at e s) (omega (arith, full)))
      at_length (suc n) z = rw (lt-ltb c.at e (omega arith), still-shown (part c.at e s) h.still (omega (arith, full)))

  pub passed-line : (m : ℕ) → PassedLine s unlinked c m passed_to (cond (ltb c.at e) e m)
  passed-line m = record { stop = e; here = h; line = still-next; same = refl; end = end_same m }

-- lines passed over from a cursor on: where the next starts, and how many there are before it
pub record Passing (s : List ℕ) (unlinked : Bool) (c : LineCursor) (m at line end : ℕ) : Type 0 where
  pub inside : at ≤ suc (length s)
  pub order : line ≤ at
  pub passed : PassedTo s unlinked c m (record { at = at; line = line; state = c.state }) end

pub passed_none : {s : List ℕ} {unlinked : Bool} (c : LineCursor) (m : ℕ) → PassedTo s unlinked c m c m
unfolding PassedLines
passed_none c m = record { count = 0; lines = (refl, refl) }

pub passing_none : {s : List ℕ} {unlinked : Bool} {c : LineCursor} → CursorIn c s → (m : ℕ) → Passing s unlinked c m c.at c.line m
passing_none {c = c} h m = record { inside = h.1; order = h.0; passed = passed_none c m }

pub passing_more : {s : List ℕ} {unlinked : Bool} {c : LineCursor} {m at line end e n : ℕ} → c.state.comment ≡ false → Passing s unlinked c m at line end → IsStill s at unlinked e
    → n ≡ cond (ltb at e) e end → Passing s unlinked c m (e + 1) (line + 1) n
unfolding PassedLines
passing_more {s} {unlinked} {c} {m} {at} {line} {end} {e} {n} o p h q =
    let x : LineCursor = record { at = at; line = line; state = c.state } in
    record {
      inside = omega (arith, h.within);
      order = omega (arith, p.order, h.ends);
      passed = record { count = suc p.passed.count; lines = (x, end, p.passed.lines, rw q (passed-line x h o end)) };
    }
