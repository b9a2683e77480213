-- Laws for the loop that prepares a member: the lines kept so far, the title and the levels among them, and where those that are not blank end.
-- Assumes nothing.
use Rattle.std.specs.Prelude.{Option, None, Some, is_some}
use Prim.Native.Nat.{ℕ, zero, suc, ◌+◌, ◌^◌, ◌≤◌, ◌<◌}
use native.Mathlib.Omega.{arith}
use mathlib.Core.Path.{◌≡◌, refl, sym, ap, ◌∙◌, subst}
use mathlib.Core.Bool.{Bool, true, false, cond}
use mathlib.Core.List.{List, [], ◌∷◌, ◌++◌, append_assoc, append-nil}
use lib.ListN.{length, take}
use lib.Seq.{length-take-le, take-length}
use lib.Dec.{eqb}
use Rattle.text.specs.Bytes.{part}
use Rattle.text.specs.Space.{is_blank}
use Rattle.heading.specs.Level.{shallowest_of, deepest_of, IsLevel}
use Rattle.fence.specs.declared.Fence.{Fence}
use Rattle.heading.specs.Walk.{walk_begin, still_kind}
use Rattle.heading.specs.declared.walk.LineKind.{LineKind}
use Rattle.heading.specs.declared.walk.LineKind.TheVariants.{Quoted, Heading, Other}
use Rattle.heading.proofs.WalkLaws.{kind-within}
use Rattle.shift.specs.Levels.{HasLevel, top_in, deepest_in}
use Rattle.shift.specs.Shift.{Told, told_from, kinds_of}
use Rattle.shift.proofs.LevelsLaws.{step-level, Found, found_turn}
use Rattle.text.proofs.BytesLaws.{part_full}
use Rattle.text.proofs.PartLaws.{part-part}
use Rattle.member.specs.Member.{without_contents, title_of, movable}
use Rattle.member.specs.Lines.{kept_lines, left_of, at_first, CursorIn, IsLine}
use Rattle.outline.specs.Outline.{FoundOutline, moved_kinds}
use Rattle.member.specs.Passed.{PassedLines, PassedTo}
use Rattle.outline.specs.Seen.{titled_by, moved_kind, title_at, Placed, SeenWith}
use Rattle.member.specs.declared.lines.LineCursor.{LineCursor}
use Rattle.text.specs.declared.part.Part.{Part}
use Rattle.outline.specs.declared.Seen.{Seen}
use Rattle.member.proofs.LinesLaws.{lines_on_lem, lines-off}
use Rattle.member.proofs.HeadingLaws.{line-next, heading_in}
use Rattle.outline.proofs.TitleLaws.{moved_from, moved_turn, moved_level, level-shallower, level-deeper, title_turn}
use Rattle.outline.proofs.EndLaws.{trimmed, trimmed_blank, trimmed_last, heading-shown, prepared_trimmed, prepared_title, prepared_shallowest, prepared_deepest}

-- no line is left behind the last
left-off : (c : LineCursor) (s : List ℕ) → length s < c.at → left_of c s ≡ []
unfolding without_contents told_from
left-off c s h = ap (λ (ls : List (List ℕ)). told_from c.state (without_contents false ls)) (lines-off s c.at h)

-- the lines kept before a cursor, in the text up to any place that is not before it
abbrev Reach : List ℕ → LineCursor → List Told → Type 0
Reach s c ts = (n : ℕ) → c.at ≤ suc n → n ≤ length s → kept_lines (take n s) ≡ ts ++ left_of c (take n s)

pub kept-first : (s : List ℕ) → kept_lines s ≡ left_of at_first s
kept-first s = ap (λ (ls : List (List ℕ)). told_from walk_begin (without_contents false ls)) (sym (lines_on_lem s 0 (omega arith)))

module _ {s : List ℕ} {c d : LineCursor} {a e : ℕ} {k : LineKind} (l : IsLine s c a e k d) where
  abbrev line : Told
  line = record { kind = k; bytes = part a e s }

  behind : d.at ≡ e + 1
  behind = ap (λ (x : LineCursor). x.at) l.after

  module _ (ts : List Told) (r : Reach s c ts) where
    reach-line : Reach s d (ts ++ (line ∷ []))
    reach-line n h i =
        r n (omega (arith, behind, l.order, l.forward)) i
        ∙ ap (λ (us : List Told). ts ++ us) (l.up_to n (omega (arith, behind)) i)
        ∙ sym (append_assoc ts (line ∷ []) (left_of d (take n s)))

    -- up to its end there is no more
    reach_here : kept_lines (take e s) ≡ ts ++ (line ∷ [])
    reach_here =
        reach-line e (omega (arith, behind)) l.within
        ∙ ap (λ (us : List Told). (ts ++ (line ∷ [])) ++ us) (left-off d (take e s) (omega (arith, behind, length-take-le e s l.within)))
        ∙ append-nil (ts ++ (line ∷ []))

-- there is a title among the lines kept so far, and those that are not blank end at place e
pub record Entitled (s : List ℕ) (ts : List Told) (at e : ℕ) (x : Part) : Type 0 where
  pub within : e ≤ length s
  pub before : e ≤ at
  pub lines : trimmed ts ≡ kept_lines (take e s)
  pub title : title_of (kept_lines s) ≡ Some (part x.start x.end s)
  pub forward : x.start ≤ x.end
  pub inside : x.end ≤ e

abbrev HasSeen : List ℕ → List Told → LineCursor → ℕ → Option Part → Type 0
HasSeen s ts c e None = title_of (kept_lines s) ≡ title_of (left_of c s)
HasSeen s ts c e (Some x) = Entitled s ts c.at e x

titled_some : (o : Option Part) (a : ℕ) (k : LineKind) → is_some (title_at o a k) ≡ titled_by (is_some o) k
titled_some None a Quoted = refl
titled_some (Some p) a Quoted = refl
titled_some None a Other = refl
titled_some (Some p) a Other = refl
titled_some (Some p) a (Heading n x y) = refl
titled_some None a (Heading n x y) = go (eqb n 1)
  where
    go : (b : Bool) → is_some {T = Part} (cond b (Some (record { start = a + x; end = a + y })) None) ≡ b
    go true = refl
    go false = refl

-- one line more
module _ {s : List ℕ} {c d : LineCursor} {a e : ℕ} (ts : List Told) (r : Reach s c ts) where
  -- behind the title
  entitled-line : {k : LineKind} {m : ℕ} {x : Part} (l : IsLine s c a e k d) → Entitled s ts c.at m x
      → Entitled s (ts ++ (line l ∷ [])) d.at (cond (is_blank (part a e s)) m e) x
  entitled-line {k} {m} {x} l h = go (is_blank (part a e s)) refl
    where
      go : (b : Bool) → is_blank (part a e s) ≡ b → Entitled s (ts ++ (line l ∷ [])) d.at (cond b m e) x
      go true q =
          record {
            within = h.within;
            before = omega (arith, behind l, h.before, l.order, l.forward);
            lines = trimmed_blank ts (line l) q ∙ h.lines;
            title = h.title;
            forward = h.forward;
            inside = h.inside;
          }
      go false q =
          record {
            within = l.within;
            before = omega (arith, behind l);
            lines = trimmed_last ts (line l) q ∙ sym (reach_here l ts r);
            title = h.title;
            forward = h.forward;
            inside = omega (arith, h.inside, h.before, l.order, l.forward);
          }

  -- the title
  entitled-first : {n x y : ℕ} (m : ℕ) (l : IsLine s c a e (Heading n x y) d) → title_of (kept_lines s) ≡ Some (part x y (part a e s))
      → Entitled s (ts ++ (line l ∷ [])) d.at (cond (is_blank (part a e s)) m e) (record { start = a + x; end = a + y })
  entitled-first {n} {x} {y} m l q =
      let w = kind-within c.state.fence c.state.comment (part a e s) n x y (sym l.kind) in
      let f = part_full s a e l.within in
      let b = heading-shown c.state.fence c.state.comment (part a e s) l.kind in
      rw b (record {
        within = l.within;
        before = omega (arith, behind l);
        lines = trimmed_last ts (line l) b ∙ sym (reach_here l ts r);
        title = q ∙ ap Some (sym (part-part s a e x y (omega (arith, l.forward))));
        forward = omega arith;
        inside = omega (arith, l.forward);
      })

  seen-line : (o : Option Part) (k : LineKind) (m : ℕ) (l : IsLine s c a e k d) → HasSeen s ts c m o
      → HasSeen s (ts ++ (line l ∷ [])) d (cond (is_blank (part a e s)) m e) (title_at o a k)
  seen-line (Some x) Quoted m l h = entitled-line l h
  seen-line (Some x) (Heading n i j) m l h = entitled-line l h
  seen-line (Some x) Other m l h = entitled-line l h
  seen-line None Quoted m l h = h ∙ title_turn l.left
  seen-line None Other m l h = h ∙ title_turn l.left
  seen-line None (Heading n i j) m l h = go (eqb n 1) (h ∙ title_turn l.left)
    where
      go : (b : Bool) → title_of (kept_lines s) ≡ cond b (Some (part i j (part a e s))) (title_of (left_of d s))
          → HasSeen s (ts ++ (line l ∷ [])) d (cond (is_blank (part a e s)) m e) (cond b (Some (record { start = a + i; end = a + j })) None)
      go true q = entitled-first m l q
      go false q = q

-- what is seen of the lines before a cursor, of which those that are not blank end at place p
pub record Outlines (s : List ℕ) (c : LineCursor) (z : Seen) (p : ℕ) : Type 0 where
  pub cursor : CursorIn c s
  pub told : List Told
  pub reach : Reach s c told
  pub seen : HasSeen s told c p z.title
  pub found : Found (moved_kinds s) (kinds_of (moved_from (is_some z.title) (left_of c s))) (top_in z.levels) (deepest_in z.levels)
  pub level : IsLevel (top_in z.levels)
  pub small : deepest_in z.levels ≤ 6

outlines_none : (s : List ℕ) (c : LineCursor) → c ≡ at_first → Outlines s c (record { title = None; levels = None }) 0
outlines_none s c e =
    rw e (record {
      cursor = omega arith;
      told = [];
      reach = λ n h i. kept-first (take n s);
      seen = ap title_of (kept-first s);
      found = record {
        shallow = ap (λ (ts : List Told). shallowest_of None (kinds_of (movable ts))) (sym (kept-first s));
        deep = ap (λ (ts : List Told). deepest_of 0 (kinds_of (movable ts))) (sym (kept-first s));
      };
      level = tt;
      small = omega arith;
    })

module _ {s : List ℕ} {c d : LineCursor} {z : Seen} {a e p : ℕ} {k : LineKind} (o : Outlines s c z p) (l : IsLine s c a e k d) where
  line-level : HasLevel (moved_kind (is_some z.title) k)
  line-level = moved_level (is_some z.title) k (subst HasLevel (sym l.kind) (step-level c.state.fence c.state.comment (part a e s)))

  -- with one line more
  outlines_line : {m : ℕ} {y : Seen} → SeenWith z a k y → m ≡ cond (is_blank (part a e s)) p e → Outlines s d y m
  outlines_line w q =
      let t = is_some z.title in
      record {
        cursor = (line-next o.cursor l).0;
        told = o.told ++ (line l ∷ []);
        reach = reach-line l o.told o.reach;
        seen = rw (w.title, q) (seen-line o.told o.reach z.title k p l o.seen);
        found = rw (ap is_some w.title ∙ titled_some z.title a k)
            (found_turn o.found (ap (λ (ts : List Told). kinds_of (moved_from t ts)) l.left ∙ moved_turn t (line l) (left_of d s)) w.top w.deepest);
        level = subst IsLevel (sym w.top) (level-shallower (top_in z.levels) (moved_kind t k) line-level o.level);
        small = rw w.deepest (level-deeper (deepest_in z.levels) (moved_kind t k) line-level o.small);
      }

-- with lines more that their first bytes tell
still_seen : (f : Option Fence) (z : Seen) (a : ℕ) → SeenWith z a (still_kind f) z
still_seen None z a = record { title = refl; top = refl; deepest = refl }
still_seen (Some f) z a = record { title = refl; top = refl; deepest = refl }

outlines_still : {s : List ℕ} {u : Bool} {c d : LineCursor} {z : Seen} {p n : ℕ} → Outlines s c z p → PassedTo s u c p d n → Outlines s d z n
unfolding PassedLines
outlines_still {s} {u} {c} {d} {z} {p} {n} o h = go h.count d n h.lines
  where
    go : (i : ℕ) (d : LineCursor) (n : ℕ) → PassedLines i s u c p d n → Outlines s d z n
    go zero d n k = rw (k.0, k.1) o
    go (suc i) d n (x, e, k, l) = outlines_line (go i x e k) l.line (still_seen x.state.fence z x.at) l.end

-- the loop over a member's lines
pub outlines_first : {s : List ℕ} {c d : LineCursor} {n : ℕ} → c ≡ at_first → PassedTo s false c 0 d n → Outlines s d (record { title = None; levels = None }) n
outlines_first {s} {c} e h = outlines_still (outlines_none s c e) h

pub outlines_on : {s : List ℕ} {c d b : LineCursor} {z y : Seen} {a e p m n : ℕ} {k : LineKind} → Outlines s c z p → IsLine s c a e k d → SeenWith z a k y
    → m ≡ cond (is_blank (part a e s)) p e → PassedTo s false d m b n → Outlines s b y n
outlines_on o l w q h = outlines_still (outlines_line o l w q) h

-- no line is left
module _ {s : List ℕ} {c : LineCursor} {z : Seen} {p : ℕ} (o : Outlines s c z p) (e : left_of c s ≡ []) where
  all : kept_lines s ≡ o.told
  all =
      (rw (take-length s) at (o.reach (length s) o.cursor.1 (omega arith)))
      ∙ ap (λ (ts : List Told). o.told ++ ts) e
      ∙ append-nil o.told

  pub outlines_untitled : z.title ≡ None → FoundOutline s None
  unfolding title_of
  outlines_untitled q = let h = rw q at o.seen in prepared_title s ∙ h ∙ ap title_of e

  pub outlines_titled : {x : Part} → z.title ≡ Some x → FoundOutline s (Some (record { end = p; title = x; levels = z.levels }))
  unfolding shallowest_of deepest_of movable
  outlines_titled q =
      let h = rw q at o.seen in
      let f = rw (q, e) at o.found in
      record {
        within = h.within;
        lines = prepared_trimmed s ∙ ap trimmed all ∙ h.lines;
        title = prepared_title s ∙ h.title;
        forward = h.forward;
        inside = h.inside;
        levels = record {
          shallow = f.shallow ∙ sym (prepared_shallowest s);
          deep = f.deep ∙ sym (prepared_deepest s);
          level = o.level;
          small = o.small;
        };
      }

-- a heading's text stands where a machine's number can say
pub line-placed : {s : List ℕ} {c d : LineCursor} {a e : ℕ} (k : LineKind) → IsLine s c a e k d → length s < 2 ^ 64 → Placed k a
line-placed Quoted l h = tt
line-placed (Heading n x y) l h = omega (arith, heading_in l)
line-placed Other l h = tt
