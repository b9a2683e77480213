-- The regions of a host: a cursor at its start and behind a region, the own level above a region and the shallowest of the host, and the host lines as
-- bytes. Assumes nothing.
use Rattle.std.specs.Prelude.{Option, Some, None}
use Prim.Native.Nat.{ℕ, zero, suc, ◌+◌, ◌-◌, ◌≤◌, ◌<◌}
use native.Mathlib.Nat.{sub-zero}
use native.Mathlib.Omega.{arith}
use mathlib.Core.Path.{◌≡◌, refl, sym, ap, ◌∙◌, subst}
use mathlib.Core.Logic.{inl}
use mathlib.Core.Bool.{Bool, cond}
use mathlib.Core.List.{List, [], ◌∷◌, ◌++◌, append_assoc, append-nil}
use lib.ListN.{length, take, drop, replicate, length-append, length-take, length-drop, length-replicate}
use lib.Seq.{take_at}
use Rattle.answer.specs.Answer.{place}
use Rattle.answer.specs.declared.Place.{Place}
use Rattle.answer.specs.declared.Refusal.TheVariants.{PeerWithoutHeading}
use Rattle.text.specs.Bytes.{part, is, first}
use Rattle.text.specs.Lines.{LF, pieces}
use Rattle.text.specs.Split.{join}
use Rattle.text.proofs.BytesLaws.{rest}
use Rattle.text.proofs.LedLaws.{text_more, join-split}
use Rattle.scan.specs.Scan.{scan, regions_of}
use Rattle.scan.specs.Regions as found
use Rattle.scan.specs.declared.event.Region.{Region}
use Rattle.scan.specs.declared.region.Cursor.{Cursor}
use Rattle.heading.specs.Level.{shallowest_of, IsLevel}
use Rattle.heading.specs.Walk.{walk_begin, kinds_from, states_after}
use Rattle.heading.specs.declared.walk.WalkState.{WalkState}
use Rattle.heading.proofs.WalkLaws.{kinds_length}
use Rattle.heading.proofs.LevelLaws.{level-lines}
use Rattle.heading.proofs.StillLaws.{kinds_append, states_append, shallowest_append, blanks-state}
use Rattle.index.specs.Index.{file_of}
use Rattle.regions.specs.Regions.{blanked_from, last_level, above, own_kinds, target_level, peer_faults, regions_from, region}
use Rattle.regions.specs.Hosts.{start_cursor, cursor_of, host_rest, Append, blanked_at, top_of, CloserAt, HostAt, region_at, WholeHost, LastHost}
use Rattle.regions.specs.Own.{own_after, lines_before, cursor_behind, OwnBefore, is_headless, IsTop, CanTop, opens_at, cursor_at}
use Rattle.regions.specs.declared.own.Own.{Own}
use Rattle.regions.specs.declared.host.HostCursor.{HostCursor}
use Rattle.regions.specs.declared.host.Opening.{Opening}
use Rattle.regions.proofs.PlaceLaws.{Starts, Placed, starts-within}
use Rattle.regions.proofs.ByteLaws.{text-first, led-start, led-through}
use Rattle.regions.proofs.OwnLaws.{own_is, last-append, last-blanks, last_nothing, level-last}
use Rattle.regions.proofs.CursorLaws.{next-placed, next-later, region_blanked, own-next}

-- for callers: the cursor at a host's start,
pub host-start : (s : List ℕ) → HostAt s start_cursor
unfolding scan states_after last_level kinds_from
host-start s = record {
  line = record { within = omega arith; few = omega arith; lines = inl refl };
  first = λ e. refl;
  later = λ h. absurd (omega arith);
  order = (omega arith, omega arith);
  passed = [];
  count = refl;
  blanked = refl;
  state = refl;
  above = refl;
  level = tt;
  top = λ h e. absurd (omega arith);
}

-- and where a cursor stands
pub host-within : {s : List ℕ} {c : HostCursor} → HostAt s c → (c.at ≤ length s) × (c.from ≤ length s)
host-within a = (a.line.within, omega (arith, a.line.within, a.order.0))

-- the kinds of the first lines
kinds_first : (st : WalkState) (ls us : List (List ℕ)) (n : ℕ) → length ls ≡ n → take n (kinds_from st (ls ++ us)) ≡ kinds_from st ls
kinds_first st ls us n e = rw (kinds_append st ls us) (take_at (kinds_from st ls) (kinds_from (states_after st ls) us) n (kinds_length st ls ∙ e))

-- k lines blanked behind lines
blanks-last : (b : Option ℕ) (st : WalkState) (k : ℕ) → last_level b (kinds_from st (replicate k [])) ≡ b
unfolding last_level kinds_from
blanks-last b st k = rw append-nil at (last-blanks k b st [])

-- the last level of lines and lines after them
last-lines : (st : WalkState) (b : Option ℕ) (ls us : List (List ℕ))
    → last_level b (kinds_from st (ls ++ us)) ≡ last_level (last_level b (kinds_from st ls)) (kinds_from (states_after st ls) us)
last-lines st b ls us = rw (kinds_append st ls us) (last-append b (kinds_from st ls) (kinds_from (states_after st ls) us))

-- the walk at a cursor
abbrev pub own_at : HostCursor → Own
own_at c = record { state = c.state; above = c.above; top = None }

-- the closer behind which a cursor stands
closer_starts : {s : List ℕ} {c : HostCursor} → CloserAt s c → Starts s (c.before + 1) (c.from + 1)
closer_starts {s} {c} a =
    let k : (c.before + 1) - 1 ≡ c.before = omega arith in
    record { counted = omega arith; within = a.within; lines = rw k a.lines }

-- the host lines from a cursor on, as bytes: through line n, which starts at place o, and all of them
module _ {s : List ℕ} {c : HostCursor} (a : HostAt s c) where
  pub append-through : {n o : ℕ} → Starts s n o → c.line < n → Append s c (take (n - c.before) (drop c.before (pieces s))) (o + first (is LF) (drop o s))
  unfolding join
  append-through {n} {o} t h ls x y = go c.from refl
    where
      u : ℕ
      u = o + first (is LF) (drop o s)

      go : (f : ℕ) → c.from ≡ f → join LF (ls ++ take (n - c.before) (drop c.before (pieces s))) ≡ join LF ls ++ part c.from u s
      go zero q = rw (x q, a.first q, q) (text-first t u refl ∙ ap (λ (i : ℕ). take i s) (sym (sub-zero u)))
      go (suc f) q =
          let b = a.later (omega arith) in
          let i : (c.before + 1) - 1 ≡ c.before = omega arith in
          let j : (c.from + 1) - 1 ≡ c.from = omega arith in
          let w = led-through t u refl (closer_starts b) (omega (arith, b.some)) (omega (arith, a.order.1)) in
          text_more ls (take (n - c.before) (drop c.before (pieces s))) (y (omega arith)) ∙ ap (λ (r : List ℕ). join LF ls ++ r) (rw (i, j) at w)

  pub append-rest : Append s c (drop c.before (pieces s)) (length s)
  unfolding join
  append-rest ls x y = go c.from refl
    where
      go : (f : ℕ) → c.from ≡ f → join LF (ls ++ drop c.before (pieces s)) ≡ join LF ls ++ part c.from (length s) s
      go zero q = rw (x q, a.first q, q) (join-split LF s ∙ sym (rest s 0))
      go (suc f) q =
          let b = a.later (omega arith) in
          let i : (c.before + 1) - 1 ≡ c.before = omega arith in
          let j : (c.from + 1) - 1 ≡ c.from = omega arith in
          let w = led-start (closer_starts b) (omega (arith, b.some)) in
          text_more ls (drop c.before (pieces s)) (y (omega arith)) ∙ ap (λ (r : List ℕ). join LF ls ++ r) ((rw (i, j) at w) ∙ sym (rest s c.from))

  -- no region is left
  pub last-host : found.regions_from s (cursor_of c) ≡ [] → LastHost s c
  unfolding host_rest regions_from
  last-host e = record { lines = drop c.before (pieces s); append = append-rest; rest = λ k name. rw e }

-- 12 as a test; and the target, which needs the shallowest level only where nothing is above
faults_test : (peer : Bool) (t : Option ℕ) (p : Place) → peer_faults peer t p ≡ cond (is_headless peer t) (PeerWithoutHeading p ∷ []) []
faults_test peer (Some n) p = refl
faults_test peer None p = refl

target-top : (peer : Bool) (t x y : Option ℕ) → (t ≡ None → y ≡ x) → target_level peer t x ≡ target_level peer t y
target-top peer (Some n) x y h = refl
target-top peer None x y h = rw (h refl)

-- the next region behind a cursor
module _ {s : List ℕ} {c : HostCursor} (a : HostAt s c) {g : Region} {d : Cursor} {v : Own} (b : OwnBefore s (cursor_of c) (own_at c) g d v) where
  -- the own lines before it, and how many lines it has
  abbrev ls : List (List ℕ)
  ls = lines_before s (cursor_of c) g.opener.line

  abbrev k : ℕ
  k = g.closer.line + 1 - g.opener.line

  -- where it stands
  e : found.regions_from s (cursor_of c) ≡ g ∷ found.regions_from s (cursor_behind s g)
  e = rw b.cursor at b.found

  pub placed : Placed s c.line c.at g
  placed = next-placed a.line e

  -- the walk at the opener
  v-is : v ≡ record { state = states_after c.state ls; above = last_level c.above (kinds_from c.state ls); top = shallowest_of None (kinds_from c.state ls) }
  v-is = b.own ∙ own_is (own_at c) ls

  v-state : states_after walk_begin (a.passed ++ ls) ≡ v.state
  v-state = states_append walk_begin a.passed ls ∙ ap (λ (st : WalkState). states_after st ls) a.state ∙ ap (λ (w : Own). w.state) (sym v-is)

  v_above : last_level None (kinds_from walk_begin (a.passed ++ ls)) ≡ v.above
  v_above =
      last-lines walk_begin None a.passed ls
      ∙ ap (λ (t : Option ℕ). last_level t (kinds_from (states_after walk_begin a.passed) ls)) a.above
      ∙ ap (λ (st : WalkState). last_level c.above (kinds_from st ls)) a.state
      ∙ ap (λ (w : Own). w.above) (sym v-is)

  pub v_level : IsLevel v.above
  v_level = subst IsLevel v_above (level-last None walk_begin (a.passed ++ ls) tt)

  -- the lines before it, and all of them
  lines-length : length (a.passed ++ ls) ≡ g.opener.line - 1
  lines-length =
      let p = placed in
      omega (
        arith,
        length-append a.passed ls,
        a.count,
        length-take (g.opener.line - (c.line + 1)) (drop c.line (pieces s)),
        length-drop c.line (pieces s),
        starts-within p.opens,
        p.later,
      )

  lines-blanked : blanked_from 1 (regions_of (scan s)) (pieces s) ≡ (a.passed ++ ls) ++ (replicate k [] ++ blanked_at s d)
  lines-blanked =
      rw b.cursor
      (a.blanked ∙ ap (λ (r : List (List ℕ)). a.passed ++ r) (region_blanked a.line e) ∙ sym (append_assoc a.passed ls (replicate k [] ++ blanked_at s (cursor_behind s g))))

  -- the nearest own heading above it
  above-here : above g.opener.line (own_kinds (regions_of (scan s)) (pieces s)) ≡ v.above
  above-here =
      ap (λ (bs : List (List ℕ)). last_level None (take (g.opener.line - 1) (kinds_from walk_begin bs))) lines-blanked
      ∙ ap (last_level None) (kinds_first walk_begin (a.passed ++ ls) (replicate k [] ++ blanked_at s d) (g.opener.line - 1) lines-length)
      ∙ v_above

  -- with none above, none stands before the cursor
  none_before : v.above ≡ None → c.above ≡ None
  none_before q = (last_nothing c.above (kinds_from c.state ls) (ap (λ (w : Own). w.above) (sym v-is) ∙ q)).0

  -- and the walk over the rest finds the shallowest own level
  top-rest : v.above ≡ None → (own_after v (blanked_at s d)).top ≡ top_of s
  top-rest q =
      let r : List (List ℕ) = blanked_at s (cursor_of c) in
      let z : shallowest_of None (kinds_from walk_begin a.passed) ≡ None =
      (last_nothing None (kinds_from walk_begin a.passed) (a.above ∙ none_before q)).1 in
      ap (λ (w : Own). w.top) ((own-next a.line b).1.1 ∙ own_is (own_at c) r)
      ∙ sym
      (ap (λ (bs : List (List ℕ)). shallowest_of None (kinds_from walk_begin bs)) a.blanked
      ∙ ap (shallowest_of None) (kinds_append walk_begin a.passed r)
      ∙ shallowest_append None (kinds_from walk_begin a.passed) (kinds_from (states_after walk_begin a.passed) r)
      ∙ ap (λ (t : Option ℕ). shallowest_of t (kinds_from (states_after walk_begin a.passed) r)) z
      ∙ ap (λ (st : WalkState). shallowest_of None (kinds_from st r)) a.state)

  -- so `top_of` can find it
  pub can_top : CanTop s c d v
  can_top =
      let r : List (List ℕ) = blanked_at s d in
      let l : IsLevel v.top = rw v-is (level-lines None c.state ls tt) in
      record {
        line = (own-next a.line b).0;
        kept = λ h. record { level = a.level; none = λ q. a.top h (none_before q) };
        rest = λ q. record { level = rw (own_is v r) (level-lines v.top v.state r l); none = top-rest };
      }

  -- the cursor behind it
  module _ {top : Option ℕ} (t : IsTop s v.above top) where
    next-host-at : HostAt s (cursor_at g d v top)
    unfolding cursor_at
    next-host-at =
        let p = placed in
        let n = own-next a.line b in
        let j : d.line ≡ g.closer.line = ap (λ (x : Cursor). x.line) b.cursor in
        let i : g.closer.at < d.at = rw b.cursor (next-later a.line e) in
        let m : g.closer.at - 1 + 1 ≡ g.closer.at = omega (arith, p.path, p.opens.within) in
        record {
          line = n.0;
          first = λ q. absurd (omega (arith, p.path));
          later = λ q. record { within = omega (arith, p.closes.within); some = omega (arith, p.lines, p.later); lines = rw m p.closes.lines };
          order = (omega arith, omega arith);
          passed = (a.passed ++ ls) ++ replicate k [];
          count = omega (arith, length-append (a.passed ++ ls) (replicate k []), length-replicate {A = List ℕ} k [], lines-length, p.lines, p.later);
          blanked = lines-blanked ∙ sym (append_assoc (a.passed ++ ls) (replicate k []) (blanked_at s d));
          state = states_append walk_begin (a.passed ++ ls) (replicate k []) ∙ blanks-state k (states_after walk_begin (a.passed ++ ls)) ∙ v-state;
          above = last-lines walk_begin None (a.passed ++ ls) (replicate k [])
              ∙ blanks-last (last_level None (kinds_from walk_begin (a.passed ++ ls))) (states_after walk_begin (a.passed ++ ls)) k
              ∙ v_above;
          level = t.level;
          top = λ q. t.none;
        }

    -- what is left begins with it
    found-rest : (j : ℕ) (name : List ℕ) → host_rest (file_of j name s) c
        ≡ region (region_at j name s (take (g.opener.line - c.before) (drop c.before (pieces s))) (opens_at s g v.above top)) (host_rest (file_of j name s) (cursor_at g d v top))
    unfolding host_rest regions_from opens_at cursor_at
    found-rest j name =
        rw (b.found, above-here, faults_test g.peer v.above (place j g.opener.line), target-top g.peer v.above (top_of s) top t.none)

    -- the region that is found
    pub whole-host : {o : Opening} {h : HostCursor} → o ≡ opens_at s g v.above top → h ≡ cursor_at g d v top → (1 ≤ o.target) × (o.target ≤ 7) → o.end ≤ length s
        → WholeHost s c o h
    unfolding opens_at cursor_at host_rest regions_from
    whole-host {o} {h} eo eh w z =
        let p = placed in
        let n = own-next a.line b in
        let i : o.end ≡ g.opener.at + first (is LF) (drop g.opener.at s) = ap (λ (x : Opening). x.end) eo in
        let q : o.path ≡ g.path = ap (λ (x : Opening). x.path) eo in
        record {
          next = rw eh next-host-at;
          some = rw eh (omega (arith, p.path));
          later = rw eh n.1.0;
          target = w;
          ends = (omega (arith, p.from, a.order.0), z);
          path = rw q (omega (arith, p.path), omega (arith, p.path, p.closes.within));
          before = take (g.opener.line - c.before) (drop c.before (pieces s));
          lines = omega (
            arith,
            length-take (g.opener.line - c.before) (drop c.before (pieces s)),
            length-drop c.before (pieces s),
            starts-within p.opens,
            p.later,
            a.order.1,
          );
          append = rw i (append-through a p.opens p.later);
          rest = λ j name. rw (eo, eh) (found-rest j name);
        }

pub ruleset hosts = (last-host)
