-- The places of an assembly's refusals: what holds of each refusal at such a place holds of all that the walk of an assembly may come to. Assumes nothing.
use Rattle.std.specs.Prelude.{Option, Some, None}
use Prim.Native.Nat.{ℕ, ◌+◌, ◌≤◌, ◌<◌}
use native.Mathlib.Omega.{arith}
use mathlib.Core.Bool.{Bool, true, false, cond}
use mathlib.Core.List.{List, [], ◌∷◌, ◌++◌}
use lib.ListN.{length}
use Rattle.answer.specs.Answer.{place}
use Rattle.answer.specs.declared.Place.{Place}
use Rattle.answer.specs.declared.Refusal.{Refusal}
use Rattle.answer.specs.declared.Refusal.TheVariants.{HeadingLevel, TextLimit, NoTitle, SharedAnchor}
use Rattle.text.specs.Bytes.{part as part_of}
use Rattle.text.specs.Lines.{LF}
use Rattle.text.specs.Pattern.{equals}
use Rattle.text.specs.Split.{join}
use Rattle.anchor.specs.Anchor.{slug}
use Rattle.heading.specs.declared.walk.LineKind.{LineKind}
use Rattle.heading.specs.declared.walk.LineKind.TheVariants.{Quoted, Heading, Other}
use Rattle.index.specs.Index.{File}
use Rattle.walk.specs.Parts.{Part}
use Rattle.walk.specs.Steps.{done, part}
use Rattle.walk.proofs.HoldLaws.{Each, each_append, Holds, holds_go, holds_unless}
use Rattle.shift.specs.Shift.{Told}
use Rattle.chains.proofs.PlaceLaws.{past_places}
use Rattle.member.specs.Member.{Prepared, title_of, titled, prepared_lines, prepare}
use Rattle.earlier.specs.Earlier.{bears, line_of, place_or, earlier}
use Rattle.shared.specs.Shared.{shared_at, shared_line, shared_in, shared_from, compare}
use Rattle.target.specs.Titles.{title_named}
use Rattle.emitted.specs.Emit.{emit, join_lines}
use Rattle.assembled.specs.Assemble.{prepare_all, emit_all, assemble}

-- P of 16 to 19 at members' files, from 1 to n
pub record AssemblyPlaces (P : Refusal → Type 0) (n : ℕ) : Type 0 where
  pub heading : (f l : ℕ) → 1 ≤ f → f ≤ n → 1 ≤ l → P (HeadingLevel (place f l))
  pub limit : (f : ℕ) → 1 ≤ f → f ≤ n → P (TextLimit (place f 0))
  pub title : (f : ℕ) → 1 ≤ f → f ≤ n → P (NoTitle f)
  pub shared : (f l g k : ℕ) → 1 ≤ f → f ≤ n → 1 ≤ l → 1 ≤ g → g ≤ n → 1 ≤ k → P (SharedAnchor (place f l) (place g k))

-- a file of the set
abbrev pub InSet : ℕ → File → Type 0
InSet n h = (1 ≤ h.number) × (h.number ≤ n)

module _ {P : Refusal → Type 0} {n : ℕ} (h : AssemblyPlaces P n) where
  abbrev Known : Prepared → Type 0
  Known m = (1 ≤ m.file) × (m.file ≤ n)

  abbrev AllKnown : List Prepared → Type 0
  AllKnown ms = Each Known ms

  abbrev Whole : List ℕ → Type 0
  Whole t = Unit {0}

  abbrev Lines : List (List ℕ) → Type 0
  Lines ls = Unit {0}

  -- 18
  prepare-holds : (f : File) → InSet n f → Holds P Known (part (prepare f))
  unfolding prepare Holds
  prepare-holds f q = at-title (title_of (prepared_lines f.text))
    where
      at-title : (o : Option (List ℕ)) → Holds P Known (part (titled f (prepared_lines f.text) o))
      at-title None = h.title f.number q.0 q.1
      at-title (Some t) = q

  all-holds : (hs : List File) → Each (InSet n) hs → Holds P AllKnown (prepare_all hs)
  unfolding prepare_all Each Holds
  all-holds [] q = tt
  all-holds (f ∷ hs) q =
      holds_go P Known AllKnown (part (prepare f)) _ (prepare-holds f q.0) (λ m k. holds_go P AllKnown AllKnown (prepare_all hs) (λ ms. done (m ∷ ms)) (all-holds hs q.1) (λ ms ks. (k, ks)))

  -- 19
  -- where an earlier member has an anchor: a place in a member, or none
  abbrev Earlier : Option Place → Type 0
  Earlier None = Unit {0}
  Earlier (Some p) = (1 ≤ p.file) × ((p.file ≤ n) × (1 ≤ p.line))

  abbrev From : ℕ → Option ℕ → Type 0
  From l None = Unit {0}
  From l (Some m) = l ≤ m

  line_from : (a : List ℕ) (l : ℕ) (ts : List Told) → From l (line_of a l ts)
  unfolding line_of
  line_from a l [] = tt
  line_from a l (t ∷ ts) = go (bears a t) (line_of a (l + 1) ts) (line_from a (l + 1) ts)
    where
      go : (b : Bool) (o : Option ℕ) → From (l + 1) o → From l (cond b (Some l) o)
      go true o h = omega arith
      go false None h = tt
      go false (Some m) h = omega arith

  earlier-known : (name a : List ℕ) (qs : List Prepared) → AllKnown qs → Earlier (earlier name a qs)
  unfolding earlier Each
  earlier-known name a [] q = tt
  earlier-known name a (m ∷ qs) q = go (equals name m.name) (line_of a 1 m.lines) (line_from a 1 m.lines) (earlier-known name a qs q.1)
    where
      go : (b : Bool) (o : Option ℕ) → From 1 o → Earlier (earlier name a qs) → Earlier (cond b (earlier name a qs) (place_or m.file o (earlier name a qs)))
      go true o h ih = ih
      go false None h ih = ih
      go false (Some l) h ih = (q.0.0, (q.0.1, h))

  at_each : (f l : ℕ) (p : Option Place) → 1 ≤ f → f ≤ n → 1 ≤ l → Earlier p → Each P (shared_at (place f l) p)
  unfolding Each
  at_each f l None a b c e = tt
  at_each f l (Some p) a b c e = (h.shared f l p.file p.line a b c e.0 e.1.0 e.1.1, tt)

  line-each : (qs : List Prepared) (m : Prepared) (l : ℕ) (k : LineKind) (s : List ℕ) → AllKnown qs → Known m → 1 ≤ l → Each P (shared_line qs m l (record { kind = k; bytes = s }))
  unfolding Each
  line-each qs m l Quoted s q k c = tt
  line-each qs m l (Heading j b e) s q k c = at_each m.file l (earlier m.name (slug (part_of b e s)) qs) k.0 k.1 c (earlier-known m.name (slug (part_of b e s)) qs q)
  line-each qs m l Other s q k c = tt

  in-each : (qs : List Prepared) (m : Prepared) (l : ℕ) (ts : List Told) → AllKnown qs → Known m → 1 ≤ l → Each P (shared_in qs m l ts)
  unfolding shared_in Each
  in-each qs m l [] q k c = tt
  in-each qs m l (t ∷ ts) q k c = each_append P (shared_line qs m l t) _ (line-each qs m l t.kind t.bytes q k c) (in-each qs m (l + 1) ts q k (omega arith))

  shared-each : (qs ms : List Prepared) → AllKnown qs → AllKnown ms → Each P (shared_from qs ms)
  unfolding shared_from Each
  shared-each qs [] q k = tt
  shared-each qs (m ∷ ms) q k =
      each_append P (shared_in qs m 1 m.lines) _ (in-each qs m 1 m.lines q k.0 (omega arith))
      (shared-each (qs ++ (m ∷ [])) ms (each_append Known qs (m ∷ []) q (k.0, tt)) k.1)

  -- 16 and 17; with no member the text is one LF, which is never over a limit
  emit-holds : (titles : List ℕ → Option (List ℕ)) (url : List ℕ) (m : Prepared) → Known m → Holds P Lines (part (emit titles url m))
  unfolding emit
  emit-holds titles url m k = holds_unless P Lines _ _ (past_places P (λ l. HeadingLevel (place m.file l)) (λ l c. h.heading m.file l k.0 k.1 c) _ _) tt

  emits-hold : (f : Prepared → Part (List (List ℕ))) → ((m : Prepared) → Known m → Holds P Lines (part (f m))) → (k : ℕ) (ms : List Prepared) (ls : List (List ℕ)) → (1 < length (join LF ls ++ (LF ∷ [])) → 1 ≤ k) → k ≤ n → AllKnown ms
      → Holds P Whole (emit_all f k ms ls)
  unfolding emit_all Each Holds
  emits-hold f e k [] ls o c q = ((λ l. h.limit k (o l) c), tt)
  emits-hold f e k (m ∷ ms) ls o c q =
      holds_go P Lines Whole (part (f m)) _ (e m q.0) (λ es z. ((λ l. h.limit m.file q.0.0 q.0.1), emits-hold f e m.file ms (join_lines ls es) (λ l. q.0.0) q.0.1 q.1))

  pub assemble_holds : (url : List ℕ) (hs : List File) → Each (InSet n) hs → Holds P Whole (assemble url hs)
  unfolding assemble Each join
  assemble_holds url hs q =
      holds_go P AllKnown Whole (prepare_all hs) _ (all-holds hs q) (λ ms k.
      holds_go P AllKnown Whole (part (compare ms)) _ (holds_unless P AllKnown (shared_from [] ms) ms (shared-each [] ms tt k) k) (λ us j.
      emits-hold (emit (title_named us) url) (emit-holds (title_named us) url) 0 us [] (λ l. omega (arith, l)) (omega arith) j))
