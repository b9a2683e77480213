-- The numbers of an assembly's faults: 16, 18 and 19. Assumes nothing.
use Rattle.std.specs.Prelude.{Option, Some, None}
use Prim.Native.Nat.{ℕ, ◌+◌}
use mathlib.Core.Path.{◌≡◌, refl}
use mathlib.Core.Bool.{true}
use mathlib.Core.List.{List, [], ◌∷◌, ◌++◌}
use Rattle.answer.specs.Answer.{place}
use Rattle.answer.specs.declared.Place.{Place}
use Rattle.answer.specs.declared.Refusal.TheVariants.{HeadingLevel}
use Rattle.text.specs.Bytes.{part}
use Rattle.anchor.specs.Anchor.{slug}
use Rattle.heading.specs.declared.walk.LineKind.{LineKind}
use Rattle.heading.specs.declared.walk.LineKind.TheVariants.{Quoted, Heading, Other}
use Rattle.index.specs.Index.{File}
use Rattle.walk.specs.Parts.{Part, part_faults}
use Rattle.walk.proofs.FaultLaws.{all_faults, all_append}
use Rattle.shift.specs.Shift.{Told}
use Rattle.chains.proofs.FaultLaws.{past_fault, unless_fault}
use Rattle.member.specs.Member.{Prepared, title_of, titled, prepared_lines, prepare}
use Rattle.earlier.specs.Earlier.{earlier}
use Rattle.shared.specs.Shared.{shared_at, shared_line, shared_in, shared_from}
use Rattle.target.specs.Titles.{title_named}
use Rattle.emitted.specs.Emit.{emit}
use Rattle.assembled.specs.Assembled.{each_faults, each_made, present, prepared_faults, assembly_faults}

-- 18
prepare_fault : (h : File) → all_faults (part_faults (prepare h)) ≡ true
unfolding prepare all_faults
prepare_fault h = go (title_of (prepared_lines h.text))
  where
    go : (o : Option (List ℕ)) → all_faults (part_faults (titled h (prepared_lines h.text) o)) ≡ true
    go None = refl
    go (Some t) = refl

-- 19
at_fault : (p : Place) (q : Option Place) → all_faults (shared_at p q) ≡ true
unfolding all_faults
at_fault p (Some q) = refl
at_fault p None = refl

line_fault : (qs : List Prepared) (m : Prepared) (n : ℕ) (k : LineKind) (l : List ℕ) → all_faults (shared_line qs m n (record { kind = k; bytes = l })) ≡ true
unfolding all_faults
line_fault qs m n Quoted l = refl
line_fault qs m n (Heading k b e) l = at_fault (place m.file n) (earlier m.name (slug (part b e l)) qs)
line_fault qs m n Other l = refl

in_fault : (qs : List Prepared) (m : Prepared) (n : ℕ) (ts : List Told) → all_faults (shared_in qs m n ts) ≡ true
unfolding shared_in all_faults
in_fault qs m n [] = refl
in_fault qs m n (t ∷ ts) = all_append (shared_line qs m n t) (shared_in qs m (n + 1) ts) (line_fault qs m n t.kind t.bytes) (in_fault qs m (n + 1) ts)

shared_fault : (qs ms : List Prepared) → all_faults (shared_from qs ms) ≡ true
unfolding shared_from all_faults
shared_fault qs [] = refl
shared_fault qs (m ∷ ms) = all_append (shared_in qs m 1 m.lines) (shared_from (qs ++ (m ∷ [])) ms) (in_fault qs m 1 m.lines) (shared_fault (qs ++ (m ∷ [])) ms)

-- 16
emit_fault : (titles : List ℕ → Option (List ℕ)) (url : List ℕ) (m : Prepared) → all_faults (part_faults (emit titles url m)) ≡ true
unfolding emit
emit_fault titles url m = unless_fault _ _ (past_fault (λ n. HeadingLevel (place m.file n)) (λ n. refl) _ 1 _)

each_fault : {A B : Type 0} (f : A → Part B) → ((a : A) → all_faults (part_faults (f a)) ≡ true) → (os : List (Option A)) → all_faults (each_faults f os) ≡ true
unfolding each_faults all_faults
each_fault f h [] = refl
each_fault f h (None ∷ os) = each_fault f h os
each_fault f h (Some a ∷ os) = all_append (part_faults (f a)) (each_faults f os) (h a) (each_fault f h os)

pub assembly_fault : (url : List ℕ) (os : List (Option File)) → all_faults (assembly_faults url os) ≡ true
assembly_fault url os =
    let ps : List (Option Prepared) = each_made prepare os in
    all_append (each_faults prepare os) (prepared_faults url ps) (each_fault prepare prepare_fault os)
    (all_append (shared_from [] (present ps)) (each_faults (emit (title_named (present ps)) url) ps) (shared_fault [] (present ps))
    (each_fault (emit (title_named (present ps)) url) (emit_fault (title_named (present ps)) url) ps))
