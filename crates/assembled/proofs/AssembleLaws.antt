-- Laws of an assembly: what the walk makes, where it fails and what it tests, are its text, its faults and its running texts. Assumes nothing.
use Rattle.std.specs.Prelude.{Option, Some, None}
use Prim.Native.Nat.{ℕ, ◌+◌, ◌≤◌}
use native.Mathlib.Omega.{arith}
use mathlib.Core.Path.{◌≡◌, refl, sym, ap, ◌∙◌}
use mathlib.Core.List.{List, [], ◌∷◌, ◌++◌, map, Memᴰ}
use lib.ListN.{length, length-append}
use Rattle.text.specs.Lines.{LF}
use Rattle.text.specs.Split.{join}
use Rattle.index.specs.Index.{File}
use Rattle.answer.specs.Answer.{place}
use Rattle.answer.specs.declared.Refusal.{Refusal}
use Rattle.walk.specs.Parts.{Part, part_made, and_then, if_made, unless}
use Rattle.walk.specs.Steps.{done, sized, go, part, ends}
use Rattle.walk.proofs.Sums.{total, total_append}
use Rattle.walk.proofs.PartLaws.{made_by, Agrees, agrees_then, agrees_part, agrees_cons, unless-faults}
use Rattle.walk.proofs.StepsLaws.{ends-go, ends-part, weigh, weigh_go, weigh_go_le, weigh_part, flaw, flaw_go, flaw_part}
use Rattle.member.specs.Member.{Prepared, prepare}
use Rattle.shared.specs.Shared.{shared_from, compare}
use Rattle.target.specs.Titles.{title_named}
use Rattle.emitted.specs.Emit.{emit, join_lines}
use Rattle.assembled.specs.Assemble.{prepare_all, emit_all, assemble_prepared, assemble}
use Rattle.assembled.specs.Assembled.{prepared_all, joined_all, assembled_text, each_faults, each_made, present, prepared_faults, assembly_faults, joins, assembly_running}

-- ---- what it makes

prepare_all-made : (hs : List File) → ends (prepare_all hs) ≡ prepared_all hs
unfolding prepare_all prepared_all ends
prepare_all-made [] = refl
prepare_all-made (h ∷ hs) = simp (ends-go, ends-part, prepare_all-made hs)

emit_all-made : (f : Prepared → Part (List (List ℕ))) (k : ℕ) (ms : List Prepared) (ls : List (List ℕ)) → ends (emit_all f k ms ls) ≡ joined_all f ms ls
unfolding emit_all joined_all ends
emit_all-made f k [] ls = refl
emit_all-made f k (m ∷ ms) ls = simp (ends-go, ends-part, emit_all-made f m.file ms)

pub assemble-made : (url : List ℕ) (hs : List File) → ends (assemble url hs) ≡ assembled_text url hs
unfolding assemble assembled_text
assemble-made url hs = simp (ends-go, ends-part, prepare_all-made, emit_all-made)

-- ---- a fault, or a text

prepared_flaws : (hs : List File) → Agrees (prepared_all hs) (length (each_faults prepare (map Some hs)))
unfolding prepared_all each_faults
prepared_flaws [] = refl
prepared_flaws (h ∷ hs) = rw length-append (agrees_cons (part_made (prepare h)) (prepared_all hs) _ _ (agrees_part (prepare h)) (prepared_flaws hs))

prepared_some : (hs : List File) (ms : List Prepared) → prepared_all hs ≡ Some ms → each_made prepare (map Some hs) ≡ map Some ms
unfolding prepared_all each_made
prepared_some [] ms e = let h : [] ≡ ms = cc in rw (← h)
prepared_some (h ∷ hs) ms e =
    made_by (part_made (prepare h)) (λ x. and_then (prepared_all hs) (λ xs. Some (x ∷ xs))) ms e (λ x i k.
    made_by (prepared_all hs) (λ xs. Some (x ∷ xs)) ms k (λ xs j l.
    let z : x ∷ xs ≡ ms = cc in
    rw (i, prepared_some hs xs j) (ap (λ l. map Some l) z)))

present-some : (ms : List Prepared) → present (map Some ms) ≡ ms
unfolding present
present-some [] = refl
present-some (m ∷ ms) = ap (λ l. m ∷ l) (present-some ms)

joined_flaws : (f : Prepared → Part (List (List ℕ))) (ms : List Prepared) (ls : List (List ℕ)) → Agrees (joined_all f ms ls) (length (each_faults f (map Some ms)))
unfolding joined_all each_faults
joined_flaws f [] ls = refl
joined_flaws f (m ∷ ms) ls = rw length-append (agrees_then (part_made (f m)) _ _ _ (agrees_part (f m)) (λ es. joined_flaws f ms (join_lines ls es)))

compare-made : (ms us : List Prepared) → part_made (compare ms) ≡ Some us → ms ≡ us
compare-made ms us e = go-shared (shared_from [] ms) e
  where
    go-shared : (xs : List Refusal) → part_made (unless xs ms) ≡ Some us → ms ≡ us
    go-shared [] e = cc
    go-shared (x ∷ xs) e = let z : ◌≡◌ {A = ℕ} 0 1 = cc in absurd (omega arith)

compared_flaws : (url : List ℕ) (ms : List Prepared) → Agrees (and_then (part_made (compare ms)) (λ us. joined_all (emit (title_named us) url) us [])) (length (prepared_faults url (map Some ms)))
compared_flaws url ms = rw (present-some ms, length-append) (go (shared_from [] ms) (joined_flaws (emit (title_named ms) url) ms []))
  where
    go : (xs : List Refusal) → Agrees (joined_all (emit (title_named ms) url) ms []) (length (each_faults (emit (title_named ms) url) (map Some ms)))
        → Agrees (and_then (part_made (unless xs ms)) (λ us. joined_all (emit (title_named us) url) us [])) (length xs + length (each_faults (emit (title_named ms) url) (map Some ms)))
    go [] h = let e : 0 + length (each_faults (emit (title_named ms) url) (map Some ms)) ≡ length (each_faults (emit (title_named ms) url) (map Some ms)) = omega arith in rw e h
    go (x ∷ xs) h = omega arith

pub assemble_flaws : (url : List ℕ) (hs : List File) → Agrees (assembled_text url hs) (length (assembly_faults url (map Some hs)))
unfolding assembled_text
assemble_flaws url hs = rw length-append (at-members (prepared_all hs) refl (prepared_flaws hs))
  where
    at-members : (o : Option (List Prepared)) → prepared_all hs ≡ o → Agrees o (length (each_faults prepare (map Some hs)))
        → Agrees (and_then o (λ ms. and_then (part_made (compare ms)) (λ us. joined_all (emit (title_named us) url) us [])))
        (length (each_faults prepare (map Some hs)) + length (prepared_faults url (each_made prepare (map Some hs))))
    at-members None q h = omega arith
    at-members (Some ms) q h =
        let e : length (each_faults prepare (map Some hs)) + length (prepared_faults url (map Some ms)) ≡ length (prepared_faults url (map Some ms)) = omega arith in
        rw (prepared_some hs ms q, e) (compared_flaws url ms)

-- the fault that the walk ends in is one of those: f is any weight
module _ (f : Refusal → ℕ) where
  prepareAll-flaw : (hs : List File) → flaw f (prepare_all hs) ≤ total f (each_faults prepare (map Some hs))
  unfolding prepare_all each_faults flaw total
  prepareAll-flaw [] = omega arith
  prepareAll-flaw (h ∷ hs) =
      rw total_append (flaw_go f (part (prepare h)) (λ m. go (prepare_all hs) (λ ms. done (m ∷ ms))) _ _ (flaw_part f (prepare h)) (λ m e. zero_more (flaw_go f (prepare_all hs) (λ ms. done (m ∷ ms)) _ 0 (prepareAll-flaw hs) (λ ms i. omega arith))))
    where
      zero_more : {n k : ℕ} → n ≤ k + 0 → n ≤ k
      zero_more h = omega arith

  emitAll-flaw : (g : Prepared → Part (List (List ℕ))) (k : ℕ) (ms : List Prepared) (ls : List (List ℕ)) → flaw f (emit_all g k ms ls) ≤ total f (each_faults g (map Some ms))
  unfolding emit_all each_faults flaw total
  emitAll-flaw g k [] ls = omega arith
  emitAll-flaw g k (m ∷ ms) ls =
      rw total_append (flaw_go f (part (g m)) (λ es. sized (join LF (join_lines ls es)) (place m.file 0) (emit_all g m.file ms (join_lines ls es))) _ _ (flaw_part f (g m)) (λ es i. emitAll-flaw g m.file ms (join_lines ls es)))

  compared-flaw : (url : List ℕ) (ms : List Prepared) → flaw f (go (part (compare ms)) (λ us. assemble_prepared url us)) ≤ total f (prepared_faults url (map Some ms))
  compared-flaw url ms =
      rw (present-some ms, total_append) (flaw_go f (part (compare ms)) (λ us. assemble_prepared url us) _ _ (rw (unless-faults (shared_from [] ms) ms) at (flaw_part f (compare ms))) (λ us e.
      rw (← compare-made ms us (sym (ends-part (compare ms)) ∙ e)) (emitAll-flaw (emit (title_named ms) url) 0 ms [])))

  pub assemble_flaw : (url : List ℕ) (hs : List File) → flaw f (assemble url hs) ≤ total f (assembly_faults url (map Some hs))
  unfolding assemble
  assemble_flaw url hs =
      rw total_append (flaw_go f (prepare_all hs) (λ ms. go (part (compare ms)) (λ us. assemble_prepared url us)) _ _ (prepareAll-flaw hs) (λ ms e.
      rw (prepared_some hs ms (sym (prepare_all-made hs) ∙ e)) (compared-flaw url ms)))

-- ---- what it tests

module _ (f : List ℕ → ℕ) (n : ℕ) where
  prepareAll-weigh : (hs : List File) (ms : List Prepared) → prepared_all hs ≡ Some ms → weigh f n (prepare_all hs) ≡ 0
  unfolding prepare_all prepared_all weigh
  prepareAll-weigh [] ms e = refl
  prepareAll-weigh (h ∷ hs) ms e =
      made_by (part_made (prepare h)) (λ x. and_then (prepared_all hs) (λ xs. Some (x ∷ xs))) ms e (λ x i k.
      made_by (prepared_all hs) (λ xs. Some (x ∷ xs)) ms k (λ xs j m.
      let k = prepareAll-weigh hs xs j in
      rw (weigh_go f n (part (prepare h)) _ x (ends-part (prepare h) ∙ i), weigh_part, weigh_go f n (prepare_all hs) _ xs (prepare_all-made hs ∙ j)) (omega arith)))

  emitAll-weigh : (g : Prepared → Part (List (List ℕ))) (k : ℕ) (ms : List Prepared) (ls : List (List ℕ)) (v : List ℕ) → joined_all g ms ls ≡ Some v
      → weigh f n (emit_all g k ms ls) ≡ total f (joins g ms ls)
  unfolding emit_all joined_all joins weigh total
  emitAll-weigh g k [] ls v e = omega arith
  emitAll-weigh g k (m ∷ ms) ls v e =
      made_by (part_made (g m)) (λ es. joined_all g ms (join_lines ls es)) v e (λ es i j.
      let h = emitAll-weigh g m.file ms (join_lines ls es) v j in
      rw (weigh_go f n (part (g m)) _ es (ends-part (g m) ∙ i), weigh_part, i) (omega arith))

  pub assemble_weigh : (url : List ℕ) (hs : List File) (v : List ℕ) → assembled_text url hs ≡ Some v → weigh f n (assemble url hs) ≡ total f (assembly_running url hs)
  unfolding assemble assembled_text
  assemble_weigh url hs v e =
      made_by (prepared_all hs) (λ ms. and_then (part_made (compare ms)) (λ us. joined_all (emit (title_named us) url) us [])) v e (λ ms h i.
      made_by (part_made (compare ms)) (λ us. joined_all (emit (title_named us) url) us []) v i (λ us j k.
      let p = prepareAll-weigh hs ms h in
      let q = emitAll-weigh (emit (title_named us) url) 0 us [] v k in
      rw (weigh_go f n (prepare_all hs) _ ms (prepare_all-made hs ∙ h), weigh_go f n (part (compare ms)) _ us (ends-part (compare ms) ∙ j), weigh_part, h, j) (omega arith)))

  -- and where nothing is made, no more than these
  prepareAll-weigh-le : (hs : List File) → weigh f n (prepare_all hs) ≤ 0
  unfolding prepare_all weigh
  prepareAll-weigh-le [] = omega arith
  prepareAll-weigh-le (h ∷ hs) =
      weigh_go_le f n (part (prepare h)) (λ m. go (prepare_all hs) (λ ms. done (m ∷ ms))) 0 0 (omega (arith, weigh_part f n (prepare h))) (λ m e.
      weigh_go_le f n (prepare_all hs) (λ ms. done (m ∷ ms)) 0 0 (prepareAll-weigh-le hs) (λ ms i. omega arith))

  emitAll-weigh-le : (g : Prepared → Part (List (List ℕ))) (k : ℕ) (ms : List Prepared) (ls : List (List ℕ)) → weigh f n (emit_all g k ms ls) ≤ total f (joins g ms ls)
  unfolding emit_all joins weigh total
  emitAll-weigh-le g k [] ls = omega arith
  emitAll-weigh-le g k (m ∷ ms) ls =
      let z = weigh_go_le f n (part (g m)) (λ es. sized (join LF (join_lines ls es)) (place m.file 0) (emit_all g m.file ms (join_lines ls es))) 0 (total f (joins g (m ∷ ms) ls)) (omega (arith, weigh_part f n (g m))) (λ es e.
      rw (sym (ends-part (g m)) ∙ e) (omega (arith, emitAll-weigh-le g m.file ms (join_lines ls es)))) in
      omega arith

  compared-weigh-le : (url : List ℕ) (ms : List Prepared) → weigh f n (go (part (compare ms)) (λ us. assemble_prepared url us)) ≤ total f (if_made (part_made (compare ms)) (λ us. joins (emit (title_named us) url) us []))
  compared-weigh-le url ms =
      let z = weigh_go_le f n (part (compare ms)) (λ us. assemble_prepared url us) 0 (total f (if_made (part_made (compare ms)) (λ us. joins (emit (title_named us) url) us []))) (omega (arith, weigh_part f n (compare ms))) (λ us e.
      rw (sym (ends-part (compare ms)) ∙ e) (emitAll-weigh-le (emit (title_named us) url) 0 us [])) in
      omega arith

  pub assemble_weigh_le : (url : List ℕ) (hs : List File) → weigh f n (assemble url hs) ≤ total f (assembly_running url hs)
  unfolding assemble
  assemble_weigh_le url hs =
      let z = weigh_go_le f n (prepare_all hs) (λ ms. go (part (compare ms)) (λ us. assemble_prepared url us)) 0 (total f (assembly_running url hs)) (prepareAll-weigh-le hs) (λ ms e.
      rw (sym (prepare_all-made hs) ∙ e) (compared-weigh-le url ms)) in
      omega arith

-- ---- the text is the last of the running texts

joined_running : (f : Prepared → Part (List (List ℕ))) (ms : List Prepared) (ls : List (List ℕ)) (t : List ℕ) → joined_all f ms ls ≡ Some t → Memᴰ t (joins f ms ls)
unfolding joined_all joins
joined_running f [] ls t e = let q : join LF ls ++ (LF ∷ []) ≡ t = cc in Memᴰ.head (sym q)
joined_running f (m ∷ ms) ls t e = made_by (part_made (f m)) (λ es. joined_all f ms (join_lines ls es)) t e (λ es i k. rw i (Memᴰ.tail (joined_running f ms (join_lines ls es) t k)))

pub assembled-running : (url : List ℕ) (hs : List File) (t : List ℕ) → assembled_text url hs ≡ Some t → Memᴰ t (assembly_running url hs)
unfolding assembled_text
assembled-running url hs t e =
    made_by (prepared_all hs) (λ ms. and_then (part_made (compare ms)) (λ us. joined_all (emit (title_named us) url) us [])) t e (λ ms i k.
    made_by (part_made (compare ms)) (λ us. joined_all (emit (title_named us) url) us []) t k (λ us j l.
    rw (i, j) (joined_running (emit (title_named us) url) us [] t l)))
