-- Laws of a book: what the walk makes, where it fails, what it tests and takes in, are what lies on the chains and in the assembly. Assumes nothing.
use Rattle.std.specs.Prelude.{Option, Some, None}
use Prim.Native.Nat.{ℕ, ◌+◌, ◌≤◌}
use native.Mathlib.Omega.{arith}
use mathlib.Core.Path.{◌≡◌, refl, sym, ◌∙◌}
use mathlib.Core.List.{List, [], ◌∷◌, map, Memᴰ}
use lib.ListN.{length}
use Rattle.answer.specs.declared.Refusal.{Refusal}
use Rattle.index.specs.Index.{File}
use Rattle.walk.specs.Parts.{and_then}
use Rattle.walk.specs.Steps.{done, go, ends, takes, sizes}
use Rattle.walk.proofs.Sums.{total, total_append, zero_total, total_one}
use Rattle.walk.proofs.PartLaws.{made_by, Agrees, agrees_cons}
use Rattle.walk.proofs.StepsLaws.{ends-go, weigh, weigh_go, weigh_go_le, weigh_takes, weigh_sizes, flaw, flaw_go}
use Rattle.chains.specs.Chains.{Chain, start, starts, made, running}
use Rattle.chains.proofs.ChainLaws.{extended, longer}
use Rattle.chains.specs.Fill.{walk}
use Rattle.chains.proofs.ChainLaws.{walk-made, flaws, made_flaws, reached, faults_of, walk_flaw, sums, walk_weigh, walk_weigh_le}
use Rattle.assembled.specs.Assemble.{assemble}
use Rattle.assembled.specs.Assembled.{assembled_text}
use Rattle.assembled.proofs.AssembleLaws.{assemble-made, assemble_flaws, assemble_flaw, assemble_weigh, assemble_weigh_le, assembled-running}
use Rattle.book.specs.BookWalk.{walk_all, book}
use Rattle.book.specs.Book.{members_of, with_texts, made_all, book_text, made_members, book_faults, book_running}

-- ---- what it makes

walk_all-made : (cs : List Chain) → ends (walk_all cs) ≡ made_all cs
unfolding walk_all made_all ends
walk_all-made [] = refl
walk_all-made (c ∷ cs) = simp (ends-go, walk-made c, walk_all-made cs)

pub book-made : (S : List File) (M url : List ℕ) → ends (book S M url) ≡ book_text S M url
unfolding book book_text
book-made S M url = simp (ends-go, walk_all-made, assemble-made)

-- ---- a fault, or a text

all_flaws : (cs : List Chain) → Agrees (made_all cs) (total flaws (reached cs))
unfolding made_all reached total
all_flaws [] = refl
all_flaws (c ∷ cs) =
    let e : total flaws (reached (c ∷ cs)) ≡ flaws c + total flaws (longer c) + total flaws (reached cs) = rw total_append (omega arith) in
    rw e (agrees_cons (made c) (made_all cs) _ _ (made_flaws c) (all_flaws cs))

-- the members whose texts are made, where all are
all_some : (S : List File) (M : List ℕ) (ts : List (List ℕ)) → made_all (starts S M) ≡ Some ts → made_members S M ≡ map Some (with_texts (members_of S M) ts)
unfolding made_all made_members with_texts
all_some S [] ts e = refl
all_some S (k ∷ M) ts e =
    made_by (made (start S k)) (λ t. and_then (made_all (starts S M)) (λ us. Some (t ∷ us))) ts e (λ t i j.
    made_by (made_all (starts S M)) (λ us. Some (t ∷ us)) ts j (λ us h l.
    let z : t ∷ us ≡ ts = cc in
    rw (← z, i, all_some S M us h)))

pub book_flaws : (S : List File) (M url : List ℕ) → Agrees (book_text S M url) (total flaws (reached (starts S M)) + length (book_faults S M url))
unfolding book_text
book_flaws S M url = at-members (made_all (starts S M)) refl (all_flaws (starts S M))
  where
    at-members : (o : Option (List (List ℕ))) → made_all (starts S M) ≡ o → Agrees o (total flaws (reached (starts S M)))
        → Agrees (and_then o (λ ts. assembled_text url (with_texts (members_of S M) ts))) (total flaws (reached (starts S M)) + length (book_faults S M url))
    at-members None q h = omega arith
    at-members (Some ts) q h =
        let e : total flaws (reached (starts S M)) + length (book_faults S M url) ≡ length (book_faults S M url) = omega arith in
        rw (e, all_some S M ts q) (assemble_flaws url (with_texts (members_of S M) ts))

-- the fault that the walk ends in is one of those: f is any weight
module _ (f : Refusal → ℕ) where
  walkAll-flaw : (cs : List Chain) → flaw f (walk_all cs) ≤ total (faults_of f) (reached cs)
  unfolding walk_all reached flaw total
  walkAll-flaw [] = omega arith
  walkAll-flaw (c ∷ cs) =
      let h = flaw_go f (walk c) (λ t. go (walk_all cs) (λ ts. done (t ∷ ts))) _ (total (faults_of f) (reached cs) + 0) (walk_flaw f c) (λ t i.
      flaw_go f (walk_all cs) (λ ts. done (t ∷ ts)) _ 0 (walkAll-flaw cs) (λ ts j. omega arith)) in
      rw total_append (omega arith)

  pub book_flaw : (S : List File) (M url : List ℕ) → flaw f (book S M url) ≤ total (faults_of f) (reached (starts S M)) + total f (book_faults S M url)
  unfolding book
  book_flaw S M url =
      flaw_go f (walk_all (starts S M)) (λ ts. assemble url (with_texts (members_of S M) ts)) _ _ (walkAll-flaw (starts S M)) (λ ts e.
      rw (all_some S M ts (sym (walk_all-made (starts S M)) ∙ e)) (assemble_flaw f url (with_texts (members_of S M) ts)))

-- ---- what it tests and takes in

module _ (f : List ℕ → ℕ) (n : ℕ) where
  walkAll-weigh : (cs : List Chain) (ts : List (List ℕ)) → made_all cs ≡ Some ts
      → weigh f n (walk_all cs) ≡ total (λ d. total f (running d)) (reached cs) + total (λ d. n) (extended cs)
  unfolding walk_all made_all reached extended total weigh
  walkAll-weigh [] ts e = omega arith
  walkAll-weigh (c ∷ cs) ts e =
      made_by (made c) (λ t. and_then (made_all cs) (λ us. Some (t ∷ us))) ts e (λ t i k.
      made_by (made_all cs) (λ us. Some (t ∷ us)) ts k (λ us j l.
      let h = walk_weigh f n c t i in
      let k = walkAll-weigh cs us j in
      rw (weigh_go f n (walk c) _ t (walk-made c ∙ i), weigh_go f n (walk_all cs) _ us (walk_all-made cs ∙ j)) (simp total_append (omega arith))))

  book-weigh : (S : List File) (M url v : List ℕ) → book_text S M url ≡ Some v
      → weigh f n (book S M url) ≡ total (λ d. total f (running d)) (reached (starts S M)) + total f (book_running S M url) + total (λ d. n) (extended (starts S M))
  unfolding book book_text
  book-weigh S M url v e =
      made_by (made_all (starts S M)) (λ ts. assembled_text url (with_texts (members_of S M) ts)) v e (λ ts g a.
      let k = walkAll-weigh (starts S M) ts g in
      let l = assemble_weigh f n url (with_texts (members_of S M) ts) v a in
      rw (weigh_go f n (walk_all (starts S M)) _ ts (walk_all-made (starts S M) ∙ g), g) (omega arith))

  -- and where nothing is made, no more than these
  walkAll-weigh-le : (cs : List Chain) → weigh f n (walk_all cs) ≤ total (λ d. total f (running d)) (reached cs) + total (λ d. n) (extended cs)
  unfolding walk_all reached extended total weigh
  walkAll-weigh-le [] = omega arith
  walkAll-weigh-le (c ∷ cs) =
      let h = weigh_go_le f n (walk c) (λ t. go (walk_all cs) (λ ts. done (t ∷ ts))) (total f (running c) + sums f n (longer c)) (total (λ d. total f (running d)) (reached cs) + total (λ d. n) (extended cs) + 0) (walk_weigh_le f n c) (λ t i.
      weigh_go_le f n (walk_all cs) (λ ts. done (t ∷ ts)) _ 0 (walkAll-weigh-le cs) (λ ts j. omega arith)) in
      simp total_append (omega arith)

  pub book_weigh_le : (S : List File) (M url : List ℕ)
      → weigh f n (book S M url) ≤ total (λ d. total f (running d)) (reached (starts S M)) + total f (book_running S M url) + total (λ d. n) (extended (starts S M))
  unfolding book
  book_weigh_le S M url =
      let h = weigh_go_le f n (walk_all (starts S M)) (λ ts. assemble url (with_texts (members_of S M) ts)) _ (total f (book_running S M url)) (walkAll-weigh-le (starts S M)) (λ ts e.
      rw (sym (walk_all-made (starts S M)) ∙ e) (assemble_weigh_le f n url (with_texts (members_of S M) ts))) in
      omega arith

pub book-takes : (S : List File) (M url v : List ℕ) → book_text S M url ≡ Some v → takes (book S M url) ≡ length (extended (starts S M))
book-takes S M url v e =
    let w = weigh_takes (book S M url) in
    let h = book-weigh (λ t. 0) 1 S M url v e in
    let z = zero_total (λ d. total (λ t. 0) (running d)) (reached (starts S M)) (λ d m. zero_total (λ t. 0) (running d) (λ t k. refl)) in
    let y = zero_total (λ t. 0) (book_running S M url) (λ t k. refl) in
    omega (arith, total_one (extended (starts S M)))

-- each running text is tested as often as it comes: f is any weight
pub book-sizes : (f : List ℕ → ℕ) (S : List File) (M url v : List ℕ) → book_text S M url ≡ Some v
    → total f (sizes (book S M url)) ≡ total (λ d. total f (running d)) (reached (starts S M)) + total f (book_running S M url)
book-sizes f S M url v e =
    let w = weigh_sizes f (book S M url) in
    let h = book-weigh f 0 S M url v e in
    let z = zero_total (λ d. 0) (extended (starts S M)) (λ d m. refl) in
    omega arith

-- no more files are taken in, and no other running texts tested, than lie on the chains and in the assembly
pub book-takes_le : (S : List File) (M url : List ℕ) → takes (book S M url) ≤ length (extended (starts S M))
book-takes_le S M url =
    let w = weigh_takes (book S M url) in
    let h = book_weigh_le (λ t. 0) 1 S M url in
    let z = zero_total (λ d. total (λ t. 0) (running d)) (reached (starts S M)) (λ d m. zero_total (λ t. 0) (running d) (λ t k. refl)) in
    let y = zero_total (λ t. 0) (book_running S M url) (λ t k. refl) in
    omega (arith, total_one (extended (starts S M)))

pub book-sizes_le : (f : List ℕ → ℕ) (S : List File) (M url : List ℕ)
    → total f (sizes (book S M url)) ≤ total (λ d. total f (running d)) (reached (starts S M)) + total f (book_running S M url)
book-sizes_le f S M url =
    let w = weigh_sizes f (book S M url) in
    let h = book_weigh_le f 0 S M url in
    let z = zero_total (λ d. 0) (extended (starts S M)) (λ d m. refl) in
    omega arith

-- ---- the text is one of the running texts

pub book-running : (S : List File) (M url : List ℕ) (t : List ℕ) → book_text S M url ≡ Some t → Memᴰ t (book_running S M url)
unfolding book_text
book-running S M url t e = made_by (made_all (starts S M)) (λ ts. assembled_text url (with_texts (members_of S M) ts)) t e (λ ts i k. rw i (assembled-running url (with_texts (members_of S M) ts) t k))
