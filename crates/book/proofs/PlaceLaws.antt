-- The places of a book's refusals: what holds of each refusal at such a place holds of all that the walk of a book, and each call, may come to. Assumes nothing.
use Rattle.std.specs.Prelude.{Result, Ok, Err}
use Prim.Native.Nat.{ℕ, ◌≤◌, ◌<◌}
use native.Mathlib.Omega.{arith}
use mathlib.Core.Path.{◌≡◌, refl, ap}
use mathlib.Core.List.{List, [], ◌∷◌}
use lib.ListN.{length}
use Rattle.answer.specs.Answer.{place}
use Rattle.answer.specs.declared.Refusal.{Refusal}
use Rattle.answer.specs.declared.Refusal.TheVariants.{WideByte, ListForm, Absent}
use Rattle.index.specs.Index.{File, file_of, records, files}
use Rattle.index.proofs.RowsLaws.{files-length}
use Rattle.fileset.specs.Members.{members}
use Rattle.fileset.specs.Check.{fill_checked, book_checked}
use Rattle.fileset.proofs.PassedLaws.{fill_fit, book_fit}
use Rattle.fileset.proofs.PlaceLaws.{HeadPlaces, fill_held, book_held}
use Rattle.walk.specs.Outcome.{Outcome, text, noRegion, refusal, outcome}
use Rattle.walk.specs.Steps.{Steps, done, Judged, given, refused, judge}
use Rattle.walk.proofs.StepsLaws.{given-judge}
use Rattle.walk.proofs.HoldLaws.{Each, Holds, holds_go, holds_refused}
use Rattle.chains.specs.Chains.{Chain, wrong, plain, host, file_at, free, no_marks, start_at, start, starts}
use Rattle.chains.specs.Fill.{walk, filled}
use Rattle.chains.proofs.PlaceLaws.{FillPlaces, grow_holds, set_number}
use Rattle.assembled.specs.Assemble.{assemble}
use Rattle.assembled.proofs.PlaceLaws.{AssemblyPlaces, InSet, assemble_holds}
use Rattle.book.specs.Book.{members_of, with_texts}
use Rattle.book.specs.BookWalk.{walk_all, book}
use Rattle.book.specs.Calls.{after_checks, fill_outcome, assemble_outcome, book_outcome}
use Rattle.book.proofs.ListLaws.{members-within}
use Rattle.book.proofs.Demand.{outcome-text, outcome_refused}

-- the members are files of the set, whatever their texts
members_in : {n : ℕ} (S : List File) → ((d : ℕ) → d < length S → InSet n (file_at S d)) → (M : List ℕ) → Each (λ k. k < length S) M → Each (InSet n) (members_of S M)
unfolding Each
members_in S numbers [] q = tt
members_in S numbers (k ∷ M) q = (numbers k q.0, members_in S numbers M q.1)

texts_in : (n : ℕ) (hs : List File) (ts : List (List ℕ)) → Each (InSet n) hs → Each (InSet n) (with_texts hs ts)
unfolding with_texts Each
texts_in n [] ts q = tt
texts_in n (h ∷ hs) [] q = tt
texts_in n (h ∷ hs) (t ∷ ts) q = (q.0, texts_in n hs ts q.1)

module _ {P : Refusal → Type 0} {n : ℕ} (f : FillPlaces P 1 n) (a : AssemblyPlaces P n) (S : List File) (numbers : (d : ℕ) → d < length S → InSet n (file_at S d)) where
  abbrev Whole : List ℕ → Type 0
  Whole t = Unit {0}

  abbrev Texts : List (List ℕ) → Type 0
  Texts ts = Unit {0}

  -- each member filled
  walks-hold : (M : List ℕ) → Each (λ k. k < length S) M → Holds P Texts (walk_all (starts S M))
  unfolding walk_all Each Holds
  walks-hold [] q = tt
  walks-hold (k ∷ M) q =
      let i = numbers k q.0 in
      holds_go P Whole Texts (walk (start S k)) _ (grow_holds f S numbers (file_at S k).name (free no_marks) no_marks (file_at S k) i.0 i.1) (λ t z.
      holds_go P Texts Texts (walk_all (starts S M)) (λ ts. done (t ∷ ts)) (walks-hold M q.1) (λ ts y. tt))

  pub book_holds : (M url : List ℕ) → Each (λ k. k < length S) M → Holds P Whole (book S M url)
  unfolding book
  book_holds M url q =
      holds_go P Texts Whole (walk_all (starts S M)) _ (walks-hold M q) (λ ts z.
      assemble_holds a url (with_texts (members_of S M) ts) (texts_in n (members_of S M) ts (members_in S numbers M q)))

-- ---- of every refusal that a call gives

set_in : (index contents : List ℕ) (d : ℕ) → d < length (files index contents) → InSet (length (records index)) (file_at (files index contents) d)
set_in index contents d h =
    let e = set_number 1 contents (records index) d h in
    (omega (arith, e), omega (arith, e, files-length 1 contents (records index)))

-- refused before the walk, or by it
checks_refusal : {A : Type 0} (c : Result (Unit {0}) Refusal) (o : Outcome) (x : Refusal) → after_checks c o ≡ refusal x → (c ≡ Err x → A) → (c ≡ (Ok tt) → o ≡ refusal x → A) → A
checks_refusal (Ok tt) o x e stop walked = walked refl e
checks_refusal (Err y) o x e stop walked = let q : y ≡ x = cc in stop (ap Err q)

filled_refusal : (B L n : ℕ) (c : Chain) (x : Refusal) → filled B L n c ≡ refusal x → judge B L n (walk c) ≡ refused x
filled_refusal B L n (wrong y ys r) x e = outcome_refused (judge B L n (walk (wrong y ys r))) x e
filled_refusal B L n (plain s) x e = let z : ◌≡◌ {A = ℕ} 0 1 = cc in absurd (omega arith)
filled_refusal B L n (host r) x e = outcome_refused (judge B L n (walk (host r))) x e

module _ (P : Refusal → Type 0) where
  pub fill_refusal : (index contents name t : List ℕ) (L B out work : ℕ) → HeadPlaces P (length (records index)) → ((l : ℕ) → 1 ≤ l → P (WideByte (place 0 l)))
      → FillPlaces P 0 (length (records index)) → (x : Refusal) → fill_outcome index contents name t L B out work ≡ refusal x → P x
  unfolding fill_outcome
  fill_refusal index contents name t L B out work h w f x e =
      checks_refusal (fill_checked index contents name t L out work) (filled B L 0 (start_at (files index contents) (file_of 0 name t))) x e
      (λ q. fill_held P index contents name t L out work x h w q)
      (λ q g. holds_refused P (λ (s : List ℕ). Unit {0}) B L 0 (walk (start_at (files index contents) (file_of 0 name t))) x (fill_fit index contents name t L out work q).0
      (grow_holds f (files index contents) (set_in index contents) name (free no_marks) no_marks (file_of 0 name t) (omega arith) (omega arith))
      (filled_refusal B L 0 (start_at (files index contents) (file_of 0 name t)) x g))

  module _ (index contents list url : List ℕ) (L out work : ℕ) (h : HeadPlaces P (length (records index))) (form : P ListForm) (absent : (l : ℕ) → 1 ≤ l → P (Absent (place 0 l)))
      (a : AssemblyPlaces P (length (records index))) (x : Refusal) where
    pub assemble_refusal : assemble_outcome index contents list url L out work ≡ refusal x → P x
    unfolding assemble_outcome
    assemble_refusal e =
        checks_refusal (book_checked index contents list url L out work) (outcome (judge 0 L 0 (assemble url (members_of (files index contents) (members (records index) list))))) x e
        (λ q. book_held P index contents list url L out work x h form absent q)
        (λ q g. holds_refused P (λ (s : List ℕ). Unit {0}) 0 L 0 (assemble url (members_of (files index contents) (members (records index) list))) x (book_fit index contents list url L out work q).0
        (assemble_holds a url (members_of (files index contents) (members (records index) list))
        (members_in (files index contents) (set_in index contents) (members (records index) list) (members-within index contents list url L out work q)))
        (outcome_refused (judge 0 L 0 (assemble url (members_of (files index contents) (members (records index) list)))) x g))

    pub book_refusal : (B : ℕ) → FillPlaces P 1 (length (records index)) → book_outcome index contents list url L B out work ≡ refusal x → P x
    unfolding book_outcome
    book_refusal B f e =
        checks_refusal (book_checked index contents list url L out work) (outcome (judge B L 0 (book (files index contents) (members (records index) list) url))) x e
        (λ q. book_held P index contents list url L out work x h form absent q)
        (λ q g. holds_refused P (λ (s : List ℕ). Unit {0}) B L 0 (book (files index contents) (members (records index) list) url) x (book_fit index contents list url L out work q).0
        (book_holds f a (files index contents) (set_in index contents) (members (records index) list) url (members-within index contents list url L out work q))
        (outcome_refused (judge B L 0 (book (files index contents) (members (records index) list) url)) x g))

-- ---- an assembly and a book give a text or a refusal, and never "no region"

no_judged : (c : Result (Unit {0}) Refusal) (j : Judged (List ℕ)) → after_checks c (outcome j) ≡ noRegion → ⊥
no_judged (Ok tt) (given t n) e = let z : ◌≡◌ {A = ℕ} 0 1 = cc in omega arith
no_judged (Ok tt) (refused x) e = let z : ◌≡◌ {A = ℕ} 0 1 = cc in omega arith
no_judged (Err x) j e = let z : ◌≡◌ {A = ℕ} 0 1 = cc in omega arith

pub no_assembly : (index contents list url : List ℕ) (L out work : ℕ) → assemble_outcome index contents list url L out work ≡ noRegion → ⊥
unfolding assemble_outcome
no_assembly index contents list url L out work =
    no_judged (book_checked index contents list url L out work) (judge 0 L 0 (assemble url (members_of (files index contents) (members (records index) list))))

pub no_book : (index contents list url : List ℕ) (L B out work : ℕ) → book_outcome index contents list url L B out work ≡ noRegion → ⊥
unfolding book_outcome
no_book index contents list url L B out work = no_judged (book_checked index contents list url L out work) (judge B L 0 (book (files index contents) (members (records index) list) url))

-- ---- an assembly takes no file in

none-judged : (c : Result (Unit {0}) Refusal) (L : ℕ) (w : Steps (List ℕ)) (t : List ℕ) (n : ℕ) → after_checks c (outcome (judge 0 L 0 w)) ≡ text t n → n ≡ 0
none-judged (Ok tt) L w t n e = omega (arith, (given-judge 0 L 0 w t n (omega arith) (outcome-text (judge 0 L 0 w) t n e)).allowed)
none-judged (Err x) L w t n e = let z : ◌≡◌ {A = ℕ} 0 1 = cc in absurd (omega arith)

pub none_taken : (index contents list url : List ℕ) (L out work : ℕ) (t : List ℕ) (n : ℕ) → assemble_outcome index contents list url L out work ≡ text t n → n ≡ 0
unfolding assemble_outcome
none_taken index contents list url L out work = none-judged (book_checked index contents list url L out work) L (assemble url (members_of (files index contents) (members (records index) list)))
