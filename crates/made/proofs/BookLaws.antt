-- The walk of a book once its members are made, and that of the members of a list. Assumes nothing.
use Prim.Native.Nat.{ℕ}
use mathlib.Core.Path.{◌≡◌, sym, ◌∙◌, ap}
use mathlib.Core.List.{List, map, map-map}
use Rattle.answer.specs.declared.Refusal.{Refusal}
use Rattle.index.specs.Index.{File}
use Rattle.walk.specs.Steps.{refused, judge, go}
use Rattle.walk.proofs.StepsLaws.{judge-go, judge_then}
use Rattle.chains.specs.Chains.{Chain, file_at, start_at}
use Rattle.assembled.specs.Assemble.{assemble}
use Rattle.book.specs.Book.{members_of, with_texts}
use Rattle.book.specs.BookWalk.{walk_all, book}
use Rattle.made.specs.Made.{book_of, judged_all, AreMade}

module _ (B L : ℕ) (S hs : List File) (url : List ℕ) where
  pub book-made : {fs : List File} {n : ℕ} → AreMade B L S hs fs n → judge B L 0 (book_of S hs url) ≡ judge B L n (assemble url fs)
  book-made {fs} {n} a =
      judge-go B L 0 (walk_all (map (start_at S) hs)) (λ ts. assemble url (with_texts hs ts))
      ∙ ap (λ j. judge_then j (λ ts m. judge B L m (assemble url (with_texts hs ts)))) a.judged
      ∙ ap (λ (gs : List File). judge B L n (assemble url gs)) (sym a.same)

  pub book-stopped : {x : Refusal} → judged_all B L S hs ≡ refused x → judge B L 0 (book_of S hs url) ≡ refused x
  book-stopped e =
      judge-go B L 0 (walk_all (map (start_at S) hs)) (λ ts. assemble url (with_texts hs ts))
      ∙ ap (λ j. judge_then j (λ ts m. judge B L m (assemble url (with_texts hs ts)))) e

-- the members of a list
pub book-listed : (S : List File) (M url : List ℕ) → book_of S (members_of S M) url ≡ book S M url
unfolding book
book-listed S M url = ap (λ (cs : List Chain). go (walk_all cs) (λ ts. assemble url (with_texts (members_of S M) ts))) (map-map (start_at S) (file_at S) M)
