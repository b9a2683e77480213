-- Demand 1 of the four calls, proved: `specs/Demand1.antt` has what it says. Assumes nothing.
use Rattle.std.specs.Prelude.{Option, Some, None, Result, Ok, Err}
use Prim.Native.Nat.{ℕ, ◌≤◌}
use native.Mathlib.Omega.{arith}
use mathlib.Core.Path.{◌≡◌, refl}
use mathlib.Core.Bool.{Bool, true, false, cond, ◌&&◌, false≢true}
use mathlib.Core.List.{List, [], ◌∷◌}
use mathlib.Core.Logic.{◌⊎◌, inl, inr}
use lib.Dec.{leb}
use lib.ListN.{length, drop}
use lib.Seq.{drop-append_seam}
use Rattle.answer.specs.Answer.{place, numbers}
use Rattle.answer.specs.declared.Answer.{Answer}
use Rattle.answer.specs.declared.Answer.TheVariants.{Accepted as AcceptedAs}
use Rattle.answer.specs.declared.Refusal.{Refusal}
use Rattle.answer.specs.declared.Refusal.TheVariants.{TextLimit}
use Rattle.text.specs.Ascii.{wide_line}
use Rattle.text.proofs.AsciiLaws.{wide_least}
use Rattle.listing.specs.Listing.{listing}
use Rattle.listing.specs.ScanCall.{unless_wide, answer_of as scanned, output_of}
use Rattle.index.specs.Index.{records}
use Rattle.fileset.proofs.PlaceLaws.{HeadPlaces}
use Rattle.walk.specs.Outcome.{Outcome, text, noRegion, refusal}
use Rattle.walk.proofs.HoldLaws.{Each}
use Rattle.chains.proofs.PlaceLaws.{AtLine, FillPlaces}
use Rattle.assembled.proofs.PlaceLaws.{AssemblyPlaces}
use Rattle.book.specs.Calls.{fill_outcome, assemble_outcome, book_outcome}
use Rattle.book.specs.Promises.{Gives, ScanCall}
use Rattle.book.specs.Demand.{numbers_of}
use Rattle.book.proofs.PlaceLaws.{fill_refusal, assemble_refusal, book_refusal, no_assembly, no_book, none_taken}
use Rattle.demands.specs.Numbers.{NoRegion}
use Rattle.demands.specs.Demand1.{scan_refusals, fill_refusals, assemble_refusals, book_refusals, is_one_of, NumberIn, Placed, on-index, past_index, no_line, in-text, absent, heading, limit, no-title, shared, NothingFilled, Answered, accepted, refused, Demand1}

-- ---- each refusal at its places

-- a refusal that a call may give, at a place that it may have
abbrev Fits : List ℕ → ℕ → ℕ → Refusal → Type 0
Fits may low R x = NumberIn may (numbers_of x) × Placed low R (numbers_of x)

-- the numbers ns are among those that a call may give
abbrev are_in : List ℕ → List ℕ → Bool
are_in [] may = true
are_in (n ∷ ns) may = is_one_of n may && are_in ns may

each_in : (may ns : List ℕ) → are_in ns may ≡ true → Each (λ n. is_one_of n may ≡ true) ns
unfolding Each
each_in may [] e = tt
each_in may (n ∷ ns) e = go (is_one_of n may) refl e (each_in may ns)
  where
    go : (b : Bool) → is_one_of n may ≡ b → (b && are_in ns may) ≡ true → (are_in ns may ≡ true → Each (λ k. is_one_of k may ≡ true) ns) → (is_one_of n may ≡ true) × Each (λ k. is_one_of k may ≡ true) ns
    go true q h ih = (q, ih h)
    go false q h ih = absurd (false≢true h)

module _ (may : List ℕ) (low R : ℕ) (one : low ≤ 1) where
  head_fits : are_in (1 ∷ 2 ∷ 3 ∷ 4 ∷ 5 ∷ 6 ∷ 8 ∷ []) may ≡ true → HeadPlaces (Fits may low R) R
  unfolding Each
  head_fits e =
      let m = each_in may (1 ∷ 2 ∷ 3 ∷ 4 ∷ 5 ∷ 6 ∷ 8 ∷ []) e in
      record {
        index_line = λ l h. (m.0, on-index refl (omega arith, omega arith) h (refl, refl));
        too_many = (m.1.0, past_index refl (omega arith, omega arith) refl (refl, refl));
        past = λ l h. (m.1.1.0, on-index refl (omega arith, omega arith) h (refl, refl));
        twice = λ l h. (m.1.1.1.0, on-index refl (omega arith, omega arith) h (refl, refl));
        wide = λ f l a b h. (m.1.1.1.1.0, in-text refl (omega arith, b) h (refl, refl));
        name = (m.1.1.1.1.1.0, no_line refl (omega arith, omega arith) refl (refl, refl));
        sizes = (m.1.1.1.1.1.1.0, no_line refl (omega arith, omega arith) refl (refl, refl));
      }

  line-fits : are_in (9 ∷ 10 ∷ 11 ∷ 12 ∷ 13 ∷ 14 ∷ 15 ∷ 16 ∷ 17 ∷ []) may ≡ true → (f l : ℕ) → low ≤ f → f ≤ R → 1 ≤ l → AtLine (Fits may low R) (place f l)
  unfolding Each
  line-fits e f l a b h =
      let m = each_in may (9 ∷ 10 ∷ 11 ∷ 12 ∷ 13 ∷ 14 ∷ 15 ∷ 16 ∷ 17 ∷ []) e in
      record {
        nested = (m.0, in-text refl (a, b) h (refl, refl));
        marker = (m.1.0, in-text refl (a, b) h (refl, refl));
        unclosed = (m.1.1.0, in-text refl (a, b) h (refl, refl));
        peer = (m.1.1.1.0, in-text refl (a, b) h (refl, refl));
        chain = (m.1.1.1.1.0, in-text refl (a, b) h (refl, refl));
        absent = (m.1.1.1.1.1.0, absent refl (omega arith, b) h (refl, refl));
        allowance = (m.1.1.1.1.1.1.0, in-text refl (a, b) h (refl, refl));
        limit = (m.1.1.1.1.1.1.1.1.0, limit refl (a, b) (refl, refl));
      }

  fill-fits : are_in (9 ∷ 10 ∷ 11 ∷ 12 ∷ 13 ∷ 14 ∷ 15 ∷ 16 ∷ 17 ∷ []) may ≡ true → FillPlaces (Fits may low R) low R
  unfolding Each
  fill-fits e =
      let m = each_in may (9 ∷ 10 ∷ 11 ∷ 12 ∷ 13 ∷ 14 ∷ 15 ∷ 16 ∷ 17 ∷ []) e in
      record {
        one = one;
        at-line = line-fits e;
        at-end = λ f a b. (m.1.1.1.1.1.1.1.1.0, limit refl (a, b) (refl, refl));
        heading = λ f l a b h. (m.1.1.1.1.1.1.1.0, heading refl (a, b) h (refl, refl));
      }

  assembly-fits : are_in (16 ∷ 17 ∷ 18 ∷ 19 ∷ []) may ≡ true → AssemblyPlaces (Fits may low R) R
  unfolding Each
  assembly-fits e =
      let m = each_in may (16 ∷ 17 ∷ 18 ∷ 19 ∷ []) e in
      record {
        heading = λ f l a b h. (m.0, heading refl (a, b) h (refl, refl));
        limit = λ f a b. (m.1.0, limit refl (omega (arith, one, a), b) (refl, refl));
        title = λ f a b. (m.1.1.0, no-title refl (a, b) refl (refl, refl));
        shared = λ f l g k a b h c d j. (m.1.1.1.0, shared refl (a, b) h (c, d) j);
      }

-- where nothing is filled
abbrev Unfilled : Refusal → Type 0
Unfilled x = NothingFilled (numbers_of x)

head_unfilled : (R : ℕ) → HeadPlaces Unfilled R
head_unfilled R = record {
  index_line = λ l h. record { absent = λ q. refl; limit = λ q. absurd (omega (arith, q.1)); none = λ q. absurd (omega (arith, q)) };
  too_many = record { absent = λ q. refl; limit = λ q. absurd (omega (arith, q.1)); none = λ q. absurd (omega (arith, q)) };
  past = λ l h. record { absent = λ q. refl; limit = λ q. absurd (omega (arith, q.1)); none = λ q. absurd (omega (arith, q)) };
  twice = λ l h. record { absent = λ q. refl; limit = λ q. absurd (omega (arith, q.1)); none = λ q. absurd (omega (arith, q)) };
  wide = λ f l a b h. record { absent = λ q. absurd (omega (arith, q.1)); limit = λ q. absurd (omega (arith, q.1)); none = λ q. absurd (omega (arith, q)) };
  name = record { absent = λ q. refl; limit = λ q. refl; none = λ q. absurd (omega (arith, q)) };
  sizes = record { absent = λ q. refl; limit = λ q. refl; none = λ q. absurd (omega (arith, q)) };
}

assembly_unfilled : (R : ℕ) → AssemblyPlaces Unfilled R
assembly_unfilled R = record {
  heading = λ f l a b h. record { absent = λ q. absurd (omega (arith, q.1)); limit = λ q. absurd (omega (arith, q.1)); none = λ q. absurd (omega (arith, q)) };
  limit = λ f a b. record { absent = λ q. absurd (omega (arith, q.1)); limit = λ q. refl; none = λ q. absurd (omega (arith, q)) };
  title = λ f a b. record { absent = λ q. absurd (omega (arith, q.1)); limit = λ q. refl; none = λ q. absurd (omega (arith, q)) };
  shared = λ f l g k a b h c d j. record { absent = λ q. absurd (omega (arith, q.1)); limit = λ q. absurd (omega (arith, q.1)); none = λ q. absurd (omega (arith, q)) };
}

-- ---- an outcome, as it is given

module _ {out work answer out' work' : List ℕ} where
  module _ (may : List ℕ) (low R : ℕ) where
    answered : (o : Outcome) → (o ≡ noRegion → ⊥) → Gives o out work answer out' work' → ((x : Refusal) → o ≡ refusal x → Fits may low R x) → Answered may low R answer out out'
    answered (text t n) k g h = accepted (rw g.numbers refl) (rw (g.numbers, g.output) (drop-append_seam t (drop (length t) out)))
    answered noRegion k g h = absurd (k refl)
    answered (refusal x) k g h = let f = h x refl in refused (rw g.numbers refl) (rw g.numbers f.0) (rw g.numbers f.1) g.output

    -- with "no region"
    filled-answered : (o : Outcome) → Gives o out work answer out' work' → ((x : Refusal) → o ≡ refusal x → Fits may low R x) → (NoRegion answer × (out' ≡ out)) ⊎ Answered may low R answer out out'
    filled-answered (text t n) g h = inr (answered (text t n) (λ e. let z : ◌≡◌ {A = ℕ} 0 1 = cc in omega arith) g h)
    filled-answered noRegion g h = inl (rw g.numbers refl, g.output)
    filled-answered (refusal x) g h = inr (answered (refusal x) (λ e. let z : ◌≡◌ {A = ℕ} 0 1 = cc in omega arith) g h)

  unfilled : (o : Outcome) → Gives o out work answer out' work' → ((t : List ℕ) (n : ℕ) → o ≡ text t n → n ≡ 0) → ((x : Refusal) → o ≡ refusal x → Unfilled x) → NothingFilled answer
  unfilled (text t n) g k h = rw g.numbers record { absent = λ q. absurd (omega (arith, q.0)); limit = λ q. absurd (omega (arith, q.0)); none = λ q. k t n refl }
  unfilled noRegion g k h = rw g.numbers record { absent = λ q. absurd (omega (arith, q.0)); limit = λ q. absurd (omega (arith, q.0)); none = λ q. absurd (omega (arith, q)) }
  unfilled (refusal x) g k h = rw g.numbers (h x refl)

-- a scan
module _ (s : List ℕ) {out answer out' : List ℕ} where
  scanned-answered : (o : Option ℕ) (c : Bool) → wide_line 1 s ≡ o
      → let a : Result Answer Refusal = unless_wide o (cond c (Ok (AcceptedAs (length (listing s)) 0)) (Err (TextLimit (place 0 0)))) in
      answer ≡ numbers a → out' ≡ output_of a s out → Answered scan_refusals 0 0 answer out out' × NothingFilled answer
  unfolding output_of
  scanned-answered None true q e o = (
    accepted (rw e refl) (rw (e, o) (drop-append_seam (listing s) (drop (length (listing s)) out))),
    rw e record { absent = λ q. absurd (omega (arith, q.0)); limit = λ q. absurd (omega (arith, q.0)); none = λ q. refl },
  )
  scanned-answered None false q e o = (refused (rw e refl) (rw e refl) (rw e (limit refl (omega arith, omega arith) (refl, refl))) o, rw e record { absent = λ q. refl; limit = λ q. refl; none = λ q. absurd (omega (arith, q)) })
  scanned-answered (Some line) c q e o = (
    refused (rw e refl) (rw e refl) (rw e (in-text refl (omega arith, omega arith) (wide_least 1 s line q) (refl, refl))) o,
    rw e record { absent = λ q. refl; limit = λ q. absurd (omega (arith, q.1)); none = λ q. absurd (omega (arith, q)) },
  )

scan_call : (s out answer out' : List ℕ) → ScanCall s out answer out' → Answered scan_refusals 0 0 answer out out' × NothingFilled answer
unfolding scanned
scan_call s out answer out' g = scanned-answered s (wide_line 1 s) (leb (length (listing s)) (length out)) refl g.numbers g.output

pub demand_1 : Demand1
demand_1 = record {
  scan = scan_call;
  fill = λ index contents name t L B out work answer out' work' g.
      let R : ℕ = length (records index) in (
        filled-answered fill_refusals 0 R (fill_outcome index contents name t L B (length out) (length work)) g
            (fill_refusal (Fits fill_refusals 0 R) index contents name t L B (length out) (length work) (head_fits fill_refusals 0 R (omega arith) refl)
            (λ l h. (refl, in-text refl (omega arith, omega arith) h (refl, refl))) (fill-fits fill_refusals 0 R (omega arith) refl)),
        g.cleared,
      );
  assemble = λ index contents list url L out work answer out' work' g.
      let R : ℕ = length (records index) in
      let o : Outcome = assemble_outcome index contents list url L (length out) (length work) in (
        answered assemble_refusals 1 R o (no_assembly index contents list url L (length out) (length work)) g
            (assemble_refusal (Fits assemble_refusals 1 R) index contents list url L (length out) (length work) (head_fits assemble_refusals 1 R (omega arith) refl)
            (refl, no_line refl (omega arith, omega arith) refl (refl, refl)) (λ l h. (refl, absent refl (omega arith, omega arith) h (refl, refl))) (assembly-fits assemble_refusals 1 R (omega arith) refl)),
        unfilled o g (none_taken index contents list url L (length out) (length work)) (assemble_refusal Unfilled index contents list url L (length out) (length work) (head_unfilled R)
            record { absent = λ q. refl; limit = λ q. refl; none = λ q. absurd (omega (arith, q)) } (λ l h. record { absent = λ q. refl; limit = λ q. absurd (omega (arith, q.1)); none = λ q. absurd (omega (arith, q)) }) (assembly_unfilled R)),
        g.cleared,
      );
  book = λ index contents list url L B out work answer out' work' g.
      let R : ℕ = length (records index) in
      let o : Outcome = book_outcome index contents list url L B (length out) (length work) in (
        answered book_refusals 1 R o (no_book index contents list url L B (length out) (length work)) g
            (λ x. book_refusal (Fits book_refusals 1 R) index contents list url L (length out) (length work) (head_fits book_refusals 1 R (omega arith) refl)
            (refl, no_line refl (omega arith, omega arith) refl (refl, refl)) (λ l h. (refl, absent refl (omega arith, omega arith) h (refl, refl))) (assembly-fits book_refusals 1 R (omega arith) refl)
            x B (fill-fits book_refusals 1 R (omega arith) refl)),
        g.cleared,
      );
}
