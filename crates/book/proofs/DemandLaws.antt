-- Demand 3 on judged walks: given exactly when, as defined on chains, larger limits, and the reasons of refusals. Assumes nothing.
use Rattle.std.specs.Prelude.{Option, Some, None}
use Prim.Native.Nat.{ℕ, zero, suc, ◌+◌, ◌≤◌, ◌<◌}
use native.Mathlib.Omega.{arith}
use mathlib.Core.Path.{◌≡◌, refl, sym, ap, ◌∙◌}
use mathlib.Core.Bool.{Bool, true, false}
use mathlib.Core.List.{List}
use mathlib.Core.Logic.{inl, inr, ◌↔◌}
use lib.ListN.{length}
use Rattle.answer.specs.Answer.{number}
use Rattle.answer.specs.declared.Refusal.{Refusal}
use Rattle.index.specs.Index.{File}
use Rattle.walk.specs.Steps.{takes, given, refused, judge, judged_number}
use Rattle.walk.proofs.Sums.{total, total_zero, zero_total, total_some, length-zero}
use Rattle.walk.proofs.PartLaws.{Agrees}
use Rattle.walk.proofs.StepsLaws.{over, judge-given, given-judge, judge_more, Grounds, refused_judge, flaw_fails}
use Rattle.chains.specs.Chains.{starts, same, faults, running}
use Rattle.chains.proofs.ChainLaws.{extended}
use Rattle.chains.proofs.ChainLaws.{flaws, faults_of, reached}
use Rattle.chains.proofs.Paths.{same_self, same_equal, pick_n, everywhere, nowhere, somewhere, counts_chains}
use Rattle.walk.proofs.FaultLaws.{fault_number, is_fault, fault_not, all_member}
use Rattle.chains.proofs.CountLaws.{count_unique}
use Rattle.chains.proofs.FaultLaws.{chain-at_fault}
use Rattle.assembled.proofs.FaultLaws.{assembly_fault}
use Rattle.book.specs.BookWalk.{book}
use Rattle.book.specs.Book.{book_text, made_members, book_faults, book_running, Sound}
use Rattle.book.specs.Demand.{numbers_of, Faulty, Overlong, Reason}
use Rattle.book.proofs.BookLaws.{book-made, book_flaws, book_flaw, book-takes, book-takes_le, book-sizes, book-sizes_le}

-- ---- given exactly when

module _ (B L : ℕ) (S : List File) (few : length S ≤ 64) (M url : List ℕ) where
  given-sound : (t : List ℕ) (n : ℕ) → judge B L 0 (book S M url) ≡ given t n → Sound B L S M url × ((book_text S M url ≡ Some t) × (n ≡ length (extended (starts S M))))
  given-sound t n e =
      let g = given-judge B L 0 (book S M url) t n (omega arith) e in
      let q : book_text S M url ≡ Some t = sym (book-made S M url) ∙ g.ended in
      let f : total flaws (reached (starts S M)) + length (book_faults S M url) ≡ 0 = rw q at (book_flaws S M url) in
      let s = book-sizes (over L) S M url t q in
      let k = book-takes S M url t q in (
        record {
          faultless = λ p c m. length-zero (faults c) (everywhere flaws S few M (omega arith) p c m);
          assembles = length-zero (book_faults S M url) (omega arith);
          allowed = (length (extended (starts S M)), counts_chains S few M, omega (arith, g.count, g.allowed));
          fits = λ p c m u k. let z = total_zero (over L) (running c) (everywhere (λ d. total (over L) (running d)) S few M (omega (arith, g.fits)) p c m) u k in omega arith;
          joins_fit = λ u k. let z = total_zero (over L) (book_running S M url) (omega (arith, g.fits)) u k in omega arith;
        },
        (q, omega (arith, g.count)),
      )

  sound-given : Sound B L S M url → (a : List ℕ) × (book_text S M url ≡ Some a) × (judge B L 0 (book S M url) ≡ given a (length (extended (starts S M))))
  sound-given s = at-text (book_text S M url) refl (book_flaws S M url)
    where
      at-text : (o : Option (List ℕ)) → book_text S M url ≡ o → Agrees o (total flaws (reached (starts S M)) + length (book_faults S M url))
          → (a : List ℕ) × (book_text S M url ≡ Some a) × (judge B L 0 (book S M url) ≡ given a (length (extended (starts S M))))
      at-text None q h =
          let f = nowhere flaws S few M (λ p c m. ap length (s.faultless p c m)) in
          absurd (omega (arith, ap length s.assembles))
      at-text (Some a) q h =
          let t = book-takes S M url a q in
          let r = nowhere (λ d. total (over L) (running d)) S few M (λ p c m. zero_total (over L) (running c) (λ u k. omega (arith, s.fits p c m u k))) in
          let j = zero_total (over L) (book_running S M url) (λ u k. omega (arith, s.joins_fit u k)) in
          let z = book-sizes (over L) S M url a q in
          let n : 0 + takes (book S M url) ≡ length (extended (starts S M)) = omega arith in
          (a, q, rw (← n) (judge-given B L 0 (book S M url) a (book-made S M url ∙ q) (omega (arith, s.allowed.2, count_unique S M s.allowed.0 (length (extended (starts S M))) s.allowed.1 (counts_chains S few M))) (omega arith)))

-- the book is given exactly when it is sound; its text and its count
pub given_exactly : (B L : ℕ) (S : List File) (few : length S ≤ 64) (M url : List ℕ) → ((a : List ℕ) × (n : ℕ) × (judge B L 0 (book S M url) ≡ given a n)) ↔ Sound B L S M url
given_exactly B L S few M url =
    (λ g. (given-sound B L S few M url g.0 g.1 g.2).0, λ s. let r = sound-given B L S few M url s in (r.0, length (extended (starts S M)), r.2))

module _ (B L : ℕ) (S : List File) (few : length S ≤ 64) (M url : List ℕ) (t : List ℕ) (n : ℕ) (e : judge B L 0 (book S M url) ≡ given t n) where
  pub given-text : book_text S M url ≡ Some t
  given-text = (given-sound B L S few M url t n e).1.0

  pub given-count : n ≡ length (extended (starts S M))
  given-count = (given-sound B L S few M url t n e).1.1

-- larger limits
pub larger_limits : (B L B' L' : ℕ) (S : List File) (M url : List ℕ) → B ≤ B' → L ≤ L'
    → (judged_number (judge B L 0 (book S M url)) ≡ 15 → ⊥) → (judged_number (judge B L 0 (book S M url)) ≡ 17 → ⊥)
    → judge B L 0 (book S M url) ≡ judge B' L' 0 (book S M url)
larger_limits B L B' L' S M url hB hL = judge_more B L B' L' hB hL 0 (book S M url)

-- ---- a refusal has its reason on the chains or in the assembly

module _ (x : Refusal) where
  abbrev like : Refusal → ℕ
  like y = pick_n (same (numbers_of x) (numbers_of y)) 1

  like-self : like x ≡ 1
  like-self = rw (same_self (numbers_of x))

  like-numbers : (y : Refusal) → 0 < like y → numbers_of x ≡ numbers_of y
  like-numbers y h = at_test (same (numbers_of x) (numbers_of y)) refl h
    where
      at_test : (b : Bool) → same (numbers_of x) (numbers_of y) ≡ b → 0 < pick_n b 1 → numbers_of x ≡ numbers_of y
      at_test true q k = same_equal (numbers_of x) (numbers_of y) q
      at_test false q k = absurd (omega arith)

  -- and the number of a fault, where that is one
  like-fault : (y : Refusal) → numbers_of x ≡ numbers_of y → is_fault y ≡ true → is_fault x ≡ true
  like-fault y e h = let q : number x ≡ number y = cc in ap fault_number q ∙ h

module _ (S : List File) (few : length S ≤ 64) (M url : List ℕ) where
  faulty : (x : Refusal) → 0 < total (faults_of (like x)) (reached (starts S M)) + total (like x) (book_faults S M url) → Faulty S M url x
  faulty x l = at_sum (total (faults_of (like x)) (reached (starts S M))) refl l
    where
      at_sum : (n : ℕ) → total (faults_of (like x)) (reached (starts S M)) ≡ n → 0 < n + total (like x) (book_faults S M url) → Faulty S M url x
      at_sum (suc n) q l =
          let r = somewhere (faults_of (like x)) S few M (omega arith) in
          let y = total_some (like x) (faults r.1) r.3 in
          inl (r.0, r.1, r.2, y.0, y.1, like-numbers x y.0 y.2)
      at_sum zero q l =
          let y = total_some (like x) (book_faults S M url) (omega arith) in
          inr (y.0, y.1, like-numbers x y.0 y.2)

  overlong : (L : ℕ) → 0 < total (λ d. total (over L) (running d)) (reached (starts S M)) + total (over L) (book_running S M url) → Overlong L S M url
  overlong L l = at_sum (total (λ d. total (over L) (running d)) (reached (starts S M))) refl l
    where
      at_sum : (n : ℕ) → total (λ d. total (over L) (running d)) (reached (starts S M)) ≡ n → 0 < n + total (over L) (book_running S M url) → Overlong L S M url
      at_sum (suc n) q l =
          let r = somewhere (λ d. total (over L) (running d)) S few M (omega arith) in
          let y = total_some (over L) (running r.1) r.3 in
          inl (r.0, r.1, r.2, y.0, y.1, omega (arith, y.2))
      at_sum zero q l =
          let y = total_some (over L) (book_running S M url) (omega arith) in
          inr (y.0, y.1, omega (arith, y.2))

  -- a fault has the number of no limit
  fault-number : (x : Refusal) → Faulty S M url x → is_fault x ≡ true
  fault-number x (inl f) = like-fault x f.3 f.5 (all_member f.3 (faults f.1) f.4 (chain-at_fault S M f.0 f.1 f.2))
  fault-number x (inr f) = like-fault x f.0 f.2 (all_member f.0 (book_faults S M url) f.1 (assembly_fault url (made_members S M)))

  by-fault : (B L : ℕ) (x : Refusal) → Faulty S M url x → Reason B L S M url x
  by-fault B L x f = record {
    overtaken = λ e. absurd (fault_not x 15 refl (fault-number x f) e);
    overlong = λ e. absurd (fault_not x 17 refl (fault-number x f) e);
    faulty = λ h k. f;
  }

  pub refused_because : (B L : ℕ) (x : Refusal) → judge B L 0 (book S M url) ≡ refused x → Reason B L S M url x
  refused_because B L x e = on-grounds (refused_judge B L 0 (book S M url) x e)
    where
      on-grounds : Grounds B L 0 (book S M url) x → Reason B L S M url x
      on-grounds (inl h) = by-fault B L x (faulty x (omega (arith, flaw_fails (like x) (book S M url) x h, book_flaw (like x) S M url, like-self x)))
      on-grounds (inr (inl h)) = record {
        overtaken = λ q. (length (extended (starts S M)), counts_chains S few M, omega (arith, h.1, book-takes_le S M url));
        overlong = λ q. absurd (omega (arith, h.0));
        faulty = λ p q. absurd (p h.0);
      }
      on-grounds (inr (inr h)) = record {
        overtaken = λ q. absurd (omega (arith, h.0));
        overlong = λ q. overlong L (omega (arith, h.1, book-sizes_le (over L) S M url));
        faulty = λ p q. absurd (q h.0);
      }
