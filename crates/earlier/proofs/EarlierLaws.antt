-- Laws of earlier members: a search through them. Assumes nothing.
use Rattle.std.specs.Prelude.{Some, None}
use Rattle.std.proofs.lemmas.List.{at_drop_more, at_drop_all}
use Prim.Native.Nat.{ℕ, ◌+◌, ◌≤◌, ◌<◌}
use mathlib.Core.Path.{◌≡◌, refl, sym, ◌∙◌}
use mathlib.Core.Bool.{true, false}
use mathlib.Core.List.{List, ◌∷◌}
use lib.ListN.{length, drop, get_or}
use Rattle.answer.specs.Answer.{place}
use Rattle.text.specs.Pattern.{equals}
use Rattle.put.specs.Put.{source_text}
use Rattle.member.specs.Member.{Prepared}
use Rattle.member.specs.Lines.{kept_lines}
use Rattle.members.specs.Members.{name_of, text_source, prepared_in, all_prepared}
use Rattle.members.specs.declared.Member.{Member}
use Rattle.earlier.specs.Earlier.{line_of, earlier}

-- a member of the same name, one without the anchor, and one with it
module _ (name a : List ℕ) (q : Prepared) (qs : List Prepared) where
  pub earlier-own : equals name q.name ≡ true → earlier name a (q ∷ qs) ≡ earlier name a qs
  unfolding earlier
  earlier-own e = rw e

  pub earlier_without : equals name q.name ≡ false → line_of a 1 q.lines ≡ None → earlier name a (q ∷ qs) ≡ earlier name a qs
  unfolding earlier
  earlier_without e z = rw (e, z)

  pub earlier_with : equals name q.name ≡ false → (n : ℕ) → line_of a 1 q.lines ≡ Some n → earlier name a (q ∷ qs) ≡ Some (place q.file n)
  unfolding earlier
  earlier_with e n z = rw (e, z)

-- the members before member q have not the anchor
pub record Searched (index contents work : List ℕ) (ms : List Member) (name a : List ℕ) (q : ℕ) : Type 0 where
  pub same : earlier name a (all_prepared index contents work ms) ≡ earlier name a (all_prepared index contents work (drop q ms))

pub search_start : (index contents work : List ℕ) (ms : List Member) (name a : List ℕ) → Searched index contents work ms name a 0
search_start index contents work ms name a = record { same = refl }

module _ {index contents work : List ℕ} {ms : List Member} {name a : List ℕ} {q : ℕ} (s : Searched index contents work ms name a q) where
  pub search_end : length ms ≤ q → None ≡ earlier name a (all_prepared index contents work ms)
  unfolding earlier
  search_end h = sym (s.same ∙ at_drop_all (λ l. earlier name a (all_prepared index contents work l)) ms q h)

  -- member q is one of the same name, one without the anchor, or one with it
  module _ (h : q < length ms) (d : Member) where
    abbrev member : Member
    member = get_or ms q d

    turn : earlier name a (all_prepared index contents work ms) ≡ earlier name a (prepared_in index contents work member ∷ all_prepared index contents work (drop (q + 1) ms))
    turn = s.same ∙ at_drop_more (λ l. earlier name a (all_prepared index contents work l)) ms q d h

    pub search_own : equals name (name_of index member) ≡ true → Searched index contents work ms name a (q + 1)
    search_own e = record { same = turn ∙ earlier-own name a (prepared_in index contents work member) _ e }

    module _ (differs : equals name (name_of index member) ≡ false) where
      pub search_without : line_of a 1 (kept_lines (source_text (text_source member) contents work)) ≡ None → Searched index contents work ms name a (q + 1)
      search_without e = record { same = turn ∙ earlier_without name a (prepared_in index contents work member) _ differs e }

      pub search_with : {n : ℕ} → line_of a 1 (kept_lines (source_text (text_source member) contents work)) ≡ Some n
          → Some (place member.file n) ≡ earlier name a (all_prepared index contents work ms)
      search_with {n} e = sym (turn ∙ earlier_with name a (prepared_in index contents work member) _ differs n e)

pub ruleset searching = (search_start, search_end, search_own, search_without, search_with)
