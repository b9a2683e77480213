-- Document 01, "Fill": the walk of a fill, without its limits.
use Rattle.std.specs.Prelude.{ℕ, List, [], ◌++◌}
use Rattle.walk.specs.Steps.{Steps, done, failed, sized, taken, go, part, judge}
use Rattle.walk.specs.Outcome.{Outcome, noRegion, outcome}
use Rattle.embedding.specs.Embed.{embed}
use Rattle.chains.specs.Chains.{Chain, wrong, plain, host, Rest, last, shut, into, headed, text_of}

-- "At each region in order: append host lines from the last closer (at first, line 1) through the opener; test L; 12; 13; 14; 15; count one; fill the named
-- file; embed; test L. Last, append from the closer on; test L." 9 to 11 come before; a file with no region "makes no running text of its own and no test of L"
unfoldable mutual
  pub walk : Chain → Steps (List ℕ)
  walk (wrong x xs r) = failed x
  walk (plain s) = done s
  walk (host r) = walk_rest r []

  pub walk_rest : Rest → List (List ℕ) → Steps (List ℕ)
  walk_rest (last us p) ls = sized (text_of (ls ++ us)) p (done (text_of (ls ++ us)))
  walk_rest (shut g x r) ls = sized (text_of (ls ++ g.before)) g.opener (go (part (headed g)) (λ u. failed x))
  walk_rest (into g d c r) ls =
      sized (text_of (ls ++ g.before)) g.opener
      (go (part (headed g)) (λ u.
      taken g.opener
      (go (walk c) (λ v.
      go (part (embed g d v)) (λ es.
      sized (text_of ((ls ++ g.before) ++ es)) g.opener
      (walk_rest r ((ls ++ g.before) ++ es)))))))

-- "No regions and no fragment problem: "no region""; else the walk, judged, with n files taken in before
abbrev pub filled : ℕ → ℕ → ℕ → Chain → Outcome
filled B L n (wrong x xs r) = outcome (judge B L n (walk (wrong x xs r)))
filled B L n (plain s) = noRegion
filled B L n (host r) = outcome (judge B L n (walk (host r)))
