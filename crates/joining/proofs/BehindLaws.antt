-- Laws of a member put behind the rule that joins it. Assumes nothing.
use Rattle.std.specs.Prelude.{Option, Contains}
use Prim.Native.Nat.{ℕ, ◌≤◌}
use mathlib.Core.Path.{◌≡◌, ap, ◌∙◌, subst}
use mathlib.Core.List.{List, ◌++◌}
use lib.IntN.{ℤ}
use Rattle.path.specs.Path.{parent_dir}
use Rattle.link.specs.Target.{rewrite_target}
use Rattle.put.specs.Running.{Reads, text_of, Grown, Ran}
use Rattle.put.specs.declared.running.RunningText.{RunningText}
use Rattle.put.proofs.RunningLaws.{reads_on, read_same, ran_then}
use Rattle.members.specs.Members.{text_source, name_of}
use Rattle.members.specs.declared.Assembly.{Assembly}
use Rattle.members.specs.declared.Member.{Member}
use Rattle.target.specs.Titles.{titles_of}
use Rattle.target.proofs.TitleLaws.{titles_same}
use Rattle.emission.specs.Emission.{emitted_text}
use Rattle.joining.specs.Joining.{target_of, Emits}
use Rattle.joining.proofs.StandLaws.{text_reads}

module _ (old : RunningText) (a : Assembly) (can : Emits old a) {m : Member} (h : Contains a.members.now m) (below : old.at ≤ old.limit) {rule : List ℕ} {mid : RunningText} (p : Grown rule old mid) where
  pub rule_reads : Reads mid (text_source m)
  rule_reads = reads_on (text_reads old a can below h) p

  -- what is put behind the rule is what would be put before it
  pub rule_lines : {dir : List ℕ} → dir ≡ parent_dir (name_of a.index.now m) → (z : ℤ) (new : RunningText) (r : Option (Unit {0}))
      → Ran (emitted_text (rewrite_target (titles_of mid a) a.url.now dir) z (text_of mid (text_source m))) mid new r
      → Ran (rule ++ emitted_text (target_of old a m) z (text_of old (text_source m))) old new r
  rule_lines {dir} d z new r q =
      let same : emitted_text (rewrite_target (titles_of mid a) a.url.now dir) z (text_of mid (text_source m)) ≡ emitted_text (target_of old a m) z (text_of old (text_source m)) =
      ap (λ (s : List ℕ). emitted_text (rewrite_target (titles_of mid a) a.url.now dir) z s) (read_same (text_reads old a can below h) p)
      ∙ ap (λ (t : List ℕ → Option (List ℕ)). emitted_text (rewrite_target t a.url.now dir) z (text_of old (text_source m))) (titles_same can.stand p)
      ∙ ap (λ (x : List ℕ). emitted_text (rewrite_target (titles_of old a) a.url.now x) z (text_of old (text_source m))) d in
      ran_then _ new r p (subst (λ (x : List ℕ). Ran x mid new r) same q)
