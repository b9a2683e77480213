-- Laws of what is put for a target. Assumes nothing.
use Prim.Native.Nat.{ℕ, ◌-◌}
use mathlib.Core.Path.{◌≡◌, sym, ap, ◌∙◌}
use mathlib.Core.List.{List, ◌++◌}
use lib.ListN.{drop}
use Rattle.std.specs.Prelude.{Option}
use Rattle.text.specs.Bytes.{part}
use Rattle.text.proofs.BytesLaws.{rest}
use Rattle.put.specs.Running.{Reads, text_of, Grown, Ran}
use Rattle.put.specs.declared.Source.{Source}
use Rattle.put.specs.declared.running.RunningText.{RunningText}
use Rattle.put.proofs.RunningLaws.{source-length, reads_on, read_same, ran_then}

-- the bytes of a source from place e on, and all of them
pub behind_is : {old : RunningText} {source : Source} → Reads old source → (e : ℕ) → part e (source.end - source.start) (text_of old source) ≡ drop e (text_of old source)
behind_is {old} {source} reads e = ap (λ (i : ℕ). part e i (text_of old source)) (sym (source-length reads)) ∙ rest (text_of old source) e

pub all_is : {old : RunningText} {source : Source} → Reads old source → part 0 (source.end - source.start) (text_of old source) ≡ text_of old source
all_is reads = behind_is reads 0

-- a source is put behind what was put before it
pub source_put : {x : List ℕ} {old mid : RunningText} {source : Source} → Reads old source → Grown x old mid → (new : RunningText) (r : Option (Unit {0}))
    → Ran (part 0 (source.end - source.start) (text_of mid source)) mid new r → Ran (x ++ text_of old source) old new r
source_put reads p new r h = ran_then _ new r p (rw (all_is (reads_on reads p), read_same reads p) at h)
