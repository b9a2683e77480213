-- The next region of a host in a fill: what it comes to before its file, and behind it; and what the whole comes to where no region is left. Assumes nothing.
use Prim.Native.Nat.{ℕ, suc, ◌*◌, ◌≤◌, ◌<◌}
use mathlib.Core.Path.{◌≡◌, refl, sym, ap}
use mathlib.Core.Bool.{Bool}
use mathlib.Core.List.{List, [], ◌++◌}
use lib.ListN.{length, take}
use Rattle.insertion.specs.Insertion.{tested}
use Rattle.answer.specs.Answer.{place}
use Rattle.answer.specs.declared.Refusal.{Refusal}
use Rattle.text.specs.Bytes.{part}
use Rattle.index.specs.Index.{File, file_of}
use Rattle.regions.specs.Hosts.{host_rest, region_at, WholeHost, LastHost}
use Rattle.regions.specs.declared.host.HostCursor.{HostCursor}
use Rattle.regions.specs.declared.host.Opening.{Opening}
use Rattle.opening.specs.declared.Filling.{Filling}
use Rattle.embedding.specs.Embed.{embed_told}
use Rattle.chains.specs.Chains.{next, next_named, file_at, free}
use Rattle.chains.specs.Fill.{walk}
use Rattle.walk.specs.Steps.{Judged, judge}
use Rattle.walk.specs.Outcome.{refusal, outcome}
use Rattle.opening.specs.Opening.{named_of, Entry, enters, barred, entry_of}
use Rattle.filling.specs.Filling.{with_files, chain_to, embedded_by, rest_at, Running, Turned, CanEmbed}
use Rattle.chains.proofs.GrowLaws.{next-free}
use Rattle.opening.proofs.EntryLaws.{entry_enters}
use Rattle.filling.proofs.TurnLaws.{turn_last, turn_barred, turn_on}

module _ (S : List File) (top : List ℕ) (m : List Bool) (s : List ℕ) (at : Filling) (used : ℕ) (t : List ℕ) where
  -- what a region comes to before its file
  abbrev pub entry_at : ℕ → Opening → Entry
  entry_at from o =
      entry_of at.limit (place at.number o.line) o.headless (t ++ part from o.end s)
      (named_of at.allowance used (place at.number o.line) (next_named S top m (place at.number o.line) (part o.path.start o.path.end s)))

  -- a file that is taken in can be embedded
  pub can_embed : {c d : HostCursor} {o : Opening} → WholeHost s c o d → (u : List ℕ) (f n W : ℕ) → enters u f ≡ entry_at c.from o → n ≤ at.limit
      → suc (free (take (length S) m)) * at.limit ≤ W → (used < at.allowance) × CanEmbed m (length S) f o.target n at.limit W
  unfolding next
  can_embed {c} {d} {o} w u f n W e fits room =
      let i = entry_enters at.allowance at.limit used (place at.number o.line) o.headless (t ++ part c.from o.end s) u
      (next_named S top m (place at.number o.line) (part o.path.start o.path.end s)) f (sym e) in
      let j = next-free S top m (region_at at.number [] s w.before o) f i.leads in
      (i.allowed, record { one = j.0; off = j.1; least = w.target.0; most = w.target.1; fits = fits; room = room })

  -- the lines put so far, in a host of a name
  module _ (name : List ℕ) {whole : Judged (List ℕ)} {c : HostCursor} (l : Running at.allowance at.limit whole (rest_at S top m name s at.number c) c.from used t) where
    -- no region is left
    pub whole_last : LastHost s c → with_files used (tested at.limit (place at.number 0) (t ++ part c.from (length s) s)) ≡ outcome whole
    whole_last w = turn_last S top m at.number (chain_to S top m) (host_rest (file_of at.number name s) c) l s (length s) w.lines (w.rest at.number name) w.append

    module _ {o : Opening} {d : HostCursor} (w : WholeHost s c o d) where
      -- the region is refused before its file
      pub whole_barred : (x : Refusal) → barred x ≡ entry_at c.from o → refusal x ≡ outcome whole
      whole_barred x e =
          sym (ap outcome (turn_barred S top m at.number (chain_to S top m) (host_rest (file_of at.number name s) c) l s o.end
          (region_at at.number name s w.before o) (host_rest (file_of at.number name s) d) (w.rest at.number name) o.headless refl w.append x (sym e)))

      -- its file is taken in
      pub whole_on : (u : List ℕ) (f : ℕ) → enters u f ≡ entry_at c.from o
          → Turned at.allowance at.limit whole (rest_at S top m name s at.number d) d.from
          (embedded_by at.limit (place at.number o.line) u (embed_told name (file_at S f).name o.target (file_at S f).number)
          (judge at.allowance at.limit (suc used) (walk (chain_to S top m f))))
      whole_on u f e =
          turn_on S top m at.number (chain_to S top m) (host_rest (file_of at.number name s) c) l s o.end
          (region_at at.number name s w.before o) (host_rest (file_of at.number name s) d) (w.rest at.number name) o.headless refl w.append
          w.lines u f (sym e) d.from w.some
