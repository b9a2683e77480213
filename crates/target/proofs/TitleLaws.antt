-- Laws of `specs/Titles.antt`: the last member of a name, and a name that is too long for any. Assumes nothing.
use Rattle.std.specs.Prelude.{Some, None, Option, All, Contains}
use Rattle.std.proofs.lemmas.List.{map_more, get_or-reverse, length-reverse, take_all}
use Rattle.std.proofs.lemmas.List.Elements.{All-head, All-tail, All-map, All-contains}
use Prim.Native.Nat.{ℕ, ◌+◌, ◌-◌, ◌≤◌, ◌<◌}
use native.Mathlib.Omega.{arith}
use mathlib.Core.Path.{◌≡◌, refl, sym, ap, ◌∙◌}
use mathlib.Core.Bool.{Bool, true, false, cond}
use mathlib.Core.List.{List, [], ◌∷◌, ◌++◌, reverse}
use lib.ListN.{length, take, drop, get_or}
use borrow.Author.Tests.{eq-eqb, ne_eqb}
use Rattle.text.specs.Pattern.{equals}
use Rattle.text.specs.Bytes.{part}
use Rattle.text.proofs.BytesLaws.{rest, part_length}
use Rattle.anchor.specs.Anchor.{slug}
use Rattle.path.specs.Path.{resolve}
use Rattle.resolve.specs.Resolve.{Resolves}
use Rattle.link.specs.Target.{outside, placed, target_of, rewrite_target}
use Rattle.link.proofs.TargetLaws.{path-within}
use Rattle.put.specs.Put.{source_text, part_of}
use Rattle.put.specs.Running.{Fits, Reads, text_of, Grown}
use Rattle.put.specs.declared.Source.{Source}
use Rattle.put.specs.declared.running.RunningText.{RunningText}
use Rattle.put.proofs.PutLaws.{source-part}
use Rattle.put.proofs.RunningLaws.{source-length, grown_behind, reads-inside, reads_part}
use Rattle.member.specs.Member.{Prepared}
use Rattle.members.specs.Members.{name_of, title_source, prepared_in, all_prepared, Stands, AllStand}
use Rattle.members.specs.declared.Member.{Member}
use Rattle.members.proofs.MembersLaws.{prepared_on}
use Rattle.pointer.proofs.PutLaws.{behind_is, all_is}
use Rattle.target.specs.Titles.{title_named, titles_in, AreNamed, FoundMember, TitleIn, inside}

-- one more member at the end
named-last : (ms : List Prepared) (m : Prepared) (name : List ℕ) → title_named (ms ++ (m ∷ [])) name ≡ cond (equals m.name name) (Some m.title) (title_named ms name)
unfolding title_named
named-last [] m name = refl
named-last (k ∷ ms) m name = rw (named-last ms m name) (go (equals m.name name) (title_named ms name))
  where
    go : (b : Bool) (o : Option (List ℕ))
        → ◌≡◌ {A = Option (List ℕ)} (elim (cond b (Some m.title) o) [ None ↦ cond (equals k.name name) (Some k.title) None | Some t ↦ Some t ])
        (cond b (Some m.title) (elim o [ None ↦ cond (equals k.name name) (Some k.title) None | Some t ↦ Some t ]))
    go true o = refl
    go false o = refl

titles_more : (index contents work : List ℕ) (ms : List Member) (i : ℕ) (m : Member) (name : List ℕ) → i < length ms → m ≡ get_or ms i m
    → titles_in index contents work (take (i + 1) ms) name
    ≡ cond (equals (name_of index m) name) (Some (source_text (title_source m) contents work)) (titles_in index contents work (take i ms) name)
titles_more index contents work ms i m name h e =
    ap (λ (ps : List Prepared). title_named ps name) (map_more (prepared_in index contents work) ms i m h ∙ rw (← e))
    ∙ named-last (all_prepared index contents work (take i ms)) (prepared_in index contents work m) name

-- none of the members behind the first k has the name
pub record Seeking (index : List ℕ) (ms : List Member) (name : List ℕ) (k : ℕ) : Type 0 where
  pub same : (contents work : List ℕ) → titles_in index contents work ms name ≡ titles_in index contents work (take k ms) name

pub seeking_start : (index : List ℕ) (ms : List Member) (name : List ℕ) → Seeking index ms name (length ms - 0)
seeking_start index ms name = record { same = λ c w. ap (λ (l : List Member). titles_in index c w l name) (sym (take_all (length ms - 0) ms (omega arith))) }

-- a member at so many places from the last one
pub from_last : (ms : List Member) (j : ℕ) (m : Member) → (j < length (reverse ms)) × (m ≡ get_or (reverse ms) j m) → (j < length ms) × (m ≡ get_or ms (length ms - j - 1) m)
from_last ms j m t =
    let h : j < length ms = omega (arith, t.0, length-reverse ms) in
    let e : length ms - 1 - j ≡ length ms - j - 1 = omega arith in
    (h, t.1 ∙ get_or-reverse ms j m h ∙ rw e)

pub contains_last : (ms : List Member) (j : ℕ) (m : Member) → (j < length ms) × (m ≡ get_or ms (length ms - j - 1) m) → Contains ms m
contains_last ms j m t = (length ms - j - 1, omega (arith, t.0), sym t.1)

module _ {index : List ℕ} {ms : List Member} {name : List ℕ} {j : ℕ} (p : Seeking index ms name (length ms - j)) where
  module _ {m : Member} (t : (j < length ms) × (m ≡ get_or ms (length ms - j - 1) m)) {b : Bool} (same : b ≡ equals (name_of index m) name) where
    next : (c w : List ℕ) → titles_in index c w ms name ≡ cond b (Some (source_text (title_source m) c w)) (titles_in index c w (take (length ms - j - 1) ms) name)
    next c w =
        let e : length ms - j ≡ length ms - j - 1 + 1 = omega (arith, t.0) in
        p.same c w ∙ ap (λ (n : ℕ). titles_in index c w (take n ms) name) e ∙ titles_more index c w ms (length ms - j - 1) m name (omega (arith, t.0)) t.1 ∙ rw (← same)

    pub seeking_found : b ≡ true → FoundMember index ms name (Some m)
    seeking_found e = (contains_last ms j m t, λ c w. next c w ∙ rw e)

    pub seeking_on : b ≡ false → Seeking index ms name (length ms - (j + 1))
    seeking_on e = let z : length ms - (j + 1) ≡ length ms - j - 1 = omega arith in record { same = λ c w. next c w ∙ rw (e, z) }

  pub seeking_end : length ms ≤ j → FoundMember index ms name None
  unfolding title_named
  seeking_end h c w = let z : length ms - j ≡ 0 = omega arith in p.same c w ∙ rw z

-- a text that is no name by its length
other_length : (p s : List ℕ) → length p < length s → equals p s ≡ false
unfolding equals
other_length p s h = rw (ne_eqb (length s) (length p) (λ e. omega arith))

none_named : (ms : List Prepared) (name : List ℕ) → All (λ m. equals m.name name ≡ false) ms → title_named ms name ≡ None
unfolding title_named
none_named [] name a = refl
none_named (m ∷ ms) name a =
    rw (none_named ms name (All-tail (λ q. equals q.name name ≡ false) m ms a), All-head (λ q. equals q.name name ≡ false) m ms a)

module _ {index : List ℕ} {n limit stop : ℕ} {ms : List Member} (all : AllStand index n limit stop ms) where
  pub names-lie : AreNamed index ms
  names-lie k d h = let l = (all.stand k d h).lies in (l.forward, l.named)

  pub title_in : (m : Member) → Contains ms m → TitleIn m
  title_in m h = let s = All-contains (Stands (length index) n limit stop) ms m all.stand h in (s.order, omega (arith, s.text, s.title))

  -- a path of more than 255 bytes names no member
  pub long_path : (c w name : List ℕ) → 255 < length name → titles_in index c w ms name ≡ None
  long_path c w name h =
      none_named (all_prepared index c w ms) name
      (All-map (λ q. equals q.name name ≡ false) (prepared_in index c w) ms
      (λ k d j. let m : Member = get_or ms k d in
      other_length (name_of index m) name (omega (arith, part_length index m.name.start m.name.end, (all.stand k d j).lies.short))))

  -- titles stay what they were while the work buffer is written below the limit
  pub titles_on : (c v w : List ℕ) → drop limit v ≡ drop limit w → titles_in index c v ms ≡ titles_in index c w ms
  titles_on c v w q = ap title_named (prepared_on c v w all q)

-- beside a running text that grows the members stand on, and their titles stay what they were
module _ {index : List ℕ} {ms : List Member} {old : RunningText} (all : AllStand index (length old.contents.now) old.limit (length old.work.now) ms) where
  pub title_reads : Fits old → (m : Member) → Contains ms m → Reads old (title_source m)
  title_reads fits m h =
      let s = All-contains (Stands (length index) (length old.contents.now) old.limit (length old.work.now)) ms m all.stand h in
      reads_part (record { inside = s.lies.inside; below = fits.0; fits = fits.1 }) m.outline.title.start m.outline.title.end s.order (omega (arith, s.text, s.title))

  module _ {x : List ℕ} {new : RunningText} (p : Grown x old new) where
    pub stand_on : AllStand index (length new.contents.now) new.limit (length new.work.now) ms
    stand_on = rw (p.contents, p.limit, p.long) all

    pub titles_same : titles_in index new.contents.now new.work.now ms ≡ titles_in index old.contents.now old.work.now ms
    titles_same = rw p.contents (titles_on all old.contents.now new.work.now old.work.now (grown_behind p))

-- what a target becomes, by what it is
module _ (titles : List ℕ → Option (List ℕ)) (url dir t : List ℕ) where
  pub target-same : target_of t ≡ None → rewrite_target titles url dir t ≡ t
  unfolding rewrite_target
  target-same e = rw e

  pub target-placed : (e : ℕ) → target_of t ≡ Some e → rewrite_target titles url dir t ≡ placed url (resolve dir (take e t)) (drop e t) (titles (resolve dir (take e t)))
  unfolding rewrite_target
  target-placed e q = rw q

-- a path that names a member or not
module _ (url path fragment : List ℕ) (o : Option (List ℕ)) where
  pub placed-inside : (title : List ℕ) → o ≡ Some title → placed url path fragment o ≡ inside fragment title
  placed-inside title e = rw e

  pub placed-outside : o ≡ None → placed url path fragment o ≡ outside url path ++ fragment
  placed-outside e = rw e

-- the path of a target, and the rest behind it
module _ {target : Source} {old : RunningText} (reads : Reads old target) (e : ℕ) (within : e ≤ target.end - target.start) where
  in_target : target.start + e ≤ target.end
  in_target = omega (arith, within, reads.inside.0)

  up_to_end : target.start + (target.end - target.start) ≤ target.end
  up_to_end = omega (arith, reads.inside.0)

  pub path_reads : Reads old (part_of target 0 e)
  path_reads = reads_part reads 0 e (omega arith) in_target

  pub rest_reads : Reads old (part_of target e (target.end - target.start))
  rest_reads = reads_part reads e (target.end - target.start) within up_to_end

  pub path-is : text_of old (part_of target 0 e) ≡ take e (text_of old target)
  path-is = source-part target old.contents.now old.work.now 0 e in_target ∙ (let n : e - 0 ≡ e = omega arith in rw n)

  pub rest-is : text_of old (part_of target e (target.end - target.start)) ≡ drop e (text_of old target)
  rest-is = source-part target old.contents.now old.work.now e (target.end - target.start) up_to_end ∙ behind_is reads e

-- a path of more than 255 bytes is put at the repository
pub placed-long : {index : List ℕ} {n limit stop : ℕ} {ms : List Member} → AllStand index n limit stop ms → (url path fragment c w : List ℕ) → 255 < length path
    → placed url path fragment (titles_in index c w ms path) ≡ outside url path ++ fragment
placed-long all url path fragment c w h = placed-outside url path fragment _ (long_path all c w path h)

-- a path, resolved at the end of 256 bytes or longer than they are
module _ (dir path out : List ℕ) (size : length out ≡ 256) where
  pub path-here : (a : ℕ) → Resolves dir path out (Some a) → part a 256 out ≡ resolve dir path
  path-here a f = ap (λ (n : ℕ). part a n out) (sym size) ∙ rest out a ∙ f.1

  pub path-long : Resolves dir path out None → 255 < length (resolve dir path)
  path-long f = omega (arith, f)

-- a link to a member, by whether something stands behind the path
module _ {rest : Source} {old : RunningText} (reads : Reads old rest) (title : List ℕ) where
  pub inside-some : rest.start < rest.end → inside (text_of old rest) title ≡ text_of old rest
  inside-some h = rw (ne_eqb (length (text_of old rest)) 0 (λ q. omega (arith, source-length reads)))

  pub inside-none : rest.end ≤ rest.start → inside (text_of old rest) title ≡ 0x23 ∷ slug title
  inside-none h = rw (eq-eqb (length (text_of old rest)) 0 (omega (arith, source-length reads)))

pub ruleset seeking = (seeking_start, seeking_end)

pub ruleset naming = (names-lie, title_in, title_reads, placed-inside, placed-outside)

pub ruleset inside_or = (inside-some, inside-none, all_is)

pub ruleset placing = (reads-inside, path-here)

pub ruleset becoming = (target-same, target-placed, source-length, path-within, path_reads, rest_reads, path-is, rest-is, all_is)
