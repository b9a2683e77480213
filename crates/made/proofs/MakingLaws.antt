-- The loop over members: those that are made, and those that still stand in the contents. Assumes nothing.
use Rattle.std.specs.Prelude.{All}
use Prim.Native.Nat.{ℕ, suc, ◌+◌, ◌-◌, ◌*◌, ◌≤◌, ◌<◌}
use native.Mathlib.Nat.{suc-mul, mul-le-mul_right}
use native.Mathlib.Numerals.{add-one}
use native.Mathlib.Omega.{arith}
use mathlib.Core.Path.{◌≡◌, refl, sym, ◌∙◌, ap}
use mathlib.Core.Bool.{false, true}
use mathlib.Core.List.{List, [], ◌∷◌, ◌++◌, map, map-append, append-nil}
use lib.ListN.{length, take, drop, set, get_or, get_or-map}
use lib.Seq.{map-set_same}
use Rattle.std.proofs.lemmas.List.{length-map, length-set, drop_more, drop-drop, drop_all, drop-set-lt, take_all, take_more, take_more_set, get_or-drop, get_or_default}
use Rattle.std.proofs.lemmas.List.Elements.{All-get_or, All-map, All-set, All-take, All-weaker}
use Rattle.answer.specs.declared.Refusal.{Refusal}
use Rattle.index.specs.Index.{File, file_of}
use Rattle.index.specs.FileSets.{files_of}
use Rattle.index.specs.declared.file_set.FileSet.{FileSet}
use Rattle.walk.specs.Steps.{given, refused, judge}
use Rattle.walk.specs.Outcome.{text, noRegion, refusal}
use Rattle.chains.specs.Chains.{no_marks, start_at}
use Rattle.chains.specs.Fill.{walk, filled}
use Rattle.chains.proofs.FillLaws.{filled-plain}
use Rattle.put.specs.Put.{source_text, Inside}
use Rattle.members.specs.Members.{name_of, file_in, all_files, Lies, Agree, OneName, AllLie}
use Rattle.members.specs.declared.Member.{Member}
use Rattle.members.proofs.MembersLaws.{map-each, source_up, inside_more}
use Rattle.book.specs.Book.{with_texts}
use Rattle.book.specs.BookWalk.{walk_all}
use Rattle.made.specs.Made.{slot, placed_at, CanFill, CanMake, judged_all, texts_of, AreMade}
use Rattle.made.proofs.JudgeLaws.{all_more, all_stop, behind, behind-none, behind_more, filled-given, filled-stopped}

-- a member but for where its text lies and its outline
abbrev pub unplaced : Member → Member
unplaced m = placed_at m (record { work = false; start = 0; end = 0 })

-- a member whose text lies in the work buffer
abbrev pub in_work : Member → ℕ → ℕ → Member
in_work m a e = placed_at m (record { work = true; start = a; end = e })

-- the first i members are made, with so many files taken in; the others are as they were
pub record Making (B L : ℕ) (index contents : List ℕ) (S : List File) (w₀ : List ℕ) (ms₀ : List Member) (w : List ℕ) (ms : List Member) (i used : ℕ) : Type 0 where
  pub few : i ≤ length ms₀
  pub kept : length w ≡ length w₀
  pub lie : AllLie index (length contents) L (slot L i) ms
  pub named : map unplaced ms ≡ map unplaced ms₀
  pub later : drop i ms ≡ drop i ms₀
  pub judged : judged_all B L S (all_files index contents w₀ ms₀)
      ≡ behind (texts_of (all_files index contents w (take i ms))) (judge B L used (walk_all (map (start_at S) (all_files index contents w₀ (drop i ms₀)))))

-- behind the first i of members stands m' now, and the others are as they were
pub record Changed (index : List ℕ) (contents L stop : ℕ) (ms ms' : List Member) (m' : Member) (i : ℕ) : Type 0 where
  pub front : take (i + 1) ms' ≡ take i ms ++ (m' ∷ [])
  pub behind : drop (i + 1) ms' ≡ drop (i + 1) ms
  pub named : map unplaced ms' ≡ map unplaced ms
  pub lie : AllLie index contents L stop ms'

-- ---- slots

pub slot_next : (L i : ℕ) → slot L (i + 1) ≡ slot L i + L
slot_next L i = rw (add-one (i + 1)) (suc-mul (i + 1) L)

pub slot_le : (L i k : ℕ) → i ≤ k → slot L i ≤ slot L k
slot_le L i k h = mul-le-mul_right L (omega arith)

-- behind the slots of all members one more
pub table_fits : (L n count W : ℕ) → (n + count + 2) * L ≤ W → slot L count + L ≤ W
table_fits L n count W r =
    let more : slot L (count + 1) ≤ (n + count + 2) * L = mul-le-mul_right L (omega arith) in
    omega (arith, slot_next L count)

-- ---- one member changes

-- one name for each number, whatever lies where
module _ (index : List ℕ) where
  one-unplaced : (ms : List Member) → OneName index ms → OneName index (map unplaced ms)
  one-unplaced ms h = All-map (λ m. All (Agree index m) (map unplaced ms)) unplaced ms (λ i d k. All-map (Agree index (get_or ms i d)) unplaced ms (h i d k))

  one-placed : (ms : List Member) → OneName index (map unplaced ms) → OneName index ms
  one-placed ms h i d k j e l =
      let g : Agree index (get_or (map unplaced ms) i (unplaced d)) (get_or (map unplaced ms) j (unplaced e)) =
      h i (unplaced d) (omega (arith, length-map ms unplaced)) j (unplaced e) (omega (arith, length-map ms unplaced)) in
      rw (get_or-map unplaced ms i d, get_or-map unplaced ms j e) at g

  one_name : (ms ms' : List Member) → map unplaced ms' ≡ map unplaced ms → OneName index ms → OneName index ms'
  one_name ms ms' e h = one-placed ms' (rw e (one-unplaced ms h))

lies-more : {index contents L stop stop' : ℕ} → stop ≤ stop' → (m : Member) → Lies index contents L stop m → Lies index contents L stop' m
lies-more {contents = contents} {L = L} {stop = stop} {stop' = stop'} k m l = record {
  forward = l.forward;
  named = l.named;
  short = l.short;
  first = l.first;
  last = l.last;
  inside = inside_more m.source L contents stop l.inside stop' k;
}

all-lie-more : {index : List ℕ} {contents L stop stop' : ℕ} {ms : List Member} → stop ≤ stop' → AllLie index contents L stop ms → AllLie index contents L stop' ms
all-lie-more {index} {contents} {L} {stop} {stop'} {ms} k a =
    record { few = a.few; lie = All-weaker (Lies (length index) contents L stop) (Lies (length index) contents L stop') (lies-more k) ms a.lie; same = a.same }

-- nothing changes; a member's text lies in the work buffer now
module _ {index : List ℕ} {contents L stop stop' : ℕ} {ms : List Member} {i : ℕ} (m : Member) (is : m ≡ get_or ms i m) (h : i < length ms) (k : stop ≤ stop') (a : AllLie index contents L stop ms) where
  pub changed_not : Changed index contents L stop' ms ms m i
  changed_not = record {
    front = take_more ms i m h ∙ ap (λ x. take i ms ++ (x ∷ [])) (sym is);
    behind = refl;
    named = refl;
    lie = all-lie-more k a;
  }

  pub changed : (b e : ℕ) → L ≤ b → b ≤ e → e ≤ stop' → Changed index contents L stop' ms (set ms i (in_work m b e)) (in_work m b e) i
  changed b e f g j =
      let n : map unplaced (set ms i (in_work m b e)) ≡ map unplaced ms = map-set_same unplaced ms i (in_work m b e) m (ap unplaced is) in
      let l : Lies (length index) contents L stop m = rw (← is) at (All-get_or (Lies (length index) contents L stop) ms i m h a.lie) in
      record {
        front = take_more_set ms i (in_work m b e) h;
        behind = drop-set-lt (i + 1) ms i (in_work m b e) (omega arith);
        named = n;
        lie = record {
          few = omega (arith, length-set ms i (in_work m b e), a.few);
          lie = All-set (Lies (length index) contents L stop') ms i (in_work m b e)
              (record { forward = l.forward; named = l.named; short = l.short; first = l.first; last = l.last; inside = (g, (f, j)) })
              (All-weaker (Lies (length index) contents L stop) (Lies (length index) contents L stop') (lies-more k) ms a.lie);
          same = one_name index ms (set ms i (in_work m b e)) n a.same;
        };
      }

-- ---- the loop

-- a member that stands in the contents is the same file whatever the work buffer
standing_file : (index contents v w : List ℕ) (m : Member) → m.source.work ≡ false → file_in index contents v m ≡ file_in index contents w m
standing_file index contents v w m h = rw h

-- and so are those that lie before a place, where the work buffer changes behind it
files_up : (index contents v w : List ℕ) (size L stop : ℕ) (ms : List Member) → All (Lies size (length contents) L stop) ms → take stop v ≡ take stop w
    → all_files index contents v ms ≡ all_files index contents w ms
files_up index contents v w size L stop ms a up =
    map-each (file_in index contents v) (file_in index contents w) ms
    (λ i d h. let m : Member = get_or ms i d in ap (file_of m.file (name_of index m)) (source_up m.source L (length contents) stop contents v w (a i d h).inside up))

-- members with their names and numbers, and other texts
texts-same : (index contents v w : List ℕ) (ms ms₀ : List Member) → map unplaced ms ≡ map unplaced ms₀
    → all_files index contents w ms ≡ with_texts (all_files index contents v ms₀) (texts_of (all_files index contents w ms))
unfolding with_texts
texts-same index contents v w [] [] e = refl
texts-same index contents v w [] (m₀ ∷ ms₀) e = cc
texts-same index contents v w (m ∷ ms) [] e = cc
texts-same index contents v w (m ∷ ms) (m₀ ∷ ms₀) e =
    let x : unplaced m ≡ unplaced m₀ = cc in
    let xs : map unplaced ms ≡ map unplaced ms₀ = cc in
    let f : m.file ≡ m₀.file = ap (λ (m : Member). m.file) x in
    let n : m.name ≡ m₀.name = ap (λ (m : Member). m.name) x in
    rw (f, n) (ap (λ (fs : List File). file_of m₀.file (name_of index m₀) (source_text m.source contents w) ∷ fs) (texts-same index contents v w ms ms₀ xs))

pub making_start : {B L : ℕ} {files : FileSet} {w : List ℕ} {ms : List Member} (S : List File) → CanMake files ms L (length w)
    → Making B L files.index.now files.contents.now S w ms w ms 0 0
making_start {B} {L} {files} {w} {ms} S c = record {
  few = omega arith;
  kept = refl;
  lie = let e : (0 + 1) * L ≡ L = omega arith in rw e c.lie;
  named = refl;
  later = refl;
  judged = sym (behind-none (judged_all B L S (all_files files.index.now files.contents.now w ms)));
}

module _ {B L : ℕ} {index contents : List ℕ} {S : List File} {w₀ : List ℕ} {ms₀ : List Member} {w : List ℕ} {ms : List Member} {i used : ℕ}
    (a : Making B L index contents S w₀ ms₀ w ms i used) where
  length-same : length ms ≡ length ms₀
  length-same = sym (length-map ms unplaced) ∙ ap length a.named ∙ length-map ms₀ unplaced

  module _ (here : i < length ms₀) (stand : All (λ m. m.source.work ≡ false) ms₀) (d : Member) where
    -- member i, and then the others
    abbrev m : Member
    m = get_or ms i d

    is : m ≡ get_or ms i m
    is = get_or_default ms i d m (omega (arith, length-same))

    rest-first : drop i ms₀ ≡ m ∷ drop (i + 1) ms₀
    rest-first =
        let behind-same : drop (i + 1) ms ≡ drop (i + 1) ms₀ = sym (drop-drop 1 i ms) ∙ ap (drop 1) a.later ∙ drop-drop 1 i ms₀ in
        sym a.later ∙ drop_more ms i d (omega (arith, length-same)) ∙ ap (λ (l : List Member). m ∷ l) behind-same

    same-first : get_or ms₀ i d ≡ m
    same-first =
        let z : i + 0 ≡ i = omega arith in
        rw z at (sym (get_or-drop i ms₀ 0 d) ∙ ap (λ (l : List Member). get_or l 0 d) rest-first)

    stands : m.source.work ≡ false
    stands = rw same-first at (All-get_or (λ x. x.source.work ≡ false) ms₀ i d here stand)

    abbrev rest : List File
    rest = all_files index contents w₀ (drop (i + 1) ms₀)

    judged-left : judged_all B L S (all_files index contents w₀ ms₀)
        ≡ behind (texts_of (all_files index contents w (take i ms))) (judge B L used (walk_all (start_at S (file_in index contents w m) ∷ map (start_at S) rest)))
    judged-left =
        a.judged
        ∙ ap (λ (fs : List File). behind (texts_of (all_files index contents w (take i ms))) (judge B L used (walk_all (map (start_at S) fs))))
        (ap (all_files index contents w₀) rest-first ∙ ap (λ (f : File). f ∷ rest) (standing_file index contents w₀ w m stands))

    pub making_refused : (x : Refusal) → refusal x ≡ filled B L used (start_at S (file_in index contents w m)) → judged_all B L S (all_files index contents w₀ ms₀) ≡ refused x
    making_refused x q =
        judged-left
        ∙ ap (behind (texts_of (all_files index contents w (take i ms))))
        (all_stop B L used (start_at S (file_in index contents w m)) (map (start_at S) rest) x (filled-stopped B L used (start_at S (file_in index contents w m)) x q))

    module _ (w' : List ℕ) (up : take (slot L i) w' ≡ take (slot L i) w) (l : length w' ≡ length w) where
      module _ {ms' : List Member} {m' : Member} {t : List ℕ} {n : ℕ} (q : judge B L used (walk (start_at S (file_in index contents w m))) ≡ given t n)
          (h : Changed index (length contents) L (slot L (i + 1)) ms ms' m' i) (e : source_text m'.source contents w' ≡ t) where
        texts-more : texts_of (all_files index contents w' (take (i + 1) ms')) ≡ texts_of (all_files index contents w (take i ms)) ++ (t ∷ [])
        texts-more =
            let before : all_files index contents w' (take i ms) ≡ all_files index contents w (take i ms) =
            files_up index contents w' w (length index) L (slot L i) (take i ms) (All-take (Lies (length index) (length contents) L (slot L i)) i ms a.lie.lie) up in
            ap (λ (l : List Member). texts_of (all_files index contents w' l)) h.front
            ∙ ap texts_of (map-append (file_in index contents w') (take i ms) (m' ∷ []))
            ∙ map-append (λ (f : File). f.text) (all_files index contents w' (take i ms)) (file_in index contents w' m' ∷ [])
            ∙ rw (before, e)

        making_more : Making B L index contents S w₀ ms₀ w' ms' (i + 1) n
        making_more = record {
          few = omega arith;
          kept = l ∙ a.kept;
          lie = h.lie;
          named = h.named ∙ a.named;
          later = h.behind ∙ sym (drop-drop 1 i ms) ∙ ap (drop 1) a.later ∙ drop-drop 1 i ms₀;
          judged = judged-left
              ∙ ap (behind (texts_of (all_files index contents w (take i ms)))) (all_more B L used (start_at S (file_in index contents w m)) (map (start_at S) rest) t n q)
              ∙ behind_more (texts_of (all_files index contents w (take i ms))) t (judge B L n (walk_all (map (start_at S) rest)))
              ∙ ap (λ (ts : List (List ℕ)). behind ts (judge B L n (walk_all (map (start_at S) rest)))) (sym texts-more);
        }

      -- "keeps its text on "no region""
      pub making_kept : noRegion ≡ filled B L used (start_at S (file_in index contents w m)) → Making B L index contents S w₀ ms₀ w' ms (i + 1) used
      making_kept q =
          let inside : Inside m.source L (length contents) (slot L i) = (a.lie.lie i d (omega (arith, length-same))).inside in
          making_more (filled-plain B L used S (name_of index m) no_marks (file_in index contents w m) (sym q))
          (changed_not m is (omega (arith, length-same)) (slot_le L i (i + 1) (omega arith)) a.lie)
          (source_up m.source L (length contents) (slot L i) contents w' w inside up)

      pub making_filled : (len files : ℕ) → len ≤ L → text (take len (drop (slot L i) w')) files ≡ filled B L used (start_at S (file_in index contents w m))
          → Making B L index contents S w₀ ms₀ w' (set ms i (in_work m (slot L i) (slot L i + len))) (i + 1) files
      making_filled len files h q =
          let z : slot L i + len - slot L i ≡ len = omega arith in
          making_more (filled-given B L used (start_at S (file_in index contents w m)) (take len (drop (slot L i) w')) files q)
          (changed m is (omega (arith, length-same)) (slot_le L i (i + 1) (omega arith)) a.lie (slot L i) (slot L i + len) (omega (arith, slot_le L 0 i (omega arith))) (omega arith)
          (omega (arith, slot_next L i)))
          (rw z)

  -- all lie up to the last slot
  pub lie_on : AllLie index (length contents) L (slot L (length ms₀)) ms
  lie_on = all-lie-more (slot_le L i (length ms₀) a.few) a.lie

  pub making_end : length ms₀ ≤ i → AreMade B L S (all_files index contents w₀ ms₀) (all_files index contents w ms) used
  unfolding walk_all judge
  making_end h = record { judged = all; same = texts-same index contents w₀ w ms ms₀ a.named }
    where
      all : judged_all B L S (all_files index contents w₀ ms₀) ≡ given (texts_of (all_files index contents w ms)) used
      all = a.judged ∙ rw (drop_all i ms₀ h, take_all i ms (omega (arith, length-same))) (ap (λ (ts : List (List ℕ)). given ts used) (append-nil (texts_of (all_files index contents w ms))))

-- member i can be filled in its slot
pub can_fill : {B L : ℕ} {files : FileSet} {S : List File} {w₀ : List ℕ} {ms₀ : List Member} {w : List ℕ} {ms : List Member} {i used : ℕ}
    → Making B L files.index.now files.contents.now S w₀ ms₀ w ms i used → CanMake files ms₀ L (length w₀) → i < length ms₀ → (d : Member)
    → CanFill files (get_or ms i d) L (slot L i) (length w)
can_fill {L = L} {files = files} {ms₀ = ms₀} {i = i} a c here d =
    let n : ℕ = length (files_of files) in
    let room : (i + 1 + suc n) * L ≤ (n + length ms₀ + 2) * L = mul-le-mul_right L (omega arith) in
    record {
      lies = rw (same-first a here c.stand d) at (c.lie.lie i d here);
      stands = stands a here c.stand d;
      room = omega (arith, room, a.kept, c.room);
    }

pub ruleset makings = (making_start, lie_on, making_end)
