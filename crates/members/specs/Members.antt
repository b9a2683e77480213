-- The members of an assembly, by what is known of each. Nothing here is document 01's: functions promise it, and the laws of `proofs/` tie it to the members.
use Rattle.std.specs.Prelude.{ℕ, ◌+◌, ◌-◌, ◌≤◌, ◌≡◌, List, length, map, All}
use Rattle.text.specs.Bytes.{part}
use Rattle.index.specs.Index.{File, file_of}
use Rattle.put.specs.Put.{source_text, Inside, part_of}
use Rattle.put.specs.declared.Source.{Source}
use Rattle.member.specs.Member.{Prepared}
use Rattle.member.specs.Lines.{kept_lines}
use Rattle.outline.specs.Outline.{IsOutline}
use Rattle.members.specs.declared.Member.{Member}

-- where its lines lie, up to the last that is not blank; and its title's text
abbrev pub text_source : Member → Source
text_source m = part_of m.source 0 m.outline.end

abbrev pub title_source : Member → Source
title_source m = part_of m.source m.outline.title.start m.outline.title.end

-- its name; the file that it is; the member once it is prepared
abbrev pub name_of : List ℕ → Member → List ℕ
name_of index m = part m.name.start m.name.end index

abbrev pub file_in : List ℕ → List ℕ → List ℕ → Member → File
file_in index contents work m = file_of m.file (name_of index m) (source_text m.source contents work)

abbrev pub prepared_in : List ℕ → List ℕ → List ℕ → Member → Prepared
prepared_in index contents work m = record {
  file = m.file;
  name = name_of index m;
  lines = kept_lines (source_text (text_source m) contents work);
  title = source_text (title_source m) contents work;
}

-- of members in order
abbrev pub all_files : List ℕ → List ℕ → List ℕ → List Member → List File
all_files index contents work ms = map (file_in index contents work) ms

abbrev pub all_prepared : List ℕ → List ℕ → List ℕ → List Member → List Prepared
all_prepared index contents work ms = map (prepared_in index contents work) ms

-- a member lies in its buffers: an index of so many bytes, the contents, and a work buffer from the limit up to a place
pub record Lies (index contents limit stop : ℕ) (m : Member) : Type 0 where
  pub forward : m.name.start ≤ m.name.end
  pub named : m.name.end ≤ index
  pub short : m.name.end - m.name.start ≤ 255
  pub first : 1 ≤ m.file
  pub last : m.file ≤ 64
  pub inside : Inside m.source limit contents stop

-- and once it is prepared, so do its lines and its title
pub record Stands (index contents limit stop : ℕ) (m : Member) : Type 0 where
  pub lies : Lies index contents limit stop m
  pub text : m.source.start + m.outline.end ≤ m.source.end
  pub order : m.outline.title.start ≤ m.outline.title.end
  pub title : m.outline.title.end ≤ m.outline.end

-- two members with one number have one name
abbrev pub Agree : List ℕ → Member → Member → Type 0
Agree index m q = m.file ≡ q.file → name_of index m ≡ name_of index q

abbrev pub OneName : List ℕ → List Member → Type 0
OneName index ms = All (λ m. All (Agree index m) ms) ms

-- so do all members of an assembly
pub record AllLie (index : List ℕ) (contents limit stop : ℕ) (ms : List Member) : Type 0 where
  pub few : length ms ≤ 64
  pub lie : All (Lies (length index) contents limit stop) ms
  pub same : OneName index ms

pub record AllStand (index : List ℕ) (contents limit stop : ℕ) (ms : List Member) : Type 0 where
  pub few : length ms ≤ 64
  pub stand : All (Stands (length index) contents limit stop) ms
  pub same : OneName index ms

-- what is known of each member is its outline
abbrev pub IsKnown : List ℕ → List ℕ → Member → Type 0
IsKnown contents work m = IsOutline (source_text m.source contents work) m.outline

abbrev pub AllKnown : List ℕ → List ℕ → List Member → Type 0
AllKnown contents work ms = All (IsKnown contents work) ms
