-- Document 01, "Records": what refusals 3 to 5 look for, over the records of an index.
use Rattle.std.specs.Prelude.{ℕ, ◌+◌, cond, List, [], ◌∷◌, ◌++◌, ltb, Option, Some, None, is_some}
use Rattle.answer.specs.Answer.{place}
use Rattle.answer.specs.declared.Place.{Place}
use Rattle.text.specs.Ascii.{wide_line}
use Rattle.index.specs.Index.{Record, file_text, find_record}

-- 3 "part ends past contents, at its index line": the first such record's line; the lines count from n
unfoldable pub past_from : ℕ → ℕ → List Record → Option ℕ
past_from n room [] = None
past_from n room (r ∷ rs) = cond (ltb room (r.start + r.size)) (Some n) (past_from (n + 1) room rs)

-- 4 "name twice, at the second": the line of the first record whose name one of those before it has; qs stand before, and the lines count from n
unfoldable pub twice_from : ℕ → List Record → List Record → Option ℕ
twice_from n qs [] = None
twice_from n qs (r ∷ rs) = cond (is_some (find_record r.name qs)) (Some n) (twice_from (n + 1) (qs ++ (r ∷ [])) rs)

-- 5 "byte 80 hex or above in host, then in files in record order": the first such place in files; the files count from k
abbrev pub wide_or : ℕ → Option ℕ → Option Place → Option Place
wide_or k (Some line) p = Some (place k line)
wide_or k None p = p

unfoldable pub wide_from : ℕ → List ℕ → List Record → Option Place
wide_from k contents [] = None
wide_from k contents (r ∷ rs) = wide_or k (wide_line 1 (file_text contents r)) (wide_from (k + 1) contents rs)
