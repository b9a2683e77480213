-- CommonMark 0.31.2, 4.5: fenced code blocks, by their lines.
use Rattle.std.specs.Prelude.{ℕ, Bool, true, cond, not, ◌&&◌, List, drop, leb, Option, Some, None}
use Rattle.text.specs.Bytes.{is, any, first}
use Rattle.commonmark.specs.Strip.{is_shown, indent}

-- "a sequence of at least three consecutive backtick characters or tildes": which, and how many
pub data Mark : Type 0 where
  backtick : Mark
  tilde : Mark

pub record CodeFence : Type 0 where
  pub mark : Mark
  pub length : ℕ

abbrev pub byte_of : Mark → ℕ
byte_of backtick = 0x60
byte_of tilde = 0x7E

-- a line without its indentation
abbrev pub unindented : List ℕ → List ℕ
unindented l = drop (indent l) l

-- how many of them a text begins with
unfoldable pub run : Mark → List ℕ → ℕ
run m t = first (λ x. not (is (byte_of m) x)) t

-- what follows them: behind an opener the info string, before it is trimmed
abbrev pub info : Mark → List ℕ → List ℕ
info m t = drop (run m t) t

-- "If the info string comes after a backtick fence, it may not contain any backtick characters."
abbrev pub is_info : Mark → List ℕ → Bool
is_info backtick s = not (any (is 0x60) s)
is_info tilde s = true

-- "begins with a code fence, preceded by up to three spaces of indentation"
unfoldable pub opens_with : Mark → List ℕ → Bool
opens_with m l = leb (indent l) 3 && (leb 3 (run m (unindented l)) && is_info m (info m (unindented l)))

unfoldable pub code_opener : List ℕ → Option CodeFence
code_opener l =
    cond (opens_with backtick l) (Some (record { mark = backtick; length = run backtick (unindented l) }))
    (cond (opens_with tilde l) (Some (record { mark = tilde; length = run tilde (unindented l) }))
    None)

-- "of the same type as the code block began with, and with at least as many backticks or tildes as the opening code fence"; "may be preceded by up to three spaces of indentation, and may be followed only by spaces or tabs"
unfoldable pub closes_code : CodeFence → List ℕ → Bool
closes_code f l =
    leb (indent l) 3 && (leb f.length (run f.mark (unindented l)) && not (any is_shown (info f.mark (unindented l))))

-- the fence that is open behind a line, where one or none was open before it
abbrev pub code_after : Option CodeFence → List ℕ → Option CodeFence
code_after None l = code_opener l
code_after (Some f) l = cond (closes_code f l) None (Some f)
