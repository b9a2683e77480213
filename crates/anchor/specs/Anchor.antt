-- Document 01, "Assembly and book": "Anchor: `slug`": the anchor of a heading's text, as the Rust's `slug` makes it, but for runs of underscores: document 02, Req 01.
use Rattle.std.specs.Prelude.{ℕ, suc, ◌+◌, ◌*◌, ◌%◌, ◌≤◌, ◌<◌, Bool, true, false, cond, not, ◌&&◌, ◌||◌, List, [], ◌∷◌, length, eqb, leb, ◌≡◌, Option, Some, None}
use Rattle.text.specs.Bytes.{part}
use Rattle.text.specs.Ascii.{is_digit}
use Rattle.text.specs.Space.{is_space, trim}
use Rattle.text.specs.Ascii.{lower}
use Rattle.anchor.specs.declared.AnchorCursor.{AnchorCursor}
use Rattle.anchor.specs.declared.Markup.{Markup}
use Rattle.anchor.specs.declared.Markup.TheVariants.{Written, Bracket, Behind, Target}
use Rattle.anchor.specs.declared.TextByte.{TextByte}

-- where the next byte stands: what is not closed takes the rest
unfoldable pub markup_after : Markup → ℕ → Markup
markup_after Written x = cond (eqb x 0x5B) Bracket Written
markup_after Bracket x = cond (eqb x 0x5D) Behind Bracket
markup_after Behind x = cond (eqb x 0x28) Target (cond (eqb x 0x5B) Bracket Written)
markup_after Target x = cond (eqb x 0x29) Written Target

-- "once links are cut to their text": a link keeps its text, in brackets, and loses these and its target, in parentheses directly behind
unfoldable pub stands : Markup → ℕ → Bool
stands Written x = not (eqb x 0x5B)
stands Bracket x = not (eqb x 0x5D)
stands Behind x = not (eqb x 0x28 || eqb x 0x5B)
stands Target x = false

-- whether a byte stands in the text of a link
unfoldable pub is_linked : Markup → Bool
is_linked Written = false
is_linked Bracket = true
is_linked Behind = false
is_linked Target = false

-- a byte that stands once links are cut, and whether it does in the text of a link
pub record Cut : Type 0 where
  pub byte : ℕ
  pub linked : Bool

abbrev pub cut_byte : Markup → ℕ → Cut
cut_byte m x = record { byte = x; linked = is_linked m }

unfoldable pub cut_from : Markup → List ℕ → List Cut
cut_from m [] = []
cut_from m (x ∷ s) = cond (stands m x) (cut_byte m x ∷ cut_from (markup_after m x) s) (cut_from (markup_after m x) s)

abbrev pub cut : List ℕ → List Cut
cut t = cut_from Written t

-- "a letter or digit"
abbrev pub is_word : ℕ → Bool
is_word x = (leb 0x61 (lower x) && leb (lower x) 0x7A) || is_digit x

-- whether a letter or digit stands "directly after" a run of underscores: the rest of the run is passed over
unfoldable pub word_follows : List Cut → Bool
word_follows [] = false
word_follows (c ∷ s) = cond (eqb c.byte 0x5F) (word_follows s) (is_word c.byte)

-- whether one stands "directly before" what follows x: behind an underscore, what stands before its run
abbrev pub word_before : Bool → ℕ → Bool
word_before before x = cond (eqb x 0x5F) before (is_word x)

-- "A run of underscores with a letter or digit directly before and after it shall stay": an underscore of one, before s
abbrev pub stays : Bool → ℕ → List Cut → Bool
stays before x s = eqb x 0x5F && (before && word_follows s)

-- a backtick, `*` or `_`
abbrev pub is_mark : ℕ → Bool
is_mark x = eqb x 0x60 || (eqb x 0x2A || eqb x 0x5F)

-- marks go outside a link's text: "Others go as before"
abbrev pub shows : Cut → Bool
shows c = c.linked || not (is_mark c.byte)

-- the text without its markup, behind a letter or digit or not
unfoldable pub plain_from : Bool → List Cut → List ℕ
plain_from before [] = []
plain_from before (c ∷ s) =
    let rest = plain_from (word_before before c.byte) s in
    cond (shows c || stays before c.byte s) (c.byte ∷ rest) rest

abbrev pub plain : List ℕ → List ℕ
plain t = plain_from false (cut t)

-- letters and digits, `-` and `_` are kept
abbrev pub is_kept : ℕ → Bool
is_kept x = is_word x || (eqb x 0x2D || eqb x 0x5F)

-- what a byte gives: kept ones in lower case, 20 hex `-`, any other nothing
unfoldable pub anchor_of : List ℕ → List ℕ
anchor_of [] = []
anchor_of (x ∷ s) = cond (is_kept x) (lower x ∷ anchor_of s) (cond (eqb x 0x20) (0x2D ∷ anchor_of s) (anchor_of s))

-- the anchor of a heading's text
unfoldable pub slug : List ℕ → List ℕ
slug t = anchor_of (trim (plain t))

-- By the bytes of a text whose links are not cut: whether one is text where no run stays, whether it is left without the markup, and whether a letter or digit stands directly before the next
abbrev pub is_text : Markup → ℕ → Bool
is_text m x = stands m x && shows (cut_byte m x)

abbrev pub is_shown : Bool → Markup → ℕ → List ℕ → Bool
is_shown before m x s = stands m x && (shows (cut_byte m x) || stays before x (cut_from (markup_after m x) s))

abbrev pub word_after : Bool → Markup → ℕ → Bool
word_after before m x = cond (stands m x) (word_before before x) before

-- For the cursor: what is left of the text once links are cut, and without its markup
abbrev pub cut_left : AnchorCursor → List ℕ → List Cut
cut_left c t = cut_from c.markup (part c.at c.end t)

-- whether a letter or digit stands directly before it: told by the byte there or, where that is an underscore, by whether its run stays
abbrev pub is_word_last : AnchorCursor → Bool
is_word_last c = cond (eqb c.last 0x5F) c.stays (is_word c.last)

abbrev pub plain_left : AnchorCursor → List ℕ → List ℕ
plain_left c t = plain_from (is_word_last c) (cut_left c t)

-- what is left of an anchor
abbrev pub anchor_from : AnchorCursor → List ℕ → List ℕ
anchor_from c t = anchor_of (plain_left c t)

-- a run of underscores that stays has a letter or digit after it
abbrev pub RunStays : AnchorCursor → List ℕ → Type 0
RunStays c t = (eqb c.last 0x5F && c.stays) ≡ true → word_follows (cut_left c t) ≡ true

abbrev pub CursorWithin : AnchorCursor → List ℕ → Type 0
CursorWithin c t = ((c.at ≤ c.end) × (c.end ≤ length t)) × RunStays c t

-- a byte of the text is read: whether it is shown, and what is left after it; or none is left
abbrev pub ReadByte : List ℕ → AnchorCursor → Option TextByte → Type 0
ReadByte t c (Some r) =
    (plain_left c t ≡ cond r.shown (r.byte ∷ plain_left r.rest t) (plain_left r.rest t))
    × ((r.rest.at ≡ c.at + 1) × ((r.rest.end ≡ c.end) × ((c.at < c.end) × CursorWithin r.rest t)))
ReadByte t c None = plain_left c t ≡ []

-- a byte of the anchor and what is left after it, or nothing left
abbrev pub NextByte : List ℕ → AnchorCursor → Option (ℕ × AnchorCursor) → Type 0
NextByte t c (Some (b, d)) = (anchor_from c t ≡ b ∷ anchor_from d t) × ((c.at < d.at) × CursorWithin d t)
NextByte t c None = anchor_from c t ≡ []

-- whether a byte is text and no space byte; an underscore that stays never stands at an end of the text
abbrev pub is_seen : Markup → ℕ → Bool
is_seen m x = is_text m x && not (is_space x)

-- the place after the last byte of t that is text and no space byte, n bytes standing before t
unfoldable pub plain_end_from : Markup → ℕ → ℕ → List ℕ → ℕ
plain_end_from m end n [] = end
plain_end_from m end n (x ∷ t) = plain_end_from (markup_after m x) (cond (is_seen m x) (suc n) end) (suc n) t

abbrev pub plain_end : List ℕ → ℕ
plain_end t = plain_end_from Written 0 0 t

-- A number that equal anchors share. It is not document 01's: it only makes comparing anchors faster.
abbrev pub stirred : ℕ → ℕ → ℕ
stirred n x = (n + x) * 6700417 % 0x100_0000_0000

unfoldable pub number_from : ℕ → List ℕ → ℕ
number_from n [] = n
number_from n (x ∷ a) = number_from (stirred n x) a

abbrev pub anchor_number : List ℕ → ℕ
anchor_number a = number_from 0 a
