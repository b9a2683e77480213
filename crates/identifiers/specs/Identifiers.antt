-- The pandoc manual, gfm_auto_identifiers: the identifier of a heading's plain text, and where our anchor and it part.
use Rattle.std.specs.Prelude.{ℕ, Bool, true, false, cond, not, ◌&&◌, ◌||◌, List, [], ◌∷◌, ◌≡◌, eqb, leb}
use Rattle.text.specs.Ascii.{is_digit, lower}
use Rattle.text.specs.Pattern.{bytes}
use Rattle.text.specs.Space.{is_space}
use Rattle.anchor.specs.Anchor.{markup_after, is_shown, word_after, plain, slug}
use Rattle.anchor.specs.declared.Markup.{Markup}
use Rattle.anchor.specs.declared.Markup.TheVariants.{Written, Bracket, Behind, Target}
use Rattle.commonmark.specs.Headings.{is_spaced}

-- "punctuation characters other than - and _ are removed": letters and digits, `-` and `_` are left; control bytes, of which the manual says nothing, go too, as in the tool
abbrev pub is_left : ℕ → Bool
is_left x = ((leb 0x61 (lower x) && leb (lower x) 0x7A) || is_digit x) || (eqb x 0x2D || eqb x 0x5F)

-- "Spaces are converted to dashes (-), uppercase characters to lowercase characters"; any space byte is taken as a space
unfoldable pub identifier : List ℕ → List ℕ
identifier [] = []
identifier (x ∷ s) = cond (is_left x) (lower x ∷ identifier s) (cond (is_space x) (0x2D ∷ identifier s) (identifier s))

-- A departure is a test of a byte and of where it stands: whether a letter or digit stands directly before it, whether it stands outside brackets, in them, directly behind them, or in parentheses directly behind them, and the text behind it.
abbrev pub Test : Type 0
Test = Bool → Markup → ℕ → List ℕ → Bool

unfoldable pub any_from : Test → Bool → Markup → List ℕ → Bool
any_from f w m [] = false
any_from f w m (x ∷ s) = f w m x s || any_from f (word_after w m x) (markup_after m x) s

abbrev pub somewhere : Test → List ℕ → Bool
somewhere f t = any_from f false Written t

-- an underscore that we drop, outside brackets in a run that does not stay, or in a target: the manual keeps it
abbrev pub underscore : Test
underscore w m x s = eqb x 0x5F && not (is_shown w m x s)

-- a byte in parentheses directly behind brackets which the manual, on a plain text, does not remove: we take them for a link's target
abbrev pub target : Test
target w Written x s = false
target w Bracket x s = false
target w Behind x s = false
target w Target x s = is_left x || is_space x

-- a space byte other than 20 hex: we leave it out
abbrev pub other_space : Test
other_space w m x s = is_space x && not (eqb x 0x20)

-- and one is a test of the whole text: a space byte at an end, once marks are gone: we trim it
abbrev pub mark_at_end : List ℕ → Bool
mark_at_end t = is_spaced (plain t)

-- the list
abbrev pub departs_at : Test
departs_at w m x s =
    target w m x s
    || underscore w m x s
    || other_space w m x s

unfoldable pub departs : List ℕ → Bool
departs t = mark_at_end t || somewhere departs_at t

-- where none of them holds, our anchor is the manual's identifier, for every text, taken as plain
abbrev pub SameIdentifier : Type 0
SameIdentifier = (t : List ℕ) → departs t ≡ false → slug t ≡ identifier t

-- and where one of them holds, it is not
abbrev pub OtherIdentifier : Type 0
OtherIdentifier = (t : List ℕ) → departs t ≡ true → slug t ≡ identifier t → ⊥

-- a text on which a departure holds, our anchor and the manual's identifier
abbrev pub Parts : (List ℕ → Bool) → List ℕ → List ℕ → List ℕ → Type 0
Parts test t ours theirs = (test t ≡ true) × ((slug t ≡ ours) × (identifier t ≡ theirs))

-- each of them parts the two
abbrev pub EachParts : Type 0
EachParts =
    Parts (somewhere underscore) (bytes "_q_") (bytes "q") (bytes "_q_")
    × (Parts (somewhere target) (bytes "a [b](c") (bytes "a-b") (bytes "a-bc")
    × (Parts mark_at_end (bytes "* a") (bytes "a") (bytes "-a")
    × (Parts (somewhere other_space) (0x61 ∷ 0x0B ∷ 0x0C ∷ 0x0D ∷ bytes "b") (bytes "ab") (bytes "a---b")
    × Parts (somewhere other_space) (0x61 ∷ 0x09 ∷ bytes "b") (bytes "ab") (bytes "a-b"))))

-- texts on which none of them holds
abbrev pub NoneHolds : Type 0
NoneHolds =
    (departs (bytes "Rating & Datum") ≡ false)
    × ((departs (bytes "*Stage* at 6.20 m") ≡ false)
    × ((departs (bytes "a[0] [b_] d (e)") ≡ false)
    × ((departs (bytes "*weir_3* [at]_1") ≡ false)
    × ((departs (bytes "[a]() b") ≡ false)
    × (departs [] ≡ false)))))
