-- Document 01, "Marker scan" and "Headings and levels": a line that opens or closes a fence.
use Rattle.std.specs.Prelude.{ℕ, Bool, cond, ◌||◌, List, Option, Some, None}
use Rattle.text.specs.Pattern.{bytes, starts_with}
use Rattle.text.specs.Space.{trim_start}
use Rattle.fence.specs.declared.Fence.{Fence}
use Rattle.fence.specs.declared.Fence.TheVariants.{Ticks, Tildes}

-- "a fence opener": the three bytes of a line's trimmed start
unfoldable pub opener : List ℕ → Option Fence
opener l =
    cond (starts_with (bytes "```") (trim_start l)) (Some Ticks)
    (cond (starts_with (bytes "~~~") (trim_start l)) (Some Tildes)
    None)

-- "A line whose trimmed start is ` ``` ` or `~~~` toggles the fence."
unfoldable pub is_fence : List ℕ → Bool
is_fence l = starts_with (bytes "```") (trim_start l) || starts_with (bytes "~~~") (trim_start l)
