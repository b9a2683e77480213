-- CommonMark's own examples of 4.2 and 4.5, line by line, on the definitions of its rules.
use Rattle.std.specs.Prelude.{ℕ, List, [], ◌∷◌, ◌≡◌, Option, Some, None}
use Rattle.text.specs.Pattern.{bytes}
use Rattle.commonmark.specs.Atx.{heading, atx}
use Rattle.commonmark.specs.Fenced.{Mark, backtick, tilde, CodeFence, code_after}

-- 4.2: levels; seven hashes and no space are none; the text stripped; indentation; the closing run
abbrev pub Atx-4-2 : Type 0
Atx-4-2 =
    (atx (bytes "# foo") ≡ heading 1 (bytes "foo"))
    × ((atx (bytes "###### foo") ≡ heading 6 (bytes "foo"))
    × ((atx (bytes "####### foo") ≡ None)
    × ((atx (bytes "#5 bolt") ≡ None)
    × ((atx (bytes "\\## foo") ≡ None)
    × ((atx (bytes "#                  foo                     ") ≡ heading 1 (bytes "foo"))
    × ((atx (bytes "   # foo") ≡ heading 1 (bytes "foo"))
    × ((atx (bytes "    # foo") ≡ None)
    × ((atx (bytes "## foo ##") ≡ heading 2 (bytes "foo"))
    × ((atx (bytes "  ###   bar    ###") ≡ heading 3 (bytes "bar"))
    × ((atx (bytes "# foo ##################################") ≡ heading 1 (bytes "foo"))
    × ((atx (bytes "### foo ###     ") ≡ heading 3 (bytes "foo"))
    × ((atx (bytes "### foo ### b") ≡ heading 3 (bytes "foo ### b"))
    × ((atx (bytes "# foo#") ≡ heading 1 (bytes "foo#"))
    × ((atx (bytes "### foo \\###") ≡ heading 3 (bytes "foo \\###"))
    × ((atx (bytes "## ") ≡ heading 2 [])
    × ((atx (bytes "#") ≡ heading 1 [])
    × (atx (bytes "### ###") ≡ heading 3 [])))))))))))))))))

-- the fence that is open behind lines, where none is open before them
abbrev open_after : Option CodeFence → List (List ℕ) → Option CodeFence
open_after o [] = o
open_after o (l ∷ ls) = open_after (code_after o l) ls

abbrev fenced : Mark → ℕ → Option CodeFence
fenced m n = Some (record { mark = m; length = n })

-- 4.5: openers and closers, their kinds, lengths and indentation, and what may stand behind them
abbrev pub Fences-4-5 : Type 0
Fences-4-5 =
    (open_after None (bytes "```" ∷ bytes "<" ∷ bytes "```" ∷ []) ≡ None)
    × ((open_after None (bytes "``" ∷ []) ≡ None)
    × ((open_after None (bytes "```" ∷ bytes "~~~" ∷ []) ≡ fenced backtick 3)
    × ((open_after None (bytes "~~~" ∷ bytes "```" ∷ []) ≡ fenced tilde 3)
    × ((open_after None (bytes "````" ∷ bytes "```" ∷ []) ≡ fenced backtick 4)
    × ((open_after None (bytes "````" ∷ bytes "```" ∷ bytes "``````" ∷ []) ≡ None)
    × ((open_after None (bytes "~~~~" ∷ bytes "~~~" ∷ []) ≡ fenced tilde 4)
    × ((open_after None (bytes "~~~~" ∷ bytes "~~~" ∷ bytes "~~~~" ∷ []) ≡ None)
    × ((open_after None (bytes "`````" ∷ []) ≡ fenced backtick 5)
    × ((open_after None (bytes "   ```" ∷ bytes "aaa" ∷ bytes "  ```" ∷ []) ≡ None)
    × ((open_after None (bytes "    ```" ∷ []) ≡ None)
    × ((open_after None (bytes "```" ∷ bytes "    ```" ∷ []) ≡ fenced backtick 3)
    × ((open_after None (bytes "``` ```" ∷ []) ≡ None)
    × ((open_after None (bytes "~~~~~~" ∷ bytes "~~~ ~~" ∷ []) ≡ fenced tilde 6)
    × ((open_after None (bytes "~~~~    ruby startline=3 $%@#$" ∷ bytes "~~~~~~~" ∷ []) ≡ None)
    × ((open_after None (bytes "``` aa ```" ∷ []) ≡ None)
    × ((open_after None (bytes "~~~ aa ``` ~~~" ∷ bytes "~~~" ∷ []) ≡ None)
    × (open_after None (bytes "```" ∷ bytes "``` aaa" ∷ []) ≡ fenced backtick 3)))))))))))))))))
