-- The six numbers of an answer, read by their places from 0, as a caller reads them.
use Rattle.std.specs.Prelude.{ℕ, List, ◌≡◌, get_or}

abbrev pub number_at : List ℕ → ℕ → ℕ
number_at answer k = get_or answer k 0

-- 0, then length and files taken in; 1 for "no region"; 2, then number, place and second place
abbrev pub Accepted : List ℕ → Type 0
Accepted answer = number_at answer 0 ≡ 0

abbrev pub NoRegion : List ℕ → Type 0
NoRegion answer = number_at answer 0 ≡ 1

abbrev pub Refused : List ℕ → Type 0
Refused answer = number_at answer 0 ≡ 2

abbrev pub length_of : List ℕ → ℕ
length_of answer = number_at answer 1

abbrev pub files_of : List ℕ → ℕ
files_of answer = number_at answer 2

abbrev pub refusal_number : List ℕ → ℕ
refusal_number answer = number_at answer 1

abbrev pub RefusedBy : List ℕ → ℕ → Type 0
RefusedBy answer n = Refused answer × (refusal_number answer ≡ n)

abbrev pub place_file : List ℕ → ℕ
place_file answer = number_at answer 2

abbrev pub place_line : List ℕ → ℕ
place_line answer = number_at answer 3

abbrev pub second_file : List ℕ → ℕ
second_file answer = number_at answer 4

abbrev pub second_line : List ℕ → ℕ
second_line answer = number_at answer 5
