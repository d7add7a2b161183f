-- The lines of a script, and the words of a line.
use Rattle.std.specs.Prelude.{ℕ, Bool, ◌||◌, not, nat_lt, List, [], ◌∷◌, length, filter, codes, if◌then◌else◌, ◌==◌}
use Rattle.std.specs.List.{slice_split, starts_with}

-- a line ends with LF: of the parts round LFs, the last is a line only where it has bytes
abbrev pub ended_lines : List (List ℕ) → List (List ℕ)
ended_lines [] = []
ended_lines (line ∷ []) = if length line == 0 then [] else line ∷ []
ended_lines (line ∷ next ∷ more) = line ∷ ended_lines (next ∷ more)

-- the lines of a script; the last may lack its LF
unfoldable pub lines_of : List ℕ → List (List ℕ)
lines_of bytes = ended_lines (slice_split (λ byte. byte == 10) bytes)

-- the words of a line stand between spaces, one or more; every other byte belongs to a word
unfoldable pub words_of : List ℕ → List (List ℕ)
words_of line = filter (λ word. not (length word == 0)) (slice_split (λ byte. byte == 32) line)

-- a line whose first byte is `#`
abbrev pub is_comment : List ℕ → Bool
is_comment line = starts_with (λ a b. a == b) line (codes "#")

-- comments, and lines without a word, are counted and skipped
abbrev pub says_nothing : List ℕ → Bool
says_nothing line = is_comment line || (length (words_of line) == 0)

-- a line has at most so many bytes, and a script so many lines; comments and lines without a word count too
abbrev pub most_bytes : ℕ
most_bytes = 200

abbrev pub most_lines : ℕ
most_lines = 65536

abbrev pub is_oversized : ℕ → List ℕ → Bool
is_oversized number line = nat_lt most_bytes (length line) || nat_lt most_lines number
