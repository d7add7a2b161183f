-- Where the words lie in the table. The tail and the count of taken overflow buckets have no other word within a line's length, and the blocks of sessions, the
-- buckets and the frames begin at a multiple of eight words.
use Rattle.std.specs.Prelude.{ℕ, zero, suc, ◌+◌, ◌-◌, ◌==◌, nat_lt, if◌then◌else◌, List, [], ◌∷◌, length, Option, Some, None}
use Rattle.fkv_plane.specs.Asked.{word_found}

-- how many positions are gaps
abbrev pub gaps : ℕ
gaps = 40

-- the position of the word of a place: 3 is the tail's, 10 the count's, and from 24 on stand the blocks of sessions
abbrev pub position : ℕ → ℕ
position place = if place == 3 then 32 else if place == 10 then 48 else if nat_lt place 24 then place else place + gaps

-- the place whose word lies at a position, if it is no gap
abbrev pub low_place : ℕ → Option ℕ
low_place at = if at == 3 then None else if at == 10 then None else Some at

abbrev pub place_at : ℕ → Option ℕ
place_at at = if at == 32 then Some 3 else if at == 48 then Some 10 else if nat_lt at 24 then low_place at else if nat_lt at 64 then None else Some (at - gaps)

-- so many words from a position on; a gap has 0
unfoldable pub laid_from : List ℕ → ℕ → ℕ → List ℕ
laid_from words at zero = []
laid_from words at (suc left) = word_found words (place_at at) ∷ laid_from words (suc at) left

-- the words of the table for these words of the world
abbrev pub laid : List ℕ → List ℕ
laid words = laid_from words 0 (length words + gaps)
