-- What one ask does to the word that it names, and what it replies. The simulator, the laws and the threads share it.
use Rattle.std.specs.Prelude.{ℕ, ◌+◌, ◌%◌, ◌^◌, ◌==◌, max, if◌then◌else◌, List, slice_index_or, slice_set, Option, Some, None}
use Rattle.fkv_plane.specs.declared.asks.Ask.{Ask}
use Rattle.fkv_plane.specs.declared.asks.Ask.TheVariants.{Load, Store, Swap, Cas, Add, Max, Put, Take, Done}

-- the word after the ask, where it was n before
abbrev pub asked : {A : Type 0} → Ask A → ℕ → ℕ
asked (Load place) n = n
asked (Store place new) n = new
asked (Swap place new) n = new
asked (Cas place old new) n = if n == old then new else n
asked (Add place k) n = (n + k) % 2 ^ 64
asked (Max place k) n = max n k
asked (Put slot action) n = n
asked (Take slot) n = n
asked (Done answer) n = n

-- the place of its word. What goes with another ask has none
abbrev pub asked_place : {A : Type 0} → Ask A → Option ℕ
asked_place (Load place) = Some place
asked_place (Store place new) = Some place
asked_place (Swap place new) = Some place
asked_place (Cas place old new) = Some place
asked_place (Add place k) = Some place
asked_place (Max place k) = Some place
asked_place (Put slot action) = None
asked_place (Take slot) = None
asked_place (Done answer) = None

-- the word at a place, 0 past the last
abbrev pub word_at : List ℕ → ℕ → ℕ
word_at words place = slice_index_or words place 0

-- the words, where the one at a place goes through f
abbrev pub words_changed : List ℕ → Option ℕ → (ℕ → ℕ) → List ℕ
words_changed words None f = words
words_changed words (Some place) f = slice_set words place (f (word_at words place))

-- all words after the ask
abbrev pub words_after : {A : Type 0} → List ℕ → Ask A → List ℕ
words_after words ask = words_changed words (asked_place ask) (asked ask)

abbrev pub word_found : List ℕ → Option ℕ → ℕ
word_found words None = 0
word_found words (Some place) = word_at words place

-- the reply: the word as it was
abbrev pub reply_to : {A : Type 0} → List ℕ → Ask A → ℕ
reply_to words ask = word_found words (asked_place ask)
