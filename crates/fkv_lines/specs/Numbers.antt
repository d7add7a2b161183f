-- Words that spell numbers.
use Rattle.std.specs.Prelude.{ℕ, ◌^◌, ◌&&◌, not, nat_lt, List, [], ◌∷◌, length, if◌then◌else◌, Result, Ok, Err, ◌==◌}
use Rattle.std.specs.List.{list_all}
use Rattle.std.specs.Str.Parse.{digits_value}
use Rattle.std.specs.Char.{is_ascii_digit}
use Rattle.fkv_base.specs.declared.faults.ScriptFault.{ScriptFault}
use Rattle.fkv_base.specs.declared.faults.ScriptFault.TheVariants.{Count, Number}

infixl 10 ◌>>=◌
-- goes on with what was read; a fault is passed on
abbrev pub ◌>>=◌ : {A B E : Type 0} → Result A E → (A → Result B E) → Result B E
(Ok x) >>= f = f x
(Err e) >>= f = Err e

-- the number that a word of decimal digits spells, below 2^64
unfoldable pub number_of : List ℕ → Result ℕ ScriptFault
number_of word =
    if not (length word == 0) && list_all is_ascii_digit word && nat_lt (digits_value 10 word) (2 ^ 64)
    then Ok (digits_value 10 word) else Err Number

-- the numbers that these words spell, in their order
abbrev pub numbers_of : List (List ℕ) → Result (List ℕ) ScriptFault
numbers_of [] = Ok []
numbers_of (word ∷ words) = do
  n ← number_of word
  rest ← numbers_of words
  Ok (n ∷ rest)

-- so many words, each a number
unfoldable pub arguments_of : ℕ → List (List ℕ) → Result (List ℕ) ScriptFault
arguments_of wanted words = if length words == wanted then numbers_of words else Err Count
