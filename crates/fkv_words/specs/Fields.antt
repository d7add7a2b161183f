-- Fields of a word, and what it means that a call reads what another spells.
use Rattle.std.specs.Prelude.{◌≡◌, ℕ, ◌/◌, ◌%◌, ◌^◌, ◌↔◌, Bool, true, false, Option, Some}

-- the number in the `len` bits of a word from bit `at` on
abbrev pub field_of : ℕ → ℕ → ℕ → ℕ
field_of word at len = word / 2 ^ at % 2 ^ len

-- one bit
abbrev pub bit_of : Bool → ℕ
bit_of true = 1
bit_of false = 0

-- What is read where `given` stands: a value exactly where it is spelled so, and none where no value is.
abbrev pub Reads : {A B : Type 0} → (A → B) → B → Option A → Type 0
Reads {A} spelling given read = (x : A) → (read ≡ Some x) ↔ (spelling x ≡ given)

-- no two values have one spelling
abbrev pub SpellsApart : {A B : Type 0} → (A → B) → Type 0
SpellsApart {A} spelling = (x y : A) → spelling x ≡ spelling y → x ≡ y
