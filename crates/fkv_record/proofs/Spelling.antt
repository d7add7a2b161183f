-- Numbers and their bytes.
use Rattle.std.proofs.Common.{◌≡◌, ℕ, ◌+◌, ◌*◌, ◌^◌, ◌<◌, List, [], ◌∷◌, ◌++◌, length, take, drop, get_or, zero, suc, replicate, inl, inr, Option, refl, sym, ap, ◌∙◌, arith}
use Rattle.std.proofs.Math.Seq.{take-add}
use Rattle.std.proofs.Math.ListN.{set}
use Rattle.std.proofs.lemmas.List.{take_more_set, take_at, drop_at, flat_map_more, get_or-replicate, get_or_past, length-replicate, length-append}
use Rattle.std.proofs.lemmas.Bool.{cases_lt}
use Rattle.std.proofs.lemmas.List.Concat.{flat_map-cons}
use Rattle.std.proofs.lemmas.Nat.{from_le_bytes-to_le_bytes_8}
use Rattle.std.specs.List.{AllByRecursion}
use Rattle.std.specs.Int.{w64, to_le_bytes, from_le_bytes}
use Rattle.fkv_words.specs.Fields.{Reads, SpellsApart}
use Rattle.fkv_record.specs.Numbers.{spelled}

-- numbers of 64 bits
abbrev pub AreWords : List ℕ → Type 0
AreWords numbers = AllByRecursion (λ n. n < 2 ^ 64) numbers

pub words_at : (numbers : List ℕ) → ((i : ℕ) → get_or numbers i 0 < 2 ^ 64) → AreWords numbers
words_at [] fits = tt
words_at (n ∷ numbers) fits = (fits 0, words_at numbers (λ i. fits (suc i)))

-- where each place holds a word, it does after a write of one
pub words_set : (numbers : List ℕ) (i n : ℕ) → ((k : ℕ) → get_or numbers k 0 < 2 ^ 64) → n < 2 ^ 64 → (k : ℕ) → get_or (set numbers i n) k 0 < 2 ^ 64
words_set [] i n fits n-fits k = fits k
words_set (x ∷ numbers) zero n fits n-fits zero = n-fits
words_set (x ∷ numbers) zero n fits n-fits (suc k) = fits (suc k)
words_set (x ∷ numbers) (suc i) n fits n-fits zero = fits zero
words_set (x ∷ numbers) (suc i) n fits n-fits (suc k) = words_set numbers i n (λ j. fits (suc j)) n-fits k

pub words_zero : (n k : ℕ) → get_or (replicate n 0) k 0 < 2 ^ 64
words_zero n k =
    elim (cases_lt k n) [
      | inl lt ↦ rw (get_or-replicate {A = ℕ} n k 0 0 lt) (omega arith)
      | inr le ↦ rw (get_or_past {X = ℕ} (replicate n 0) k 0 (omega (arith, length-replicate {A = ℕ} n 0))) (omega arith)
    ]

pub words_append : (xs ys : List ℕ) → AreWords xs → AreWords ys → AreWords (xs ++ ys)
words_append [] ys xs-fit ys-fit = ys-fit
words_append (x ∷ xs) ys xs-fit ys-fit = (xs-fit.0, words_append xs ys xs-fit.1 ys-fit)

-- one number more, and its eight bytes
pub one_more : (bytes numbers : List ℕ) (i n : ℕ) → i < length numbers → to_le_bytes w64 n ≡ take 8 (drop (8 * i) bytes) → take (8 * i) bytes ≡ spelled (take i numbers) → take (8 * (i + 1)) bytes ≡ spelled (take (i + 1) (set numbers i n))
one_more bytes numbers i n lt here so_far =
    let at : 8 * (i + 1) ≡ 8 * i + 8 = omega arith in
    rw (at, take-add (8 * i) 8 bytes, so_far, ← here, take_more_set numbers i n lt) (flat_map_more (to_le_bytes w64) [] (take i numbers) n)

-- a number and what follows it
first_apart : (x y : ℕ) (xs ys : List ℕ) → x < 2 ^ 64 → y < 2 ^ 64 → to_le_bytes w64 x ++ xs ≡ to_le_bytes w64 y ++ ys → (x ≡ y) × (xs ≡ ys)
first_apart x y xs ys x-fits y-fits e =
    let front = sym (take_at (to_le_bytes w64 x) xs 8 refl) ∙ ap (take 8) e ∙ take_at (to_le_bytes w64 y) ys 8 refl in
    let rest = sym (drop_at (to_le_bytes w64 x) xs 8 refl) ∙ ap (drop 8) e ∙ drop_at (to_le_bytes w64 y) ys 8 refl in
    (sym (from_le_bytes-to_le_bytes_8 x x-fits) ∙ ap (from_le_bytes w64) front ∙ from_le_bytes-to_le_bytes_8 y y-fits, rest)

-- as many numbers of the same bytes are the same
pub spelled_apart : (xs ys : List ℕ) → AreWords xs → AreWords ys → length xs ≡ length ys → spelled xs ≡ spelled ys → xs ≡ ys
spelled_apart [] [] xs-fit ys-fit len e = refl
spelled_apart [] (y ∷ ys) xs-fit ys-fit len e = absurd (omega arith)
spelled_apart (x ∷ xs) [] xs-fit ys-fit len e = absurd (omega arith)
spelled_apart (x ∷ xs) (y ∷ ys) xs-fit ys-fit len e =
    let parted = first_apart x y (spelled xs) (spelled ys) xs-fit.0 ys-fit.0 (sym (flat_map-cons (to_le_bytes w64) x xs) ∙ e ∙ flat_map-cons (to_le_bytes w64) y ys) in
    let others = spelled_apart xs ys xs-fit.1 ys-fit.1 (omega arith) parted.1 in
    let head = parted.0 in
    cc

-- things whose bytes are those of so many numbers
pub record IsNumbered {A : Type 0} (bytes_of numbers_of : A → List ℕ) (count : ℕ) : Type 0 where
  pub same : (x : A) → bytes_of x ≡ spelled (numbers_of x)
  pub words : (x : A) → AreWords (numbers_of x)
  pub len : (x : A) → length (numbers_of x) ≡ count

-- where numbers are told apart, their bytes are
pub numbered_apart : {A : Type 0} {bytes_of numbers_of : A → List ℕ} {count : ℕ} → IsNumbered bytes_of numbers_of count → SpellsApart numbers_of → SpellsApart bytes_of
numbered_apart {A} {bytes_of} {numbers_of} it apart x y e =
    apart x y (spelled_apart (numbers_of x) (numbers_of y) (it.words x) (it.words y) (it.len x ∙ sym (it.len y)) (sym (it.same x) ∙ e ∙ it.same y))

-- what is read of the numbers is read of their bytes
pub numbered_reads : {A : Type 0} {bytes_of numbers_of : A → List ℕ} {count : ℕ} → IsNumbered bytes_of numbers_of count
    → (bytes numbers : List ℕ) → length numbers ≡ count → ((i : ℕ) → get_or numbers i 0 < 2 ^ 64) → bytes ≡ spelled numbers
    → (found : Option A) → Reads numbers_of numbers found → Reads bytes_of bytes found
numbered_reads {A} {bytes_of} {numbers_of} it bytes numbers len fits e found reads x = (
  λ s. it.same x ∙ ap spelled ((reads x).0 s) ∙ sym e,
  λ h. (reads x).1 (spelled_apart (numbers_of x) numbers (it.words x) (words_at numbers fits) (it.len x ∙ sym len) (sym (it.same x) ∙ h ∙ e)),
)

-- so many numbers, one by one
pub two_numbers : (numbers : List ℕ) → length numbers ≡ 2 → numbers ≡ get_or numbers 0 0 ∷ get_or numbers 1 0 ∷ []
two_numbers (a ∷ b ∷ []) len = refl
two_numbers numbers len = absurd (omega arith)

pub three_numbers : (numbers : List ℕ) → length numbers ≡ 3 → numbers ≡ get_or numbers 0 0 ∷ get_or numbers 1 0 ∷ get_or numbers 2 0 ∷ []
three_numbers (a ∷ b ∷ c ∷ []) len = refl
three_numbers numbers len = absurd (omega arith)

pub eight_numbers : (numbers : List ℕ) → length numbers ≡ 8
    → numbers ≡ get_or numbers 0 0 ∷ get_or numbers 1 0 ∷ get_or numbers 2 0 ∷ get_or numbers 3 0 ∷ get_or numbers 4 0 ∷ get_or numbers 5 0 ∷ get_or numbers 6 0 ∷ get_or numbers 7 0 ∷ []
eight_numbers (a ∷ b ∷ c ∷ d ∷ e ∷ f ∷ g ∷ h ∷ []) len = refl
eight_numbers numbers len = absurd (omega arith)

-- eight bytes for each
pub length-spelled : (numbers : List ℕ) → length (spelled numbers) ≡ 8 * length numbers
length-spelled [] = refl
length-spelled (n ∷ numbers) = omega (arith, ap length (flat_map-cons (to_le_bytes w64) n numbers), length-append (to_le_bytes w64 n) (spelled numbers), length-spelled numbers)
