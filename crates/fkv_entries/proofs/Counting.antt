-- Counting entries bucket by bucket.
use Rattle.std.proofs.Common.{◌≡◌, ℕ, zero, suc, ◌+◌, ◌*◌, ◌<◌, ◌≤◌, List, [], ◌∷◌, cond, length, ◌∙◌, arith}
use Rattle.std.specs.Prelude.{nat_eq, nat_lt, count_by, All}
use Rattle.std.specs.List.{filter}
use Rattle.std.proofs.lemmas.List.{length-map}
use Rattle.std.proofs.lemmas.List.Sums.{sum_by-cons, length-filter}
use Rattle.std.proofs.lemmas.Bool.Decides.{nat_tests}
use Rattle.fkv_words.specs.Layout.{entry_word}
use Rattle.fkv_entries.specs.Room.{needed, bucket_words, taken_below, HaveRoom}
use Rattle.fkv_entries.specs.declared.home_entries.HomeEntry.{HomeEntry}

-- how many entries are in a bucket, and in the buckets below it
abbrev in_bucket : ℕ → List HomeEntry → ℕ
in_bucket b xs = count_by (λ x. nat_eq x.bucket b) xs

abbrev in_lower : ℕ → List HomeEntry → ℕ
in_lower b xs = count_by (λ x. nat_lt x.bucket b) xs

pub words_counted : (b : ℕ) (xs : List HomeEntry) → length (bucket_words b xs) ≡ in_bucket b xs
words_counted b xs = length-map (filter (λ x. nat_eq x.bucket b) xs) (λ x. entry_word x.entry) ∙ length-filter (λ x. nat_eq x.bucket b) xs

none_lower : (xs : List HomeEntry) → in_lower 0 xs ≡ 0
none_lower [] = grind (arith)
none_lower (x ∷ xs) =
    let here : ◌≡◌ {A = ℕ} (cond (nat_lt x.bucket 0) 1 0) 0 = grind (arith, nat_tests) in
    omega (arith, sum_by-cons (λ (y : HomeEntry). cond (nat_lt y.bucket 0) 1 0) x xs, here, none_lower xs)

one_bucket : (n b : ℕ) → ◌≡◌ {A = ℕ} (cond (nat_lt n (suc b)) 1 0) (cond (nat_lt n b) 1 0 + cond (nat_eq n b) 1 0)
one_bucket n b = grind (arith, nat_tests)

lower_more : (b : ℕ) (xs : List HomeEntry) → in_lower (suc b) xs ≡ in_lower b xs + in_bucket b xs
lower_more b [] = grind (arith)
lower_more b (x ∷ xs) =
    omega (
      arith,
      sum_by-cons (λ (y : HomeEntry). cond (nat_lt y.bucket (suc b)) 1 0) x xs,
      sum_by-cons (λ (y : HomeEntry). cond (nat_lt y.bucket b) 1 0) x xs,
      sum_by-cons (λ (y : HomeEntry). cond (nat_eq y.bucket b) 1 0) x xs,
      one_bucket x.bucket b,
      lower_more b xs,
    )

all_lower : (b : ℕ) (xs : List HomeEntry) → All (λ x. x.bucket < b) xs → length xs ≤ in_lower b xs
all_lower b [] low = omega arith
all_lower b (x ∷ xs) low =
    let less : x.bucket < b = low 0 x (omega arith) in
    let here : ◌≡◌ {A = ℕ} (cond (nat_lt x.bucket b) 1 0) 1 = grind (arith, nat_tests, less) in
    let rest = all_lower b xs (λ i d few. low (suc i) d (omega (arith, few))) in
    omega (arith, sum_by-cons (λ (y : HomeEntry). cond (nat_lt y.bucket b) 1 0) x xs, here, rest)

slots_enough : (n : ℕ) → n ≤ 7 * (needed n + 1)
slots_enough n = omega arith

lower_few : (xs : List HomeEntry) (b : ℕ) → in_lower b xs ≤ 7 * (b + taken_below xs b)
unfolding taken_below
lower_few xs zero = omega (arith, none_lower xs)
lower_few xs (suc b) =
    let few = lower_few xs b in
    let some = slots_enough (length (bucket_words b xs)) in
    omega (arith, lower_more b xs, words_counted b xs, few, some)

pub in_room : (buckets overflow : ℕ) (entries : List HomeEntry) → HaveRoom buckets overflow entries → length entries ≤ 7 * (buckets + overflow)
in_room buckets overflow entries room = omega (arith, all_lower buckets entries room.homes.there, lower_few entries buckets, room.enough)
