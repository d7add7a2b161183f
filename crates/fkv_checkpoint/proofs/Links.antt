-- All overflow buckets that follow buckets are fewer than there are.
use Rattle.std.proofs.Common.{◌≡◌, ℕ, zero, suc, ◌+◌, ◌<◌, ◌≤◌, ◌⊎◌, List, [], ◌∷◌, ◌++◌, length, refl, inl, inr, arith, sym, ap, ◌∙◌}
use Rattle.std.proofs.lemmas.List.{length-append}
use Rattle.fkv_plane.specs.declared.places.Places.{Places}
use Rattle.fkv_index.specs.Buckets.{IsMember, IsOnce}
use Rattle.fkv_index.specs.OneEntry.{Owner, ListedAt, AreOwned, IsIndex, KeepsLists}
use Rattle.fkv_index.proofs.Shown.{once_few, listed_taken}

-- how many follow the buckets below this one
pub total : (ℕ → List ℕ) → ℕ → ℕ
total lists zero = 0
total lists (suc bucket) = total lists bucket + length (lists bucket)

pub total_next : (lists : ℕ → List ℕ) (bucket : ℕ) → total lists (bucket + 1) ≡ total lists bucket + length (lists bucket)
unfolding total
total_next lists bucket = let e : bucket + 1 ≡ suc bucket = omega arith in rw e refl

pub total_none : (lists : ℕ → List ℕ) → total lists 0 ≡ 0
unfolding total
total_none lists = refl

-- the lists one after another
all_lists : (ℕ → List ℕ) → ℕ → List ℕ
all_lists lists zero = []
all_lists lists (suc bucket) = all_lists lists bucket ++ lists bucket

all_length : (lists : ℕ → List ℕ) (bucket : ℕ) → length (all_lists lists bucket) ≡ total lists bucket
unfolding all_lists total
all_length lists zero = refl
all_length lists (suc bucket) = let before = all_length lists bucket in let sum = length-append (all_lists lists bucket) (lists bucket) in omega (arith, before, sum)

pub total_grows : (lists after : ℕ → List ℕ) (bucket : ℕ) → KeepsLists lists after → total lists bucket ≤ total after bucket
unfolding total
total_grows lists after zero kept = omega arith
total_grows lists after (suc bucket) kept =
    let before = total_grows lists after bucket kept in
    let its = kept bucket in
    let longer : length (after bucket) ≡ length (lists bucket) + length its.0 = ap length its.1 ∙ length-append (lists bucket) its.0 in
    omega (arith, before, longer)

member_split : (a b : List ℕ) (n : ℕ) → IsMember n (a ++ b) → IsMember n a ⊎ IsMember n b
member_split [] b n found = inr found
member_split (r ∷ rest) b n (inl same) = inl (inl same)
member_split (r ∷ rest) b n (inr there) = elim (member_split rest b n there) [
  | inl found ↦ inl (inr found)
  | inr found ↦ inr found
]

once_joined : (a b : List ℕ) → IsOnce a → IsOnce b → ((n : ℕ) → IsMember n a → IsMember n b → ⊥) → IsOnce (a ++ b)
once_joined [] b first second apart = second
once_joined (r ∷ rest) b first second apart = (
  λ found. elim (member_split rest b r found) [
    | inl there ↦ first.0 there
    | inr there ↦ apart r (inl refl) there
  ],
  once_joined rest b first.1 second (λ n x y. apart n (inr x) y),
)

all_member : (lists : ℕ → List ℕ) (bucket n : ℕ) → IsMember n (all_lists lists bucket) → (c : ℕ) × (c < bucket) × IsMember n (lists c)
unfolding all_lists
all_member lists zero n found = absurd found
all_member lists (suc bucket) n found = elim (member_split (all_lists lists bucket) (lists bucket) n found) [
  | inl there ↦ let its = all_member lists bucket n there in let low = its.1 in (its.0, omega (arith, low), its.2)
  | inr there ↦ (bucket, omega arith, there)
]

same_bucket : (x y : ℕ) → ListedAt x ≡ ListedAt y → x ≡ y
same_bucket x y e = cc

all_once : (taken : ℕ) (lists : ℕ → List ℕ) (spares : ℕ → ℕ) (owner : ℕ → Owner) (bucket : ℕ) → AreOwned taken lists spares owner → IsOnce (all_lists lists bucket)
unfolding all_lists
all_once taken lists spares owner zero owned = tt
all_once taken lists spares owner (suc bucket) owned =
    once_joined (all_lists lists bucket) (lists bucket) (all_once taken lists spares owner bucket owned) (owned.once bucket) (λ n a b.
    let its = all_member lists bucket n a in
    let low = its.1 in
    let same = same_bucket its.0 bucket (sym (owned.listed its.0 n its.2) ∙ owned.listed bucket n b) in
    omega (arith, low, same))

pub total_few : (p : Places) (words : List ℕ) (lists : ℕ → List ℕ) (spares : ℕ → ℕ) (bucket : ℕ) → IsIndex p words lists spares → total lists bucket ≤ p.overflow
total_few p words lists spares bucket index =
    let few = once_few p.overflow (all_lists lists bucket) (all_once _ lists spares index.owner bucket index.owned) (λ n found.
    let its = all_member lists bucket n found in
    let taken = listed_taken its.0 n index.owned its.2 in
    let most = index.few_taken in
    let low = taken.0 in
    let high = taken.1 in
    (low, omega (arith, high, most))) in
    let long = all_length lists bucket in
    omega (arith, few, long)
