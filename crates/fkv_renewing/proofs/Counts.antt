-- Counting the homes of each bucket.
use Rattle.std.proofs.Common.{◌≡◌, ◌≢◌, ◌⊎◌, inl, inr, ⊎_elim, subst, ℕ, suc, ◌+◌, ◌-◌, ◌/◌, ◌^◌, ◌<◌, ◌≤◌, cond, List, [], ◌∷◌, length, get_or, set, refl, sym, ap, ◌∙◌, arith, get_or-set_same, get_or-set_other}
use Rattle.std.specs.Prelude.{nat_eq}
use Rattle.std.specs.Map.{keys_of}
use Rattle.std.proofs.Math.ListN.{length-set}
use Rattle.std.proofs.lemmas.Bool.{cases_eq}
use Rattle.std.proofs.lemmas.Bool.Decides.{nat_tests}
use Rattle.std.proofs.lemmas.List.Sums.{sum_by-cons, count_by-le-length}
use Rattle.std.proofs.lemmas.List.{get_or_read}
use Rattle.fkv_room.specs.Counted.{AreCounts}
use Rattle.fkv_entries.specs.Room.{needed}
use Rattle.fkv_room.specs.Room.{in_bucket, taken}
use Rattle.fkv_room.proofs.Shown.{taken_more}

-- each bucket's count and what is left of it make up all
pub record AreCounting (bits : ℕ) (all left counts : List ℕ) : Type 0 where
  pub each_bucket : length counts ≡ 2 ^ bits
  pub counted : (b : ℕ) → b < 2 ^ bits → get_or counts b 0 + in_bucket left b ≡ in_bucket all b

-- what is left once an entry of the map is taken
pub left_with : (es rest : List (ℕ × ℕ)) (h a : ℕ) → es ≡ (h, a) ∷ rest → keys_of es ≡ h ∷ keys_of rest
left_with es rest h a is = ap keys_of is

-- one more at a place than before, and elsewhere the same
abbrev IsOneMoreAt : ℕ → ℕ → ℕ → ℕ → Type 0
IsOneMoreAt place b before after = ((place ≡ b) × (after ≡ before + 1)) ⊎ ((place ≢ b) × (after ≡ before))

-- a home adds one to its bucket, and nothing to another
one_more : (h : ℕ) (left : List ℕ) (b : ℕ) → IsOneMoreAt (h / 2 ^ 15) b (in_bucket left b) (in_bucket (h ∷ left) b)
one_more h left b = ⊎_elim
    (λ same. inl (same, sum_by-cons one h left ∙ (let e : one h ≡ 1 = grind (arith, nat_tests, same) in omega (arith, e))))
    (λ off. inr (off, sum_by-cons one h left ∙ (let e : one h ≡ 0 = grind (arith, nat_tests, off) in omega (arith, e))))
    (cases_eq (h / 2 ^ 15) b)
  where
    one : ℕ → ℕ
    one n = cond (nat_eq (n / 2 ^ 15) b) 1 0

-- one more at a place of a list, and all others as they were
bumped : (counts : List ℕ) (k b : ℕ) → k < length counts → IsOneMoreAt k b (get_or counts b 0) (get_or (set counts k (get_or counts k 0 + 1)) b 0)
bumped counts k b low = ⊎_elim
    (λ same. inl (same, subst (λ (n : ℕ). get_or (set counts k (get_or counts k 0 + 1)) n 0 ≡ get_or counts n 0 + 1) same (get_or-set_same counts k (get_or counts k 0 + 1) 0 low)))
    (λ off. inr (off, get_or-set_other counts k b (get_or counts k 0 + 1) 0 (λ is. off (sym is))))
    (cases_eq k b)

module _ (bits : ℕ) (all left counts : List ℕ) (h : ℕ) (so_far : AreCounting bits all (h ∷ left) counts) where
  -- a home beyond the index is in no bucket
  pub count_out : length counts ≤ h / 2 ^ 15 → AreCounting bits all left counts
  count_out out = record { each_bucket = so_far.each_bucket; counted = λ b low. at b low (one_more h left b) }
    where
      at : (b : ℕ) → b < 2 ^ bits → IsOneMoreAt (h / 2 ^ 15) b (in_bucket left b) (in_bucket (h ∷ left) b) → get_or counts b 0 + in_bucket left b ≡ in_bucket all b
      at b low (inl same) = absurd (omega (arith, same.0, low, out, so_far.each_bucket))
      at b low (inr off) = omega (arith, off.1, so_far.counted b low)

  module _ (low : h / 2 ^ 15 < length counts) (x : ℕ) (read : x ≡ get_or counts (h / 2 ^ 15) x) where
    is : x ≡ get_or counts (h / 2 ^ 15) 0
    is = get_or_read counts (h / 2 ^ 15) x low read 0

    pub count_few : x ≤ length all
    count_few = omega (arith, is, so_far.counted (h / 2 ^ 15) (omega (arith, low, so_far.each_bucket)), count_by-le-length (λ n. nat_eq (n / 2 ^ 15) (h / 2 ^ 15)) all)

    pub count_in : AreCounting bits all left (set counts (h / 2 ^ 15) (x + 1))
    count_in = subst (λ (n : ℕ). AreCounting bits all left (set counts (h / 2 ^ 15) (n + 1))) (sym is) (record {
      each_bucket = length-set counts (h / 2 ^ 15) (get_or counts (h / 2 ^ 15) 0 + 1) ∙ so_far.each_bucket;
      counted = λ b below. at b below (one_more h left b) (bumped counts (h / 2 ^ 15) b low);
    })
      where
        at : (b : ℕ) → b < 2 ^ bits → IsOneMoreAt (h / 2 ^ 15) b (in_bucket left b) (in_bucket (h ∷ left) b)
            → IsOneMoreAt (h / 2 ^ 15) b (get_or counts b 0) (get_or (set counts (h / 2 ^ 15) (get_or counts (h / 2 ^ 15) 0 + 1)) b 0)
            → get_or (set counts (h / 2 ^ 15) (get_or counts (h / 2 ^ 15) 0 + 1)) b 0 + in_bucket left b ≡ in_bucket all b
        at b below (inl more) (inl up) = omega (arith, more.1, up.1, so_far.counted b below)
        at b below (inr none) (inr still) = omega (arith, none.1, still.1, so_far.counted b below)
        at b below (inl more) (inr still) = absurd (still.0 more.0)
        at b below (inr none) (inl up) = absurd (none.0 up.0)

-- where nothing is left, all are counted
pub all_counted : (bits : ℕ) (all left counts : List ℕ) → AreCounting bits all left counts → left ≡ [] → (b : ℕ) → b < 2 ^ bits → get_or counts b 0 ≡ in_bucket all b
all_counted bits all left counts so_far none b low =
    let none_left : in_bucket left b ≡ 0 = ap (λ hs. in_bucket hs b) none in
    omega (arith, so_far.counted b low, none_left)

-- what was read of the counts
pub read_count : (bits : ℕ) (homes counts : List ℕ) (b x : ℕ) → AreCounts bits homes counts → b < length counts → x ≡ get_or counts b x → x ≡ in_bucket homes b
read_count bits homes counts b x are low read = get_or_read counts b x low read 0 ∙ are.counted b (omega (arith, low, are.each_bucket))

pub count_small : (bits : ℕ) (homes counts : List ℕ) (b x : ℕ) → AreCounts bits homes counts → b < length counts → x ≡ get_or counts b x → x < 2 ^ 63
count_small bits homes counts b x are low read =
    omega (arith, read_count bits homes counts b x are low read, count_by-le-length (λ n. nat_eq (n / 2 ^ 15) b) homes, are.few)

-- where the buckets up to one take more than there are, so do all
pub more_than : (homes : List ℕ) (b n most : ℕ) → b < n → most < taken homes b + needed (in_bucket homes b) → taken homes n ≤ most → ⊥
more_than homes b n most low more enough =
    let up : suc b + (n - suc b) ≡ n = omega (arith, low) in
    let rises : taken homes (suc b) ≤ taken homes n = subst (λ (k : ℕ). taken homes (suc b) ≤ taken homes k) up (taken_more homes (suc b) (n - suc b)) in
    let step : taken homes (suc b) ≡ taken homes b + needed (in_bucket homes b) = refl in
    omega (arith, step, rises, more, enough)
