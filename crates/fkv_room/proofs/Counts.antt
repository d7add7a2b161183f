-- Counting the homes of each bucket.
use Rattle.std.proofs.Common.{◌≡◌, ◌≢◌, ◌⊎◌, ⊎_elim, ℕ, ◌+◌, ◌/◌, ◌^◌, ◌<◌, ◌≤◌, true, false, cond, List, [], ◌∷◌, length, get_or, set, sym, ap, ◌∙◌, arith, get_or-set_same, get_or-set_other}
use Rattle.std.specs.Prelude.{nat_eq}
use Rattle.std.proofs.Math.ListN.{length-set}
use Rattle.std.proofs.lemmas.Bool.{cases_eq}
use Rattle.std.proofs.lemmas.Bool.Decides.{nat_tests}
use Rattle.std.proofs.lemmas.List.Sums.{sum_by-cons, count_by-le-length}
use Rattle.std.proofs.lemmas.List.{get_or_read}
use Rattle.fkv_scan.specs.declared.home_scans.HomeScan.{HomeScan}
use Rattle.fkv_room.specs.Counted.{has_entry, homes_of, AreCounts}
use Rattle.fkv_room.specs.Room.{in_bucket}

-- what is counted so far and what is left make up all
pub record AreCounting (bits : ℕ) (all left counts : List ℕ) : Type 0 where
  pub each_bucket : length counts ≡ 2 ^ bits
  pub counted : (b : ℕ) → b < 2 ^ bits → get_or counts b 0 + in_bucket left b ≡ in_bucket all b

one_more : (h : ℕ) (left : List ℕ) (b : ℕ) → in_bucket (h ∷ left) b ≡ cond (nat_eq (h / 2 ^ 15) b) 1 0 + in_bucket left b
one_more h left b = sum_by-cons (λ n. cond (nat_eq (n / 2 ^ 15) b) 1 0) h left

mark_same : (a b : ℕ) → a ≡ b → ◌≡◌ {A = ℕ} (cond (nat_eq a b) 1 0) 1
mark_same a b same = grind (arith, nat_tests)

mark_other : (a b : ℕ) → a ≢ b → ◌≡◌ {A = ℕ} (cond (nat_eq a b) 1 0) 0
mark_other a b other = grind (arith, nat_tests)

equal_or_not : (a b : ℕ) → (a ≡ b) ⊎ (a ≢ b)
equal_or_not a b = cases_eq a b

-- what is left once an entry of the map is taken
pub left_with : (es rest : List (ℕ × HomeScan)) (h : ℕ) (s : HomeScan) → es ≡ (h, s) ∷ rest → has_entry s ≡ true → homes_of es ≡ h ∷ homes_of rest
left_with es rest h s is has = ap homes_of is ∙ ap (λ b. cond b (h ∷ homes_of rest) (homes_of rest)) has

pub left_without : (es rest : List (ℕ × HomeScan)) (h : ℕ) (s : HomeScan) → es ≡ (h, s) ∷ rest → has_entry s ≡ false → homes_of es ≡ homes_of rest
left_without es rest h s is has = ap homes_of is ∙ ap (λ b. cond b (h ∷ homes_of rest) (homes_of rest)) has

module _ (bits : ℕ) (all left counts : List ℕ) (h bucket : ℕ) (so_far : AreCounting bits all (h ∷ left) counts) (there : bucket ≡ h / 2 ^ 15) where
  -- a home beyond the index is in no bucket
  pub count_out : length counts ≤ bucket → AreCounting bits all left counts
  count_out out = record {
    each_bucket = so_far.each_bucket;
    counted = λ b low.
        let off : h / 2 ^ 15 ≢ b = (λ same. omega (arith, same, low, out, there, so_far.each_bucket)) in
        omega (arith, mark_other (h / 2 ^ 15) b off, one_more h left b, so_far.counted b low);
  }

  pub count_few : bucket < length counts → (x : ℕ) → x ≡ get_or counts bucket x → x ≤ length all
  count_few low x read =
      let is : x ≡ get_or counts bucket 0 = get_or_read counts bucket x low read 0 in
      let within : bucket < 2 ^ bits = omega (arith, low, so_far.each_bucket) in
      omega (arith, is, so_far.counted bucket within, count_by-le-length (λ n. nat_eq (n / 2 ^ 15) bucket) all)

  pub count_in : bucket < length counts → (x : ℕ) → x ≡ get_or counts bucket x → AreCounting bits all left (set counts bucket (x + 1))
  count_in low x read = record {
    each_bucket = length-set counts bucket (x + 1) ∙ so_far.each_bucket;
    counted = λ b within. ⊎_elim (same b within) (other b within) (equal_or_not b bucket);
  }
    where
      is : x ≡ get_or counts bucket 0
      is = get_or_read counts bucket x low read 0

      same : (b : ℕ) → b < 2 ^ bits → b ≡ bucket → get_or (set counts bucket (x + 1)) b 0 + in_bucket left b ≡ in_bucket all b
      same b within this =
          let value : get_or (set counts bucket (x + 1)) b 0 ≡ x + 1 = ap (λ k. get_or (set counts bucket (x + 1)) k 0) this ∙ get_or-set_same counts bucket (x + 1) 0 low in
          let old : get_or counts b 0 ≡ x = ap (λ k. get_or counts k 0) this ∙ sym is in
          omega (arith, value, old, mark_same (h / 2 ^ 15) b (sym there ∙ sym this), one_more h left b, so_far.counted b within)

      other : (b : ℕ) → b < 2 ^ bits → b ≢ bucket → get_or (set counts bucket (x + 1)) b 0 + in_bucket left b ≡ in_bucket all b
      other b within off =
          let value : get_or (set counts bucket (x + 1)) b 0 ≡ get_or counts b 0 = get_or-set_other counts bucket b (x + 1) 0 off in
          let apart : h / 2 ^ 15 ≢ b = (λ same. off (sym same ∙ sym there)) in
          omega (arith, value, mark_other (h / 2 ^ 15) b apart, one_more h left b, so_far.counted b within)

-- where nothing is left, all are counted
pub all_counted : (bits : ℕ) (all left counts : List ℕ) → AreCounting bits all left counts → left ≡ [] → (b : ℕ) → b < 2 ^ bits → get_or counts b 0 ≡ in_bucket all b
all_counted bits all left counts so_far none b low =
    let none_left : in_bucket left b ≡ 0 = ap (λ hs. in_bucket hs b) none in
    omega (arith, so_far.counted b low, none_left)

-- what was read of the counts
pub read_count : (bits : ℕ) (homes counts : List ℕ) (b x : ℕ) → AreCounts bits homes counts → b < length counts → x ≡ get_or counts b x → x ≡ in_bucket homes b
read_count bits homes counts b x are low read = get_or_read counts b x low read 0 ∙ are.counted b (omega (arith, low, are.each_bucket))

pub count_small : (bits : ℕ) (homes counts : List ℕ) (b x : ℕ) → AreCounts bits homes counts → b < length counts → x ≡ get_or counts b x → x < 2 ^ 63
count_small bits homes counts b x are low read =
    omega (arith, read_count bits homes counts b x are low read, count_by-le-length (λ n. nat_eq (n / 2 ^ 15) b) homes, are.few)
