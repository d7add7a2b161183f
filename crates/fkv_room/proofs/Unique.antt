-- Two lists that have the same homes, each once, count alike.
use Rattle.std.proofs.Common.{◌-◌, subst, ◌≡◌, ◌≢◌, ⊎_elim, ℕ, zero, suc, ◌+◌, ◌<◌, ◌≤◌, true, false, cond, ◌/◌, ◌^◌, List, [], ◌∷◌, length, refl, sym, ap, ◌∙◌, arith}
use Rattle.std.proofs.lemmas.Bool.{cases_lt}
use Rattle.std.proofs.Math.Nat.{add-zero}
use Rattle.std.proofs.Math.Nat.{add-suc}
use Rattle.std.specs.Prelude.{nat_eq, Contains, AllPairs}
use Rattle.std.specs.List.{sum_by}
use Rattle.std.proofs.lemmas.List.Sums.{sum_by-cons}
use Rattle.std.proofs.lemmas.Bool.Decides.{nat_tests}
use Rattle.fkv_base.specs.declared.faults.Fault.{Fault}
use Rattle.fkv_base.specs.declared.faults.Fault.TheVariants as fault
use Rattle.fkv_base.specs.declared.faults.Damage.TheVariants as damage
use Rattle.fkv_scan.specs.Log.{Log}
use Rattle.fkv_entries.specs.Room.{needed}
use Rattle.fkv_room.specs.Room.{AreHomes, HasRoom, IsFull, IsRoomFault, in_bucket, taken}
use Rattle.fkv_room.proofs.Listing.{in_rest, in_head, in_tail, by_cond}

-- a list without the first x
abbrev drop_first : ℕ → List ℕ → List ℕ
drop_first x [] = []
drop_first x (y ∷ ys) = cond (nat_eq y x) ys (y ∷ drop_first x ys)

same_of : (x y : ℕ) → nat_eq x y ≡ true → x ≡ y
same_of x y e = grind (arith, nat_tests)

other_of : (x y : ℕ) → nat_eq x y ≡ false → x ≢ y
other_of x y e = grind (arith, nat_tests)

sum_drop : (f : ℕ → ℕ) (x : ℕ) (ys : List ℕ) → Contains ys x → f x + sum_by f (drop_first x ys) ≡ sum_by f ys
sum_drop f x [] has = absurd (omega (arith, has.1))
sum_drop f x (y ∷ ys) has = by_cond (λ zs. f x + sum_by f zs ≡ sum_by f (y ∷ ys)) (nat_eq y x) ys (y ∷ drop_first x ys)
    (λ same. ap (λ n. f n + sum_by f ys) (sym (same_of y x same)) ∙ sym (sum_by-cons f y ys))
    (λ other. let in_ys : Contains ys x = ⊎_elim (λ is. absurd (other_of y x other is)) (λ rest. rest) (in_rest y x ys has) in
    let rest = sum_drop f x ys in_ys in
    omega (arith, sum_by-cons f y (drop_first x ys), sum_by-cons f y ys, rest))

in_drop : (x y : ℕ) (ys : List ℕ) → Contains ys y → y ≢ x → Contains (drop_first x ys) y
in_drop x y [] has off = absurd (omega (arith, has.1))
in_drop x y (z ∷ zs) has off = by_cond (λ ws. Contains ws y) (nat_eq z x) zs (z ∷ drop_first x zs)
    (λ same. ⊎_elim (λ is. absurd (off (sym is ∙ same_of z x same))) (λ rest. rest) (in_rest z y zs has))
    (λ other. ⊎_elim (λ is. in_head z y (drop_first x zs) is) (λ rest. in_tail z y (drop_first x zs) (in_drop x y zs rest off)) (in_rest z y zs has))

-- x isn't among what follows it
apart_head : (x : ℕ) (xs : List ℕ) → AllPairs (λ a b. a ≢ b) (x ∷ xs) → (y : ℕ) → Contains xs y → y ≢ x
apart_head x xs apart y has same = apart 0 (suc has.0) y (let p : 0 < suc has.0 = omega arith in p) (let p : suc has.0 < suc (length xs) = omega (arith, has.1) in p) (sym same ∙ sym has.2)

apart_tail : (x : ℕ) (xs : List ℕ) → AllPairs (λ a b. a ≢ b) (x ∷ xs) → AllPairs (λ a b. a ≢ b) xs
apart_tail x xs apart i j d below low = apart (suc i) (suc j) d (let p : suc i < suc j = omega (arith, below) in p) (let p : suc j < suc (length xs) = omega (arith, low) in p)

sum_most : (f : ℕ → ℕ) (xs ys : List ℕ) → AllPairs (λ a b. a ≢ b) xs → ((y : ℕ) → Contains xs y → Contains ys y) → sum_by f xs ≤ sum_by f ys
sum_most f [] ys apart among = omega arith
sum_most f (x ∷ xs) ys apart among =
    let here = sum_drop f x ys (among x (in_head x x xs refl)) in
    let rest = sum_most f xs (drop_first x ys) (apart_tail x xs apart) (λ y has. in_drop x y ys (among y (in_tail x y xs has)) (apart_head x xs apart y has)) in
    omega (arith, sum_by-cons f x xs, here, rest)

module _ (log : Log) (xs ys : List ℕ) (first : AreHomes log xs) (second : AreHomes log ys) where
  pub same_count : (b : ℕ) → in_bucket xs b ≡ in_bucket ys b
  same_count b =
      let f = λ (h : ℕ). cond (nat_eq (h / 2 ^ 15) b) 1 0 in
      let le = sum_most f xs ys first.once (λ h has. (second.all h).1 ((first.all h).0 has)) in
      let ge = sum_most f ys xs second.once (λ h has. (first.all h).1 ((second.all h).0 has)) in
      omega (arith, le, ge)

  pub same_taken : (b : ℕ) → taken xs b ≡ taken ys b
  same_taken zero = refl
  same_taken (suc b) = ap (λ n. n + needed (in_bucket xs b)) (same_taken b) ∙ ap (λ n. taken ys b + needed n) (same_count b)

-- more buckets take no fewer
pub taken_more : (xs : List ℕ) (b n : ℕ) → taken xs b ≤ taken xs (b + n)
taken_more xs b zero = rw add-zero (omega arith)
taken_more xs b (suc n) = rw add-suc (omega (arith, taken_more xs b n))

taken_up : (xs : List ℕ) (b n : ℕ) → b ≤ n → taken xs b ≤ taken xs n
taken_up xs b n most = let here : b + (n - b) ≡ n = omega (arith, most) in subst (λ k. taken xs b ≤ taken xs k) here (taken_more xs b (n - b))

-- where all find room, no bucket finds none
pub no_full : (log : Log) (b : ℕ) → HasRoom log → IsFull log b → ⊥
no_full log b room full =
    let same = same_taken log full.homes room.homes full.are_homes room.are_homes (suc b) in
    let most = taken_up room.homes (suc b) (2 ^ log.shape.bucket_bits) full.in_index in
    omega (arith, full.here, same, most, room.enough)

no_lower : (log : Log) (a b : ℕ) → IsFull log a → IsFull log b → a < b → ⊥
no_lower log a b first second low =
    let same = same_taken log first.homes second.homes first.are_homes second.are_homes (suc a) in
    let most = taken_up second.homes (suc a) b low in
    omega (arith, first.here, same, most, second.before)

-- one bucket alone is the first that finds none
pub one_full : (log : Log) (a b : ℕ) → IsFull log a → IsFull log b → a ≡ b
one_full log a b first second = ⊎_elim
    (λ low. absurd (no_lower log a b first second low))
    (λ up. ⊎_elim (λ low. absurd (no_lower log b a second first low)) (λ down. omega (arith, up, down)) (cases_lt b a))
    (cases_lt a b)

pub no_fault : (log : Log) (fault : Fault) → HasRoom log → IsRoomFault log fault → ⊥
no_fault log (fault.Damaged damage.Full bucket) room full = no_full log bucket room full
no_fault log other room found = absurd (found)
