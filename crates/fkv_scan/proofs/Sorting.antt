-- A stable sort by homes leaves the records of each home upwards.
use Rattle.std.proofs.Common.{◌≡◌, ℕ, zero, suc, ◌<◌, List, [], ◌∷◌, Bool, true, false, cond, Some, refl, sym, ap, subst, ◌∙◌, arith}
use Rattle.std.specs.Prelude.{slice_get, not, ◌&&◌}
use Rattle.std.specs.Ordering.{nat_cmp, is_lt}
use Rattle.std.specs.declared.cmp.Ordering.TheVariants.{Equal}
use Rattle.std.specs.Cmp.{nat_cmp_is}
use Rattle.std.specs.List.{All, Contains, filter}
use Rattle.std.specs.List.Sorted.{IsPermutation, IsStableByKey, ties}
use Rattle.std.proofs.lemmas.List.Elements.{All-nil, All-cons, All-head, All-tail, All-filter, All-contains, Contains-get_or}
use Rattle.std.proofs.lemmas.List.Sorted.{IsPermutation-sym, Contains-permutation}
use Rattle.std.proofs.lemmas.Option.{slice_get_within, slice_get-get_or, get_or_from_slice_get}
use Rattle.fkv_scan.specs.declared.met_records.MetRecord.{MetRecord}
use Rattle.fkv_scan.specs.Parts.{AreMet, Rise, RiseByHome}
use Rattle.fkv_scan.specs.Log.{Log}
use Rattle.fkv_scan.proofs.Keys.{some_is}

-- what a filter passes still rises
rise_cond : (b : Bool) (m : MetRecord) (ms : List MetRecord) → Rise ms → All (λ (n : MetRecord). m.addr.0 < n.addr.0) ms → Rise (cond b (m ∷ ms) ms)
rise_cond true m ms rise above = (above, rise)
rise_cond false m ms rise above = rise

rise_filter : (p : MetRecord → Bool) (ms : List MetRecord) → Rise ms → Rise (filter p ms)
rise_filter p [] rise = tt
rise_filter p (m ∷ ms) rise = rise_cond (p m) m (filter p ms) (rise_filter p ms rise.1) (All-filter p (λ (n : MetRecord). m.addr.0 < n.addr.0) ms rise.0)

-- what holds of each that a filter passes
passed_cond : (P : MetRecord → Type 0) (p : MetRecord → Bool) (b : Bool) (m : MetRecord) (ms : List MetRecord) → p m ≡ b → All P (cond b (m ∷ filter p ms) (filter p ms)) → (p m ≡ true → P m) × All P (filter p ms)
passed_cond P p true m ms is all = (λ passes. All-head P m (filter p ms) all, All-tail P m (filter p ms) all)
passed_cond P p false m ms is all = (λ passes. (let never : true ≡ false = sym passes ∙ is in absurd (cc)), all)

passed : (P : MetRecord → Type 0) (p : MetRecord → Bool) (ms : List MetRecord) → All P (filter p ms) → All (λ m. p m ≡ true → P m) ms
passed P p [] all = All-nil (λ m. p m ≡ true → P m)
passed P p (m ∷ ms) all = (let its = passed_cond P p (p m) m ms refl all in All-cons (λ n. p n ≡ true → P n) m ms its.0 (passed P p ms its.1))

-- homes that are the same tie
same_ties : (a b : ℕ) → a ≡ b → (not (is_lt (nat_cmp a b)) && not (is_lt (nat_cmp b a))) ≡ true
same_ties a b same =
    let itself : nat_cmp a a ≡ Equal = sym (nat_cmp_is a a Equal refl) in
    ap (λ n. not (is_lt (nat_cmp a n)) && not (is_lt (nat_cmp n a))) (sym same) ∙ ap (λ o. not (is_lt o) && not (is_lt o)) itself

abbrev tie : MetRecord → MetRecord → Bool
tie = ties (λ (m n : MetRecord). is_lt (nat_cmp m.home n.home))

head_of : (p : MetRecord → Bool) (m : MetRecord) (ms : List MetRecord) → p m ≡ true → Rise (filter p (m ∷ ms)) → All (λ (n : MetRecord). m.addr.0 < n.addr.0) (filter p ms)
head_of p m ms passes rise = (subst (λ b. Rise (cond b (m ∷ filter p ms) (filter p ms))) passes rise).0

tail_cond : (b : Bool) (m : MetRecord) (ms : List MetRecord) → Rise (cond b (m ∷ ms) ms) → Rise ms
tail_cond true m ms rise = rise.1
tail_cond false m ms rise = rise

at_head : (m n : MetRecord) (ms : List MetRecord) → slice_get (m ∷ ms) zero ≡ Some n → m ≡ n
at_head m n ms is = some_is m n is

contains_at : (ms : List MetRecord) (i : ℕ) (m : MetRecord) → slice_get ms i ≡ Some m → Contains ms m
contains_at ms i m is = subst (λ n. Contains ms n) (get_or_from_slice_get ms i m m is) (Contains-get_or ms i m (slice_get_within ms i m is))

-- where those of each home rise, apart from the others
rise_apart : (ms : List MetRecord) → ((w : MetRecord) → Rise (filter (tie w) ms)) → RiseByHome ms
rise_apart [] rise i j m n at_i at_j less same = absurd (cc)
rise_apart (o ∷ ms) rise zero zero m n at_i at_j less same = absurd (omega (arith, less))
rise_apart (o ∷ ms) rise zero (suc j) m n at_i at_j less same =
    let is : o ≡ m = at_head o m ms at_i in
    let passes : tie o n ≡ true = same_ties o.home n.home (ap (λ (r : MetRecord). r.home) is ∙ same) in
    let above = All-contains (λ (p : MetRecord). tie o p ≡ true → o.addr.0 < p.addr.0) ms n (passed (λ (p : MetRecord). o.addr.0 < p.addr.0) (tie o) ms (head_of (tie o) o ms (same_ties o.home o.home refl) (rise o))) (contains_at ms j n at_j) in
    let low : o.addr.0 < n.addr.0 = above passes in
    subst (λ (r : MetRecord). r.addr.0 < n.addr.0) is low
rise_apart (o ∷ ms) rise (suc i) zero m n at_i at_j less same = absurd (omega (arith, less))
rise_apart (o ∷ ms) rise (suc i) (suc j) m n at_i at_j less same = rise_apart ms (λ w. tail_cond (tie w o) o (filter (tie w) ms) (rise w)) i j m n at_i at_j (omega (arith, less)) same

pub rise_sorted : (old new : List MetRecord) → Rise old → IsStableByKey (λ (m : MetRecord). m.home) nat_cmp old new → RiseByHome new
rise_sorted old new rise stable = rise_apart new (λ w. subst (λ ms. Rise ms) (sym (stable w)) (rise_filter (tie w) old rise))

-- and they are the same records
moved : (old new : List MetRecord) → IsPermutation old new → (i : ℕ) (m : MetRecord) → slice_get old i ≡ Some m → (j : ℕ) × (slice_get new j ≡ Some m)
moved old new same i m is =
    let there = Contains-permutation old new m same (contains_at old i m is) in
    (there.0, slice_get-get_or new there.0 m there.1 ∙ ap Some there.2)

pub met_sorted : (log : Log) (from to : ℕ) (old new : List MetRecord) → IsPermutation old new → AreMet log from to old → AreMet log from to new
met_sorted log from to old new same mets = record {
  upwards = mets.upwards;
  each = λ i m is. (let was = moved new old (IsPermutation-sym old new same) i m is in mets.each was.0 m was.1);
  all = λ c x on below stands valid.
      let has = mets.all c x on below stands valid in
      let now = moved old new same has.place has.met has.stands in
      record { place = now.0; met = has.met; stands = now.1; address = has.address };
  fit = mets.fit;
}
