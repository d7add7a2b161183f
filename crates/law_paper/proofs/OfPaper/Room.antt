-- Where each home of the log has a slot in the live index, the index that recovery fills has room.
use Rattle.std.proofs.Common.{◌≡◌, ◌≢◌, inl, inr, ⊎_elim, ℕ, zero, suc, ◌+◌, ◌*◌, ◌/◌, ◌^◌, ◌<◌, ◌≤◌, Bool, true, false, cond, List, [], ◌∷◌, refl, sym, ap, subst, ◌∙◌, arith}
use Rattle.std.specs.Prelude.{◌&&◌, nat_eq, nat_lt, nat_le, All, AllPairs, Contains}
use Rattle.std.proofs.lemmas.Bool.{cases_eq}
use Rattle.std.proofs.lemmas.Bool.Decides.{nat_tests}
use Rattle.std.proofs.lemmas.List.Elements.{All-cons, All-nil}
use Rattle.std.proofs.lemmas.List.Kept.{AllPairs-cons}
use Rattle.std.proofs.lemmas.List.Sums.{sum_by-cons}
use Rattle.std.proofs.lemmas.Nat.{pow_pos}
use Rattle.fkv_chains.specs.Entries.{IsEntry}
use Rattle.fkv_entries.specs.Room.{needed}
use Rattle.law_log.proofs.Shown.{first_is}
use Rattle.law_log.specs.Chains.{Logged, Unborn, Published, first_such, version_at}
use Rattle.law_log.specs.Ghosts.{Log}
use Rattle.law_log.specs.Trace.{IsIn}
use Rattle.fkv_record.specs.declared.records.Record.{Record}
use Rattle.fkv_room.proofs.Shown.{by_cond, in_rest, in_head, in_tail}
use Rattle.fkv_room.specs.Room.{AreHomes, HasRoom, in_bucket, taken}
use Rattle.fkv_scan.specs.Log as scan
use Rattle.fkv_scan.specs.Log.{record_home}
use Rattle.law_paper.specs.Paper.Slots.{Slot, IsSlotOf, HasSlots}
use Rattle.law_paper.specs.Paper.Values.{CountsAsLog}
use Rattle.law_paper.proofs.OfPaper.Counting.{mark, many, bool_is, both, and_is, most_are, none_are, one_is, many_split, many_join, many_more}
use Rattle.law_paper.proofs.OfPaper.Down.{first_newest}

-- ---- the numbers below one that pass a test, as a list
abbrev listed : (ℕ → Bool) → ℕ → List ℕ
listed p zero = []
listed p (suc n) = cond (p n) (n ∷ listed p n) (listed p n)

listed_is : (p : ℕ → Bool) (n h : ℕ) → Contains (listed p n) h → (h < n) × (p h ≡ true)
listed_is p zero h has = absurd (omega (arith, has.1))
listed_is p (suc n) h has = by_cond (λ hs. Contains hs h → (h < suc n) × (p h ≡ true)) (p n) (n ∷ listed p n) (listed p n)
    (λ passes has. ⊎_elim (λ same. (omega (arith, same), subst (λ (k : ℕ). p k ≡ true) same passes)) (more (listed_is p n h)) (in_rest n h (listed p n) has))
    (λ fails has. more (listed_is p n h) has)
    has
  where
    more : (Contains (listed p n) h → (h < n) × (p h ≡ true)) → Contains (listed p n) h → (h < suc n) × (p h ≡ true)
    more before has = let its = before has in (let low = its.0 in omega (arith, low), its.1)

listed_has : (p : ℕ → Bool) (n h : ℕ) → h < n → p h ≡ true → Contains (listed p n) h
listed_has p zero h low is = absurd (omega (arith, low))
listed_has p (suc n) h low is = by_cond (λ hs. Contains hs h) (p n) (n ∷ listed p n) (listed p n)
    (λ passes. ⊎_elim (λ same. in_head n h (listed p n) (sym same)) (λ other. in_tail n h (listed p n) (listed_has p n h (omega (arith, low, other)) is)) (cases_eq h n))
    (λ fails. ⊎_elim (λ same. absurd (let off : true ≡ false = sym is ∙ ap p same ∙ fails in cc)) (λ other. listed_has p n h (omega (arith, low, other)) is) (cases_eq h n))

listed_below : (p : ℕ → Bool) (n m : ℕ) → n ≤ m → All (λ k. m ≢ k) (listed p n)
listed_below p zero m low = All-nil (λ k. m ≢ k)
listed_below p (suc n) m low = by_cond (All (λ k. m ≢ k)) (p n) (n ∷ listed p n) (listed p n)
    (λ passes. All-cons (λ k. m ≢ k) n (listed p n) (λ same. omega (arith, same, low)) (listed_below p n m (omega (arith, low))))
    (λ fails. listed_below p n m (omega (arith, low)))

listed_once : (p : ℕ → Bool) (n : ℕ) → AllPairs (λ x y. x ≢ y) (listed p n)
listed_once p zero = λ i j d less low. absurd (omega (arith, low))
listed_once p (suc n) = by_cond (AllPairs (λ x y. x ≢ y)) (p n) (n ∷ listed p n) (listed p n)
    (λ passes. AllPairs-cons (λ x y. x ≢ y) n (listed p n) (listed_below p n n (omega arith)) (listed_once p n))
    (λ fails. listed_once p n)

-- how many of them are in a bucket
abbrev in_part : (ℕ → Bool) → ℕ → ℕ → Bool
in_part p b h = p h && nat_eq (h / 2 ^ 15) b

bucket_many : (p : ℕ → Bool) (b n : ℕ) → in_bucket (listed p n) b ≡ many (in_part p b) n
bucket_many p b zero = refl
bucket_many p b (suc n) = by_test (p n) (nat_eq (n / 2 ^ 15) b) (bucket_many p b n) (sum_by-cons (λ k. cond (nat_eq (k / 2 ^ 15) b) 1 0) n (listed p n))
  where
    by_test : (t u : Bool) → in_bucket (listed p n) b ≡ many (in_part p b) n
        → in_bucket (n ∷ listed p n) b ≡ cond u 1 0 + in_bucket (listed p n) b → in_bucket (cond t (n ∷ listed p n) (listed p n)) b ≡ many (in_part p b) n + mark (t && u)
    by_test true true rest one = omega (arith, rest, one)
    by_test true false rest one = omega (arith, rest, one)
    by_test false u rest one = omega (arith, rest)

-- ---- entries
module _ (home : ℕ → ℕ) (image : scan.Log) (g : Log) (paper : CountsAsLog home image g) where
  -- a record is of the versions up to the commit's
  abbrev is_old : Logged → Bool
  is_old logged = nat_le (version_at logged) image.version

  old_yes : (a : ℕ) → version_at (g.cells a) ≤ image.version → is_old (g.cells a) ≡ true
  old_yes a low = grind (arith, nat_tests, low)

  old_is : (a : ℕ) → is_old (g.cells a) ≡ true → version_at (g.cells a) ≤ image.version
  old_is a is = grind (arith, nat_tests, is)

  -- the first such record of a chain, 0 where it has none
  abbrev entry : ℕ → ℕ
  entry h = first_such is_old g.cells (g.chains h)

  -- a home has an entry if that lies at or above the begin
  abbrev has_entry : ℕ → Bool
  has_entry h = nat_lt 0 (entry h) && nat_le image.begin (entry h)

  not_zero : (h a : ℕ) → IsIn a (g.chains h) → a ≢ 0
  not_zero h a has zero_is =
      let its = paper.orderly.chains.in_chain h a has in
      let off : Unborn ≡ Published its.cell = sym paper.orderly.none ∙ ap g.cells (sym zero_is) ∙ its.its in
      absurd (cc)

  entry_in : (h : ℕ) → has_entry h ≡ true → IsIn (entry h) (g.chains h) × (version_at (g.cells (entry h)) ≤ image.version) × (image.begin ≤ entry h)
  entry_in h is =
      let its = both (nat_lt 0 (entry h)) (nat_le image.begin (entry h)) is in
      let there = its.0 in
      let on = its.1 in
      elim (first_is is_old g.cells (g.chains h)) [
        | inl none ↦ absurd (let some : 0 < entry h = grind (arith, nat_tests, there) in omega (arith, some, none))
        | inr some ↦ (some.0, old_is (entry h) some.1, grind (arith, nat_tests, on))
      ]

  is_entry : (h : ℕ) → has_entry h ≡ true → IsEntry image h (entry h)
  is_entry h is =
      let its = entry_in h is in
      record {
        counts = paper.counts h (entry h) its.0 its.1 its.2;
        greatest = λ b y counts. (let there = paper.stands h b y counts in (first_newest is_old g.cells (g.chains h) (paper.orderly.chains.linked h) b there.0 (old_yes b there.1)).1);
      }

  from_entry : (h a : ℕ) → IsEntry image h a → has_entry h ≡ true
  from_entry h a is =
      let there = paper.stands h a is.counts.0 is.counts.1 in
      let first = first_newest is_old g.cells (g.chains h) (paper.orderly.chains.linked h) a there.0 (old_yes a there.1) in
      let some = not_zero h (entry h) first.0 in
      let begun = there.2 in
      let up = first.1 in
      let on : image.begin ≤ entry h = omega (arith, begun, up) in
      and_is (nat_lt 0 (entry h)) (nat_le image.begin (entry h)) (grind (arith, nat_tests, some)) (grind (arith, nat_tests, on))

  -- each home lies in the index
  abbrev last_home : ℕ
  last_home = 2 ^ image.shape.bucket_bits * 2 ^ 15

  home_low : (x : Record) → record_home image.shape.bucket_bits x < last_home
  unfolding record_home
  home_low x = omega (arith, pow_pos image.shape.bucket_bits)

  entry_low : (h a : ℕ) → IsEntry image h a → h < last_home
  entry_low h a is = let low = home_low is.counts.0 in let same = is.counts.1.valid.same in omega (arith, low, same)

  are_homes : AreHomes image (listed has_entry last_home)
  are_homes = record {
    once = listed_once has_entry last_home;
    all = λ h. (
      λ has. (let its = listed_is has_entry last_home h has in (entry h, is_entry h its.1)),
      λ some. listed_has has_entry last_home h (entry_low h some.0 some.1) (from_entry h some.0 some.1),
    );
  }

  -- ---- and their slots
  module _ (slots : HasSlots image g) where
    abbrev overflow : ℕ
    overflow = image.shape.overflow

    -- the slots of a bucket in order, seven to each part
    abbrev position : ℕ → ℕ
    position h = let s = slots.slot h in 7 * s.part + s.place

    abbrev of_bucket : ℕ → ℕ → Bool
    of_bucket b h = in_part has_entry b h

    -- the homes of a bucket with a slot below a position, and with the slot at it
    abbrev below : ℕ → ℕ → ℕ → Bool
    below b m h = of_bucket b h && nat_lt (position h) m

    abbrev there : ℕ → ℕ → ℕ → Bool
    there b m h = of_bucket b h && nat_eq (position h) m

    its_slot : (b h : ℕ) → of_bucket b h ≡ true → IsSlotOf slots.follows overflow h (slots.slot h) × (h / 2 ^ 15 ≡ b)
    its_slot b h is =
        let its = both (has_entry h) (nat_eq (h / 2 ^ 15) b) is in
        let at = its.1 in
        (slots.each h (entry h) (entry_in h its.0).0, grind (arith, nat_tests, at))

    there_is : (b m h : ℕ) → there b m h ≡ true → (of_bucket b h ≡ true) × (position h ≡ m)
    there_is b m h is = let its = both (of_bucket b h) (nat_eq (position h) m) is in let at = its.1 in (its.0, grind (arith, nat_tests, at))

    -- a slot of a bucket is one home's
    same_slot : (s t : Slot) → s.place < 7 → t.place < 7 → 7 * s.part + s.place ≡ 7 * t.part + t.place → s ≡ t
    same_slot s t low less same =
        let part : s.part ≡ t.part = omega (arith, low, less, same) in
        let place : s.place ≡ t.place = omega (arith, low, less, same) in
        ap (λ (n : ℕ). let x : Slot = record { part = n; place = s.place } in x) part ∙ ap (λ (n : ℕ). let x : Slot = record { part = t.part; place = n } in x) place

    one_there : (b m n : ℕ) → many (there b m) n ≤ 1
    one_there b m n = one_is (there b m) n (λ h k first second.
        let h_is = there_is b m h first in
        let k_is = there_is b m k second in
        let h_slot = its_slot b h h_is.0 in
        let k_slot = its_slot b k k_is.0 in
        let h_in = (entry_in h (both (has_entry h) (nat_eq (h / 2 ^ 15) b) h_is.0).0).0 in
        let k_in = (entry_in k (both (has_entry k) (nat_eq (k / 2 ^ 15) b) k_is.0).0).0 in
        slots.apart h k (entry h) (entry k) h_in k_in (h_slot.1 ∙ sym k_slot.1) (same_slot (slots.slot h) (slots.slot k) h_slot.0.seven k_slot.0.seven (h_is.1 ∙ sym k_is.1)))

    one_more : (b m n : ℕ) → many (below b (suc m)) n ≤ many (below b m) n + many (there b m) n
    one_more b m n = many_split (below b (suc m)) (below b m) (there b m) n (λ h is.
        let its = both (of_bucket b h) (nat_lt (position h) (suc m)) is in
        let low = its.1 in
        ⊎_elim
        (λ at. inr (and_is (of_bucket b h) (nat_eq (position h) m) its.0 (grind (arith, nat_tests, at))))
        (λ off. inl (and_is (of_bucket b h) (nat_lt (position h) m) its.0 (grind (arith, nat_tests, off, low))))
        (cases_eq (position h) m))

    -- whether a part that isn't the bucket itself follows it
    abbrev is_next : ℕ → ℕ → Bool
    is_next b i = nat_eq (slots.follows (suc i)) b

    same_below : (b n m k : ℕ) → m ≡ k → many (below b m) n ≡ many (below b k) n
    same_below b n m k same = ap (λ (x : ℕ). many (below b x) n) same

    -- so many positions have no more homes
    in_stretch : (b n m j : ℕ) → many (below b (m + j)) n ≤ many (below b m) n + j
    in_stretch b n m zero = omega (arith, same_below b n (m + 0) m (omega arith))
    in_stretch b n m (suc j) = omega (arith, in_stretch b n m j, same_below b n (m + suc j) (suc (m + j)) (omega arith), one_more b (m + j) n, one_there b (m + j) n)

    -- a part that doesn't follow the bucket has none of its homes
    none_there : (b i j h : ℕ) → is_next b i ≡ false → j < 7 → there b (7 * suc i + j) h ≡ true → ⊥
    none_there b i j h other less is =
        let its = there_is b (7 * suc i + j) h is in
        let slot = its_slot b h its.0 in
        let place = slot.0.seven in
        let at = its.1 in
        let part : (let s = slots.slot h in s.part) ≡ suc i = omega (arith, place, at, less) in
        let follows : slots.follows (suc i) ≡ b = ap slots.follows (sym part) ∙ slot.0.its_bucket (omega (arith, part)) ∙ slot.1 in
        grind (arith, nat_tests, other, follows)

    in_other : (b i n j : ℕ) → is_next b i ≡ false → j ≤ 7 → many (below b (7 * suc i + j)) n ≤ many (below b (7 * suc i)) n
    in_other b i n zero other low = omega (arith, same_below b n (7 * suc i + 0) (7 * suc i) (omega arith))
    in_other b i n (suc j) other low =
        let none = none_are (there b (7 * suc i + j)) n (λ h less is. none_there b i j h other (omega (arith, low)) is) in
        omega (arith, in_other b i n j other (omega (arith, low)), same_below b n (7 * suc i + suc j) (suc (7 * suc i + j)) (omega arith), one_more b (7 * suc i + j) n, none)

    -- up to a part there are seven slots in the bucket, and seven in each part that follows it
    up_to : (b n k : ℕ) → many (below b (7 * suc k)) n ≤ 7 + 7 * many (is_next b) k
    up_to b n zero =
        let none = none_are (below b 0) n (λ h low is. (let before = (both (of_bucket b h) (nat_lt (position h) 0) is).1 in grind (arith, nat_tests, before))) in
        omega (arith, same_below b n (7 * suc 0) (0 + 7) (omega arith), in_stretch b n 0 7, none)
    up_to b n (suc k) =
        let before = up_to b n k in
        let at = same_below b n (7 * suc (suc k)) (7 * suc k + 7) (omega arith) in
        ⊎_elim
        (λ follows. (let one = ap mark follows in omega (arith, before, at, one, in_stretch b n (7 * suc k) 7)))
        (λ other. (let one = ap mark other in omega (arith, before, at, one, in_other b k n 7 other (omega arith))))
        (bool_is (is_next b k))

    -- so each bucket needs no more overflow buckets than follow it
    needs_few : (b : ℕ) → needed (in_bucket (listed has_entry last_home) b) ≤ many (is_next b) overflow
    needs_few b =
        let all = many_more (of_bucket b) (below b (7 * suc overflow)) last_home (λ h is.
        let slot = its_slot b h is in
        let place = slot.0.seven in
        let part = slot.0.there in
        let low : position h < 7 * suc overflow = omega (arith, place, part) in
        and_is (of_bucket b h) (nat_lt (position h) (7 * suc overflow)) is (grind (arith, nat_tests, low))) in
        omega (arith, all, bucket_many has_entry b last_home, up_to b last_home overflow)

    -- and all together no more than follow one of them
    takes_few : (buckets : ℕ) → taken (listed has_entry last_home) buckets ≤ many (λ i. nat_lt (slots.follows (suc i)) buckets) overflow
    takes_few zero = omega arith
    takes_few (suc b) =
        let joined = many_join (λ i. nat_lt (slots.follows (suc i)) (suc b)) (λ i. nat_lt (slots.follows (suc i)) b) (is_next b) overflow
        (λ i is. grind (arith, nat_tests, is)) (λ i is. grind (arith, nat_tests, is)) (λ i first second. grind (arith, nat_tests, first, second)) in
        omega (arith, takes_few b, needs_few b, joined)

    pub has_room : HasRoom image
    has_room = record {
      homes = listed has_entry last_home;
      are_homes = are_homes;
      enough = omega (arith, takes_few (2 ^ image.shape.bucket_bits), most_are (λ i. nat_lt (slots.follows (suc i)) (2 ^ image.shape.bucket_bits)) overflow);
    }
