-- Each home whose chain isn't empty has the slot of its entry: the first in the order of its bucket's slots that has its tag.
use Rattle.std.proofs.Common.{◌≡◌, ◌⊎◌, inl, inr, ℕ, zero, suc, ◌+◌, ◌*◌, ◌/◌, ◌%◌, ◌^◌, ◌<◌, ◌∙◌, List, [], ◌∷◌, ◌++◌, refl, arith, ap, subst, sym, Bool, true, false}
use Rattle.std.specs.Prelude.{◌==◌, ◌&&◌, not, if◌then◌else◌}
use Rattle.std.proofs.lemmas.Bool.Decides.{nat_tests}
use Rattle.fkv_index.specs.declared.homes.Home.{Home}
use Rattle.fkv_index.specs.Buckets.{IsMember, bucket_words, overflow_bucket}
use Rattle.fkv_index.specs.Entries.{entry_in, order_of, slots_from}
use Rattle.fkv_index.specs.OneEntry.{IsHome, IsIndex, ListedAt, Nobody, Owner, SpareOf}
use Rattle.fkv_index.specs.Slots.{bucket_slots, entry_addr, entry_tag, home_of}
use Rattle.fkv_index.proofs.Shown.{homes_are_there, listed_taken}
use Rattle.fkv_plane.specs.declared.places.Places.{Places}
use Rattle.law_commit.specs.Below.fkv_world.World.{Now}
use Rattle.law_opening.specs.Changes.Linked.{ChainsFall, IsFalling}
use Rattle.law_log.specs.Chains.{head_of}
use Rattle.law_log.specs.Ghosts.{Log}
use Rattle.law_log.specs.Trace.{IsIn}
use Rattle.law_opening.specs.Below.fkv_scan.Log as scan
use Rattle.law_commit.specs.Below.law_paper.Paper.Slots.{HasSlots, IsSlotOf, Slot}
use Rattle.law_commit.specs.Below.law_refine.Events.GhostEvents.{home_in, home_number}
use Rattle.law_commit.specs.Below.law_refine.Heads.Heads.{LeadToHeads, head_at}
use Rattle.law_commit.proofs.Below.law_refine.OfHeads.Entries.{head_addr}

-- ---- in seven slots
-- where the first entry of the tag stands
place_in : ℕ → List ℕ → ℕ
place_in tag [] = 0
place_in tag (word ∷ rest) = if not (word == 0) && entry_tag word == tag then 0 else suc (place_in tag rest)

-- an entry of the tag stands in the bucket, in one of so many slots from this one on
record HasTag (g : ℕ → ℕ → ℕ) (bucket tag first count place : ℕ) : Type 0 where
  low : place < count
  some : g bucket (first + place) ≡ 0 → ⊥
  tagged : entry_tag (g bucket (first + place)) ≡ tag

one_or : (a b : Bool) → (a && b) ≡ true → (a ≡ true) × (b ≡ true)
one_or true true e = (refl, refl)
one_or true false e = cc
one_or false b e = cc

not_none : (word : ℕ) → not (word == 0) ≡ true → word ≡ 0 → ⊥
not_none word some none = by_test (word == 0) refl some
  where
    by_test : (c : Bool) → (word == 0) ≡ c → not c ≡ true → ⊥
    by_test true e is = cc
    by_test false e is = let clash : (word == 0) ≡ true = grind (arith, nat_tests, none) in let both : true ≡ false = sym clash ∙ e in cc

same_tag : (word tag : ℕ) → (entry_tag word == tag) ≡ true → entry_tag word ≡ tag
same_tag word tag e = grind (arith, nat_tests, e)

found_from : (g : ℕ → ℕ → ℕ) (bucket tag first count : ℕ) → (entry_in tag (slots_from g bucket first count) ≡ 0 → ⊥) → HasTag g bucket tag first count (place_in tag (slots_from g bucket first count))
unfolding slots_from entry_in place_in
found_from g bucket tag first zero some = absurd (some refl)
found_from g bucket tag first (suc count) some =
    by_test (not (g bucket first == 0) && entry_tag (g bucket first) == tag) refl some (found_from g bucket tag (first + 1) count)
  where
    rest : List ℕ
    rest = slots_from g bucket (first + 1) count

    by_test : (c : Bool) → (not (g bucket first == 0) && entry_tag (g bucket first) == tag) ≡ c → ((if c then g bucket first else entry_in tag rest) ≡ 0 → ⊥) → ((entry_in tag rest ≡ 0 → ⊥) → HasTag g bucket tag (first + 1) count (place_in tag rest))
        → HasTag g bucket tag first (suc count) (if c then 0 else suc (place_in tag rest))
    by_test true e found more =
        let both = one_or (not (g bucket first == 0)) (entry_tag (g bucket first) == tag) e in
        let here : first + 0 ≡ first = omega arith in
        record {
          low = omega arith;
          some = λ none. not_none (g bucket first) both.0 (subst (λ (i : ℕ). g bucket i ≡ 0) here none);
          tagged = subst (λ (i : ℕ). entry_tag (g bucket i) ≡ tag) (sym here) (same_tag (g bucket first) tag both.1);
        }
    by_test false e found more =
        let its = more found in
        let low = its.low in
        let next : (first + 1) + place_in tag rest ≡ first + suc (place_in tag rest) = omega arith in
        record {
          low = omega (arith, low);
          some = λ none. its.some (subst (λ (i : ℕ). g bucket i ≡ 0) (sym next) none);
          tagged = subst (λ (i : ℕ). entry_tag (g bucket i) ≡ tag) next its.tagged;
        }

-- ---- in a bucket and those that follow it
entry_behind : (tag : ℕ) (words more : List ℕ) → entry_in tag words ≡ 0 → entry_in tag (words ++ more) ≡ entry_in tag more
unfolding entry_in
entry_behind tag [] more none = refl
entry_behind tag (word ∷ rest) more none = by_test (not (word == 0) && entry_tag word == tag) refl none (entry_behind tag rest more)
  where
    by_test : (c : Bool) → (not (word == 0) && entry_tag word == tag) ≡ c → (if c then word else entry_in tag rest) ≡ 0 → (entry_in tag rest ≡ 0 → entry_in tag (rest ++ more) ≡ entry_in tag more)
        → (if c then word else entry_in tag (rest ++ more)) ≡ entry_in tag more
    by_test true e is behind = absurd (not_none word (one_or (not (word == 0)) (entry_tag word == tag) e).0 is)
    by_test false e is behind = behind is

slot_in : ℕ → (ℕ → ℕ → ℕ) → ℕ → ℕ → ℕ → List ℕ → Slot
slot_in buckets g tag part bucket [] = record { part = part; place = place_in tag (slots_from g bucket 0 bucket_slots) }
slot_in buckets g tag part bucket (number ∷ rest) =
    if entry_in tag (slots_from g bucket 0 bucket_slots) == 0 then slot_in buckets g tag number (overflow_bucket buckets number) rest else record { part = part; place = place_in tag (slots_from g bucket 0 bucket_slots) }

-- a part of the list is the bucket itself, or an overflow bucket of the list
IsPartOf : ℕ → ℕ → ℕ → List ℕ → ℕ → ℕ → Type 0
IsPartOf buckets part bucket list its m = ((its ≡ part) × (m ≡ bucket)) ⊎ (IsMember its list × (m ≡ overflow_bucket buckets its))

record IsFoundAt (buckets : ℕ) (g : ℕ → ℕ → ℕ) (tag part bucket : ℕ) (list : List ℕ) (slot : Slot) : Type 0 where
  its_bucket : ℕ
  among : IsPartOf buckets part bucket list slot.part its_bucket
  low : slot.place < bucket_slots
  tagged : entry_tag (g its_bucket slot.place) ≡ tag

here_found : (buckets : ℕ) (g : ℕ → ℕ → ℕ) (tag part bucket : ℕ) (list : List ℕ) → (entry_in tag (slots_from g bucket 0 bucket_slots) ≡ 0 → ⊥)
    → IsFoundAt buckets g tag part bucket list (record { part = part; place = place_in tag (slots_from g bucket 0 bucket_slots) })
unfolding IsPartOf
here_found buckets g tag part bucket list some =
    let its = found_from g bucket tag 0 bucket_slots some in
    let place : 0 + place_in tag (slots_from g bucket 0 bucket_slots) ≡ place_in tag (slots_from g bucket 0 bucket_slots) = omega arith in
    record { its_bucket = bucket; among = inl (refl, refl); low = its.low; tagged = subst (λ (i : ℕ). entry_tag (g bucket i) ≡ tag) place its.tagged }

more_found : (buckets : ℕ) (g : ℕ → ℕ → ℕ) (tag part bucket number : ℕ) (rest : List ℕ) (slot : Slot) → IsFoundAt buckets g tag number (overflow_bucket buckets number) rest slot → IsFoundAt buckets g tag part bucket (number ∷ rest) slot
unfolding IsPartOf
more_found buckets g tag part bucket number rest slot its = record { its_bucket = its.its_bucket; among = inr (member its.among); low = its.low; tagged = its.tagged }
  where
    member : IsPartOf buckets number (overflow_bucket buckets number) rest slot.part its.its_bucket → IsMember slot.part (number ∷ rest) × (its.its_bucket ≡ overflow_bucket buckets slot.part)
    member (inl here) = (inl here.0, here.1 ∙ ap (overflow_bucket buckets) (sym here.0))
    member (inr there) = (inr there.0, there.1)

is_none : (entry : ℕ) (c : Bool) → (entry == 0) ≡ c → c ≡ true → entry ≡ 0
is_none entry c e is = let both : (entry == 0) ≡ true = e ∙ is in grind (arith, nat_tests, both)

is_some : (entry : ℕ) → (entry == 0) ≡ false → entry ≡ 0 → ⊥
is_some entry e none = let clash : (entry == 0) ≡ true = grind (arith, nat_tests, none) in let both : true ≡ false = sym clash ∙ e in cc

found_in : (buckets : ℕ) (g : ℕ → ℕ → ℕ) (tag part bucket : ℕ) (list : List ℕ) → (entry_in tag (order_of buckets g bucket list) ≡ 0 → ⊥) → IsFoundAt buckets g tag part bucket list (slot_in buckets g tag part bucket list)
unfolding order_of slot_in
found_in buckets g tag part bucket [] some = here_found buckets g tag part bucket [] some
found_in buckets g tag part bucket (number ∷ rest) some = by_test (entry_in tag (slots_from g bucket 0 bucket_slots) == 0) refl (found_in buckets g tag number (overflow_bucket buckets number) rest)
  where
    by_test : (c : Bool) → (entry_in tag (slots_from g bucket 0 bucket_slots) == 0) ≡ c
        → ((entry_in tag (order_of buckets g (overflow_bucket buckets number) rest) ≡ 0 → ⊥) → IsFoundAt buckets g tag number (overflow_bucket buckets number) rest (slot_in buckets g tag number (overflow_bucket buckets number) rest))
        → IsFoundAt buckets g tag part bucket (number ∷ rest) (if c then slot_in buckets g tag number (overflow_bucket buckets number) rest else record { part = part; place = place_in tag (slots_from g bucket 0 bucket_slots) })
    by_test true e more =
        let none = is_none (entry_in tag (slots_from g bucket 0 bucket_slots)) true e refl in
        more_found buckets g tag part bucket number rest (slot_in buckets g tag number (overflow_bucket buckets number) rest)
        (more (λ is. some (entry_behind tag (slots_from g bucket 0 bucket_slots) (order_of buckets g (overflow_bucket buckets number) rest) none ∙ is)))
    by_test false e more = here_found buckets g tag part bucket (number ∷ rest) (is_some (entry_in tag (slots_from g bucket 0 bucket_slots)) e)

-- ---- an index in order
listed_bucket : Owner → ℕ
listed_bucket Nobody = 0
listed_bucket (SpareOf actor) = 0
listed_bucket (ListedAt bucket) = bucket

-- a home whose chain isn't empty, by its number
record HomeOf (p : Places) (log : Log) (h : ℕ) : Type 0 where
  home : Home
  there : IsHome p home
  bucket : h / 2 ^ 15 ≡ home.bucket
  tag : h % 2 ^ 15 ≡ home.tag
  number : h ≡ home_number home
  some : head_at log home ≡ 0 → ⊥

head_some : (chain : List ℕ) (a : ℕ) → IsFalling chain → IsIn a chain → head_of chain ≡ 0 → ⊥
head_some [] a falls is_in none = is_in
head_some (b ∷ older) a falls is_in none = let low = falls.0 in omega (arith, low, none)

whole_bucket : (bucket tag : ℕ) → tag < 2 ^ 15 → (bucket * 2 ^ 15 + tag) / 2 ^ 15 ≡ bucket
whole_bucket bucket tag low = omega (arith, low)

whole_tag : (bucket tag : ℕ) → tag < 2 ^ 15 → (bucket * 2 ^ 15 + tag) % 2 ^ 15 ≡ tag
whole_tag bucket tag low = omega (arith, low)

home_there : (p : Places) (bits : ℕ) (log : Log) (h a : ℕ) → p.buckets ≡ 2 ^ bits → ChainsFall (home_in bits) log → IsIn a (log.chains h) → HomeOf p log h
home_there p bits log h a buckets falls is_in =
    let of_home = falls.of_home h a is_in in
    let home : Home = home_of bits (record { 0 = of_home.0 }) in
    let there = homes_are_there p bits (record { 0 = of_home.0 }) buckets in
    let same : home_number home ≡ h = of_home.1 in
    record {
      home = home;
      there = there;
      bucket = ap (λ (x : ℕ). x / 2 ^ 15) (sym same) ∙ whole_bucket home.bucket home.tag there.fits;
      tag = ap (λ (x : ℕ). x % 2 ^ 15) (sym same) ∙ whole_tag home.bucket home.tag there.fits;
      number = sym same;
      some = subst (λ (x : ℕ). head_of (log.chains x) ≡ 0 → ⊥) (sym same) (head_some (log.chains h) a (falls.falls h) is_in);
    }

module _ (n : Now) (lists : ℕ → List ℕ) (spares : ℕ → ℕ) (log : Log) (bits : ℕ) (buckets : n.places.buckets ≡ 2 ^ bits) (its : IsIndex n.places n.words lists spares) (leads : LeadToHeads n lists log) (falls : ChainsFall (home_in bits) log) where
  abbrev p : Places
  p = n.places

  abbrev g : ℕ → ℕ → ℕ
  g = bucket_words p n.words

  slot_at : ℕ → Slot
  slot_at h = slot_in p.buckets g (h % 2 ^ 15) 0 (h / 2 ^ 15) (lists (h / 2 ^ 15))

  follows : ℕ → ℕ
  follows number = listed_bucket (its.owner number)

  -- the slot of a home
  found_at : (h a : ℕ) → IsIn a (log.chains h) → IsFoundAt p.buckets g (h % 2 ^ 15) 0 (h / 2 ^ 15) (lists (h / 2 ^ 15)) (slot_at h)
  unfolding slot_at
  found_at h a is_in =
      let home = home_there p bits log h a buckets falls is_in in
      found_in p.buckets g (h % 2 ^ 15) 0 (h / 2 ^ 15) (lists (h / 2 ^ 15))
      (λ none. home.some
      (sym (head_addr n lists log home.home leads home.there)
      ∙ ap entry_addr (subst (λ (t : ℕ). entry_in t (order_of p.buckets g home.home.bucket (lists home.home.bucket)) ≡ 0) home.tag
      (subst (λ (b : ℕ). entry_in (h % 2 ^ 15) (order_of p.buckets g b (lists b)) ≡ 0) home.bucket none))))

  is_slot : (overflow h a : ℕ) → p.overflow ≡ overflow → IsIn a (log.chains h) → IsSlotOf follows overflow h (slot_at h)
  unfolding IsPartOf follows listed_bucket
  is_slot overflow h a same is_in = by_part found.among
    where
      found : IsFoundAt p.buckets g (h % 2 ^ 15) 0 (h / 2 ^ 15) (lists (h / 2 ^ 15)) (slot_at h)
      found = found_at h a is_in

      by_part : IsPartOf p.buckets 0 (h / 2 ^ 15) (lists (h / 2 ^ 15)) (slot_at h).part found.its_bucket → IsSlotOf follows overflow h (slot_at h)
      by_part (inl here) = let first = here.0 in record { seven = found.low; there = omega (arith, first); its_bucket = λ some. absurd (omega (arith, first, some)) }
      by_part (inr there) =
          let member = there.0 in
          let taken = listed_taken (h / 2 ^ 15) (slot_at h).part its.owned member in
          let most = taken.1 in
          let few = its.few_taken in
          record { seven = found.low; there = omega (arith, most, few, same); its_bucket = λ some. ap listed_bucket (its.owned.listed (h / 2 ^ 15) (slot_at h).part member) }

  -- one slot is that of one bucket of the list
  one_bucket : (bucket part m k : ℕ) → IsPartOf p.buckets 0 bucket (lists bucket) part m → IsPartOf p.buckets 0 bucket (lists bucket) part k → m ≡ k
  unfolding IsPartOf
  one_bucket bucket part m k (inl one) (inl other) = one.1 ∙ sym other.1
  one_bucket bucket part m k (inr one) (inr other) = one.1 ∙ sym other.1
  one_bucket bucket part m k (inl one) (inr other) = let some = (listed_taken bucket part its.owned other.0).0 in let none = one.0 in absurd (omega (arith, some, none))
  one_bucket bucket part m k (inr one) (inl other) = let some = (listed_taken bucket part its.owned one.0).0 in let none = other.0 in absurd (omega (arith, some, none))

  apart_at : (h k a b : ℕ) → IsIn a (log.chains h) → IsIn b (log.chains k) → h / 2 ^ 15 ≡ k / 2 ^ 15 → slot_at h ≡ slot_at k → h ≡ k
  apart_at h k a b is_in also same slots =
      let one = found_at h a is_in in
      let there = found_at k b also in
      let other : IsFoundAt p.buckets g (k % 2 ^ 15) 0 (h / 2 ^ 15) (lists (h / 2 ^ 15)) (slot_at h) =
      subst (λ (s : Slot). IsFoundAt p.buckets g (k % 2 ^ 15) 0 (h / 2 ^ 15) (lists (h / 2 ^ 15)) s) (sym slots) (subst (λ (b : ℕ). IsFoundAt p.buckets g (k % 2 ^ 15) 0 b (lists b) (slot_at k)) (sym same) there) in
      let bucket = one_bucket (h / 2 ^ 15) (slot_at h).part one.its_bucket other.its_bucket one.among other.among in
      let tag : h % 2 ^ 15 ≡ k % 2 ^ 15 = sym one.tagged ∙ (ap (λ (m : ℕ). entry_tag (g m (slot_at h).place)) bucket ∙ other.tagged) in
      omega (arith, same, tag)

  pub has_slots : (image : scan.Log) → p.overflow ≡ image.shape.overflow → HasSlots image log
  has_slots image same = record {
    follows = follows;
    slot = slot_at;
    each = λ h a is_in. is_slot image.shape.overflow h a same is_in;
    apart = λ h k a b is_in also bucket slots. apart_at h k a b is_in also bucket slots;
  }
