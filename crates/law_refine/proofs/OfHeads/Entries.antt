-- The word of an entry, the address that it leads to, and the number of its home.
use Rattle.std.proofs.Common.{◌≡◌, ◌≢◌, ◌⊎◌, inl, inr, ℕ, ◌+◌, ◌*◌, ◌^◌, ◌<◌, Bool, true, false, List, [], ◌∷◌, refl, sym, ap, ◌∙◌, arith}
use Rattle.std.specs.Prelude.{◌==◌, ◌&&◌, not, if◌then◌else◌}
use Rattle.std.proofs.lemmas.Bool.Decides.{nat_tests}
use Rattle.fkv_index.specs.declared.homes.Home.{Home}
use Rattle.fkv_index.specs.Buckets.{bucket_words}
use Rattle.fkv_index.specs.Entries.{entry_in, entry_at, order_of}
use Rattle.fkv_index.specs.Slots.{entry_addr, entry_tag}
use Rattle.law_log.specs.Ghosts.{Log}
use Rattle.fkv_index.specs.OneEntry.{IsHome}
use Rattle.fkv_index.specs.IndexWorld.{index_run, new_entry}
use Rattle.law_world.specs.Below.fkv_world.Runs.{World}
use Rattle.law_world.specs.Below.fkv_world.World.{Now}
use Rattle.law_refine.specs.Index.IndexEvents.{mapped}
use Rattle.law_refine.specs.Index.LifeEntries.{lists_seen}
use Rattle.law_refine.specs.Events.GhostEvents.{home_number}
use Rattle.law_refine.specs.Heads.Heads.{entry_to, head_at, LeadToHeads}

-- a word is none, or an entry of this tag
abbrev pub IsTagged : ℕ → ℕ → Type 0
IsTagged tag word = (word ≡ 0) ⊎ (entry_tag word ≡ tag)

both_second : (b c : Bool) → (b && c) ≡ true → c ≡ true
both_second true c e = e
both_second false c e = cc

found_tagged : (tag : ℕ) (words : List ℕ) → IsTagged tag (entry_in tag words)
unfolding entry_in
found_tagged tag [] = inl refl
found_tagged tag (word ∷ rest) = by_test (not (word == 0) && entry_tag word == tag) refl (found_tagged tag rest)
  where
    by_test : (c : Bool) → (not (word == 0) && entry_tag word == tag) ≡ c → IsTagged tag (entry_in tag rest) → IsTagged tag (if c then word else entry_in tag rest)
    by_test true is its =
        let same : (entry_tag word == tag) ≡ true = both_second (not (word == 0)) (entry_tag word == tag) is in
        let its_tag : entry_tag word ≡ tag = grind (arith, nat_tests, same) in
        inr its_tag
    by_test false is its = its

-- the entry of a home has its tag
pub entry_tagged : (n : Now) (lists : ℕ → List ℕ) (its_home : Home) → IsTagged its_home.tag (entry_at n.places n.words lists its_home)
entry_tagged n lists its_home = found_tagged its_home.tag (order_of n.places.buckets (bucket_words n.places n.words) its_home.bucket (lists its_home.bucket))

pub entry_none : (addr tag : ℕ) → addr ≡ 0 → entry_to addr tag ≡ 0
entry_none addr tag none = rw none refl

pub entry_some : (addr tag : ℕ) → 0 < addr → entry_to addr tag ≡ new_entry addr tag
entry_some addr tag some = let off : (addr == 0) ≡ false = grind (arith, nat_tests) in rw off refl

-- an entry leads to its address
none_addr : (word : ℕ) → word ≡ 0 → entry_addr word ≡ 0
none_addr word none = rw none refl

some_addr : (addr tag word : ℕ) → word ≡ addr + tag * 2 ^ 48 → entry_tag word ≡ tag → entry_addr word ≡ addr
some_addr addr tag word is its_tag = omega (arith, is, its_tag)

pub leads_addr : (addr tag word : ℕ) → word ≡ entry_to addr tag → IsTagged tag word → entry_addr word ≡ addr
leads_addr addr tag word leads its = by_test (addr == 0) refl leads its
  where
    by_test : (c : Bool) → (addr == 0) ≡ c → word ≡ (if c then 0 else new_entry addr tag) → IsTagged tag word → entry_addr word ≡ addr
    by_test true none is tagged = let zero : addr ≡ 0 = grind (arith, nat_tests, none) in none_addr word is ∙ sym zero
    by_test false some is (inr same) = some_addr addr tag word is same
    by_test false some is (inl zero) =
        let other : addr ≢ 0 = grind (arith, nat_tests, some) in
        absurd (other (omega (arith, zero, is)))

-- so does the entry of a home, where the entries lead to the heads
pub head_addr : (n : Now) (lists : ℕ → List ℕ) (log : Log) (its_home : Home) → LeadToHeads n lists log → IsHome n.places its_home → entry_addr (entry_at n.places n.words lists its_home) ≡ head_at log its_home
head_addr n lists log its_home leads there = leads_addr (head_at log its_home) its_home.tag (entry_at n.places n.words lists its_home) (leads its_home there) (entry_tagged n lists its_home)

-- ---- a home's number tells it
home_of_pair : ℕ × ℕ → Home
home_of_pair p = record { bucket = p.0; tag = p.1 }

pub same_home : (one other : Home) → one.tag < 2 ^ 15 → other.tag < 2 ^ 15 → home_number one ≡ home_number other → one ≡ other
unfolding home_of_pair
same_home one other fits small is =
    let bucket : one.bucket ≡ other.bucket = omega (arith, fits, small, is) in
    let its_tag : one.tag ≡ other.tag = omega (arith, is, bucket) in
    let both : ◌≡◌ {A = ℕ × ℕ} (one.bucket, one.tag) (other.bucket, other.tag) = cc in
    ap home_of_pair both

-- as a life begins the lists are those of its opening
pub lists_first : (opening : World) (lists : ℕ → List ℕ) → lists_seen opening lists [] ≡ lists
unfolding mapped index_run
lists_first opening lists = refl
