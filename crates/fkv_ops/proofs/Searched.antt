-- What a search knows at each of its steps, and what it has found at its end.
use Rattle.std.proofs.Common.{◌≡◌, ℕ, ◌+◌, ◌<◌, ◌≤◌, refl, inl, inr, arith, sym, ap, ◌∙◌, subst, Bool, true, false}
use Rattle.std.specs.Prelude.{◌==◌, nat_lt, nat_le, if◌then◌else◌, Option, Some, None, ⊤}
use Rattle.fkv_plane.specs.declared.asks.Ask.{Ask}
use Rattle.fkv_plane.specs.declared.asks.Ask.TheVariants.{Cas, Done}
use Rattle.fkv_plane.specs.declared.places.SharedWord.TheVariants as one
use Rattle.fkv_plane.specs.Places.{shared_place, bucket_place, overflow_place}
use Rattle.fkv_plane.specs.Passing.{passed, is_done}
use Rattle.fkv_index.specs.declared.homes.Home.{Home}
use Rattle.fkv_index.specs.declared.finding.Linking.{Linking}
use Rattle.fkv_index.specs.declared.finding.Linking.TheVariants.{Never, Once, Within, Made}
use Rattle.fkv_index.specs.declared.finding.Found.{Found}
use Rattle.fkv_index.specs.declared.finding.Found.TheVariants.{Slot, NoSlot, Full, Kept, Contended}
use Rattle.fkv_index.specs.declared.finding.FindStep.{FindStep}
use Rattle.fkv_index.specs.declared.finding.FindStep.TheVariants.{AtRest, LoadsSlot, LoadsLink, LoadsTaken, TakesBucket, LinksBucket}
use Rattle.fkv_index.specs.declared.finding.Finding.{Finding}
use Rattle.fkv_index.specs.declared.finding.FindAnswer.{FindAnswer}
use Rattle.fkv_index.specs.declared.finding.Purpose.TheVariants as slot
use Rattle.fkv_index.specs.Slots.{bucket_slots, slot_word, is_entry, entry_tag, link_of}
use Rattle.fkv_index.specs.Finding.{find_step_ask, find_led, slot_led, entered, ended_list, link_led, is_kept, takes_led, taken_led, took_led, linked_led, led_to, led_ask, first_finding, linking_for, spare_of, is_made}
use Rattle.fkv_ops.specs.declared.walking.WalkAnswer.TheVariants as walk
use Rattle.fkv_ops.specs.declared.answers.TryAnswer.TheVariants as answer
use Rattle.fkv_ops.specs.Requests.{is_read, update_within, purpose_at}
use Rattle.fkv_ops.specs.declared.bounds.Bounds.{Bounds}
use Rattle.fkv_ops.specs.Bounds.{bounds_at}
use Rattle.fkv_ops.specs.TryRun.{Trial, home_at, Told}
use Rattle.fkv_ops.specs.Reasons.{Loaded, Won, ComesTo, AtHome, ByLink, ByOwn, HasSlot, HasEntry, HasEnd, IsIndexFull, HasNoEntry, AtLast, AtSpoiled, AreBucketsKept, IsSpoiled, NoSlot as SlotSpoiled, NoBucket, TooMany, IsContended, CountLost, LinkLost, OwnIsFull, NoStore}
use Rattle.fkv_ops.proofs.BoolTests.{lt_true, lt_false, le_true, le_false, eq_true, eq_false, some_where}

abbrev is_never : Linking → Bool
is_never Never = true
is_never linking = false

-- the bound of an update at its call
pub record IsBound (c : Trial) (bound : ℕ) : Type 0 where
  pub update : is_read c.request.op ≡ false
  pub bounds : Bounds
  pub has : bounds_at c.occasion ≡ Some bounds
  pub its : bounds.taken ≡ bound

-- a search that may link a bucket yet
abbrev pub CanLink : Linking → Type 0
CanLink Once = ⊤
CanLink (Within bound) = ⊤
CanLink linking = ⊥

-- the bucket that the search is in, and how many links it may still follow
pub record Stands (c : Trial) (told : Told) (home : Home) (base left : ℕ) (linking : Linking) (spare : ℕ) : Type 0 where
  pub links : ℕ
  pub its_bucket : ComesTo c told links (is_made linking) base
  pub its_home : home ≡ home_at c
  pub counted : left + links ≡ c.places.overflow
  pub few : spare ≤ c.places.overflow
  pub reads : is_never linking ≡ is_read c.request.op
  pub bounded : (bound : ℕ) → linking ≡ Within bound → IsBound c bound

abbrev pub StandsAt : Trial → Told → Finding → Type 0
StandsAt c told f = Stands c told f.home f.base f.links f.linking f.spare

-- the bucket's eighth word leads nowhere, and the search may still link one
pub record MayLink (c : Trial) (told : Told) (base : ℕ) (linking : Linking) (word : ℕ) : Type 0 where
  pub links : CanLink linking
  pub its_word : Loaded told (base + bucket_slots) word
  pub no_link : link_of word ≡ 0

abbrev pub SearchStep : Trial → Told → Finding → FindStep → Type 0
SearchStep c told f AtRest = ⊥
SearchStep c told f (LoadsSlot slot) = slot < bucket_slots
SearchStep c told f LoadsLink = ⊤
SearchStep c told f (LoadsTaken word) = MayLink c told f.base f.linking word
SearchStep c told f (TakesBucket word taken) = MayLink c told f.base f.linking word × (taken < c.places.overflow) × Loaded told (shared_place one.Taken) taken × (f.spare ≡ 0)
SearchStep c told f (LinksBucket word) = MayLink c told f.base f.linking word × (0 < f.spare)

abbrev pub Searches : Trial → Told → Finding → Type 0
Searches c told f = StandsAt c told f × SearchStep c told f f.step

-- what was found
abbrev pub FindsTrue : Trial → Told → Found → Type 0
FindsTrue c told (Slot place word) = HasEntry c told place word
FindsTrue c told NoSlot = (is_read c.request.op ≡ true) × HasEnd c told false
FindsTrue c told Full = IsIndexFull c told
FindsTrue c told Kept = AreBucketsKept c told
FindsTrue c told Contended = IsContended c told × HasNoEntry c told

spoiled : (c : Trial) (told : Told) → IsSpoiled c told → FindsTrue c told Contended
spoiled c told its = (NoStore its, AtSpoiled its)

-- where a reply leads: what is asked then, and where the search stands
abbrev pub Leads : Trial → Told → Ask FindAnswer → Finding → Type 0
Leads c told (Done its) f = FindsTrue c told its.found
Leads c told ask f = Searches c told f

slot_true : (c : Trial) (told : Told) (f : Finding) (slot reply : ℕ) → StandsAt c told f → slot < bucket_slots → Loaded told (f.base + slot) reply
    → Leads c told (led_ask (slot_led f slot reply (slot_word reply))) (led_to (slot_led f slot reply (slot_word reply)))
unfolding slot_word find_step_ask
slot_true c told f slot reply stands few its_word = by_zero (reply == 0) refl
  where
    has : HasSlot c told (f.base + slot) reply
    has = record { links = stands.links; own = is_made f.linking; base = f.base; slot = slot; its_bucket = stands.its_bucket; few = few; its_place = refl; its_word = its_word }

    goes_on : (b : Bool) → nat_lt (slot + 1) bucket_slots ≡ b
        → Leads c told (find_step_ask f (if b then LoadsSlot (slot + 1) else LoadsLink)) (record f { step = if b then LoadsSlot (slot + 1) else LoadsLink })
    goes_on true e = (stands, lt_true (slot + 1) bucket_slots e)
    goes_on false e = (stands, tt)

    by_tag : (b : Bool) → (entry_tag reply == f.home.tag) ≡ b → is_entry reply ≡ true → (reply == 0) ≡ false
        → Leads c told (led_ask (slot_led f slot reply (slot_word reply))) (led_to (slot_led f slot reply (slot_word reply)))
    by_tag true e entry some = rw (some, entry, e) (record { its_slot = has; its_tag = inr (eq_true (entry_tag reply) f.home.tag e ∙ ap (λ h. h.tag) stands.its_home) })
    by_tag false e entry some = rw (some, entry, e) (goes_on (nat_lt (slot + 1) bucket_slots) refl)

    by_entry : (b : Bool) → is_entry reply ≡ b → (reply == 0) ≡ false → Leads c told (led_ask (slot_led f slot reply (slot_word reply))) (led_to (slot_led f slot reply (slot_word reply)))
    by_entry true e some = by_tag (entry_tag reply == f.home.tag) refl e some
    by_entry false e some = rw (some, e) (spoiled c told (SlotSpoiled has (eq_false reply 0 some) e))

    by_zero : (b : Bool) → (reply == 0) ≡ b → Leads c told (led_ask (slot_led f slot reply (slot_word reply))) (led_to (slot_led f slot reply (slot_word reply)))
    by_zero true e = rw e (record { its_slot = subst (HasSlot c told (f.base + slot)) (eq_true reply 0 e) has; its_tag = inl refl })
    by_zero false e = by_entry (is_entry reply) refl e

-- from one bucket on to the next, by a link of either kind
entered_true : (c : Trial) (told : Told) (f : Finding) (links number : ℕ) → f.home ≡ home_at c → (number ≤ c.places.overflow → ComesTo c told (links + 1) (is_made f.linking) (overflow_place c.places number 0)) → f.links + links ≡ c.places.overflow
    → f.spare ≤ c.places.overflow → is_never f.linking ≡ is_read c.request.op → ((bound : ℕ) → f.linking ≡ Within bound → IsBound c bound) → (c.places.overflow < number → FindsTrue c told Contended)
    → Leads c told (led_ask (entered c.places f number)) (led_to (entered c.places f number))
unfolding find_step_ask
entered_true c told f links number home comes counted few reads bounded high = by_links (nat_lt 0 f.links) (nat_le number c.places.overflow) refl refl
  where
    by_links : (a b : Bool) → nat_lt 0 f.links ≡ a → nat_le number c.places.overflow ≡ b → Leads c told (led_ask (entered c.places f number)) (led_to (entered c.places f number))
    by_links true true d e = let some = lt_true 0 f.links d in rw (d, e) (record { links = links + 1; its_bucket = comes (le_true number c.places.overflow e); its_home = home; counted = omega (arith, some, counted); few = few; reads = reads; bounded = bounded }, omega arith)
    by_links true false d e = rw (d, e) (high (le_false number c.places.overflow e))
    by_links false true d e = let none = lt_false 0 f.links d in rw d (spoiled c told (TooMany (comes (le_true number c.places.overflow e)) (omega (arith, none, counted))))
    by_links false false d e = rw d (high (le_false number c.places.overflow e))

link_true : (c : Trial) (told : Told) (f : Finding) (reply : ℕ) → StandsAt c told f → Loaded told (f.base + bucket_slots) reply → Leads c told (led_ask (link_led c.places f reply)) (led_to (link_led c.places f reply))
unfolding find_step_ask
link_true c told f reply stands its_word = by_link (link_of reply == 0) refl
  where
    may : {linking : Linking} → f.linking ≡ linking → CanLink linking → link_of reply ≡ 0 → MayLink c told f.base f.linking reply
    may e can none = record { links = subst CanLink (sym e) can; its_word = its_word; no_link = none }

    links : (b : Bool) → (f.spare == 0) ≡ b → MayLink c told f.base f.linking reply
        → Leads c told (find_step_ask f (if b then LoadsTaken reply else LinksBucket reply)) (record f { step = if b then LoadsTaken reply else LinksBucket reply })
    links true e can = (stands, can)
    links false e can = (stands, (can, some_where f.spare e))

    last : (linking : Linking) → f.linking ≡ linking → link_of reply ≡ 0 → HasEnd c told (is_made linking)
    last linking e none = record { links = stands.links; base = f.base; word = reply; its_bucket = subst (λ b. ComesTo c told stands.links b f.base) (ap is_made e) stands.its_bucket; its_word = its_word; no_link = none }

    ends : (linking : Linking) → f.linking ≡ linking → link_of reply ≡ 0 → Leads c told (led_ask (ended_list f reply linking)) (led_to (ended_list f reply linking))
    ends Never e none = (sym stands.reads ∙ ap is_never e, last Never e none)
    ends Once e none = links (f.spare == 0) refl (may e tt none)
    ends (Within bound) e none = (stands, may e tt none)
    ends Made e none = (OwnIsFull (last Made e none), AtLast (last Made e none))

    by_link : (b : Bool) → (link_of reply == 0) ≡ b → Leads c told (led_ask (link_led c.places f reply)) (led_to (link_led c.places f reply))
    by_link true e = rw e (ends f.linking refl (eq_true (link_of reply) 0 e))
    by_link false e = rw e (entered_true c told f stands.links (link_of reply) stands.its_home (λ few. ByLink reply stands.its_bucket its_word (some_where (link_of reply) e) few) stands.counted stands.few stands.reads stands.bounded (λ high. spoiled c told (NoBucket stands.its_bucket its_word high)))

pub unmade : (linking : Linking) → CanLink linking → is_made linking ≡ false
unmade Never can = refl
unmade Once can = refl
unmade (Within bound) can = refl
unmade Made can = absurd can

-- the bucket where the search may link one is the last
at_last : (c : Trial) (told : Told) (f : Finding) (word : ℕ) → StandsAt c told f → MayLink c told f.base f.linking word → HasEnd c told false
at_last c told f word stands may = record {
  links = stands.links;
  base = f.base;
  word = word;
  its_bucket = subst (λ b. ComesTo c told stands.links b f.base) (unmade f.linking may.links) stands.its_bucket;
  its_word = may.its_word;
  no_link = may.no_link;
}

taken_true : (c : Trial) (told : Told) (f : Finding) (word reply : ℕ) → StandsAt c told f → MayLink c told f.base f.linking word → Loaded told (shared_place one.Taken) reply → Leads c told (led_ask (taken_led c.places f word reply)) (led_to (taken_led c.places f word reply))
unfolding find_step_ask
taken_true c told f word reply stands may its_count = by_linking f.linking refl
  where
    by_count : (b : Bool) → nat_lt reply c.places.overflow ≡ b → f.spare ≡ 0 → Leads c told (led_ask (takes_led c.places f word reply)) (led_to (takes_led c.places f word reply))
    by_count true e none = rw e (stands, (may, lt_true reply c.places.overflow e, its_count, none))
    by_count false e none = rw e (record { ends = at_last c told f word stands may; taken = reply; its_count = its_count; all = lt_false reply c.places.overflow e })

    by_spare : (b : Bool) → (f.spare == 0) ≡ b → is_kept f.linking reply ≡ false → Leads c told (led_ask (taken_led c.places f word reply)) (led_to (taken_led c.places f word reply))
    by_spare true e below = rw (below, e) (by_count (nat_lt reply c.places.overflow) refl (eq_true f.spare 0 e))
    by_spare false e below = rw (below, e) (stands, (may, some_where f.spare e))

    free : is_kept f.linking reply ≡ false → Leads c told (led_ask (taken_led c.places f word reply)) (led_to (taken_led c.places f word reply))
    free e = by_spare (f.spare == 0) refl e

    kept : (bound : ℕ) → IsBound c bound → bound ≤ reply → AreBucketsKept c told
    kept bound its past = record {
      none = AtLast (at_last c told f word stands may);
      past = record { update = its.update; bounds = its.bounds; has = its.has; taken = reply; its_count = its_count; past = let same = its.its in omega (arith, same, past) };
    }

    by_bound : (bound : ℕ) → f.linking ≡ Within bound → (b : Bool) → nat_le bound reply ≡ b → Leads c told (led_ask (taken_led c.places f word reply)) (led_to (taken_led c.places f word reply))
    by_bound bound e true past = rw (e, past) (kept bound (stands.bounded bound e) (le_true bound reply past))
    by_bound bound e false low = free (ap (λ l. is_kept l reply) e ∙ low)

    by_linking : (linking : Linking) → f.linking ≡ linking → Leads c told (led_ask (taken_led c.places f word reply)) (led_to (taken_led c.places f word reply))
    by_linking Never e = free (ap (λ l. is_kept l reply) e)
    by_linking Once e = free (ap (λ l. is_kept l reply) e)
    by_linking (Within bound) e = by_bound bound e (nat_le bound reply) refl
    by_linking Made e = free (ap (λ l. is_kept l reply) e)

took_true : (c : Trial) (told : Told) (f : Finding) (word taken reply : ℕ) → StandsAt c told f → MayLink c told f.base f.linking word → taken < c.places.overflow → Loaded told (shared_place one.Taken) taken → told (Cas (shared_place one.Taken) taken (taken + 1)) reply
    → Leads c told (led_ask (took_led f word taken reply)) (led_to (took_led f word taken reply))
unfolding find_step_ask
took_true c told f word taken reply stands may few its_count its_cas = by_count (reply == taken) refl
  where
    by_count : (b : Bool) → (reply == taken) ≡ b → Leads c told (led_ask (took_led f word taken reply)) (led_to (took_led f word taken reply))
    by_count true e = rw e (record { links = stands.links; its_bucket = stands.its_bucket; its_home = stands.its_home; counted = stands.counted; few = omega (arith, few); reads = stands.reads; bounded = stands.bounded }, (may, omega arith))
    by_count false e = rw e (CountLost taken its_count (record { found = reply; its_cas = its_cas; another = eq_false reply taken e }), AtLast (at_last c told f word stands may))

can_reads : (linking : Linking) → CanLink linking → is_never linking ≡ false
can_reads Never can = absurd can
can_reads Once can = refl
can_reads (Within bound) can = refl
can_reads Made can = absurd can

linked_true : (c : Trial) (told : Told) (f : Finding) (word reply : ℕ) → StandsAt c told f → MayLink c told f.base f.linking word → 0 < f.spare → told (Cas (f.base + bucket_slots) word (word + f.spare)) reply
    → Leads c told (led_ask (linked_led c.places f word reply)) (led_to (linked_led c.places f word reply))
unfolding find_step_ask
linked_true c told f word reply stands may some its_cas = by_word (reply == word) refl
  where
    by_word : (b : Bool) → (reply == word) ≡ b → Leads c told (led_ask (linked_led c.places f word reply)) (led_to (linked_led c.places f word reply))
    by_word true e =
        let won : Won told (f.base + bucket_slots) word (word + f.spare) = subst (told (Cas (f.base + bucket_slots) word (word + f.spare))) (eq_true reply word e) its_cas in
        let few = stands.few in
        rw e (entered_true c told (record f { linking = Made; spare = 0 }) stands.links f.spare stands.its_home (λ there. ByOwn word f.spare stands.its_bucket won some there) stands.counted (omega arith) (sym (can_reads f.linking may.links) ∙ stands.reads) (λ bound e. cc)
        (λ high. absurd (omega (arith, high, few))))
    by_word false e = rw e (LinkLost word f.spare stands.its_bucket stands.few may.its_word (record { found = reply; its_cas = its_cas; another = eq_false reply word e }), AtLast (at_last c told f word stands may))

-- where a reply leads, what is known there is true
pub search_true : (c : Trial) (told : Told) (f : Finding) (step : FindStep) (reply : ℕ) → StandsAt c told f → SearchStep c told f step
    → told (passed (passed (find_step_ask f step) walk.Contended) answer.Shift) reply → Leads c told (led_ask (find_led c.places f step reply)) (led_to (find_led c.places f step reply))
unfolding find_step_ask find_led passed
search_true c told f AtRest reply stands knows its = absurd knows
search_true c told f (LoadsSlot slot) reply stands knows its = slot_true c told f slot reply stands knows its
search_true c told f LoadsLink reply stands knows its = link_true c told f reply stands its
search_true c told f (LoadsTaken word) reply stands knows its = taken_true c told f word reply stands knows its
search_true c told f (TakesBucket word taken) reply stands knows its = took_true c told f word taken reply stands knows.0 knows.1 knows.2 its
search_true c told f (LinksBucket word) reply stands knows its = linked_true c told f word reply stands knows.0 knows.1 its

reads_so : (reads : Bool) (bounds : Option Bounds) → is_never (linking_for (if reads then slot.Read else update_within bounds)) ≡ reads
reads_so true bounds = refl
reads_so false None = refl
reads_so false (Some bounds) = refl

none_made : (reads : Bool) (bounds : Option Bounds) → is_made (linking_for (if reads then slot.Read else update_within bounds)) ≡ false
none_made true bounds = refl
none_made false None = refl
none_made false (Some bounds) = refl

bounded_so : (c : Trial) (reads : Bool) (its : Option Bounds) → is_read c.request.op ≡ reads → bounds_at c.occasion ≡ its → (bound : ℕ) → linking_for (if reads then slot.Read else update_within its) ≡ Within bound → IsBound c bound
bounded_so c true its e f bound g = cc
bounded_so c false None e f bound g = cc
bounded_so c false (Some bounds) e f bound g = record { update = e; bounds = bounds; has = f; its = cc }

pub spare_few : (c : Trial) (spare : ℕ) → spare_of c.places spare ≤ c.places.overflow
spare_few c spare = by_test (nat_le spare c.places.overflow) refl
  where
    by_test : (b : Bool) → nat_le spare c.places.overflow ≡ b → (if b then spare else 0) ≤ c.places.overflow
    by_test true e = le_true spare c.places.overflow e
    by_test false e = omega arith

-- as it begins
pub search_begun : (c : Trial) (told : Told) (spare : ℕ) → Searches c told (first_finding c.places (home_at c) (purpose_at c.occasion c.request.op) spare)
search_begun c told spare = (
  record {
    links = 0;
    its_bucket = subst (λ b. ComesTo c told 0 b (bucket_place c.places (home_at c).bucket 0)) (sym (none_made (is_read c.request.op) (bounds_at c.occasion))) AtHome;
    its_home = refl;
    counted = omega arith;
    few = spare_few c spare;
    reads = reads_so (is_read c.request.op) (bounds_at c.occasion);
    bounded = bounded_so c (is_read c.request.op) (bounds_at c.occasion) refl refl;
  },
  omega arith,
)

-- and while it lasts it asks
pub search_asks : (c : Trial) (told : Told) (f : Finding) (step : FindStep) → SearchStep c told f step → is_done (find_step_ask f step) ≡ false
unfolding find_step_ask
search_asks c told f AtRest knows = absurd knows
search_asks c told f step knows = refl
