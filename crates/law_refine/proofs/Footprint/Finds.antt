-- A search writes words of the index alone: the count of taken overflow buckets, and a link below its latch. The slot that
-- it finds is one of the index.
use Rattle.std.proofs.Common.{◌≡◌, ◌≢◌, ℕ, ◌+◌, ◌<◌, ◌≤◌, ◌⊎◌, refl, sym, subst, arith, inl, Bool, true, false}
use Rattle.std.specs.Prelude.{if◌then◌else◌, ◌==◌, ◌&&◌, ◌-◌, nat_lt, nat_le, ⊤}
use Rattle.std.proofs.lemmas.Bool.Decides.{nat_tests}
use Rattle.fkv_plane.specs.declared.asks.Ask.{Ask}
use Rattle.fkv_plane.specs.declared.asks.Ask.TheVariants.{Done}
use Rattle.fkv_plane.specs.declared.places.Places.{Places}
use Rattle.fkv_plane.specs.Passing.{is_done}
use Rattle.fkv_plane.specs.Places.{bucket_place, overflow_place}
use Rattle.fkv_index.specs.declared.finding.FindAnswer.{FindAnswer}
use Rattle.fkv_index.specs.declared.finding.FindStep.{FindStep}
use Rattle.fkv_index.specs.declared.finding.FindStep.TheVariants.{AtRest, LoadsSlot, LoadsLink, LoadsTaken, TakesBucket, LinksBucket}
use Rattle.fkv_index.specs.declared.finding.Finding.{Finding}
use Rattle.fkv_index.specs.declared.finding.Found.{Found}
use Rattle.fkv_index.specs.declared.finding.Found.TheVariants.{Slot, NoSlot, Full, Contended, Kept}
use Rattle.fkv_index.specs.declared.finding.Linking.{Linking}
use Rattle.fkv_index.specs.declared.finding.Linking.TheVariants.{Never, Once, Made, Within}
use Rattle.fkv_index.specs.declared.finding.Purpose.{Purpose}
use Rattle.fkv_index.specs.declared.homes.Home.{Home}
use Rattle.fkv_index.specs.Slots.{bucket_slots, entry_tag, is_entry, slot_word, link_of}
use Rattle.fkv_index.specs.Finding.{spare_of, first_finding, find_step_ask, find_ask, slot_after, slot_led, entered, ended_list, link_led, taken_led, took_led, linked_led, find_led, led_to, led_ask, find_next, find_next_ask, is_kept, takes_led}
use Rattle.law_refine.specs.Footprint.{Part, TheIndex, IsOutside, MaySet, Spares}
use Rattle.law_refine.proofs.Footprint.Outside.{taken_outside, slot_outside, link_outside}

-- slots are those of a bucket, and a link is set where there was none
abbrev pub StepLinks : Places → FindStep → Type 0
StepLinks p AtRest = ⊤
StepLinks p (LoadsSlot slot) = slot < bucket_slots
StepLinks p LoadsLink = ⊤
StepLinks p (LoadsTaken word) = link_of word ≡ 0
StepLinks p (TakesBucket word taken) = (link_of word ≡ 0) × (taken < p.overflow)
StepLinks p (LinksBucket word) = link_of word ≡ 0

-- it is at a bucket or at an overflow bucket, and its spare is one of these
pub record IsAtBucket (p : Places) (f : Finding) : Type 0 where
  pub bucket : ℕ
  pub its_base : f.base ≡ bucket_place p bucket 0
  pub its_spare : f.spare ≤ p.overflow
  pub links : StepLinks p f.step

-- what it asks for
step_spares : (part : Part) (p : Places) (f : Finding) (step : FindStep) (bucket : ℕ) → f.base ≡ bucket_place p bucket 0 → f.spare ≤ p.overflow → StepLinks p step → part ≢ TheIndex → Spares part p (find_step_ask f step)
unfolding find_step_ask
step_spares part p f (TakesBucket word taken) bucket base few links other = inl (taken_outside part p other)
step_spares part p f (LinksBucket word) bucket base few links other =
    let all = p.few_overflow in
    let same : f.base + bucket_slots ≡ bucket_place p bucket 7 = omega (arith, base) in
    subst (λ (place : ℕ). IsOutside part p place ⊎ MaySet part p place word (word + f.spare)) (sym same) (link_outside part p bucket word f.spare links (omega (arith, few, all)) other)
step_spares part p f step bucket base few links other = tt

pub find_spares : (part : Part) (p : Places) (f : Finding) → IsAtBucket p f → part ≢ TheIndex → Spares part p (find_ask f)
find_spares part p f its other = step_spares part p f f.step its.bucket its.its_base its.its_spare its.links other

-- the place is outside of each part but the index
abbrev pub IsIndexAlone : Places → ℕ → Type 0
IsIndexAlone p place = (part : Part) → part ≢ TheIndex → IsOutside part p place

-- the slot that was found
abbrev pub FoundAlone : Places → Found → Type 0
FoundAlone p (Slot place word) = IsIndexAlone p place
FoundAlone p found = ⊤

-- what it asks next tells such a slot
abbrev pub TellsAlone : Places → Ask FindAnswer → Type 0
TellsAlone p (Done its) = FoundAlone p its.found
TellsAlone p ask = ⊤

-- where a reply leads: where it asks for something it is at a bucket
pub record FindsOn (p : Places) (f : Finding) (ask : Ask FindAnswer) : Type 0 where
  pub its : is_done ask ≡ false → IsAtBucket p f
  pub tells : TellsAlone p ask

-- a step that goes on tells nothing yet
step_tells : (p : Places) (f : Finding) (step : FindStep) → TellsAlone p (find_step_ask f step)
unfolding find_step_ask
step_tells p f AtRest = tt
step_tells p f step = tt

goes : (p : Places) (f : Finding) → IsAtBucket p f → FindsOn p f (find_ask f)
goes p f its = record { its = λ asks. its; tells = step_tells p f f.step }

ends : (p : Places) (f : Finding) (answer : FindAnswer) → FoundAlone p answer.found → FindsOn p f (Done answer)
ends p f answer none = record { its = λ asks. cc; tells = none }

found_spares : (p : Places) (f : Finding) (slot : ℕ) → IsAtBucket p f → slot < bucket_slots → IsIndexAlone p (f.base + slot)
found_spares p f slot its low =
    let base = its.its_base in
    let same : f.base + slot ≡ bucket_place p its.bucket slot = omega (arith, base) in
    subst (λ (place : ℕ). IsIndexAlone p place) (sym same) (λ part other. slot_outside part p its.bucket slot low other)

after_links : (p : Places) (slot : ℕ) → StepLinks p (slot_after slot)
after_links p slot = by_test (nat_lt (slot + 1) bucket_slots) refl
  where
    by_test : (b : Bool) → nat_lt (slot + 1) bucket_slots ≡ b → StepLinks p (if b then LoadsSlot (slot + 1) else LoadsLink)
    by_test true e = grind (arith, nat_tests, e)
    by_test false e = tt

slot_finds : (p : Places) (f : Finding) (slot word : ℕ) → IsAtBucket p f → slot < bucket_slots → FindsOn p (led_to (slot_led f slot word (slot_word word))) (led_ask (slot_led f slot word (slot_word word)))
unfolding slot_word
slot_finds p f slot word its low = by_zero (word == 0) refl
  where
    by_tag : (b : Bool) → (entry_tag word == f.home.tag) ≡ b → is_entry word ≡ true → (word == 0) ≡ false → FindsOn p (led_to (slot_led f slot word (slot_word word))) (led_ask (slot_led f slot word (slot_word word)))
    by_tag true e entry some = rw (some, entry, e) (ends p (record f { step = AtRest }) (record { found = Slot (f.base + slot) word; spare = f.spare }) (found_spares p f slot its low))
    by_tag false e entry some = rw (some, entry, e) (goes p (record f { step = slot_after slot }) (record { bucket = its.bucket; its_base = its.its_base; its_spare = its.its_spare; links = after_links p slot }))

    by_entry : (b : Bool) → is_entry word ≡ b → (word == 0) ≡ false → FindsOn p (led_to (slot_led f slot word (slot_word word))) (led_ask (slot_led f slot word (slot_word word)))
    by_entry true e some = by_tag (entry_tag word == f.home.tag) refl e some
    by_entry false e some = rw (some, e) (ends p (record f { step = AtRest }) (record { found = Contended; spare = f.spare }) tt)

    by_zero : (b : Bool) → (word == 0) ≡ b → FindsOn p (led_to (slot_led f slot word (slot_word word))) (led_ask (slot_led f slot word (slot_word word)))
    by_zero true e = rw e (ends p (record f { step = AtRest }) (record { found = Slot (f.base + slot) 0; spare = f.spare }) (found_spares p f slot its low))
    by_zero false e = by_entry (is_entry word) refl e

entered_finds : (p : Places) (f : Finding) (number : ℕ) → f.spare ≤ p.overflow → FindsOn p (led_to (entered p f number)) (led_ask (entered p f number))
entered_finds p f number few = by_test (nat_lt 0 f.links && nat_le number p.overflow) refl
  where
    by_test : (b : Bool) → (nat_lt 0 f.links && nat_le number p.overflow) ≡ b → FindsOn p (led_to (entered p f number)) (led_ask (entered p f number))
    by_test true e = rw e (goes p (record f { base = overflow_place p number 0; links = f.links - 1; step = LoadsSlot 0 }) (record { bucket = p.buckets + (number - 1); its_base = refl; its_spare = few; links = omega arith }))
    by_test false e = rw e (ends p (record f { step = AtRest }) (record { found = Contended; spare = f.spare }) tt)

word_links : (p : Places) (word : ℕ) (c : Bool) → link_of word ≡ 0 → StepLinks p (if c then LoadsTaken word else LinksBucket word)
word_links p word true none = none
word_links p word false none = none

ended_finds : (p : Places) (f : Finding) (word : ℕ) (linking : Linking) → IsAtBucket p f → link_of word ≡ 0 → FindsOn p (led_to (ended_list f word linking)) (led_ask (ended_list f word linking))
ended_finds p f word Never its none = ends p (record f { step = AtRest }) (record { found = NoSlot; spare = f.spare }) tt
ended_finds p f word Once its none =
    goes p (record f { step = if f.spare == 0 then LoadsTaken word else LinksBucket word }) (record { bucket = its.bucket; its_base = its.its_base; its_spare = its.its_spare; links = word_links p word (f.spare == 0) none })
ended_finds p f word (Within bound) its none = goes p (record f { step = LoadsTaken word }) (record { bucket = its.bucket; its_base = its.its_base; its_spare = its.its_spare; links = none })
ended_finds p f word Made its none = ends p (record f { step = AtRest }) (record { found = Contended; spare = f.spare }) tt

link_finds : (p : Places) (f : Finding) (word : ℕ) → IsAtBucket p f → FindsOn p (led_to (link_led p f word)) (led_ask (link_led p f word))
link_finds p f word its = by_link (link_of word == 0) refl
  where
    by_link : (b : Bool) → (link_of word == 0) ≡ b → FindsOn p (led_to (link_led p f word)) (led_ask (link_led p f word))
    by_link true e = rw e (ended_finds p f word f.linking its (grind (arith, nat_tests, e)))
    by_link false e = rw e (entered_finds p f (link_of word) its.its_spare)

takes_finds : (p : Places) (f : Finding) (word taken : ℕ) → IsAtBucket p f → link_of word ≡ 0 → FindsOn p (led_to (takes_led p f word taken)) (led_ask (takes_led p f word taken))
takes_finds p f word taken its none = by_count (nat_lt taken p.overflow) refl
  where
    by_count : (b : Bool) → nat_lt taken p.overflow ≡ b → FindsOn p (led_to (takes_led p f word taken)) (led_ask (takes_led p f word taken))
    by_count true e = rw e (goes p (record f { step = TakesBucket word taken }) (record { bucket = its.bucket; its_base = its.its_base; its_spare = its.its_spare; links = (none, grind (arith, nat_tests, e)) }))
    by_count false e = rw e (ends p (record f { step = AtRest }) (record { found = Full; spare = f.spare }) tt)

taken_finds : (p : Places) (f : Finding) (word taken : ℕ) → IsAtBucket p f → link_of word ≡ 0 → FindsOn p (led_to (taken_led p f word taken)) (led_ask (taken_led p f word taken))
taken_finds p f word taken its none = by_kept (is_kept f.linking taken) refl
  where
    by_spare : (b : Bool) → (f.spare == 0) ≡ b → is_kept f.linking taken ≡ false → FindsOn p (led_to (taken_led p f word taken)) (led_ask (taken_led p f word taken))
    by_spare true e below = rw (below, e) (takes_finds p f word taken its none)
    by_spare false e below = rw (below, e) (goes p (record f { step = LinksBucket word }) (record { bucket = its.bucket; its_base = its.its_base; its_spare = its.its_spare; links = none }))

    by_kept : (b : Bool) → is_kept f.linking taken ≡ b → FindsOn p (led_to (taken_led p f word taken)) (led_ask (taken_led p f word taken))
    by_kept true e = rw e (ends p (record f { step = AtRest }) (record { found = Kept; spare = f.spare }) tt)
    by_kept false e = by_spare (f.spare == 0) refl e

took_finds : (p : Places) (f : Finding) (word taken reply : ℕ) → IsAtBucket p f → link_of word ≡ 0 → taken < p.overflow → FindsOn p (led_to (took_led f word taken reply)) (led_ask (took_led f word taken reply))
took_finds p f word taken reply its none low = by_count (reply == taken) refl
  where
    by_count : (b : Bool) → (reply == taken) ≡ b → FindsOn p (led_to (took_led f word taken reply)) (led_ask (took_led f word taken reply))
    by_count true e = rw e (goes p (record f { spare = taken + 1; step = LinksBucket word }) (record { bucket = its.bucket; its_base = its.its_base; its_spare = omega (arith, low); links = none }))
    by_count false e = rw e (ends p (record f { step = AtRest }) (record { found = Contended; spare = f.spare }) tt)

linked_finds : (p : Places) (f : Finding) (word reply : ℕ) → IsAtBucket p f → FindsOn p (led_to (linked_led p f word reply)) (led_ask (linked_led p f word reply))
linked_finds p f word reply its = by_word (reply == word) refl
  where
    by_word : (b : Bool) → (reply == word) ≡ b → FindsOn p (led_to (linked_led p f word reply)) (led_ask (linked_led p f word reply))
    by_word true e = rw e (entered_finds p (record f { linking = Made; spare = 0 }) f.spare (omega arith))
    by_word false e = rw e (ends p (record f { step = AtRest }) (record { found = Contended; spare = f.spare }) tt)

led_finds : (p : Places) (f : Finding) (step : FindStep) (reply : ℕ) → IsAtBucket p f → StepLinks p step → FindsOn p (led_to (find_led p f step reply)) (led_ask (find_led p f step reply))
unfolding find_led
led_finds p f AtRest reply its links = ends p (record f { step = AtRest }) (record { found = Contended; spare = f.spare }) tt
led_finds p f (LoadsSlot slot) reply its links = slot_finds p f slot reply its links
led_finds p f LoadsLink reply its links = link_finds p f reply its
led_finds p f (LoadsTaken word) reply its links = taken_finds p f word reply its links
led_finds p f (TakesBucket word taken) reply its links = took_finds p f word taken reply its links.0 links.1
led_finds p f (LinksBucket word) reply its links = linked_finds p f word reply its

-- each reply
pub finds_spares : (p : Places) (f : Finding) (reply : ℕ) → IsAtBucket p f → FindsOn p (find_next p f reply) (find_next_ask p f reply)
finds_spares p f reply its = led_finds p f f.step reply its its.links

-- as it begins
spare_few : (p : Places) (spare : ℕ) → spare_of p spare ≤ p.overflow
spare_few p spare = by_test (nat_le spare p.overflow) refl
  where
    by_test : (b : Bool) → nat_le spare p.overflow ≡ b → (if b then spare else 0) ≤ p.overflow
    by_test true e = grind (arith, nat_tests, e)
    by_test false e = omega arith

pub first_spares : (p : Places) (home : Home) (purpose : Purpose) (spare : ℕ) → IsAtBucket p (first_finding p home purpose spare)
first_spares p home purpose spare = record { bucket = home.bucket; its_base = refl; its_spare = spare_few p spare; links = omega arith }
