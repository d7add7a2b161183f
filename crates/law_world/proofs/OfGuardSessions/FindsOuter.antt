-- What a search writes is the count of buckets that are taken, or a link; and the slot that it finds is one of the index.
use Rattle.std.proofs.Common.{◌≡◌, ℕ, ◌+◌, ◌<◌, ◌≤◌, refl, sym, subst, arith, Bool, true, false}
use Rattle.std.specs.Prelude.{if◌then◌else◌, ◌==◌, ◌&&◌, ◌-◌, nat_lt, nat_le, ⊤}
use Rattle.std.proofs.lemmas.Bool.Decides.{nat_tests}
use Rattle.fkv_plane.specs.declared.asks.Ask.{Ask}
use Rattle.fkv_plane.specs.declared.asks.Ask.TheVariants.{Done}
use Rattle.fkv_plane.specs.declared.places.Places.{Places}
use Rattle.fkv_plane.specs.Passing.{is_done}
use Rattle.fkv_plane.specs.Places.{bucket_place, overflow_place}
use Rattle.fkv_flush.specs.GuardWorld.{is_guarded}
use Rattle.fkv_flush.proofs.Shown.{bucket_is_outer, taken_is_outer}
use Rattle.fkv_index.specs.declared.finding.FindAnswer.{FindAnswer}
use Rattle.fkv_index.specs.declared.finding.FindStep.{FindStep}
use Rattle.fkv_index.specs.declared.finding.FindStep.TheVariants.{AtRest, LoadsSlot, LoadsLink, LoadsTaken, TakesBucket, LinksBucket}
use Rattle.fkv_index.specs.declared.finding.Finding.{Finding}
use Rattle.fkv_index.specs.declared.finding.Found.{Found}
use Rattle.fkv_index.specs.declared.finding.Found.TheVariants.{Slot, NoSlot, Full, Kept, Contended}
use Rattle.fkv_index.specs.declared.finding.Linking.{Linking}
use Rattle.fkv_index.specs.declared.finding.Linking.TheVariants.{Never, Once, Within, Made}
use Rattle.fkv_index.specs.declared.finding.Purpose.{Purpose}
use Rattle.fkv_index.specs.declared.homes.Home.{Home}
use Rattle.fkv_index.specs.Slots.{bucket_slots, entry_tag, is_entry, slot_word, link_of}
use Rattle.fkv_index.specs.Finding.{first_finding, find_step_ask, find_ask, slot_after, slot_led, entered, ended_list, link_led, taken_led, takes_led, is_kept, took_led, linked_led, find_led, led_to, led_ask, find_next, find_next_ask}
use Rattle.fkv_index.proofs.Shown.{IsNoMiss, MayLink, led_so, update_led}
use Rattle.law_world.specs.GuardSessions.Steps.{IsOuter}

-- slots are those of a bucket, and what is linked is one of the overflow buckets
abbrev pub StepLinks : ℕ → FindStep → Type 0
StepLinks spare AtRest = ⊤
StepLinks spare (LoadsSlot slot) = slot < bucket_slots
StepLinks spare LoadsLink = ⊤
StepLinks spare (LoadsTaken word) = ⊤
StepLinks spare (TakesBucket word taken) = ⊤
StepLinks spare (LinksBucket word) = 1 ≤ spare

-- it is at a bucket or at an overflow bucket
pub record IsAtBucket (p : Places) (f : Finding) : Type 0 where
  pub bucket : ℕ
  pub few : bucket < p.buckets + p.overflow
  pub its_base : f.base ≡ bucket_place p bucket 0
  pub links : StepLinks f.spare f.step

in_bucket : (p : Places) (f : Finding) (slot : ℕ) → IsAtBucket p f → slot < 8 → is_guarded p (f.base + slot) ≡ false
in_bucket p f slot its low =
    let base = its.its_base in
    let same : f.base + slot ≡ bucket_place p its.bucket slot = omega (arith, base) in
    subst (λ place. is_guarded p place ≡ false) (sym same) (bucket_is_outer p its.bucket slot its.few low)

step_outer : (p : Places) (f : Finding) (step : FindStep) → IsAtBucket p f → IsOuter p (find_step_ask f step)
unfolding find_step_ask
step_outer p f AtRest its = tt
step_outer p f (LoadsSlot slot) its = tt
step_outer p f LoadsLink its = tt
step_outer p f (LoadsTaken word) its = tt
step_outer p f (TakesBucket word taken) its = taken_is_outer p
step_outer p f (LinksBucket word) its = in_bucket p f bucket_slots its (omega arith)

pub find_outer : (p : Places) (f : Finding) → IsAtBucket p f → IsOuter p (find_ask f)
find_outer p f its = step_outer p f f.step its

-- the slot that was found is none of the guard's
abbrev pub FoundOuter : Places → Found → Type 0
FoundOuter p (Slot place word) = is_guarded p place ≡ false
FoundOuter p found = ⊤

-- what it asks next tells no slot that is the guard's
abbrev pub TellsOuter : Places → Ask FindAnswer → Type 0
TellsOuter p (Done its) = FoundOuter p its.found
TellsOuter p ask = ⊤

-- where a reply leads: where it asks for something it is at a bucket
pub record FindsOuter (p : Places) (f : Finding) (ask : Ask FindAnswer) : Type 0 where
  pub its : is_done ask ≡ false → IsAtBucket p f
  pub tells : TellsOuter p ask

step_tells : (p : Places) (f : Finding) (step : FindStep) → TellsOuter p (find_step_ask f step)
unfolding find_step_ask
step_tells p f AtRest = tt
step_tells p f (LoadsSlot slot) = tt
step_tells p f LoadsLink = tt
step_tells p f (LoadsTaken word) = tt
step_tells p f (TakesBucket word taken) = tt
step_tells p f (LinksBucket word) = tt

goes : (p : Places) (f : Finding) → IsAtBucket p f → FindsOuter p f (find_ask f)
goes p f its = record { its = λ asks. its; tells = step_tells p f f.step }

ends : (p : Places) (f : Finding) (answer : FindAnswer) → FoundOuter p answer.found → FindsOuter p f (Done answer)
ends p f answer none = record { its = λ asks. cc; tells = none }

found_outer : (p : Places) (f : Finding) (slot : ℕ) → IsAtBucket p f → slot < bucket_slots → is_guarded p (f.base + slot) ≡ false
found_outer p f slot its low = in_bucket p f slot its (omega (arith, low))

after_links : (spare slot : ℕ) → StepLinks spare (slot_after slot)
after_links spare slot = by_test (nat_lt (slot + 1) bucket_slots) refl
  where
    by_test : (b : Bool) → nat_lt (slot + 1) bucket_slots ≡ b → StepLinks spare (if b then LoadsSlot (slot + 1) else LoadsLink)
    by_test true e = grind (arith, nat_tests, e)
    by_test false e = tt

slot_finds : (p : Places) (f : Finding) (slot word : ℕ) → IsAtBucket p f → slot < bucket_slots → FindsOuter p (led_to (slot_led f slot word (slot_word word))) (led_ask (slot_led f slot word (slot_word word)))
unfolding slot_word
slot_finds p f slot word its low = by_zero (word == 0) refl
  where
    by_tag : (b : Bool) → (entry_tag word == f.home.tag) ≡ b → is_entry word ≡ true → (word == 0) ≡ false → FindsOuter p (led_to (slot_led f slot word (slot_word word))) (led_ask (slot_led f slot word (slot_word word)))
    by_tag true e entry some = rw (some, entry, e) (ends p (record f { step = AtRest }) (record { found = Slot (f.base + slot) word; spare = f.spare }) (found_outer p f slot its low))
    by_tag false e entry some = rw (some, entry, e) (goes p (record f { step = slot_after slot }) (record { bucket = its.bucket; few = its.few; its_base = its.its_base; links = after_links f.spare slot }))

    by_entry : (b : Bool) → is_entry word ≡ b → (word == 0) ≡ false → FindsOuter p (led_to (slot_led f slot word (slot_word word))) (led_ask (slot_led f slot word (slot_word word)))
    by_entry true e some = by_tag (entry_tag word == f.home.tag) refl e some
    by_entry false e some = rw (some, e) (ends p (record f { step = AtRest }) (record { found = Contended; spare = f.spare }) tt)

    by_zero : (b : Bool) → (word == 0) ≡ b → FindsOuter p (led_to (slot_led f slot word (slot_word word))) (led_ask (slot_led f slot word (slot_word word)))
    by_zero true e = rw e (ends p (record f { step = AtRest }) (record { found = Slot (f.base + slot) 0; spare = f.spare }) (found_outer p f slot its low))
    by_zero false e = by_entry (is_entry word) refl e

none_there : (b c : Bool) → c ≡ false → (b && c) ≡ true → ⊥
none_there true c e t = cc
none_there false c e t = cc

few_behind : (p : Places) (links number : ℕ) → 1 ≤ number → (nat_lt 0 links && nat_le number p.overflow) ≡ true → p.buckets + (number - 1) < p.buckets + p.overflow
few_behind p links number some e = by_test (nat_le number p.overflow) refl
  where
    by_test : (b : Bool) → nat_le number p.overflow ≡ b → p.buckets + (number - 1) < p.buckets + p.overflow
    by_test true t = let below : number ≤ p.overflow = grind (arith, nat_tests, t) in omega (arith, some, below)
    by_test false t = absurd (none_there (nat_lt 0 links) (nat_le number p.overflow) t e)

entered_finds : (p : Places) (f : Finding) (number : ℕ) → 1 ≤ number → FindsOuter p (led_to (entered p f number)) (led_ask (entered p f number))
entered_finds p f number some = by_test (nat_lt 0 f.links && nat_le number p.overflow) refl
  where
    by_test : (b : Bool) → (nat_lt 0 f.links && nat_le number p.overflow) ≡ b → FindsOuter p (led_to (entered p f number)) (led_ask (entered p f number))
    by_test true e = rw e (goes p (record f { base = overflow_place p number 0; links = f.links - 1; step = LoadsSlot 0 }) (record { bucket = p.buckets + (number - 1); few = few_behind p f.links number some e; its_base = refl; links = omega arith }))
    by_test false e = rw e (ends p (record f { step = AtRest }) (record { found = Contended; spare = f.spare }) tt)

spare_links : (spare word : ℕ) → StepLinks spare (if spare == 0 then LoadsTaken word else LinksBucket word)
spare_links spare word = by_test (spare == 0) refl
  where
    by_test : (b : Bool) → (spare == 0) ≡ b → StepLinks spare (if b then LoadsTaken word else LinksBucket word)
    by_test true e = tt
    by_test false e = grind (arith, nat_tests, e)

ended_finds : (p : Places) (f : Finding) (word : ℕ) (linking : Linking) → IsAtBucket p f → FindsOuter p (led_to (ended_list f word linking)) (led_ask (ended_list f word linking))
ended_finds p f word Never its = ends p (record f { step = AtRest }) (record { found = NoSlot; spare = f.spare }) tt
ended_finds p f word Once its =
    goes p (record f { step = if f.spare == 0 then LoadsTaken word else LinksBucket word }) (record { bucket = its.bucket; few = its.few; its_base = its.its_base; links = spare_links f.spare word })
ended_finds p f word (Within bound) its = goes p (record f { step = LoadsTaken word }) (record { bucket = its.bucket; few = its.few; its_base = its.its_base; links = tt })
ended_finds p f word Made its = ends p (record f { step = AtRest }) (record { found = Contended; spare = f.spare }) tt

link_finds : (p : Places) (f : Finding) (word : ℕ) → IsAtBucket p f → FindsOuter p (led_to (link_led p f word)) (led_ask (link_led p f word))
link_finds p f word its = by_link (link_of word == 0) refl
  where
    by_link : (b : Bool) → (link_of word == 0) ≡ b → FindsOuter p (led_to (link_led p f word)) (led_ask (link_led p f word))
    by_link true e = rw e (ended_finds p f word f.linking its)
    by_link false e = let some : 1 ≤ link_of word = grind (arith, nat_tests, e) in rw e (entered_finds p f (link_of word) some)

takes_finds : (p : Places) (f : Finding) (word taken : ℕ) → IsAtBucket p f → FindsOuter p (led_to (takes_led p f word taken)) (led_ask (takes_led p f word taken))
takes_finds p f word taken its = by_count (nat_lt taken p.overflow) refl
  where
    by_count : (b : Bool) → nat_lt taken p.overflow ≡ b → FindsOuter p (led_to (takes_led p f word taken)) (led_ask (takes_led p f word taken))
    by_count true e = rw e (goes p (record f { step = TakesBucket word taken }) (record { bucket = its.bucket; few = its.few; its_base = its.its_base; links = tt }))
    by_count false e = rw e (ends p (record f { step = AtRest }) (record { found = Full; spare = f.spare }) tt)

taken_finds : (p : Places) (f : Finding) (word taken : ℕ) → IsAtBucket p f → FindsOuter p (led_to (taken_led p f word taken)) (led_ask (taken_led p f word taken))
taken_finds p f word taken its = by_kept (is_kept f.linking taken) refl
  where
    by_spare : (b : Bool) → (f.spare == 0) ≡ b → is_kept f.linking taken ≡ false → FindsOuter p (led_to (taken_led p f word taken)) (led_ask (taken_led p f word taken))
    by_spare true e below = rw (below, e) (takes_finds p f word taken its)
    by_spare false e below = rw (below, e) (goes p (record f { step = LinksBucket word }) (record { bucket = its.bucket; few = its.few; its_base = its.its_base; links = grind (arith, nat_tests, e) }))

    by_kept : (b : Bool) → is_kept f.linking taken ≡ b → FindsOuter p (led_to (taken_led p f word taken)) (led_ask (taken_led p f word taken))
    by_kept true e = rw e (ends p (record f { step = AtRest }) (record { found = Kept; spare = f.spare }) tt)
    by_kept false e = by_spare (f.spare == 0) refl e

took_finds : (p : Places) (f : Finding) (word taken reply : ℕ) → IsAtBucket p f → FindsOuter p (led_to (took_led f word taken reply)) (led_ask (took_led f word taken reply))
took_finds p f word taken reply its = by_count (reply == taken) refl
  where
    by_count : (b : Bool) → (reply == taken) ≡ b → FindsOuter p (led_to (took_led f word taken reply)) (led_ask (took_led f word taken reply))
    by_count true e = rw e (goes p (record f { spare = taken + 1; step = LinksBucket word }) (record { bucket = its.bucket; few = its.few; its_base = its.its_base; links = omega arith }))
    by_count false e = rw e (ends p (record f { step = AtRest }) (record { found = Contended; spare = f.spare }) tt)

linked_finds : (p : Places) (f : Finding) (word reply : ℕ) → 1 ≤ f.spare → FindsOuter p (led_to (linked_led p f word reply)) (led_ask (linked_led p f word reply))
linked_finds p f word reply some = by_word (reply == word) refl
  where
    by_word : (b : Bool) → (reply == word) ≡ b → FindsOuter p (led_to (linked_led p f word reply)) (led_ask (linked_led p f word reply))
    by_word true e = rw e (entered_finds p (record f { linking = Made; spare = 0 }) f.spare some)
    by_word false e = rw e (ends p (record f { step = AtRest }) (record { found = Contended; spare = f.spare }) tt)

led_finds : (p : Places) (f : Finding) (step : FindStep) (reply : ℕ) → IsAtBucket p f → StepLinks f.spare step → FindsOuter p (led_to (find_led p f step reply)) (led_ask (find_led p f step reply))
unfolding find_led
led_finds p f AtRest reply its links = ends p (record f { step = AtRest }) (record { found = Contended; spare = f.spare }) tt
led_finds p f (LoadsSlot slot) reply its links = slot_finds p f slot reply its links
led_finds p f LoadsLink reply its links = link_finds p f reply its
led_finds p f (LoadsTaken word) reply its links = taken_finds p f word reply its
led_finds p f (TakesBucket word taken) reply its links = took_finds p f word taken reply its
led_finds p f (LinksBucket word) reply its links = linked_finds p f word reply links

-- each reply
pub finds_outer : (p : Places) (f : Finding) (reply : ℕ) → IsAtBucket p f → FindsOuter p (find_next p f reply) (find_next_ask p f reply)
finds_outer p f reply its = led_finds p f f.step reply its its.links

-- as it begins
pub first_outer : (p : Places) (home : Home) (purpose : Purpose) (spare : ℕ) → home.bucket < p.buckets → IsAtBucket p (first_finding p home purpose spare)
first_outer p home purpose spare low = record { bucket = home.bucket; few = omega (arith, low); its_base = refl; links = omega arith }

-- an update is told of a slot, or that there is none left for it
abbrev pub TellsUpdate : Ask FindAnswer → Type 0
TellsUpdate (Done its) = IsNoMiss its.found
TellsUpdate ask = ⊤

pub next_update : (p : Places) (f : Finding) (reply : ℕ) → MayLink f → TellsUpdate (find_next_ask p f reply)
next_update p f reply may = by_ask (find_next_ask p f reply) refl
  where
    by_ask : (ask : Ask FindAnswer) → find_next_ask p f reply ≡ ask → TellsUpdate ask
    by_ask (Done its) e = led_so IsNoMiss (find_led p f f.step reply) its (update_led p f f.step reply may) e
    by_ask ask e = tt
