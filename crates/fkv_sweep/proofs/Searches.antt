-- A search for a read loads words, whatever it is replied.
use Rattle.std.proofs.Common.{◌≡◌, ℕ, ◌+◌, refl, Bool, true, false}
use Rattle.std.specs.Prelude.{◌==◌, ◌&&◌, nat_lt, nat_le, if◌then◌else◌}
use Rattle.fkv_plane.specs.declared.places.Places.{Places}
use Rattle.fkv_plane.specs.Passing.{passed}
use Rattle.fkv_index.specs.declared.slot_words.SlotWord.{SlotWord}
use Rattle.fkv_index.specs.declared.slot_words.SlotWord.TheVariants.{Empty, Tagged, Spoiled}
use Rattle.fkv_index.specs.declared.homes.Home.{Home}
use Rattle.fkv_index.specs.declared.finding.Purpose.TheVariants.{Read}
use Rattle.fkv_index.specs.declared.finding.Linking.{Linking}
use Rattle.fkv_index.specs.declared.finding.Linking.TheVariants.{Never, Once, Within, Made}
use Rattle.fkv_index.specs.declared.finding.FindStep.{FindStep}
use Rattle.fkv_index.specs.declared.finding.FindStep.TheVariants.{AtRest, LoadsSlot, LoadsLink, LoadsTaken, TakesBucket, LinksBucket}
use Rattle.fkv_index.specs.declared.finding.Finding.{Finding}
use Rattle.fkv_index.specs.Slots.{slot_word, link_of}
use Rattle.fkv_index.specs.Finding.{rested, first_finding, find_step_ask, find_ask, find_led, slot_led, entered, ended_list, link_led, led_to, find_next}
use Rattle.fkv_index.proofs.Shown.{IsReading}
use Rattle.fkv_sweep.specs.declared.sweeping.SweepAnswer.TheVariants as answer
use Rattle.fkv_sweep.specs.Swept.{IsLoadOrEnd}

pub if_either : {A : Type 0} (P : A → Type 0) (b : Bool) (x y : A) → P x → P y → P (if b then x else y)
if_either P true x y its other = its
if_either P false x y its other = other

slot_on : (f : Finding) (b : Bool) (slot : ℕ) → f.linking ≡ Never → IsReading (record f { step = if b then LoadsSlot (slot + 1) else LoadsLink })
slot_on f true slot never = record { never = never; loads = tt }
slot_on f false slot never = record { never = never; loads = tt }

slot_reads : (f : Finding) (slot word : ℕ) (its : SlotWord) → f.linking ≡ Never → IsReading (led_to (slot_led f slot word its))
slot_reads f slot word Empty never = record { never = never; loads = tt }
slot_reads f slot word Spoiled never = record { never = never; loads = tt }
slot_reads f slot word (Tagged tag) never = if_either (λ led. IsReading (led_to led)) (tag == f.home.tag) _ _ (record { never = never; loads = tt }) (slot_on f (nat_lt (slot + 1) 7) slot never)

enters_reads : (p : Places) (f : Finding) (number : ℕ) → f.linking ≡ Never → IsReading (led_to (entered p f number))
enters_reads p f number never = if_either (λ led. IsReading (led_to led)) (nat_lt 0 f.links && nat_le number p.overflow) _ _ (record { never = never; loads = tt }) (record { never = never; loads = tt })

ended_reads : (f : Finding) (word : ℕ) (linking : Linking) → linking ≡ Never → f.linking ≡ Never → IsReading (led_to (ended_list f word linking))
ended_reads f word Never same never = record { never = never; loads = tt }
ended_reads f word Once same never = let no : ⊥ = cc in absurd no
ended_reads f word (Within bound) same never = let no : ⊥ = cc in absurd no
ended_reads f word Made same never = let no : ⊥ = cc in absurd no

link_reads : (p : Places) (f : Finding) (word : ℕ) → f.linking ≡ Never → IsReading (led_to (link_led p f word))
link_reads p f word never = if_either (λ led. IsReading (led_to led)) (link_of word == 0) _ _ (ended_reads f word f.linking never never) (enters_reads p f (link_of word) never)

led_reads : (p : Places) (f : Finding) (step : FindStep) (word : ℕ) → f.step ≡ step → IsReading f → IsReading (led_to (find_led p f step word))
unfolding find_led
led_reads p f AtRest word same its = record { never = its.never; loads = tt }
led_reads p f (LoadsSlot slot) word same its = slot_reads f slot word (slot_word word) its.never
led_reads p f LoadsLink word same its = link_reads p f word its.never
led_reads p f (LoadsTaken taken) word same its = absurd (rw same at its.loads)
led_reads p f (TakesBucket at taken) word same its = absurd (rw same at its.loads)
led_reads p f (LinksBucket at) word same its = absurd (rw same at its.loads)

pub find_reads : (p : Places) (f : Finding) (word : ℕ) → IsReading f → IsReading (find_next p f word)
find_reads p f word its = led_reads p f f.step word refl its

pub first_reads : (p : Places) (home : Home) → IsReading (first_finding p home Read 0)
first_reads p home = record { never = refl; loads = tt }

pub rested_reads : IsReading (rested 0)
rested_reads = record { never = refl; loads = tt }

-- what it asks
step_loads : (f : Finding) (step : FindStep) → f.step ≡ step → IsReading f → IsLoadOrEnd (passed (find_step_ask f step) answer.Through)
unfolding find_step_ask passed
step_loads f AtRest same its = tt
step_loads f (LoadsSlot slot) same its = tt
step_loads f LoadsLink same its = tt
step_loads f (LoadsTaken taken) same its = absurd (rw same at its.loads)
step_loads f (TakesBucket at taken) same its = absurd (rw same at its.loads)
step_loads f (LinksBucket at) same its = absurd (rw same at its.loads)

pub find_loads : (f : Finding) → IsReading f → IsLoadOrEnd (passed (find_ask f) answer.Through)
find_loads f its = step_loads f f.step refl its
