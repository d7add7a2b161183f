-- What an actor's search was begun for, and which spare it was told of.
use Rattle.std.proofs.Common.{◌≡◌, ℕ, ◌+◌, ◌-◌, List, refl, Bool, true, false}
use Rattle.std.specs.Prelude.{◌==◌, ◌&&◌, nat_lt, nat_le, if◌then◌else◌, ⊤}
use Rattle.std.proofs.lemmas.List.{set-get_or}
use Rattle.fkv_plane.specs.declared.asks.Ask.{Ask}
use Rattle.fkv_plane.specs.declared.asks.Ask.TheVariants.{Load, Done}
use Rattle.fkv_plane.specs.declared.places.Places.{Places}
use Rattle.fkv_plane.specs.Places.{overflow_place}
use Rattle.fkv_plane.specs.Asked.{words_after, reply_to}
use Rattle.fkv_index.specs.declared.slot_words.SlotWord.{SlotWord}
use Rattle.fkv_index.specs.declared.slot_words.SlotWord.TheVariants.{Empty, Tagged, Spoiled}
use Rattle.fkv_index.specs.declared.finding.Purpose.TheVariants.{Read}
use Rattle.fkv_index.specs.declared.finding.Linking.{Linking}
use Rattle.fkv_index.specs.declared.finding.Linking.TheVariants.{Never, Once, Within, Made}
use Rattle.fkv_index.specs.declared.finding.Found.TheVariants.{Slot, Contended}
use Rattle.fkv_index.specs.declared.finding.FindStep.{FindStep}
use Rattle.fkv_index.specs.declared.finding.FindStep.TheVariants.{AtRest, LoadsSlot, LoadsLink, LoadsTaken, TakesBucket, LinksBucket}
use Rattle.fkv_index.specs.declared.finding.Finding.{Finding}
use Rattle.fkv_index.specs.declared.finding.Led.{Led}
use Rattle.fkv_index.specs.declared.finding.Led.TheVariants.{On, Ends}
use Rattle.fkv_index.specs.Slots.{slot_word, link_of}
use Rattle.fkv_index.specs.Finding.{find_step_ask, find_ask, find_led, slot_led, entered, ended_list, led_to, led_ask}
use Rattle.fkv_index.specs.IndexWorld.{SlotWork, Seeks, Holds, Enters, IndexActor, is_seeking, spare_told, actor_after}
use Rattle.fkv_index.specs.OneEntry.{IsLoad}

-- neither a count nor a link is asked to change
abbrev pub LoadsAlone : FindStep → Type 0
LoadsAlone (LoadsTaken word) = ⊥
LoadsAlone (TakesBucket word taken) = ⊥
LoadsAlone (LinksBucket word) = ⊥
LoadsAlone step = ⊤

pub record IsReading (f : Finding) : Type 0 where
  pub never : f.linking ≡ Never
  pub loads : LoadsAlone f.step

pub record IsBegun (x : IndexActor) : Type 0 where
  pub its_spare : x.finding.step ≡ AtRest → x.spare ≡ x.finding.spare
  pub its_reading : x.purpose ≡ Read → IsReading x.finding

pub at_rest : (step : FindStep) → is_seeking step ≡ false → step ≡ AtRest
at_rest AtRest e = refl
at_rest (LoadsSlot slot) e = cc
at_rest LoadsLink e = cc
at_rest (LoadsTaken word) e = cc
at_rest (TakesBucket word taken) e = cc
at_rest (LinksBucket word) e = cc

-- where a search comes to rest its answer has its spare
asks_spare : (f : Finding) (step : FindStep) (spare : ℕ) → step ≡ AtRest → spare_told spare (find_step_ask f step) ≡ f.spare
unfolding find_step_ask
asks_spare f AtRest spare e = refl
asks_spare f (LoadsSlot slot) spare e = cc
asks_spare f LoadsLink spare e = cc
asks_spare f (LoadsTaken word) spare e = cc
asks_spare f (TakesBucket word taken) spare e = cc
asks_spare f (LinksBucket word) spare e = cc

led_spare : (led : Led) (spare : ℕ) → (led_to led).step ≡ AtRest → spare_told spare (led_ask led) ≡ (led_to led).spare
led_spare (On f) spare e = asks_spare f f.step spare e
led_spare (Ends f found) spare e = refl

-- a read goes on as one
slot_reading : (f : Finding) (slot word : ℕ) (its : SlotWord) → f.linking ≡ Never → IsReading (led_to (slot_led f slot word its))
slot_reading f slot word Empty never = record { never = never; loads = tt }
slot_reading f slot word Spoiled never = record { never = never; loads = tt }
slot_reading f slot word (Tagged tag) never = tested (tag == f.home.tag) (nat_lt (slot + 1) 7)
  where
    tested : (a b : Bool) → IsReading (led_to (if a then Ends f (Slot (f.base + slot) word) else On (record f { step = if b then LoadsSlot (slot + 1) else LoadsLink })))
    tested true b = record { never = never; loads = tt }
    tested false true = record { never = never; loads = tt }
    tested false false = record { never = never; loads = tt }

link_reading : (p : Places) (f : Finding) (word : ℕ) → f.linking ≡ Never → (b : Bool) → IsReading (led_to (if b then ended_list f word f.linking else entered p f (link_of word)))
link_reading p f word never true = ended f.linking never
  where
    ended : (linking : Linking) → linking ≡ Never → IsReading (led_to (ended_list f word linking))
    ended Never e = record { never = never; loads = tt }
    ended Once e = cc
    ended (Within bound) e = cc
    ended Made e = cc
link_reading p f word never false = tested (nat_lt 0 f.links && nat_le (link_of word) p.overflow)
  where
    tested : (b : Bool) → IsReading (led_to (if b then On (record f { base = overflow_place p (link_of word) 0; links = f.links - 1; step = LoadsSlot 0 }) else Ends f Contended))
    tested true = record { never = never; loads = tt }
    tested false = record { never = never; loads = tt }

led_reading : (p : Places) (f : Finding) (step : FindStep) (reply : ℕ) → f.linking ≡ Never → LoadsAlone step → IsReading (led_to (find_led p f step reply))
unfolding find_led
led_reading p f AtRest reply never loads = record { never = never; loads = tt }
led_reading p f (LoadsSlot slot) reply never loads = slot_reading f slot reply (slot_word reply) never
led_reading p f LoadsLink reply never loads = link_reading p f reply never (link_of reply == 0)
led_reading p f (LoadsTaken word) reply never loads = absurd loads
led_reading p f (TakesBucket word taken) reply never loads = absurd loads
led_reading p f (LinksBucket word) reply never loads = absurd loads

pub moved_begun : (p : Places) (words : List ℕ) (x : IndexActor) (work : SlotWork) → IsBegun x → IsBegun (actor_after p words x work)
moved_begun p words x Seeks its = record {
  its_spare = led_spare (find_led p x.finding x.finding.step (reply_to words (find_ask x.finding))) x.spare;
  its_reading = λ read. led_reading p x.finding x.finding.step (reply_to words (find_ask x.finding)) (its.its_reading read).never (its.its_reading read).loads;
}
moved_begun p words x (Holds place word) its = record { its_spare = its.its_spare; its_reading = its.its_reading }
moved_begun p words x (Enters step) its = record { its_spare = its.its_spare; its_reading = its.its_reading }

pub reads_load : (f : Finding) (step : FindStep) → LoadsAlone step → IsLoad (find_step_ask f step)
unfolding find_step_ask
reads_load f AtRest loads = tt
reads_load f (LoadsSlot slot) loads = tt
reads_load f LoadsLink loads = tt
reads_load f (LoadsTaken word) loads = absurd loads
reads_load f (TakesBucket word taken) loads = absurd loads
reads_load f (LinksBucket word) loads = absurd loads

pub load_same : {A : Type 0} (words : List ℕ) (ask : Ask A) → IsLoad ask → words_after words ask ≡ words
load_same words (Load place) loads = set-get_or words place 0
load_same words (Done answer) loads = refl
load_same words ask loads = absurd loads
