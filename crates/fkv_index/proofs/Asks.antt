-- A machine is at rest, or it asks for something, and a search makes fewer asks the further it has come.
use Rattle.std.proofs.Common.{◌≡◌, ℕ, ◌+◌, ◌-◌, ◌*◌, ◌<◌, ◌≤◌, ◌⊎◌, refl, inl, inr, arith, Bool, true, false}
use Rattle.std.specs.Prelude.{◌==◌, ◌&&◌, nat_lt, nat_le, if◌then◌else◌}
use Rattle.std.proofs.lemmas.Bool.Decides.{nat_tests}
use Rattle.fkv_plane.specs.declared.places.Places.{Places}
use Rattle.fkv_plane.specs.Passing.{is_done}
use Rattle.fkv_plane.specs.Places.{overflow_place}
use Rattle.fkv_index.specs.declared.slot_words.SlotWord.{SlotWord}
use Rattle.fkv_index.specs.declared.slot_words.SlotWord.TheVariants.{Empty, Tagged, Spoiled}
use Rattle.fkv_index.specs.declared.finding.Linking.{Linking}
use Rattle.fkv_index.specs.declared.finding.Linking.TheVariants.{Never, Once, Within, Made}
use Rattle.fkv_index.specs.declared.finding.Found.TheVariants.{Slot, Full, Kept, Contended}
use Rattle.fkv_index.specs.declared.finding.FindStep.{FindStep}
use Rattle.fkv_index.specs.declared.finding.FindStep.TheVariants.{AtRest, LoadsSlot, LoadsLink, LoadsTaken, TakesBucket, LinksBucket}
use Rattle.fkv_index.specs.declared.finding.Finding.{Finding}
use Rattle.fkv_index.specs.declared.finding.Led.{Led}
use Rattle.fkv_index.specs.declared.finding.Led.TheVariants.{On, Ends}
use Rattle.fkv_index.specs.declared.publishing.Publishing.{Publishing}
use Rattle.fkv_index.specs.declared.publishing.Publishing.TheVariants as publish
use Rattle.fkv_index.specs.Slots.{slot_word, link_of}
use Rattle.fkv_index.specs.Finding.{find_step_ask, find_led, slot_led, slot_after, entered, ended_list, link_led, is_kept, step_asks_left, led_asks_left, linking_asks, asks_left, led_to, led_ask, find_next, find_next_ask}
use Rattle.fkv_index.specs.Publishing.{publish_ask, publish_next, publish_next_ask, publish_asks_left}
use Rattle.fkv_index.specs.Counted.{IsCounted}

pub find_asks : (f : Finding) (step : FindStep) → (step ≡ AtRest) ⊎ (is_done (find_step_ask f step) ≡ false)
unfolding find_step_ask
find_asks f AtRest = inl refl
find_asks f step = inr refl

pub publish_asks : (step : Publishing) → (step ≡ publish.AtRest) ⊎ (is_done (publish_ask step) ≡ false)
unfolding publish_ask
publish_asks publish.AtRest = inl refl
publish_asks step = inr refl

-- where a bucket is entered its eight asks are those of one link less
enters_fewer : (p : Places) (f : Finding) (number : ℕ) → led_asks_left (entered p f number) < 1 + 8 * f.links + linking_asks f.linking
unfolding step_asks_left
enters_fewer p f number = tested (nat_lt 0 f.links) (nat_le number p.overflow) refl
  where
    tested : (some fits : Bool) → nat_lt 0 f.links ≡ some → led_asks_left (if some && fits then On (record f { base = overflow_place p number 0; links = f.links - 1; step = LoadsSlot 0 }) else Ends f Contended) < 1 + 8 * f.links + linking_asks f.linking
    tested true true e = let h : 0 < f.links = grind (arith, nat_tests, e) in omega (arith, h)
    tested true false e = omega arith
    tested false fits e = omega arith

slot_fewer : (f : Finding) (slot word : ℕ) (its : SlotWord) → led_asks_left (slot_led f slot word its) < step_asks_left f (LoadsSlot slot)
unfolding step_asks_left
slot_fewer f slot word Empty = omega arith
slot_fewer f slot word Spoiled = omega arith
slot_fewer f slot word (Tagged tag) = met (tag == f.home.tag)
  where
    after : (b : Bool) → nat_lt (slot + 1) 7 ≡ b → led_asks_left (On (record f { step = if b then LoadsSlot (slot + 1) else LoadsLink })) < 2 + (6 - slot) + 8 * f.links + linking_asks f.linking
    after true e = let h : slot + 1 < 7 = grind (arith, nat_tests, e) in omega (arith, h)
    after false e = omega arith

    met : (b : Bool) → led_asks_left (if b then Ends f (Slot (f.base + slot) word) else On (record f { step = slot_after slot })) < 2 + (6 - slot) + 8 * f.links + linking_asks f.linking
    met true = omega arith
    met false = after (nat_lt (slot + 1) 7) refl

link_fewer : (p : Places) (f : Finding) (word : ℕ) → led_asks_left (link_led p f word) < 1 + 8 * f.links + linking_asks f.linking
unfolding step_asks_left
link_fewer p f word = tested (link_of word == 0)
  where
    takes : (b : Bool) → led_asks_left (On (record f { step = if b then LoadsTaken word else LinksBucket word })) < 1 + 8 * f.links + 3
    takes true = omega arith
    takes false = omega arith

    ended : (linking : Linking) → led_asks_left (ended_list f word linking) < 1 + 8 * f.links + linking_asks linking
    ended Never = omega arith
    ended Once = takes (f.spare == 0)
    ended (Within bound) = takes true
    ended Made = omega arith

    tested : (b : Bool) → led_asks_left (if b then ended_list f word f.linking else entered p f (link_of word)) < 1 + 8 * f.links + linking_asks f.linking
    tested true = ended f.linking
    tested false = enters_fewer p f (link_of word)

find_fewer : (p : Places) (f : Finding) (step : FindStep) (reply : ℕ) → 0 < step_asks_left f step → led_asks_left (find_led p f step reply) < step_asks_left f step
unfolding step_asks_left find_led
find_fewer p f AtRest reply some = some
find_fewer p f (LoadsSlot slot) reply some = slot_fewer f slot reply (slot_word reply)
find_fewer p f LoadsLink reply some = link_fewer p f reply
find_fewer p f (LoadsTaken word) reply some = tested (is_kept f.linking reply) (f.spare == 0) (nat_lt reply p.overflow)
  where
    tested : (kept none few : Bool)
        → led_asks_left (if kept then Ends f Kept else if none then (if few then On (record f { step = TakesBucket word reply }) else Ends f Full) else On (record f { step = LinksBucket word })) < 3 + 8 * f.links
    tested true none few = omega arith
    tested false true true = omega arith
    tested false true false = omega arith
    tested false false few = omega arith
find_fewer p f (TakesBucket word taken) reply some = tested (reply == taken)
  where
    tested : (b : Bool) → led_asks_left (if b then On (record f { spare = taken + 1; step = LinksBucket word }) else Ends f Contended) < 2 + 8 * f.links
    tested true = omega arith
    tested false = omega arith
find_fewer p f (LinksBucket word) reply some = tested (reply == word)
  where
    tested : (b : Bool) → led_asks_left (if b then entered p (record f { linking = Made; spare = 0 }) f.spare else Ends f Contended) < 1 + 8 * f.links
    tested true = let h = enters_fewer p (record f { linking = Made; spare = 0 }) f.spare in omega (arith, h)
    tested false = omega arith

-- the same of the state that it comes to
led_fewer : (led : Led) (n : ℕ) → led_asks_left led < n → asks_left (led_to led) < n
unfolding step_asks_left
led_fewer (On f) n h = h
led_fewer (Ends f found) n h = omega (arith, h)

pub next_fewer : (p : Places) (f : Finding) (reply : ℕ) → 0 < asks_left f → asks_left (find_next p f reply) < asks_left f
next_fewer p f reply some = led_fewer (find_led p f f.step reply) (asks_left f) (find_fewer p f f.step reply some)

pub linking_few : (linking : Linking) → linking_asks linking ≤ 3
linking_few Never = omega arith
linking_few Once = omega arith
linking_few (Within bound) = omega arith
linking_few Made = omega arith

-- while a machine asks, asks are left
pub find_counted : (f : Finding) (step : FindStep) → IsCounted (step_asks_left f step) (find_step_ask f step)
unfolding find_step_ask step_asks_left
find_counted f AtRest = refl
find_counted f (LoadsSlot slot) = omega arith
find_counted f LoadsLink = omega arith
find_counted f (LoadsTaken word) = omega arith
find_counted f (TakesBucket word taken) = omega arith
find_counted f (LinksBucket word) = omega arith

led_counted : (led : Led) → IsCounted (asks_left (led_to led)) (led_ask led)
unfolding step_asks_left
led_counted (On f) = find_counted f f.step
led_counted (Ends f found) = refl

pub next_counted : (p : Places) (f : Finding) (reply : ℕ) → IsCounted (asks_left (find_next p f reply)) (find_next_ask p f reply)
next_counted p f reply = led_counted (find_led p f f.step reply)

pub publish_fewer : (step : Publishing) (reply : ℕ) → 0 < publish_asks_left step → publish_asks_left (publish_next step reply) < publish_asks_left step
unfolding publish_next publish_asks_left
publish_fewer publish.AtRest reply some = some
publish_fewer (publish.SwapsEntry place word entry) reply some = some

pub publish_counted : (step : Publishing) → IsCounted (publish_asks_left step) (publish_ask step)
unfolding publish_ask publish_asks_left
publish_counted publish.AtRest = refl
publish_counted (publish.SwapsEntry place word entry) = omega arith

pub publish_next_counted : (step : Publishing) (reply : ℕ) → IsCounted (publish_asks_left (publish_next step reply)) (publish_next_ask step reply)
unfolding publish_next publish_next_ask publish_asks_left
publish_next_counted publish.AtRest reply = refl
publish_next_counted (publish.SwapsEntry place word entry) reply = refl
