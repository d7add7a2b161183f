-- What leads a search to link: it did before, or it has just loaded an eighth word with no link.
use Rattle.std.proofs.Common.{◌≡◌, ◌⊎◌, inl, inr, ℕ, ◌+◌, ◌-◌, ◌∙◌, refl, sym, ap, subst, arith, Bool, true, false}
use Rattle.std.specs.Prelude.{◌==◌, ◌&&◌, ◌||◌, nat_le, nat_lt, if◌then◌else◌}
use Rattle.std.proofs.lemmas.Bool.Decides.{nat_tests}
use Rattle.fkv_plane.specs.declared.places.Places.{Places}
use Rattle.fkv_plane.specs.declared.asks.Ask.{Ask}
use Rattle.fkv_plane.specs.declared.asks.Ask.TheVariants.{Done}
use Rattle.fkv_plane.specs.Places.{overflow_place}
use Rattle.fkv_index.specs.declared.finding.FindAnswer.{FindAnswer}
use Rattle.fkv_index.specs.declared.finding.FindStep.{FindStep}
use Rattle.fkv_index.specs.declared.finding.FindStep.TheVariants.{AtRest, LinksBucket, LoadsLink, LoadsSlot, LoadsTaken, TakesBucket}
use Rattle.fkv_index.specs.declared.finding.Finding.{Finding}
use Rattle.fkv_index.specs.declared.finding.Found.{Found}
use Rattle.fkv_index.specs.declared.finding.Found.TheVariants.{Contended, Full, Kept, NoSlot, Slot}
use Rattle.fkv_index.specs.declared.finding.Linking.{Linking}
use Rattle.fkv_index.specs.declared.finding.Linking.TheVariants.{Made, Never, Once, Within}
use Rattle.fkv_index.specs.Finding.{ended_list, entered, find_ask, find_led, find_next, find_next_ask, find_step_ask, led_ask, led_to, link_led, slot_led}
use Rattle.fkv_index.specs.Slots.{entry_tag, is_entry, link_of, slot_word}
use Rattle.law_local.specs.Tries.Replies.{HasNoLink}
use Rattle.law_apart.specs.Apart.Rows.{has_linked, is_link_step, is_linking}

-- what is led to links only where it did before, or where there was no link
abbrev LinksSo : Finding → FindStep → ℕ → Finding → Type 0
LinksSo f step reply after = is_linking after ≡ true → (is_linking f ≡ true) ⊎ HasNoLink step reply

either_so : (a b c : Bool) → b ≡ c → a ≡ false → (a || b) ≡ true → c ≡ true
either_so true b c same none e = cc
either_so false b c same none e = sym same ∙ e

or_so : (a b : Bool) → b ≡ true → (a || b) ≡ true
or_so true b e = refl
or_so false b e = e

first_so : (a b : Bool) → a ≡ true → (a || b) ≡ true
first_so true b e = refl
first_so false b e = cc

still : (f : Finding) (step : FindStep) (reply : ℕ) (after : Finding) → is_link_step after.step ≡ false → after.linking ≡ f.linking → LinksSo f step reply after
still f step reply after none same links = inl (or_so (is_link_step f.step) (has_linked f.linking) (either_so (is_link_step after.step) (has_linked after.linking) (has_linked f.linking) (ap has_linked same) none links))

ends : (f : Finding) (step : FindStep) (reply : ℕ) → LinksSo f step reply (record f { step = AtRest })
ends f step reply = still f step reply (record f { step = AtRest }) refl refl

enters : (p : Places) (f : Finding) (step : FindStep) (reply number : ℕ) → LinksSo f step reply (led_to (entered p f number))
enters p f step reply number = by_test (nat_lt 0 f.links && nat_le number p.overflow) refl
  where
    by_test : (b : Bool) → (nat_lt 0 f.links && nat_le number p.overflow) ≡ b → LinksSo f step reply (led_to (entered p f number))
    by_test true e = rw e (still f step reply (record f { base = overflow_place p number 0; links = f.links - 1; step = LoadsSlot 0 }) refl refl)
    by_test false e = rw e (ends f step reply)

no_link_step : (b : Bool) (slot : ℕ) → is_link_step (if b then LoadsSlot (slot + 1) else LoadsLink) ≡ false
no_link_step true slot = refl
no_link_step false slot = refl

slots : (f : Finding) (slot reply : ℕ) → LinksSo f (LoadsSlot slot) reply (led_to (slot_led f slot reply (slot_word reply)))
unfolding slot_word
slots f slot reply = by_none (reply == 0) refl
  where
    by_tag : (b : Bool) → (reply == 0) ≡ false → is_entry reply ≡ true → (entry_tag reply == f.home.tag) ≡ b → LinksSo f (LoadsSlot slot) reply (led_to (slot_led f slot reply (slot_word reply)))
    by_tag true some entry e = rw (some, entry, e) (ends f (LoadsSlot slot) reply)
    by_tag false some entry e = rw (some, entry, e) (still f (LoadsSlot slot) reply (record f { step = if nat_lt (slot + 1) 7 then LoadsSlot (slot + 1) else LoadsLink }) (no_link_step (nat_lt (slot + 1) 7) slot) refl)

    by_entry : (b : Bool) → (reply == 0) ≡ false → is_entry reply ≡ b → LinksSo f (LoadsSlot slot) reply (led_to (slot_led f slot reply (slot_word reply)))
    by_entry true some e = by_tag (entry_tag reply == f.home.tag) some e refl
    by_entry false some e = rw (some, e) (ends f (LoadsSlot slot) reply)

    by_none : (b : Bool) → (reply == 0) ≡ b → LinksSo f (LoadsSlot slot) reply (led_to (slot_led f slot reply (slot_word reply)))
    by_none true e = rw e (ends f (LoadsSlot slot) reply)
    by_none false e = by_entry (is_entry reply) e refl

links : (p : Places) (f : Finding) (reply : ℕ) → LinksSo f LoadsLink reply (led_to (link_led p f reply))
links p f reply = by_test (link_of reply == 0) refl
  where
    by_test : (b : Bool) → (link_of reply == 0) ≡ b → LinksSo f LoadsLink reply (led_to (link_led p f reply))
    by_test true e = let none : link_of reply ≡ 0 = grind (arith, nat_tests, e) in λ so. inr (refl, none)
    by_test false e = rw e (enters p f LoadsLink reply (link_of reply))

-- a search that links does so on
linked : (f : Finding) (step : FindStep) (reply : ℕ) (after : Finding) → f.step ≡ step → is_link_step step ≡ true → LinksSo f step reply after
linked f step reply after at is so = inl (first_so (is_link_step f.step) (has_linked f.linking) (ap is_link_step at ∙ is))

led_so : (p : Places) (f : Finding) (step : FindStep) (reply : ℕ) → f.step ≡ step → LinksSo f step reply (led_to (find_led p f step reply))
unfolding find_led
led_so p f AtRest reply at = ends f AtRest reply
led_so p f (LoadsSlot slot) reply at = slots f slot reply
led_so p f LoadsLink reply at = links p f reply
led_so p f (LoadsTaken word) reply at = linked f (LoadsTaken word) reply (led_to (find_led p f (LoadsTaken word) reply)) at refl
led_so p f (TakesBucket word taken) reply at = linked f (TakesBucket word taken) reply (led_to (find_led p f (TakesBucket word taken) reply)) at refl
led_so p f (LinksBucket word) reply at = linked f (LinksBucket word) reply (led_to (find_led p f (LinksBucket word) reply)) at refl

pub links_so : (p : Places) (f : Finding) (reply : ℕ) → is_linking (find_next p f reply) ≡ true → (is_linking f ≡ true) ⊎ HasNoLink f.step reply
links_so p f reply is = led_so p f f.step reply refl is

-- ---- a search that finds no bucket to take, or none that it may
abbrev pub is_full : Found → Bool
is_full Full = true
is_full Kept = true
is_full found = false

-- it was to link
abbrev FullSo : FindStep → Ask FindAnswer → Type 0
FullSo step ask = (its : FindAnswer) → ask ≡ Done its → is_full its.found ≡ true → is_link_step step ≡ true

-- one that has found this is at its end
not_full : {X : Type 0} (a its : FindAnswer) → is_full a.found ≡ false → Done a ≡ Done its → is_full its.found ≡ true → X
not_full a its none e full = let same : a ≡ its = cc in let is : is_full a.found ≡ is_full its.found = ap (λ (x : FindAnswer). is_full x.found) same in let clash : false ≡ true = sym none ∙ is ∙ full in cc

goes_full : (after : Finding) (at step : FindStep) → (at ≡ AtRest → ⊥) → FullSo step (find_step_ask after at)
unfolding find_step_ask
goes_full after AtRest step busy its e full = absurd (busy refl)
goes_full after (LoadsSlot slot) step busy its e full = cc
goes_full after LoadsLink step busy its e full = cc
goes_full after (LoadsTaken word) step busy its e full = cc
goes_full after (TakesBucket word taken) step busy its e full = cc
goes_full after (LinksBucket word) step busy its e full = cc

lost_full : (f : Finding) (step : FindStep) → FullSo step (Done (record { found = Contended; spare = f.spare }))
lost_full f step its e full = not_full (record { found = Contended; spare = f.spare }) its refl e full

slot_full : (f : Finding) (step : FindStep) (place word : ℕ) → FullSo step (Done (record { found = Slot place word; spare = f.spare }))
slot_full f step place word its e full = not_full (record { found = Slot place word; spare = f.spare }) its refl e full

none_full : (f : Finding) (step : FindStep) → FullSo step (Done (record { found = NoSlot; spare = f.spare }))
none_full f step its e full = not_full (record { found = NoSlot; spare = f.spare }) its refl e full

enters_full : (p : Places) (f : Finding) (step : FindStep) (number : ℕ) → FullSo step (led_ask (entered p f number))
enters_full p f step number = by_test (nat_lt 0 f.links && nat_le number p.overflow) refl
  where
    by_test : (b : Bool) → (nat_lt 0 f.links && nat_le number p.overflow) ≡ b → FullSo step (led_ask (entered p f number))
    by_test true e = rw e (goes_full (record f { base = overflow_place p number 0; links = f.links - 1; step = LoadsSlot 0 }) (LoadsSlot 0) step (λ (rest : LoadsSlot 0 ≡ AtRest). cc))
    by_test false e = rw e (lost_full f step)

after_full : (f : Finding) (b : Bool) (slot : ℕ) (step : FindStep) → FullSo step (find_ask (record f { step = if b then LoadsSlot (slot + 1) else LoadsLink }))
after_full f true slot step = goes_full (record f { step = LoadsSlot (slot + 1) }) (LoadsSlot (slot + 1)) step (λ (rest : LoadsSlot (slot + 1) ≡ AtRest). cc)
after_full f false slot step = goes_full (record f { step = LoadsLink }) LoadsLink step (λ (rest : LoadsLink ≡ AtRest). cc)

slots_full : (f : Finding) (slot reply : ℕ) (step : FindStep) → FullSo step (led_ask (slot_led f slot reply (slot_word reply)))
unfolding slot_word
slots_full f slot reply step = by_none (reply == 0) refl
  where
    by_tag : (b : Bool) → (reply == 0) ≡ false → is_entry reply ≡ true → (entry_tag reply == f.home.tag) ≡ b → FullSo step (led_ask (slot_led f slot reply (slot_word reply)))
    by_tag true some entry e = rw (some, entry, e) (slot_full f step (f.base + slot) reply)
    by_tag false some entry e = rw (some, entry, e) (after_full f (nat_lt (slot + 1) 7) slot step)

    by_entry : (b : Bool) → (reply == 0) ≡ false → is_entry reply ≡ b → FullSo step (led_ask (slot_led f slot reply (slot_word reply)))
    by_entry true some e = by_tag (entry_tag reply == f.home.tag) some e refl
    by_entry false some e = rw (some, e) (lost_full f step)

    by_none : (b : Bool) → (reply == 0) ≡ b → FullSo step (led_ask (slot_led f slot reply (slot_word reply)))
    by_none true e = rw e (slot_full f step (f.base + slot) 0)
    by_none false e = by_entry (is_entry reply) e refl

takes_full : (f : Finding) (word : ℕ) (b : Bool) (step : FindStep) → FullSo step (find_ask (record f { step = if b then LoadsTaken word else LinksBucket word }))
takes_full f word true step = goes_full (record f { step = LoadsTaken word }) (LoadsTaken word) step (λ (rest : LoadsTaken word ≡ AtRest). cc)
takes_full f word false step = goes_full (record f { step = LinksBucket word }) (LinksBucket word) step (λ (rest : LinksBucket word ≡ AtRest). cc)

list_full : (f : Finding) (word : ℕ) (linking : Linking) (step : FindStep) → FullSo step (led_ask (ended_list f word linking))
list_full f word Never step = none_full f step
list_full f word Once step = takes_full f word (f.spare == 0) step
list_full f word (Within bound) step = takes_full f word true step
list_full f word Made step = lost_full f step

links_full : (p : Places) (f : Finding) (reply : ℕ) (step : FindStep) → FullSo step (led_ask (link_led p f reply))
links_full p f reply step = by_test (link_of reply == 0) refl
  where
    by_test : (b : Bool) → (link_of reply == 0) ≡ b → FullSo step (led_ask (link_led p f reply))
    by_test true e = rw e (list_full f reply f.linking step)
    by_test false e = rw e (enters_full p f step (link_of reply))

full_so : (p : Places) (f : Finding) (step : FindStep) (reply : ℕ) → FullSo step (led_ask (find_led p f step reply))
unfolding find_led
full_so p f AtRest reply = lost_full f AtRest
full_so p f (LoadsSlot slot) reply = slots_full f slot reply (LoadsSlot slot)
full_so p f LoadsLink reply = links_full p f reply LoadsLink
full_so p f (LoadsTaken word) reply = λ its e full. refl
full_so p f (TakesBucket word taken) reply = λ its e full. refl
full_so p f (LinksBucket word) reply = λ its e full. refl

pub full_links : (p : Places) (f : Finding) (reply : ℕ) (its : FindAnswer) → find_next_ask p f reply ≡ Done its → is_full its.found ≡ true → is_linking f ≡ true
full_links p f reply its e full = first_so (is_link_step f.step) (has_linked f.linking) (full_so p f f.step reply its e full)
