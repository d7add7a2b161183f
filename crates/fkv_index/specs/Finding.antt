-- How the slot of a home is found: the slots of its bucket from the left, then those of each overflow bucket that follows, up to an entry
-- of the home's tag or an empty slot. An update that comes to the end without either links one more overflow bucket, and goes on there.
use Rattle.std.specs.Prelude.{◌≡◌, ℕ, ◌+◌, ◌-◌, ◌*◌, ◌^◌, ◌<◌, ◌≤◌, ◌==◌, ◌&&◌, nat_lt, nat_le, if◌then◌else◌, not, Bool, true, false, ⊤}
use Rattle.fkv_base.specs.Limits.{max_overflow}
use Rattle.fkv_plane.specs.declared.asks.Ask.{Ask}
use Rattle.fkv_plane.specs.declared.asks.Ask.TheVariants.{Load, Cas, Done}
use Rattle.fkv_plane.specs.declared.places.Places.{Places}
use Rattle.fkv_plane.specs.declared.places.SharedWord.TheVariants as one
use Rattle.fkv_plane.specs.Places.{shared_place, bucket_place, overflow_place}
use Rattle.fkv_index.specs.declared.homes.Home.{Home}
use Rattle.fkv_index.specs.declared.slot_words.SlotWord.{SlotWord}
use Rattle.fkv_index.specs.declared.slot_words.SlotWord.TheVariants.{Empty, Tagged, Spoiled}
use Rattle.fkv_index.specs.declared.finding.Purpose.{Purpose}
use Rattle.fkv_index.specs.declared.finding.Purpose.TheVariants.{Read, Update, UpdateWithin}
use Rattle.fkv_index.specs.declared.finding.Linking.{Linking}
use Rattle.fkv_index.specs.declared.finding.Linking.TheVariants.{Never, Once, Within, Made}
use Rattle.fkv_index.specs.declared.finding.Found.TheVariants.{Slot, NoSlot, Full, Kept, Contended}
use Rattle.fkv_index.specs.declared.finding.FindAnswer.{FindAnswer}
use Rattle.fkv_index.specs.declared.finding.FindStep.{FindStep}
use Rattle.fkv_index.specs.declared.finding.FindStep.TheVariants.{AtRest, LoadsSlot, LoadsLink, LoadsTaken, TakesBucket, LinksBucket}
use Rattle.fkv_index.specs.declared.finding.Finding.{Finding}
use Rattle.fkv_index.specs.declared.finding.Led.{Led}
use Rattle.fkv_index.specs.declared.finding.Led.TheVariants.{On, Ends}
use Rattle.fkv_index.specs.Slots.{bucket_slots, slot_word, link_of}

pub record Finder : Type 0 where
  pub places : Places
  -- the index has 2^bits buckets
  pub bits : ℕ
  pub finding : Finding

-- a search at rest, which has this spare bucket
abbrev pub rested : ℕ → Finding
rested spare = record { home = record { bucket = 0; tag = 0 }; base = 0; links = 0; linking = Never; spare = spare; step = AtRest }

-- an update may link a bucket, once; a read never does
abbrev pub linking_for : Purpose → Linking
linking_for Read = Never
linking_for Update = Once
linking_for (UpdateWithin bound) = Within bound

-- a spare is one of the overflow buckets, and else none
abbrev pub spare_of : Places → ℕ → ℕ
spare_of p spare = if nat_le spare p.overflow then spare else 0

-- a search begins at the first slot of the home's bucket; it may follow as many links as there are overflow buckets
abbrev pub first_finding : Places → Home → Purpose → ℕ → Finding
first_finding p home purpose spare = record { home = home; base = bucket_place p home.bucket 0; links = p.overflow; linking = linking_for purpose; spare = spare_of p spare; step = LoadsSlot 0 }

-- what each state asks. A link is the number of the spare bucket, added to an eighth word that has none
unfoldable pub find_step_ask : Finding → FindStep → Ask FindAnswer
find_step_ask f AtRest = Done (record { found = Contended; spare = f.spare })
find_step_ask f (LoadsSlot slot) = Load (f.base + slot)
find_step_ask f LoadsLink = Load (f.base + bucket_slots)
find_step_ask f (LoadsTaken word) = Load (shared_place one.Taken)
find_step_ask f (TakesBucket word taken) = Cas (shared_place one.Taken) taken (taken + 1)
find_step_ask f (LinksBucket word) = Cas (f.base + bucket_slots) word (word + f.spare)

abbrev pub find_ask : Finding → Ask FindAnswer
find_ask f = find_step_ask f f.step

-- behind the last slot comes the link
abbrev pub slot_after : ℕ → FindStep
slot_after slot = if nat_lt (slot + 1) bucket_slots then LoadsSlot (slot + 1) else LoadsLink

-- an empty slot and an entry of the tag end the search
abbrev pub slot_led : Finding → ℕ → ℕ → SlotWord → Led
slot_led f slot word Empty = Ends f (Slot (f.base + slot) 0)
slot_led f slot word (Tagged tag) = if tag == f.home.tag then Ends f (Slot (f.base + slot) word) else On (record f { step = slot_after slot })
slot_led f slot word Spoiled = Ends f Contended

-- on to the first slot of an overflow bucket, where there is one of that number and fewer were passed than there are
abbrev pub entered : Places → Finding → ℕ → Led
entered p f number = if nat_lt 0 f.links && nat_le number p.overflow then On (record f { base = overflow_place p number 0; links = f.links - 1; step = LoadsSlot 0 }) else Ends f Contended

-- no bucket follows: a read has found nothing, and an update links its spare, or takes a bucket before that. It links one and no more. Within a bound
-- it loads the count before either
abbrev pub ended_list : Finding → ℕ → Linking → Led
ended_list f word Never = Ends f NoSlot
ended_list f word Once = On (record f { step = if f.spare == 0 then LoadsTaken word else LinksBucket word })
ended_list f word (Within bound) = On (record f { step = LoadsTaken word })
ended_list f word Made = Ends f Contended

abbrev pub link_led : Places → Finding → ℕ → Led
link_led p f word = if link_of word == 0 then ended_list f word f.linking else entered p f (link_of word)

-- where all overflow buckets are taken there is none left
abbrev pub takes_led : Places → Finding → ℕ → ℕ → Led
takes_led p f word taken = if nat_lt taken p.overflow then On (record f { step = TakesBucket word taken }) else Ends f Full

-- within a bound no bucket is linked where as many are taken
abbrev pub is_kept : Linking → ℕ → Bool
is_kept (Within bound) taken = nat_le bound taken
is_kept linking taken = false

-- the spare is linked, and else a bucket is taken before that
abbrev pub taken_led : Places → Finding → ℕ → ℕ → Led
taken_led p f word taken = if is_kept f.linking taken then Ends f Kept else if f.spare == 0 then takes_led p f word taken else On (record f { step = LinksBucket word })

-- the bucket after the last that was taken is the session's spare
abbrev pub took_led : Finding → ℕ → ℕ → ℕ → Led
took_led f word taken reply = if reply == taken then On (record f { spare = taken + 1; step = LinksBucket word }) else Ends f Contended

-- the spare is linked, and the search goes on there
abbrev pub linked_led : Places → Finding → ℕ → ℕ → Led
linked_led p f word reply = if reply == word then entered p (record f { linking = Made; spare = 0 }) f.spare else Ends f Contended

-- where a reply leads: on, or to an end and what was found
unfoldable pub find_led : Places → Finding → FindStep → ℕ → Led
find_led p f AtRest reply = Ends f Contended
find_led p f (LoadsSlot slot) reply = slot_led f slot reply (slot_word reply)
find_led p f LoadsLink reply = link_led p f reply
find_led p f (LoadsTaken word) reply = taken_led p f word reply
find_led p f (TakesBucket word taken) reply = took_led f word taken reply
find_led p f (LinksBucket word) reply = linked_led p f word reply

abbrev pub led_to : Led → Finding
led_to (On f) = f
led_to (Ends f found) = record f { step = AtRest }

abbrev pub led_ask : Led → Ask FindAnswer
led_ask (On f) = find_ask f
led_ask (Ends f found) = Done (record { found = found; spare = f.spare })

-- where the reply leads, and what is asked then
abbrev pub find_next : Places → Finding → ℕ → Finding
find_next p f reply = led_to (find_led p f f.step reply)

abbrev pub find_next_ask : Places → Finding → ℕ → Ask FindAnswer
find_next_ask p f reply = led_ask (find_led p f f.step reply)

-- the asks of a link that may still be made: two for the count and the bucket, and one for the link
abbrev pub linking_asks : Linking → ℕ
linking_asks Never = 0
linking_asks Once = 3
linking_asks (Within bound) = 3
linking_asks Made = 0

-- the search has linked a bucket
abbrev pub is_made : Linking → Bool
is_made Made = true
is_made linking = false

-- it has followed a link, and made none: so it is in an overflow bucket that others have linked
abbrev pub is_beyond : Places → Finding → Bool
is_beyond p f = nat_lt f.links p.overflow && not (is_made f.linking)

-- how many asks a search makes at most: eight for each bucket that it may still pass, and those of a link
unfoldable pub step_asks_left : Finding → FindStep → ℕ
step_asks_left f AtRest = 0
step_asks_left f (LoadsSlot slot) = 2 + (6 - slot) + 8 * f.links + linking_asks f.linking
step_asks_left f LoadsLink = 1 + 8 * f.links + linking_asks f.linking
step_asks_left f (LoadsTaken word) = 3 + 8 * f.links
step_asks_left f (TakesBucket word taken) = 2 + 8 * f.links
step_asks_left f (LinksBucket word) = 1 + 8 * f.links

abbrev pub asks_left : Finding → ℕ
asks_left f = step_asks_left f f.step

abbrev pub led_asks_left : Led → ℕ
led_asks_left (On f) = asks_left f
led_asks_left (Ends f found) = 0

-- numbers of slots and buckets that there are; and an eighth word that is kept has room for a link
abbrev pub IsStepInRange : Places → ℕ → FindStep → Type 0
IsStepInRange p spare AtRest = ⊤
IsStepInRange p spare (LoadsSlot slot) = slot < bucket_slots
IsStepInRange p spare LoadsLink = ⊤
IsStepInRange p spare (LoadsTaken word) = word + max_overflow < 2 ^ 64
IsStepInRange p spare (TakesBucket word taken) = (word + max_overflow < 2 ^ 64) × (taken < p.overflow)
IsStepInRange p spare (LinksBucket word) = (word + max_overflow < 2 ^ 64) × (1 ≤ spare)

pub record IsInRange (p : Places) (f : Finding) : Type 0 where
  pub base_fits : f.base < 2 ^ 32
  pub its_spare : f.spare ≤ p.overflow
  pub its_step : IsStepInRange p f.spare f.step

abbrev pub IsLedInRange : Places → Led → Type 0
IsLedInRange p led = IsInRange p (led_to led)

-- the buckets are as many as the bits say
pub record IsFindInRange (m : Finder) : Type 0 where
  pub bits_fit : m.bits < 64
  pub its_buckets : m.places.buckets ≡ 2 ^ m.bits
  pub its_finding : IsInRange m.places m.finding
