-- The places where no word of a part is.
use Rattle.std.proofs.Common.{◌≡◌, ◌≢◌, ℕ, ◌+◌, ◌-◌, ◌%◌, ◌^◌, ◌<◌, ◌≤◌, ◌⊎◌, refl, ap, arith, inl, inr, Bool, true, false}
use Rattle.std.specs.Prelude.{◌==◌, if◌then◌else◌}
use Rattle.std.proofs.lemmas.Bool.Decides.{nat_tests}
use Rattle.fkv_base.specs.Limits.{drain_slots, max_overflow}
use Rattle.fkv_plane.specs.declared.places.Places.{Places}
use Rattle.fkv_plane.specs.declared.places.RecordWord.{RecordWord}
use Rattle.fkv_plane.specs.declared.places.SessionWord.{SessionWord}
use Rattle.fkv_plane.specs.declared.places.SessionWord.TheVariants as own
use Rattle.fkv_plane.specs.declared.places.SharedWord.{SharedWord}
use Rattle.fkv_plane.specs.declared.places.SharedWord.TheVariants as one
use Rattle.fkv_plane.specs.Places.{shared_place, drain_place, session_number, session_place, bucket_place, record_place, frames_start}
use Rattle.fkv_latch.specs.LatchWorld.{has_latch, latch_of}
use Rattle.law_world.specs.Below.fkv_session.CatchingUp.{cut_of}
use Rattle.law_refine.specs.Footprint.{OwnWords, Marks, Durable, Mail, first_word, last_word, Part, TheIndex, TheLatches, ThePhase, OfSession, TheMarks, TheDurable, TheMailbox, IsElsewhere, IsOutside, MaySet, HasSeat, HasSeats}

-- of a session's sixteen words
within : (its : OwnWords) → session_number (last_word its) < 16
within Marks = omega arith
within Durable = omega arith
within Mail = omega arith

-- the words before the buckets have no latch, and but for one of them they are none of the index's
before_latches : (p : Places) (place : ℕ) → place < bucket_place p 0 0 → has_latch p place ≡ false
before_latches p place low = grind (arith, nat_tests)

before_index : (p : Places) (place : ℕ) → place < bucket_place p 0 0 → place ≢ shared_place one.Taken → IsElsewhere p place
before_index p place low other = record { no_count = other; no_bucket = grind (arith, nat_tests, low) }

-- the words before those of the sessions
low_outside : (part : Part) (p : Places) (place : ℕ) → place < 24 → (part ≡ TheIndex → place ≢ shared_place one.Taken) → (part ≡ ThePhase → place ≢ shared_place one.Phase) → IsOutside part p place
low_outside TheIndex p place low other apart = before_index p place (omega (arith, low)) (other refl)
low_outside TheLatches p place low other apart = before_latches p place (omega (arith, low))
low_outside ThePhase p place low other apart = apart refl
low_outside (OfSession session its) p place low other apart = λ there among. let from = among.from in omega (arith, low, from)

-- the words that the store has once: the count of taken overflow buckets is the index's, and the phase word is a part by itself
pub shared_outside : (part : Part) (p : Places) (word : SharedWord) → word ≢ one.Taken → word ≢ one.Phase → IsOutside part p (shared_place word)
shared_outside part p one.Epoch other apart = low_outside part p 0 (omega arith) (λ index e. cc) (λ phase e. cc)
shared_outside part p one.SafeEpoch other apart = low_outside part p 1 (omega arith) (λ index e. cc) (λ phase e. cc)
shared_outside part p one.Phase other apart = absurd (apart refl)
shared_outside part p one.Tail other apart = low_outside part p 3 (omega arith) (λ index e. cc) (λ phase e. cc)
shared_outside part p one.Limit other apart = low_outside part p 4 (omega arith) (λ index e. cc) (λ phase e. cc)
shared_outside part p one.ReadOnly other apart = low_outside part p 5 (omega arith) (λ index e. cc) (λ phase e. cc)
shared_outside part p one.SafeReadOnly other apart = low_outside part p 6 (omega arith) (λ index e. cc) (λ phase e. cc)
shared_outside part p one.Flushed other apart = low_outside part p 7 (omega arith) (λ index e. cc) (λ phase e. cc)
shared_outside part p one.Head other apart = low_outside part p 8 (omega arith) (λ index e. cc) (λ phase e. cc)
shared_outside part p one.Closed other apart = low_outside part p 9 (omega arith) (λ index e. cc) (λ phase e. cc)
shared_outside part p one.Taken other apart = absurd (other refl)

pub phase_outside : (part : Part) (p : Places) → part ≢ ThePhase → IsOutside part p (shared_place one.Phase)
phase_outside part p other = low_outside part p 2 (omega arith) (λ index e. cc) (λ phase e. other phase)

pub taken_outside : (part : Part) (p : Places) → part ≢ TheIndex → IsOutside part p (shared_place one.Taken)
taken_outside part p other = low_outside part p 10 (omega arith) (λ index e. other index) (λ phase e. cc)

pub drain_outside : (part : Part) (p : Places) (slot : ℕ) → slot < drain_slots → IsOutside part p (drain_place slot)
drain_outside part p slot low = low_outside part p (drain_place slot) (omega (arith, low)) (λ index e. omega (arith, e)) (λ phase e. omega (arith, e))

number_below : (word : SessionWord) → session_number word < 16
number_below own.Epoch = omega arith
number_below own.EvenCut = omega arith
number_below own.OddCut = omega arith
number_below own.Owing = omega arith
number_below own.Durable = omega arith
number_below own.MailState = omega arith
number_below own.MailAddress = omega arith
number_below own.MailHeader = omega arith
number_below own.MailKey = omega arith
number_below own.MailValue = omega arith

-- a word of a session is one of the part's
abbrev HasWord : Part → ℕ → SessionWord → Type 0
HasWord (OfSession session its) number word = (session ≡ number) × (session_number (first_word its) ≤ session_number word) × (session_number word ≤ session_number (last_word its))
HasWord part number word = ⊥

-- those that aren't
own_outside : (part : Part) (p : Places) (number : ℕ) (word : SessionWord) → HasSeat part p number → (HasWord part number word → ⊥) → IsOutside part p (session_place number word)
own_outside TheIndex p number word there lacks = let few = number_below word in before_index p (session_place number word) (omega (arith, few, there)) (λ e. omega (arith, e))
own_outside TheLatches p number word there lacks = let few = number_below word in before_latches p (session_place number word) (omega (arith, few, there))
own_outside ThePhase p number word there lacks = λ e. omega (arith, e)
own_outside (OfSession session its) p number word there lacks = λ inside among.
    let few = number_below word in
    let its_few = within its in
    let from = among.from in
    let to = among.to in
    let same : session ≡ number = omega (arith, few, its_few, from, to) in
    lacks (same, omega (arith, same, from), omega (arith, same, to))

-- no part has an epoch word
no_epoch : (part : Part) (number : ℕ) → HasWord part number own.Epoch → ⊥
no_epoch (OfSession session Marks) number has = let from = has.1 in omega (arith, from)
no_epoch (OfSession session Durable) number has = let from = has.1 in omega (arith, from)
no_epoch (OfSession session Mail) number has = let from = has.1 in omega (arith, from)
no_epoch part number has = has

pub epoch_outside : (part : Part) (p : Places) (number : ℕ) → HasSeat part p number → IsOutside part p (session_place number own.Epoch)
epoch_outside part p number there = own_outside part p number own.Epoch there (no_epoch part number)

-- the cut words and the owing word are the session's marks
no_mark : (part : Part) (number : ℕ) (word : SessionWord) → session_number word ≤ 3 → part ≢ TheMarks number → HasWord part number word → ⊥
no_mark (OfSession session Marks) number word few other has = other (ap (λ (s : ℕ). OfSession s Marks) has.0)
no_mark (OfSession session Durable) number word few other has = let from = has.1 in omega (arith, few, from)
no_mark (OfSession session Mail) number word few other has = let from = has.1 in omega (arith, few, from)
no_mark part number word few other has = has

pub owing_outside : (part : Part) (p : Places) (number : ℕ) → HasSeat part p number → part ≢ TheMarks number → IsOutside part p (session_place number own.Owing)
owing_outside part p number there other = own_outside part p number own.Owing there (no_mark part number own.Owing (omega arith) other)

pub cut_outside : (part : Part) (p : Places) (number version : ℕ) → HasSeat part p number → part ≢ TheMarks number → IsOutside part p (session_place number (cut_of version))
cut_outside part p number version there other = by_test (version % 2 == 0)
  where
    by_test : (b : Bool) → IsOutside part p (session_place number (if b then own.EvenCut else own.OddCut))
    by_test true = own_outside part p number own.EvenCut there (no_mark part number own.EvenCut (omega arith) other)
    by_test false = own_outside part p number own.OddCut there (no_mark part number own.OddCut (omega arith) other)

-- the durable word
no_durable : (part : Part) (number : ℕ) → part ≢ TheDurable number → HasWord part number own.Durable → ⊥
no_durable (OfSession session Marks) number other has = let to = has.2 in omega (arith, to)
no_durable (OfSession session Durable) number other has = other (ap (λ (s : ℕ). OfSession s Durable) has.0)
no_durable (OfSession session Mail) number other has = let from = has.1 in omega (arith, from)
no_durable part number other has = has

pub durable_outside : (part : Part) (p : Places) (number : ℕ) → HasSeat part p number → part ≢ TheDurable number → IsOutside part p (session_place number own.Durable)
durable_outside part p number there other = own_outside part p number own.Durable there (no_durable part number other)

-- the mailbox
no_mail : (part : Part) (number : ℕ) (word : SessionWord) → 5 ≤ session_number word → part ≢ TheMailbox number → HasWord part number word → ⊥
no_mail (OfSession session Marks) number word high other has = let to = has.2 in omega (arith, high, to)
no_mail (OfSession session Durable) number word high other has = let to = has.2 in omega (arith, high, to)
no_mail (OfSession session Mail) number word high other has = other (ap (λ (s : ℕ). OfSession s Mail) has.0)
no_mail part number word high other has = has

pub mail_outside : (part : Part) (p : Places) (number : ℕ) (word : SessionWord) → 5 ≤ session_number word → HasSeat part p number → part ≢ TheMailbox number → IsOutside part p (session_place number word)
mail_outside part p number word high there other = own_outside part p number word there (no_mail part number word high other)

-- the words of records, behind the buckets
pub record_outside : (part : Part) (p : Places) (addr : ℕ) (word : RecordWord) → IsOutside part p (record_place p addr word)
record_outside TheIndex p addr word =
    let high : frames_start p ≤ record_place p addr word = omega arith in
    record { no_count = λ e. omega (arith, e); no_bucket = grind (arith, nat_tests, high) }
record_outside TheLatches p addr word = let high : bucket_place p p.buckets 0 ≤ record_place p addr word = omega arith in grind (arith, nat_tests, high)
record_outside ThePhase p addr word = λ e. omega (arith, e)
record_outside (OfSession session its) p addr word = λ there among. let few = within its in let to = among.to in omega (arith, there, few, to)

-- the words of buckets are no session's, and a bucket's slots have no latch
pub bucket_outside : (session : ℕ) (its : OwnWords) (p : Places) (bucket word : ℕ) → IsOutside (OfSession session its) p (bucket_place p bucket word)
bucket_outside session its p bucket word = λ there among. let few = within its in let to = among.to in omega (arith, there, few, to)

pub slot_outside : (part : Part) (p : Places) (bucket slot : ℕ) → slot < 7 → part ≢ TheIndex → IsOutside part p (bucket_place p bucket slot)
slot_outside TheIndex p bucket slot low other = absurd (other refl)
slot_outside TheLatches p bucket slot low other =
    let within : (bucket_place p bucket slot - bucket_place p 0 0) % 8 ≡ slot = omega (arith, low) in
    grind (arith, nat_tests, low, within)
slot_outside ThePhase p bucket slot low other = λ e. omega (arith, e)
slot_outside (OfSession session its) p bucket slot low other = bucket_outside session its p bucket slot

-- a link that is set where there was none keeps the bits above it
pub link_outside : (part : Part) (p : Places) (bucket word spare : ℕ) → word % 2 ^ 48 ≡ 0 → spare ≤ max_overflow → part ≢ TheIndex
    → IsOutside part p (bucket_place p bucket 7) ⊎ MaySet part p (bucket_place p bucket 7) word (word + spare)
link_outside TheIndex p bucket word spare none few other = absurd (other refl)
link_outside TheLatches p bucket word spare none few other = inr (keeps word spare none few)
  where
    keeps : (word spare : ℕ) → word % 2 ^ 48 ≡ 0 → spare ≤ max_overflow → latch_of (word + spare) ≡ latch_of word
    keeps word spare none few = omega (arith, none, few)
link_outside ThePhase p bucket word spare none few other = inl (λ e. omega (arith, e))
link_outside (OfSession session its) p bucket word spare none few other = inl (bucket_outside session its p bucket 7)

-- one of so many sessions
pub seat_of : (part : Part) (p : Places) (count number : ℕ) → HasSeats part p count → number < count → HasSeat part p number
seat_of TheIndex p count number few low = omega (arith, few, low)
seat_of TheLatches p count number few low = omega (arith, few, low)
seat_of ThePhase p count number few low = omega (arith, few, low)
seat_of (OfSession session its) p count number few low = tt
