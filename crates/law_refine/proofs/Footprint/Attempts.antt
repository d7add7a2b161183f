-- An attempt spares each part but where it works there: in its try, and in a task with its session's mailbox.
use Rattle.std.proofs.Common.{◌≡◌, ◌≢◌, ℕ, refl, sym, subst, arith, Bool, true, false}
use Rattle.std.specs.Prelude.{if◌then◌else◌, ⊤, Option, Some, None}
use Rattle.fkv_plane.specs.declared.asks.Ask.{Ask}
use Rattle.fkv_plane.specs.declared.asks.Ask.TheVariants.{Done}
use Rattle.fkv_plane.specs.declared.places.Places.{Places}
use Rattle.law_world.specs.Below.fkv_ops.DiskRecord.{DiskRecord}
use Rattle.law_world.specs.Below.fkv_ops.TryAnswer.{TryAnswer}
use Rattle.law_world.specs.Below.fkv_ops.TryAnswer.TheVariants as answer
use Rattle.law_world.specs.Below.fkv_ops.Occasion.{Occasion}
use Rattle.law_world.specs.Below.fkv_ops.Seen.{Seen}
use Rattle.law_world.specs.Below.fkv_ops.Trying.{try_ask, try_next}
use Rattle.law_world.specs.Below.fkv_pending.TheAttempting.{Attempting}
use Rattle.law_world.specs.Below.fkv_pending.TheAttempting.TheVariants.{Ended, Looks, Tries, Puts}
use Rattle.law_world.specs.Below.fkv_pending.MailAnswer.{MailAnswer}
use Rattle.law_world.specs.Below.fkv_pending.MailAnswer.TheVariants as mail
use Rattle.law_world.specs.Below.fkv_pending.MailTask.TheVariants.{Take}
use Rattle.law_world.specs.Below.fkv_pending.TheMailing.TheVariants as mailing
use Rattle.law_world.specs.Below.fkv_pending.PendingRequest.{PendingRequest}
use Rattle.law_world.specs.Below.fkv_pending.Mailing.{mail_ask, mail_next}
use Rattle.law_world.specs.Below.fkv_pending.Pending.{with_sought, with_held, with_latch}
use Rattle.law_world.specs.Below.fkv_pending.Attempting.{AttemptState, attempting_ask, attempt_ask, waits_for_disk, puts_addr, puts, tries, is_seeking_read, goes_on, attempt_begun, look_ledto, held_kept, tried, try_ledto, put_ledto, mail_moved, try_moved, attempting_next, attempt_next, new_attempt}
use Rattle.law_refine.specs.Mail.Mailers.{attempt_mailing}
use Rattle.fkv_plane.specs.declared.places.SessionWord.TheVariants as own
use Rattle.fkv_latch.specs.declared.latching.Latching.TheVariants as latching
use Rattle.law_world.specs.Below.fkv_pending.TheMailing.{Mailing}
use Rattle.law_refine.specs.Footprint.{Part, TheIndex, TheLatches, TheMailbox, HasSeat, Spares}
use Rattle.law_refine.specs.Index.Finders.{attempt_part, search_in, entry_in}
use Rattle.law_refine.specs.Latches.Latchers.{attempt_latching}
use Rattle.law_refine.proofs.Footprint.Latching.{passed_spares}
use Rattle.law_refine.proofs.Footprint.Outside.{mail_outside}
use Rattle.law_refine.proofs.OfIndex.AttemptParts.{AttemptKnows}
use Rattle.law_refine.proofs.Footprint.Tries.{IsTrySparing, try_spares, try_next_spares, try_begun_spares}
use Rattle.law_refine.proofs.OfEvents.Looks.{look_holds}

-- its try keeps to its bounds
abbrev pub AttemptBounds : Places → AttemptState → Attempting → Type 0
AttemptBounds p a Tries = IsTrySparing p a.trial
AttemptBounds p a step = ⊤

abbrev pub IsAttemptSparing : Places → AttemptState → Type 0
IsAttemptSparing p a = AttemptBounds p a a.step

-- no machine that works on the part is under way
pub record AttemptRests (part : Part) (p : Places) (n : ℕ) (a : AttemptState) (step : Attempting) : Type 0 where
  pub knows : part ≡ TheIndex → AttemptKnows p a step
  pub search : part ≡ TheIndex → search_in (attempt_part a step).work ≡ None
  pub entry : part ≡ TheIndex → entry_in (attempt_part a step).work ≡ None
  pub latch : part ≡ TheLatches → attempt_latching a step ≡ latching.AtRest
  pub mail : part ≡ TheMailbox n → attempt_mailing a step ≡ None

-- a task with a mailbox
pub mail_spares : (part : Part) (p : Places) (n : ℕ) (step : Mailing) → HasSeat part p n → part ≢ TheMailbox n → Spares part p (mail_ask n step)
unfolding mail_ask
mail_spares part p n (mailing.StoresEmpty its) there other = mail_outside part p n own.MailState (omega arith) there other
mail_spares part p n (mailing.StoresAddress addr) there other = mail_outside part p n own.MailAddress (omega arith) there other
mail_spares part p n mailing.StoresAsked there other = mail_outside part p n own.MailState (omega arith) there other
mail_spares part p n step there other = tt

-- where one is under way, no part is its mailbox
pub is_other : (part : Part) (n : ℕ) (its : Mailing) → (part ≡ TheMailbox n → Some its ≡ None) → part ≢ TheMailbox n
is_other part n its none = λ same. let clash : Some its ≡ None = none same in cc

-- what it asks for
attempting_spares : (part : Part) (p : Places) (n : ℕ) (a : AttemptState) (step : Attempting) → HasSeat part p n → AttemptBounds p a step → AttemptRests part p n a step → Spares part p (attempting_ask p n a step)
unfolding attempting_ask
attempting_spares part p n a (Ended its) there bounds rests = tt
attempting_spares part p n a Looks there bounds rests = passed_spares part p _ _ (mail_spares part p n a.mailing there (is_other part n a.mailing rests.mail))
attempting_spares part p n a Tries there bounds rests =
    passed_spares part p _ _ (try_spares part p a.trial bounds (record { knows = λ index. (rests.knows index).at; search = rests.search; entry = rests.entry; latch = rests.latch }))
attempting_spares part p n a Puts there bounds rests = passed_spares part p _ _ (mail_spares part p n a.mailing there (is_other part n a.mailing rests.mail))

pub attempt_spares : (part : Part) (p : Places) (n : ℕ) (a : AttemptState) → HasSeat part p n → IsAttemptSparing p a → AttemptRests part p n a a.step → Spares part p (attempt_ask p n a)
attempt_spares part p n a there bounds rests = attempting_spares part p n a a.step there bounds rests

-- where a reply leads
either_spares : (c : Bool) (p : Places) (a b : AttemptState) → IsAttemptSparing p a → IsAttemptSparing p b → IsAttemptSparing p (if c then a else b)
either_spares true p a b one other = one
either_spares false p a b one other = other

stays_spares : (p : Places) (a : AttemptState) (step : Attempting) → a.step ≡ step → AttemptBounds p a step → IsAttemptSparing p a
stays_spares p a step at bounds = subst (λ x. AttemptBounds p a x) (sym at) bounds

puts_spares : (p : Places) (a : AttemptState) (sought : Option DiskRecord) → IsAttemptSparing p (puts_addr a sought)
puts_spares p a None = tt
puts_spares p a (Some sought) = tt

tries_spares : (p : Places) (bits : ℕ) (a : AttemptState) → IsAttemptSparing p (tries p bits a)
tries_spares p bits a = try_begun_spares p bits a.pending.request a.seen a.occasion a.spare

goes_spares : (p : Places) (bits : ℕ) (a : AttemptState) → IsAttemptSparing p (goes_on p bits a)
goes_spares p bits a = either_spares (is_seeking_read a) p (puts a) (tries p bits a) (puts_spares p a a.pending.sought) (tries_spares p bits a)

pub attempt_begun_spares : (p : Places) (bits : ℕ) (pending : PendingRequest) (seen : Seen) (occasion : Occasion) (spare : ℕ) (is_orphaned : Bool) → IsAttemptSparing p (attempt_begun p bits pending seen occasion spare is_orphaned)
attempt_begun_spares p bits pending seen occasion spare is_orphaned =
    let first : AttemptState = new_attempt bits pending seen occasion spare is_orphaned in
    either_spares pending.has_asked p (record first { mailing = mailing.LoadsState Take; step = Looks }) (goes_on p bits first) tt (goes_spares p bits first)

look_spares : (p : Places) (bits : ℕ) (a : AttemptState) (ask : Ask MailAnswer) → a.step ≡ Looks → IsAttemptSparing p (look_ledto p bits a ask)
look_spares p bits a ask at =
    look_holds (λ its. IsAttemptSparing p its) (λ its told. tt) (λ its sought. puts_spares p its sought) p bits (λ its. tries_spares p bits its) a ask
    (stays_spares p a Looks at tt)

put_spares : (p : Places) (a : AttemptState) (ask : Ask MailAnswer) → a.step ≡ Puts → IsAttemptSparing p (put_ledto a ask)
unfolding put_ledto
put_spares p a (Done mail.Asked) at = tt
put_spares p a (Done other) at = tt
put_spares p a ask at = stays_spares p a Puts at tt

tried_spares : (p : Places) (a : AttemptState) (its : TryAnswer) → IsAttemptSparing p (tried a its)
tried_spares p a (answer.AwaitsDisk sought) =
    let kept : AttemptState = record a { pending = with_held a.pending (held_kept a.pending.request.held sought.entry) } in
    let moved : AttemptState = record kept { pending = with_sought kept.pending (Some sought) } in
    either_spares a.pending.has_asked p (waits_for_disk kept) (puts moved) tt (puts_spares p moved moved.pending.sought)
tried_spares p a its = tt

try_ledto_spares : (p : Places) (a : AttemptState) (ask : Ask TryAnswer) → a.step ≡ Tries → IsTrySparing p a.trial → IsAttemptSparing p (try_ledto a ask)
unfolding try_ledto
try_ledto_spares p a (Done its) at bounds = tried_spares p (record a { spare = a.trial.spare; pending = with_latch a.pending a.trial.has_shared }) its
try_ledto_spares p a ask at bounds = stays_spares p a Tries at bounds

next_spares : (p : Places) (bits room n : ℕ) (a : AttemptState) (step : Attempting) (reply : ℕ) → a.step ≡ step → AttemptBounds p a step → IsAttemptSparing p (attempting_next p bits room n a step reply)
unfolding attempting_next
next_spares p bits room n a (Ended its) reply at bounds = stays_spares p a (Ended its) at tt
next_spares p bits room n a Looks reply at bounds = look_spares p bits (mail_moved a reply) (mail_ask n (mail_next a.mailing reply)) at
next_spares p bits room n a Tries reply at bounds = try_ledto_spares p (try_moved p room a reply) (try_ask p (try_next p room a.trial reply)) at (try_next_spares p room a.trial reply bounds)
next_spares p bits room n a Puts reply at bounds = put_spares p (mail_moved a reply) (mail_ask n (mail_next a.mailing reply)) at

effect_spares : (p : Places) (a : AttemptState) (step : Attempting) → AttemptBounds p a step → AttemptBounds p (record a { effect = None }) step
effect_spares p a Tries bounds = bounds
effect_spares p a step bounds = tt

-- each reply
pub attempt_next_spares : (p : Places) (bits room n : ℕ) (a : AttemptState) (reply : ℕ) → IsAttemptSparing p a → IsAttemptSparing p (attempt_next p bits room n a reply)
attempt_next_spares p bits room n a reply bounds = next_spares p bits room n (record a { effect = None }) a.step reply refl (effect_spares p a a.step bounds)
