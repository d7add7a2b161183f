-- How one reply to an attempt moves its machine for latches.
use Rattle.std.proofs.Common.{◌≡◌, ℕ, ◌<◌, ◌∙◌, refl, sym, ap, subst, List, [], Bool, true, false}
use Rattle.std.specs.Prelude.{if◌then◌else◌, ⊤, Option, Some, None}
use Rattle.fkv_map.specs.Keys.{key_of}
use Rattle.fkv_plane.specs.declared.asks.Ask.{Ask}
use Rattle.fkv_plane.specs.declared.asks.Ask.TheVariants.{Done}
use Rattle.fkv_plane.specs.declared.places.Places.{Places}
use Rattle.fkv_plane.specs.Places.{bucket_place}
use Rattle.fkv_plane.specs.Passing.{is_done}
use Rattle.fkv_latch.specs.declared.latching.LatchTask.{LatchTask}
use Rattle.fkv_latch.specs.declared.latching.LatchTask.TheVariants.{TakeShared, DropShared, TakeExclusive, DropExclusive}
use Rattle.fkv_latch.specs.declared.latching.Latching.{Latching}
use Rattle.fkv_latch.specs.declared.latching.Latching.TheVariants as latching
use Rattle.fkv_latch.specs.Latching.{latch_first, latch_next, latch_next_ask}
use Rattle.law_world.specs.Below.fkv_ops.DiskRecord.{DiskRecord}
use Rattle.law_world.specs.Below.fkv_ops.TryAnswer.{TryAnswer}
use Rattle.law_world.specs.Below.fkv_ops.TryAnswer.TheVariants as answer
use Rattle.law_world.specs.Below.fkv_ops.Occasion.{Occasion}
use Rattle.law_world.specs.Below.fkv_ops.Seen.{Seen}
use Rattle.law_world.specs.Below.fkv_ops.TheTrying.{Trying}
use Rattle.law_world.specs.Below.fkv_ops.TheTrying.TheVariants as trying
use Rattle.law_world.specs.Below.fkv_ops.Trying.{TryState, try_ask, try_next}
use Rattle.law_world.proofs.Below.fkv_ops.Shown.{is_try_end, TryRestsOrAsks, try_done, try_rests}
use Rattle.law_world.specs.Below.fkv_pending.TheAttempting.{Attempting}
use Rattle.law_world.specs.Below.fkv_pending.TheAttempting.TheVariants.{Ended, Looks, Tries, Puts}
use Rattle.law_world.specs.Below.fkv_pending.MailAnswer.{MailAnswer}
use Rattle.law_world.specs.Below.fkv_pending.MailAnswer.TheVariants as mail
use Rattle.law_world.specs.Below.fkv_pending.MailTask.TheVariants.{Take}
use Rattle.law_world.specs.Below.fkv_pending.TheMailing.TheVariants.{LoadsState}
use Rattle.law_world.specs.Below.fkv_pending.PendingRequest.{PendingRequest}
use Rattle.law_world.specs.Below.fkv_pending.Mailing.{mail_ask, mail_next}
use Rattle.law_world.specs.Below.fkv_pending.Pending.{with_sought, with_held, with_latch, with_asked}
use Rattle.law_world.specs.Below.fkv_pending.Attempting.{AttemptState, attempt_ended, waits_for_disk, puts_addr, puts, tries, is_seeking_read, goes_on, attempt_begun, look_ledto, held_kept, tried, try_ledto, put_ledto, mail_moved, try_moved, attempting_next, attempt_next, new_attempt}
use Rattle.law_world.proofs.Below.fkv_pending.Shown.{AttemptAsksAt, AttemptRestsOrAsks}
use Rattle.law_world.proofs.OfGuardSessions.AttemptsOuter.{HomesAreLow}
use Rattle.law_refine.specs.Latches.Latchers.{try_latching, try_alone, attempt_latching, attempt_alone}
use Rattle.law_refine.proofs.OfLatches.TryLatches.{alone_left, alone_given, is_first, HasHeld, Fits, Keeps, Starts, IsTry, TryLed, try_led, begun_led}
use Rattle.law_refine.proofs.OfEvents.Looks.{look_holds}

-- the same as of a try, of a latch of the index
pub data FitsAt (p : Places) (step : Latching) (held : List ℕ) (its : Latching) (alone : List ℕ) : Type 0 where
  KeepsAt : step ≡ its → held ≡ alone → is_first its ≡ false → FitsAt p step held its alone
  StartsAt : (task : LatchTask) (bucket : ℕ) → bucket < p.buckets → step ≡ latching.AtRest → its ≡ latch_first task (bucket_place p bucket 7) → alone_left task (bucket_place p bucket 7) held ≡ alone → HasHeld task (bucket_place p bucket 7) held → FitsAt p step held its alone

pub at_bucket : (p : Places) (bucket : ℕ) (step : Latching) (held : List ℕ) (its : Latching) (alone : List ℕ) → bucket < p.buckets → Fits (bucket_place p bucket 7) step held its alone → FitsAt p step held its alone
at_bucket p bucket step held its alone low (Keeps same holds later) = KeepsAt same holds later
at_bucket p bucket step held its alone low (Starts task rests same left had) = StartsAt task bucket low rests same left had

-- where nothing is under way and nothing is held, nothing was
pub record IsFree (step : Latching) (held : List ℕ) : Type 0 where
  pub rests : step ≡ latching.AtRest
  pub none : held ≡ []

no_first : {X : Type 0} (task : LatchTask) (place : ℕ) → latching.AtRest ≡ latch_first task place → X
no_first TakeShared place e = cc
no_first DropShared place e = cc
no_first TakeExclusive place e = cc
no_first DropExclusive place e = cc

pub free_then : (p : Places) (step : Latching) (held : List ℕ) → FitsAt p step held latching.AtRest [] → IsFree step held
free_then p step held (KeepsAt same holds later) = record { rests = same; none = holds }
free_then p step held (StartsAt task bucket low rests same left had) = no_first task (bucket_place p bucket 7) same

abbrev pub AttemptKnows : Places → AttemptState → Attempting → Type 0
AttemptKnows p a Tries = IsTry p a.trial
AttemptKnows p a step = ⊤

pub record AttemptLed (p : Places) (step : Latching) (held : List ℕ) (a : AttemptState) : Type 0 where
  pub knows : AttemptKnows p a a.step
  pub fits : FitsAt p step held (attempt_latching a a.step) (attempt_alone p a a.step)

either_led : (c : Bool) (p : Places) (a b : AttemptState) → AttemptLed p latching.AtRest [] a → AttemptLed p latching.AtRest [] b → AttemptLed p latching.AtRest [] (if c then a else b)
either_led true p a b one other = one
either_led false p a b one other = other

puts_led : (p : Places) (a : AttemptState) (sought : Option DiskRecord) → AttemptLed p latching.AtRest [] (puts_addr a sought)
puts_led p a None = record { knows = tt; fits = KeepsAt refl refl refl }
puts_led p a (Some sought) = record { knows = tt; fits = KeepsAt refl refl refl }

tries_led : (p : Places) (bits : ℕ) (a : AttemptState) → HomesAreLow p bits → AttemptLed p latching.AtRest [] (tries p bits a)
tries_led p bits a homes =
    let low = homes (key_of a.pending.request.op) in
    let its = begun_led p bits a.pending.request a.seen a.occasion a.spare low in
    record { knows = its.its; fits = at_bucket p (tries p bits a).trial.home.bucket latching.AtRest [] _ _ its.its.low its.fits }

goes_led : (p : Places) (bits : ℕ) (a : AttemptState) → HomesAreLow p bits → AttemptLed p latching.AtRest [] (goes_on p bits a)
goes_led p bits a homes = either_led (is_seeking_read a) p (puts a) (tries p bits a) (puts_led p a a.pending.sought) (tries_led p bits a homes)

pub attempt_begun_led : (p : Places) (bits : ℕ) (pending : PendingRequest) (seen : Seen) (occasion : Occasion) (spare : ℕ) (is_orphaned : Bool) → HomesAreLow p bits
    → AttemptLed p latching.AtRest [] (attempt_begun p bits pending seen occasion spare is_orphaned)
attempt_begun_led p bits pending seen occasion spare is_orphaned homes =
    let first : AttemptState = new_attempt bits pending seen occasion spare is_orphaned in
    either_led pending.has_asked p (record first { mailing = LoadsState Take; step = Looks }) (goes_on p bits first) (record { knows = tt; fits = KeepsAt refl refl refl }) (goes_led p bits first homes)

ended_led : (p : Places) (a : AttemptState) (its : TryAnswer) → AttemptLed p latching.AtRest [] (attempt_ended a its)
ended_led p a its = record { knows = tt; fits = KeepsAt refl refl refl }

-- a machine besides that for latches goes on
stays_led : (p : Places) (a : AttemptState) (step : Attempting) → a.step ≡ step → AttemptKnows p a step → attempt_latching a step ≡ latching.AtRest → attempt_alone p a step ≡ [] → AttemptLed p latching.AtRest [] a
stays_led p a step at knows rests none =
    let at' = sym at in
    record {
      knows = subst (λ x. AttemptKnows p a x) at' knows;
      fits = subst (λ x. FitsAt p latching.AtRest [] (attempt_latching a x) (attempt_alone p a x)) at' (KeepsAt (sym rests) (sym none) (ap is_first rests));
    }

look_led : (p : Places) (bits : ℕ) (a : AttemptState) (ask : Ask MailAnswer) → a.step ≡ Looks → HomesAreLow p bits → AttemptLed p latching.AtRest [] (look_ledto p bits a ask)
look_led p bits a ask at homes =
    look_holds (λ its. AttemptLed p latching.AtRest [] its) (λ its told. ended_led p its told) (λ its sought. puts_led p its sought) p bits
    (λ its. tries_led p bits its homes) a ask (stays_led p a Looks at tt refl refl)

put_led : (p : Places) (a : AttemptState) (ask : Ask MailAnswer) → a.step ≡ Puts → AttemptLed p latching.AtRest [] (put_ledto a ask)
unfolding put_ledto
put_led p a (Done mail.Asked) at = ended_led p (record a { pending = with_asked a.pending true }) _
put_led p a (Done other) at = ended_led p a _
put_led p a ask at = stays_led p a Puts at tt refl refl

tried_led : (p : Places) (a : AttemptState) (its : TryAnswer) → AttemptLed p latching.AtRest [] (tried a its)
tried_led p a (answer.AwaitsDisk sought) =
    let kept : AttemptState = record a { pending = with_held a.pending (held_kept a.pending.request.held sought.entry) } in
    let moved : AttemptState = record kept { pending = with_sought kept.pending (Some sought) } in
    either_led a.pending.has_asked p (waits_for_disk kept) (puts moved) (ended_led p kept _) (puts_led p moved moved.pending.sought)
tried_led p a (answer.Wait why) = ended_led p a _
tried_led p a its = record { knows = tt; fits = KeepsAt refl refl refl }

-- at its end a try works on no latch, and holds none alone
end_is_free : (p : Places) (t : TryState) (at : Trying) (step : Latching) (held : List ℕ) → is_try_end at ≡ true → FitsAt p step held (try_latching t at) (try_alone p t at) → IsFree step held
end_is_free p t (trying.Ended its) step held ends fits = free_then p step held fits
end_is_free p t at step held ends fits = cc

freed : (p : Places) (step : Latching) (held : List ℕ) (a : AttemptState) → IsFree step held → AttemptLed p latching.AtRest [] a → AttemptLed p step held a
freed p step held a free led = rw (free.rests, free.none) led

try_led_so : (p : Places) (step : Latching) (held : List ℕ) (a : AttemptState) (ask : Ask TryAnswer) → a.step ≡ Tries → try_ask p a.trial ≡ ask → TryRestsOrAsks a.trial → TryLed p step held a.trial → AttemptLed p step held (try_ledto a ask)
unfolding try_ledto
try_led_so p step held a (Done its) at asks rests led =
    let ends : is_try_end a.trial.step ≡ true = sym (try_done p a.trial rests) ∙ ap is_done asks in
    let fits = at_bucket p a.trial.home.bucket step held _ _ led.its.low led.fits in
    let next : AttemptState = record a { spare = a.trial.spare; pending = with_latch a.pending a.trial.has_shared } in
    freed p step held (tried next its) (end_is_free p a.trial a.trial.step step held ends fits) (tried_led p next its)
try_led_so p step held a ask at asks rests led =
    let at' = sym at in
    let fits : FitsAt p step held (attempt_latching a Tries) (attempt_alone p a Tries) = at_bucket p a.trial.home.bucket step held _ _ led.its.low led.fits in
    record {
      knows = subst (λ x. AttemptKnows p a x) at' led.its;
      fits = subst (λ x. FitsAt p step held (attempt_latching a x) (attempt_alone p a x)) at' fits;
    }

pub resting : (X : Latching → Type 0) (reply : ℕ) → X latching.AtRest → X (latch_next latching.AtRest reply)
unfolding latch_next
resting X reply its = its

step_led : (p : Places) (bits room session : ℕ) (a : AttemptState) (step : Attempting) (reply : ℕ) → a.step ≡ step → HomesAreLow p bits → AttemptAsksAt a step → AttemptKnows p a step
    → AttemptLed p (latch_next (attempt_latching a step) reply) (alone_given (attempt_latching a step) (latch_next_ask (attempt_latching a step) reply) (attempt_alone p a step)) (attempting_next p bits room session (record a { effect = None }) step reply)
unfolding attempting_next
step_led p bits room session a (Ended its) reply at homes rests knows = resting (λ x. AttemptLed p x [] (record a { effect = None })) reply (stays_led p (record a { effect = None }) (Ended its) at tt refl refl)
step_led p bits room session a Looks reply at homes rests knows = resting (λ x. AttemptLed p x [] (look_ledto p bits (mail_moved (record a { effect = None }) reply) (mail_ask session (mail_next a.mailing reply)))) reply
    (look_led p bits (mail_moved (record a { effect = None }) reply) (mail_ask session (mail_next a.mailing reply)) at homes)
step_led p bits room session a Tries reply at homes rests knows =
    try_led_so p _ _ (try_moved p room (record a { effect = None }) reply) (try_ask p (try_next p room a.trial reply)) at refl (try_rests p room a.trial reply rests.0) (try_led p room a.trial reply knows)
step_led p bits room session a Puts reply at homes rests knows = resting (λ x. AttemptLed p x [] (put_ledto (mail_moved (record a { effect = None }) reply) (mail_ask session (mail_next a.mailing reply)))) reply
    (put_led p (mail_moved (record a { effect = None }) reply) (mail_ask session (mail_next a.mailing reply)) at)

-- each reply
pub attempt_led : (p : Places) (bits room session : ℕ) (a : AttemptState) (reply : ℕ) → HomesAreLow p bits → AttemptRestsOrAsks a → AttemptKnows p a a.step
    → AttemptLed p (latch_next (attempt_latching a a.step) reply) (alone_given (attempt_latching a a.step) (latch_next_ask (attempt_latching a a.step) reply) (attempt_alone p a a.step)) (attempt_next p bits room session a reply)
attempt_led p bits room session a reply homes rests knows = step_led p bits room session a a.step reply refl homes rests knows
