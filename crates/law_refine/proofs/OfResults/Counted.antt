-- Where a session has no call in hand its effects and what it was told as done count alike, whatever is asked of them. So one more effect goes with one more
-- update that is told as done, of its serial and its reply.
use Rattle.std.proofs.Common.{◌≡◌, ℕ, ◌+◌, ◌≤◌, ◌∙◌, List, [], ◌∷◌, refl, arith, ap, subst, inl, inr, Bool, true, false}
use Rattle.std.specs.Prelude.{map, if◌then◌else◌, ◌==◌, ◌&&◌, Option}
use Rattle.std.proofs.lemmas.Bool.Decides.{nat_tests}
use Rattle.fkv_words.specs.Fields.{bit_of}
use Rattle.fkv_map.specs.declared.history.HistoryEntry.{HistoryEntry}
use Rattle.fkv_map.specs.declared.operations.Op.{Op}
use Rattle.fkv_map.specs.declared.operations.Reply.{Reply}
use Rattle.law_log.specs.Trace.{IsIn}
use Rattle.law_world.specs.Below.fkv_session.Accounts.{number_of}
use Rattle.law_world.specs.Below.fkv_session.Finished.{Finished}
use Rattle.law_world.specs.Below.fkv_session.Sitting.{Sitting}
use Rattle.law_world.specs.Below.fkv_session.Sitting.TheVariants.{Idle}
use Rattle.law_world.specs.Below.fkv_session.Replies.{UpdateDone, done_by, done_told, with_effect, AreRepliesOfEffects}
use Rattle.law_world.specs.Below.fkv_session.SessionRun.{Telling, in_hand, with_coming}
use Rattle.law_world.specs.Below.fkv_session.Sessions.{SessionState, is_busy}
use Rattle.law_world.proofs.Below.fkv_session.Shown.{run_replies}
use Rattle.law_world.specs.Below.fkv_world.Opened.{HasBecome, effects_of, life_effects, life_told}
use Rattle.law_world.specs.Below.fkv_world.OwnEvents.{session_events}
use Rattle.law_world.specs.Below.fkv_world.Past.{Effect}
use Rattle.law_world.specs.Below.fkv_world.Runs.{World}
use Rattle.law_world.specs.Below.fkv_world.World.{Event, seat_at}
use Rattle.law_world.proofs.OfSessions.Effects.{life_made}
use Rattle.law_world.proofs.OfSessions.OwnRun.{of_run, opened_so}
use Rattle.law_refine.specs.Results.Results.{StaysOrTakes, TakesEffect, history_at}
use Rattle.law_refine.proofs.OfCalls.UpdateLines.{same_reply, reply_is, reply_self, both_true}

-- so many effects, whatever is asked of them, as updates that are told as done
abbrev pub CountAlike : List HistoryEntry → List UpdateDone → Type 0
CountAlike entries done = (such : UpdateDone → Bool) → number_of such (map done_by entries) ≡ number_of such done

at_rest : (entries : List HistoryEntry) (told : List Telling) (finished : List Finished) (step : Sitting) → is_busy step ≡ false → AreRepliesOfEffects entries told (in_hand step finished) (is_busy step) → CountAlike entries (done_told told)
at_rest entries told finished (Idle answer) idle its such =
    let counts = its.replies such in
    let same : number_of such (map done_by entries) ≡ number_of such (map done_by its.answered)
    = ap (λ (x : List HistoryEntry). number_of such (map done_by x)) (its.its_effects ∙ ap (λ (x : Option HistoryEntry). with_effect x its.answered) (its.none_at_rest refl)) in
    omega (arith, counts, same)
at_rest entries told finished step idle its such = cc

-- in a life
pub life_counts : (opening : World) (events : List Event) (number : ℕ) (first its : SessionState) → HasBecome opening events number first its → is_busy its.step ≡ false
    → CountAlike (effects_of number (history_at opening events)) (done_told (life_told opening events number first))
life_counts opening events number first its became idle =
    subst (λ (x : List HistoryEntry). CountAlike x (done_told (life_told opening events number first))) (life_made opening events number first its became)
    (at_rest (life_effects opening events number first) (life_told opening events number first) its.finished its.step idle
    (of_run (λ (s : SessionState). AreRepliesOfEffects (life_effects opening events number first) (life_told opening events number first) (in_hand s.step s.finished) (is_busy s.step)) opening events number first its became
    (run_replies (seat_at opening.now number) first (session_events opening number events) (opened_so opening events number first its became))))

pub no_more_told : (step : Sitting) (finished : List Finished) (told : List Telling) → is_busy step ≡ false → with_coming step finished told ≡ told
no_more_told (Idle answer) finished told idle = refl
no_more_told step finished told idle = cc

-- ---- one of these
same_number : (n : ℕ) → (n == n) ≡ true
same_number n = grind (arith, nat_tests)

-- it is of this serial and this reply
pub is_as : ℕ → Reply → UpdateDone → Bool
is_as serial its done = (done.serial.0 == serial) && same_reply done.reply its

pub as_so : (serial : ℕ) (its : Reply) (done : UpdateDone) → is_as serial its done ≡ true → (done.serial.0 ≡ serial) × (done.reply ≡ its)
unfolding is_as
as_so serial its done e =
    let both = both_true (done.serial.0 == serial) (same_reply done.reply its) e in
    let named : done.serial.0 ≡ serial = (let b = both.0 in grind (arith, nat_tests, b)) in
    (named, reply_is done.reply its both.1)

pub as_self : (done : UpdateDone) → is_as done.serial.0 done.reply done ≡ true
unfolding is_as
as_self done = rw (same_number done.serial.0) (reply_self done.reply)

-- ---- of one session
own_more : (number : ℕ) (effect : Effect) (history : List Effect) → effect.entry.session ≡ number → effects_of number (effect ∷ history) ≡ effect.entry ∷ effects_of number history
own_more number effect history mine = let own : (effect.entry.session == number) ≡ true = grind (arith, nat_tests, mine) in rw own refl

taken_more : (number : ℕ) (op : Op) (serial : ℕ) (before after : List Effect) (taken : TakesEffect number op serial before after) → effects_of number after ≡ taken.effect.entry ∷ effects_of number before
taken_more number op serial before after taken = ap (effects_of number) taken.at_front ∙ own_more number taken.effect before taken.its_session

-- nothing more is told as done: nothing more has taken effect
pub none_more : (number : ℕ) (op : Op) (serial : ℕ) (before after : List Effect) (done : List UpdateDone) → StaysOrTakes number op serial before after → CountAlike (effects_of number before) done → CountAlike (effects_of number after) done
    → after ≡ before
none_more number op serial before after done (inl same) was now = same
none_more number op serial before after done (inr taken) was now =
    let all : UpdateDone → Bool = λ its. true in
    let first = was all in
    let more : number_of all (map done_by (taken.effect.entry ∷ effects_of number before)) ≡ number_of all done = subst (λ (x : List HistoryEntry). number_of all (map done_by x) ≡ number_of all done) (taken_more number op serial before after taken) (now all) in
    absurd (omega (arith, first, more))

-- one more is told as done: one more has taken effect, and with this reply
one_as : (its other : UpdateDone) (n m : ℕ) → n ≡ m → bit_of (is_as its.serial.0 its.reply other) + n ≡ bit_of (is_as its.serial.0 its.reply its) + m → is_as its.serial.0 its.reply other ≡ true
one_as its other n m same e = by_test (is_as its.serial.0 its.reply other) (subst (λ (c : Bool). bit_of (is_as its.serial.0 its.reply other) + n ≡ bit_of c + m) (as_self its) e)
  where
    by_test : (c : Bool) → bit_of c + n ≡ 1 + m → c ≡ true
    by_test true sum = refl
    by_test false sum = absurd (omega (arith, same, sum))

pub one_more : (number : ℕ) (op : Op) (serial : ℕ) (before after : List Effect) (done : List UpdateDone) (its : UpdateDone) → StaysOrTakes number op serial before after → CountAlike (effects_of number before) done
    → CountAlike (effects_of number after) (its ∷ done) → (taken : TakesEffect number op serial before after) × (taken.effect.entry.reply ≡ its.reply)
one_more number op serial before after done its (inl same) was now =
    let all : UpdateDone → Bool = λ its. true in
    let first = was all in
    let more : number_of all (map done_by (effects_of number before)) ≡ 1 + number_of all done = subst (λ (x : List Effect). number_of all (map done_by (effects_of number x)) ≡ 1 + number_of all done) same (now all) in
    absurd (omega (arith, first, more))
one_more number op serial before after done its (inr taken) was now =
    let such : UpdateDone → Bool = is_as its.serial.0 its.reply in
    let more : number_of such (map done_by (taken.effect.entry ∷ effects_of number before)) ≡ number_of such (its ∷ done)
    = subst (λ (x : List HistoryEntry). number_of such (map done_by x) ≡ number_of such (its ∷ done)) (taken_more number op serial before after taken) (now such) in
    (taken, (as_so its.serial.0 its.reply (done_by taken.effect.entry) (one_as its (done_by taken.effect.entry) _ _ (was such) more)).1)

-- an effect of the history counts
pub one_counted : (number : ℕ) (history : List Effect) (its : Effect) → IsIn its history → its.entry.session ≡ number → 1 ≤ number_of (is_as its.entry.serial.0 its.entry.reply) (map done_by (effects_of number history))
one_counted number [] its is_in mine = absurd is_in
one_counted number (other ∷ before) its (inl same) mine =
    let such : UpdateDone → Bool = is_as its.entry.serial.0 its.entry.reply in
    let own = own_more number other before (ap (λ (x : Effect). x.entry.session) same ∙ mine) in
    let this : such (done_by other.entry) ≡ true = ap (λ (x : Effect). such (done_by x.entry)) same ∙ as_self (done_by its.entry) in
    rw own (rw this (omega arith))
one_counted number (other ∷ before) its (inr later) mine = by_owner (other.entry.session == number) (one_counted number before its later mine)
  where
    such : UpdateDone → Bool
    such = is_as its.entry.serial.0 its.entry.reply

    by_owner : (c : Bool) → 1 ≤ number_of such (map done_by (effects_of number before)) → 1 ≤ number_of such (map done_by (if c then other.entry ∷ effects_of number before else effects_of number before))
    by_owner true one = omega (arith, one)
    by_owner false one = one
