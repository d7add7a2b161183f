-- What takes effect in a session's call of an operation, and what its answer says of that.
use Rattle.std.proofs.Common.{◌≡◌, ℕ, zero, suc, ◌+◌, ◌∙◌, List, [], ◌∷◌, ◌++◌, refl, arith, ap, sym, subst, append_assoc, inl, inr, Bool, true, false}
use Rattle.std.specs.Prelude.{slice_get, Some, if◌then◌else◌, ◌==◌}
use Rattle.std.proofs.lemmas.Bool.Decides.{nat_tests}
use Rattle.fkv_map.specs.declared.operations.Call.TheVariants as call
use Rattle.fkv_map.specs.declared.operations.Op.{Op}
use Rattle.law_log.specs.Trace.{HasUpdate, IsIn}
use Rattle.fkv_plane.specs.Asked.{reply_to}
use Rattle.law_world.specs.Below.fkv_session.Finished.{Finished}
use Rattle.law_world.specs.Below.fkv_session.Told.{Told}
use Rattle.law_world.specs.Below.fkv_session.Told.TheVariants as told
use Rattle.law_world.specs.Below.fkv_session.Sitting.TheVariants.{Idle}
use Rattle.law_world.specs.Below.fkv_session.Replies.{done_told}
use Rattle.law_world.specs.Below.fkv_session.SessionRun.{SessionEvent, Begins, session_run, Telling, telling, tellings}
use Rattle.law_world.specs.Below.fkv_session.Sessions.{SessionState, Seat, is_busy, session_ask, session_next}
use Rattle.law_world.specs.Runs.Added.{IsEffectOf, IsHistoryAfter}
use Rattle.law_world.specs.Below.fkv_world.Opened.{HasBecome, IsOpenedWorld, effects_of, life_told}
use Rattle.law_world.specs.Below.fkv_world.OwnEvents.{session_part, session_part_found, session_part_of, session_events}
use Rattle.law_world.specs.Below.fkv_world.Past.{Effect}
use Rattle.law_world.specs.Below.fkv_world.Runs.{World, happens, run}
use Rattle.law_world.specs.Below.fkv_world.World.{Event, Calls, Moves, Now, seat_at, near}
use Rattle.law_world.proofs.OfSessions.OwnRun.{here, of_run, opened_so, to_run}
use Rattle.law_world.proofs.OfRuns.Added.{history_so}
use Rattle.law_refine.proofs.OfCalls.InHand.{effect_in_hand, was_opened}
use Rattle.law_refine.proofs.OfCalls.Telling.{AreReplies, both_reply, part_replies}
use Rattle.law_refine.specs.Calls.Calls.{effect_in_log, effects_in_log, effects_of_life}
use Rattle.law_refine.specs.Results.Results.{in_call, history_at, TakesEffect, StaysOrTakes, IsResult}
use Rattle.law_refine.proofs.OfResults.Counted.{CountAlike, life_counts, no_more_told, none_more, one_more}
use Rattle.law_refine.proofs.OfResults.MadeInCall.{IsMadeInCall, made_in_call}
use Rattle.law_refine.proofs.OfResults.OwnCall.{IsAnswer, KnowsOp, Stands, StandsAt, TellsAt, run_knows, run_stands, run_tells}

call_begins : (n : Now) (number : ℕ) (op : Op) (s : SessionState) → n.crashed ≡ false → slice_get n.sessions number ≡ Some s → session_part_of n number (Calls number (call.Op op)) ≡ Begins (call.Op op) ∷ []
unfolding session_part
call_begins n number op s alive found =
    let own : (number == number) ≡ true = grind (arith, nat_tests) in
    ap (λ (c : Bool). if c then [] else session_part_found n number (Calls number (call.Op op)) (slice_get n.sessions number)) alive
    ∙ (ap (session_part_found n number (Calls number (call.Op op))) found
    ∙ ap (λ (c : Bool). if c then session_part (seat_at n number) (near n s) (Calls number (call.Op op)) else []) own)

-- it begins the call, and then gets replies
pub record IsOwnCall (opening : World) (before : List Event) (number moves : ℕ) (op : Op) : Type 0 where
  pub later : List SessionEvent
  pub replies : AreReplies later
  pub its_events : session_events opening number (in_call number moves op before) ≡ later ++ Begins (call.Op op) ∷ session_events opening number before

own_call : (opening : World) (before : List Event) (number moves : ℕ) (op : Op) (s : SessionState) → (run opening before).now.crashed ≡ false → slice_get (run opening before).now.sessions number ≡ Some s → IsOwnCall opening before number moves op
unfolding session_events
own_call opening before number zero op s alive found =
    record { later = []; replies = tt; its_events = ap (λ (x : List SessionEvent). x ++ session_events opening number before) (call_begins (run opening before).now number op s alive found) }
own_call opening before number (suc moves) op s alive found =
    let its = own_call opening before number moves op s alive found in
    let part : List SessionEvent = session_part_of (run opening (in_call number moves op before)).now number (Moves number) in
    record {
      later = part ++ its.later;
      replies = both_reply part its.later (part_replies (run opening (in_call number moves op before)).now number) its.replies;
      its_events = ap (λ (x : List SessionEvent). part ++ x) its.its_events ∙ sym (append_assoc part its.later (Begins (call.Op op) ∷ session_events opening number before));
    }

-- ---- where the session stands by then
pub record StandsInCall (opening : World) (before : List Event) (number : ℕ) (op : Op) (n : ℕ) (its : SessionState) : Type 0 where
  pub knows : KnowsOp its its.step
  pub stands : Stands op n its

in_call_so : (opening : World) (before : List Event) (number moves : ℕ) (op : Op) (first s its : SessionState) → (run opening before).now.crashed ≡ false → is_busy s.step ≡ false → HasBecome opening before number first s
    → HasBecome opening (in_call number moves op before) number first its → StandsInCall opening before number op s.serial its
in_call_so opening before number moves op first s its alive idle was became =
    let own = own_call opening before number moves op s alive was.is_now in
    let k : Seat = seat_at opening.now number in
    let opened = opened_so opening before number first s was in
    let ran : its ≡ session_run k first (own.later ++ Begins (call.Op op) ∷ session_events opening number before) = here opening (in_call number moves op before) number first its became ∙ ap (session_run k first) own.its_events in
    let rests = to_run (λ (x : SessionState). is_busy x.step ≡ false) opening before number first s was idle in
    let stood = run_stands op k first (session_events opening number before) own.later opened rests own.replies in
    record {
      knows = subst (λ (x : SessionState). KnowsOp x x.step) (sym ran) (run_knows k first (own.later ++ Begins (call.Op op) ∷ session_events opening number before) opened);
      stands = subst (λ (x : SessionState). Stands op s.serial x) (sym ran) (subst (λ (x : SessionState). Stands op x.serial (session_run k first (own.later ++ Begins (call.Op op) ∷ session_events opening number before))) (sym (here opening before number first s was)) stood);
    }

-- ---- what takes effect by a move
mover : Event → ℕ
mover (Moves number) = number
mover event = 0

moved_by : (number session : ℕ) → Moves number ≡ Moves session → number ≡ session
unfolding mover
moved_by number session same = ap mover same

move_made : (opening : World) (before : List Event) (number moves : ℕ) (op : Op) (first s : SessionState) (its : Effect) → (run opening before).now.crashed ≡ false → is_busy s.step ≡ false → HasBecome opening before number first s
    → IsEffectOf (run opening (in_call number moves op before)) (Moves number) its → IsMadeInCall number op (s.serial + 1) its.entry
move_made opening before number moves op first s its alive idle was from =
    let w : World = run opening (in_call number moves op before) in
    let mine : number ≡ from.session = moved_by number from.session from.moves in
    let now : slice_get w.now.sessions number ≡ Some from.mover = ap (slice_get w.now.sessions) mine ∙ from.found in
    let stood = in_call_so opening before number moves op first s from.mover alive idle was (record { opened = was.opened; was = was.was; is_now = now }) in
    let made : (session_next (seat_at w.now from.session) from.mover (reply_to w.now.words (session_ask (seat_at w.now from.session) from.mover))).effect ≡ Some its.entry
    = ap (λ (x : SessionState). x.effect) (sym from.replied) ∙ from.tells in
    subst (λ (x : ℕ). IsMadeInCall x op (s.serial + 1) its.entry) (sym mine) (made_in_call op s.serial (seat_at w.now from.session) from.mover _ its.entry stood.knows stood.stands made)

taken_in : (number : ℕ) (op : Op) (serial : ℕ) (before after : List Effect) (taken : TakesEffect number op serial before after) → HasUpdate (effects_in_log after) number serial
taken_in number op serial before after taken = record {
  effect = effect_in_log taken.effect;
  is_in = subst (λ (x : List Effect). IsIn (effect_in_log taken.effect) (effects_in_log x)) (sym taken.at_front) (inl refl);
  its_session = taken.its_session;
  its_serial = taken.its_serial;
}

-- one more move
move_takes : (opening : World) (before : List Event) (number moves : ℕ) (op : Op) (first s : SessionState) (its : Effect) → (run opening before).now.crashed ≡ false → is_busy s.step ≡ false → HasBecome opening before number first s
    → IsEffectOf (run opening (in_call number moves op before)) (Moves number) its → StaysOrTakes number op (s.serial + 1) (history_at opening before) (history_at opening (in_call number moves op before))
    → TakesEffect number op (s.serial + 1) (history_at opening before) (its ∷ history_at opening (in_call number moves op before))
move_takes opening before number moves op first s its alive idle was from (inl same) =
    let made = move_made opening before number moves op first s its alive idle was from in
    record { effect = its; at_front = ap (λ (x : List Effect). its ∷ x) same; its_session = made.its_session; its_op = made.its_op; its_serial = made.its_serial; update = made.update }
move_takes opening before number moves op first s its alive idle was from (inr taken) =
    let made = move_made opening before number moves op first s its alive idle was from in
    let known = effect_in_hand opening (in_call number moves op before) (Moves number) its was.opened from in
    let there = taken_in number op (s.serial + 1) (history_at opening before) (history_at opening (in_call number moves op before)) taken in
    absurd (known.none_yet (subst (λ (x : ℕ). HasUpdate (effects_of_life opening (in_call number moves op before)) x its.entry.serial.0) (sym made.its_session)
    (subst (λ (x : ℕ). HasUpdate (effects_of_life opening (in_call number moves op before)) number x) (sym made.its_serial) there)))

takes_in_call : (opening : World) (before : List Event) (number moves : ℕ) (op : Op) (first s : SessionState) → (run opening before).now.crashed ≡ false → is_busy s.step ≡ false → HasBecome opening before number first s
    → StaysOrTakes number op (s.serial + 1) (history_at opening before) (history_at opening (in_call number moves op before))
unfolding run
takes_in_call opening before number zero op first s alive idle was = by_event (history_so (run opening before) (Calls number (call.Op op)))
  where
    by_event : IsHistoryAfter (run opening before) (Calls number (call.Op op)) (happens (run opening before) (Calls number (call.Op op))).past.history
        → StaysOrTakes number op (s.serial + 1) (history_at opening before) (happens (run opening before) (Calls number (call.Op op))).past.history
    by_event (inl same) = inl same
    by_event (inr its) = no_move its.2.session its.2.moves
      where
        no_move : {A : Type 0} (session : ℕ) → Calls number (call.Op op) ≡ Moves session → A
        no_move session same = cc
takes_in_call opening before number (suc moves) op first s alive idle was = by_event (history_so w (Moves number)) (takes_in_call opening before number moves op first s alive idle was)
  where
    w : World
    w = run opening (in_call number moves op before)

    by_event : IsHistoryAfter w (Moves number) (happens w (Moves number)).past.history → StaysOrTakes number op (s.serial + 1) (history_at opening before) w.past.history
        → StaysOrTakes number op (s.serial + 1) (history_at opening before) (happens w (Moves number)).past.history
    by_event (inl same) was_so = subst (StaysOrTakes number op (s.serial + 1) (history_at opening before)) (sym same) was_so
    by_event (inr its) was_so = inr (subst (TakesEffect number op (s.serial + 1) (history_at opening before)) (sym its.1) (move_takes opening before number moves op first s its.0 alive idle was its.2 was_so))

pub effects_in_call : (opening : World) (before : List Event) (number moves : ℕ) (op : Op) (s : SessionState) → IsOpenedWorld opening → (run opening before).now.crashed ≡ false → slice_get (run opening before).now.sessions number ≡ Some s
    → is_busy s.step ≡ false → StaysOrTakes number op (s.serial + 1) (history_at opening before) (history_at opening (in_call number moves op before))
effects_in_call opening before number moves op s opened alive found idle =
    let was = was_opened opening before number s opened found in
    takes_in_call opening before number moves op was.first s alive idle was.became

-- ---- what the answer says of it
result_of : (number : ℕ) (op : Op) (n : ℕ) (before after : List Effect) (tellings_before : List Telling) (answer : Told) (list : List Finished) → IsAnswer op n answer → StaysOrTakes number op (n + 1) before after
    → CountAlike (effects_of number before) (done_told tellings_before) → CountAlike (effects_of number after) (done_told (telling answer list ∷ tellings_before)) → IsResult number op (n + 1) before after answer
result_of number op n before after others (told.Done serial r) list is_answer takes was now =
    let one = one_more number op (n + 1) before after (done_told others) (record { serial = serial; reply = r }) takes was now in
    (one.0, one.1, is_answer.1)
result_of number op n before after others (told.Pending serial why) list is_answer takes was now = (none_more number op (n + 1) before after (done_told others) takes was now, is_answer.0, is_answer.1)
result_of number op n before after others (told.Refused why) list is_answer takes was now = none_more number op (n + 1) before after (done_told others) takes was now
result_of number op n before after others (told.Found value) list is_answer takes was now = (none_more number op (n + 1) before after (done_told others) takes was now, is_answer)
result_of number op n before after others told.Absent list is_answer takes was now = (none_more number op (n + 1) before after (done_told others) takes was now, is_answer)
result_of number op n before after others (told.PendingRead ticket) list is_answer takes was now = (none_more number op (n + 1) before after (done_told others) takes was now, is_answer)
result_of number op n before after others answer list is_answer takes was now = absurd is_answer

pub result_told : (opening : World) (before : List Event) (number moves : ℕ) (op : Op) (s its : SessionState) (answer : Told) → IsOpenedWorld opening → (run opening before).now.crashed ≡ false
    → slice_get (run opening before).now.sessions number ≡ Some s → is_busy s.step ≡ false → slice_get (run opening (in_call number moves op before)).now.sessions number ≡ Some its → its.step ≡ Idle answer
    → IsResult number op (s.serial + 1) (history_at opening before) (history_at opening (in_call number moves op before)) answer
result_told opening before number moves op s its answer opened alive found idle is_now at = result_of number op s.serial (history_at opening before) (history_at opening events) (tellings k first own) answer its.finished
    (subst (StandsAt op s.serial its) at (in_call_so opening before number moves op first s its alive idle was became).stands)
    (takes_in_call opening before number moves op first s alive idle was)
    (subst (λ (x : List Telling). CountAlike (effects_of number (history_at opening before)) (done_told x)) (told_at_rest before s was idle) (life_counts opening before number first s was idle))
    (subst (λ (x : List Telling). CountAlike (effects_of number (history_at opening events)) (done_told x)) (told_at_rest events its became rests ∙ tells) (life_counts opening events number first its became rests))
  where
    events : List Event
    events = in_call number moves op before

    first : SessionState
    first = (was_opened opening before number s opened found).first

    was : HasBecome opening before number first s
    was = (was_opened opening before number s opened found).became

    became : HasBecome opening events number first its
    became = record { opened = opened; was = was.was; is_now = is_now }

    k : Seat
    k = seat_at opening.now number

    own : List SessionEvent
    own = session_events opening number before

    rests : is_busy its.step ≡ false
    rests = ap is_busy at

    told_at_rest : (list : List Event) (x : SessionState) → HasBecome opening list number first x → is_busy x.step ≡ false → life_told opening list number first ≡ tellings k first (session_events opening number list)
    told_at_rest list x so calm =
        no_more_told (session_run k first (session_events opening number list)).step (session_run k first (session_events opening number list)).finished (tellings k first (session_events opening number list))
        (to_run (λ (y : SessionState). is_busy y.step ≡ false) opening list number first x so calm)

    tells : tellings k first (session_events opening number events) ≡ telling answer its.finished ∷ tellings k first own
    tells =
        let call_own = own_call opening before number moves op s alive found in
        let told = run_tells op k first own call_own.later (to_run (λ (x : SessionState). is_busy x.step ≡ false) opening before number first s was idle) call_own.replies in
        let same : TellsAt (tellings k first own) (tellings k first (session_events opening number events)) its its.step
        = of_run (λ (x : SessionState). TellsAt (tellings k first own) (tellings k first (session_events opening number events)) x x.step) opening events number first its became
        (subst (λ (x : List SessionEvent). TellsAt (tellings k first own) (tellings k first x) (session_run k first x) (session_run k first x).step) (sym call_own.its_events) told) in
        subst (TellsAt (tellings k first own) (tellings k first (session_events opening number events)) its) at same
