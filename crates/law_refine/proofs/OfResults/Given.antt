-- Once a session has no call in hand, the trace has the results of all of its updates that have taken effect.
use Rattle.std.proofs.Common.{◌≡◌, ℕ, zero, suc, ◌+◌, ◌≤◌, ◌∙◌, List, [], ◌∷◌, ◌++◌, refl, arith, ap, sym, subst, inl, inr, Bool, true, false}
use Rattle.std.specs.Prelude.{if◌then◌else◌, ◌==◌, ◌⊎◌, slice_get, Some, ⊤}
use Rattle.std.proofs.lemmas.Bool.Decides.{nat_tests}
use Rattle.fkv_words.specs.Fields.{bit_of}
use Rattle.fkv_map.specs.declared.operations.Reply.{Reply}
use Rattle.law_log.specs.Trace.{GivesResult, IsIn}
use Rattle.law_world.specs.Below.fkv_session.Accounts.{number_of}
use Rattle.law_world.specs.Below.fkv_session.Finished.{Finished}
use Rattle.law_world.specs.Below.fkv_session.Finished.TheVariants as finished
use Rattle.law_world.specs.Below.fkv_session.Told.{Told}
use Rattle.law_world.specs.Below.fkv_session.Told.TheVariants as told
use Rattle.law_world.specs.Below.fkv_session.Sitting.{Sitting}
use Rattle.law_world.specs.Below.fkv_session.Sitting.TheVariants.{Idle}
use Rattle.law_world.specs.Below.fkv_session.Replies.{UpdateDone, done_by_poll, done_told, with_done}
use Rattle.law_world.specs.Below.fkv_session.SessionRun.{SessionEvent, session_run, Telling, telling, with_finished, answered, is_calling, told_after, tellings}
use Rattle.law_world.specs.Below.fkv_session.Sessions.{SessionState, Seat, is_busy}
use Rattle.law_world.specs.Below.fkv_world.Opened.{HasBecome, IsOpenedWorld, answers_of, life_told}
use Rattle.law_world.specs.Below.fkv_world.OwnEvents.{session_events}
use Rattle.law_world.specs.Below.fkv_world.Past.{Effect, Traced, TraceEvent, Called, Answered, CommitAsked, TurnAsked, KeeperAnswered}
use Rattle.law_world.specs.Below.fkv_world.Runs.{World, run}
use Rattle.law_world.specs.Below.fkv_world.World.{Event, seat_at}
use Rattle.law_world.proofs.OfSessions.Heard.{life_heard}
use Rattle.law_world.proofs.OfSessions.OwnRun.{to_run}
use Rattle.law_refine.specs.Calls.Calls.{lines_of_life}
use Rattle.law_refine.specs.Events.GhostEvents.{serials_in}
use Rattle.law_refine.specs.Events.Lines.{finished_lines, answer_lines, event_lines, lines_of}
use Rattle.law_refine.specs.Results.Results.{history_at}
use Rattle.law_refine.proofs.OfResults.Counted.{as_so, is_as, life_counts, no_more_told, one_counted}
use Rattle.law_refine.proofs.OfCalls.InHand.{was_opened}

-- ---- a list within a list
in_front : {X : Type 0} (it : X) (xs ys : List X) → IsIn it xs → IsIn it (xs ++ ys)
in_front it [] ys is_in = absurd is_in
in_front it (x ∷ xs) ys (inl same) = inl same
in_front it (x ∷ xs) ys (inr later) = inr (in_front it xs ys later)

in_later : {X : Type 0} (it : X) (xs ys : List X) → IsIn it ys → IsIn it (xs ++ ys)
in_later it [] ys is_in = is_in
in_later it (x ∷ xs) ys is_in = inr (in_later it xs ys is_in)

-- ---- answers tell what is finished at polls alone
abbrev IsTelling : Telling → Type 0
IsTelling its = its.finished ≡ with_finished its.its its.finished

abbrev AreTellings : List Telling → Type 0
AreTellings [] = ⊤
AreTellings (its ∷ before) = IsTelling its × AreTellings before

is_telling : (its : Told) (list : List Finished) → IsTelling (telling its list)
is_telling (told.Polled left) list = refl
is_telling its list = refl

answered_told : (step : Sitting) (list : List Finished) (before : List Telling) → AreTellings before → AreTellings (answered step list before)
answered_told (Idle its) list before are = (is_telling its list, are)
answered_told step list before are = are

after_told : (calling : Bool) (after : SessionState) (before : List Telling) → AreTellings before → AreTellings (told_after calling after before)
after_told true after before are = answered_told after.step after.finished before are
after_told false after before are = are

run_tellings : (k : Seat) (first : SessionState) (events : List SessionEvent) → AreTellings (tellings k first events)
unfolding tellings
run_tellings k first [] = tt
run_tellings k first (event ∷ before) = after_told (is_calling (session_run k first before) event) (session_run k first (event ∷ before)) (tellings k first before) (run_tellings k first before)

-- ---- what is told as done is a line of the trace
line_is : (number session : ℕ) (serial : ℕ) (its : Reply) (done : UpdateDone) → session ≡ number → is_as serial its done ≡ true → GivesResult session done.serial.0 done.reply ≡ GivesResult number serial its
line_is number session serial its done mine e =
    let so = as_so serial its done e in
    ap (λ (x : ℕ). GivesResult x done.serial.0 done.reply) mine ∙ (ap (λ (x : ℕ). GivesResult number x done.reply) so.0 ∙ ap (λ (x : Reply). GivesResult number serial x) so.1)

polled_given : (number session : ℕ) (serial : ℕ) (its : Reply) (before : List Traced) (list : List Finished) → session ≡ number → 1 ≤ number_of (is_as serial its) (done_by_poll list)
    → IsIn (GivesResult number serial its) (finished_lines session before list)
polled_given number session serial its before [] mine one = absurd (omega (arith, one))
polled_given number session serial its before (finished.Read ticket value ∷ rest) mine one = in_front _ (finished_lines session before rest) _ (polled_given number session serial its before rest mine one)
polled_given number session serial its before (finished.Update n r ∷ rest) mine one = by_test (is_as serial its (record { serial = n; reply = r })) refl one (λ more. polled_given number session serial its before rest mine more)
  where
    by_test : (c : Bool) → is_as serial its (record { serial = n; reply = r }) ≡ c → 1 ≤ bit_of c + number_of (is_as serial its) (done_by_poll rest)
        → (1 ≤ number_of (is_as serial its) (done_by_poll rest) → IsIn (GivesResult number serial its) (finished_lines session before rest))
        → IsIn (GivesResult number serial its) (finished_lines session before rest ++ GivesResult session n.0 r ∷ [])
    by_test true e some later = in_later _ (finished_lines session before rest) _ (inl (line_is number session serial its (record { serial = n; reply = r }) mine e))
    by_test false e some later = in_front _ (finished_lines session before rest) _ (later (omega (arith, some)))

number_both : (such : UpdateDone → Bool) (xs ys : List UpdateDone) → number_of such (xs ++ ys) ≡ number_of such xs + number_of such ys
number_both such [] ys = omega arith
number_both such (x ∷ xs) ys = let rest = number_both such xs ys in omega (arith, rest)

-- an answer that a poll has not come to has finished nothing
alone : (such : UpdateDone → Bool) (list : List Finished) (rest : List UpdateDone) → list ≡ [] → number_of such (done_by_poll list ++ rest) ≡ number_of such rest
alone such list rest none = ap (λ (x : List Finished). number_of such (done_by_poll x ++ rest)) none

some_of : (n m : ℕ) → 1 ≤ n + m → (1 ≤ n) ⊎ (1 ≤ m)
some_of zero m one = inr (omega (arith, one))
some_of (suc n) m one = inl (omega arith)

-- by the answer
answer_given : (number session : ℕ) (serial : ℕ) (its : Reply) (first : ℕ → ℕ) (before : List Traced) (answer : Told) (list : List Finished) (rest : List UpdateDone) → session ≡ number → list ≡ with_finished answer list
    → 1 ≤ number_of (is_as serial its) (with_done answer (done_by_poll list ++ rest)) → IsIn (GivesResult number serial its) (answer_lines first before session answer list) ⊎ (1 ≤ number_of (is_as serial its) rest)
answer_given number session serial its first before (told.Done n r) list rest mine none one = by_test (is_as serial its (record { serial = n; reply = r })) refl one
  where
    by_test : (c : Bool) → is_as serial its (record { serial = n; reply = r }) ≡ c → 1 ≤ bit_of c + number_of (is_as serial its) (done_by_poll list ++ rest)
        → IsIn (GivesResult number serial its) (GivesResult session n.0 r ∷ []) ⊎ (1 ≤ number_of (is_as serial its) rest)
    by_test true e some = inl (inl (line_is number session serial its (record { serial = n; reply = r }) mine e))
    by_test false e some = let same = alone (is_as serial its) list rest none in inr (omega (arith, some, same))
answer_given number session serial its first before (told.Polled left) list rest mine none one = by_which (some_of _ _ (let both = number_both (is_as serial its) (done_by_poll list) rest in omega (arith, both, one)))
  where
    by_which : (1 ≤ number_of (is_as serial its) (done_by_poll list)) ⊎ (1 ≤ number_of (is_as serial its) rest) → IsIn (GivesResult number serial its) (finished_lines session before list) ⊎ (1 ≤ number_of (is_as serial its) rest)
    by_which (inl some) = inl (polled_given number session serial its before list mine some)
    by_which (inr some) = inr some
answer_given number session serial its first before answer list rest mine none one = let same = alone (is_as serial its) list rest none in inr (omega (arith, one, same))

-- over the trace
abbrev IsGiven : ℕ → ℕ → Reply → (ℕ → ℕ) → List Traced → Type 0
IsGiven number serial its first trace = AreTellings (answers_of number trace) → 1 ≤ number_of (is_as serial its) (done_told (answers_of number trace)) → IsIn (GivesResult number serial its) (lines_of first trace)

trace_given : (number : ℕ) (serial : ℕ) (its : Reply) (first : ℕ → ℕ) (trace : List Traced) → IsGiven number serial its first trace
unfolding lines_of
trace_given number serial its first [] are one = absurd (omega (arith, one))
trace_given number serial its first (it ∷ before) are one = by_event it.its (λ ones some. trace_given number serial its first before ones some) are one
  where
    by_owner : (session : ℕ) (answer : Telling) (c : Bool) → (session == number) ≡ c → IsGiven number serial its first before → AreTellings (if c then answer ∷ answers_of number before else answers_of number before)
        → 1 ≤ number_of (is_as serial its) (done_told (if c then answer ∷ answers_of number before else answers_of number before))
        → IsIn (GivesResult number serial its) (answer_lines first before session answer.its answer.finished ++ lines_of first before)
    by_owner session answer true e earlier ones some =
        let mine : session ≡ number = grind (arith, nat_tests, e) in
        by_which (answer_given number session serial its first before answer.its answer.finished (done_told (answers_of number before)) mine ones.0 some) (λ more. earlier ones.1 more)
      where
        by_which : IsIn (GivesResult number serial its) (answer_lines first before session answer.its answer.finished) ⊎ (1 ≤ number_of (is_as serial its) (done_told (answers_of number before)))
            → (1 ≤ number_of (is_as serial its) (done_told (answers_of number before)) → IsIn (GivesResult number serial its) (lines_of first before))
            → IsIn (GivesResult number serial its) (answer_lines first before session answer.its answer.finished ++ lines_of first before)
        by_which (inl here) rest = in_front _ (answer_lines first before session answer.its answer.finished) _ here
        by_which (inr later) rest = in_later _ (answer_lines first before session answer.its answer.finished) _ (rest later)
    by_owner session answer false e earlier ones some = in_later _ (answer_lines first before session answer.its answer.finished) _ (earlier ones some)

    by_event : (event : TraceEvent) → IsGiven number serial its first before → AreTellings (answers_of number (record { its = event; effects = it.effects } ∷ before)) → 1 ≤ number_of (is_as serial its) (done_told (answers_of number (record { its = event; effects = it.effects } ∷ before)))
        → IsIn (GivesResult number serial its) (event_lines first before event ++ lines_of first before)
    by_event (Called session made) earlier ones some = in_later _ (event_lines first before (Called session made)) _ (earlier ones some)
    by_event (Answered session answer) earlier ones some = by_owner session answer (session == number) refl earlier ones some
    by_event (CommitAsked kind) earlier ones some = earlier ones some
    by_event TurnAsked earlier ones some = earlier ones some
    by_event (KeeperAnswered answer last) earlier ones some = earlier ones some

-- ---- in a life
pub all_given : (opening : World) (events : List Event) (number : ℕ) (s : SessionState) (its : Effect) → IsOpenedWorld opening → slice_get (run opening events).now.sessions number ≡ Some s → is_busy s.step ≡ false
    → IsIn its (history_at opening events) → its.entry.session ≡ number → IsIn (GivesResult number its.entry.serial.0 its.entry.reply) (lines_of_life opening events)
all_given opening events number s its opened found idle is_in mine = trace_given number its.entry.serial.0 its.entry.reply (serials_in opening.now) (run opening events).past.trace
    (subst AreTellings same (subst AreTellings (sym none) (run_tellings k first own)))
    (subst (λ (x : List Telling). 1 ≤ number_of (is_as its.entry.serial.0 its.entry.reply) (done_told x)) same many)
  where
    first : SessionState
    first = (was_opened opening events number s opened found).first

    became : HasBecome opening events number first s
    became = (was_opened opening events number s opened found).became

    k : Seat
    k = seat_at opening.now number

    own : List SessionEvent
    own = session_events opening number events

    same : life_told opening events number first ≡ answers_of number (run opening events).past.trace
    same = life_heard opening events number first s became ∙ no_more_told s.step s.finished (answers_of number (run opening events).past.trace) idle

    none : life_told opening events number first ≡ tellings k first own
    none = no_more_told (session_run k first own).step (session_run k first own).finished (tellings k first own) (to_run (λ (x : SessionState). is_busy x.step ≡ false) opening events number first s became idle)

    many : 1 ≤ number_of (is_as its.entry.serial.0 its.entry.reply) (done_told (life_told opening events number first))
    many =
        let one = one_counted number (history_at opening events) its is_in mine in
        let counts = life_counts opening events number first s became idle (is_as its.entry.serial.0 its.entry.reply) in
        omega (arith, one, counts)
