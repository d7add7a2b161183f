-- At every moment of a life all that sessions have loaded, all that they have asked for and all records of the log fit in words.
use Rattle.std.proofs.Common.{◌≡◌, ℕ, ◌^◌, ◌<◌, ◌≤◌, ◌∙◌, refl, sym, ap, subst, arith, Bool, true, false, List, [], ◌∷◌, ◌++◌}
use Rattle.std.proofs.lemmas.Bool.Decides.{nat_tests}
use Rattle.std.specs.Prelude.{◌==◌, map, nat_lt, if◌then◌else◌, Option, Some, None, slice_get}
use Rattle.fkv_base.specs.declared.numbers.Addr.{Addr}
use Rattle.fkv_epoch.proofs.Shown.{some_same}
use Rattle.law_refine.specs.Below.fkv_flush.TheServing.{Serving}
use Rattle.law_refine.specs.Below.fkv_flush.TheServing.TheVariants as serve
use Rattle.law_refine.specs.Below.fkv_keeper.Keeping.{keeper_ask}
use Rattle.fkv_map.specs.declared.operations.Call.{Call}
use Rattle.law_refine.specs.Below.fkv_ops.Occasion.TheVariants.{Call as AtCall, Poll as AtPoll}
use Rattle.law_refine.specs.Below.fkv_pending.Attempting.{AttemptState}
use Rattle.law_refine.specs.Below.fkv_pending.MailWorld.{MailEvent, mailbox_of}
use Rattle.law_refine.specs.Below.fkv_pending.Mailbox.{past_of}
use Rattle.law_refine.specs.Below.fkv_pending.TheAttempting.{Attempting}
use Rattle.law_refine.specs.Below.fkv_pending.TheAttempting.TheVariants as attempting
use Rattle.law_refine.specs.Below.fkv_pending.MailRecord.{MailRecord}
use Rattle.law_refine.specs.Below.fkv_pending.MailTask.TheVariants.{Clear, Put, Take}
use Rattle.law_refine.specs.Below.fkv_pending.TheMailing.{Mailing}
use Rattle.law_refine.specs.Below.fkv_pending.TheMailing.TheVariants as mailing
use Rattle.law_refine.specs.Below.fkv_pending.PendingRequest.{PendingRequest}
use Rattle.fkv_plane.specs.Asked.{reply_to}
use Rattle.fkv_plane.specs.declared.asks.Ask.{Ask}
use Rattle.law_refine.specs.Below.fkv_session.Sessions.{SessionState, Seat, bits_of, is_busy, request_in_hand, room_of, session_ask, session_next}
use Rattle.law_refine.specs.Below.fkv_session.Sitting.{Sitting}
use Rattle.law_refine.specs.Below.fkv_session.Sitting.TheVariants.{Attempts, ClearsMail, Polls}
use Rattle.law_refine.proofs.Below.fkv_world.Shown.{is_over, same_seat, session_written}
use Rattle.law_refine.specs.Below.fkv_world.Actors.{is_of_session, session_goes}
use Rattle.law_refine.specs.Below.fkv_world.Moves.{Near, session_moved}
use Rattle.law_refine.specs.Below.fkv_world.Runs.{World, happens, read_by_keeper, run}
use Rattle.law_refine.specs.Below.fkv_world.World.{Event, Calls, Commits, Crashes, KeeperMoves, Moves, Now, Turns, near, seat_at, session_called}
use Rattle.law_opening.proofs.OfChanges.Life.{life_holds, life_told}
use Rattle.law_opening.proofs.OfChanges.LifeEvents.{life_falls}
use Rattle.law_opening.proofs.OfChanges.OfDevice.There.{CallsLaw}
use Rattle.law_opening.proofs.OfChanges.OfDevice.Words.{WordsLaw}
use Rattle.law_opening.proofs.OfChanges.OfFits.Attempts.{AttemptValueTold, attempt_begins, attempt_ok, latch_ok}
use Rattle.law_opening.proofs.OfChanges.OfFits.Effects.{effects_fit}
use Rattle.law_opening.proofs.OfChanges.OfFits.Events.{step_make}
use Rattle.law_opening.proofs.OfChanges.OfFits.Held.{Held, HeldSoFar, SessionOk, cells_fit, flushed_at, held_now, log_at, one_rises, one_stays}
use Rattle.law_opening.proofs.OfChanges.OfFits.Logs.{AllMakeFit, AllOpsFit, HistoryFits, LogOk, LoggedOk, behind_ok, both_make}
use Rattle.law_opening.proofs.OfChanges.OfFits.Mails.{AreOk, PastOk, begins_ok, both_ok, changed_ok, past_grows, run_ok}
use Rattle.law_opening.proofs.OfChanges.OfFits.Rows.{AttemptOk, MailingOk, PendingOk, attempt_grows, pending_grows}
use Rattle.law_opening.proofs.OfChanges.OfFits.Taken.{takes_fit}
use Rattle.law_opening.proofs.OfChanges.OfFits.Told.{session_told, values_fit}
use Rattle.law_opening.proofs.OfChanges.OfMails.AttemptMails.{is_putting}
use Rattle.law_opening.proofs.OfChanges.OfMails.Life.{life_mails}
use Rattle.law_opening.proofs.OfChanges.OfMails.SessionMails.{MailsAt}
use Rattle.law_opening.proofs.OfChanges.OfSessions.Attempting.{attempting_is, life_attempts}
use Rattle.law_opening.proofs.OfChanges.OfSessions.Calm.{calm_known, is_calm, not_calm}
use Rattle.law_opening.proofs.OfChanges.OfSessions.Comes.{SessionComes, Begins, Stays as Remains, Steps, session_comes}
use Rattle.law_opening.proofs.OfChanges.OfSessions.Floors.{comes_from}
use Rattle.law_opening.proofs.OfChanges.OfSessions.Heads.{head_flushed}
use Rattle.law_opening.specs.Changes.Fits.{CallsFit, CellFits}
use Rattle.law_opening.specs.Changes.Laws.{BeginsFitting, begin_at}
use Rattle.law_refine.proofs.Below.law_local.OfSessions.Known.{begun_known, next_known, opened_known, stays_known}
use Rattle.law_refine.specs.Below.law_local.Sessions.Inputs.{AttemptsSo}
use Rattle.law_refine.specs.Below.law_local.Sessions.Known.{attempt_after, catch_after, caught_up_at, is_attempting, with_op}
use Rattle.law_log.specs.Chains.{Cell, Logged, Unborn, Reserved, Published, Dropped}
use Rattle.law_log.specs.Ghosts.{Ghosts, GhostEvent, Log, Tells, Fixes, ghost_run}
use Rattle.law_log.specs.Trace.{TraceLine}
use Rattle.law_refine.specs.Mail.MailEvents.{asked_by, begins, begun_events, called_events, changed_by, keeper_events, life_events, mail_events, moved_events, own_events, record_read, served_events}
use Rattle.law_refine.specs.Mail.MailEvents as mails
use Rattle.law_refine.specs.Mail.Mailers.{attempt_mailing, session_mailing, sitting_mailing}
use Rattle.law_refine.specs.Mail.Reads.{mail_past}
use Rattle.law_refine.specs.Mail.Servers.{begin_of, is_serving, serving_of}
use Rattle.law_refine.specs.Mail.Shows.{mail_opening}
use Rattle.law_refine.proofs.OfCalls.LifeHistory.{life_entries}
use Rattle.law_refine.proofs.OfRecords.LogHeaders.{fall_first}
use Rattle.law_refine.proofs.OfRecords.Meets.{life_meets_published}
use Rattle.law_refine.proofs.OfSeen.Alone.{moves_alone}
use Rattle.law_refine.proofs.OfSeen.There.{there_before}
use Rattle.law_refine.specs.Events.GhostEvents.{fixed_ghosts, ghost_events, home_in, mapped, moved_ghosts, own_ghosts, safe_at, serials_in, traced_by}
use Rattle.law_refine.specs.Events.Lines.{lines_added}
use Rattle.law_refine.specs.Records.Changes.{AreChangesPublished}
use Rattle.law_refine.specs.Below.fkv_ops.Bounds.{bounds_of}

-- ---- events of the log
told_make : (lines : List TraceLine) → AllMakeFit (map Tells lines)
told_make [] = tt
told_make (line ∷ rest) = (tt, told_make rest)

fixed_make : (before safe : ℕ) → AllMakeFit (fixed_ghosts before safe)
fixed_make before safe = by_test (safe == before)
  where
    by_test : (c : Bool) → AllMakeFit (if c then [] else Fixes safe ∷ [])
    by_test true = tt
    by_test false = (tt, tt)

-- ---- events of a mailbox
not_putting_ok : (log : Log) (flushed : ℕ) (step : Mailing) → is_putting step ≡ false → MailingOk log flushed step
not_putting_ok log flushed (mailing.LoadsState Clear) none = tt
not_putting_ok log flushed (mailing.LoadsState Take) none = tt
not_putting_ok log flushed (mailing.LoadsState (Put addr)) none = cc
not_putting_ok log flushed (mailing.StoresAddress addr) none = cc
not_putting_ok log flushed step none = tt

attempt_begins_ok : (begin : ℕ) (log : Log) (flushed : ℕ) (a : AttemptState) (step : Attempting) → AttemptOk begin log flushed a → AreOk log flushed (begins (attempt_mailing a step))
attempt_begins_ok begin log flushed a attempting.Looks ok = begins_ok log flushed a.mailing ok.1.0
attempt_begins_ok begin log flushed a attempting.Puts ok = begins_ok log flushed a.mailing ok.1.0
attempt_begins_ok begin log flushed a step ok = tt

sitting_begins_ok : (begin : ℕ) (log : Log) (flushed : ℕ) (s : SessionState) (step : Sitting) → MailsAt s step → (is_attempting step ≡ true → AttemptOk begin log flushed s.attempt) → AreOk log flushed (begins (sitting_mailing s step))
sitting_begins_ok begin log flushed s (Attempts has_shifted) mails ok = attempt_begins_ok begin log flushed s.attempt s.attempt.step (ok refl)
sitting_begins_ok begin log flushed s (Polls index) mails ok = attempt_begins_ok begin log flushed s.attempt s.attempt.step (ok refl)
sitting_begins_ok begin log flushed s ClearsMail mails ok = begins_ok log flushed s.mailing (not_putting_ok log flushed s.mailing mails)
sitting_begins_ok begin log flushed s step mails ok = tt

asked_ok : {A : Type 0} (log : Log) (flushed : ℕ) (words : List ℕ) (found : Option Mailing) (ask : Ask A) → AreOk log flushed (asked_by words found ask)
asked_ok log flushed words None ask = changed_ok log flushed words ask
asked_ok log flushed words (Some step) ask = (tt, tt)

either_ok : (log : Log) (flushed : ℕ) (c : Bool) (a b : List MailEvent) → AreOk log flushed a → AreOk log flushed b → AreOk log flushed (if c then a else b)
either_ok log flushed true a b one other = one
either_ok log flushed false a b one other = other

served_ok : (log : Log) (flushed begin : ℕ) (given : MailRecord) (done : Bool) (addr : ℕ) (step : Serving) → AreOk log flushed (served_events begin given done addr step)
served_ok log flushed begin given done addr serve.AtRest = tt
served_ok log flushed begin given done addr (serve.LoadsState session) = tt
served_ok log flushed begin given done addr (serve.LoadsAddress session) =
    either_ok log flushed (nat_lt addr begin) _ _ (tt, (tt, (tt, tt))) (either_ok log flushed (nat_lt addr (2 ^ 48)) _ [] (tt, (tt, tt)) tt)
served_ok log flushed begin given done addr (serve.Reads session at) = either_ok log flushed done _ [] (tt, tt) tt
served_ok log flushed begin given done addr step = (tt, tt)

keeper_ok : (log : Log) (flushed : ℕ) (n : Now) (read : List ℕ) (session : ℕ) (done : Bool) → AreOk log flushed (keeper_events n read session done)
keeper_ok log flushed n read session done =
    either_ok log flushed (is_serving session (serving_of n.keeper)) _ _ (served_ok log flushed (begin_of n.keeper) (record_read read) done (mailbox_of n.words session).addr (serving_of n.keeper)) (changed_ok log flushed n.words (keeper_ask n.shape n.places n.keeper))

-- ---- by each event of a life
module _ (opening : World) (start : ℕ) (lists : ℕ → List ℕ) (ghosts : Ghosts) (begun : BeginsFitting opening start lists ghosts) (calls : CallsLaw) (words : WordsLaw) where
  history_fits : (events : List Event) → CallsFit events → HistoryFits (log_at opening ghosts events)
  history_fits events fits =
      let linked = begun.linked in
      let meets = life_meets_published opening start ghosts linked.now linked.unborn linked.reserves events (life_holds opening start lists ghosts events linked).published in
      subst AllOpsFit (sym (life_entries opening start ghosts events linked.world linked.now linked.unborn linked.reserves begun.no_history meets)) (effects_fit opening events linked.world fits)

  module _ (before : List Event) (event : Event) (fits : CallsFit (event ∷ before)) (so_far : HeldSoFar opening start ghosts before) where
    abbrev W : World
    W = run opening before

    abbrev N : Now
    N = W.now

    abbrev L : Log
    L = log_at opening ghosts before

    abbrev L' : Log
    L' = log_at opening ghosts (event ∷ before)

    abbrev B : ℕ
    B = begin_at opening.now

    abbrev F : ℕ
    F = flushed_at opening before

    abbrev F' : ℕ
    F' = flushed_at opening (event ∷ before)

    held : Held opening start ghosts before
    held = held_now opening start ghosts before so_far

    published : AreChangesPublished opening ghosts before
    published = (life_holds opening start lists ghosts before begun.linked).published

    pending_on : (pending : PendingRequest) → PendingOk B L F pending → PendingOk B L' F' pending
    pending_on pending ok = pending_grows L L' (one_stays opening start lists ghosts begun.linked before event) F F' (one_rises opening start lists ghosts begun.linked before event) B pending ok

    attempt_on : (a : AttemptState) → AttemptOk B L F a → AttemptOk B L' F' a
    attempt_on a ok = attempt_grows L L' (one_stays opening start lists ghosts begun.linked before event) F F' (one_rises opening start lists ghosts begun.linked before event) B a ok

    -- ---- its sessions
    module _ (session : ℕ) (s : SessionState) (was : slice_get N.sessions session ≡ Some s) where
      abbrev K : Seat
      K = seat_at N session

      knows : SessionOk B L F s
      knows = held.sessions session s was

      from : B ≤ s.floor.0
      from = held.floors session s was

      stays : SessionOk B L' F' s
      stays = stays_known (λ pending. PendingOk B L F pending) (λ pending. PendingOk B L' F' pending) (λ a. AttemptOk B L F a) (λ a. AttemptOk B L' F' a) s pending_on (λ attempting its. attempt_on s.attempt its) knows

      attempts_so : AttemptsSo K s
      attempts_so = subst (λ (k : Seat). AttemptsSo k s) (sym (same_seat opening before session)) (life_attempts opening before session s begun.linked.world was)

      module _ (alive : N.crashed ≡ false) where
        value_told : is_attempting s.step ≡ true → AttemptValueTold B L F session s.attempt s.attempt.step (reply_to N.words (session_ask K s))
        value_told attempts =
            session_told B L F K N.words s attempts attempts_so (values_fit opening start lists ghosts before session s begun.linked published (cells_fit start L held.log) was attempts)
            (head_flushed opening start before session s begun.linked.now was (attempting_is s.step attempts))
            (takes_fit opening start lists ghosts begun calls words before session s so_far alive was attempts)

        replied : SessionOk B L' F' (session_next K s (reply_to N.words (session_ask K s)))
        replied =
            next_known (λ pending. PendingOk B L F pending) (λ pending. PendingOk B L' F' pending) (λ a. AttemptOk B L F a) (λ a. AttemptOk B L' F' a) K s (reply_to N.words (session_ask K s)) knows
            (record {
              waits = pending_on;
              attempts = λ attempting its. attempt_on (attempt_after K s (reply_to N.words (session_ask K s)))
                  (attempt_ok B L F K.places (bits_of K) (room_of K) K.number s.attempt (reply_to N.words (session_ask K s)) (((life_holds opening start lists ghosts before begun.linked).known session s was).attempted attempting)
                  (life_told opening start lists ghosts before session s begun.linked published was attempting) its (value_told attempting));
              accepts = λ has_shifted its at comes accepted its_known. its_known.0;
              keeps = λ index its at comes waits its_known. its_known.0;
              hands_over = λ polling pending spare is_orphaned its. attempt_begins B L' F' K.places (bits_of K) pending s.seen AtPoll spare is_orphaned its;
              begins_anew = λ its at done spare is_orphaned. attempt_begins B L' F' K.places (bits_of K) (request_in_hand (caught_up_at K s (reply_to N.words (session_ask K s)))) (catch_after K s (reply_to N.words (session_ask K s))).seen (AtCall (bounds_of K.shape)) spare is_orphaned (tt, (tt, from));
              latches = λ cause pending at its. latch_ok B L' F' K.places (bits_of K) pending true its;
            })

        moved : (after : SessionState) → after ≡ (session_moved K (near N s)).machine → (calm : Bool) → is_calm s.step ≡ calm → SessionOk B L' F' after
        moved after is true e = subst (SessionOk B L' F') (sym is) (calm_known (λ pending. PendingOk B L' F' pending) (λ a. AttemptOk B L' F' a) K (near N s) e stays)
        moved after is false e =
            let busy = not_calm s.step e in
            subst (SessionOk B L' F') (sym (is ∙ ap (λ (x : Near SessionState). x.machine) (moves_alone opening start before session s begun.linked.now was busy.0 busy.1))) replied

        comes : (after : SessionState) → SessionComes W session s after → SessionOk B L' F' after
        comes after (Remains is) = subst (SessionOk B L' F') (sym is) stays
        comes after (Begins its idle is) = subst (SessionOk B L' F') (sym is)
            (begun_known (λ pending. PendingOk B L' F' pending) (λ a. AttemptOk B L' F' a) K s its idle stays
            (record {
              calls = λ op made none spare is_orphaned. attempt_begins B L' F' K.places (bits_of K) (request_in_hand (with_op s op)) s.seen (AtCall (bounds_of K.shape)) spare is_orphaned (tt, (tt, from));
              polls = λ made awake pending spare is_orphaned known_then. attempt_begins B L' F' K.places (bits_of K) pending s.seen AtPoll spare is_orphaned known_then;
            }))
        comes after (Steps is) = moved after is (is_calm s.step) refl

      by_life : (after : SessionState) → slice_get (happens W event).now.sessions session ≡ Some after → (crashed : Bool) → N.crashed ≡ crashed → SessionOk B L' F' after
      by_life after is_now true e = subst (SessionOk B L' F') (sym (some_same after s (sym is_now ∙ (ap (λ (x : World). slice_get x.now.sessions session) (is_over W event e) ∙ was)))) stays
      by_life after is_now false e = comes e after (session_comes W event session s after was is_now)

    sessions_on : (session : ℕ) (after : SessionState) → slice_get (run opening (event ∷ before)).now.sessions session ≡ Some after → SessionOk B L' F' after
    unfolding run
    sessions_on session after is_now =
        let s = there_before W event session after is_now in
        by_life session s.0 s.1 after is_now N.crashed refl

    floors_on : (session : ℕ) (after : SessionState) → slice_get (run opening (event ∷ before)).now.sessions session ≡ Some after → B ≤ after.floor.0
    unfolding run
    floors_on session after is_now =
        let s = there_before W event session after is_now in
        comes_from B W session s.0 after (session_comes W event session s.0 after s.1 is_now) (held.floors session s.0 s.1)

    -- ---- its mailboxes
    after_ok : (session : ℕ) (after : SessionState) → slice_get (run opening (event ∷ before)).now.sessions session ≡ Some after → AreOk L' F' (begins (session_mailing after))
    after_ok session after is_now = sitting_begins_ok B L' F' after after.step (life_mails opening start (event ∷ before) session after begun.linked.world begun.linked.now is_now) (sessions_on session after is_now).attempted

    goes_ok : (session : ℕ) (s : SessionState) → N.crashed ≡ false → slice_get N.sessions session ≡ Some s → is_of_session session event ≡ true → AreOk L' F' (begins (session_mailing (session_goes (seat_at N session) (near N s) event).machine))
    unfolding run
    goes_ok session s alive was own = after_ok session (session_goes (seat_at N session) (near N s) event).machine (session_written W event session s own alive was)

  -- of a session's call, and of its step
  module _ (before : List Event) (so_far : HeldSoFar opening start ghosts before) (session : ℕ) (alive : (run opening before).now.crashed ≡ false) where
    abbrev M : Now
    M = (run opening before).now

    abbrev OkBehind : Event → List MailEvent → Type 0
    OkBehind event events = AreOk (log_at opening ghosts (event ∷ before)) (flushed_at opening (event ∷ before)) events

    same_number : (number : ℕ) → (number == session) ≡ true → number ≡ session
    same_number number e = grind (arith, nat_tests, e)

    called_ok : (number : ℕ) (its : Call) → CallsFit (Calls number its ∷ before) → (found : Option SessionState) → slice_get M.sessions number ≡ found
        → OkBehind (Calls number its) (called_events M session number its found)
    unfolding session_goes
    called_ok number its fits None e = tt
    called_ok number its fits (Some s) e = by_number (number == session) refl
      where
        begun_ok : (number == session) ≡ true → OkBehind (Calls number its) (begins (session_mailing (session_called (seat_at M session) s its)))
        begun_ok same = goes_ok before (Calls number its) fits so_far session s alive (subst (λ (x : ℕ). slice_get M.sessions x ≡ Some s) (same_number number same) e) same

        by_busy : (busy : Bool) → (number == session) ≡ true → OkBehind (Calls number its) (if busy then [] else begins (session_mailing (session_called (seat_at M session) s its)))
        by_busy true same = tt
        by_busy false same = begun_ok same

        by_number : (c : Bool) → (number == session) ≡ c → OkBehind (Calls number its) (if c then begun_events M session its s else [])
        by_number true same = by_busy (is_busy s.step) same
        by_number false other = tt

    moved_ok : (number : ℕ) → CallsFit (Moves number ∷ before) → (found : Option SessionState) → slice_get M.sessions number ≡ found
        → OkBehind (Moves number) (moved_events M session number found)
    unfolding session_goes
    moved_ok number fits None e = tt
    moved_ok number fits (Some s) e = by_number (number == session) refl
      where
        begun_ok : (number == session) ≡ true → OkBehind (Moves number) (begins (session_mailing (session_moved (seat_at M session) (near M s)).machine))
        begun_ok same = goes_ok before (Moves number) fits so_far session s alive (subst (λ (x : ℕ). slice_get M.sessions x ≡ Some s) (same_number number same) e) same

        by_number : (c : Bool) → (number == session) ≡ c → OkBehind (Moves number) (if c then own_events M session s else changed_by M.words (session_ask (seat_at M number) s))
        by_number true same =
            both_ok (log_at opening ghosts (Moves number ∷ before)) (flushed_at opening (Moves number ∷ before)) (begins (session_mailing (session_moved (seat_at M session) (near M s)).machine)) (asked_by M.words (session_mailing s) (session_ask (seat_at M session) s))
            (begun_ok same) (asked_ok (log_at opening ghosts (Moves number ∷ before)) (flushed_at opening (Moves number ∷ before)) M.words (session_mailing s) (session_ask (seat_at M session) s))
        by_number false other = changed_ok (log_at opening ghosts (Moves number ∷ before)) (flushed_at opening (Moves number ∷ before)) M.words (session_ask (seat_at M number) s)

    alive_ok : (event : Event) → CallsFit (event ∷ before) → OkBehind event (life_events M (read_by_keeper (run opening before)) session event)
    unfolding life_events
    alive_ok (Calls number its) fits = called_ok number its fits (slice_get M.sessions number) refl
    alive_ok (Moves number) fits = moved_ok number fits (slice_get M.sessions number) refl
    alive_ok (KeeperMoves granted done) fits =
        keeper_ok (log_at opening ghosts (KeeperMoves granted done ∷ before)) (flushed_at opening (KeeperMoves granted done ∷ before)) M (read_by_keeper (run opening before)) session done
    alive_ok (Commits kind) fits = tt
    alive_ok Turns fits = tt
    alive_ok Crashes fits = tt

  event_ok : (before : List Event) (event : Event) → CallsFit (event ∷ before) → HeldSoFar opening start ghosts before → (session : ℕ)
      → AreOk (log_at opening ghosts (event ∷ before)) (flushed_at opening (event ∷ before)) (mail_events (run opening before).now (read_by_keeper (run opening before)) session event)
  event_ok before event fits so_far session = by_crash (run opening before).now.crashed refl
    where
      by_crash : (c : Bool) → (run opening before).now.crashed ≡ c
          → AreOk (log_at opening ghosts (event ∷ before)) (flushed_at opening (event ∷ before)) (if c then [] else life_events (run opening before).now (read_by_keeper (run opening before)) session event)
      by_crash true e = tt
      by_crash false e = alive_ok before so_far session e event fits

  asked_on : (before : List Event) (event : Event) → CallsFit (event ∷ before) → HeldSoFar opening start ghosts before → (session : ℕ) → session < opening.now.places.sessions
      → PastOk (log_at opening ghosts (event ∷ before)) (flushed_at opening (event ∷ before)) (mail_past opening session (event ∷ before))
  unfolding mails.mapped
  asked_on before event fits so_far session there =
      run_ok (log_at opening ghosts (event ∷ before)) (flushed_at opening (event ∷ before)) (mail_opening opening session) (mail_events (run opening before).now (read_by_keeper (run opening before)) session event) (mails.mapped opening session before)
      (event_ok before event fits so_far session)
      (past_grows (log_at opening ghosts before) (log_at opening ghosts (event ∷ before)) (one_stays opening start lists ghosts begun.linked before event) (flushed_at opening before) (flushed_at opening (event ∷ before)) (one_rises opening start lists ghosts begun.linked before event)
      (mail_past opening session before) ((held_now opening start ghosts before so_far).asked session there))

  -- ---- the log
  moved_make : (before : List Event) (number : ℕ) (found : Option SessionState) → HeldSoFar opening start ghosts before → slice_get (run opening before).now.sessions number ≡ found → AllMakeFit (moved_ghosts (run opening before) number found)
  moved_make before number None so_far e = tt
  moved_make before number (Some s) so_far e =
      let w : World = run opening before in
      let so : AttemptsSo (seat_at w.now number) s = subst (λ (k : Seat). AttemptsSo k s) (sym (same_seat opening before number)) (life_attempts opening before number s begun.linked.world e) in
      step_make (begin_at opening.now) (log_at opening ghosts before) (flushed_at opening before) (seat_at w.now number) w.past.trace s w.now.words (session_ask (seat_at w.now number) s) so ((held_now opening start ghosts before so_far).sessions number s e).attempted

  own_make : (before : List Event) (event : Event) → HeldSoFar opening start ghosts before → AllMakeFit (own_ghosts (run opening before) event)
  own_make before (Moves number) so_far = moved_make before number (slice_get (run opening before).now.sessions number) so_far refl
  own_make before event so_far = tt

  event_make : (before : List Event) (event : Event) → HeldSoFar opening start ghosts before → AllMakeFit (ghost_events (serials_in opening.now) (run opening before) event)
  unfolding ghost_events
  event_make before event so_far = by_test w.now.crashed
    where
      w : World
      w = run opening before

      lines : List TraceLine
      lines = lines_added (serials_in opening.now) w.past.trace (traced_by w event)

      fresh : List GhostEvent
      fresh = fixed_ghosts (safe_at w.now) (safe_at (happens w event).now)

      by_test : (c : Bool) → AllMakeFit (if c then [] else map Tells lines ++ (fresh ++ own_ghosts w event))
      by_test true = tt
      by_test false = both_make (map Tells lines) (fresh ++ own_ghosts w event) (told_make lines) (both_make fresh (own_ghosts w event) (fixed_make (safe_at w.now) (safe_at (happens w event).now)) (own_make before event so_far))

  log_on : (before : List Event) (event : Event) → CallsFit (event ∷ before) → HeldSoFar opening start ghosts before → LogOk start (log_at opening ghosts (event ∷ before))
  unfolding mapped
  log_on before event fits so_far =
      let its : List GhostEvent = ghost_events (serials_in opening.now) (run opening before) event in
      behind_ok (home_in opening.now.shape.bucket_bits) start ghosts its (mapped opening before) (event_make before event so_far) (fall_first its (mapped opening before) (life_falls opening start lists ghosts begun.linked (event ∷ before))) (history_fits (event ∷ before) fits)
      (held_now opening start ghosts before so_far).log

  -- ---- as the life begins
  unborn_not : {X : Type 0} (cell : Cell) → Published cell ≡ Unborn → X
  unborn_not cell e = cc

  first_log : LogOk start ghosts.log
  first_log a = by_cell (ghosts.log.cells a) refl
    where
      above : (cell : Cell) → ghosts.log.cells a ≡ Published cell → start ≤ a → cell.previous < a
      above cell e high = unborn_not cell (sym e ∙ begun.linked.unborn a (let tail = begun.linked.now.words.tail in omega (arith, tail, high)))

      by_cell : (logged : Logged) → ghosts.log.cells a ≡ logged → LoggedOk start a logged
      by_cell (Published cell) e = (begun.fits a cell e, above cell e)
      by_cell (Reserved entry cell) e = absurd (begun.linked.reserves a entry cell e)
      by_cell Unborn e = tt
      by_cell (Dropped cell) e = tt

  no_lower : (floor begin : Addr) → floor ≡ begin → begin.0 ≤ floor.0
  no_lower floor begin same = subst (λ (a : Addr). begin.0 ≤ a.0) (sym same) (let itself : begin.0 ≤ begin.0 = omega arith in itself)

  first_held : Held opening start ghosts []
  unfolding run mapped ghost_run mails.mapped past_of
  first_held = record {
    sessions = λ session s found. opened_known (λ pending. PendingOk (begin_at opening.now) (log_at opening ghosts []) (flushed_at opening []) pending) (λ a. AttemptOk (begin_at opening.now) (log_at opening ghosts []) (flushed_at opening []) a) s (begun.linked.world.sessions session s found);
    floors = λ session s found. no_lower s.floor opening.now.keeper.last.begin (begun.floors session s found);
    asked = λ session there. (tt, tt);
    log = first_log;
  }

  -- ---- and so on
  pub life_held : (events : List Event) → CallsFit events → HeldSoFar opening start ghosts events
  life_held [] fits = first_held
  life_held (event ∷ before) fits =
      let so_far : HeldSoFar opening start ghosts before = life_held before fits.1 in
      (record { sessions = sessions_on before event fits so_far; floors = floors_on before event fits so_far; asked = asked_on before event fits so_far; log = log_on before event fits so_far }, so_far)

  pub life_fits : (events : List Event) → CallsFit events → (a : ℕ) (cell : Cell) → (log_at opening ghosts events).cells a ≡ Published cell → CellFits cell
  life_fits events fits = cells_fit start (log_at opening ghosts events) (held_now opening start ghosts events (life_held events fits)).log
