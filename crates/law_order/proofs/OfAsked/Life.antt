-- In every life what a session's requests have asked for is what its mailbox's notes say.
use Rattle.std.proofs.Common.{◌≡◌, ℕ, ◌∙◌, refl, sym, ap, subst, arith, Bool, true, false, List, [], ◌∷◌, ◌++◌, append_assoc}
use Rattle.std.specs.Prelude.{◌==◌, if◌then◌else◌, Option, Some, None, slice_get}
use Rattle.std.proofs.lemmas.Bool.Decides.{nat_tests}
use Rattle.fkv_base.specs.declared.numbers.Addr.{Addr}
use Rattle.fkv_epoch.proofs.Shown.{none_some, some_same}
use Rattle.fkv_map.specs.declared.operations.Call.{Call}
use Rattle.fkv_plane.specs.declared.asks.Ask.{Ask}
use Rattle.fkv_plane.specs.Asked.{reply_to}
use Rattle.law_commit.specs.Below.fkv_pending.MailTask.{MailTask}
use Rattle.law_commit.specs.Below.fkv_pending.TheMailing.{Mailing}
use Rattle.law_commit.specs.Below.fkv_pending.Mailing.{mail_ask}
use Rattle.law_commit.specs.Below.fkv_pending.MailWorld.{mailbox_of, MailWorld, MailEvent, Moves as MailMoves, is_at_end, mail_happens, mail_run}
use Rattle.law_commit.specs.Below.fkv_pending.Mailbox.{MailNote, MailPast, asked_then, past_of}
use Rattle.law_commit.proofs.Below.fkv_pending.Shown.{mail_done}
use Rattle.law_commit.specs.Below.fkv_session.Told.{Told as Answer}
use Rattle.law_commit.specs.Below.fkv_session.Sessions as session_of
use Rattle.law_commit.specs.Below.fkv_session.Sessions.{SessionState, Seat, is_busy, session_ask, session_begun}
use Rattle.law_commit.specs.Below.law_local.Sessions.Known.{is_attempting}
use Rattle.law_commit.specs.Below.fkv_world.Actors.{is_of_session, session_goes}
use Rattle.law_commit.specs.Below.fkv_world.Moves.{session_moved}
use Rattle.law_commit.specs.Below.fkv_world.Runs.{World, read_by_keeper, happens, run}
use Rattle.law_commit.specs.Below.fkv_world.World.{Event, Calls, Moves, Now, seat_at, near, session_called}
use Rattle.law_commit.proofs.Below.fkv_world.Shown.{is_over, same_seat, session_apart, session_written}
use Rattle.law_commit.proofs.Below.law_world.OfRuns.Nothing.{none_then}
use Rattle.law_commit.specs.Below.law_world.Guarded.Shows as guard
use Rattle.law_commit.specs.Below.law_refine.Mail.MailEvents.{begins, changed_by, asked_by, own_events, begun_events, called_events, moved_events, life_events, mapped}
use Rattle.law_commit.specs.Below.law_refine.Mail.Mailers.{session_mailing, IsAsFar}
use Rattle.law_commit.specs.Below.law_refine.Mail.Reads.{mail_notes, mail_past}
use Rattle.law_commit.specs.Below.law_refine.Mail.Shows.{IsOpened, mail_opening, seen_by_mailbox}
use Rattle.law_commit.proofs.Below.law_refine.OfMail.Lives.{life_shows, life_sound}
use Rattle.law_order.specs.Asked.Asked.{AsksForSought, HaveAskedSought, LooksForAsked, outstanding}
use Rattle.law_order.proofs.OfAsked.Askers.{asker, askers, AllSought}
use Rattle.law_order.proofs.OfAsked.Facts.{asks_looks, asks_puts, asks_sought}
use Rattle.law_order.proofs.OfAsked.Moved.{is_first, moved_asks, own_reply, task_asks}
use Rattle.law_order.proofs.OfAsked.Past.{IsSamePast, begins_none, begins_notes, changed_quiet, event_quiet, moved_task, quiet_past}
use Rattle.law_order.proofs.OfAsked.Sitting.{SessionAsks, call_begun_asks, idle_session}
use Rattle.law_order.proofs.OfAsked.Told.{MailTold, Told, moves_told}

module _ (opening : World) (start : ℕ) (session : ℕ) (opened : IsOpened opening.now session) (store : guard.IsOpened opening.now start) where
  abbrev k : Seat
  k = seat_at opening.now session

  abbrev first : MailWorld
  first = mail_opening opening session

  abbrev Asks : Option Addr → Option MailTask → SessionState → Type 0
  Asks asked task s = SessionAsks k store.buckets asked task s

  abbrev AsksBehind : MailPast → SessionState → Type 0
  AsksBehind past s = Asks (outstanding past.notes) past.task s

  abbrev AllAsk : List Event → Type 0
  AllAsk events = (s : SessionState) → slice_get (run opening events).now.sessions session ≡ Some s → AsksBehind (mail_past opening session events) s

  same_asks : (past after : MailPast) (s : SessionState) → IsSamePast past after → AsksBehind past s → AsksBehind after s
  same_asks past after s same its =
      subst (λ (x : Option Addr). Asks x after.task s) (sym same.asked) (subst (λ (x : Option MailTask). Asks (outstanding past.notes) x s) (sym same.task) its)

  -- a task may have begun
  begin_asks : (events : List MailEvent) (task : Option MailTask) (s : SessionState) → Asks (outstanding (past_of first events).notes) task s
      → ((m : Mailing) → session_mailing s ≡ Some m → is_first m ≡ false → (past_of first (begins (session_mailing s) ++ events)).task ≡ task)
      → AsksBehind (past_of first (begins (session_mailing s) ++ events)) s
  begin_asks events task s its same =
      let after : MailPast = past_of first (begins (session_mailing s) ++ events) in
      subst (λ (x : List MailNote). Asks (outstanding x) after.task s) (sym (begins_notes first (session_mailing s) events))
      (task_asks k store.buckets (outstanding (past_of first events).notes) task after.task s same its)

  begins_later : (s : SessionState) (m : Mailing) (events : List MailEvent) → session_mailing s ≡ Some m → is_first m ≡ false → begins (session_mailing s) ++ events ≡ events
  begins_later s m events at later = ap (λ (xs : List MailEvent). xs ++ events) (ap begins at ∙ begins_none m later)

  module _ (before : List Event) (alive : (run opening before).now.crashed ≡ false) (known : AllAsk before) where
    abbrev v : World
    v = run opening before

    abbrev n : Now
    n = v.now

    abbrev events : List MailEvent
    events = mapped opening session before

    abbrev past : MailPast
    past = past_of first events

    abbrev w : MailWorld
    w = seen_by_mailbox opening session before

    seat : seat_at n session ≡ k
    seat = same_seat opening before session

    own_number : (number : ℕ) → (number == session) ≡ true → number ≡ session
    own_number number own = grind (arith, nat_tests, own)

    -- ---- a call begins
    called_events_so : (number : ℕ) (call : Call) (s : SessionState) → (number == session) ≡ true → slice_get n.sessions session ≡ Some s → mapped opening session (Calls number call ∷ before) ≡ begun_events n session call s ++ events
    unfolding mapped life_events
    called_events_so number call s own got =
        ap (λ (es : List MailEvent). es ++ events)
        (ap (λ (c : Bool). if c then [] else called_events n session number call (slice_get n.sessions number)) alive
        ∙ ap (λ (found : Option SessionState). called_events n session number call found) (ap (slice_get n.sessions) (own_number number own) ∙ got)
        ∙ ap (λ (c : Bool). if c then begun_events n session call s else []) own)

    begun_behind : (call : Call) (s : SessionState) (busy : Bool) → is_busy s.step ≡ busy → AsksBehind past s
        → AsksBehind (past_of first ((if busy then [] else begins (session_mailing (if busy then s else session_begun (seat_at n session) s call))) ++ events)) (if busy then s else session_begun (seat_at n session) s call)
    begun_behind call s true e its = its
    begun_behind call s false e its =
        let after : SessionState = session_begun (seat_at n session) s call in
        let asks : Asks (outstanding past.notes) past.task after =
        subst (λ (x : Seat). Asks (outstanding past.notes) past.task (session_begun x s call)) (sym seat) (call_begun_asks k store.buckets (outstanding past.notes) past.task s call e its) in
        begin_asks events past.task after asks (λ m at later. ap (λ (es : List MailEvent). (past_of first es).task) (begins_later after m events at later))

    called_asks : (number : ℕ) (call : Call) (s : SessionState) → (number == session) ≡ true → slice_get n.sessions session ≡ Some s → AsksBehind (mail_past opening session (Calls number call ∷ before)) (session_called (seat_at n session) s call)
    called_asks number call s own got =
        subst (λ (es : List MailEvent). AsksBehind (past_of first es) (session_called (seat_at n session) s call)) (sym (called_events_so number call s own got)) (begun_behind call s (is_busy s.step) refl (known s got))

    -- ---- the session moves
    abbrev ask_of : SessionState → Ask Answer
    ask_of s = session_ask (seat_at n session) s

    abbrev after_of : SessionState → SessionState
    after_of s = (session_moved (seat_at n session) (near n s)).machine

    -- what its ask is to the mailbox
    abbrev asked_events : SessionState → Option Mailing → List MailEvent
    asked_events s found = asked_by n.words found (ask_of s) ++ events

    moved_events_so : (number : ℕ) (s : SessionState) → (number == session) ≡ true → slice_get n.sessions session ≡ Some s
        → mapped opening session (Moves number ∷ before) ≡ begins (session_mailing (after_of s)) ++ asked_events s (session_mailing s)
    unfolding mapped life_events
    moved_events_so number s own got =
        ap (λ (es : List MailEvent). es ++ events)
        (ap (λ (c : Bool). if c then [] else moved_events n session number (slice_get n.sessions number)) alive
        ∙ ap (λ (found : Option SessionState). moved_events n session number found) (ap (slice_get n.sessions) (own_number number own) ∙ got)
        ∙ ap (λ (c : Bool). if c then own_events n session s else changed_by n.words (session_ask (seat_at n number) s)) own)
        ∙ append_assoc (begins (session_mailing (after_of s))) (asked_by n.words (session_mailing s) (ask_of s)) events

    far_of : (s : SessionState) (step : Mailing) → slice_get n.sessions session ≡ Some s → session_mailing s ≡ Some step → IsAsFar (Some step) w.mailing
    far_of s step got e = subst (λ (x : Option Mailing). IsAsFar x w.mailing) e ((life_shows opening session before opened).mailing s got)

    moved_told : (s : SessionState) (found : Option Mailing) → slice_get n.sessions session ≡ Some s → session_mailing s ≡ found
        → Told (outstanding past.notes) past.task found (reply_to n.words (ask_of s)) (outstanding (past_of first (asked_events s found)).notes)
    unfolding past_of
    moved_told s None got e = (quiet_past first (changed_by n.words (ask_of s)) events (changed_quiet n.words (ask_of s))).asked
    moved_told s (Some step) got e =
        let shows = life_shows opening session before opened in
        let far = far_of s step got e in
        let asked' : Option Addr = outstanding (past_of first (MailMoves ∷ events)).notes in
        let reply : reply_to w.words (mail_ask w.session w.mailing) ≡ reply_to n.words (ask_of s) =
        ap (λ (x : List ℕ). reply_to x (mail_ask w.session w.mailing)) shows.words
        ∙ ap (λ (x : ℕ). reply_to n.words (mail_ask x w.mailing)) shows.session_same
        ∙ ap (λ (x : Mailing). reply_to n.words (mail_ask session x)) far.0
        ∙ sym (own_reply (seat_at n session) s step n.words e) in
        subst (λ (x : Mailing). MailTold (outstanding past.notes) past.task x (reply_to n.words (ask_of s)) asked') far.0
        (subst (λ (x : ℕ). MailTold (outstanding past.notes) past.task w.mailing x asked') reply
        (moves_told w past (life_sound opening session before opened) (ap is_at_end far.0 ∙ far.1)))

    -- the task that is told goes on where the machine does
    moved_on : (s : SessionState) (found : Option Mailing) → slice_get n.sessions session ≡ Some s → session_mailing s ≡ found → is_at_end (mail_run first (asked_events s found)).mailing ≡ false
        → (past_of first (asked_events s found)).task ≡ past.task
    unfolding past_of mail_run mail_happens
    moved_on s None got e way = (quiet_past first (changed_by n.words (ask_of s)) events (changed_quiet n.words (ask_of s))).task
    moved_on s (Some step) got e way =
        moved_task (mailbox_of w.words w.session) (mailbox_of (mail_happens w MailMoves).words w.session) (asked_then w) past past.task refl (mail_done w.session (mail_happens w MailMoves).mailing ∙ way)

    later_same : (number : ℕ) (s : SessionState) → (number == session) ≡ true → slice_get n.sessions session ≡ Some s → slice_get (run opening (Moves number ∷ before)).now.sessions session ≡ Some (after_of s)
        → (m : Mailing) → session_mailing (after_of s) ≡ Some m → is_first m ≡ false → (past_of first (begins (session_mailing (after_of s)) ++ asked_events s (session_mailing s))).task ≡ past.task
    later_same number s own got there m at later =
        let these : List MailEvent = asked_events s (session_mailing s) in
        let same : begins (session_mailing (after_of s)) ++ these ≡ these = begins_later (after_of s) m these at later in
        let far : IsAsFar (Some m) (seen_by_mailbox opening session (Moves number ∷ before)).mailing =
        subst (λ (x : Option Mailing). IsAsFar x (seen_by_mailbox opening session (Moves number ∷ before)).mailing) at ((life_shows opening session (Moves number ∷ before) opened).mailing (after_of s) there) in
        let way : is_at_end (mail_run first these).mailing ≡ false =
        ap (λ (es : List MailEvent). is_at_end (mail_run first es).mailing) (sym (moved_events_so number s own got ∙ same)) ∙ (ap is_at_end far.0 ∙ far.1) in
        ap (λ (es : List MailEvent). (past_of first es).task) same ∙ moved_on s (session_mailing s) got refl way

    moved_behind : (number : ℕ) (s : SessionState) → (number == session) ≡ true → slice_get n.sessions session ≡ Some s → slice_get (run opening (Moves number ∷ before)).now.sessions session ≡ Some (after_of s)
        → AsksBehind (mail_past opening session (Moves number ∷ before)) (after_of s)
    moved_behind number s own got there =
        let asked' : Option Addr = outstanding (past_of first (asked_events s (session_mailing s))).notes in
        let tells : Told (outstanding past.notes) past.task (session_mailing s) (reply_to n.words (session_ask k s)) asked' =
        subst (λ (x : Seat). Told (outstanding past.notes) past.task (session_mailing s) (reply_to n.words (session_ask x s)) asked') seat (moved_told s (session_mailing s) got refl) in
        let asks : Asks asked' past.task (after_of s) =
        subst (λ (x : Seat). Asks asked' past.task (session_moved x (near n s)).machine) (sym seat) (moved_asks k store.buckets (outstanding past.notes) past.task asked' (near n s) (session_ask k s) refl (known s got) tells) in
        subst (λ (es : List MailEvent). AsksBehind (past_of first es) (after_of s)) (sym (moved_events_so number s own got)) (begin_asks (asked_events s (session_mailing s)) past.task (after_of s) asks (later_same number s own got there))

    -- ---- each event
    own_asks : (event : Event) (s : SessionState) → is_of_session session event ≡ true → slice_get n.sessions session ≡ Some s → slice_get (run opening (event ∷ before)).now.sessions session ≡ Some (session_goes (seat_at n session) (near n s) event).machine
        → AsksBehind (mail_past opening session (event ∷ before)) (session_goes (seat_at n session) (near n s) event).machine
    unfolding session_goes
    own_asks (Calls number call) s own got there = called_asks number call s own got
    own_asks (Moves number) s own got there = moved_behind number s own got there
    own_asks event s own got there = cc

    other_past : (event : Event) → is_of_session session event ≡ false → IsSamePast past (mail_past opening session (event ∷ before))
    unfolding mapped
    other_past event other =
        subst (λ (c : Bool). IsSamePast past (past_of first ((if c then [] else life_events n (read_by_keeper v) session event) ++ events))) (sym alive)
        (quiet_past first (life_events n (read_by_keeper v) session event) events (event_quiet n (read_by_keeper v) session event other))

    found_asks : (event : Event) (found : Option SessionState) → slice_get n.sessions session ≡ found → is_of_session session event ≡ true → AllAsk (event ∷ before)
    unfolding run
    found_asks event None e own s there = none_some s (sym (none_then v event session e) ∙ there)
    found_asks event (Some was) e own s there =
        let written : slice_get (happens v event).now.sessions session ≡ Some (session_goes (seat_at n session) (near n was) event).machine = session_written v event session was own alive e in
        subst (λ (x : SessionState). AsksBehind (mail_past opening session (event ∷ before)) x) (some_same _ s (sym written ∙ there)) (own_asks event was own e written)

    alive_asks : (event : Event) (own : Bool) → is_of_session session event ≡ own → AllAsk (event ∷ before)
    unfolding run
    alive_asks event true e = found_asks event (slice_get n.sessions session) refl e
    alive_asks event false e = λ s there. same_asks past (mail_past opening session (event ∷ before)) s (other_past event e) (known s (sym (session_apart v event session e) ∙ there))

  over_asks : (before : List Event) (event : Event) → (run opening before).now.crashed ≡ true → AllAsk before → AllAsk (event ∷ before)
  unfolding run mapped
  over_asks before event over known s there =
      subst (λ (c : Bool). AsksBehind (past_of first ((if c then [] else life_events (run opening before).now (read_by_keeper (run opening before)) session event) ++ mapped opening session before)) s) (sym over)
      (known s (ap (λ (x : World). slice_get x.now.sessions session) (sym (is_over (run opening before) event over)) ∙ there))

  event_asks : (before : List Event) (event : Event) (crashed : Bool) → (run opening before).now.crashed ≡ crashed → AllAsk before → AllAsk (event ∷ before)
  event_asks before event true e known = over_asks before event e known
  event_asks before event false e known = alive_asks before e known event (is_of_session session event) refl

  opened_asks : AllAsk []
  unfolding run mapped past_of outstanding
  opened_asks s there =
      let its : session_of.IsOpened s = opened.sessions session s there in
      let none_wait : askers s.requests ≡ 0 = ap askers its.none_wait in
      let no_orphan : asker s.is_orphaned ≡ 0 = ap asker its.no_orphan in
      idle_session k store.buckets None None s its.none_in_hand (record { all = subst (AllSought None) (sym its.none_wait) tt; few = omega (arith, none_wait, no_orphan) })

  life_stands : (events : List Event) → AllAsk events
  life_stands [] = opened_asks
  life_stands (event ∷ before) = event_asks before event (run opening before).now.crashed refl (life_stands before)

module _ (opening : World) (start : ℕ) (session : ℕ) (events : List Event) (s : SessionState) (opened : IsOpened opening.now session) (store : guard.IsOpened opening.now start)
    (there : slice_get (run opening events).now.sessions session ≡ Some s) where
  stands : SessionAsks (seat_at opening.now session) store.buckets (outstanding (mail_notes opening session events)) (mail_past opening session events).task s
  stands = life_stands opening start session opened store events s there

  pub life_looks : is_attempting s.step ≡ true → LooksForAsked (mail_notes opening session events) s.attempt s.attempt.step
  life_looks attempting = asks_looks (seat_at opening.now session) store.buckets (mail_notes opening session events) (mail_past opening session events).task s stands attempting

  pub life_asks : is_attempting s.step ≡ true → AsksForSought (mail_past opening session events).task s.attempt s.attempt.step
  life_asks attempting = asks_puts (seat_at opening.now session) store.buckets (mail_notes opening session events) (mail_past opening session events).task s stands attempting

  pub life_asked : HaveAskedSought (mail_notes opening session events) s
  life_asked = asks_sought (seat_at opening.now session) store.buckets (mail_notes opening session events) (mail_past opening session events).task s stands
