-- What a mailbox holds: at every moment, and through every event.
use Rattle.std.proofs.Common.{◌≡◌, ◌≢◌, ◌⊎◌, inl, inr, ℕ, ◌+◌, ◌<◌, ◌^◌, Bool, true, false, List, [], ◌∷◌, ◌++◌, refl, sym, ap, subst, ◌∙◌, arith}
use Rattle.std.specs.Prelude.{Option, Some, None, slice_get, slice_set, nat_lt, ◌==◌, if◌then◌else◌}
use Rattle.std.proofs.lemmas.List.{set-get_or}
use Rattle.std.proofs.lemmas.Bool.Decides.{nat_tests}
use Rattle.fkv_base.specs.declared.shapes.Shape.{Shape}
use Rattle.fkv_plane.specs.declared.places.Places.{Places}
use Rattle.fkv_plane.specs.declared.places.SessionWord.TheVariants as own
use Rattle.fkv_plane.specs.Places.{session_place}
use Rattle.fkv_epoch.proofs.Shown.{same_or, some_same}
use Rattle.fkv_flush.specs.GuardLevels.{levels_of}
use Rattle.fkv_flush.specs.declared.serving.Mail.{Mail}
use Rattle.fkv_flush.specs.declared.serving.Serving.{Serving}
use Rattle.fkv_flush.specs.declared.serving.Serving.TheVariants as serve
use Rattle.fkv_flush.specs.Serving.{asked_state, ready_state, mail_of, gone_mail, serve_ask, serve_next, serve_read, mailbox_from}
use Rattle.fkv_flush.specs.GuardCalm.{actor_of}
use Rattle.fkv_flush.specs.GuardMail.{Mailbox, mailbox_of, MailGiven, gone_at, work_reads, actor_reads, work_loads, actor_loads, event_gives, mails_given, newest_for, WasGiven, ReadyWasGiven, HasGiven, FindsAsked, KeepsMailboxes, ServesAlone, AreMailboxesKept, AreEmpty, AskerChanges, KeeperChanges, ChangesMailbox}
use Rattle.fkv_flush.specs.GuardWorld.{Actor, Work, Rests, Reserves, Fills, Invalidates, Shifts, Turns, Flushes, Serves, GuardNow, GuardWorld, GuardEvent, Begins, Resumes, Moves, Calls, Reads, Sees, Publishes, Updates, RaisesReadOnly, RaisesFor, Changes, CallsElse, is_idle, is_guarded, near, GuardNear, put_near, epoch_step, work_step, actor_step, guard_happens, guard_happens_now, guard_run}
use Rattle.fkv_flush.specs.Guarded.{opening, first_actor, event_writes}
use Rattle.fkv_flush.proofs.GuardSound.{IsSound}
use Rattle.fkv_flush.proofs.GuardWorks.{truth}
use Rattle.fkv_flush.proofs.GuardStays.{put_each}
use Rattle.fkv_flush.proofs.GuardLaw.{run_sound, replicate_item}
use Rattle.fkv_flush.proofs.GuardMailPlaces.{IsMail, SparesMail, spared_box, is_serve, moves_aside, is_aside, event_aside, boxes_stay, stored_state, stored_address, stored_header, stored_key, stored_value, mail_apart, room_for}
use Rattle.fkv_flush.proofs.GuardMailRows.{Row, is_still, StaysOrIsApart, served_below, finds_on, asker_apart, next_row, stepped_row, near_row}
use Rattle.fkv_flush.proofs.OneEvent.{event_near, read_near, one_event, each_event}

-- What holds of the mailboxes at every moment.
pub record IsMailKept (keeper : ℕ) (given : List MailGiven) (n : GuardNow) : Type 0 where
  pub ready : (session : ℕ) → session < n.places.sessions → ReadyWasGiven given session (mailbox_of n.words session)
  pub rows : (b : ℕ) (y : Actor) → slice_get n.actors b ≡ Some y → Row keeper given (mailbox_of n.words) b y.work

-- One event of a world that is sound, and whose mailboxes hold what is said.
module _ (keeper : ℕ) (given : List MailGiven) (w : GuardWorld) (sound : IsSound w) (was : IsMailKept keeper given w.now) where
  abbrev n : GuardNow
  n = w.now

  abbrev S : ℕ
  S = w.now.places.sessions

  abbrev boxes : ℕ → Mailbox
  boxes = mailbox_of w.now.words

  abbrev Kept : List MailGiven → GuardNow → Type 0
  Kept = IsMailKept keeper

  -- the mailboxes stay, or change as they may from outside
  abbrev Stay : List ℕ → Type 0
  Stay words = (session : ℕ) → session < S → StaysOrIsApart (boxes session) (mailbox_of words session)

  row_on : (words : List ℕ) (b : ℕ) (y : Actor) (work : Work) → Stay words → slice_get n.actors b ≡ Some y → y.work ≡ work → Row keeper given boxes b work → Row keeper given (mailbox_of words) b work
  row_on words b y (Serves begin step) stay got its (inl rest) = inl rest
  row_on words b y (Serves begin step) stay got its (inr k) = inr (k.0, finds_on S given boxes (mailbox_of words) step stay (served_below w b y begin step sound got its) k.1)
  row_on words b y work stay got its row = tt

  -- an actor that is not the keeper doesn't serve, whatever else changes
  row_other : (given' : List MailGiven) (boxes' : ℕ → Mailbox) (b : ℕ) (work : Work) → b ≢ keeper → Row keeper given boxes b work → Row keeper given' boxes' b work
  row_other given' boxes' b (Serves begin step) other (inl rest) = inl rest
  row_other given' boxes' b (Serves begin step) other (inr k) = absurd (other k.0)
  row_other given' boxes' b work other row = tt

  kept : (a : ℕ) (x : Actor) (here : GuardNear) → slice_get n.actors a ≡ Some x → Stay here.words → (Row keeper given (mailbox_of here.words) a x.work → Row keeper given (mailbox_of here.words) a here.actor.work) → Kept given (put_near n a here)
  kept a x here got stay row = record {
    ready = λ session few. elim (stay session few) [
      | inl same ↦ subst (ReadyWasGiven given session) (sym same) (was.ready session few)
      | inr apart ↦ λ ready. absurd (apart.1 ready)
    ];
    rows = put_each (λ c z. Row keeper given (mailbox_of here.words) c z.work) n.actors a x here.actor got
        (λ c z there other. row_on here.words c z z.work stay there refl (was.rows c z there))
        (row (row_on here.words a x x.work stay got refl (was.rows a x got)));
  }

  boxes_now : (event : GuardEvent) → SparesMail S (event_writes n event) → (session : ℕ) → session < S → mailbox_of (guard_happens_now n event).words session ≡ boxes session
  unfolding guard_happens
  boxes_now event spares = boxes_stay w event spares

  boxes_near : (event : GuardEvent) (a : ℕ) (x : Actor) → actor_of event ≡ Some a → slice_get n.actors a ≡ Some x → SparesMail S (event_writes n event) → Stay (event_near n event x).words
  boxes_near event a x its got spares = λ session few. inl (ap (λ (m : GuardNow). mailbox_of m.words session) (sym (one_event n event a x its got)) ∙ boxes_now event spares session few)

  -- an event that is no ask, no read that succeeds and no change from outside
  still_case : (event : GuardEvent) → is_still event ≡ true → is_aside event ≡ true → ServesAlone keeper event → Kept given (guard_happens_now n event)
  still_case event still aside alone =
      each_event (Kept given) n event was (λ a x its got.
      kept a x (event_near n event x) got (boxes_near event a x its got (event_aside w event aside))
      (λ row. near_row n keeper given (mailbox_of (event_near n event x).words) a x row event its still alone))

  -- a word that an actor stores from outside: it is none of the mailbox's, or its session changes it
  asker_box : (a place word session : ℕ) → session < S → KeepsMailboxes n (Changes a place word)
      → (mailbox_of (slice_set n.words place word) session ≡ boxes session) ⊎ ((a ≡ session) × AskerChanges (boxes session) (mailbox_of (slice_set n.words place word) session))
  asker_box a place word session few keeps = elim (same_or place (session_place session own.MailState)) [
    | inl e ↦
        let m = keeps session own.MailState few e in
        let stored = stored_state n.words session (room_for w session sound few) word in
        inr (m.0, subst (λ (p : ℕ). AskerChanges (boxes session) (mailbox_of (slice_set n.words p word) session)) (sym e) (subst (AskerChanges (boxes session)) (sym stored) (inr (m.1, refl))))
    | inr no_state ↦ elim (same_or place (session_place session own.MailAddress)) [
      | inl e ↦
          let m = keeps session own.MailAddress few e in
          let stored = stored_address n.words session (room_for w session sound few) word in
          inr (m.0, subst (λ (p : ℕ). AskerChanges (boxes session) (mailbox_of (slice_set n.words p word) session)) (sym e) (subst (AskerChanges (boxes session)) (sym stored) (inl (m.1, refl))))
      | inr no_address ↦
          inl (spared_box n.words place word session (λ is.
          let no_header : place ≢ session_place session own.MailHeader = λ e. keeps session own.MailHeader few e in
          let no_key : place ≢ session_place session own.MailKey = λ e. keeps session own.MailKey few e in
          let no_value : place ≢ session_place session own.MailValue = λ e. keeps session own.MailValue few e in
          omega (arith, is.0, is.1, no_state, no_address, no_header, no_key, no_value)))
    ]
  ]

  change_case : (a place word : ℕ) → KeepsMailboxes n (Changes a place word) → Kept given (guard_happens_now n (Changes a place word))
  change_case a place word keeps =
      each_event (Kept given) n (Changes a place word) was (λ b x its got.
      kept b x (event_near n (Changes a place word) x) got
      (λ session few. elim (truth (is_guarded n.places place)) [
        | inl e ↦ rw e (inl refl)
        | inr e ↦ rw e (elim (asker_box a place word session few keeps) [
          | inl same ↦ inl same
          | inr asks ↦ inr (asker_apart (boxes session) (mailbox_of (slice_set n.words place word) session) asks.1)
        ])
      ])
      (λ row. row))

  -- a step of an actor that is not serving
  aside_case : (a : ℕ) (x : Actor) → slice_get n.actors a ≡ Some x → (is_idle x.work ≡ true) ⊎ (is_serve x.work ≡ false) → Kept given (put_near n a (actor_step n a x))
  aside_case a x got why =
      kept a x (actor_step n a x) got (boxes_near (Moves a) a x refl got (moves_aside w a x sound got why))
      (λ row. stepped_row n keeper given (mailbox_of (actor_step n a x).words) a x row why)

  -- what was given last for another session is the same after one more
  newest_other : (its : MailGiven) (session : ℕ) → session ≢ its.session → newest_for session (its ∷ given) ≡ newest_for session given
  newest_other its session apart =
      let e : (its.session == session) ≡ false = grind (arith, nat_tests, apart) in
      ap (λ (c : Bool). if c then Some its else newest_for session given) e

  newest_same : (session addr : ℕ) (mail : Mail) → WasGiven (record { session = session; addr = addr; mail = mail } ∷ given) session addr mail
  newest_same session addr mail =
      let e : (session == session) ≡ true = grind (arith, nat_tests) in
      ap (λ (c : Bool). if c then Some (record { session = session; addr = addr; mail = mail }) else newest_for session given) e

  -- something is given for a mailbox: the keeper goes on with it
  gives : (a : ℕ) (x : Actor) (begin session addr : ℕ) (mail : Mail) → slice_get n.actors a ≡ Some x → a ≡ keeper → (boxes session).state ≡ asked_state → (boxes session).addr ≡ addr
      → Kept (record { session = session; addr = addr; mail = mail } ∷ given) (put_near n a (near n.words n.actions (record x { work = Serves begin (serve.StoresHeader session mail) })))
  gives a x begin session addr mail got mine asked here =
      let newest : MailGiven = record { session = session; addr = addr; mail = mail } in
      record {
        ready = λ other few. elim (same_or other session) [
          | inl e ↦ λ ready. absurd (let its = ap (λ (s : ℕ). (boxes s).state) e ∙ asked in omega (arith, its, ready))
          | inr apart ↦ λ ready. newest_other newest other apart ∙ was.ready other few ready
        ];
        rows = put_each (λ c z. Row keeper (newest ∷ given) boxes c z.work) n.actors a x (record x { work = Serves begin (serve.StoresHeader session mail) }) got
            (λ c z there other. row_other (newest ∷ given) boxes c z.work (λ e. other (e ∙ sym mine)) (was.rows c z there))
            (inr (mine, (asked, subst (λ (d : ℕ). WasGiven (newest ∷ given) session d mail) (sym here) (newest_same session addr mail))));
      }

  -- a step of the keeper as it serves
  module _ (a : ℕ) (x : Actor) (got : slice_get n.actors a ≡ Some x) (mine : a ≡ keeper) (begin : ℕ) where
    abbrev Served : List ℕ → Serving → Type 0
    Served words step = Kept given (put_near n a (near words n.actions (record x { work = Serves begin step })))

    -- it loads a word
    looks : (step : Serving) → Row keeper given boxes a (Serves begin step) → Served n.words step
    looks step row = kept a x (near n.words n.actions (record x { work = Serves begin step })) got (λ session few. inl refl) (λ before. row)

    goes_on : (session : ℕ) → Row keeper given boxes a (Serves begin (mailbox_from n.shape.sessions session))
    goes_on session = next_row keeper given boxes a begin n.shape.sessions session mine

    -- it stores one
    stores : (session place word : ℕ) (step : Serving) → session < S → IsMail session place → ReadyWasGiven given session (mailbox_of (slice_set n.words place word) session)
        → Row keeper given (mailbox_of (slice_set n.words place word)) a (Serves begin step) → Served (slice_set n.words place word) step
    stores session place word step few is ready row = record {
      ready = λ other small. elim (same_or other session) [
        | inl e ↦ subst (λ (s : ℕ). ReadyWasGiven given s (mailbox_of (slice_set n.words place word) s)) (sym e) ready
        | inr apart ↦ subst (ReadyWasGiven given other) (sym (spared_box n.words place word other (mail_apart session other place is apart))) (was.ready other small)
      ];
      rows = put_each (λ c z. Row keeper given (mailbox_of (slice_set n.words place word)) c z.work) n.actors a x (record x { work = Serves begin step }) got
          (λ c z there other. row_other given (mailbox_of (slice_set n.words place word)) c z.work (λ e. other (e ∙ sym mine)) (was.rows c z there))
          row;
    }

    asked_apart : (session : ℕ) (box : Mailbox) → box.state ≡ asked_state → ReadyWasGiven given session box
    asked_apart session box asked = λ ready. absurd (omega (arith, asked, ready))

    serve_case : (step : Serving) → x.work ≡ Serves begin step → FindsAsked given boxes step → is_idle (Serves begin step) ≡ false
        → Kept (work_loads n.words (Serves begin step) ++ given) (put_near n a (work_step n a x (Serves begin step)))
    unfolding serve_ask serve_next
    serve_case serve.AtRest its k busy = cc
    serve_case (serve.LoadsState session) its k busy =
        rw (set-get_or n.words (session_place session own.MailState) 0)
        (elim (truth ((boxes session).state == asked_state)) [
          | inl e ↦ rw e (looks (serve.LoadsAddress session) (inr (mine, grind (arith, nat_tests, e))))
          | inr e ↦ rw e (looks (mailbox_from n.shape.sessions (session + 1)) (goes_on (session + 1)))
        ])
    serve_case (serve.LoadsAddress session) its k busy =
        rw (set-get_or n.words (session_place session own.MailAddress) 0)
        (elim (truth (nat_lt (boxes session).addr begin)) [
          | inl e ↦ rw e (gives a x begin session (boxes session).addr (gone_mail begin) got mine k refl)
          | inr e ↦ rw e (elim (truth (nat_lt (boxes session).addr (2 ^ 48))) [
            | inl e ↦ rw e (looks (serve.Reads session (boxes session).addr) (inr (mine, (k, refl))))
            | inr e ↦ rw e (looks (mailbox_from n.shape.sessions (session + 1)) (goes_on (session + 1)))
          ])
        ])
    serve_case (serve.Reads session addr) its k busy = looks (serve.Reads session addr) (inr (mine, k))
    serve_case (serve.StoresHeader session mail) its k busy =
        let few : session < S = served_below w a x begin (serve.StoresHeader session mail) sound got its in
        let stored = sym (stored_header n.words session (room_for w session sound few) mail.header) in
        stores session (session_place session own.MailHeader) mail.header (serve.StoresKey session mail) few (omega arith, omega arith)
        (subst (ReadyWasGiven given session) stored (asked_apart session _ k.0))
        (inr (mine, subst (λ (box : Mailbox). HasGiven given session box mail × (box.mail.header ≡ mail.header)) stored (k, refl)))
    serve_case (serve.StoresKey session mail) its k busy =
        let few : session < S = served_below w a x begin (serve.StoresKey session mail) sound got its in
        let stored = sym (stored_key n.words session (room_for w session sound few) mail.key) in
        stores session (session_place session own.MailKey) mail.key (serve.StoresValue session mail) few (omega arith, omega arith)
        (subst (ReadyWasGiven given session) stored (asked_apart session _ k.0.0))
        (inr (mine, subst (λ (box : Mailbox). HasGiven given session box mail × (box.mail.header ≡ mail.header) × (box.mail.key ≡ mail.key)) stored (k.0, k.1, refl)))
    serve_case (serve.StoresValue session mail) its k busy =
        let few : session < S = served_below w a x begin (serve.StoresValue session mail) sound got its in
        let stored = sym (stored_value n.words session (room_for w session sound few) mail.value) in
        let words : record { header = (boxes session).mail.header; key = (boxes session).mail.key; value = mail.value } ≡ mail = rw (k.1, k.2) refl in
        stores session (session_place session own.MailValue) mail.value (serve.StoresReady session) few (omega arith, omega arith)
        (subst (ReadyWasGiven given session) stored (asked_apart session _ k.0.0))
        (inr (mine, subst (λ (box : Mailbox). HasGiven given session box box.mail) stored (k.0.0, subst (WasGiven given session (boxes session).addr) (sym words) k.0.1)))
    serve_case (serve.StoresReady session) its k busy =
        let few : session < S = served_below w a x begin (serve.StoresReady session) sound got its in
        let stored = sym (stored_state n.words session (room_for w session sound few) ready_state) in
        stores session (session_place session own.MailState) ready_state (mailbox_from n.shape.sessions (session + 1)) few (omega arith, omega arith)
        (subst (ReadyWasGiven given session) stored (λ ready. k.1))
        (next_row keeper given _ a begin n.shape.sessions (session + 1) mine)

    changes : (served session place word : ℕ) → IsMail served place → (served < S → KeeperChanges (boxes served) (mailbox_of (slice_set n.words place word) served)) → session < S
        → (mailbox_of (slice_set n.words place word) session ≡ boxes session) ⊎ KeeperChanges (boxes session) (mailbox_of (slice_set n.words place word) session)
    changes served session place word is does few = elim (same_or session served) [
      | inl e ↦ inr (subst (λ (s : ℕ). KeeperChanges (boxes s) (mailbox_of (slice_set n.words place word) s)) (sym e) (does (omega (arith, e, few))))
      | inr apart ↦ inl (spared_box n.words place word session (mail_apart served session place is apart))
    ]

    -- what it does to a mailbox
    serve_changes : (step : Serving) → x.work ≡ Serves begin step → FindsAsked given boxes step → (session : ℕ) → (few : session < S)
        → (mailbox_of (work_step n a x (Serves begin step)).words session ≡ boxes session) ⊎ KeeperChanges (boxes session) (mailbox_of (work_step n a x (Serves begin step)).words session)
    unfolding serve_ask
    serve_changes (serve.StoresHeader served mail) its k session few =
        changes served session (session_place served own.MailHeader) mail.header (omega arith, omega arith)
        (λ below. subst (KeeperChanges (boxes served)) (sym (stored_header n.words served (room_for w served sound below) mail.header)) (k.0, inl refl)) few
    serve_changes (serve.StoresKey served mail) its k session few =
        changes served session (session_place served own.MailKey) mail.key (omega arith, omega arith)
        (λ below. subst (KeeperChanges (boxes served)) (sym (stored_key n.words served (room_for w served sound below) mail.key)) (k.0.0, inl refl)) few
    serve_changes (serve.StoresValue served mail) its k session few =
        changes served session (session_place served own.MailValue) mail.value (omega arith, omega arith)
        (λ below. subst (KeeperChanges (boxes served)) (sym (stored_value n.words served (room_for w served sound below) mail.value)) (k.0.0, inl refl)) few
    serve_changes (serve.StoresReady served) its k session few =
        changes served session (session_place served own.MailState) ready_state (omega arith, omega arith)
        (λ below. subst (KeeperChanges (boxes served)) (sym (stored_state n.words served (room_for w served sound below) ready_state)) (k.0, inr refl)) few
    serve_changes (serve.LoadsState served) its k session few = rw (set-get_or n.words (session_place served own.MailState) 0) (inl refl)
    serve_changes (serve.LoadsAddress served) its k session few = rw (set-get_or n.words (session_place served own.MailAddress) 0) (inl refl)
    serve_changes serve.AtRest its k session few = inl refl
    serve_changes (serve.Reads served addr) its k session few = inl refl

  -- an ask of the keeper as it serves, in the world
  serving_now : (a : ℕ) (x : Actor) (begin : ℕ) (step : Serving) → x.work ≡ Serves begin step → is_idle (Serves begin step) ≡ false → actor_step n a x ≡ work_step n a x (Serves begin step)
  serving_now a x begin step its busy =
      ap (λ (work : Work). if is_idle work then epoch_step n a x else work_step n a x work) its
      ∙ ap (λ (c : Bool). if c then epoch_step n a x else work_step n a x (Serves begin step)) busy

  -- whether an actor serves, and then it is the keeper
  record IsServing (a : ℕ) (x : Actor) : Type 0 where
    pub begin : ℕ
    pub step : Serving
    pub its_work : x.work ≡ Serves begin step
    pub mine : a ≡ keeper
    pub finds : FindsAsked given boxes step
    pub now : actor_step n a x ≡ work_step n a x (Serves begin step)
    pub busy : is_idle (Serves begin step) ≡ false

  serves_or : (a : ℕ) (x : Actor) → slice_get n.actors a ≡ Some x → IsServing a x ⊎ ((is_idle x.work ≡ true) ⊎ (is_serve x.work ≡ false))
  serves_or a x got = by x.work refl
    where
      by : (work : Work) → x.work ≡ work → IsServing a x ⊎ ((is_idle x.work ≡ true) ⊎ (is_serve x.work ≡ false))
      by (Serves begin step) its = elim (truth (is_idle (Serves begin step))) [
        | inl idle ↦ inr (inl (ap is_idle its ∙ idle))
        | inr busy ↦ elim (subst (Row keeper given boxes a) its (was.rows a x got)) [
          | inl rest ↦ inr (inl (ap is_idle its ∙ ap (λ (z : Serving). is_idle (Serves begin z)) rest))
          | inr k ↦ inl (record { begin = begin; step = step; its_work = its; mine = k.0; finds = k.1; now = serving_now a x begin step its busy; busy = busy })
        ]
      ]
      by Rests its = inr (inr (ap is_serve its))
      by (Reserves step) its = inr (inr (ap is_serve its))
      by (Fills step) its = inr (inr (ap is_serve its))
      by (Invalidates step) its = inr (inr (ap is_serve its))
      by (Shifts s) its = inr (inr (ap is_serve its))
      by (Turns s) its = inr (inr (ap is_serve its))
      by (Flushes step bytes) its = inr (inr (ap is_serve its))

  -- an actor that isn't serving loads no address of a mailbox
  none_loaded : (work : Work) → (is_idle work ≡ true) ⊎ (is_serve work ≡ false) → work_loads n.words work ≡ []
  none_loaded (Serves begin (serve.LoadsAddress session)) (inl idle) = cc
  none_loaded (Serves begin step) (inr apart) = cc
  none_loaded work why = refl

  moved_by : (a : ℕ) (x : Actor) → slice_get n.actors a ≡ Some x → Kept (work_loads n.words x.work ++ given) (put_near n a (actor_step n a x))
  moved_by a x got = elim (serves_or a x got) [
    | inl s ↦
        subst (λ (work : Work). Kept (work_loads n.words work ++ given) (put_near n a (actor_step n a x))) (sym s.its_work)
        (subst (λ (near : GuardNear). Kept (work_loads n.words (Serves s.begin s.step) ++ given) (put_near n a near)) (sym s.now) (serve_case a x got s.mine s.begin s.step s.its_work s.finds s.busy))
    | inr why ↦ subst (λ (its : List MailGiven). Kept (its ++ given) (put_near n a (actor_step n a x))) (sym (none_loaded x.work why)) (aside_case a x got why)
  ]

  moves_case : (a : ℕ) (found : Option Actor) → slice_get n.actors a ≡ found → Kept (actor_loads n.words found ++ given) (guard_happens_now n (Moves a))
  moves_case a None got = rw got was
  moves_case a (Some x) got = subst (Kept (work_loads n.words x.work ++ given)) (sym (one_event n (Moves a) a x refl got)) (moved_by a x got)

  -- a read for a mailbox
  serve_reads : (a : ℕ) (x : Actor) (begin : ℕ) (step : Serving) (bytes : List ℕ) → slice_get n.actors a ≡ Some x → Row keeper given boxes a (Serves begin step)
      → Kept (work_reads bytes (Serves begin step) ++ given) (put_near n a (near n.words n.actions (record x { work = Serves begin (serve_read step bytes) })))
  unfolding serve_read
  serve_reads a x begin (serve.Reads session addr) bytes got (inl rest) = cc
  serve_reads a x begin (serve.Reads session addr) bytes got (inr k) = gives a x begin session addr (mail_of bytes) got k.0 k.1.0 k.1.1
  serve_reads a x begin step bytes got row = kept a x (near n.words n.actions (record x { work = Serves begin step })) got (λ session few. inl refl) (λ before. row)

  reads_by : (a : ℕ) (x : Actor) (work : Work) (bytes : List ℕ) → slice_get n.actors a ≡ Some x → x.work ≡ work → Kept (work_reads bytes work ++ given) (put_near n a (read_near n (Some bytes) x work))
  reads_by a x (Serves begin step) bytes got its = serve_reads a x begin step bytes got (subst (Row keeper given boxes a) its (was.rows a x got))
  reads_by a x work bytes got its = kept a x (near n.words n.actions x) got (λ session few. inl refl) (λ row. row)

  reads_case : (a : ℕ) (bytes : List ℕ) (found : Option Actor) → slice_get n.actors a ≡ found → Kept (actor_reads bytes found ++ given) (guard_happens_now n (Reads a (Some bytes)))
  reads_case a bytes None got = rw got was
  reads_case a bytes (Some x) got = subst (Kept (work_reads bytes x.work ++ given)) (sym (one_event n (Reads a (Some bytes)) a x refl got)) (reads_by a x x.work bytes got refl)

  happens_now : (event : GuardEvent) → ServesAlone keeper event → KeepsMailboxes n event → Kept (event_gives n event ++ given) (guard_happens_now n event)
  happens_now (Begins a task) alone keeps = still_case (Begins a task) refl refl alone
  happens_now (Resumes a) alone keeps = still_case (Resumes a) refl refl alone
  happens_now (Moves a) alone keeps = moves_case a (slice_get n.actors a) refl
  happens_now (Calls a done) alone keeps = still_case (Calls a done) refl refl alone
  happens_now (Reads a None) alone keeps = still_case (Reads a None) refl refl alone
  happens_now (Reads a (Some bytes)) alone keeps = reads_case a bytes (slice_get n.actors a) refl
  happens_now (Sees a sight) alone keeps = still_case (Sees a sight) refl refl alone
  happens_now (Publishes a) alone keeps = still_case (Publishes a) refl refl alone
  happens_now (Updates a addr word) alone keeps = still_case (Updates a addr word) refl refl alone
  happens_now (RaisesReadOnly a to) alone keeps = still_case (RaisesReadOnly a to) refl refl alone
  happens_now (RaisesFor a action) alone keeps = still_case (RaisesFor a action) refl refl alone
  happens_now (Changes a place word) alone keeps = change_case a place word keeps
  happens_now (CallsElse call) alone keeps = still_case (CallsElse call) refl refl alone

  -- Every event keeps what holds of the mailboxes.
  pub happens_mail : (event : GuardEvent) → ServesAlone keeper event → KeepsMailboxes n event → IsMailKept keeper (event_gives n event ++ given) (guard_happens w event).now
  unfolding guard_happens
  happens_mail event alone keeps = happens_now event alone keeps

  -- Who changes a mailbox.
  changes_now : (event : GuardEvent) (session : ℕ) → KeepsMailboxes n event → session < S → ChangesMailbox keeper session event (boxes session) (mailbox_of (guard_happens_now n event).words session)
  changes_now (Changes a place word) session keeps few =
      each_event (λ m. ChangesMailbox keeper session (Changes a place word) (boxes session) (mailbox_of m.words session)) n (Changes a place word) (inl refl) (λ b x its got.
      elim (truth (is_guarded n.places place)) [
        | inl e ↦ rw e (inl refl)
        | inr e ↦ rw e (elim (asker_box a place word session few keeps) [
          | inl same ↦ inl same
          | inr asks ↦ inr (inl (ap Some asks.0, asks.1))
        ])
      ])
  changes_now (Moves a) session keeps few =
      each_event (λ m. ChangesMailbox keeper session (Moves a) (boxes session) (mailbox_of m.words session)) n (Moves a) (inl refl) (λ b x its got.
      let same : a ≡ b = some_same a b its in
      let here : slice_get n.actors a ≡ Some x = ap (slice_get n.actors) same ∙ got in
      elim (serves_or a x here) [
        | inl s ↦ subst (λ (near : GuardNear). ChangesMailbox keeper session (Moves a) (boxes session) (mailbox_of near.words session)) (sym s.now)
            (elim (serve_changes a x here s.mine s.begin s.step s.its_work s.finds session few) [
              | inl stays ↦ inl stays
              | inr changes ↦ inr (inr (ap Moves s.mine, changes))
            ])
        | inr why ↦ inl (ap (λ (m : GuardNow). mailbox_of m.words session) (sym (one_event n (Moves a) a x refl here)) ∙ boxes_now (Moves a) (moves_aside w a x sound here why) session few)
      ])
  changes_now event session keeps few = inl (boxes_now event (event_aside w event refl) session few)

  pub changes_mail : (event : GuardEvent) (session : ℕ) → KeepsMailboxes n event → session < S → ChangesMailbox keeper session event (mailbox_of n.words session) (mailbox_of (guard_happens w event).now.words session)
  unfolding guard_happens
  changes_mail event session keeps few = changes_now event session keeps few

-- A whole run.
pub run_mail : (keeper : ℕ) (first : GuardWorld) (events : List GuardEvent) → IsSound first → IsMailKept keeper [] first.now → AreMailboxesKept keeper first events → IsMailKept keeper (mails_given first events) (guard_run first events).now
unfolding guard_run mails_given
run_mail keeper first [] sound was kept = was
run_mail keeper first (event ∷ before) sound was kept =
    happens_mail keeper (mails_given first before) (guard_run first before) (run_sound first before sound) (run_mail keeper first before sound was kept.2) event kept.0 kept.1

-- The store as it is opened: nothing is asked for, and nobody serves.
pub opening_mail : (keeper : ℕ) (shape : Shape) (places : Places) (actors : ℕ) (words : List ℕ) (start : ℕ) → AreEmpty places words → IsMailKept keeper [] (opening shape places actors words start).now
opening_mail keeper shape places actors words start empty = record {
  ready = λ session few ready. let e = empty session few in absurd (omega (arith, e, ready));
  rows = λ b y got. subst (λ (z : Actor). Row keeper [] (mailbox_of words) b z.work) (sym (replicate_item actors b (first_actor start (levels_of words).closed) y got)) tt;
}

-- what an actor that serves finds
pub finds_asked : (keeper : ℕ) (given : List MailGiven) (n : GuardNow) (b : ℕ) (y : Actor) (begin : ℕ) (step : Serving) → IsMailKept keeper given n → slice_get n.actors b ≡ Some y → y.work ≡ Serves begin step → FindsAsked given (mailbox_of n.words) step
finds_asked keeper given n b y begin step is got its = elim (subst (Row keeper given (mailbox_of n.words) b) its (is.rows b y got)) [
  | inl rest ↦ subst (FindsAsked given (mailbox_of n.words)) (sym rest) tt
  | inr k ↦ k.1
]
