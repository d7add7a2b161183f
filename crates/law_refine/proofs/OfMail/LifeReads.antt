-- In every life the keeper serves what was given since the record was asked for: what the device gave it, or that the record is gone. The session takes that.
use Rattle.std.proofs.Common.{◌≡◌, ℕ, ◌^◌, ◌<◌, ◌∙◌, inl, inr, refl, sym, ap, subst, arith, List, [], ◌∷◌, ◌++◌, Bool, true, false}
use Rattle.std.specs.Prelude.{◌==◌, nat_lt, if◌then◌else◌, Option, Some, None, slice_get}
use Rattle.std.proofs.lemmas.Bool.Decides.{nat_tests}
use Rattle.fkv_base.specs.declared.numbers.Addr.{Addr}
use Rattle.fkv_disk.specs.Bytes.{bytes_at}
use Rattle.fkv_disk.specs.Calls.{reads_as}
use Rattle.fkv_map.specs.declared.operations.Call.{Call}
use Rattle.fkv_plane.specs.declared.asks.Ask.{Ask}
use Rattle.fkv_plane.specs.declared.asks.Ask.TheVariants.{Load, Store, Swap, Cas, Add, Max, Put, Take, Done}
use Rattle.law_world.specs.Below.fkv_flush.TheServing.{Serving}
use Rattle.law_world.specs.Below.fkv_flush.TheServing.TheVariants as serve
use Rattle.law_world.specs.Below.fkv_flush.Serving.{mail_place}
use Rattle.law_world.specs.Below.fkv_keeper.KeeperAsks.{keeping_read}
use Rattle.law_world.specs.Below.fkv_keeper.KeeperRun.{is_in_hand}
use Rattle.law_world.specs.Below.fkv_keeper.Keeping.{KeeperState, keeper_ask}
use Rattle.law_world.specs.Below.fkv_pending.MailRecord.{MailRecord}
use Rattle.law_world.specs.Below.fkv_pending.TheMailing.{Mailing}
use Rattle.law_world.specs.Below.fkv_pending.TheMailing.TheVariants as mailing
use Rattle.law_world.specs.Below.fkv_pending.Mailing.{mail_asked}
use Rattle.law_world.specs.Below.fkv_pending.MailWorld.{Mailbox, mailbox_of, Keeping, FindsState, FindsAddress, Reads, GivesHeader, GivesKey, GivesValue, GivesReady, MailWorld, MailEvent, Begins, BeginsPut, Moves as MailMoves, Serves, Changes, keeper_next, mail_happens, mail_run}
use Rattle.law_world.specs.Below.fkv_pending.Mailbox.{MailNote, served_notes, past_of}
use Rattle.law_world.proofs.Below.fkv_pending.Shown.{IsSound, moment_sound}
use Rattle.law_world.specs.Below.fkv_session.Sessions.{SessionState, is_busy, session_ask}
use Rattle.law_world.specs.Below.fkv_world.Moves.{session_moved}
use Rattle.law_world.specs.Below.fkv_world.Runs.{World, read_by_keeper, run}
use Rattle.law_world.specs.Below.fkv_world.World.{Event, Calls, Moves, Commits, Turns, KeeperMoves, Crashes, Now, seat_at, near, session_called}
use Rattle.law_refine.specs.Mail.MailEvents.{begins, changed_by, asked_by, own_events, moved_events, begun_events, called_events, loaded_events, served_events, record_gone, record_read, keeper_events, life_events, mail_events, mapped}
use Rattle.law_refine.specs.Mail.Mailers.{session_mailing}
use Rattle.law_refine.specs.Mail.Reads.{mail_past, mail_notes, record_there, ReadSince, GoneSince}
use Rattle.law_refine.specs.Mail.Servers.{serving_of, begin_of, is_serving, ServesIt}
use Rattle.law_refine.specs.Mail.Shows.{IsOpened, mail_opening, seen_by_mailbox}
use Rattle.law_refine.proofs.OfMail.Permitted.{broken_rests}
use Rattle.law_refine.proofs.OfMail.KeeperServes.{is_at_serve, is_at}
use Rattle.law_refine.proofs.OfMail.KeeperKeeps.{FindsAsked}
use Rattle.law_refine.proofs.OfMail.MailSteps.{takes_up}
use Rattle.law_refine.proofs.OfMail.Lives.{life_sound, life_holds, life_shows}
use Rattle.law_refine.proofs.OfMail.ReadSteps.{IsRead, later_read, IsQuiet, one_read, NoServes}
use Rattle.law_refine.proofs.OfMail.Worlds.{own_finds, own_keeps, last_part}

-- the events of sessions, and those of others, are none of the keeper's
begins_none : (its : Option Mailing) → NoServes (begins its)
begins_none None = tt
begins_none (Some (mailing.LoadsState its)) = tt
begins_none (Some (mailing.StoresAddress addr)) = tt
begins_none (Some its) = tt

changed_none : {A : Type 0} (words : List ℕ) (ask : Ask A) → NoServes (changed_by words ask)
changed_none words (Load place) = tt
changed_none words (Store place new) = tt
changed_none words (Swap place new) = tt
changed_none words (Cas place old new) = tt
changed_none words (Add place k) = tt
changed_none words (Max place k) = tt
changed_none words (Put slot action) = tt
changed_none words (Take slot) = tt
changed_none words (Done its) = tt

asked_none : {A : Type 0} (words : List ℕ) (found : Option Mailing) (ask : Ask A) → NoServes (asked_by words found ask)
asked_none words None ask = changed_none words ask
asked_none words (Some step) ask = tt

append_none : (later before : List MailEvent) → NoServes later → NoServes before → NoServes (later ++ before)
append_none [] before one other = other
append_none (Serves given ∷ later) before one other = absurd one
append_none (Begins its ∷ later) before one other = append_none later before one other
append_none (BeginsPut addr ∷ later) before one other = append_none later before one other
append_none (MailMoves ∷ later) before one other = append_none later before one other
append_none (Changes place word ∷ later) before one other = append_none later before one other

either_none : (c : Bool) (a b : List MailEvent) → NoServes a → NoServes b → NoServes (if c then a else b)
either_none true a b one other = one
either_none false a b one other = other

called_none : (n : Now) (session number : ℕ) (call : Call) (found : Option SessionState) → NoServes (called_events n session number call found)
called_none n session number call None = tt
called_none n session number call (Some s) =
    either_none (number == session) (begun_events n session call s) [] (either_none (is_busy s.step) [] (begins (session_mailing (session_called (seat_at n session) s call))) tt (begins_none _)) tt

moved_none : (n : Now) (session number : ℕ) (found : Option SessionState) → NoServes (moved_events n session number found)
moved_none n session number None = tt
moved_none n session number (Some s) =
    either_none (number == session) (own_events n session s) (changed_by n.words (session_ask (seat_at n number) s))
    (append_none (begins (session_mailing (session_moved (seat_at n session) (near n s)).machine)) (asked_by n.words (session_mailing s) (session_ask (seat_at n session) s)) (begins_none (session_mailing (session_moved (seat_at n session) (near n s)).machine)) (asked_none n.words (session_mailing s) (session_ask (seat_at n session) s)))
    (changed_none n.words (session_ask (seat_at n number) s))

quiet_other : (keeping : Keeping) (event : MailEvent) → NoServes (event ∷ []) → IsQuiet keeping event
quiet_other (Reads addr) (Serves given) none = none
quiet_other keeping event none = tt

module _ (opening : World) (session : ℕ) (opened : IsOpened opening.now session) where
  abbrev first : MailWorld
  first = mail_opening opening session

  sound_at : (before : List MailEvent) → IsSound (mail_run first before) (past_of first before)
  sound_at before = moment_sound session opening.now.words before opened.mail

  abbrev ReadAt : List Event → List MailEvent → Type 0
  ReadAt events before = IsRead opening session events (mail_run first before).keeping (past_of first before).notes

  goes_read : (events : List Event) (event : MailEvent) (before : List MailEvent) → IsQuiet (mail_run first before).keeping event → ReadAt events before → ReadAt events (event ∷ before)
  goes_read events event before quiet read = one_read opening session events first sound_at event before quiet read

  others_read : (events : List Event) (later before : List MailEvent) → NoServes later → ReadAt events before → ReadAt events (later ++ before)
  others_read events [] before none read = read
  others_read events (Serves given ∷ later) before none read = absurd none
  others_read events (Begins its ∷ later) before none read = goes_read events (Begins its) (later ++ before) (quiet_other _ (Begins its) tt) (others_read events later before none read)
  others_read events (BeginsPut addr ∷ later) before none read = goes_read events (BeginsPut addr) (later ++ before) (quiet_other _ (BeginsPut addr) tt) (others_read events later before none read)
  others_read events (MailMoves ∷ later) before none read = goes_read events MailMoves (later ++ before) (quiet_other _ MailMoves tt) (others_read events later before none read)
  others_read events (Changes place word ∷ later) before none read = goes_read events (Changes place word) (later ++ before) (quiet_other _ (Changes place word) tt) (others_read events later before none read)

  -- the keeper's step, where it is at this mailbox
  quiet_at : (given : MailRecord) (keeping its : Keeping) → keeping ≡ its → IsQuiet its (Serves given) → IsQuiet keeping (Serves given)
  quiet_at given keeping its same quiet = subst (λ (x : Keeping). IsQuiet x (Serves given)) (sym same) quiet

  abbrev after_state : Bool → Keeping
  after_state c = if c then FindsAddress else FindsState

  quiet_state : (c : Bool) (given : MailRecord) → IsQuiet (after_state c) (Serves given)
  quiet_state true given = tt
  quiet_state false given = tt

  twice_read : (events : List Event) (given : MailRecord) (before : List MailEvent) → (mail_run first before).keeping ≡ FindsState → ReadAt events before → ReadAt events (Serves given ∷ Serves given ∷ before)
  unfolding mail_run mail_happens
  twice_read events given before finds read =
      let w : MailWorld = mail_run first before in
      let box : Mailbox = mailbox_of w.words w.session in
      let next : keeper_next box given w.keeping ≡ after_state (box.state == mail_asked) = ap (λ (x : Keeping). keeper_next box given x) finds in
      goes_read events (Serves given) (Serves given ∷ before) (quiet_at given _ _ next (quiet_state (box.state == mail_asked) given))
      (goes_read events (Serves given) before (quiet_at given _ FindsState finds tt) read)

  -- the notes stay then
  quiet_notes : (c : Bool) (notes : List MailNote) → served_notes (after_state c) notes ≡ notes
  quiet_notes true notes = refl
  quiet_notes false notes = refl

  twice_notes : (given : MailRecord) (before : List MailEvent) → (mail_run first before).keeping ≡ FindsState
      → (past_of first (Serves given ∷ Serves given ∷ before)).notes ≡ (past_of first before).notes
  unfolding mail_run mail_happens past_of
  twice_notes given before finds =
      let w : MailWorld = mail_run first before in
      let box : Mailbox = mailbox_of w.words w.session in
      let notes : List MailNote = (past_of first before).notes in
      ap (λ (x : Keeping). served_notes (keeper_next box given x) (served_notes x notes)) finds ∙ quiet_notes (box.state == mail_asked) notes

  either_read : (c : Bool) (events : List Event) (one other before : List MailEvent) → ReadAt events (one ++ before) → ReadAt events (other ++ before) → ReadAt events ((if c then one else other) ++ before)
  either_read true events one other before a b = a
  either_read false events one other before a b = b

  -- what the device gives
  given_there : (v : World) (number addr : ℕ) → is_at_serve v.now.keeper v.now.keeper.step ≡ true → serving_of v.now.keeper ≡ serve.Reads number addr → record_read (read_by_keeper v) ≡ record_there v addr
  unfolding mail_place keeping_read
  given_there v number addr last at =
      let bytes : List ℕ = reads_as v.past.opened v.past.calls in
      ap (λ (x : KeeperState). record_read (keeping_read (record { shape = v.now.shape; places = v.now.places; state = x }) x.step bytes)) (is_at v.now.keeper last)
      ∙ ap (λ (x : Serving). record_read (bytes_at bytes (mail_place v.now.shape x) 24)) at

  read_now : (granted done : Bool) (before : List Event) (number addr : ℕ) → is_at_serve (run opening before).now.keeper (run opening before).now.keeper.step ≡ true → serving_of (run opening before).now.keeper ≡ serve.Reads number addr → number ≡ session
      → (seen_by_mailbox opening session before).keeping ≡ Reads (record { 0 = addr }) → ReadAt (KeeperMoves granted done ∷ before) (mapped opening session before)
      → ReadAt (KeeperMoves granted done ∷ before) (Serves (record_read (read_by_keeper (run opening before))) ∷ mapped opening session before)
  unfolding mail_run mail_happens past_of
  read_now granted done before number addr last at same keeps read =
      let given : MailRecord = record_read (read_by_keeper (run opening before)) in
      let w : MailWorld = seen_by_mailbox opening session before in
      let its : ReadSince opening session (KeeperMoves granted done ∷ before) (record { 0 = addr }) given (mail_notes opening session before) = record {
        earlier = before;
        later = [];
        event = KeeperMoves granted done;
        cut = refl;
        reads = at ∙ ap (λ (x : ℕ). serve.Reads x addr) same;
        gives = given_there (run opening before) number addr last at;
        since = refl;
      } in
      subst (λ (x : Keeping). IsRead opening session (KeeperMoves granted done ∷ before) (keeper_next (mailbox_of w.words w.session) given x) (served_notes x (mail_notes opening session before))) (sym keeps)
      (record { in_hand = inl its; all = read.all })

  -- the mailbox's world has the mailbox of the engine
  box_same : (before : List Event)
      → mailbox_of (seen_by_mailbox opening session before).words (seen_by_mailbox opening session before).session ≡ mailbox_of (run opening before).now.words session
  box_same before =
      let shows = life_shows opening session before opened in
      ap (λ (words : List ℕ). mailbox_of words (seen_by_mailbox opening session before).session) shows.words ∙ ap (mailbox_of (run opening before).now.words) shows.session_same

  -- below the log's begin the third of its steps gives that the record is gone
  gone_now : (granted done : Bool) (before : List Event) (number : ℕ) → serving_of (run opening before).now.keeper ≡ serve.LoadsAddress number
      → number ≡ session
      → (mailbox_of (run opening before).now.words session).addr < begin_of (run opening before).now.keeper → (mailbox_of (run opening before).now.words session).state ≡ mail_asked
      → (seen_by_mailbox opening session before).keeping ≡ FindsState → ReadAt (KeeperMoves granted done ∷ before) (mapped opening session before)
      → ReadAt (KeeperMoves granted done ∷ before)
      (Serves (record_gone (begin_of (run opening before).now.keeper)) ∷ Serves (record_gone (begin_of (run opening before).now.keeper)) ∷ Serves (record_gone (begin_of (run opening before).now.keeper)) ∷ mapped opening session before)
  unfolding mail_run mail_happens past_of
  gone_now granted done before number at same below asks finds read =
      let events : List Event = KeeperMoves granted done ∷ before in
      let given : MailRecord = record_gone (begin_of (run opening before).now.keeper) in
      let w : MailWorld = seen_by_mailbox opening session before in
      let twice : List MailEvent = Serves given ∷ Serves given ∷ mapped opening session before in
      let addr : Addr = record { 0 = (mailbox_of w.words w.session).addr } in
      let same_addr : (mailbox_of w.words w.session).addr ≡ (mailbox_of (run opening before).now.words session).addr = ap (λ (b : Mailbox). b.addr) (box_same before) in
      let its : GoneSince opening session events addr given (past_of first twice).notes = record {
        earlier = before;
        later = [];
        event = KeeperMoves granted done;
        cut = refl;
        loads = at ∙ ap (λ (x : ℕ). serve.LoadsAddress x) same;
        below = omega (arith, same_addr, below);
        gives = refl;
        since = sym (twice_notes given (mapped opening session before) finds);
      } in
      let keeps : (mail_run first twice).keeping ≡ Reads addr = ap (λ (x : MailWorld). x.keeping) (takes_up w given finds (ap (λ (b : Mailbox). b.state) (box_same before) ∙ asks)) in
      let read_twice : ReadAt events twice = twice_read events given (mapped opening session before) finds read in
      subst (λ (x : Keeping). IsRead opening session events (keeper_next (mailbox_of (mail_run first twice).words (mail_run first twice).session) given x) (served_notes x (past_of first twice).notes)) (sym keeps)
      (record { in_hand = inr its; all = read_twice.all })

  loads_read : (granted done : Bool) (before : List Event) (number : ℕ) → serving_of (run opening before).now.keeper ≡ serve.LoadsAddress number
      → number ≡ session
      → (mailbox_of (run opening before).now.words session).state ≡ mail_asked
      → (seen_by_mailbox opening session before).keeping ≡ FindsState → ReadAt (KeeperMoves granted done ∷ before) (mapped opening session before)
      → ReadAt (KeeperMoves granted done ∷ before)
      (loaded_events (begin_of (run opening before).now.keeper) (record_read (read_by_keeper (run opening before))) (mailbox_of (run opening before).now.words session).addr ++ mapped opening session before)
  loads_read granted done before number at same asks finds read = by_gone (nat_lt addr begin) refl
    where
      begin : ℕ
      begin = begin_of (run opening before).now.keeper

      addr : ℕ
      addr = (mailbox_of (run opening before).now.words session).addr

      given : MailRecord
      given = record_read (read_by_keeper (run opening before))

      by_gone : (c : Bool) → nat_lt addr begin ≡ c
          → ReadAt (KeeperMoves granted done ∷ before)
          ((if c then Serves (record_gone begin) ∷ Serves (record_gone begin) ∷ Serves (record_gone begin) ∷ [] else (if nat_lt addr (2 ^ 48) then Serves given ∷ Serves given ∷ [] else [])) ++ mapped opening session before)
      by_gone true e = gone_now granted done before number at same (grind (arith, nat_tests, e)) asks finds read
      by_gone false e =
          either_read (nat_lt addr (2 ^ 48)) (KeeperMoves granted done ∷ before) (Serves given ∷ Serves given ∷ []) [] (mapped opening session before)
          (twice_read (KeeperMoves granted done ∷ before) given (mapped opening session before) finds read) read

  test_same : (number : ℕ) → (number == session) ≡ true → number ≡ session
  test_same number e = grind (arith, nat_tests, e)

  serve_read : (granted done : Bool) (before : List Event) (step : Serving) → is_at_serve (run opening before).now.keeper (run opening before).now.keeper.step ≡ true → serving_of (run opening before).now.keeper ≡ step → is_serving session step ≡ true
      → FindsAsked session step (mailbox_of (run opening before).now.words session) → ServesIt step (seen_by_mailbox opening session before).keeping → ReadAt (KeeperMoves granted done ∷ before) (mapped opening session before)
      → ReadAt (KeeperMoves granted done ∷ before)
      (served_events (begin_of (run opening before).now.keeper) (record_read (read_by_keeper (run opening before))) done (mailbox_of (run opening before).now.words session).addr step ++ mapped opening session before)
  serve_read granted done before serve.AtRest last at own_box finds keeps read = read
  serve_read granted done before (serve.LoadsState number) last at own_box finds keeps read = read
  serve_read granted done before (serve.LoadsAddress number) last at own_box finds keeps read =
      loads_read granted done before number at (test_same number own_box) (finds (test_same number own_box)) keeps read
  serve_read granted true before (serve.Reads number addr) last at own_box finds keeps read = read_now granted true before number addr last at (test_same number own_box) keeps read
  serve_read granted false before (serve.Reads number addr) last at own_box finds keeps read = read
  serve_read granted done before (serve.StoresHeader number mail) last at own_box finds keeps read = goes_read (KeeperMoves granted done ∷ before) (Serves _) (mapped opening session before) (quiet_at _ _ (GivesHeader keeps.0 _) keeps.1 tt) read
  serve_read granted done before (serve.StoresKey number mail) last at own_box finds keeps read = goes_read (KeeperMoves granted done ∷ before) (Serves _) (mapped opening session before) (quiet_at _ _ (GivesKey keeps.0 _) keeps.1 tt) read
  serve_read granted done before (serve.StoresValue number mail) last at own_box finds keeps read = goes_read (KeeperMoves granted done ∷ before) (Serves _) (mapped opening session before) (quiet_at _ _ (GivesValue keeps.0 _) keeps.1 tt) read
  serve_read granted done before (serve.StoresReady number) last at own_box finds keeps read = goes_read (KeeperMoves granted done ∷ before) (Serves _) (mapped opening session before) (quiet_at _ _ (GivesReady keeps.0 keeps.1) keeps.2 tt) read

  keeper_read : (granted done : Bool) (before : List Event) → (run opening before).now.crashed ≡ false → ReadAt (KeeperMoves granted done ∷ before) (mapped opening session before)
      → ReadAt (KeeperMoves granted done ∷ before) (keeper_events (run opening before).now (read_by_keeper (run opening before)) session done ++ mapped opening session before)
  keeper_read granted done before alive read = by_serving (is_serving session (serving_of v.now.keeper)) refl
    where
      v : World
      v = run opening before

      w : MailWorld
      w = seen_by_mailbox opening session before

      rests : v.now.keeper.is_broken ≡ true → is_in_hand v.now.keeper.step ≡ false
      rests broken = broken_rests opening before opened.keeper broken

      by_serving : (c : Bool) → is_serving session (serving_of v.now.keeper) ≡ c
          → ReadAt (KeeperMoves granted done ∷ before)
          ((if c then served_events (begin_of v.now.keeper) (record_read (read_by_keeper v)) done (mailbox_of v.now.words session).addr (serving_of v.now.keeper) else changed_by v.now.words (keeper_ask v.now.shape v.now.places v.now.keeper)) ++ mapped opening session before)
      by_serving true e =
          serve_read granted done before (serving_of v.now.keeper)
          (last_part v session w (mail_past opening session before) granted done alive rests (life_holds opening session before opened) (life_sound opening session before opened) e) refl e
          (own_finds v session w (mail_past opening session before) granted done alive rests (life_holds opening session before opened) (life_sound opening session before opened) e)
          (own_keeps v session w (mail_past opening session before) granted done alive rests (life_holds opening session before opened) (life_sound opening session before opened) e) read
      by_serving false e = others_read (KeeperMoves granted done ∷ before) (changed_by v.now.words (keeper_ask v.now.shape v.now.places v.now.keeper)) (mapped opening session before) (changed_none v.now.words (keeper_ask v.now.shape v.now.places v.now.keeper)) read

  alive_read : (event : Event) (before : List Event) → (run opening before).now.crashed ≡ false → ReadAt (event ∷ before) (mapped opening session before)
      → ReadAt (event ∷ before) (life_events (run opening before).now (read_by_keeper (run opening before)) session event ++ mapped opening session before)
  unfolding life_events
  alive_read (Calls number call) before alive read = others_read (Calls number call ∷ before) _ (mapped opening session before) (called_none (run opening before).now session number call (slice_get (run opening before).now.sessions number)) read
  alive_read (Moves number) before alive read = others_read (Moves number ∷ before) _ (mapped opening session before) (moved_none (run opening before).now session number (slice_get (run opening before).now.sessions number)) read
  alive_read (KeeperMoves granted done) before alive read = keeper_read granted done before alive read
  alive_read (Commits kind) before alive read = read
  alive_read Turns before alive read = read
  alive_read Crashes before alive read = read

  event_read : (event : Event) (before : List Event) → ReadAt (event ∷ before) (mapped opening session before)
      → ReadAt (event ∷ before) (mail_events (run opening before).now (read_by_keeper (run opening before)) session event ++ mapped opening session before)
  event_read event before read = by_crash (run opening before).now.crashed refl
    where
      by_crash : (c : Bool) → (run opening before).now.crashed ≡ c
          → ReadAt (event ∷ before) ((if c then [] else life_events (run opening before).now (read_by_keeper (run opening before)) session event) ++ mapped opening session before)
      by_crash true e = read
      by_crash false e = alive_read event before e read

  pub life_read : (events : List Event) → IsRead opening session events (seen_by_mailbox opening session events).keeping (mail_notes opening session events)
  unfolding run mapped mail_run past_of
  life_read [] = record { in_hand = tt; all = tt }
  life_read (event ∷ before) = event_read event before (later_read opening session before event _ _ (life_read before))
