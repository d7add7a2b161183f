-- What a session takes from its mailbox is what was served last, as it was given since it was asked for.
use Rattle.std.proofs.Common.{◌≡◌, ℕ, ◌∙◌, refl, ap, subst, arith, List, [], ◌∷◌, ◌++◌, Bool, true, false}
use Rattle.std.specs.Prelude.{◌==◌, ◌&&◌, not, if◌then◌else◌, Option, Some, None, slice_get}
use Rattle.std.proofs.lemmas.Bool.Decides.{nat_tests}
use Rattle.fkv_base.specs.declared.numbers.Addr.{Addr}
use Rattle.fkv_plane.specs.declared.asks.Ask.{Ask}
use Rattle.fkv_plane.specs.declared.asks.Ask.TheVariants.{Done}
use Rattle.fkv_plane.specs.Asked.{reply_to}
use Rattle.law_world.specs.Below.fkv_pending.MailAnswer.{MailAnswer}
use Rattle.law_world.specs.Below.fkv_pending.MailAnswer.TheVariants.{Cleared, NotReady, Taken, Asked, Occupied}
use Rattle.law_world.specs.Below.fkv_pending.MailRecord.{MailRecord}
use Rattle.law_world.specs.Below.fkv_pending.MailTask.{MailTask}
use Rattle.law_world.specs.Below.fkv_pending.MailTask.TheVariants as task
use Rattle.law_world.specs.Below.fkv_pending.TheMailing.{Mailing}
use Rattle.law_world.specs.Below.fkv_pending.TheMailing.TheVariants as mailing
use Rattle.law_world.specs.Below.fkv_pending.Mailing.{mail_asked, mail_ask, mail_next}
use Rattle.law_world.specs.Below.fkv_pending.MailWorld.{Mailbox, mailbox_of, MailWorld, MailEvent, Moves as MailMoves, is_at_end, mail_happens}
use Rattle.law_world.specs.Below.fkv_pending.Mailbox.{MailNote, HasAskedFor, WasServed, HasTaken, HasLetGo, MailPast, asked_then, asked_notes, answered_notes, past_moved, past_of, IsAskedFor, IsServed, AreInTurn}
use Rattle.law_world.proofs.Below.fkv_pending.Shown.{IsSound, KnowsMail, moment_sound}
use Rattle.law_world.specs.Below.fkv_session.Sessions.{SessionState, session_ask}
use Rattle.law_world.specs.Below.fkv_world.Moves.{session_moved}
use Rattle.law_world.specs.Below.fkv_world.Runs.{World, read_by_keeper, run}
use Rattle.law_world.specs.Below.fkv_world.World.{Event, Moves, Now, seat_at, near}
use Rattle.law_refine.specs.Mail.MailEvents.{begins, changed_by, asked_by, own_events, moved_events, life_events, mail_events, mapped}
use Rattle.law_refine.specs.Mail.Mailers.{session_mailing, IsAsFar}
use Rattle.law_refine.specs.Mail.Reads.{mail_past, mail_notes, IsTaking, HasTakenRead, TakesWhatWasRead}
use Rattle.law_refine.specs.Mail.Shows.{IsOpened, mail_opening, seen_by_mailbox}
use Rattle.law_refine.proofs.OfMail.LifeReads.{life_read}
use Rattle.law_refine.proofs.OfMail.Lives.{life_sound, life_shows}
use Rattle.law_refine.proofs.OfMail.ReadSteps.{AllRead}

-- a task begins without a note
begins_notes : (first : MailWorld) (its : Option Mailing) (before : List MailEvent) → (past_of first ((begins its ++ MailMoves ∷ []) ++ before)).notes ≡ (past_of first (MailMoves ∷ before)).notes
unfolding past_of
begins_notes first None before = refl
begins_notes first (Some (mailing.LoadsState its)) before = by_end _
  where
    by_end : (c : Bool) → (if c then record (past_of first (MailMoves ∷ before)) { task = Some its } else past_of first (MailMoves ∷ before)).notes ≡ (past_of first (MailMoves ∷ before)).notes
    by_end true = refl
    by_end false = refl
begins_notes first (Some (mailing.StoresAddress addr)) before = by_emptied _
  where
    by_emptied : (c : Bool) → (if c then record (past_of first (MailMoves ∷ before)) { task = Some (task.Put addr) } else past_of first (MailMoves ∷ before)).notes ≡ (past_of first (MailMoves ∷ before)).notes
    by_emptied true = refl
    by_emptied false = refl
begins_notes first (Some (mailing.Ended its)) before = refl
begins_notes first (Some mailing.LoadsHeader) before = refl
begins_notes first (Some (mailing.LoadsKey header)) before = refl
begins_notes first (Some (mailing.LoadsValue header key)) before = refl
begins_notes first (Some (mailing.StoresEmpty its)) before = refl
begins_notes first (Some mailing.StoresAsked) before = refl

-- a machine that is under way has its task
task_of : (b : Mailbox) (found : Option MailTask) (step : Mailing) → KnowsMail b found step → is_at_end step ≡ false → (its : MailTask) × (found ≡ Some its)
task_of b found (mailing.Ended its) knows way = cc
task_of b found (mailing.LoadsState its) knows way = (its, knows)
task_of b found mailing.LoadsHeader knows way = (task.Take, knows.0)
task_of b found (mailing.LoadsKey header) knows way = (task.Take, knows.0)
task_of b found (mailing.LoadsValue header key) knows way = (task.Take, knows.0)
task_of b found (mailing.StoresEmpty Cleared) knows way = (task.Clear, knows.0)
task_of b found (mailing.StoresEmpty (Taken its)) knows way = (task.Take, knows.0.0)
task_of b found (mailing.StoresEmpty NotReady) knows way = absurd knows.0
task_of b found (mailing.StoresEmpty Asked) knows way = absurd knows.0
task_of b found (mailing.StoresEmpty Occupied) knows way = absurd knows.0
task_of b found (mailing.StoresAddress addr) knows way = (task.Put addr, knows.0)
task_of b found mailing.StoresAsked knows way = (_, knows.0)

-- what was served last was asked for last
record WasAsked (its : MailRecord) (notes : List MailNote) : Type 0 where
  addr : Addr
  before : List MailNote
  form : notes ≡ WasServed addr its ∷ HasAskedFor addr ∷ before

asked_before : (addr : Addr) (its given : MailRecord) (before : List MailNote) → given ≡ its → IsAskedFor addr before → WasAsked its (WasServed addr given ∷ before)
asked_before addr its given (HasAskedFor other ∷ before) same asks = record { addr = addr; before = before; form = ap (λ (x : MailRecord). WasServed addr x ∷ HasAskedFor other ∷ before) same ∙ ap (λ (x : Addr). WasServed addr its ∷ HasAskedFor x ∷ before) asks }
asked_before addr its given [] same asks = absurd asks
asked_before addr its given (WasServed other record_there ∷ before) same asks = absurd asks
asked_before addr its given (HasTaken other ∷ before) same asks = absurd asks
asked_before addr its given (HasLetGo ∷ before) same asks = absurd asks

was_asked : (its : MailRecord) (notes : List MailNote) → IsServed its notes → AreInTurn notes → WasAsked its notes
was_asked its [] served turns = absurd served
was_asked its (WasServed addr given ∷ before) served turns = asked_before addr its given before served turns.0
was_asked its (HasAskedFor addr ∷ before) served turns = absurd served
was_asked its (HasTaken other ∷ before) served turns = absurd served
was_asked its (HasLetGo ∷ before) served turns = absurd served

asked_none : (its : MailRecord) (came : Bool) (of_task : MailTask) (notes : List MailNote) → IsServed its (asked_notes came of_task notes) → asked_notes came of_task notes ≡ notes
asked_none its true (task.Put addr) notes served = absurd served
asked_none its true task.Clear notes served = refl
asked_none its true task.Take notes served = refl
asked_none its false (task.Put addr) notes served = refl
asked_none its false task.Clear notes served = refl
asked_none its false task.Take notes served = refl

-- the notes of the step with which a record is taken
taken_notes : (b c : Mailbox) (ask : Ask MailAnswer) (past : MailPast) (found : Option MailTask) (of_task : MailTask) (its : MailRecord) → found ≡ Some of_task → ask ≡ Done (Taken its) → AreInTurn (past_moved b c ask past found).notes
    → ((past_moved b c ask past found).notes ≡ HasTaken its ∷ past.notes) × IsServed its past.notes
taken_notes b c ask past found of_task its some taken turns =
    let came : Bool = not (b.state == mail_asked) && c.state == mail_asked in
    let all : (past_moved b c ask past found).notes ≡ HasTaken its ∷ asked_notes came of_task past.notes =
    ap (λ (x : Option MailTask). (past_moved b c ask past x).notes) some ∙ ap (λ (x : Ask MailAnswer). answered_notes x (asked_notes came of_task past.notes)) taken in
    let in_turn : AreInTurn (HasTaken its ∷ asked_notes came of_task past.notes) = subst AreInTurn all turns in
    let same = asked_none its came of_task past.notes in_turn.0 in
    (all ∙ ap (λ (xs : List MailNote). HasTaken its ∷ xs) same, subst (IsServed its) same in_turn.0)

own_test : (session : ℕ) → (session == session) ≡ true
own_test session = grind (arith, nat_tests)

module _ (opening : World) (session : ℕ) (events : List Event) (its : MailRecord) (opened : IsOpened opening.now session) (alive : (run opening events).now.crashed ≡ false) (taking : IsTaking (run opening events).now session its) where
  abbrev n : Now
  n = (run opening events).now

  abbrev w : MailWorld
  w = seen_by_mailbox opening session events

  abbrev before : List MailEvent
  before = mapped opening session events

  abbrev x : Option Mailing
  x = session_mailing (session_moved (seat_at n session) (near n taking.taker)).machine

  -- the events of its step
  its_events : mail_events n (read_by_keeper (run opening events)) session (Moves session) ≡ begins x ++ MailMoves ∷ []
  unfolding life_events
  its_events =
      ap (λ (c : Bool). if c then [] else moved_events n session session (slice_get n.sessions session)) alive
      ∙ ap (λ (found : Option SessionState). moved_events n session session found) taking.there
      ∙ ap (λ (c : Bool). if c then own_events n session taking.taker else changed_by n.words (session_ask (seat_at n session) taking.taker)) (own_test session)
      ∙ ap (λ (found : Option Mailing). begins x ++ asked_by n.words found (session_ask (seat_at n session) taking.taker)) taking.under_way

  step_notes : mail_notes opening session (Moves session ∷ events) ≡ (past_of (mail_opening opening session) (MailMoves ∷ before)).notes
  unfolding mapped
  step_notes = ap (λ (es : List MailEvent). (past_of (mail_opening opening session) (es ++ before)).notes) its_events ∙ begins_notes (mail_opening opening session) x before

  -- what its machine asks then
  far : IsAsFar (Some taking.step) w.mailing
  far = subst (λ (found : Option Mailing). IsAsFar found w.mailing) taking.under_way ((life_shows opening session events opened).mailing taking.taker taking.there)

  asks_then : asked_then w ≡ Done (Taken its)
  unfolding mail_happens
  asks_then =
      let shows = life_shows opening session events opened in
      ap (λ (y : List ℕ). mail_ask w.session (mail_next w.mailing (reply_to y (mail_ask w.session w.mailing)))) shows.words
      ∙ ap (λ (y : ℕ). mail_ask y (mail_next w.mailing (reply_to n.words (mail_ask y w.mailing)))) shows.session_same
      ∙ ap (λ (y : Mailing). mail_ask session (mail_next y (reply_to n.words (mail_ask session y)))) far.0
      ∙ taking.takes

  has_taken : HasTakenRead opening session events its
  unfolding past_of
  has_taken =
      let past : MailPast = mail_past opening session events in
      let sound : IsSound w past = life_sound opening session events opened in
      let then_sound = moment_sound session opening.now.words (MailMoves ∷ before) opened.mail in
      let of_task = task_of (mailbox_of w.words w.session) past.task w.mailing sound.kept.session (ap is_at_end far.0 ∙ far.1) in
      let notes = taken_notes (mailbox_of w.words w.session) (mailbox_of (mail_happens w MailMoves).words w.session) (asked_then w) past past.task of_task.0 its of_task.1 asks_then then_sound.kept.turns in
      let asked : WasAsked its past.notes = was_asked its past.notes notes.1 sound.kept.turns in
      let read : AllRead opening session events (WasServed asked.addr its ∷ HasAskedFor asked.addr ∷ asked.before) = subst (λ (xs : List MailNote). AllRead opening session events xs) asked.form (life_read opening session opened events).all in
      record {
        addr = asked.addr;
        before = asked.before;
        notes = step_notes ∙ notes.0 ∙ ap (λ (xs : List MailNote). HasTaken its ∷ xs) asked.form;
        given = read.0;
      }

pub takes_read : TakesWhatWasRead
takes_read opening session events its opened alive taking = has_taken opening session events its opened alive taking
