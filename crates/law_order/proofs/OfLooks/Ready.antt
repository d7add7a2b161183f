-- While a session loads the words of a record from its mailbox the mailbox is ready, and they are those of the record that was served last: it was given since it was asked for.
use Rattle.std.proofs.Common.{◌≡◌, ℕ, ◌∙◌, ap, subst, arith, List, [], ◌∷◌, Bool, true, false, inl, inr}
use Rattle.std.specs.Prelude.{⊤, Option, Some, slice_get}
use Rattle.fkv_base.specs.declared.numbers.Addr.{Addr}
use Rattle.law_commit.specs.Below.fkv_pending.TheAttempting.TheVariants.{Looks}
use Rattle.law_commit.specs.Below.fkv_pending.MailRecord.{MailRecord}
use Rattle.law_commit.specs.Below.fkv_pending.MailTask.{MailTask}
use Rattle.law_commit.specs.Below.fkv_pending.TheMailing.{Mailing}
use Rattle.law_commit.specs.Below.fkv_pending.TheMailing.TheVariants.{LoadsHeader, LoadsKey, LoadsValue}
use Rattle.law_commit.specs.Below.fkv_pending.Mailbox.{MailNote, HasAskedFor, WasServed, HasTaken, HasLetGo, MailPast, IsAskedFor, IsServed, AreInTurn, record_in}
use Rattle.law_commit.specs.Below.fkv_pending.Mailing.{mail_ready}
use Rattle.law_commit.specs.Below.fkv_pending.MailWorld.{Mailbox, MailWorld, mailbox_of}
use Rattle.law_commit.proofs.Below.fkv_pending.Shown.{IsSound, KnowsMail, Stands}
use Rattle.law_commit.specs.Below.fkv_session.Sitting.{Sitting}
use Rattle.law_commit.specs.Below.fkv_session.Sitting.TheVariants.{Attempts, Polls}
use Rattle.law_commit.specs.Below.fkv_session.Sessions.{SessionState}
use Rattle.law_commit.specs.Below.law_local.Sessions.Known.{is_attempting}
use Rattle.law_commit.specs.Below.fkv_world.Runs.{World, run}
use Rattle.law_commit.specs.Below.fkv_world.World.{Event, Now}
use Rattle.law_commit.specs.Below.law_refine.Mail.Mailers.{IsAsFar, attempt_mailing, session_mailing, sitting_mailing}
use Rattle.law_commit.specs.Below.law_refine.Mail.Reads.{GivenSince, mail_notes, mail_past}
use Rattle.law_commit.specs.Below.law_refine.Mail.Shows.{IsOpened, seen_by_mailbox}
use Rattle.law_commit.proofs.Below.law_refine.OfMail.ReadSteps.{AllRead}
use Rattle.law_commit.proofs.Below.law_refine.OfMail.LifeReads.{life_read}
use Rattle.law_commit.proofs.Below.law_refine.OfMail.Lives.{life_shows, life_sound}

-- ---- the machine with which an attempt looks for a record
pub look_mailing : (s : SessionState) (step : Sitting) → is_attempting step ≡ true → s.attempt.step ≡ Looks → sitting_mailing s step ≡ Some s.attempt.mailing
look_mailing s (Attempts has_shifted) attempts looks = ap (attempt_mailing s.attempt) looks
look_mailing s (Polls index) attempts looks = ap (attempt_mailing s.attempt) looks
look_mailing s step attempts looks = cc

-- it loads a word of the record
abbrev pub loads_word : Mailing → Bool
loads_word LoadsHeader = true
loads_word (LoadsKey header) = true
loads_word (LoadsValue header key) = true
loads_word step = false

ready_at : (b : Mailbox) (task : Option MailTask) (step : Mailing) → loads_word step ≡ true → KnowsMail b task step → b.state ≡ mail_ready
ready_at b task LoadsHeader loads knows = knows.1
ready_at b task (LoadsKey header) loads knows = knows.1
ready_at b task (LoadsValue header key) loads knows = knows.1
ready_at b task step loads knows = cc

-- what it has loaded of it is what the mailbox has
abbrev pub HasLoaded : Mailbox → Mailing → Type 0
HasLoaded b (LoadsKey header) = b.header ≡ header
HasLoaded b (LoadsValue header key) = b.header ≡ header
HasLoaded b step = ⊤

loaded_at : (b : Mailbox) (task : Option MailTask) (step : Mailing) → KnowsMail b task step → HasLoaded b step
loaded_at b task (LoadsKey header) knows = knows.2
loaded_at b task (LoadsValue header key) knows = knows.2
loaded_at b task step knows = tt

-- ---- the mailbox of the engine's world is that of its own
box_same : (opening : World) (session : ℕ) (events : List Event) → IsOpened opening.now session
    → mailbox_of (seen_by_mailbox opening session events).words (seen_by_mailbox opening session events).session ≡ mailbox_of (run opening events).now.words session
box_same opening session events opened =
    let shows = life_shows opening session events opened in
    ap (λ (words : List ℕ). mailbox_of words (seen_by_mailbox opening session events).session) shows.words
    ∙ ap (mailbox_of (run opening events).now.words) shows.session_same

knows_mail : (opening : World) (session : ℕ) (events : List Event) (s : SessionState) (step : Mailing) → IsOpened opening.now session → slice_get (run opening events).now.sessions session ≡ Some s → session_mailing s ≡ Some step
    → KnowsMail (mailbox_of (run opening events).now.words session) (mail_past opening session events).task step
knows_mail opening session events s step opened found under_way =
    let w : MailWorld = seen_by_mailbox opening session events in
    let past : MailPast = mail_past opening session events in
    let far : IsAsFar (Some step) w.mailing = subst (λ (its : Option Mailing). IsAsFar its w.mailing) under_way ((life_shows opening session events opened).mailing s found) in
    let knows : KnowsMail (mailbox_of w.words w.session) past.task step = subst (KnowsMail (mailbox_of w.words w.session) past.task) far.0 (life_sound opening session events opened).kept.session in
    subst (λ (b : Mailbox). KnowsMail b past.task step) (box_same opening session events opened) knows

pub loads_ready : (opening : World) (session : ℕ) (events : List Event) (s : SessionState) (step : Mailing) → IsOpened opening.now session → slice_get (run opening events).now.sessions session ≡ Some s → session_mailing s ≡ Some step
    → loads_word step ≡ true → (mailbox_of (run opening events).now.words session).state ≡ mail_ready
loads_ready opening session events s step opened found under_way loads =
    ready_at (mailbox_of (run opening events).now.words session) (mail_past opening session events).task step loads (knows_mail opening session events s step opened found under_way)

pub has_loaded : (opening : World) (session : ℕ) (events : List Event) (s : SessionState) (step : Mailing) → IsOpened opening.now session → slice_get (run opening events).now.sessions session ≡ Some s → session_mailing s ≡ Some step
    → HasLoaded (mailbox_of (run opening events).now.words session) step
has_loaded opening session events s step opened found under_way =
    loaded_at (mailbox_of (run opening events).now.words session) (mail_past opening session events).task step (knows_mail opening session events s step opened found under_way)

-- ---- what was served last was asked for last
record IsServedLast (its : MailRecord) (notes : List MailNote) : Type 0 where
  addr : Addr
  before : List MailNote
  form : notes ≡ WasServed addr its ∷ HasAskedFor addr ∷ before

asked_before : (addr : Addr) (its given : MailRecord) (before : List MailNote) → given ≡ its → IsAskedFor addr before → IsServedLast its (WasServed addr given ∷ before)
asked_before addr its given (HasAskedFor other ∷ before) same asks =
    record { addr = addr; before = before; form = ap (λ (x : MailRecord). WasServed addr x ∷ HasAskedFor other ∷ before) same ∙ ap (λ (x : Addr). WasServed addr its ∷ HasAskedFor x ∷ before) asks }
asked_before addr its given [] same asks = absurd asks
asked_before addr its given (WasServed other there ∷ before) same asks = absurd asks
asked_before addr its given (HasTaken other ∷ before) same asks = absurd asks
asked_before addr its given (HasLetGo ∷ before) same asks = absurd asks

served_last : (its : MailRecord) (notes : List MailNote) → IsServed its notes → AreInTurn notes → IsServedLast its notes
served_last its (WasServed addr given ∷ before) served turns = asked_before addr its given before served turns.0
served_last its [] served turns = absurd served
served_last its (HasAskedFor addr ∷ before) served turns = absurd served
served_last its (HasTaken other ∷ before) served turns = absurd served
served_last its (HasLetGo ∷ before) served turns = absurd served

ready_served : (b : Mailbox) (notes : List MailNote) → b.state ≡ mail_ready → Stands b notes → IsServed (record_in b) notes
ready_served b notes ready (inl stands) = let empty = stands.0 in absurd (omega (arith, ready, empty))
ready_served b notes ready (inr (inl stands)) = let asked = stands.0 in absurd (omega (arith, ready, asked))
ready_served b notes ready (inr (inr stands)) = stands.1

-- so the record of a mailbox that is ready was served last, and it was given since it was asked for
pub record HasReady (opening : World) (session : ℕ) (events : List Event) (its : MailRecord) : Type 0 where
  pub addr : Addr
  pub before : List MailNote
  pub notes : mail_notes opening session events ≡ WasServed addr its ∷ HasAskedFor addr ∷ before
  pub given : GivenSince opening session events addr its (HasAskedFor addr ∷ before)

pub ready_read : (opening : World) (session : ℕ) (events : List Event) → IsOpened opening.now session → (mailbox_of (run opening events).now.words session).state ≡ mail_ready
    → HasReady opening session events (record_in (mailbox_of (run opening events).now.words session))
ready_read opening session events opened ready =
    let n : Now = (run opening events).now in
    let w : MailWorld = seen_by_mailbox opening session events in
    let past : MailPast = mail_past opening session events in
    let sound : IsSound w past = life_sound opening session events opened in
    let served : IsServed (record_in (mailbox_of n.words session)) past.notes =
    ready_served (mailbox_of n.words session) past.notes ready (subst (λ (b : Mailbox). Stands b past.notes) (box_same opening session events opened) sound.kept.stands) in
    let last = served_last (record_in (mailbox_of n.words session)) past.notes served sound.kept.turns in
    let all : AllRead opening session events (WasServed last.addr (record_in (mailbox_of n.words session)) ∷ HasAskedFor last.addr ∷ last.before) = subst (AllRead opening session events) last.form (life_read opening session opened events).all in
    record { addr = last.addr; before = last.before; notes = last.form; given = all.0 }
