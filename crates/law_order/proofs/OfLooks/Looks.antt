-- What a session loads from its mailbox is true of the log: the record that it seeks was asked for where it is published and flushed, and that record was served. Or it was
-- told that it is gone, with the log's begin.
use Rattle.std.proofs.Common.{◌≡◌, ◌≢◌, ◌⊎◌, inl, inr, ℕ, ◌<◌, ◌≤◌, ◌∙◌, refl, sym, ap, subst, arith, eqb-true, Bool, true, false, List, [], ◌∷◌, ◌++◌}
use Rattle.std.specs.Prelude.{◌==◌, Option, Some, None, slice_get}
use Rattle.std.proofs.lemmas.List.{append_assoc}
use Rattle.fkv_base.specs.declared.numbers.Addr.{Addr}
use Rattle.fkv_epoch.proofs.Shown.{some_same}
use Rattle.law_commit.specs.Below.fkv_ops.DiskRecord.{DiskRecord}
use Rattle.law_commit.specs.Below.fkv_ops.TryAnswer.{TryAnswer}
use Rattle.law_commit.specs.Below.fkv_ops.TryAnswer.TheVariants.{Shift}
use Rattle.law_log.specs.Chains.{Cell, Logged, Published}
use Rattle.law_log.specs.Ghosts.{Ghosts, Log}
use Rattle.law_log.specs.Enabled.{AreEnabled}
use Rattle.law_commit.specs.Below.fkv_pending.TheAttempting.{Attempting}
use Rattle.law_commit.specs.Below.fkv_pending.TheAttempting.TheVariants.{Looks}
use Rattle.law_commit.specs.Below.fkv_pending.MailRecord.{MailRecord}
use Rattle.law_commit.specs.Below.fkv_pending.TheMailing.{Mailing}
use Rattle.law_commit.specs.Below.fkv_pending.TheMailing.TheVariants.{LoadsHeader, LoadsKey, LoadsValue}
use Rattle.law_commit.specs.Below.fkv_pending.Attempting.{attempting_ask}
use Rattle.law_commit.specs.Below.fkv_pending.Mailbox.{MailNote, HasAskedFor, WasServed, record_in}
use Rattle.law_commit.specs.Below.fkv_pending.Mailing.{is_gone, mail_ask}
use Rattle.law_commit.specs.Below.fkv_pending.MailWorld.{Mailbox, mailbox_of}
use Rattle.law_commit.proofs.Below.fkv_pending.Shown as pending
use Rattle.law_commit.proofs.Below.fkv_pending.Shown.{replied_in, there_said}
use Rattle.fkv_plane.specs.Asked.{reply_to}
use Rattle.fkv_plane.proofs.Shown.{passed_reply}
use Rattle.law_commit.specs.Below.fkv_session.Sessions.{SessionState}
use Rattle.law_commit.specs.Below.law_local.Sessions.Known.{is_attempting}
use Rattle.law_commit.specs.Below.law_local.Tries.Floors.{LeadsByFloor}
use Rattle.law_commit.specs.Below.law_local.Tries.MailRows.{IsRecordOf, IsTrueOfGone, IsTrueOfLook, IsTrueOfMail, IsTrueOfSought}
use Rattle.law_commit.specs.Below.law_local.Tries.TryRows.{floor_in}
use Rattle.law_commit.specs.Below.fkv_world.Runs.{World, run}
use Rattle.law_commit.specs.Below.fkv_world.World.{Event, Now, seat_at}
use Rattle.law_order.specs.Known.Begins.{BegunLife, begin_in, home_of_world}
use Rattle.law_order.specs.Known.Floors.{AttemptsGoFrom}
use Rattle.law_order.specs.Known.Knows.{AreKnown}
use Rattle.law_order.specs.Known.Told.{LookTruly, reply_in}
use Rattle.law_commit.specs.Below.law_refine.Mail.Mailers.{session_mailing}
use Rattle.law_commit.specs.Below.law_refine.Mail.Reads.{GivenSince, GoneSince, HasTakenRead, IsTaking, ReadSince, TellsBegin, mail_notes}
use Rattle.law_commit.specs.Below.law_refine.Mail.Shows as mail
use Rattle.law_commit.specs.Below.law_refine.Events.GhostEvents.{life_ghosts, mapped}
use Rattle.law_commit.specs.Below.law_refine.Seen.Floors.{TellsUpto}
use Rattle.law_commit.proofs.Below.law_refine.OfMail.GoneTold.{gone_tells}
use Rattle.law_commit.proofs.Below.law_refine.OfMail.Takes.{takes_read}
use Rattle.law_order.specs.Served.Served.{ServedShow}
use Rattle.law_order.proofs.OfKnown.Begins.{begin_fixed, life_above}
use Rattle.law_order.proofs.OfServed.Floors.{record_above}
use Rattle.law_order.proofs.OfServed.Later.{life_enabled_before}
use Rattle.law_opening.proofs.OfChanges.OfSessions.Attempting.{attempt_reply}
use Rattle.law_order.specs.Asked.Asked.{LooksForAsked, outstanding}
use Rattle.law_order.proofs.OfLooks.LifeMails.{its_mailbox}
use Rattle.law_order.proofs.OfLooks.Ready.{HasLoaded, HasReady, has_loaded, loads_ready, loads_word, look_mailing, ready_read}
use Rattle.law_order.proofs.OfLooks.There.{AsksLaw, IsThere, asked_there}

-- ---- what is loaded is a word of the mailbox
pub look_asks : (n : Now) (session : ℕ) (s : SessionState) → is_attempting s.step ≡ true → s.attempt.step ≡ Looks → reply_in n session s ≡ reply_to n.words (mail_ask session s.attempt.mailing)
unfolding attempting_ask
look_asks n session s attempts looks =
    attempt_reply (seat_at n session) n.words s s.step attempts
    ∙ (ap (λ (step : Attempting). reply_to n.words (attempting_ask n.places session s.attempt step)) looks
    ∙ passed_reply {B = TryAnswer} n.words (mail_ask session s.attempt.mailing) Shift)

look_reply : (n : Now) (session : ℕ) (s : SessionState) → is_attempting s.step ≡ true → s.attempt.step ≡ Looks → reply_in n session s ≡ pending.reply_in (mailbox_of n.words session) s.attempt.mailing
look_reply n session s attempts looks = look_asks n session s attempts looks ∙ replied_in n.words session s.attempt.mailing

-- ---- and where that has the record of the log, it is true
same_cell : (cell other : Cell) → Published cell ≡ Published other → cell ≡ other
same_cell cell other same = cc

record_true : (floor : ℕ) (logged : Logged) (b : Mailbox) (step : Mailing) → HasLoaded b step → (loads_word step ≡ true → IsRecordOf floor logged (record_in b) ⊎ (b.header ≡ 0)) → IsTrueOfMail floor logged step (pending.reply_in b step)
record_true floor logged b LoadsHeader loaded its = λ some cell e. elim (its refl) [
  | inl is ↦ subst (λ (c : Cell). LeadsByFloor floor c.previous b.header) (same_cell is.cell cell (sym is.its ∙ e)) is.leads
  | inr gone ↦ absurd (some gone)
]
record_true floor logged b (LoadsKey header) loaded its = λ some cell e. elim (its refl) [
  | inl is ↦ is.key ∙ ap (λ (c : Cell). c.key) (same_cell is.cell cell (sym is.its ∙ e))
  | inr gone ↦ absurd (some (sym loaded ∙ gone))
]
record_true floor logged b (LoadsValue header key) loaded its = λ some cell e. elim (its refl) [
  | inl is ↦ is.value ∙ ap (λ (c : Cell). c.value) (same_cell is.cell cell (sym is.its ∙ e))
  | inr gone ↦ absurd (some (sym loaded ∙ gone))
]
record_true floor logged b step loaded its = tt

-- where it is gone its key is the log's begin
gone_true : (log : Log) (b : Mailbox) (step : Mailing) → HasLoaded b step → (loads_word step ≡ true → (b.header ≢ 0) ⊎ (b.key ≤ log.fixed)) → IsTrueOfGone log step (pending.reply_in b step)
gone_true log b (LoadsKey header) loaded its = λ none. elim (its refl) [
  | inl some ↦ absurd (some (loaded ∙ none))
  | inr low ↦ low
]
gone_true log b step loaded its = tt

-- a record of the log has another header
there_header : (its : MailRecord) → is_gone its ≡ false → its.header ≢ 0
there_header its there none = let clash : (0 == 0) ≡ false = subst (λ (n : ℕ). (n == 0) ≡ false) none there in cc

gone_header : (its : MailRecord) → is_gone its ≡ true → its.header ≡ 0
gone_header its gone = eqb-true its.header 0 gone

is_there : (floor : ℕ) (logged : Logged) (its : MailRecord) → IsRecordOf floor logged its → is_gone its ≡ false
is_there floor logged its is = let leads = is.leads in there_said its leads.said leads.version leads.says

not_both : {A : Type 0} (c : Bool) → c ≡ false → c ≡ true → A
not_both c one other = cc

-- ---- what is asked for
asked_last : {notes before : List MailNote} {addr : Addr} → notes ≡ HasAskedFor addr ∷ before → outstanding notes ≡ Some addr
unfolding outstanding
asked_last same = ap outstanding same

served_asked : {notes before : List MailNote} {addr : Addr} {its : MailRecord} → notes ≡ WasServed addr its ∷ HasAskedFor addr ∷ before → outstanding notes ≡ Some addr
unfolding outstanding
served_asked same = ap outstanding same

-- ---- beginnings of a life
known_before : (opening : World) (ghosts : Ghosts) (later earlier : List Event) → AreKnown opening ghosts (later ++ earlier) → AreKnown opening ghosts earlier
unfolding AreKnown
known_before opening ghosts [] earlier known = known
known_before opening ghosts (event ∷ later) earlier known = known_before opening ghosts later earlier known.0

-- attempts look for what was asked for
abbrev pub LooksLaw : World → List Event → Type 0
LooksLaw opening events =
    (session : ℕ) (s : SessionState) → slice_get (run opening events).now.sessions session ≡ Some s → is_attempting s.step ≡ true → LooksForAsked (mail_notes opening session events) s.attempt s.attempt.step

-- who is told that a record is gone is told a begin above this one
abbrev pub TellsAbove : ℕ → Now → Type 0
TellsAbove begin n = n.crashed ≡ false → (session : ℕ) (its : MailRecord) → IsTaking n session its → is_gone its ≡ true → begin < its.key.0

-- in a life of a store that was opened
module _ (life : BegunLife) (events : List Event)
    (enabled : AreEnabled (home_of_world life.opening) life.ghosts (mapped life.opening events)) (known : AreKnown life.opening life.ghosts events) (go : AttemptsGoFrom (begin_in life.opening) (run life.opening events).now) (served : ServedShow life.opening life.ghosts events)
    (looks_for : LooksLaw life.opening events) (law : AsksLaw life.opening) where
  abbrev n : Now
  n = (run life.opening events).now

  abbrev log : Log
  log = (life_ghosts life.opening life.ghosts events).log

  -- where it began at first, and where it does now
  abbrev B : ℕ
  B = begin_in life.opening

  abbrev B' : ℕ
  B' = begin_in (run life.opening events)

  -- what is asked for was there at each earlier moment
  there_then : (session : ℕ) (addr : Addr) (before : List MailNote) (later earlier : List Event) → mail.IsOpened life.opening.now session → events ≡ later ++ earlier
      → mail_notes life.opening session earlier ≡ HasAskedFor addr ∷ before → IsThere life.opening life.ghosts earlier addr.0
  there_then session addr before later earlier opened cut since =
      let enabled_then = life_enabled_before life.opening life.ghosts later earlier (subst (λ (es : List Event). AreEnabled (home_of_world life.opening) life.ghosts (mapped life.opening es)) cut enabled) in
      let known_then = known_before life.opening life.ghosts later earlier (subst (AreKnown life.opening life.ghosts) cut known) in
      asked_there life law earlier session addr opened enabled_then known_then (asked_last since)

  -- what was read for it since it was asked for is the record of the log
  read_true : (session : ℕ) (addr : Addr) (its : MailRecord) (before : List MailNote) → mail.IsOpened life.opening.now session
      → ReadSince life.opening session events addr its (HasAskedFor addr ∷ before) → IsRecordOf B (log.cells addr.0) its
  read_true session addr its before opened read =
      let later : List Event = read.later ++ (read.event ∷ []) in
      let cut : events ≡ later ++ read.earlier = read.cut ∙ sym (append_assoc read.later (read.event ∷ []) read.earlier) in
      let there : IsThere life.opening life.ghosts read.earlier addr.0 = there_then session addr before later read.earlier opened cut read.since in
      served session addr its read.earlier later there.cell cut read.gives there.published there.flushed

  -- what tells that it is gone tells the begin
  told_begin : (session : ℕ) (addr : Addr) (its : MailRecord) (asked : List MailNote) → GoneSince life.opening session events addr its asked → TellsBegin B B' addr its
  told_begin session addr its asked gone = gone_tells life.opening session events addr its asked life.begins.world gone

  -- so is all that was given, unless that tells that it is gone
  given_true : (session : ℕ) (addr : Addr) (its : MailRecord) (before : List MailNote) → mail.IsOpened life.opening.now session
      → GivenSince life.opening session events addr its (HasAskedFor addr ∷ before) → IsRecordOf B (log.cells addr.0) its ⊎ TellsBegin B B' addr its
  given_true session addr its before opened (inl read) = inl (read_true session addr its before opened read)
  given_true session addr its before opened (inr gone) = inr (told_begin session addr its (HasAskedFor addr ∷ before) gone)

  -- what is loaded for the record that is sought is that one
  sought_true : (session : ℕ) (s : SessionState) (it : DiskRecord) → slice_get n.sessions session ≡ Some s → is_attempting s.step ≡ true → s.attempt.step ≡ Looks → s.attempt.pending.sought ≡ Some it
      → loads_word s.attempt.mailing ≡ true → IsRecordOf B (log.cells it.addr.0) (record_in (mailbox_of n.words session)) ⊎ TellsBegin B B' it.addr (record_in (mailbox_of n.words session))
  sought_true session s it found attempts looks sought loads =
      let opened = its_mailbox life events session s found in
      let ready : HasReady life.opening session events (record_in (mailbox_of n.words session)) =
      ready_read life.opening session events opened (loads_ready life.opening session events s s.attempt.mailing opened found (look_mailing s s.step attempts looks) loads) in
      let looks_for_it : LooksForAsked (mail_notes life.opening session events) s.attempt Looks = subst (LooksForAsked (mail_notes life.opening session events) s.attempt) looks (looks_for session s found attempts) in
      let same : ready.addr ≡ it.addr = some_same ready.addr it.addr (sym (served_asked ready.notes) ∙ looks_for_it it sought) in
      subst (λ (addr : Addr). IsRecordOf B (log.cells addr.0) (record_in (mailbox_of n.words session)) ⊎ TellsBegin B B' addr (record_in (mailbox_of n.words session))) same (given_true session ready.addr (record_in (mailbox_of n.words session)) ready.before opened ready.given)

  -- ---- what is loaded there is a word of one of both
  module _ (session : ℕ) (s : SessionState) (there : slice_get n.sessions session ≡ Some s) (attempts : is_attempting s.step ≡ true) (looks : s.attempt.step ≡ Looks) where
    abbrev box : Mailbox
    box = mailbox_of n.words session

    abbrev floor : ℕ
    floor = floor_in s.attempt.pending.request

    under_way : session_mailing s ≡ Some s.attempt.mailing
    under_way = look_mailing s s.step attempts looks

    loaded : HasLoaded box s.attempt.mailing
    loaded = has_loaded life.opening session events s s.attempt.mailing (its_mailbox life events session s there) there under_way

    either_header : (addr : Addr) → IsRecordOf B (log.cells addr.0) (record_in box) ⊎ TellsBegin B B' addr (record_in box) → IsRecordOf floor (log.cells addr.0) (record_in box) ⊎ (box.header ≡ 0)
    either_header addr (inl is) = inl (record_above B floor (log.cells addr.0) (record_in box) (go session s there attempts) is)
    either_header addr (inr told) = inr (gone_header (record_in box) told.gone)

    either_key : (addr : Addr) → IsRecordOf B (log.cells addr.0) (record_in box) ⊎ TellsBegin B B' addr (record_in box) → (box.header ≢ 0) ⊎ (box.key ≤ log.fixed)
    either_key addr (inl is) = inl (there_header (record_in box) (is_there B (log.cells addr.0) (record_in box) is))
    either_key addr (inr told) =
        let key : box.key ≤ B' = told.key in
        let fixed = begin_fixed life events in
        inr (omega (arith, key, fixed))

    ready_given : loads_word s.attempt.mailing ≡ true → HasReady life.opening session events (record_in box)
    ready_given loads =
        let opened = its_mailbox life events session s there in
        ready_read life.opening session events opened (loads_ready life.opening session events s s.attempt.mailing opened there under_way loads)

    key_true : loads_word s.attempt.mailing ≡ true → (box.header ≢ 0) ⊎ (box.key ≤ log.fixed)
    key_true loads =
        let ready = ready_given loads in
        either_key ready.addr (given_true session ready.addr (record_in box) ready.before (its_mailbox life events session s there) ready.given)

    found_true : (found : Option DiskRecord) → s.attempt.pending.sought ≡ found → IsTrueOfSought log floor found s.attempt.mailing (pending.reply_in box s.attempt.mailing)
    found_true None sought = tt
    found_true (Some it) sought = record_true floor (log.cells it.addr.0) box s.attempt.mailing loaded (λ loads. either_header it.addr (sought_true session s it there attempts looks sought loads))

    look_true : IsTrueOfLook log floor s.attempt.pending.sought s.attempt.mailing (pending.reply_in box s.attempt.mailing)
    look_true = (gone_true log box s.attempt.mailing loaded key_true, found_true s.attempt.pending.sought refl)

  pub all_look_truly : LookTruly log n
  all_look_truly session s found attempts looks =
      subst (IsTrueOfLook log (floor_in s.attempt.pending.request) s.attempt.pending.sought s.attempt.mailing) (sym (look_reply n session s attempts looks)) (look_true session s found attempts looks)

  -- ---- what is taken
  taken_given : n.crashed ≡ false → (session : ℕ) (its : MailRecord) → IsTaking n session its → HasTakenRead life.opening session events its
  taken_given alive session its taking = takes_read life.opening session events its (its_mailbox life events session taking.taker taking.there) alive taking

  -- a begin that is told there is none above that of now
  pub none_above : TellsUpto (begin_in (run life.opening events)) n
  none_above alive session its taking gone =
      let taken = taken_given alive session its taking in
      elim (given_true session taken.addr its taken.before (its_mailbox life events session taking.taker taking.there) taken.given) [
        | inl is ↦ not_both (is_gone its) (is_there B (log.cells (let a = taken.addr in a.0)) its is) gone
        | inr told ↦ told.key
      ]

  -- what is asked for lies at or above where the log began at first, and the begin that is told lies above that
  pub all_above : TellsAbove B n
  all_above alive session its taking gone =
      let taken = taken_given alive session its taking in
      let opened = its_mailbox life events session taking.taker taking.there in
      elim taken.given [
        | inl read ↦ not_both (is_gone its) (is_there B (log.cells (let a = taken.addr in a.0)) its (read_true session taken.addr its taken.before opened read)) gone
        | inr since ↦ (
            let later : List Event = since.later ++ (since.event ∷ []) in
            let cut : events ≡ later ++ since.earlier = since.cut ∙ sym (append_assoc since.later (since.event ∷ []) since.earlier) in
            let there = there_then session taken.addr taken.before later since.earlier opened cut since.since in
            let above : B ≤ (let a = taken.addr in a.0) = life_above life since.earlier (let a = taken.addr in a.0) there.cell there.published in
            let told : TellsBegin B B' taken.addr its = told_begin session taken.addr its (HasAskedFor taken.addr ∷ taken.before) since in
            let below = told.above in
            omega (arith, above, below))
      ]
