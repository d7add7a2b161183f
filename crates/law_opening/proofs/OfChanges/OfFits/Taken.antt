-- What an attempt takes from its session's mailbox fits in words, since it was read where a record was there.
use Rattle.std.proofs.Common.{◌≡◌, ℕ, ◌^◌, ◌<◌, ◌≤◌, ◌∙◌, arith, inl, inr, refl, sym, ap, subst, true, false, List, ◌∷◌, ◌++◌}
use Rattle.std.specs.Prelude.{Some, slice_get}
use Rattle.fkv_base.specs.declared.numbers.Addr.{Addr}
use Rattle.law_refine.proofs.Below.law_world.OfKeeper.OwnRun.{keeper_begins}
use Rattle.law_refine.specs.Below.fkv_ops.HeaderWords.{header_said}
use Rattle.law_refine.specs.Below.fkv_ops.TryAnswer.TheVariants as answer
use Rattle.law_refine.specs.Below.fkv_pending.Attempting.{attempting_ask}
use Rattle.law_refine.specs.Below.fkv_pending.Mailbox.{HasAskedFor, MailNote}
use Rattle.law_refine.specs.Below.fkv_pending.Mailing.{mail_ask, mail_next}
use Rattle.law_refine.specs.Below.fkv_pending.TheAttempting.{Attempting}
use Rattle.law_refine.specs.Below.fkv_pending.TheAttempting.TheVariants.{Looks}
use Rattle.law_refine.specs.Below.fkv_pending.MailAnswer.TheVariants as mail
use Rattle.law_refine.specs.Below.fkv_pending.MailRecord.{MailRecord}
use Rattle.fkv_plane.proofs.Shown.{passed_reply}
use Rattle.fkv_plane.specs.Asked.{reply_to}
use Rattle.fkv_plane.specs.declared.asks.Ask.TheVariants.{Done}
use Rattle.law_refine.specs.Below.fkv_session.Sessions.{SessionState, session_ask}
use Rattle.law_refine.specs.Below.fkv_session.Sitting.{Sitting}
use Rattle.law_refine.specs.Below.fkv_session.Sitting.TheVariants.{Attempts, Polls}
use Rattle.law_refine.specs.Below.fkv_world.Runs.{World, run}
use Rattle.law_refine.specs.Below.fkv_world.World.{Event, Now, seat_at}
use Rattle.law_opening.proofs.OfChanges.OfDevice.There.{CallsLaw, read_ok}
use Rattle.law_opening.proofs.OfChanges.OfDevice.Words.{WordsLaw, gone_says}
use Rattle.law_opening.proofs.OfChanges.OfFits.Held.{Held, HeldSoFar, flushed_at, held_now, held_then, log_at, record_grows}
use Rattle.law_opening.proofs.OfChanges.OfFits.Mails.{NotesOk}
use Rattle.law_opening.proofs.OfChanges.OfFits.Rows.{RecordOk, SaysThere}
use Rattle.law_opening.proofs.OfChanges.OfFits.Told.{TakesFit}
use Rattle.law_opening.proofs.OfChanges.OfMails.Life.{its_seat}
use Rattle.law_opening.proofs.OfChanges.OfSessions.Attempting.{attempt_reply}
use Rattle.law_opening.specs.Changes.Laws.{BeginsFitting, begin_at}
use Rattle.law_refine.specs.Below.law_local.Sessions.Known.{is_attempting}
use Rattle.law_log.specs.Ghosts.{Ghosts, Log}
use Rattle.law_refine.proofs.OfMail.GoneTold.{begin_above}
use Rattle.law_refine.proofs.OfMail.Takes.{takes_read}
use Rattle.law_refine.specs.Mail.MailEvents.{record_gone}
use Rattle.law_refine.specs.Mail.Mailers.{attempt_mailing, sitting_mailing}
use Rattle.law_refine.specs.Mail.Reads.{GivenSince, GoneSince, HasTakenRead, IsTaking, ReadSince}
use Rattle.law_refine.specs.Mail.Servers.{begin_of}

-- an attempt that looks into the mailbox works on it
looks_by : (s : SessionState) (step : Sitting) → is_attempting step ≡ true → s.attempt.step ≡ Looks → sitting_mailing s step ≡ Some s.attempt.mailing
looks_by s (Attempts has_shifted) attempts at = ap (attempt_mailing s.attempt) at
looks_by s (Polls index) attempts at = ap (attempt_mailing s.attempt) at
looks_by s step attempts at = cc

module _ (opening : World) (start : ℕ) (lists : ℕ → List ℕ) (ghosts : Ghosts) (begins : BeginsFitting opening start lists ghosts) (calls : CallsLaw) (words : WordsLaw) where
  -- the keeper goes by a begin that is no lower than the one that the log was opened with
  its_begin : (events : List Event) → begin_at opening.now ≤ begin_of (run opening events).now.keeper
  its_begin events =
      let serves = ap (λ (a : Addr). a.0) (keeper_begins opening events begins.linked.world).serves in
      let above = begin_above opening events begins.linked.world in
      omega (arith, serves, above)

  -- so whoever is told that a record is gone is told such a one
  gone_ok : (session : ℕ) (events : List Event) (addr : Addr) (its : MailRecord) (asked : List MailNote) → GoneSince opening session events addr its asked
      → RecordOk (begin_at opening.now) (log_at opening ghosts events) (flushed_at opening events) its (header_said its.header)
  gone_ok session events addr its asked gone =
      let told : MailRecord = record_gone (begin_of (run opening gone.earlier).now.keeper) in
      let log : Log = log_at opening ghosts events in
      let flushed : ℕ = flushed_at opening events in
      let above = its_begin gone.earlier in
      subst (λ (x : MailRecord). RecordOk (begin_at opening.now) log flushed x (header_said x.header)) (sym gone.gives)
      (small, (subst (SaysThere (begin_at opening.now) log flushed) (sym (gone_says told.header refl)) tt, λ none. above))
    where
      small : 0 < 2 ^ 64
      small = omega arith

  -- what was read since it was asked for
  read_since : (session : ℕ) (events : List Event) (addr : Addr) (its : MailRecord) (before : List MailNote) (read : ReadSince opening session events addr its (HasAskedFor addr ∷ before)) → session < opening.now.places.sessions → HeldSoFar opening start ghosts events
      → RecordOk (begin_at opening.now) (log_at opening ghosts events) (flushed_at opening events) its (header_said its.header)
  read_since session events addr its before read there held =
      let so_far : HeldSoFar opening start ghosts (read.later ++ (read.event ∷ read.earlier)) = subst (λ (es : List Event). HeldSoFar opening start ghosts es) read.cut held in
      let behind : HeldSoFar opening start ghosts (read.event ∷ read.earlier) = held_then opening start ghosts read.later (read.event ∷ read.earlier) so_far in
      let earlier_held : Held opening start ghosts read.earlier = held_now opening start ghosts read.earlier behind.1 in
      let notes : NotesOk (log_at opening ghosts read.earlier) (flushed_at opening read.earlier) (HasAskedFor addr ∷ before) = subst (NotesOk (log_at opening ghosts read.earlier) (flushed_at opening read.earlier)) read.since (earlier_held.asked session there).1 in
      let was : RecordOk (begin_at opening.now) (log_at opening ghosts read.earlier) (flushed_at opening read.earlier) its (header_said its.header) =
      subst (λ (x : MailRecord). RecordOk (begin_at opening.now) (log_at opening ghosts read.earlier) (flushed_at opening read.earlier) x (header_said x.header)) (sym read.gives)
      (read_ok opening start lists ghosts begins read.earlier calls words earlier_held.log addr.0 notes.0) in
      subst (λ (es : List Event). RecordOk (begin_at opening.now) (log_at opening ghosts es) (flushed_at opening es) its (header_said its.header)) (sym read.cut)
      (record_grows opening start lists ghosts begins.linked read.later read.event read.earlier its (header_said its.header) was)

  since_ok : (session : ℕ) (events : List Event) (addr : Addr) (its : MailRecord) (before : List MailNote) → GivenSince opening session events addr its (HasAskedFor addr ∷ before) → session < opening.now.places.sessions → HeldSoFar opening start ghosts events
      → RecordOk (begin_at opening.now) (log_at opening ghosts events) (flushed_at opening events) its (header_said its.header)
  since_ok session events addr its before (inl read) there held = read_since session events addr its before read there held
  since_ok session events addr its before (inr gone) there held = gone_ok session events addr its (HasAskedFor addr ∷ before) gone

  module _ (events : List Event) (session : ℕ) (s : SessionState) (held : HeldSoFar opening start ghosts events) (alive : (run opening events).now.crashed ≡ false) (found : slice_get (run opening events).now.sessions session ≡ Some s) (attempts : is_attempting s.step ≡ true) where
    abbrev N : Now
    N = (run opening events).now

    abbrev reply : ℕ
    reply = reply_to N.words (session_ask (seat_at N session) s)

    -- the reply is the one to its ask of the mailbox
    its_reply : s.attempt.step ≡ Looks → reply ≡ reply_to N.words (mail_ask session s.attempt.mailing)
    unfolding attempting_ask
    its_reply at =
        attempt_reply (seat_at N session) N.words s s.step attempts
        ∙ (ap (λ (step : Attempting). reply_to N.words (attempting_ask N.places session s.attempt step)) at ∙ passed_reply N.words (mail_ask session s.attempt.mailing) answer.Shift)

    look_ok : s.attempt.step ≡ Looks → (its : MailRecord) → mail_ask session (mail_next s.attempt.mailing reply) ≡ Done (mail.Taken its) → RecordOk (begin_at opening.now) (log_at opening ghosts events) (flushed_at opening events) its (header_said its.header)
    look_ok at its e =
        let there : session < opening.now.places.sessions = its_seat opening start events session s begins.linked.now found in
        let taking : IsTaking N session its = record {
          taker = s;
          there = found;
          step = s.attempt.mailing;
          under_way = looks_by s s.step attempts at;
          takes = subst (λ (x : ℕ). mail_ask session (mail_next s.attempt.mailing x) ≡ Done (mail.Taken its)) (its_reply at) e;
        } in
        let taken : HasTakenRead opening session events its = takes_read opening session events its (begins.mailboxes session there) alive taking in
        since_ok session events taken.addr its taken.before taken.given there held

    by_step : (step : Attempting) → s.attempt.step ≡ step → TakesFit (begin_at opening.now) (log_at opening ghosts events) (flushed_at opening events) session s.attempt step reply
    by_step Looks at = λ its e. look_ok at its e
    by_step step at = tt

    pub takes_fit : TakesFit (begin_at opening.now) (log_at opening ghosts events) (flushed_at opening events) session s.attempt s.attempt.step reply
    takes_fit = by_step s.attempt.step refl
