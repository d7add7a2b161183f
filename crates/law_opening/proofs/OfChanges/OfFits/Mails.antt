-- Whatever a session asks for in its mailbox is there.
use Rattle.std.proofs.Common.{ℕ, ◌≤◌, Bool, true, false, List, [], ◌∷◌, ◌++◌, Option, Some, None}
use Rattle.std.specs.Prelude.{⊤, ◌&&◌, not, if◌then◌else◌, ◌==◌}
use Rattle.law_refine.specs.Below.fkv_pending.Mailbox.{MailNote, HasAskedFor, WasServed, HasTaken, HasLetGo, MailPast, asked_notes, answered_notes, asked_then, past_after, past_moved, past_of, served_notes}
use Rattle.law_refine.specs.Below.fkv_pending.MailWorld.{Keeping, GivesReady, Mailbox, MailEvent, MailWorld, Begins, BeginsPut, Moves, Serves, Changes, has_emptied, is_at_end, mail_happens, mail_run, mailbox_of}
use Rattle.law_refine.specs.Below.fkv_pending.Mailing.{mail_asked}
use Rattle.law_refine.specs.Below.fkv_pending.MailAnswer.{MailAnswer}
use Rattle.law_refine.specs.Below.fkv_pending.MailAnswer.TheVariants.{Cleared, Taken}
use Rattle.law_refine.specs.Below.fkv_pending.MailTask.{MailTask}
use Rattle.law_refine.specs.Below.fkv_pending.MailTask.TheVariants as task
use Rattle.law_refine.specs.Below.fkv_pending.TheMailing.{Mailing}
use Rattle.law_refine.specs.Below.fkv_pending.TheMailing.TheVariants as mailing
use Rattle.fkv_plane.specs.Passing.{is_done}
use Rattle.fkv_plane.specs.declared.asks.Ask.{Ask}
use Rattle.fkv_plane.specs.declared.asks.Ask.TheVariants.{Put, Take, Done}
use Rattle.law_opening.proofs.OfChanges.OfFits.Rows.{IsThere, MailingOk, TaskOk, task_grows, there_grows}
use Rattle.law_opening.proofs.OfChanges.Rows.{Stays}
use Rattle.law_log.specs.Ghosts.{Log}
use Rattle.law_refine.specs.Mail.MailEvents.{begins, changed_by}

-- ---- what has come to pass
-- the task that is under way asks for what is there, and so did all before
abbrev pub HasTaskOk : Log → ℕ → Option MailTask → Type 0
HasTaskOk log flushed None = ⊤
HasTaskOk log flushed (Some its) = TaskOk log flushed its

abbrev pub NotesOk : Log → ℕ → List MailNote → Type 0
NotesOk log flushed [] = ⊤
NotesOk log flushed (HasAskedFor addr ∷ before) = IsThere log flushed addr.0 × NotesOk log flushed before
NotesOk log flushed (note ∷ before) = NotesOk log flushed before

abbrev pub PastOk : Log → ℕ → MailPast → Type 0
PastOk log flushed past = HasTaskOk log flushed past.task × NotesOk log flushed past.notes

-- a task that begins asks for what is there
abbrev pub is_ok : Log → ℕ → MailEvent → Type 0
is_ok log flushed (Begins its) = TaskOk log flushed its
is_ok log flushed (BeginsPut addr) = IsThere log flushed addr.0
is_ok log flushed event = ⊤

abbrev pub AreOk : Log → ℕ → List MailEvent → Type 0
AreOk log flushed [] = ⊤
AreOk log flushed (event ∷ before) = is_ok log flushed event × AreOk log flushed before

module _ (log : Log) (flushed : ℕ) where
  pub both_ok : (later before : List MailEvent) → AreOk log flushed later → AreOk log flushed before → AreOk log flushed (later ++ before)
  both_ok [] before one other = other
  both_ok (event ∷ later) before one other = (one.0, both_ok later before one.1 other)

  -- ---- by each event
  asked_ok : (came : Bool) (its : MailTask) (notes : List MailNote) → TaskOk log flushed its → NotesOk log flushed notes → NotesOk log flushed (asked_notes came its notes)
  asked_ok true (task.Put addr) notes ok were = (ok, were)
  asked_ok true task.Clear notes ok were = were
  asked_ok true task.Take notes ok were = were
  asked_ok false its notes ok were = were

  answered_ok : (ask : Ask MailAnswer) (notes : List MailNote) → NotesOk log flushed notes → NotesOk log flushed (answered_notes ask notes)
  answered_ok (Done (Taken its)) notes were = were
  answered_ok (Done Cleared) notes were = were
  answered_ok (Done its) notes were = were
  answered_ok ask notes were = were

  served_ok : (keeping : Keeping) (notes : List MailNote) → NotesOk log flushed notes → NotesOk log flushed (served_notes keeping notes)
  served_ok (GivesReady addr its) notes were = were
  served_ok keeping notes were = were

  task_left : (done : Bool) (its : MailTask) → TaskOk log flushed its → HasTaskOk log flushed (if done then None else Some its)
  task_left true its ok = tt
  task_left false its ok = ok

  moved_ok : (before after : Mailbox) (ask : Ask MailAnswer) (past : MailPast) (found : Option MailTask) → HasTaskOk log flushed found → PastOk log flushed past → PastOk log flushed (past_moved before after ask past found)
  moved_ok before after ask past None ok was = was
  moved_ok before after ask past (Some its) ok was =
      let came : Bool = not (before.state == mail_asked) && after.state == mail_asked in
      (task_left (is_done ask) its ok, answered_ok ask (asked_notes came its past.notes) (asked_ok came its past.notes ok was.1))

  one_ok : (w : MailWorld) (event : MailEvent) (past : MailPast) → is_ok log flushed event → PastOk log flushed past → PastOk log flushed (past_after w event past)
  one_ok w (Begins its) past ok was = by_test (is_at_end w.mailing)
    where
      by_test : (c : Bool) → PastOk log flushed (if c then record past { task = Some its } else past)
      by_test true = (ok, was.1)
      by_test false = was
  one_ok w (BeginsPut addr) past ok was = by_test (has_emptied w.mailing)
    where
      by_test : (c : Bool) → PastOk log flushed (if c then record past { task = Some (task.Put addr) } else past)
      by_test true = (ok, was.1)
      by_test false = was
  one_ok w Moves past ok was = moved_ok (mailbox_of w.words w.session) (mailbox_of (mail_happens w Moves).words w.session) (asked_then w) past past.task was.0 was
  one_ok w (Serves given) past ok was = (was.0, served_ok w.keeping past.notes was.1)
  one_ok w (Changes place word) past ok was = was

  pub run_ok : (first : MailWorld) (later before : List MailEvent) → AreOk log flushed later → PastOk log flushed (past_of first before) → PastOk log flushed (past_of first (later ++ before))
  unfolding past_of
  run_ok first [] before ok was = was
  run_ok first (event ∷ later) before ok was = one_ok (mail_run first (later ++ before)) event (past_of first (later ++ before)) ok.0 (run_ok first later before ok.1 was)

  -- ---- events that begin no task, or one that asks for what is there
  pub begins_ok : (step : Mailing) → MailingOk log flushed step → AreOk log flushed (begins (Some step))
  begins_ok (mailing.LoadsState its) ok = (ok, tt)
  begins_ok (mailing.StoresAddress addr) ok = (ok, tt)
  begins_ok step ok = tt

  pub changed_ok : {A : Type 0} (words : List ℕ) (ask : Ask A) → AreOk log flushed (changed_by words ask)
  changed_ok words (Put slot action) = tt
  changed_ok words (Take slot) = tt
  changed_ok words (Done its) = tt
  changed_ok words ask = (tt, tt)

-- ---- as the log grows and is flushed
module _ (log log' : Log) (stays : Stays log log') (flushed flushed' : ℕ) (rises : flushed ≤ flushed') where
  notes_grow : (notes : List MailNote) → NotesOk log flushed notes → NotesOk log' flushed' notes
  notes_grow [] ok = tt
  notes_grow (HasAskedFor addr ∷ before) ok = (there_grows log log' stays flushed flushed' rises addr.0 ok.0, notes_grow before ok.1)
  notes_grow (WasServed addr its ∷ before) ok = notes_grow before ok
  notes_grow (HasTaken its ∷ before) ok = notes_grow before ok
  notes_grow (HasLetGo ∷ before) ok = notes_grow before ok

  task_stays : (found : Option MailTask) → HasTaskOk log flushed found → HasTaskOk log' flushed' found
  task_stays None ok = tt
  task_stays (Some its) ok = task_grows log log' stays flushed flushed' rises its ok

  pub past_grows : (past : MailPast) → PastOk log flushed past → PastOk log' flushed' past
  past_grows past ok = (task_stays past.task ok.0, notes_grow past.notes ok.1)
