-- What the events of a mailbox leave of what is asked for there, and of the task that is under way.
use Rattle.std.proofs.Common.{◌≡◌, ℕ, ◌^◌, ◌∙◌, refl, sym, ap, subst, Bool, true, false, List, [], ◌∷◌, ◌++◌}
use Rattle.std.specs.Prelude.{⊤, ◌==◌, nat_lt, if◌then◌else◌, Option, Some, None, slice_get}
use Rattle.fkv_map.specs.declared.operations.Call.{Call}
use Rattle.fkv_plane.specs.declared.asks.Ask.{Ask}
use Rattle.fkv_plane.specs.declared.asks.Ask.TheVariants.{Put, Take, Done}
use Rattle.fkv_plane.specs.Passing.{is_done}
use Rattle.law_commit.specs.Below.fkv_flush.TheServing.{Serving}
use Rattle.law_commit.specs.Below.fkv_flush.TheServing.TheVariants as serve
use Rattle.law_commit.specs.Below.fkv_keeper.Keeping.{keeper_ask}
use Rattle.law_commit.specs.Below.fkv_pending.MailAnswer.{MailAnswer}
use Rattle.law_commit.specs.Below.fkv_pending.MailRecord.{MailRecord}
use Rattle.law_commit.specs.Below.fkv_pending.MailTask.{MailTask}
use Rattle.law_commit.specs.Below.fkv_pending.MailTask.TheVariants as task
use Rattle.law_commit.specs.Below.fkv_pending.TheMailing.{Mailing}
use Rattle.law_commit.specs.Below.fkv_pending.TheMailing.TheVariants as mailing
use Rattle.law_commit.specs.Below.fkv_pending.MailWorld.{Mailbox, mailbox_of, Keeping, GivesReady, MailWorld, MailEvent, Serves, Changes}
use Rattle.law_commit.specs.Below.fkv_pending.Mailbox.{MailNote, MailPast, past_moved, served_notes, past_of}
use Rattle.law_commit.specs.Below.fkv_session.Sessions.{SessionState, session_ask}
use Rattle.law_commit.specs.Below.fkv_world.Actors.{is_of_session}
use Rattle.law_commit.specs.Below.fkv_world.World.{Event, Calls, Moves, KeeperMoves, Now, seat_at}
use Rattle.law_commit.specs.Below.law_refine.Mail.MailEvents.{begins, changed_by, own_events, begun_events, called_events, moved_events, loaded_events, served_events, record_gone, record_read, life_events}
use Rattle.law_commit.specs.Below.law_refine.Mail.Servers.{serving_of, begin_of, is_serving}
use Rattle.law_order.specs.Asked.Asked.{outstanding}
use Rattle.law_order.proofs.OfAsked.Moved.{is_first}

-- ---- events of others
abbrev pub AreQuiet : List MailEvent → Type 0
AreQuiet [] = ⊤
AreQuiet (Serves given ∷ before) = AreQuiet before
AreQuiet (Changes place word ∷ before) = AreQuiet before
AreQuiet (event ∷ before) = ⊥

pub record IsSamePast (past after : MailPast) : Type 0 where
  pub asked : outstanding after.notes ≡ outstanding past.notes
  pub task : after.task ≡ past.task

-- what is served stays asked for until it is taken
served_asked : (keeping : Keeping) (notes : List MailNote) → outstanding (served_notes keeping notes) ≡ outstanding notes
unfolding outstanding
served_asked (GivesReady addr its) notes = refl
served_asked keeping notes = refl

pub quiet_past : (first : MailWorld) (later before : List MailEvent) → AreQuiet later → IsSamePast (past_of first before) (past_of first (later ++ before))
unfolding past_of
quiet_past first [] before quiet = record { asked = refl; task = refl }
quiet_past first (Serves given ∷ later) before quiet = let its = quiet_past first later before quiet in record { asked = served_asked _ _ ∙ its.asked; task = its.task }
quiet_past first (Changes place word ∷ later) before quiet = quiet_past first later before quiet
quiet_past first (event ∷ later) before quiet = absurd quiet

pub changed_quiet : {A : Type 0} (words : List ℕ) (ask : Ask A) → AreQuiet (changed_by words ask)
changed_quiet words (Put slot action) = tt
changed_quiet words (Take slot) = tt
changed_quiet words (Done its) = tt
changed_quiet words ask = tt

either_quiet : (c : Bool) (a b : List MailEvent) → AreQuiet a → AreQuiet b → AreQuiet (if c then a else b)
either_quiet true a b one other = one
either_quiet false a b one other = other

loaded_quiet : (begin : ℕ) (given : MailRecord) (addr : ℕ) → AreQuiet (loaded_events begin given addr)
loaded_quiet begin given addr =
    either_quiet (nat_lt addr begin) (Serves (record_gone begin) ∷ Serves (record_gone begin) ∷ Serves (record_gone begin) ∷ []) (if nat_lt addr (2 ^ 48) then Serves given ∷ Serves given ∷ [] else []) tt
    (either_quiet (nat_lt addr (2 ^ 48)) (Serves given ∷ Serves given ∷ []) [] tt tt)

served_quiet : (begin : ℕ) (given : MailRecord) (done : Bool) (addr : ℕ) (step : Serving) → AreQuiet (served_events begin given done addr step)
served_quiet begin given done addr (serve.LoadsAddress session) = loaded_quiet begin given addr
served_quiet begin given done addr (serve.Reads session at) = either_quiet done (Serves given ∷ []) [] tt tt
served_quiet begin given done addr step = tt

called_quiet : (n : Now) (session number : ℕ) (call : Call) (found : Option SessionState) → (number == session) ≡ false → AreQuiet (called_events n session number call found)
called_quiet n session number call None other = tt
called_quiet n session number call (Some s) other = subst (λ (c : Bool). AreQuiet (if c then begun_events n session call s else [])) (sym other) tt

moved_quiet : (n : Now) (session number : ℕ) (found : Option SessionState) → (number == session) ≡ false → AreQuiet (moved_events n session number found)
moved_quiet n session number None other = tt
moved_quiet n session number (Some s) other =
    subst (λ (c : Bool). AreQuiet (if c then own_events n session s else changed_by n.words (session_ask (seat_at n number) s))) (sym other) (changed_quiet n.words (session_ask (seat_at n number) s))

-- an event of another than the mailbox's session
pub event_quiet : (n : Now) (read : List ℕ) (session : ℕ) (event : Event) → is_of_session session event ≡ false → AreQuiet (life_events n read session event)
unfolding life_events
event_quiet n read session (Calls number call) other = called_quiet n session number call (slice_get n.sessions number) other
event_quiet n read session (Moves number) other = moved_quiet n session number (slice_get n.sessions number) other
event_quiet n read session (KeeperMoves granted done) other =
    either_quiet (is_serving session (serving_of n.keeper)) (served_events (begin_of n.keeper) (record_read read) done (mailbox_of n.words session).addr (serving_of n.keeper)) (changed_by n.words (keeper_ask n.shape n.places n.keeper))
    (served_quiet (begin_of n.keeper) (record_read read) done (mailbox_of n.words session).addr (serving_of n.keeper)) (changed_quiet n.words (keeper_ask n.shape n.places n.keeper))
event_quiet n read session event other = tt

-- ---- a task that begins
pub begins_notes : (first : MailWorld) (its : Option Mailing) (before : List MailEvent) → (past_of first (begins its ++ before)).notes ≡ (past_of first before).notes
unfolding past_of
begins_notes first None before = refl
begins_notes first (Some (mailing.LoadsState its)) before = by_end _
  where
    by_end : (c : Bool) → (if c then record (past_of first before) { task = Some its } else past_of first before).notes ≡ (past_of first before).notes
    by_end true = refl
    by_end false = refl
begins_notes first (Some (mailing.StoresAddress addr)) before = by_emptied _
  where
    by_emptied : (c : Bool) → (if c then record (past_of first before) { task = Some (task.Put addr) } else past_of first before).notes ≡ (past_of first before).notes
    by_emptied true = refl
    by_emptied false = refl
begins_notes first (Some step) before = refl

pub begins_none : (m : Mailing) → is_first m ≡ false → begins (Some m) ≡ []
begins_none (mailing.LoadsState its) later = cc
begins_none (mailing.StoresAddress addr) later = cc
begins_none step later = refl

-- ---- a task that goes on
pub moved_task : (b c : Mailbox) (ask : Ask MailAnswer) (past : MailPast) (found : Option MailTask) → found ≡ past.task → is_done ask ≡ false → (past_moved b c ask past found).task ≡ past.task
moved_task b c ask past None same way = refl
moved_task b c ask past (Some its) same way = ap (λ (done : Bool). if done then None else Some its) way ∙ same
