-- What the keeper serves was given since the record was asked for, over the events of the mailbox's world.
use Rattle.std.proofs.Common.{◌≡◌, ℕ, ◌∙◌, inl, inr, refl, sym, ap, subst, arith, List, [], ◌∷◌, Bool, true, false}
use Rattle.std.specs.Prelude.{⊤, ◌==◌, ◌&&◌, not, if◌then◌else◌, Option, Some, None, slice_set}
use Rattle.fkv_base.specs.declared.numbers.Addr.{Addr}
use Rattle.fkv_plane.specs.declared.asks.Ask.{Ask}
use Rattle.fkv_plane.specs.declared.asks.Ask.TheVariants.{Load, Store, Swap, Cas, Add, Max, Put, Take, Done}
use Rattle.fkv_plane.specs.Asked.{words_after}
use Rattle.law_world.specs.Below.fkv_pending.MailAnswer.{MailAnswer}
use Rattle.law_world.specs.Below.fkv_pending.MailAnswer.TheVariants.{Cleared, NotReady, Taken, Asked, Occupied}
use Rattle.law_world.specs.Below.fkv_pending.MailRecord.{MailRecord}
use Rattle.law_world.specs.Below.fkv_pending.MailTask.{MailTask}
use Rattle.law_world.specs.Below.fkv_pending.MailTask.TheVariants as task
use Rattle.law_world.specs.Below.fkv_pending.TheMailing.TheVariants as mailing
use Rattle.law_world.specs.Below.fkv_pending.Mailing.{mail_asked, mail_ask}
use Rattle.law_world.specs.Below.fkv_pending.MailWorld.{Mailbox, mailbox_of, is_mail_place, Keeping, FindsState, FindsAddress, Reads, GivesHeader, GivesKey, GivesValue, GivesReady, MailWorld, MailEvent, Begins, BeginsPut, Moves, Serves, Changes, is_at_end, has_emptied, keeper_next, mail_happens, mail_run}
use Rattle.law_world.specs.Below.fkv_pending.Mailbox.{MailNote, HasAskedFor, WasServed, HasTaken, HasLetGo, MailPast, asked_then, asked_notes, answered_notes, past_moved, served_notes, past_after, past_of, IsOver, IsAskedFor, AreInTurn}
use Rattle.law_world.proofs.Below.fkv_pending.Shown.{IsSound, Stands, KnowsKeeper, moved_box, happens_sound}
use Rattle.law_world.specs.Below.fkv_world.World.{Event}
use Rattle.law_world.specs.Below.fkv_world.Runs.{World}
use Rattle.law_refine.specs.Mail.Reads.{GivenSince}
use Rattle.law_refine.proofs.OfMail.MailSteps.{asked_stays}

-- the record that the keeper has in hand was given since what has come to pass
abbrev pub InHandRead : World → ℕ → List Event → List MailNote → Keeping → Type 0
InHandRead opening session events notes (GivesHeader addr its) = GivenSince opening session events addr its notes
InHandRead opening session events notes (GivesKey addr its) = GivenSince opening session events addr its notes
InHandRead opening session events notes (GivesValue addr its) = GivenSince opening session events addr its notes
InHandRead opening session events notes (GivesReady addr its) = GivenSince opening session events addr its notes
InHandRead opening session events notes step = ⊤

-- and each that was served, since what had come to pass before
abbrev pub AllRead : World → ℕ → List Event → List MailNote → Type 0
AllRead opening session events [] = ⊤
AllRead opening session events (WasServed addr its ∷ before) = GivenSince opening session events addr its before × AllRead opening session events before
AllRead opening session events (note ∷ before) = AllRead opening session events before

pub record IsRead (opening : World) (session : ℕ) (events : List Event) (keeping : Keeping) (notes : List MailNote) : Type 0 where
  pub in_hand : InHandRead opening session events notes keeping
  pub all : AllRead opening session events notes

-- the life goes on
later_since : (opening : World) (session : ℕ) (events : List Event) (event : Event) (addr : Addr) (its : MailRecord) (asked : List MailNote)
    → GivenSince opening session events addr its asked → GivenSince opening session (event ∷ events) addr its asked
later_since opening session events event addr its asked (inl read) =
    inl (record { earlier = read.earlier; later = event ∷ read.later; event = read.event; cut = ap (λ xs. event ∷ xs) read.cut; reads = read.reads; gives = read.gives; since = read.since })
later_since opening session events event addr its asked (inr gone) =
    inr (record { earlier = gone.earlier; later = event ∷ gone.later; event = gone.event; cut = ap (λ xs. event ∷ xs) gone.cut; loads = gone.loads; below = gone.below; gives = gone.gives; since = gone.since })

later_hand : (opening : World) (session : ℕ) (events : List Event) (event : Event) (notes : List MailNote) (keeping : Keeping) → InHandRead opening session events notes keeping → InHandRead opening session (event ∷ events) notes keeping
later_hand opening session events event notes (GivesHeader addr its) read = later_since opening session events event addr its notes read
later_hand opening session events event notes (GivesKey addr its) read = later_since opening session events event addr its notes read
later_hand opening session events event notes (GivesValue addr its) read = later_since opening session events event addr its notes read
later_hand opening session events event notes (GivesReady addr its) read = later_since opening session events event addr its notes read
later_hand opening session events event notes FindsState read = tt
later_hand opening session events event notes FindsAddress read = tt
later_hand opening session events event notes (Reads addr) read = tt

later_all : (opening : World) (session : ℕ) (events : List Event) (event : Event) (notes : List MailNote) → AllRead opening session events notes → AllRead opening session (event ∷ events) notes
later_all opening session events event [] all = tt
later_all opening session events event (WasServed addr its ∷ before) all = (later_since opening session events event addr its before all.0, later_all opening session events event before all.1)
later_all opening session events event (HasAskedFor addr ∷ before) all = later_all opening session events event before all
later_all opening session events event (HasTaken its ∷ before) all = later_all opening session events event before all
later_all opening session events event (HasLetGo ∷ before) all = later_all opening session events event before all

pub later_read : (opening : World) (session : ℕ) (events : List Event) (event : Event) (keeping : Keeping) (notes : List MailNote) → IsRead opening session events keeping notes → IsRead opening session (event ∷ events) keeping notes
later_read opening session events event keeping notes read = record { in_hand = later_hand opening session events event notes keeping read.in_hand; all = later_all opening session events event notes read.all }

-- a step of the session adds no record that was served
asked_all : (opening : World) (session : ℕ) (events : List Event) (came : Bool) (its : MailTask) (notes : List MailNote) → AllRead opening session events notes → AllRead opening session events (asked_notes came its notes)
asked_all opening session events true (task.Put addr) notes all = all
asked_all opening session events true task.Clear notes all = all
asked_all opening session events true task.Take notes all = all
asked_all opening session events false (task.Put addr) notes all = all
asked_all opening session events false task.Clear notes all = all
asked_all opening session events false task.Take notes all = all

answered_all : (opening : World) (session : ℕ) (events : List Event) (ask : Ask MailAnswer) (notes : List MailNote) → AllRead opening session events notes → AllRead opening session events (answered_notes ask notes)
answered_all opening session events (Done (Taken its)) notes all = all
answered_all opening session events (Done Cleared) notes all = all
answered_all opening session events (Done NotReady) notes all = all
answered_all opening session events (Done Asked) notes all = all
answered_all opening session events (Done Occupied) notes all = all
answered_all opening session events (Load place) notes all = all
answered_all opening session events (Store place word) notes all = all
answered_all opening session events (Swap place word) notes all = all
answered_all opening session events (Cas place old new) notes all = all
answered_all opening session events (Add place k) notes all = all
answered_all opening session events (Max place k) notes all = all
answered_all opening session events (Put slot action) notes all = all
answered_all opening session events (Take slot) notes all = all

moved_all : (opening : World) (session : ℕ) (events : List Event) (b c : Mailbox) (ask : Ask MailAnswer) (past : MailPast) (found : Option MailTask) → AllRead opening session events past.notes → AllRead opening session events (past_moved b c ask past found).notes
moved_all opening session events b c ask past None all = all
moved_all opening session events b c ask past (Some its) all =
    answered_all opening session events ask (asked_notes (not (b.state == mail_asked) && c.state == mail_asked) its past.notes)
    (asked_all opening session events (not (b.state == mail_asked) && c.state == mail_asked) its past.notes all)

-- while a record is asked for, a step of the session adds nothing
not_over : (addr : Addr) (notes : List MailNote) → IsAskedFor addr notes → IsOver notes → ⊥
not_over addr [] asks over = asks
not_over addr (HasAskedFor its ∷ before) asks over = over
not_over addr (WasServed its given ∷ before) asks over = asks
not_over addr (HasTaken its ∷ before) asks over = asks
not_over addr (HasLetGo ∷ before) asks over = asks

asked_still : (addr : Addr) (came : Bool) (its : MailTask) (notes : List MailNote) → IsAskedFor addr notes → AreInTurn (asked_notes came its notes) → asked_notes came its notes ≡ notes
asked_still addr true (task.Put other) notes asks turns = absurd (not_over addr notes asks turns.0)
asked_still addr true task.Clear notes asks turns = refl
asked_still addr true task.Take notes asks turns = refl
asked_still addr false (task.Put other) notes asks turns = refl
asked_still addr false task.Clear notes asks turns = refl
asked_still addr false task.Take notes asks turns = refl

answered_still : (ask : Ask MailAnswer) (notes : List MailNote) (addr : Addr) → IsAskedFor addr (answered_notes ask notes) → answered_notes ask notes ≡ notes
answered_still (Done (Taken its)) notes addr asks = absurd asks
answered_still (Done Cleared) notes addr asks = absurd asks
answered_still (Done NotReady) notes addr asks = refl
answered_still (Done Asked) notes addr asks = refl
answered_still (Done Occupied) notes addr asks = refl
answered_still (Load place) notes addr asks = refl
answered_still (Store place word) notes addr asks = refl
answered_still (Swap place word) notes addr asks = refl
answered_still (Cas place old new) notes addr asks = refl
answered_still (Add place k) notes addr asks = refl
answered_still (Max place k) notes addr asks = refl
answered_still (Put slot action) notes addr asks = refl
answered_still (Take slot) notes addr asks = refl

moved_still : (b c : Mailbox) (ask : Ask MailAnswer) (past : MailPast) (found : Option MailTask) (addr other : Addr) → IsAskedFor addr past.notes → AreInTurn (past_moved b c ask past found).notes → IsAskedFor other (past_moved b c ask past found).notes
    → (past_moved b c ask past found).notes ≡ past.notes
moved_still b c ask past None addr other asks turns still = refl
moved_still b c ask past (Some its) addr other asks turns still =
    let came : Bool = not (b.state == mail_asked) && c.state == mail_asked in
    let same : answered_notes ask (asked_notes came its past.notes) ≡ asked_notes came its past.notes = answered_still ask (asked_notes came its past.notes) other still in
    same ∙ asked_still addr came its past.notes asks (subst AreInTurn same turns)

asked_for : (b : Mailbox) (notes : List MailNote) → b.state ≡ mail_asked → Stands b notes → IsAskedFor (record { 0 = b.addr }) notes
asked_for b notes asks (inl stands) = absurd (omega (arith, stands.0, asks))
asked_for b notes asks (inr (inl stands)) = stands.1
asked_for b notes asks (inr (inr stands)) = absurd (omega (arith, stands.0, asks))

moves_still : (w : MailWorld) (past : MailPast) → IsSound w past → (mailbox_of w.words w.session).state ≡ mail_asked → (past_after w Moves past).notes ≡ past.notes
unfolding mail_happens
moves_still w past sound asks =
    let then_sound : IsSound (mail_happens w Moves) (past_after w Moves past) = happens_sound w Moves past sound in
    let box : Mailbox = mailbox_of w.words w.session in
    let still : (mailbox_of (words_after w.words (mail_ask w.session w.mailing)) w.session).state ≡ mail_asked =
    ap (λ (x : Mailbox). x.state) (moved_box w.words w.session sound.enough_words w.mailing) ∙ asked_stays box past.task w.mailing sound.kept.session asks in
    moved_still box (mailbox_of (words_after w.words (mail_ask w.session w.mailing)) w.session) (asked_then w) past past.task _ _ (asked_for box past.notes asks sound.kept.stands) then_sound.kept.turns (asked_for _ _ still then_sound.kept.stands)

-- what the keeper has in hand is asked for
hand_asked : (w : MailWorld) (past : MailPast) (keeping : Keeping) (opening : World) (session : ℕ) (events : List Event) → IsSound w past → KnowsKeeper (mailbox_of w.words w.session) keeping → InHandRead opening session events past.notes keeping
    → InHandRead opening session events (past_after w Moves past).notes keeping
hand_asked w past (GivesHeader addr its) opening session events sound knows read = subst (λ x. GivenSince opening session events addr its x) (sym (moves_still w past sound knows.0)) read
hand_asked w past (GivesKey addr its) opening session events sound knows read = subst (λ x. GivenSince opening session events addr its x) (sym (moves_still w past sound knows.0)) read
hand_asked w past (GivesValue addr its) opening session events sound knows read = subst (λ x. GivenSince opening session events addr its x) (sym (moves_still w past sound knows.0)) read
hand_asked w past (GivesReady addr its) opening session events sound knows read = subst (λ x. GivenSince opening session events addr its x) (sym (moves_still w past sound knows.0)) read
hand_asked w past FindsState opening session events sound knows read = tt
hand_asked w past FindsAddress opening session events sound knows read = tt
hand_asked w past (Reads addr) opening session events sound knows read = tt

-- any event but a read
abbrev pub IsQuiet : Keeping → MailEvent → Type 0
IsQuiet (Reads addr) (Serves given) = ⊥
IsQuiet keeping event = ⊤

either_hand : (c : Bool) (opening : World) (session : ℕ) (events : List Event) (notes : List MailNote) → InHandRead opening session events notes (if c then FindsAddress else FindsState)
either_hand true opening session events notes = tt
either_hand false opening session events notes = tt

served_read : (opening : World) (session : ℕ) (events : List Event) (b : Mailbox) (given : MailRecord) (keeping : Keeping) (notes : List MailNote) → IsQuiet keeping (Serves given) → IsRead opening session events keeping notes
    → IsRead opening session events (keeper_next b given keeping) (served_notes keeping notes)
served_read opening session events b given FindsState notes quiet read = record { in_hand = either_hand (b.state == mail_asked) opening session events notes; all = read.all }
served_read opening session events b given FindsAddress notes quiet read = record { in_hand = tt; all = read.all }
served_read opening session events b given (Reads addr) notes quiet read = absurd quiet
served_read opening session events b given (GivesHeader addr its) notes quiet read = record { in_hand = read.in_hand; all = read.all }
served_read opening session events b given (GivesKey addr its) notes quiet read = record { in_hand = read.in_hand; all = read.all }
served_read opening session events b given (GivesValue addr its) notes quiet read = record { in_hand = read.in_hand; all = read.all }
served_read opening session events b given (GivesReady addr its) notes quiet read = record { in_hand = tt; all = (read.in_hand, read.all) }

step_read : (opening : World) (session : ℕ) (events : List Event) (w : MailWorld) (past : MailPast) (event : MailEvent) → IsSound w past → IsQuiet w.keeping event → IsRead opening session events w.keeping past.notes
    → IsRead opening session events (mail_happens w event).keeping (past_after w event past).notes
unfolding mail_happens
step_read opening session events w past (Begins its) sound quiet read = by_end (is_at_end w.mailing)
  where
    by_end : (c : Bool) → IsRead opening session events (if c then record w { mailing = mailing.LoadsState its } else w).keeping (if c then record past { task = Some its } else past).notes
    by_end true = read
    by_end false = read
step_read opening session events w past (BeginsPut addr) sound quiet read = by_emptied (has_emptied w.mailing)
  where
    by_emptied : (c : Bool) → IsRead opening session events (if c then record w { mailing = mailing.StoresAddress addr } else w).keeping (if c then record past { task = Some (task.Put addr) } else past).notes
    by_emptied true = read
    by_emptied false = read
step_read opening session events w past Moves sound quiet read = record {
  in_hand = hand_asked w past w.keeping opening session events sound sound.kept.keeper read.in_hand;
  all = moved_all opening session events (mailbox_of w.words w.session) (mailbox_of (words_after w.words (mail_ask w.session w.mailing)) w.session) (asked_then w) past past.task read.all;
}
step_read opening session events w past (Serves given) sound quiet read = served_read opening session events (mailbox_of w.words w.session) given w.keeping past.notes quiet read
step_read opening session events w past (Changes place word) sound quiet read = by_place (is_mail_place w.session place)
  where
    by_place : (c : Bool) → IsRead opening session events (if c then w else record w { words = slice_set w.words place word }).keeping past.notes
    by_place true = read
    by_place false = read

-- over a run of the mailbox's world
module _ (opening : World) (session : ℕ) (events : List Event) (first : MailWorld) (sound : (before : List MailEvent) → IsSound (mail_run first before) (past_of first before)) where
  abbrev pub At : List MailEvent → Type 0
  At before = IsRead opening session events (mail_run first before).keeping (past_of first before).notes

  pub one_read : (event : MailEvent) (before : List MailEvent) → IsQuiet (mail_run first before).keeping event → At before → At (event ∷ before)
  unfolding mail_run past_of
  one_read event before quiet read = step_read opening session events (mail_run first before) (past_of first before) event (sound before) quiet read

-- these events are none of the keeper's
abbrev pub NoServes : List MailEvent → Type 0
NoServes [] = ⊤
NoServes (Serves given ∷ before) = ⊥
NoServes (event ∷ before) = NoServes before
