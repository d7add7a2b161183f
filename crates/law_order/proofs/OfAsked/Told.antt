-- What a step of a session tells of what is asked for in its mailbox.
use Rattle.std.proofs.Common.{◌≡◌, ◌⊎◌, inl, inr, ℕ, ◌∙◌, refl, sym, ap, subst, arith, Bool, true, false, List, [], ◌∷◌}
use Rattle.std.specs.Prelude.{◌==◌, ◌&&◌, not, if◌then◌else◌, Option, Some, None}
use Rattle.fkv_base.specs.declared.numbers.Addr.{Addr}
use Rattle.fkv_plane.specs.Asked.{reply_to}
use Rattle.law_commit.specs.Below.fkv_pending.MailAnswer.TheVariants.{Cleared, NotReady, Taken, Asked, Occupied}
use Rattle.law_commit.specs.Below.fkv_pending.MailTask.{MailTask}
use Rattle.law_commit.specs.Below.fkv_pending.MailTask.TheVariants.{Clear, Take, Put}
use Rattle.law_commit.specs.Below.fkv_pending.TheMailing.{Mailing}
use Rattle.law_commit.specs.Below.fkv_pending.TheMailing.TheVariants.{Ended, LoadsState, LoadsHeader, LoadsKey, LoadsValue, StoresEmpty, StoresAddress, StoresAsked}
use Rattle.law_commit.specs.Below.fkv_pending.Mailing.{mail_empty, mail_asked, mail_ready, mail_ask, mail_next, state_found}
use Rattle.law_commit.specs.Below.fkv_pending.MailWorld.{Mailbox, mailbox_of, MailWorld, Moves, is_at_end, mail_happens}
use Rattle.law_commit.specs.Below.fkv_pending.Mailbox.{MailNote, HasAskedFor, WasServed, HasTaken, HasLetGo, MailPast, past_moved, past_after, IsOver}
use Rattle.law_commit.proofs.Below.fkv_pending.Shown.{IsSound, Stands, KnowsMail, box_moved, moved_box, reply_in, replied_in}
use Rattle.law_order.specs.Asked.Asked.{outstanding}
use Rattle.law_order.proofs.OfAsked.Askers.{IsChange}

-- A machine that is under way is at this task: the one that it was begun with, as long as it makes its first step, and then the one that is told
-- to be under way.
abbrev pub IsAt : Option MailTask → MailTask → Mailing → Type 0
IsAt told task (Ended its) = ⊥
IsAt told task (LoadsState its) = its ≡ task
IsAt told task (StoresAddress addr) = Put addr ≡ task
IsAt told task step = told ≡ Some task

pub under_way : (told : Option MailTask) (task : MailTask) (step : Mailing) → IsAt told task step → is_at_end step ≡ false
under_way told task (Ended its) at = absurd at
under_way told task step at = refl

-- the record at an address is asked for by the answer to its put, where none was asked for
pub record AsksNow (asked : Option Addr) (told : Option MailTask) (asked' : Option Addr) : Type 0 where
  pub none : asked ≡ None
  pub addr : Addr
  pub task : told ≡ Some (Put addr)
  pub now : asked' ≡ Some addr

-- what is asked for then, by where the machine has come
abbrev pub Tells : Option Addr → Option MailTask → Mailing → Option Addr → Type 0
Tells asked told (Ended Asked) asked' = AsksNow asked told asked'
Tells asked told (Ended Cleared) asked' = (told ≡ Some Clear) × (asked' ≡ None)
Tells asked told (Ended (Taken its)) asked' = (told ≡ Some Take) × (asked' ≡ None)
Tells asked told next asked' = asked' ≡ asked

-- what is known of a step of the machine
pub record MailTold (asked : Option Addr) (told : Option MailTask) (step : Mailing) (reply : ℕ) (asked' : Option Addr) : Type 0 where
  pub task : (its : MailTask) → IsAt told its step → told ≡ Some its
  pub goes : (its : MailTask) → IsAt told its step → is_at_end (mail_next step reply) ≡ false → IsAt told its (mail_next step reply)
  pub tells : Tells asked told (mail_next step reply) asked'

-- and of one of a session, whose machine may be at rest
abbrev pub Told : Option Addr → Option MailTask → Option Mailing → ℕ → Option Addr → Type 0
Told asked told None reply asked' = asked' ≡ asked
Told asked told (Some step) reply asked' = MailTold asked told step reply asked'

tells_change : (asked : Option Addr) (told : Option MailTask) (next : Mailing) (asked' : Option Addr) → Tells asked told next asked' → IsChange asked asked'
tells_change asked told (Ended Asked) asked' tells = inr (inr tells.none)
tells_change asked told (Ended Cleared) asked' tells = inr (inl tells.1)
tells_change asked told (Ended (Taken its)) asked' tells = inr (inl tells.1)
tells_change asked told next asked' tells = inl tells

pub told_change : (asked : Option Addr) (told : Option MailTask) (found : Option Mailing) (reply : ℕ) (asked' : Option Addr) → Told asked told found reply asked' → IsChange asked asked'
told_change asked told None reply asked' its = inl its
told_change asked told (Some step) reply asked' its = tells_change asked told (mail_next step reply) asked' its.tells

-- ---- the mailbox's world tells so
known_task : (b : Mailbox) (told : Option MailTask) (step : Mailing) → KnowsMail b told step → (its : MailTask) → IsAt told its step → told ≡ Some its
known_task b told (Ended end) knows its at = absurd at
known_task b told (LoadsState task) knows its at = knows ∙ ap (λ (x : MailTask). Some x) at
known_task b told (StoresAddress addr) knows its at = knows.0 ∙ ap (λ (x : MailTask). Some x) at
known_task b told step knows its at = at

-- a step that isn't the last
abbrev GoesOn : Option MailTask → MailTask → Mailing → Type 0
GoesOn told its next = is_at_end next ≡ false → IsAt told its next

either_goes : (c : Bool) (told : Option MailTask) (its : MailTask) (one other : Mailing) → GoesOn told its one → GoesOn told its other → GoesOn told its (if c then one else other)
either_goes true told its one other a b = a
either_goes false told its one other a b = b

goes_at : (b : Mailbox) (told : Option MailTask) (step : Mailing) (reply : ℕ) → KnowsMail b told step → (its : MailTask) → IsAt told its step → GoesOn told its (mail_next step reply)
unfolding mail_next
goes_at b told (Ended end) reply knows its at = absurd at
goes_at b told (LoadsState Clear) reply knows its at = either_goes (reply == mail_ready) told its (StoresEmpty Cleared) (Ended NotReady) (λ way. known_task b told (LoadsState Clear) knows its at) (λ way. cc)
goes_at b told (LoadsState Take) reply knows its at = either_goes (reply == mail_ready) told its LoadsHeader (Ended NotReady) (λ way. known_task b told (LoadsState Take) knows its at) (λ way. cc)
goes_at b told (LoadsState (Put addr)) reply knows its at = either_goes (reply == mail_empty) told its (StoresAddress addr) (Ended Occupied) (λ way. at) (λ way. cc)
goes_at b told LoadsHeader reply knows its at = λ way. at
goes_at b told (LoadsKey header) reply knows its at = λ way. at
goes_at b told (LoadsValue header key) reply knows its at = λ way. at
goes_at b told (StoresEmpty end) reply knows its at = λ way. cc
goes_at b told (StoresAddress addr) reply knows its at = λ way. known_task b told (StoresAddress addr) knows its at
goes_at b told StoresAsked reply knows its at = λ way. cc

-- nothing is asked for while the mailbox is empty
over_none : (notes : List MailNote) → IsOver notes → outstanding notes ≡ None
unfolding outstanding
over_none [] over = refl
over_none (HasTaken its ∷ before) over = refl
over_none (HasLetGo ∷ before) over = refl
over_none (HasAskedFor addr ∷ before) over = absurd over
over_none (WasServed addr its ∷ before) over = absurd over

empty_none : (b : Mailbox) (notes : List MailNote) → b.state ≡ mail_empty → Stands b notes → outstanding notes ≡ None
empty_none b notes empty (inl stands) = over_none notes stands.1
empty_none b notes empty (inr (inl stands)) = absurd (omega (arith, empty, stands.0))
empty_none b notes empty (inr (inr stands)) = absurd (omega (arith, empty, stands.0))

truth : (c : Bool) → (c ≡ true) ⊎ (c ≡ false)
truth true = inl refl
truth false = inr refl

-- a state that stays hasn't come to be asked
stays_none : (state : ℕ) → (not (state == mail_asked) && state == mail_asked) ≡ false
stays_none state = tested (state == mail_asked)
  where
    tested : (c : Bool) → (not c && c) ≡ false
    tested true = refl
    tested false = refl

abbrev TellsThen : ℕ → Mailbox → Option MailTask → List MailNote → Mailing → Mailbox → ℕ → Type 0
TellsThen s b told notes step c reply = Tells (outstanding notes) told (mail_next step reply) (outstanding (past_moved b c (mail_ask s (mail_next step reply)) (record { task = told; notes = notes }) told).notes)

state_tells : (s : ℕ) (b : Mailbox) (task : MailTask) (notes : List MailNote)
    → Tells (outstanding notes) (Some task) (state_found task b.state) (outstanding (past_moved b b (mail_ask s (state_found task b.state)) (record { task = Some task; notes = notes }) (Some task)).notes)
unfolding mail_ask
state_tells s b Clear notes = rw (stays_none b.state) (elim (truth (b.state == mail_ready)) [ inl e ↦ rw e refl | inr e ↦ rw e refl ])
state_tells s b Take notes = rw (stays_none b.state) (elim (truth (b.state == mail_ready)) [ inl e ↦ rw e refl | inr e ↦ rw e refl ])
state_tells s b (Put addr) notes = rw (stays_none b.state) (elim (truth (b.state == mail_empty)) [ inl e ↦ rw e refl | inr e ↦ rw e refl ])

step_tells : (s : ℕ) (b : Mailbox) (told : Option MailTask) (notes : List MailNote) (step : Mailing) → is_at_end step ≡ false → KnowsMail b told step → Stands b notes → TellsThen s b told notes step (box_moved b step) (reply_in b step)
unfolding mail_ask mail_next outstanding
step_tells s b told notes (Ended its) way knows stands = cc
step_tells s b told notes (LoadsState task) way knows stands =
    subst (λ (x : Option MailTask). Tells (outstanding notes) x (state_found task b.state) (outstanding (past_moved b b (mail_ask s (state_found task b.state)) (record { task = x; notes = notes }) x).notes)) (sym knows) (state_tells s b task notes)
step_tells s b told notes LoadsHeader way knows stands = rw (knows.0, stays_none b.state) refl
step_tells s b told notes (LoadsKey header) way knows stands = rw (knows.0, stays_none b.state) refl
step_tells s b told notes (LoadsValue header key) way knows stands = rw (knows.0, stays_none b.state) refl
step_tells s b told notes (StoresEmpty Cleared) way knows stands = rw (knows.0) (refl, refl)
step_tells s b told notes (StoresEmpty (Taken its)) way knows stands = rw (knows.0.0) (refl, refl)
step_tells s b told notes (StoresEmpty NotReady) way knows stands = absurd knows.0
step_tells s b told notes (StoresEmpty Asked) way knows stands = absurd knows.0
step_tells s b told notes (StoresEmpty Occupied) way knows stands = absurd knows.0
step_tells s b told notes (StoresAddress addr) way knows stands = rw (knows.0, stays_none b.state) refl
step_tells s b told notes StoresAsked way knows stands =
    let none : outstanding notes ≡ None = empty_none b notes knows.1 stands in
    rw (knows.0, knows.1) (record { none = none; addr = record { 0 = b.addr }; task = refl; now = refl })

-- its session's step
pub moves_told : (w : MailWorld) (past : MailPast) → IsSound w past → is_at_end w.mailing ≡ false
    → MailTold (outstanding past.notes) past.task w.mailing (reply_to w.words (mail_ask w.session w.mailing)) (outstanding (past_after w Moves past).notes)
unfolding mail_happens
moves_told w past sound way =
    let b : Mailbox = mailbox_of w.words w.session in
    let reply : ℕ = reply_to w.words (mail_ask w.session w.mailing) in
    record {
      task = known_task b past.task w.mailing sound.kept.session;
      goes = goes_at b past.task w.mailing reply sound.kept.session;
      tells =
          subst (λ (c : Mailbox). TellsThen w.session b past.task past.notes w.mailing c reply) (sym (moved_box w.words w.session sound.enough_words w.mailing))
          (subst (λ (x : ℕ). TellsThen w.session b past.task past.notes w.mailing (box_moved b w.mailing) x) (sym (replied_in w.words w.session w.mailing))
          (step_tells w.session b past.task past.notes w.mailing way sound.kept.session sound.kept.stands));
    }
