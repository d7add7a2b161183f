-- The mailbox's world shows every life.
use Rattle.std.proofs.Common.{◌≡◌, ℕ, ◌<◌, ◌∙◌, refl, sym, subst, List, [], ◌∷◌, Bool, true, false}
use Rattle.std.specs.Prelude.{if◌then◌else◌, slice_get}
use Rattle.fkv_base.specs.declared.faults.Fault.TheVariants as fault
use Rattle.fkv_base.specs.declared.commits.CommitKind.{CommitKind}
use Rattle.law_world.specs.Below.fkv_commit.Starting.{start_begun}
use Rattle.law_world.specs.Below.fkv_flush.TheServing.{Serving}
use Rattle.law_world.specs.Below.fkv_flush.TheServing.TheVariants as serve
use Rattle.law_world.specs.Below.fkv_keeper.KeeperTold.TheVariants.{TurnRefused, CommitRefused}
use Rattle.law_world.specs.Below.fkv_keeper.TheKeeping.{Keeping}
use Rattle.law_world.specs.Below.fkv_keeper.TheKeeping.TheVariants.{Ended, Starts, Maintains}
use Rattle.law_world.specs.Below.fkv_keeper.KeeperRun.{is_in_hand}
use Rattle.law_world.specs.Below.fkv_keeper.Keeping.{KeeperState, ended, commit_asked, parts_begun, serves_alone, turn_asked, asked_for}
use Rattle.law_world.specs.Below.fkv_pending.MailAnswer.TheVariants.{NotReady}
use Rattle.law_world.specs.Below.fkv_pending.TheMailing.TheVariants as mailing
use Rattle.law_world.specs.Below.fkv_pending.MailWorld.{mailbox_of, FindsState, MailWorld, mail_run}
use Rattle.law_world.specs.Below.fkv_pending.Mailbox.{MailPast, past_of}
use Rattle.law_world.proofs.Below.fkv_pending.Shown.{IsSound, moment_sound}
use Rattle.law_world.specs.Below.fkv_world.Runs.{World, read_by_keeper, happens, run}
use Rattle.law_world.specs.Below.fkv_world.World.{Event, Calls, Moves, Commits, Turns, KeeperMoves, Crashes, Now, life_goes}
use Rattle.law_world.proofs.Below.fkv_world.Shown.{is_over, lives}
use Rattle.law_refine.specs.Mail.MailEvents.{called_events, moved_events, life_events, mail_events, mapped}
use Rattle.law_refine.specs.Mail.Servers.{maintain_serving, serving_of, keeper_serving, KeepsUp}
use Rattle.law_refine.specs.Mail.Shows.{IsPermitted, IsOpened, Shows, mail_opening, seen_by_mailbox}
use Rattle.law_refine.proofs.OfMail.Permitted.{is_permitted, broken_rests, its_seat}
use Rattle.law_refine.proofs.OfMail.KeeperKeeps.{FindsAsked}
use Rattle.law_refine.proofs.OfMail.KeeperServes.{IsIdle}
use Rattle.law_refine.proofs.OfMail.MailSteps.{runs_on}
use Rattle.law_refine.proofs.OfMail.SessionSits.{idle_sits, sits_far}
use Rattle.law_refine.proofs.OfMail.Worlds.{Holds, called_holds, moved_holds, keeper_holds, asked_holds}

-- no last part of a turn is under way where something is asked of the keeper
idle_serving : (s : KeeperState) → is_in_hand s.step ≡ false → serving_of s ≡ serve.AtRest
idle_serving s idle = by_step s.step idle
  where
    by_step : (step : Keeping) → is_in_hand step ≡ false → keeper_serving s step ≡ serve.AtRest
    by_step (Ended its) e = refl
    by_step step e = cc

-- and what is asked for has found nothing yet
either_idle : (c : Bool) (a b : KeeperState) → IsIdle (serving_of a) → IsIdle (serving_of b) → IsIdle (serving_of (if c then a else b))
either_idle true a b one other = one
either_idle false a b one other = other

either_broken : (c before : Bool) (a b : KeeperState) → a.is_broken ≡ before → b.is_broken ≡ before → (if c then a else b).is_broken ≡ before
either_broken true before a b one other = one
either_broken false before a b one other = other

commit_idle : (s : KeeperState) (kind : CommitKind) → IsIdle (serving_of (commit_asked s kind))
commit_idle s kind = either_idle s.is_broken (ended s (CommitRefused fault.Broken)) (if s.rests then ended s (CommitRefused fault.CommitRunning) else record s { start = start_begun s.start (asked_for s kind); step = Starts }) tt (either_idle s.rests (ended s (CommitRefused fault.CommitRunning)) (record s { start = start_begun s.start (asked_for s kind); step = Starts }) tt tt)

commit_broken : (s : KeeperState) (kind : CommitKind) → (commit_asked s kind).is_broken ≡ s.is_broken
commit_broken s kind =
    either_broken s.is_broken s.is_broken (ended s (CommitRefused fault.Broken)) (if s.rests then ended s (CommitRefused fault.CommitRunning) else record s { start = start_begun s.start (asked_for s kind); step = Starts }) refl
    (either_broken s.rests s.is_broken (ended s (CommitRefused fault.CommitRunning)) (record s { start = start_begun s.start (asked_for s kind); step = Starts }) refl refl)

turn_idle : (s : KeeperState) → IsIdle (serving_of (turn_asked s))
turn_idle s = either_idle s.is_broken (ended s (TurnRefused fault.Broken)) (record s { maintain = parts_begun (serves_alone s) s.maintain; is_drain_full = false; step = Maintains }) tt (parts_idle (serves_alone s))
  where
    parts_idle : (rests : Bool) → IsIdle (maintain_serving (parts_begun rests s.maintain) (parts_begun rests s.maintain).step)
    parts_idle true = tt
    parts_idle false = tt

turn_broken : (s : KeeperState) → (turn_asked s).is_broken ≡ s.is_broken
turn_broken s = either_broken s.is_broken s.is_broken (ended s (TurnRefused fault.Broken)) (record s { maintain = parts_begun (serves_alone s) s.maintain; is_drain_full = false; step = Maintains }) refl refl

-- each event
goes_holds : (v : World) (session : ℕ) (w : MailWorld) (past : MailPast) (event : Event) → v.now.crashed ≡ false → session < v.now.places.sessions → IsPermitted v.now session event → (v.now.keeper.is_broken ≡ true → is_in_hand v.now.keeper.step ≡ false)
    → Holds v.now session w → IsSound w past → Holds (happens v event).now session (mail_run w (life_events v.now (read_by_keeper v) session event))
unfolding life_goes life_events mail_run
goes_holds v session w past (Calls number call) alive seated permitted rests holds sound =
    subst (λ (n : Now). Holds n session (mail_run w (called_events v.now session number call (slice_get v.now.sessions number)))) (sym (lives v (Calls number call) alive)) (called_holds v.now session number w call (slice_get v.now.sessions number) refl holds)
goes_holds v session w past (Moves number) alive seated permitted rests holds sound =
    subst (λ (n : Now). Holds n session (mail_run w (moved_events v.now session number (slice_get v.now.sessions number)))) (sym (lives v (Moves number) alive)) (moved_holds v session number w past (slice_get v.now.sessions number) alive refl seated permitted holds sound)
goes_holds v session w past (KeeperMoves granted done) alive seated permitted rests holds sound = keeper_holds v session w past granted done alive rests holds sound seated permitted
goes_holds v session w past (Commits kind) alive seated permitted rests holds sound =
    subst (λ (n : Now). Holds n session w) (sym (lives v (Commits kind) alive))
    (asked_holds v.now session w (commit_asked v.now.keeper kind) holds (commit_idle v.now.keeper kind) (λ works. sym (commit_broken v.now.keeper kind) ∙ works) (λ idle. idle_serving v.now.keeper idle))
goes_holds v session w past Turns alive seated permitted rests holds sound =
    subst (λ (n : Now). Holds n session w) (sym (lives v Turns alive))
    (asked_holds v.now session w (turn_asked v.now.keeper) holds (turn_idle v.now.keeper) (λ works. sym (turn_broken v.now.keeper) ∙ works) (λ idle. idle_serving v.now.keeper idle))
goes_holds v session w past Crashes alive seated permitted rests holds sound =
    subst (λ (n : Now). Holds n session w) (sym (lives v Crashes alive)) (record { session_same = holds.session_same; words = holds.words; sits = holds.sits; serves = holds.serves; finds = holds.finds })

happened : (v : World) (session : ℕ) (w : MailWorld) (past : MailPast) (event : Event) → session < v.now.places.sessions → IsPermitted v.now session event → (v.now.keeper.is_broken ≡ true → is_in_hand v.now.keeper.step ≡ false)
    → Holds v.now session w → IsSound w past → Holds (happens v event).now session (mail_run w (mail_events v.now (read_by_keeper v) session event))
unfolding mail_run
happened v session w past event seated permitted rests holds sound = by_crash v.now.crashed refl
  where
    by_crash : (c : Bool) → v.now.crashed ≡ c → Holds (happens v event).now session (mail_run w (if c then [] else life_events v.now (read_by_keeper v) session event))
    by_crash true e = subst (λ (x : World). Holds x.now session w) (sym (is_over v event e)) holds
    by_crash false e = goes_holds v session w past event e seated permitted rests holds sound

opening_holds : (opening : World) (session : ℕ) → IsOpened opening.now session → Holds opening.now session (mail_opening opening session)
opening_holds opening session opened = record {
  session_same = refl;
  words = refl;
  sits = λ s at. idle_sits s s.step (mailing.Ended NotReady) (opened.sessions session s at).none_in_hand refl;
  serves = λ works. subst (λ (x : Serving). KeepsUp session x FindsState) (sym (idle_serving opening.now.keeper opened.keeper.none_in_hand)) refl;
  finds = λ works. subst (λ (x : Serving). FindsAsked session x (mailbox_of opening.now.words session)) (sym (idle_serving opening.now.keeper opened.keeper.none_in_hand)) tt;
}

-- the mailbox's world is sound
pub life_sound : (opening : World) (session : ℕ) (events : List Event) → IsOpened opening.now session → IsSound (seen_by_mailbox opening session events) (past_of (mail_opening opening session) (mapped opening session events))
life_sound opening session events opened = moment_sound session opening.now.words (mapped opening session events) opened.mail

pub life_holds : (opening : World) (session : ℕ) (events : List Event) → IsOpened opening.now session → Holds (run opening events).now session (seen_by_mailbox opening session events)
unfolding run mapped mail_run
life_holds opening session [] opened = opening_holds opening session opened
life_holds opening session (event ∷ before) opened =
    let v : World = run opening before in
    subst (λ (x : MailWorld). Holds (happens v event).now session x) (sym (runs_on (mail_opening opening session) (mail_events v.now (read_by_keeper v) session event) (mapped opening session before)))
    (happened v session (seen_by_mailbox opening session before) (past_of (mail_opening opening session) (mapped opening session before)) event (its_seat opening session before opened) (is_permitted opening session before event opened) (λ broken. broken_rests opening before opened.keeper broken)
    (life_holds opening session before opened) (life_sound opening session before opened))

pub life_shows : (opening : World) (session : ℕ) (events : List Event) → IsOpened opening.now session → Shows (run opening events).now session (seen_by_mailbox opening session events)
life_shows opening session events opened =
    let holds = life_holds opening session events opened in
    record { session_same = holds.session_same; words = holds.words; mailing = λ s at. sits_far s _ (holds.sits s at); keeping = λ works. holds.serves works }
