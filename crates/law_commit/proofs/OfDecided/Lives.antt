-- Below what each session that is awake has seen as tail all is decided: below a commit's first address from in-progress on, and below its end as it is written.
use Rattle.std.proofs.Common.{◌≡◌, ◌⊎◌, ℕ, ◌<◌, ◌≤◌, ◌∙◌, inl, inr, List, [], ◌∷◌, ◌++◌, refl, ap, sym, subst, arith, true}
use Rattle.std.specs.Prelude.{Some, slice_get}
use Rattle.fkv_base.specs.declared.numbers.Addr.{Addr}
use Rattle.fkv_base.specs.declared.numbers.Version.{Version}
use Rattle.fkv_base.specs.declared.commits.CommitKind.TheVariants.{Full}
use Rattle.fkv_base.specs.declared.phases.Phase.TheVariants as phases
use Rattle.fkv_words.specs.PhaseWords.{phase_said}
use Rattle.fkv_words.specs.declared.phase_words.PhaseSaid.{PhaseSaid}
use Rattle.fkv_words.specs.declared.phase_words.PhaseSaid.TheVariants.{Says}
use Rattle.law_refine.specs.Below.fkv_commit.Commit.{Commit}
use Rattle.law_refine.specs.Below.fkv_keeper.CheckpointLaws.{IsCopyPhase}
use Rattle.law_refine.specs.Below.fkv_keeper.Keeping.{come_to}
use Rattle.fkv_map.specs.declared.history.HistoryEntry.{HistoryEntry}
use Rattle.law_refine.specs.Below.fkv_session.Sitting.{Sitting}
use Rattle.law_refine.specs.Below.fkv_session.Sitting.TheVariants.{Attempts, Polls}
use Rattle.law_refine.specs.Below.fkv_session.Sessions.{SessionState}
use Rattle.law_refine.specs.Below.fkv_world.Opened.{HasBecome}
use Rattle.law_refine.specs.Below.fkv_world.Runs.{World, run}
use Rattle.law_refine.specs.Below.fkv_world.World.{Event}
use Rattle.law_log.specs.Chains.{Cell, Logged, Unborn, Reserved, Published, Dropped}
use Rattle.law_log.specs.Ghosts.{Ghosts}
use Rattle.law_refine.specs.Below.law_world.Guarded.Shows as guard
use Rattle.law_refine.specs.Events.GhostEvents.{life_ghosts}
use Rattle.law_refine.specs.Events.Reserved.{IsOfSession, tail_at}
use Rattle.law_refine.proofs.OfEvents.Fixed.{life_rises}
use Rattle.law_refine.proofs.OfEvents.ReservedLife.{life_sessions}
use Rattle.law_refine.proofs.OfSeen.There.{was_there}
use Rattle.law_commit.specs.Copied.Covers.{before_copy}
use Rattle.law_commit.specs.Decided.Cells.{DecidedBelow, IsSettled, IsTaken, SettledFrom}
use Rattle.law_commit.specs.Decided.Laws.{EndIsSafe, HaveSeenTail, IsFromProgress, OpensDecided}
use Rattle.law_commit.specs.Floor.Stands.{FloorAlwaysStands, FloorStands, IsWritten, OpensSeen, stage_number}
use Rattle.law_commit.specs.PhaseStores.{phase_at}
use Rattle.law_commit.specs.Phases.Projected.{SitsAwake}
use Rattle.law_commit.specs.Phases.Staged.{DefersPending, DefersProgress, Flushes, Pends, Prepares, Progresses, Rests, Stage, stage_phase}
use Rattle.law_commit.specs.Views.{Sight, sight_found, sight_of}
use Rattle.law_commit.proofs.OfCopied.BegunFor.{life_begun_for}
use Rattle.law_commit.proofs.OfDecided.Attempting.{IsAttempt}
use Rattle.law_commit.proofs.OfDecided.Taken.{life_taken}
use Rattle.law_commit.proofs.OfDecided.Undecided.{making_above, sitting_by, was_making}
use Rattle.law_commit.proofs.OfPhases.Awake.{life_so}

-- ---- views
attempt_awake : (s : SessionState) (step : Sitting) → IsAttempt step → SitsAwake s step → s.is_awake ≡ true
attempt_awake s (Attempts has_shifted) attempts sits = sits
attempt_awake s (Polls index) attempts sits = sits
attempt_awake s step attempts sits = absurd attempts

pub above_its_view : (opening : World) (start : ℕ) (ghosts : Ghosts) (events : List Event) (first its : SessionState) (a : ℕ) (entry : HistoryEntry) (cell : Cell) → OpensDecided opening start ghosts → HasBecome opening events entry.session first its
    → (life_ghosts opening ghosts events).log.cells a ≡ Reserved entry cell → (sight_of opening events entry.session).view.tail ≤ a
above_its_view opening start ghosts events first its a entry cell opens became e =
    subst (λ (x : Sight). x.view.tail ≤ a) (sym (ap (sight_found opening events entry.session) became.was)) (making_above opening start ghosts events first a entry cell opens.guarded opens.unborn opens.decided became.was e)

-- who makes a record is awake
record Maker (opening : World) (events : List Event) (session : ℕ) : Type 0 where
  first : SessionState
  its : SessionState
  became : HasBecome opening events session first its
  awake : its.is_awake ≡ true

maker : (opening : World) (start : ℕ) (ghosts : Ghosts) (events : List Event) (a : ℕ) (entry : HistoryEntry) (cell : Cell) → OpensDecided opening start ghosts → (life_ghosts opening ghosts events).log.cells a ≡ Reserved entry cell → Maker opening events entry.session
maker opening start ghosts events a entry cell opens e =
    let of_it : IsOfSession (run opening events).now a entry cell = life_sessions opening start ghosts events opens.guarded opens.unborn opens.decided a entry cell e in
    let s : SessionState = of_it.has.state in
    let by = sitting_by of_it.number s s.step of_it.its of_it.has.reserved in
    let number : of_it.number ≡ entry.session = sym by.session ∙ ap (λ (x : HistoryEntry). x.session) of_it.its_entry in
    let there = subst (λ (i : ℕ). slice_get (run opening events).now.sessions i ≡ Some s) number of_it.has.found in
    let was = was_there opening events entry.session s there in
    let became : HasBecome opening events entry.session was.first s = record { opened = opens.opened; was = was.was; is_now = there } in
    record { first = was.first; its = s; became = became; awake = attempt_awake s s.step by.attempts (life_so opening events entry.session was.first s became) }

not_below : (bound tail a : ℕ) → bound ≤ tail → tail ≤ a → a < bound → ⊥
not_below bound tail a one other low = omega (arith, one, other, low)

pub below_views : (opening : World) (start : ℕ) (ghosts : Ghosts) (events : List Event) (bound : ℕ) → OpensDecided opening start ghosts → HaveSeenTail opening events bound → DecidedBelow bound (life_ghosts opening ghosts events).log
below_views opening start ghosts events bound opens seen a entry cell low e =
    let m = maker opening start ghosts events a entry cell opens e in
    not_below bound (sight_of opening events entry.session).view.tail a (seen entry.session m.first m.its m.became m.awake) (above_its_view opening start ghosts events m.first m.its a entry cell opens m.became e) low

-- ---- it stays so
tail_rises : (opening : World) (start : ℕ) (before : List Event) (event : Event) → guard.IsOpened opening.now start → tail_at (run opening before).now ≤ tail_at (run opening (event ∷ before)).now
unfolding run
tail_rises opening start before event opened = (life_rises opening start before (event ∷ []) opened).tail

higher : (low tail more : ℕ) → low ≤ tail → tail ≤ more → low ≤ more
higher low tail more one other = omega (arith, one, other)

pub tails_rise : (opening : World) (start : ℕ) (later before : List Event) → guard.IsOpened opening.now start → tail_at (run opening before).now ≤ tail_at (run opening (later ++ before)).now
tails_rise opening start [] before opened = omega arith
tails_rise opening start (event ∷ later) before opened = higher (tail_at (run opening before).now) (tail_at (run opening (later ++ before)).now) _ (tails_rise opening start later before opened) (tail_rises opening start (later ++ before) event opened)

pub stays_decided : (opening : World) (start : ℕ) (ghosts : Ghosts) (later before : List Event) (bound : ℕ) → guard.IsOpened opening.now start → bound ≤ tail_at (run opening before).now
    → DecidedBelow bound (life_ghosts opening ghosts before).log → DecidedBelow bound (life_ghosts opening ghosts (later ++ before)).log
stays_decided opening start ghosts [] before bound opened high decided a entry cell low e = decided a entry cell low e
stays_decided opening start ghosts (event ∷ later) before bound opened high decided a entry cell low e =
    stays_decided opening start ghosts later before bound opened high decided a entry cell low
    (was_making opening start ghosts (later ++ before) event bound a entry cell opened (higher bound (tail_at (run opening before).now) (tail_at (run opening (later ++ before)).now) high (tails_rise opening start later before opened)) low e)

-- ---- what is decided and taken is settled
settled_so : (logged : Logged) → IsTaken logged → ((entry : HistoryEntry) (cell : Cell) → logged ≡ Reserved entry cell → ⊥) → IsSettled logged
settled_so Unborn taken decided = absurd (taken refl)
settled_so (Reserved entry cell) taken decided = absurd (decided entry cell refl)
settled_so (Published cell) taken decided = tt
settled_so (Dropped cell) taken decided = tt

pub settles : (opening : World) (start : ℕ) (ghosts : Ghosts) (events : List Event) (bound : ℕ) → guard.IsOpened opening.now start → bound ≤ tail_at (run opening events).now → DecidedBelow bound (life_ghosts opening ghosts events).log
    → SettledFrom (tail_at opening.now) bound (life_ghosts opening ghosts events).log
settles opening start ghosts events bound opened high decided a from low =
    settled_so ((life_ghosts opening ghosts events).log.cells a) (life_taken opening start ghosts events opened a from (omega (arith, high, low))) (λ entry cell e. decided a entry cell low e)

-- ---- the commit in hand
pub from_stage : (stage : Stage) (version : Version) → IsFromProgress (Says (stage_phase stage) version) → 2 ≤ stage_number stage
from_stage Rests version from = absurd from
from_stage Prepares version from = absurd from
from_stage DefersProgress version from = absurd from
from_stage Progresses version from = omega arith
from_stage DefersPending version from = omega arith
from_stage Pends version from = omega arith
from_stage Flushes version from = omega arith

-- if the floor stands
module _ (floor : FloorAlwaysStands) (opening : World) (start : ℕ) (ghosts : Ghosts) (events : List Event) (c : Commit) (opens : OpensDecided opening start ghosts) (seen : OpensSeen opening.now)
    (in_hand : (run opening events).now.keeper.commit ≡ Some c) where
  stands : FloorStands opening events
  stands = floor opening start events opens.guarded opens.opened seen

  pub below_first : IsFromProgress (phase_said (phase_at (run opening events).now)) → DecidedBelow c.first.0 (life_ghosts opening ghosts events).log
  below_first from =
      let high = from_stage stands.stage _ (subst IsFromProgress stands.staged.word from) in
      below_views opening start ghosts events c.first.0 opens (λ session first its became awake. (stands.commit session first its c became awake in_hand).first high)

  pub below_end : EndIsSafe (run opening events).now c ⊎ IsWritten (come_to (run opening events).now.keeper) → DecidedBelow c.end.0 (life_ghosts opening ghosts events).log
  below_end (inl safe) = below_views opening start ghosts events c.end.0 opens (λ session first its became awake. ((stands.commit session first its c became awake in_hand).ending safe.0 safe.1).tail)
  below_end (inr written) = below_views opening start ghosts events c.end.0 opens (λ session first its became awake. ((stands.commit session first its c became awake in_hand).written written).tail)

pub copy_from : (said : PhaseSaid) → IsCopyPhase said → IsFromProgress said
copy_from (Says phases.InProgress version) its = tt
copy_from (Says phases.WaitPending version) its = tt
copy_from (Says phases.WaitFlush version) its = tt
copy_from said its = absurd its

pub before_copies : FloorAlwaysStands → (opening : World) (start : ℕ) (ghosts : Ghosts) (events : List Event) (c : Commit) → OpensDecided opening start ghosts → OpensSeen opening.now → (run opening events).now.keeper.commit ≡ Some c → c.kind ≡ Full
    → c.is_copied ≡ true → DecidedBelow c.first.0 (life_ghosts opening ghosts (before_copy opening events)).log
before_copies floor opening start ghosts events c opens seen in_hand full copied =
    let moment : List Event = before_copy opening events in
    let may = life_begun_for opening events opens.guarded.keeper c in_hand full copied in
    let decided = below_first floor opening start ghosts moment may.commit opens seen may.in_hand (copy_from (phase_said (phase_at (run opening moment).now)) may.phase) in
    λ a entry cell low e. decided a entry cell (subst (λ (f : Addr). a < f.0) (sym may.first) low) e
