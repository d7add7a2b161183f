-- What each step of the keeper leads to.
use Rattle.std.proofs.Common.{◌≡◌, ℕ, List, [], ◌∷◌, Bool, true, false, refl, sym, subst, ◌∙◌, ap}
use Rattle.std.specs.Prelude.{if◌then◌else◌, Option, Some, None, ◌||◌, ◌&&◌}
use Rattle.fkv_base.specs.declared.faults.Fault.TheVariants as fault
use Rattle.fkv_base.specs.declared.numbers.Addr.{Addr}
use Rattle.fkv_base.specs.declared.phases.Phase.TheVariants as phase
use Rattle.fkv_base.specs.declared.shapes.Shape.{Shape}
use Rattle.fkv_words.specs.declared.phase_words.PhaseSaid.{PhaseSaid}
use Rattle.fkv_words.specs.declared.phase_words.PhaseSaid.TheVariants.{Says}
use Rattle.fkv_disk.specs.Calls.{Call}
use Rattle.fkv_plane.specs.declared.asks.Ask.{Ask}
use Rattle.fkv_plane.specs.declared.asks.Ask.TheVariants.{Done}
use Rattle.fkv_plane.specs.declared.places.Places.{Places}
use Rattle.fkv_checkpoint.specs.Copying.{Copier, copy_after, copy_begun}
use Rattle.fkv_checkpoint.specs.Copied.{copying_after, copied_after}
use Rattle.fkv_commit.specs.declared.commits.Commit.{Commit}
use Rattle.fkv_commit.specs.declared.entering.EnterAnswer.{EnterAnswer}
use Rattle.fkv_commit.specs.declared.entering.EnterAnswer.TheVariants as enter
use Rattle.fkv_commit.specs.declared.seeking.SeekAnswer.{SeekAnswer}
use Rattle.fkv_commit.specs.declared.seeking.SeekAnswer.TheVariants as seek
use Rattle.fkv_commit.specs.declared.starting.StartAnswer.{StartAnswer}
use Rattle.fkv_commit.specs.declared.starting.StartAnswer.TheVariants as start
use Rattle.fkv_commit.specs.Entering.{EnterState, enter_begun}
use Rattle.fkv_commit.specs.Seeking.{SeekState, seek_begun}
use Rattle.fkv_commit.specs.Starting.{StartState}
use Rattle.fkv_keeper.specs.declared.answers.KeeperTold.{KeeperTold}
use Rattle.fkv_keeper.specs.declared.answers.KeeperTold.TheVariants.{Turned, TurnRefused, Begun, CommitRefused}
use Rattle.fkv_sweep.specs.declared.sweeping.SweepAnswer.{SweepAnswer}
use Rattle.fkv_sweep.specs.declared.sweeping.SweepAnswer.TheVariants as swept
use Rattle.fkv_sweep.specs.Sweeping.{Sweeper, is_sweeping}
use Rattle.fkv_keeper.specs.declared.keepers.Keeping.{Keeping}
use Rattle.fkv_keeper.specs.declared.keepers.Keeping.TheVariants.{Ended, Starts, Maintains, LoadsPhase, Enters, Copies, Seeks, Waits, Sweeps}
use Rattle.fkv_keeper.specs.Keeping.{Finality, KeeperState, copied, copy_driven, points_known, ended, turned, unless_flush_rests, start_ledto, maintain_ledto, copies, part_begun, writes_taken_up, phase_ledto, enter_ledto, copy_ledto, seek_ledto, sweep_ledto, sweeps_next, is_copy_resting}
use Rattle.fkv_keeper.specs.KeeperRun.{Writing}
use Rattle.fkv_maintain.specs.declared.maintaining.MaintainAnswer.{MaintainAnswer}
use Rattle.fkv_maintain.specs.declared.maintaining.MaintainAnswer.TheVariants as maintain
use Rattle.fkv_maintain.specs.Maintaining.{MaintainState, is_sync_due, maintain_ask}
use Rattle.law_world.specs.Standing.Opening.{IsNumberInTurn}
use Rattle.law_world.specs.Standing.Standing.{Standing}
use Rattle.law_world.proofs.OfStanding.Flushed.{IsCalm}
use Rattle.law_world.proofs.OfStanding.Moments.{IsAwake, IsPlain, IsBetween, CopyKnown, CommitKnown, RestKnows, MaintainKnows, GoesTo, IsAt, goes_plain, goes_between, goes_maintains, goes_broken, awake_calm, rest_left, rest_named}
use Rattle.law_world.proofs.OfStanding.Turned.{rests_at_end}

module _ (shape : Shape) (p : Places) (opened : List ℕ) where
  -- a commit that is known keeps its number
  copied_known : (last : Finality) (rests : Bool) (found : Option Commit) → CommitKnown shape p opened last found → CommitKnown shape p opened last (copied rests found)
  copied_known last rests None known = tt
  copied_known last rests (Some c) known = record { next = known.next; fits = known.fits }

  points_still_known : (last : Finality) (found : Option Commit) (end : Addr) (epoch : ℕ) → CommitKnown shape p opened last found → CommitKnown shape p opened last (points_known found end epoch)
  points_still_known last None end epoch known = tt
  points_still_known last (Some c) end epoch known = record { next = known.next; fits = known.fits }

  module _ (s : KeeperState) (was : Bool) (its : Standing) (w : Writing) (calls : List Call) (step : Keeping) (now : IsAt shape p opened s was step) where
    abbrev Goes : KeeperState → Type 0
    Goes after = GoesTo shape p opened was its w calls after

    -- what every turn does
    pub maintain_on : (m : MaintainState) (ask : Ask MaintainAnswer) → step ≡ Maintains → MaintainKnows shape p opened s.last its calls m.step m.flushing → maintain_ask shape p m ≡ ask → Goes (maintain_ledto (record s { maintain = m }) ask)
    unfolding maintain_ledto
    maintain_on m (Done maintain.Through) e is asks =
        goes_between shape p opened s _ was its w calls step LoadsPhase now (rests_at_end shape p opened s.last its calls m (Done maintain.Through) is asks (λ on. on)) tt refl now.works refl now.commit now.copy
    maintain_on m (Done maintain.Spent) e is asks =
        goes_between shape p opened s _ was its w calls step (Ended (TurnRefused fault.EpochsSpent)) now (rests_at_end shape p opened s.last its calls m (Done maintain.Spent) is asks (λ on. on)) tt refl now.works refl now.commit now.copy
    maintain_on m (Done maintain.Broken) e is asks =
        goes_broken shape p opened _ was its w calls (TurnRefused fault.Device) now.unwritten refl tt refl now.commit now.copy
        (rest_named shape p opened s.last its calls m.flushing (rests_at_end shape p opened s.last its calls m (Done maintain.Broken) is asks (λ on. on)))
        (λ image left. rest_left shape p opened s.last its calls m.flushing image (rests_at_end shape p opened s.last its calls m (Done maintain.Broken) is asks (λ on. on)) left)
    maintain_on m ask e is asks = goes_maintains shape p opened s (record s { maintain = m }) was its w calls now.unwritten (now.at ∙ e) now.works now.commit now.copy is

    either_on : (t : Bool) (a b : KeeperState) → Goes a → Goes b → Goes (if t then a else b)
    either_on true a b one other = one
    either_on false a b one other = other

    module _ (calm : IsCalm shape opened s.last its calls) where
      on : (after : KeeperState) (to : Keeping) → IsPlain to → after.step ≡ to → IsAwake shape p opened after → after.last ≡ s.last → CommitKnown shape p opened s.last after.commit → CopyKnown shape p opened after.copy → Goes after
      on after to plain e works same commit copy = goes_plain shape p opened s after was its w calls step to now calm plain e works same commit copy

      ends : (told : KeeperTold) → Goes (ended s told)
      ends told = on (ended s told) (Ended told) tt refl now.works refl now.commit now.copy

      -- what the phase calls for
      taken_known : (rests : Bool) → CopyKnown shape p opened (if rests then s.copy else Some (copy_begun p))
      unfolding copying_after copied_after
      taken_known true = now.copy
      taken_known false = record { replies = []; is = refl }

      copies_on : (granted : Bool) → Goes (copies p s granted)
      copies_on granted =
          either_on (granted || is_copy_resting s.copy) _ _ (on _ Copies tt refl now.works refl now.commit (taken_known (is_copy_resting s.copy))) (on _ (Ended (TurnRefused fault.Memory)) tt refl now.works refl now.commit now.copy)

      part_on : (c : Commit) (said : PhaseSaid) (granted : Bool) → Goes (part_begun p s c said granted)
      part_on c (Says phase.InProgress version) granted =
          either_on s.has_entered _ _ (either_on c.is_copied _ _ (ends (Turned false s.is_drain_full)) (copies_on granted)) (on (record s { enter = enter_begun s.enter c.number; step = Enters }) Enters tt refl now.works refl now.commit now.copy)
      part_on c (Says phase.WaitPending version) granted =
          either_on c.is_copied _ _ (on (record s { seek = seek_begun s.seek c.number s.last.points; has_points = false; step = Seeks }) Seeks tt refl now.works refl now.commit now.copy) (copies_on granted)
      part_on c (Says phase.WaitFlush version) granted = either_on s.has_points _ _ (on _ Waits tt refl now.works refl now.commit now.copy) (ends (Turned false s.is_drain_full))
      part_on c said granted = ends (Turned false s.is_drain_full)

      pub enter_on : (x : EnterState) (ask : Ask EnterAnswer) → IsPlain step → Goes (enter_ledto (record s { enter = x }) ask)
      unfolding enter_ledto
      enter_on x (Done enter.Entered) plain = on _ (Ended (Turned false s.is_drain_full)) tt refl now.works refl now.commit now.copy
      enter_on x (Done enter.DrainFull) plain = on _ (Ended (Turned false true)) tt refl now.works refl now.commit now.copy
      enter_on x (Done enter.EpochsSpent) plain = on _ (Ended (TurnRefused fault.EpochsSpent)) tt refl now.works refl now.commit now.copy
      enter_on x (Done enter.Idle) plain = on _ (Ended (Turned false s.is_drain_full)) tt refl now.works refl now.commit now.copy
      enter_on x ask plain = on _ step plain now.at now.works refl now.commit now.copy

      driven_known : (copy : Option Copier) (reply : ℕ) → CopyKnown shape p opened copy → CopyKnown shape p opened (copy_driven copy reply)
      unfolding copying_after copied_after
      driven_known None reply known = tt
      driven_known (Some m) reply known = record { replies = reply ∷ known.replies; is = ap (λ (x : Copier). copy_after x reply) known.is }

      pub copy_on : (reply : ℕ) (ask : Ask (Unit {0})) → IsPlain step → Goes (copy_ledto (record s { copy = copy_driven s.copy reply }) ask)
      unfolding copy_ledto
      copy_on reply (Done end) plain = on _ (Ended (Turned false s.is_drain_full)) tt refl now.works refl (copied_known s.last (is_copy_resting (copy_driven s.copy reply)) s.commit now.commit) (driven_known s.copy reply now.copy)
      copy_on reply ask plain = on _ step plain now.at now.works refl now.commit (driven_known s.copy reply now.copy)

      sweeps_on : (granted : Bool) → Goes (sweeps_next s granted)
      sweeps_on granted = either_on (granted && is_sweeping s.sweep) _ _ (on _ Sweeps tt refl now.works refl now.commit now.copy) (on _ (Ended (Turned false s.is_drain_full)) tt refl now.works refl now.commit now.copy)

      pub sweep_on : (x : Sweeper) (ask : Ask SweepAnswer) → IsPlain step → Goes (sweep_ledto (record s { sweep = x }) ask)
      unfolding sweep_ledto
      sweep_on x (Done swept.Through) plain = on _ (Ended (Turned false s.is_drain_full)) tt refl now.works refl now.commit now.copy
      sweep_on x ask plain = on _ step plain now.at now.works refl now.commit now.copy

      pub seek_on : (x : SeekState) (ask : Ask SeekAnswer) → IsPlain step → Goes (seek_ledto (record s { seek = x }) ask)
      unfolding seek_ledto
      seek_on x (Done (seek.Taken end epoch)) plain = on _ (Ended (Turned false s.is_drain_full)) tt refl now.works refl (points_still_known s.last s.commit end epoch now.commit) now.copy
      seek_on x (Done seek.DrainFull) plain = on _ (Ended (Turned false true)) tt refl now.works refl now.commit now.copy
      seek_on x (Done seek.EpochsSpent) plain = on _ (Ended (TurnRefused fault.EpochsSpent)) tt refl now.works refl now.commit now.copy
      seek_on x (Done seek.Owing) plain = on _ (Ended (Turned false s.is_drain_full)) tt refl now.works refl now.commit now.copy
      seek_on x (Done seek.Idle) plain = on _ (Ended (Turned false s.is_drain_full)) tt refl now.works refl now.commit now.copy
      seek_on x ask plain = on _ step plain now.at now.works refl now.commit now.copy

    -- a flush may rest
    module _ (knows : RestKnows shape p opened s.last its calls s.maintain.flushing) where
      between : (after : KeeperState) (to : Keeping) → IsBetween shape p opened to → after.step ≡ to → IsAwake shape p opened after → after.last ≡ s.last → after.maintain ≡ s.maintain → CommitKnown shape p opened s.last after.commit → CopyKnown shape p opened after.copy → Goes after
      between after to is_between e works same kept commit copy =
          goes_between shape p opened s after was its w calls step to now (subst (λ (m : MaintainState). RestKnows shape p opened s.last its calls m.flushing) (sym kept) knows) is_between e works same commit copy

      pub start_on : (x : StartState) (ask : Ask StartAnswer) → IsBetween shape p opened step → IsNumberInTurn s.last.number Starts (start_ledto (record s { start = x }) ask).step → Goes (start_ledto (record s { start = x }) ask)
      unfolding start_ledto
      start_on x (Done (start.Begun number first)) plain turn = between _ (Ended (Begun number)) tt refl (now.works.0, refl) refl refl (record { next = turn.0; fits = turn.1 }) tt
      start_on x (Done (start.Refused why)) plain turn = between _ (Ended (CommitRefused why)) tt refl now.works refl refl now.commit now.copy
      start_on x (Done start.Idle) plain turn = between _ (Ended (CommitRefused fault.CommitRunning)) tt refl now.works refl refl now.commit now.copy
      start_on x ask plain turn = between _ step plain now.at now.works refl refl now.commit now.copy

      lets : (granted : Bool) → Goes (turned (record s { is_granted = granted }))
      lets granted = between _ (Ended (Turned false s.is_drain_full)) tt refl now.works refl refl now.commit now.copy

      lets_part : (c : Commit) (said : PhaseSaid) (granted rests : Bool) → is_sync_due s.maintain.flushing ≡ rests → Goes (if rests then turned (record s { is_granted = granted }) else part_begun p s c said granted)
      lets_part c said granted true e = lets granted
      lets_part c said granted false e = part_on (awake_calm shape p opened s.last its calls s.maintain.flushing e knows) c said granted

      lets_sweep : (granted rests : Bool) → is_sync_due s.maintain.flushing ≡ rests → Goes (if rests then turned (record s { is_granted = granted }) else sweeps_next s granted)
      lets_sweep granted true e = lets granted
      lets_sweep granted false e = sweeps_on (awake_calm shape p opened s.last its calls s.maintain.flushing e knows) granted

      pub phase_on : (found : Option Commit) (said : PhaseSaid) (granted : Bool) → Goes (phase_ledto p s found said granted)
      unfolding phase_ledto
      phase_on None said granted = lets_sweep granted (is_sync_due s.maintain.flushing) refl
      phase_on (Some c) said granted = by s.rests now.works.1
        where
          by : (rests : Bool) → rests ≡ false → Goes (if rests then writes_taken_up s granted else unless_flush_rests s granted (part_begun p s c said granted))
          by true awake = cc
          by false awake = lets_part c said granted (is_sync_due s.maintain.flushing) refl
