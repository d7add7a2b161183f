-- What an event makes of a keeper while writes rest. They rest still, go on, or a call has failed, and what is written is as it was.
use Rattle.std.proofs.Common.{◌≡◌, ◌∙◌, ◌⊎◌, inl, inr, List, refl, ap, subst, Bool, true, false}
use Rattle.std.specs.Prelude.{Option, Some, None, if◌then◌else◌}
use Rattle.fkv_base.specs.declared.commits.CommitKind.{CommitKind}
use Rattle.fkv_base.specs.declared.faults.Fault.TheVariants as fault
use Rattle.fkv_base.specs.declared.shapes.Shape.{Shape}
use Rattle.fkv_words.specs.declared.phase_words.PhaseSaid.{PhaseSaid}
use Rattle.fkv_words.specs.PhaseWords.{phase_said}
use Rattle.fkv_plane.specs.declared.asks.Ask.{Ask}
use Rattle.fkv_plane.specs.declared.asks.Ask.TheVariants.{Done}
use Rattle.fkv_plane.specs.declared.places.Places.{Places}
use Rattle.law_refine.specs.Below.fkv_commit.Commit.{Commit}
use Rattle.law_refine.specs.Below.fkv_commit.Starting.{start_begun}
use Rattle.law_refine.specs.Below.fkv_maintain.MaintainAnswer.{MaintainAnswer}
use Rattle.law_refine.specs.Below.fkv_maintain.MaintainAnswer.TheVariants as maintain
use Rattle.law_refine.specs.Below.fkv_maintain.Maintaining.{MaintainState, is_flush_resting, maintain_ask, maintain_called, maintain_given, maintain_next}
use Rattle.law_refine.specs.Below.fkv_keeper.KeeperTold.{KeeperTold}
use Rattle.law_refine.specs.Below.fkv_keeper.KeeperTold.TheVariants.{CommitRefused, TurnRefused}
use Rattle.law_refine.specs.Below.fkv_keeper.TheKeeping.{Keeping}
use Rattle.law_refine.specs.Below.fkv_keeper.TheKeeping.TheVariants.{Ended, Starts, Maintains, LoadsPhase, Writes, Finishes}
use Rattle.law_refine.specs.Below.fkv_keeper.CheckpointLaws.{MayFollow, MayStep}
use Rattle.law_refine.specs.Below.fkv_keeper.Keeping.{KeeperState, asked_for, come_to, commit_asked, ended, keeping_called, keeping_given, keeping_next, maintain_ledto, part_begun, parts_begun, phase_ledto, serves_alone, sweeps_next, turn_asked, turned, unless_flush_rests, writes_taken_up}
use Rattle.law_refine.specs.Below.fkv_keeper.KeeperLaws.{MayRest}
use Rattle.law_refine.specs.Below.fkv_keeper.KeeperRun.{BeginsCommit, BeginsTurn, Calls, Gets, IsOpened, KeeperEvent, Replies, keeper_happens, keeper_run}
use Rattle.law_refine.proofs.Below.fkv_keeper.Shown.{BeginsRest, each_rests, run_rests}
use Rattle.law_refine.proofs.Below.law_world.OfStanding.Runs.{happens_at, happens_so}
use Rattle.law_commit.specs.BegunCommits.{BegunCommit, begun_by}
use Rattle.law_commit.proofs.Sweeps.{sweep_begins}

-- where no writes rest a keeper has come to its step
pub come_awake : (s : KeeperState) (step : Keeping) → s.rests ≡ false → s.step ≡ step → come_to s ≡ step
come_awake s step awake e = ap (λ (x : Bool). if x then Writes else s.step) awake ∙ e

pub come_rested : (s : KeeperState) → s.rests ≡ true → come_to s ≡ Writes
come_rested s rests = ap (λ (x : Bool). if x then Writes else s.step) rests

-- and an event outside of the writes begins no rest
pub stays_awake : (shape : Shape) (p : Places) (s : KeeperState) (event : KeeperEvent) → s.rests ≡ false → (s.step ≡ Writes → ⊥) → (keeper_happens shape p s event).rests ≡ false
stays_awake shape p s event awake other = by (each_rests shape p s event)
  where
    a : KeeperState
    a = keeper_happens shape p s event

    by : (((a.rests ≡ s.rests) ⊎ ((a.rests ≡ false) × MayFollow Writes a.step)) ⊎ BeginsRest s event a) → a.rests ≡ false
    by (inl (inl same)) = same ∙ awake
    by (inl (inr its)) = its.0
    by (inr begins) = absurd (other begins.writes)

-- a step is one that may follow, or the writes, where they go on that rest
pub follows_or_writes : (rests : Bool) (step after : Keeping) → MayStep rests step after → MayFollow step after ⊎ (after ≡ Writes)
follows_or_writes true LoadsPhase Writes steps = inr refl
follows_or_writes rests step after steps = inl steps

-- at each moment of a run they rest at such steps alone
pub rests_there : (shape : Shape) (p : Places) (opening : KeeperState) (events : List KeeperEvent) → IsOpened opening → (keeper_run shape p opening events).rests ≡ true → MayRest (keeper_run shape p opening events).step
rests_there shape p opening events opened rests = (run_rests shape p opening events opened rests).rests

pub awake_so : (s : KeeperState) (step : Keeping) → s.step ≡ step → (MayRest step → ⊥) → (s.rests ≡ true → MayRest s.step) → s.rests ≡ false
awake_so s step e not may = by s.rests refl
  where
    by : (b : Bool) → s.rests ≡ b → b ≡ false
    by true rests = absurd (not (subst MayRest e (may rests)))
    by false awake = refl

pub awake_at : (shape : Shape) (p : Places) (opening : KeeperState) (events : List KeeperEvent) (step : Keeping) → IsOpened opening → (keeper_run shape p opening events).step ≡ step → (MayRest step → ⊥) → (keeper_run shape p opening events).rests ≡ false
awake_at shape p opening events step opened e not = awake_so (keeper_run shape p opening events) step e not (rests_there shape p opening events opened)

-- what is written of the commit in hand, and its points, are as they were
pub record IsKept (s a : KeeperState) : Type 0 where
  pub commit : a.commit ≡ s.commit
  pub writes : a.writes ≡ s.writes
  pub points : a.seek.points ≡ s.seek.points
  pub taken : a.has_points ≡ s.has_points
  pub used : a.used ≡ s.used
  pub last : a.last ≡ s.last
  pub lost : a.lost ≡ s.lost

-- the writes go on
pub record GoesOn (a : KeeperState) : Type 0 where
  pub awake : a.rests ≡ false
  pub writes : a.step ≡ Writes

-- a call has failed
pub record HasBroken (a : KeeperState) : Type 0 where
  pub awake : a.rests ≡ false
  pub broken : a.is_broken ≡ true
  pub told : KeeperTold
  pub ended : a.step ≡ Ended told

pub record AfterRest (s a : KeeperState) : Type 0 where
  pub kept : IsKept s a
  pub goes : (a.rests ≡ true) ⊎ (GoesOn a ⊎ HasBroken a)

as_it_was : (s : KeeperState) → s.rests ≡ true → AfterRest s s
as_it_was s rests = record { kept = record { commit = refl; writes = refl; points = refl; taken = refl; used = refl; last = refl; lost = refl }; goes = inl rests }

maintain_after : (s : KeeperState) (m : MaintainState) (ask : Ask MaintainAnswer) → s.rests ≡ true → AfterRest s (maintain_ledto (record s { maintain = m }) ask)
unfolding maintain_ledto
maintain_after s m (Done maintain.Through) rests = record { kept = record { commit = refl; writes = refl; points = refl; taken = refl; used = refl; last = refl; lost = refl }; goes = inl rests }
maintain_after s m (Done maintain.Spent) rests = record { kept = record { commit = refl; writes = refl; points = refl; taken = refl; used = refl; last = refl; lost = refl }; goes = inl rests }
maintain_after s m (Done maintain.Broken) rests = record {
  kept = record { commit = refl; writes = refl; points = refl; taken = refl; used = refl; last = refl; lost = refl };
  goes = inr (inr (record { awake = refl; broken = refl; told = TurnRefused fault.Device; ended = refl }));
}
maintain_after s m ask rests = record { kept = record { commit = refl; writes = refl; points = refl; taken = refl; used = refl; last = refl; lost = refl }; goes = inl rests }

either_after : (s : KeeperState) (b : Bool) (x y : KeeperState) → AfterRest s x → AfterRest s y → AfterRest s (if b then x else y)
either_after s true x y one other = one
either_after s false x y one other = other

phase_after : (p : Places) (s : KeeperState) (found : Option Commit) (said : PhaseSaid) (granted : Bool) → s.rests ≡ true → AfterRest s (phase_ledto p s found said granted)
unfolding phase_ledto
phase_after p s None said granted rests =
    either_after s (is_flush_resting s.maintain) (turned (record s { is_granted = granted })) (sweeps_next s granted)
    (record { kept = record { commit = refl; writes = refl; points = refl; taken = refl; used = refl; last = refl; lost = refl }; goes = inl rests })
    (sweep_begins (AfterRest s) s granted (record { kept = record { commit = refl; writes = refl; points = refl; taken = refl; used = refl; last = refl; lost = refl }; goes = inl rests })
    (record { kept = record { commit = refl; writes = refl; points = refl; taken = refl; used = refl; last = refl; lost = refl }; goes = inl rests }))
phase_after p s (Some c) said granted rests = by s.rests rests granted
  where
    by : (b : Bool) → b ≡ true → (granted : Bool) → AfterRest s (if b then writes_taken_up s granted else unless_flush_rests s granted (part_begun p s c said granted))
    by true so true = record {
      kept = record { commit = refl; writes = refl; points = refl; taken = refl; used = refl; last = refl; lost = refl };
      goes = inr (inl (record { awake = refl; writes = refl }));
    }
    by true so false = record { kept = record { commit = refl; writes = refl; points = refl; taken = refl; used = refl; last = refl; lost = refl }; goes = inl rests }
    by false so granted = cc

turn_after : (s : KeeperState) → s.rests ≡ true → AfterRest s (turn_asked s)
turn_after s rests =
    either_after s s.is_broken (ended s (TurnRefused fault.Broken)) (record s { maintain = parts_begun (serves_alone s) s.maintain; is_drain_full = false; step = Maintains })
    (record { kept = record { commit = refl; writes = refl; points = refl; taken = refl; used = refl; last = refl; lost = refl }; goes = inl rests }) (record { kept = record { commit = refl; writes = refl; points = refl; taken = refl; used = refl; last = refl; lost = refl }; goes = inl rests })

commit_after : (s : KeeperState) (kind : CommitKind) → s.rests ≡ true → AfterRest s (commit_asked s kind)
commit_after s kind rests =
    either_after s s.is_broken (ended s (CommitRefused fault.Broken)) (if s.rests then ended s (CommitRefused fault.CommitRunning) else record s { start = start_begun s.start (asked_for s kind); step = Starts })
    (record { kept = record { commit = refl; writes = refl; points = refl; taken = refl; used = refl; last = refl; lost = refl }; goes = inl rests })
    (either_after s s.rests (ended s (CommitRefused fault.CommitRunning)) (record s { start = start_begun s.start (asked_for s kind); step = Starts })
    (record { kept = record { commit = refl; writes = refl; points = refl; taken = refl; used = refl; last = refl; lost = refl }; goes = inl rests }) (record { kept = record { commit = refl; writes = refl; points = refl; taken = refl; used = refl; last = refl; lost = refl }; goes = inl rests }))

happens_after : (shape : Shape) (p : Places) (s : KeeperState) (step : Keeping) (event : KeeperEvent) → s.step ≡ step → s.rests ≡ true → MayRest step → AfterRest s (happens_at shape p s step event)
unfolding keeping_next keeping_given keeping_called
happens_after shape p s (Ended its) BeginsTurn e rests may = turn_after s rests
happens_after shape p s (Ended its) (BeginsCommit kind) e rests may = commit_after s kind rests
happens_after shape p s (Ended its) (Replies reply granted) e rests may = as_it_was s rests
happens_after shape p s (Ended its) (Gets action) e rests may = as_it_was s rests
happens_after shape p s (Ended its) (Calls done bytes) e rests may = as_it_was s rests
happens_after shape p s Maintains (Replies reply granted) e rests may = maintain_after s (maintain_next shape p s.maintain reply) (maintain_ask shape p (maintain_next shape p s.maintain reply)) rests
happens_after shape p s Maintains (Gets action) e rests may = maintain_after s (maintain_given s.maintain action) (maintain_ask shape p (maintain_given s.maintain action)) rests
happens_after shape p s Maintains (Calls done bytes) e rests may = maintain_after s (maintain_called shape p s.maintain done bytes) (maintain_ask shape p (maintain_called shape p s.maintain done bytes)) rests
happens_after shape p s Maintains BeginsTurn e rests may = as_it_was s rests
happens_after shape p s Maintains (BeginsCommit kind) e rests may = as_it_was s rests
happens_after shape p s LoadsPhase (Replies reply granted) e rests may = phase_after p s s.commit (phase_said reply) granted rests
happens_after shape p s LoadsPhase BeginsTurn e rests may = as_it_was s rests
happens_after shape p s LoadsPhase (BeginsCommit kind) e rests may = as_it_was s rests
happens_after shape p s LoadsPhase (Gets action) e rests may = as_it_was s rests
happens_after shape p s LoadsPhase (Calls done bytes) e rests may = as_it_was s rests
happens_after shape p s step event e rests may = absurd may

pub after_rest : (shape : Shape) (p : Places) (s : KeeperState) (event : KeeperEvent) → s.rests ≡ true → MayRest s.step → AfterRest s (keeper_happens shape p s event)
after_rest shape p s event rests may = subst (λ (x : KeeperState). AfterRest s x) (happens_so shape p s event) (happens_after shape p s s.step event refl rests may)

-- there no list of the commits that have begun gets one
pub rest_begun : (s : KeeperState) (step : Keeping) (event : KeeperEvent) (after : Keeping) (begun : List BegunCommit) → MayRest step → begun_by s step event after begun ≡ begun
rest_begun s Writes event after begun may = absurd may
rest_begun s Finishes event after begun may = absurd may
rest_begun s step event after begun may = refl
