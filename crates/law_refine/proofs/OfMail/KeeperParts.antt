-- The parts of a turn, over what may happen to the keeper: what is so of them as a turn begins, and stays so, is so while a turn is made.
use Rattle.std.proofs.Common.{◌≡◌, ◌⊎◌, inl, inr, refl, sym, subst, Bool, true, false}
use Rattle.std.specs.Prelude.{if◌then◌else◌, ⊤}
use Rattle.fkv_base.specs.declared.faults.Fault.TheVariants as fault
use Rattle.fkv_base.specs.declared.shapes.Shape.{Shape}
use Rattle.fkv_plane.specs.declared.asks.Ask.{Ask}
use Rattle.fkv_plane.specs.declared.asks.Ask.TheVariants.{Done}
use Rattle.fkv_plane.specs.declared.places.Places.{Places}
use Rattle.law_world.specs.Below.fkv_commit.Starting.{start_begun}
use Rattle.law_world.specs.Below.fkv_maintain.MaintainAnswer.{MaintainAnswer}
use Rattle.law_world.specs.Below.fkv_maintain.MaintainAnswer.TheVariants as maintain
use Rattle.law_world.specs.Below.fkv_maintain.MaintainRun as part
use Rattle.law_world.specs.Below.fkv_maintain.MaintainRun.{MaintainEvent, maintain_happens}
use Rattle.law_world.specs.Below.fkv_maintain.Maintaining.{MaintainState, maintain_ask, maintain_next, maintain_given, maintain_called}
use Rattle.law_world.specs.Below.fkv_keeper.KeeperTold.TheVariants.{TurnRefused, CommitRefused}
use Rattle.law_world.specs.Below.fkv_keeper.TheKeeping.{Keeping}
use Rattle.law_world.specs.Below.fkv_keeper.TheKeeping.TheVariants.{Ended, Starts, Maintains, LoadsPhase, Enters, Copies, Seeks, Waits, Writes, Finishes, Sweeps}
use Rattle.law_world.specs.Below.fkv_keeper.CheckpointLaws.{MayFollow, MayStep}
use Rattle.law_world.specs.Below.fkv_keeper.KeeperRun.{KeeperEvent, BeginsTurn, BeginsCommit, Replies, Gets, Calls, is_in_hand, begins, keeper_happens}
use Rattle.law_world.specs.Below.fkv_keeper.Keeping.{KeeperState, ended, commit_asked, parts_begun, serves_alone, turn_asked, maintain_ledto, keeping_next, keeping_given, keeping_called, asked_for}
use Rattle.law_world.proofs.Below.fkv_keeper.Shown.{each_move}

-- this is so of the parts of a turn, where one is made
abbrev pub TurnsWith : (MaintainState → Type 0) → KeeperState → Keeping → Type 0
TurnsWith Q s Maintains = Q s.maintain
TurnsWith Q s step = ⊤

abbrev pub IsInTurn : (MaintainState → Type 0) → KeeperState → Type 0
IsInTurn Q s = TurnsWith Q s s.step

-- a step is one that may follow, or the writes, where they go on that rest
pub follows_or_writes : (rests : Bool) (step after : Keeping) → MayStep rests step after → MayFollow step after ⊎ (after ≡ Writes)
follows_or_writes true LoadsPhase Writes steps = inr refl
follows_or_writes rests step after steps = inl steps

module _ (Q : MaintainState → Type 0) where
  stays_with : (s : KeeperState) (step : Keeping) → s.step ≡ step → TurnsWith Q s step → IsInTurn Q s
  stays_with s step at its = subst (λ (x : Keeping). TurnsWith Q s x) (sym at) its

  either_with : (c : Bool) (a b : KeeperState) → IsInTurn Q a → IsInTurn Q b → IsInTurn Q (if c then a else b)
  either_with true a b one other = one
  either_with false a b one other = other

  ledto_with : (s : KeeperState) (ask : Ask MaintainAnswer) → s.step ≡ Maintains → Q s.maintain → IsInTurn Q (maintain_ledto s ask)
  unfolding maintain_ledto
  ledto_with s (Done maintain.Through) at its = tt
  ledto_with s (Done maintain.Spent) at its = tt
  ledto_with s (Done maintain.Broken) at its = tt
  ledto_with s ask at its = stays_with s Maintains at its

  -- no turn begins behind another step
  abbrev IsElse : Keeping → Type 0
  IsElse (Ended its) = ⊥
  IsElse Maintains = ⊥
  IsElse step = ⊤

  follows_with : (a : KeeperState) (step next : Keeping) → IsElse step → MayFollow step next → TurnsWith Q a next
  follows_with a (Ended its) next other follows = absurd other
  follows_with a Maintains next other follows = absurd other
  follows_with a Starts Maintains other follows = absurd follows
  follows_with a LoadsPhase Maintains other follows = absurd follows
  follows_with a Enters Maintains other follows = absurd follows
  follows_with a Copies Maintains other follows = absurd follows
  follows_with a Seeks Maintains other follows = absurd follows
  follows_with a Waits Maintains other follows = absurd follows
  follows_with a Writes Maintains other follows = absurd follows
  follows_with a Finishes Maintains other follows = absurd follows
  follows_with a Sweeps Maintains other follows = absurd follows
  follows_with a step next other follows = tt

  else_with : (shape : Shape) (p : Places) (s : KeeperState) (event : KeeperEvent) (step : Keeping) → s.step ≡ step → IsElse step → IsInTurn Q (keeper_happens shape p s event)
  else_with shape p s event step at other =
      by (follows_or_writes s.rests s.step a.step (each_move shape p s event).one.steps)
    where
      a : KeeperState
      a = keeper_happens shape p s event

      by : MayFollow s.step a.step ⊎ (a.step ≡ Writes) → IsInTurn Q a
      by (inl follows) = follows_with a step a.step other (subst (λ (x : Keeping). MayFollow x a.step) at follows)
      by (inr writes) = stays_with a Writes writes tt

  -- each event goes on with what the turn does
  abbrev GoesWith : Shape → Places → KeeperState → Type 0
  GoesWith shape p s = s.step ≡ Maintains → (event : MaintainEvent) → Q (maintain_happens shape p s.maintain event)

  from_ended : (shape : Shape) (p : Places) (s : KeeperState) (its : _) (event : KeeperEvent) → s.step ≡ Ended its → IsInTurn Q s → Q (parts_begun (serves_alone s) s.maintain) → IsInTurn Q (keeper_happens shape p s event)
  unfolding keeper_happens keeping_next keeping_given keeping_called
  from_ended shape p s its BeginsTurn at was begun =
      subst (λ (x : Keeping). IsInTurn Q (begins s (is_in_hand x) (turn_asked s))) (sym at)
      (either_with s.is_broken (ended s (TurnRefused fault.Broken)) (record s { maintain = parts_begun (serves_alone s) s.maintain; is_drain_full = false; step = Maintains }) tt begun)
  from_ended shape p s its (BeginsCommit kind) at was begun =
      subst (λ (x : Keeping). IsInTurn Q (begins s (is_in_hand x) (commit_asked s kind))) (sym at)
      (either_with s.is_broken (ended s (CommitRefused fault.Broken)) (if s.rests then ended s (CommitRefused fault.CommitRunning) else record s { start = start_begun s.start (asked_for s kind); step = Starts }) tt (either_with s.rests (ended s (CommitRefused fault.CommitRunning)) (record s { start = start_begun s.start (asked_for s kind); step = Starts }) tt tt))
  from_ended shape p s its (Replies reply granted) at was begun = subst (λ (x : Keeping). IsInTurn Q (keeping_next shape p s x reply granted)) (sym at) was
  from_ended shape p s its (Gets action) at was begun = subst (λ (x : Keeping). IsInTurn Q (keeping_given shape p s x action)) (sym at) was
  from_ended shape p s its (Calls done bytes) at was begun = subst (λ (x : Keeping). IsInTurn Q (keeping_called shape p s x done bytes)) (sym at) was

  from_turn : (shape : Shape) (p : Places) (s : KeeperState) (event : KeeperEvent) → s.step ≡ Maintains → IsInTurn Q s → GoesWith shape p s → IsInTurn Q (keeper_happens shape p s event)
  unfolding keeper_happens keeping_next keeping_given keeping_called maintain_happens
  from_turn shape p s BeginsTurn at was goes = subst (λ (x : Keeping). IsInTurn Q (begins s (is_in_hand x) (turn_asked s))) (sym at) was
  from_turn shape p s (BeginsCommit kind) at was goes = subst (λ (x : Keeping). IsInTurn Q (begins s (is_in_hand x) (commit_asked s kind))) (sym at) was
  from_turn shape p s (Replies reply granted) at was goes =
      subst (λ (x : Keeping). IsInTurn Q (keeping_next shape p s x reply granted)) (sym at)
      (ledto_with (record s { maintain = maintain_next shape p s.maintain reply }) (maintain_ask shape p (maintain_next shape p s.maintain reply)) at (goes at (part.Replies reply)))
  from_turn shape p s (Gets action) at was goes =
      subst (λ (x : Keeping). IsInTurn Q (keeping_given shape p s x action)) (sym at)
      (ledto_with (record s { maintain = maintain_given s.maintain action }) (maintain_ask shape p (maintain_given s.maintain action)) at (goes at (part.Gets action)))
  from_turn shape p s (Calls done bytes) at was goes =
      subst (λ (x : Keeping). IsInTurn Q (keeping_called shape p s x done bytes)) (sym at)
      (ledto_with (record s { maintain = maintain_called shape p s.maintain done bytes }) (maintain_ask shape p (maintain_called shape p s.maintain done bytes)) at (goes at (part.Calls done bytes)))

  from_step : (shape : Shape) (p : Places) (s : KeeperState) (event : KeeperEvent) (step : Keeping) → s.step ≡ step → IsInTurn Q s → Q (parts_begun (serves_alone s) s.maintain) → GoesWith shape p s → IsInTurn Q (keeper_happens shape p s event)
  from_step shape p s event (Ended its) at was begun goes = from_ended shape p s its event at was begun
  from_step shape p s event Maintains at was begun goes = from_turn shape p s event at was goes
  from_step shape p s event Starts at was begun goes = else_with shape p s event Starts at tt
  from_step shape p s event LoadsPhase at was begun goes = else_with shape p s event LoadsPhase at tt
  from_step shape p s event Enters at was begun goes = else_with shape p s event Enters at tt
  from_step shape p s event Copies at was begun goes = else_with shape p s event Copies at tt
  from_step shape p s event Seeks at was begun goes = else_with shape p s event Seeks at tt
  from_step shape p s event Waits at was begun goes = else_with shape p s event Waits at tt
  from_step shape p s event Writes at was begun goes = else_with shape p s event Writes at tt
  from_step shape p s event Finishes at was begun goes = else_with shape p s event Finishes at tt
  from_step shape p s event Sweeps at was begun goes = else_with shape p s event Sweeps at tt

  -- each event
  pub happens_with : (shape : Shape) (p : Places) (s : KeeperState) (event : KeeperEvent) → IsInTurn Q s → Q (parts_begun (serves_alone s) s.maintain) → GoesWith shape p s → IsInTurn Q (keeper_happens shape p s event)
  happens_with shape p s event was begun goes = from_step shape p s event s.step refl was begun goes
