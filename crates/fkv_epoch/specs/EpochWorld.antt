-- The world of these machines: the words, the slots' actions, and what each actor is about. Actors are numbered: the first
-- are the sessions, and the others, as the keeper, are never protected.
use Rattle.std.specs.Prelude.{ℕ, ◌+◌, ◌-◌, ◌*◌, ◌%◌, ◌==◌, ◌||◌, ◌&&◌, nat_lt, nat_le, not, if◌then◌else◌, Bool, true, false, List, [], ◌∷◌, ◌++◌, slice_get, slice_set, Option, Some, None}
use Rattle.fkv_plane.specs.declared.actions.Action.{Action}
use Rattle.fkv_plane.specs.declared.places.SharedWord.TheVariants as one
use Rattle.fkv_plane.specs.declared.places.SessionWord.TheVariants as own
use Rattle.fkv_plane.specs.Places.{shared_place, drain_place, session_place}
use Rattle.fkv_plane.specs.Asked.{word_at, words_after, reply_to}
use Rattle.fkv_plane.specs.Plane.{action_at}
use Rattle.fkv_epoch.specs.declared.protecting.Protecting.{Protecting}
use Rattle.fkv_epoch.specs.declared.protecting.Protecting.TheVariants as protect
use Rattle.fkv_epoch.specs.declared.refreshing.Refreshing.{Refreshing}
use Rattle.fkv_epoch.specs.declared.refreshing.Refreshing.TheVariants as refresh
use Rattle.fkv_epoch.specs.declared.leaving.Leaving.{Leaving}
use Rattle.fkv_epoch.specs.declared.leaving.Leaving.TheVariants as leave
use Rattle.fkv_epoch.specs.declared.scanning.Scanning.{Scanning}
use Rattle.fkv_epoch.specs.declared.scanning.Scanning.TheVariants as scan
use Rattle.fkv_epoch.specs.declared.claiming.Claiming.{Claiming}
use Rattle.fkv_epoch.specs.declared.claiming.Claiming.TheVariants as claim
use Rattle.fkv_epoch.specs.declared.raising.Raising.{Raising}
use Rattle.fkv_epoch.specs.declared.raising.Raising.TheVariants as raise
use Rattle.fkv_epoch.specs.declared.arming.Arming.{Arming}
use Rattle.fkv_epoch.specs.declared.arming.Arming.TheVariants as arm
use Rattle.fkv_epoch.specs.Protecting.{protect_ask, protect_next}
use Rattle.fkv_epoch.specs.Refreshing.{refresh_ask, refresh_next, refresh_finish}
use Rattle.fkv_epoch.specs.Leaving.{leave_ask, leave_next}
use Rattle.fkv_epoch.specs.Scanning.{scan_ask, scan_next}
use Rattle.fkv_epoch.specs.Claiming.{claim_ask, claim_next, claim_given}
use Rattle.fkv_epoch.specs.Raising.{raise_ask, raise_next, raise_on}
use Rattle.fkv_epoch.specs.Arming.{arm_ask, arm_next}

-- The machine that an actor drives, and how far it has come.
pub data EpochMachine : Type 0 where
  Protects : Protecting → EpochMachine
  Refreshes : Refreshing → EpochMachine
  Leaves : Leaving → EpochMachine
  Scans : Scanning → EpochMachine
  Claims : Claiming → EpochMachine
  Raises : Raising → EpochMachine
  -- it holds the slot, and has raised the epoch from this one, at which it will arm the slot
  HasRaised : ℕ → ℕ → EpochMachine
  Arms : Arming → EpochMachine

-- a machine that an actor begins
pub data EpochTask : Type 0 where
  ToProtect : EpochTask
  ToRefresh : EpochTask
  ToLeave : EpochTask
  ToScan : EpochTask
  ToClaim : EpochTask
  ToRaise : EpochTask

-- what a session goes by
pub data Sight : Type 0 where
  OfPhase : Sight
  OfReadOnly : Sight
  OfHead : Sight

-- What may happen next. The last two are no step of these machines, but of whoever else works on the same words.
pub data EpochEvent : Type 0 where
  -- the actor begins a machine
  Begins : ℕ → EpochTask → EpochEvent
  -- the actor has done what its machine waits for, and lets it go on
  Resumes : ℕ → EpochEvent
  -- the actor has raised the epoch, and gives the action to its slot
  Puts : ℕ → Action → EpochEvent
  -- the actor makes its one ask, with the action that goes with it
  Moves : ℕ → EpochEvent
  -- the session loads one of the values that it goes by once more, and goes by that
  Sees : ℕ → Sight → EpochEvent
  -- some word that is none of those of these machines changes
  Changes : ℕ → ℕ → EpochEvent

-- what the Rust world has
pub record EpochNow : Type 0 where
  pub sessions : ℕ
  pub words : List ℕ
  pub actions : List (Option Action)
  pub actors : List EpochMachine

-- the epoch at a session's load of each value
pub record Loads : Type 0 where
  pub phase : ℕ
  pub read_only : ℕ
  pub head : ℕ

-- an action went into a slot, which was armed at this epoch
pub record Armed : Type 0 where
  pub slot : ℕ
  pub epoch : ℕ
  pub action : Action

-- an actor's Cas claimed a slot that was armed at this epoch
pub record Claimed : Type 0 where
  pub actor : ℕ
  pub slot : ℕ
  pub epoch : ℕ

-- an actor ran the action of a slot that was armed at this epoch
pub record Ran : Type 0 where
  pub actor : ℕ
  pub slot : ℕ
  pub epoch : ℕ
  pub action : Action

-- what no actor keeps: the newest first
pub record EpochPast : Type 0 where
  -- of each session its last loads
  pub loads : ℕ → Loads
  -- and the loads of what it goes by: while a refresh is under way, those before it
  pub in_force : ℕ → Loads
  pub armed : List Armed
  pub claims : List Claimed
  pub runs : List Ran

pub record EpochWorld : Type 0 where
  pub now : EpochNow
  pub past : EpochPast

-- the epoch, the safe epoch, a session's epoch and a slot's word
abbrev pub epoch_of : List ℕ → ℕ
epoch_of words = word_at words (shared_place one.Epoch)

abbrev pub safe_of : List ℕ → ℕ
safe_of words = word_at words (shared_place one.SafeEpoch)

abbrev pub own_epoch : List ℕ → ℕ → ℕ
own_epoch words session = word_at words (session_place session own.Epoch)

abbrev pub drain_word : List ℕ → ℕ → ℕ
drain_word words slot = word_at words (drain_place slot)

-- whether the word is one of these machines
abbrev pub is_own : ℕ → ℕ → Bool
is_own sessions place = nat_lt place 2 || (nat_le 16 place && nat_lt place 24) || (nat_le 24 place && nat_lt place (24 + 16 * sessions) && (place - 24) % 16 == 0)

-- the actor's machine is through
abbrev pub is_at_rest : EpochMachine → Bool
is_at_rest (Protects protect.AtRest) = true
is_at_rest (Refreshes refresh.AtRest) = true
is_at_rest (Leaves leave.AtRest) = true
is_at_rest (Scans scan.AtRest) = true
is_at_rest (Claims claim.AtRest) = true
is_at_rest (Raises raise.AtRest) = true
is_at_rest (Arms arm.AtRest) = true
is_at_rest machine = false

-- sessions alone are protected, and one that isn't has nothing to refresh
abbrev pub may_begin : EpochNow → ℕ → EpochTask → Bool
may_begin n actor ToProtect = nat_lt actor n.sessions
may_begin n actor ToRefresh = nat_lt actor n.sessions && not (own_epoch n.words actor == 0)
may_begin n actor ToLeave = nat_lt actor n.sessions
may_begin n actor ToScan = true
may_begin n actor ToClaim = true
may_begin n actor ToRaise = true

abbrev pub first_machine : EpochTask → EpochMachine
first_machine ToProtect = Protects protect.LoadsEpoch
first_machine ToRefresh = Refreshes refresh.LoadsEpoch
first_machine ToLeave = Leaves leave.StoresZero
first_machine ToScan = Scans scan.LoadsEpoch
first_machine ToClaim = Claims (claim.MeetsSlot 0 None)
first_machine ToRaise = Raises raise.LoadsEpoch

-- an actor and all that one of its steps touches
pub record EpochNear : Type 0 where
  pub words : List ℕ
  pub actions : List (Option Action)
  pub machine : EpochMachine

abbrev pub near : List ℕ → List (Option Action) → EpochMachine → EpochNear
near words actions machine = record { words = words; actions = actions; machine = machine }

-- the action of a slot that was just claimed is taken out at once
abbrev pub received : List ℕ → List (Option Action) → ℕ → ℕ → ℕ → Option Action → EpochNear
received words actions slot epoch safe None = near words actions (Claims (claim.Receives slot epoch safe))
received words actions slot epoch safe (Some action) = near words (slice_set actions slot None) (Claims (claim_given (claim.Receives slot epoch safe) action))

abbrev pub claimed : List ℕ → List (Option Action) → Claiming → EpochNear
claimed words actions (claim.Receives slot epoch safe) = received words actions slot epoch safe (action_at actions slot)
claimed words actions step = near words actions (Claims step)

abbrev pub raised : Raising → ℕ → EpochMachine
raised (raise.RaisesEpoch slot) reply = HasRaised slot reply
raised step reply = Raises (raise_next step reply)

-- one ask of the machine, by the machine's own tables
abbrev pub machine_step : ℕ → ℕ → List ℕ → List (Option Action) → EpochMachine → EpochNear
machine_step sessions actor words actions (Protects step) = near (words_after words (protect_ask actor step)) actions (Protects (protect_next step (reply_to words (protect_ask actor step))))
machine_step sessions actor words actions (Refreshes step) = near (words_after words (refresh_ask actor step)) actions (Refreshes (refresh_next step (reply_to words (refresh_ask actor step))))
machine_step sessions actor words actions (Leaves step) = near (words_after words (leave_ask actor step)) actions (Leaves (leave_next step))
machine_step sessions actor words actions (Scans step) = near (words_after words (scan_ask step)) actions (Scans (scan_next sessions step (reply_to words (scan_ask step))))
machine_step sessions actor words actions (Claims step) = claimed (words_after words (claim_ask step)) actions (claim_next step (reply_to words (claim_ask step)))
machine_step sessions actor words actions (Raises step) = near (words_after words (raise_ask step)) actions (raised step (reply_to words (raise_ask step)))
machine_step sessions actor words actions (HasRaised slot epoch) = near words actions (HasRaised slot epoch)
machine_step sessions actor words actions (Arms step) = near (words_after words (arm_ask step)) actions (Arms (arm_next step))

abbrev pub with_machine : EpochNow → ℕ → EpochMachine → EpochNow
with_machine n actor machine = record n { actors = slice_set n.actors actor machine }

abbrev pub put_near : EpochNow → ℕ → EpochNear → EpochNow
put_near n actor here = record n { words = here.words; actions = here.actions; actors = slice_set n.actors actor here.machine }

abbrev pub begun : EpochNow → ℕ → EpochTask → Option EpochMachine → EpochNow
begun n actor task None = n
begun n actor task (Some machine) = if is_at_rest machine && may_begin n actor task then with_machine n actor (first_machine task) else n

abbrev pub resumed_machine : EpochMachine → EpochMachine
resumed_machine (Refreshes step) = Refreshes (refresh_finish step)
resumed_machine (Raises step) = Raises (raise_on step)
resumed_machine machine = machine

abbrev pub resumed : EpochNow → ℕ → Option EpochMachine → EpochNow
resumed n actor None = n
resumed n actor (Some machine) = with_machine n actor (resumed_machine machine)

abbrev pub put_by : EpochNow → ℕ → Action → EpochMachine → EpochNow
put_by n actor action (HasRaised slot epoch) = put_near n actor (near n.words (slice_set n.actions slot (Some action)) (Arms (arm_next (arm.PutsAction slot epoch))))
put_by n actor action machine = n

abbrev pub put : EpochNow → ℕ → Action → Option EpochMachine → EpochNow
put n actor action None = n
put n actor action (Some machine) = put_by n actor action machine

abbrev pub moved : EpochNow → ℕ → Option EpochMachine → EpochNow
moved n actor None = n
moved n actor (Some machine) = put_near n actor (machine_step n.sessions actor n.words n.actions machine)

-- the world after an event
abbrev pub epoch_happens_now : EpochNow → EpochEvent → EpochNow
epoch_happens_now n (Begins actor task) = begun n actor task (slice_get n.actors actor)
epoch_happens_now n (Resumes actor) = resumed n actor (slice_get n.actors actor)
epoch_happens_now n (Puts actor action) = put n actor action (slice_get n.actors actor)
epoch_happens_now n (Moves actor) = moved n actor (slice_get n.actors actor)
epoch_happens_now n (Sees session sight) = n
epoch_happens_now n (Changes place word) = if is_own n.sessions place then n else record n { words = slice_set n.words place word }

-- the value that a machine's ask loads
abbrev pub sight_of : EpochMachine → Option Sight
sight_of (Protects protect.LoadsPhase) = Some OfPhase
sight_of (Protects (protect.LoadsReadOnly phase)) = Some OfReadOnly
sight_of (Protects (protect.LoadsHead phase read_only)) = Some OfHead
sight_of (Refreshes (refresh.LoadsPhase epoch)) = Some OfPhase
sight_of (Refreshes (refresh.LoadsReadOnly epoch phase)) = Some OfReadOnly
sight_of (Refreshes (refresh.LoadsHead epoch phase read_only)) = Some OfHead
sight_of machine = None

abbrev pub with_load : Loads → Option Sight → ℕ → Loads
with_load l None epoch = l
with_load l (Some OfPhase) epoch = record l { phase = epoch }
with_load l (Some OfReadOnly) epoch = record l { read_only = epoch }
with_load l (Some OfHead) epoch = record l { head = epoch }

-- the loads after one at this epoch
abbrev pub loaded : (ℕ → Loads) → ℕ → Option Sight → ℕ → ℕ → Loads
loaded loads session sight epoch other = if other == session then with_load (loads other) sight epoch else loads other

-- a refresh that stores its epoch takes up all that the session has loaded
abbrev pub taken_up : EpochPast → ℕ → ℕ → Loads
taken_up past session other = if other == session then past.loads other else past.in_force other

-- The loads in force after the machine's ask. What a session loads while it protects itself is in force at once; what it loads
-- in a refresh is so once the refresh has stored its epoch.
abbrev pub in_force_by : EpochPast → ℕ → ℕ → EpochMachine → (ℕ → Loads)
in_force_by past actor epoch (Protects protect.LoadsPhase) = loaded past.in_force actor (Some OfPhase) epoch
in_force_by past actor epoch (Protects (protect.LoadsReadOnly phase)) = loaded past.in_force actor (Some OfReadOnly) epoch
in_force_by past actor epoch (Protects (protect.LoadsHead phase read_only)) = loaded past.in_force actor (Some OfHead) epoch
in_force_by past actor epoch (Refreshes (refresh.StoresEpoch stored)) = taken_up past actor
in_force_by past actor epoch machine = past.in_force

abbrev pub armed_with : ℕ → ℕ → Option Action → List Armed
armed_with slot epoch None = []
armed_with slot epoch (Some action) = record { slot = slot; epoch = epoch; action = action } ∷ []

-- the store that arms a slot
abbrev pub armed_by : EpochNow → EpochMachine → List Armed
armed_by n (Arms (arm.StoresEpoch slot epoch)) = armed_with slot epoch (action_at n.actions slot)
armed_by n machine = []

-- the Cas that claims an armed slot, where it is won
abbrev pub claimed_by : EpochNow → ℕ → EpochMachine → List Claimed
claimed_by n actor (Claims (claim.TakesSlot slot word safe)) = if drain_word n.words slot == word then record { actor = actor; slot = slot; epoch = word - 2 } ∷ [] else []
claimed_by n actor machine = []

-- the step that runs an action
abbrev pub run_by : ℕ → EpochMachine → List Ran
run_by actor (Claims (claim.Runs slot epoch safe action)) = record { actor = actor; slot = slot; epoch = epoch; action = action } ∷ []
run_by actor machine = []

abbrev pub past_moved : EpochNow → ℕ → EpochPast → Option EpochMachine → EpochPast
past_moved n actor past None = past
past_moved n actor past (Some machine) = record {
  loads = loaded past.loads actor (sight_of machine) (epoch_of n.words);
  in_force = in_force_by past actor (epoch_of n.words) machine;
  armed = armed_by n machine ++ past.armed;
  claims = claimed_by n actor machine ++ past.claims;
  runs = run_by actor machine ++ past.runs;
}

abbrev pub past_seen : EpochNow → ℕ → Sight → EpochPast → Option EpochMachine → EpochPast
past_seen n session sight past None = past
past_seen n session sight past (Some machine) = record past { loads = loaded past.loads session (Some sight) (epoch_of n.words); in_force = loaded past.in_force session (Some sight) (epoch_of n.words) }

abbrev pub past_after : EpochNow → EpochEvent → EpochPast → EpochPast
past_after n (Moves actor) past = past_moved n actor past (slice_get n.actors actor)
past_after n (Sees session sight) past = past_seen n session sight past (slice_get n.actors session)
past_after n event past = past

unfoldable pub epoch_happens : EpochWorld → EpochEvent → EpochWorld
epoch_happens w event = record { now = epoch_happens_now w.now event; past = past_after w.now event w.past }

-- a whole run, the newest event first
unfoldable pub epoch_run : EpochWorld → List EpochEvent → EpochWorld
epoch_run opening [] = opening
epoch_run opening (event ∷ before) = epoch_happens (epoch_run opening before) event
