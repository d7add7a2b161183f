-- What the machines keep, whatever the order of their steps.
use Rattle.std.specs.Prelude.{◌≡◌, ℕ, ◌+◌, ◌-◌, ◌*◌, ◌^◌, ◌<◌, ◌≤◌, Bool, true, false, List, [], ◌∷◌, ◌⊎◌, ⊤, length, map, replicate, slice_get, Option, Some, None}
use Rattle.fkv_base.specs.Limits.{max_sessions, drain_slots}
use Rattle.fkv_epoch.specs.declared.protecting.Protecting.TheVariants as protect
use Rattle.fkv_epoch.specs.declared.claiming.Claiming.TheVariants as claim
use Rattle.fkv_plane.specs.declared.actions.Action.{Action}
use Rattle.fkv_plane.specs.Plane.{action_at}
use Rattle.fkv_epoch.specs.EpochWorld.{EpochMachine, Claims, HasRaised, Protects, Sight, OfPhase, OfReadOnly, OfHead, EpochEvent, Moves, EpochNow, EpochPast, EpochWorld, Loads, Armed, Claimed, Ran, epoch_of, safe_of, own_epoch, drain_word, claimed_by}

-- the store is just opened: epoch 1, each session awake with it, all slots free
pub record IsOpened (sessions actors : ℕ) (words : List ℕ) : Type 0 where
  pub few_sessions : sessions ≤ max_sessions
  pub with_others : sessions ≤ actors
  pub few_actors : actors ≤ 2 ^ 48
  pub enough_words : 24 + 16 * sessions ≤ length words
  pub first_epoch : epoch_of words ≡ 1
  pub nothing_safe : safe_of words ≡ 0
  pub awake : (session : ℕ) → session < sessions → own_epoch words session ≡ 1
  pub slots_free : (slot : ℕ) → slot < drain_slots → drain_word words slot ≡ 0

-- what each session goes by was loaded at epoch 1
abbrev pub opening_past : EpochPast
opening_past = record {
  loads = λ session. record { phase = 1; read_only = 1; head = 1 };
  in_force = λ session. record { phase = 1; read_only = 1; head = 1 };
  armed = [];
  claims = [];
  runs = [];
}

-- its world: every actor at rest
abbrev pub opening : ℕ → ℕ → List ℕ → EpochWorld
opening sessions actors words = record {
  now = record { sessions = sessions; words = words; actions = replicate drain_slots None; actors = replicate actors (Protects protect.AtRest) };
  past = opening_past;
}

-- a session that protects itself has yet to load this value, and so has none that it goes by
abbrev pub goes_by : Sight → EpochMachine → Bool
goes_by sight (Protects protect.LoadsEpoch) = false
goes_by sight (Protects (protect.StoresEpoch epoch)) = false
goes_by sight (Protects protect.LoadsPhase) = false
goes_by OfPhase (Protects (protect.LoadsReadOnly phase)) = true
goes_by OfReadOnly (Protects (protect.LoadsReadOnly phase)) = false
goes_by OfHead (Protects (protect.LoadsReadOnly phase)) = false
goes_by OfPhase (Protects (protect.LoadsHead phase read_only)) = true
goes_by OfReadOnly (Protects (protect.LoadsHead phase read_only)) = true
goes_by OfHead (Protects (protect.LoadsHead phase read_only)) = false
goes_by sight machine = true

-- the epoch at the session's load of a value
abbrev pub load_of : Loads → Sight → ℕ
load_of l OfPhase = l.phase
load_of l OfReadOnly = l.read_only
load_of l OfHead = l.head

-- a protected session goes by this value: its epoch word isn't 0, and it has loaded the value since it was last protected
pub record Counts (n : EpochNow) (session : ℕ) (sight : Sight) : Type 0 where
  pub is_session : session < n.sessions
  pub is_protected : 0 < own_epoch n.words session
  pub machine : EpochMachine
  pub its_machine : slice_get n.actors session ≡ Some machine
  pub has_loaded : goes_by sight machine ≡ true

-- The epoch was above c when the session last loaded the value, so it loaded it after c was raised. It is said of each
-- session and each value that counts; a session in the middle of protecting itself has loaded none yet.
unfoldable pub SeenSinceRaise : EpochWorld → ℕ → Type 0
SeenSinceRaise w c = (session : ℕ) (sight : Sight) → Counts w.now session sight → c < load_of (w.past.loads session) sight

-- The same of the load in force, which while a refresh is under way is one before the last: the session goes on by what it had until the
-- refresh stores its epoch, and it had loaded that too after c was raised.
unfoldable pub InForceSinceRaise : EpochWorld → ℕ → Type 0
InForceSinceRaise w c = (session : ℕ) (sight : Sight) → Counts w.now session sight → c < load_of (w.past.in_force session) sight

-- the claims that this event makes: one where it is a Cas that claims an armed slot
abbrev pub claims_found : EpochNow → ℕ → Option EpochMachine → List Claimed
claims_found n actor None = []
claims_found n actor (Some machine) = claimed_by n actor machine

abbrev pub claims_of : EpochNow → EpochEvent → List Claimed
claims_of n (Moves actor) = claims_found n actor (slice_get n.actors actor)
claims_of n event = []

-- x is one of the list
abbrev pub Among : {X : Type 0} → X → List X → Type 0
Among x [] = ⊥
Among x (y ∷ ys) = (x ≡ y) ⊎ Among x ys

-- no two numbers of the list are the same
abbrev pub AreDifferent : List ℕ → Type 0
AreDifferent [] = ⊤
AreDifferent (x ∷ xs) = (¬ Among x xs) × AreDifferent xs

-- Each epoch arms one action at most, which is claimed once at most and run once at most, by the actor that claimed it.
pub record RunsOnce (armed : List Armed) (claims : List Claimed) (runs : List Ran) : Type 0 where
  pub armed_once : AreDifferent (map (λ (x : Armed). x.epoch) armed)
  pub claimed_once : AreDifferent (map (λ (x : Claimed). x.epoch) claims)
  pub run_once : AreDifferent (map (λ (x : Ran). x.epoch) runs)
  pub by_the_claimer : (x : Ran) → Among x runs → Among (record { actor = x.actor; slot = x.slot; epoch = x.epoch }) claims
  pub the_armed_action : (x : Ran) → Among x runs → Among (record { slot = x.slot; epoch = x.epoch; action = x.action }) armed

-- so do all that ever were
abbrev pub HasRunOnce : EpochPast → Type 0
HasRunOnce past = RunsOnce past.armed past.claims past.runs

-- the action that was armed there at c is at home in the slot
pub record FindsAction (w : EpochWorld) (slot c : ℕ) : Type 0 where
  pub action : Action
  pub at_home : action_at w.now.actions slot ≡ Some action
  pub was_armed : Among (record { slot = slot; epoch = c; action = action }) w.past.armed

-- an actor that has raised the epoch finds its slot empty
abbrev pub PutsIntoEmpty : EpochWorld → Type 0
PutsIntoEmpty w = (actor slot c : ℕ) → slice_get w.now.actors actor ≡ Some (HasRaised slot c) → action_at w.now.actions slot ≡ None

-- an actor whose Cas claims a slot finds its action there, and so none ever waits for one
pub record ClaimsFromFull (w : EpochWorld) : Type 0 where
  pub finds : (actor slot word safe : ℕ) → slice_get w.now.actors actor ≡ Some (Claims (claim.TakesSlot slot word safe)) → drain_word w.now.words slot ≡ word → FindsAction w slot (word - 2)
  pub waits : (actor slot c safe : ℕ) → ¬ (slice_get w.now.actors actor ≡ Some (Claims (claim.Receives slot c safe)))
