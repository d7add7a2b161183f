-- What the machines load and store, said by the words and the replies alone, beside their tables.
use Rattle.std.specs.Prelude.{◌≡◌, ℕ, ◌<◌, ◌≤◌, List, [], ◌∷◌, Option, Some, None}
use Rattle.fkv_base.specs.Limits.{last_epoch}
use Rattle.fkv_words.specs.declared.wide_phase.WidePhase.{WidePhase}
use Rattle.fkv_words.specs.Layout.{wide_word}
use Rattle.fkv_plane.specs.declared.actions.Action.TheVariants as act
use Rattle.fkv_plane.specs.declared.asks.Ask.{Ask}
use Rattle.fkv_plane.specs.declared.asks.Ask.TheVariants.{Load, Store, Done}
use Rattle.fkv_plane.specs.declared.places.SharedWord.TheVariants as one
use Rattle.fkv_plane.specs.declared.places.SessionWord.TheVariants as own
use Rattle.fkv_plane.specs.Places.{shared_place, session_place, drain_place}
use Rattle.fkv_epoch.specs.declared.values.Seen.{Seen}
use Rattle.fkv_epoch.specs.declared.protecting.Protecting.{Protecting}
use Rattle.fkv_epoch.specs.declared.protecting.Protecting.TheVariants as protect
use Rattle.fkv_epoch.specs.declared.refreshing.RefreshAnswer.{RefreshAnswer}
use Rattle.fkv_epoch.specs.declared.refreshing.RefreshAnswer.TheVariants.{Loaded, Stored}
use Rattle.fkv_epoch.specs.declared.refreshing.Refreshing.{Refreshing}
use Rattle.fkv_epoch.specs.declared.refreshing.Refreshing.TheVariants as refresh
use Rattle.fkv_epoch.specs.declared.raising.RaiseAnswer.TheVariants.{Spent}
use Rattle.fkv_epoch.specs.declared.raising.Raising.TheVariants as raise
use Rattle.fkv_epoch.specs.declared.claiming.Claiming.TheVariants as claim
use Rattle.fkv_epoch.specs.Protecting.{protect_ask, protect_next, protect_next_ask}
use Rattle.fkv_epoch.specs.Refreshing.{refresh_ask, refresh_next, refresh_finish}
use Rattle.fkv_epoch.specs.Leaving.{leave_ask}
use Rattle.fkv_epoch.specs.Scanning.{scan_ask}
use Rattle.fkv_epoch.specs.Claiming.{claim_ask}
use Rattle.fkv_epoch.specs.Raising.{raise_ask, raise_next, raise_next_ask}
use Rattle.fkv_epoch.specs.Arming.{arm_ask}
use Rattle.fkv_epoch.specs.Values.{seen}
use Rattle.fkv_epoch.specs.EpochWorld.{EpochMachine, Protects, Refreshes, Leaves, Scans, Claims, Raises, HasRaised, Arms, Sight, OfPhase, OfReadOnly, OfHead, sight_of}

-- the word of each value that a session goes by
abbrev pub sight_place : Sight → ℕ
sight_place OfPhase = shared_place one.Phase
sight_place OfReadOnly = shared_place one.ReadOnly
sight_place OfHead = shared_place one.Head

-- the place that an ask loads, if it is a load
abbrev pub place_loaded : {A : Type 0} → Ask A → Option ℕ
place_loaded (Load place) = Some place
place_loaded ask = None

-- the place that a session's machine loads next, by the machine's own table
abbrev pub machine_loads : ℕ → EpochMachine → Option ℕ
machine_loads session (Protects step) = place_loaded (protect_ask session step)
machine_loads session (Refreshes step) = place_loaded (refresh_ask session step)
machine_loads session (Leaves step) = place_loaded (leave_ask session step)
machine_loads session (Scans step) = place_loaded (scan_ask step)
machine_loads session (Claims step) = place_loaded (claim_ask step)
machine_loads session (Raises step) = place_loaded (raise_ask step)
machine_loads session (HasRaised slot epoch) = None
machine_loads session (Arms step) = place_loaded (arm_ask step)

-- A machine that is said to load a value loads that value's word.
abbrev pub LoadsItsSight : Type 0
LoadsItsSight = (session : ℕ) (machine : EpochMachine) (sight : Sight) → sight_of machine ≡ Some sight → machine_loads session machine ≡ Some (sight_place sight)

-- the step to which these replies lead a refresh, the first reply first
abbrev pub refresh_told : Refreshing → List ℕ → Refreshing
refresh_told step [] = step
refresh_told step (reply ∷ replies) = refresh_told (refresh_next step reply) replies

-- all that it asks as they come
abbrev pub refresh_asked : ℕ → Refreshing → List ℕ → List (Ask RefreshAnswer)
refresh_asked session step [] = refresh_ask session step ∷ []
refresh_asked session step (reply ∷ replies) = refresh_ask session step ∷ refresh_asked session (refresh_next step reply) replies

-- A refresh that is told the epoch and the three values, in this order, answers with these three, each in its place, and once it is
-- finished stores the epoch that it was told.
pub record RefreshIsTold (session epoch phase read_only head reply : ℕ) : Type 0 where
  pub asks : refresh_asked session refresh.LoadsEpoch (epoch ∷ phase ∷ read_only ∷ head ∷ [])
      ≡ Load (shared_place one.Epoch) ∷ Load (sight_place OfPhase) ∷ Load (sight_place OfReadOnly) ∷ Load (sight_place OfHead) ∷ Done (Loaded (seen phase read_only head)) ∷ []
  pub has_loaded : refresh_told refresh.LoadsEpoch (epoch ∷ phase ∷ read_only ∷ head ∷ []) ≡ refresh.HasLoaded epoch (seen phase read_only head)
  pub stores : refresh_asked session (refresh_finish (refresh.HasLoaded epoch (seen phase read_only head))) (reply ∷ []) ≡ Store (session_place session own.Epoch) epoch ∷ Done Stored ∷ []

-- the step to which these replies lead a protect
abbrev pub protect_told : Protecting → List ℕ → Protecting
protect_told step [] = step
protect_told step (reply ∷ replies) = protect_told (protect_next step reply) replies

-- this ask, and all that a protect at this step asks after it as the replies come
abbrev pub protect_asked : ℕ → Protecting → Ask Seen → List ℕ → List (Ask Seen)
protect_asked session step ask [] = ask ∷ []
protect_asked session step ask (reply ∷ replies) = ask ∷ protect_asked session (protect_next step reply) (protect_next_ask session step reply) replies

-- A protect stores the epoch that it is told, and answers with the three values that it is told after that, each in its place. (The store's
-- reply counts for nothing.)
pub record ProtectIsTold (session epoch stored phase read_only head : ℕ) : Type 0 where
  pub asks : protect_asked session protect.LoadsEpoch (protect_ask session protect.LoadsEpoch) (epoch ∷ stored ∷ phase ∷ read_only ∷ head ∷ [])
      ≡ Load (shared_place one.Epoch) ∷ Store (session_place session own.Epoch) epoch ∷ Load (sight_place OfPhase) ∷ Load (sight_place OfReadOnly) ∷ Load (sight_place OfHead)
      ∷ Done (seen phase read_only head) ∷ []
  pub is_through : protect_told protect.LoadsEpoch (epoch ∷ stored ∷ phase ∷ read_only ∷ head ∷ []) ≡ protect.AtRest

-- the three values of what is seen are these
pub record HasSeen (values : Seen) (phase read_only head : ℕ) : Type 0 where
  pub its_phase : values.phase ≡ phase
  pub its_read_only : values.read_only.0 ≡ read_only
  pub its_head : values.head.0 ≡ head

-- A raise loads the epoch. Told the last one, or more, it ends as spent, and no slot is sought.
pub record IsSpent (epoch : ℕ) : Type 0 where
  pub answers : raise_next_ask raise.LoadsEpoch epoch ≡ Done Spent
  pub is_through : raise_next raise.LoadsEpoch epoch ≡ raise.AtRest

-- Told less, it seeks a slot, from the first on.
pub record SeeksSlot (epoch : ℕ) : Type 0 where
  pub asks : raise_next_ask raise.LoadsEpoch epoch ≡ Load (drain_place 0)
  pub meets : raise_next raise.LoadsEpoch epoch ≡ raise.MeetsSlot 0

pub record RaiseIsTold : Type 0 where
  pub loads : raise_ask raise.LoadsEpoch ≡ Load (shared_place one.Epoch)
  pub spent : (epoch : ℕ) → last_epoch ≤ epoch → IsSpent epoch
  pub seeks : (epoch : ℕ) → epoch < last_epoch → SeeksSlot epoch

-- A claimer that runs a phase's action stores the word of that phase and version.
abbrev pub StoresPhase : Type 0
StoresPhase = (slot epoch safe : ℕ) (x : WidePhase) → claim_ask (claim.Runs slot epoch safe (act.Phase x.phase x.version)) ≡ Store (sight_place OfPhase) (wide_word x)
