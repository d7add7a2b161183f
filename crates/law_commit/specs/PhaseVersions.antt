-- The version that the phase word says.
use Rattle.std.specs.Prelude.{◌≡◌, ◌+◌, ◌≤◌, ⊤, ℕ, List, [], ◌∷◌, Some, slice_get}
use Rattle.fkv_base.specs.declared.phases.Phase.TheVariants.{Rest}
use Rattle.fkv_words.specs.declared.phase_words.PhaseSaid.{PhaseSaid}
use Rattle.fkv_words.specs.declared.phase_words.PhaseSaid.TheVariants.{Says, Spoiled}
use Rattle.fkv_words.specs.PhaseWords.{phase_said}
use Rattle.fkv_plane.specs.declared.places.SharedWord.TheVariants as one
use Rattle.fkv_plane.specs.Asked.{word_at}
use Rattle.fkv_plane.specs.Places.{shared_place}
use Rattle.law_refine.specs.Below.fkv_session.Sessions.{SessionState}
use Rattle.law_refine.specs.Below.fkv_world.Runs.{World, run}
use Rattle.law_refine.specs.Below.fkv_world.World.{Event, Now}

-- of a word that says nothing, 0
abbrev pub version_said : PhaseSaid → ℕ
version_said Spoiled = 0
version_said (Says phase version) = version.0

abbrev pub phase_version : List ℕ → ℕ
phase_version words = version_said (phase_said (word_at words (shared_place one.Phase)))

-- as a life begins no session goes by a later version
unfoldable pub NoneIsAhead : Now → Type 0
NoneIsAhead n = (session : ℕ) (its : SessionState) → slice_get n.sessions session ≡ Some its → its.seen.version.0 ≤ phase_version n.words

-- over a life it never falls
unfoldable pub HasRisingPhase : World → List Event → Type 0
HasRisingPhase opening [] = ⊤
HasRisingPhase opening (event ∷ before) =
    (phase_version (run opening before).now.words ≤ phase_version (run opening (event ∷ before)).now.words) × HasRisingPhase opening before

-- rest is of the version behind this number
abbrev pub RestIsNext : ℕ → PhaseSaid → Type 0
RestIsNext last (Says Rest version) = version.0 ≡ last + 1
RestIsNext last said = ⊤

-- In a life the phase word says rest only of the version behind the newest finished commit's number.
unfoldable pub RestsAreNext : World → List Event → Type 0
RestsAreNext opening [] = ⊤
RestsAreNext opening (event ∷ before) =
    RestIsNext (run opening before).now.keeper.last.number.0 (phase_said (word_at (run opening before).now.words (shared_place one.Phase))) × RestsAreNext opening before
