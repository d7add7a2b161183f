-- A word that is due is one step of the keeper, which moves no action.
use Rattle.std.proofs.Common.{◌≡◌, ℕ, refl, sym, subst, false, true}
use Rattle.std.specs.Prelude.{Some}
use Rattle.atomic_table.specs.Table.{Me}
use Rattle.fkv_plane.specs.declared.asks.Ask.{Ask}
use Rattle.fkv_plane.specs.declared.asks.Ask.TheVariants.{Load, Store, Swap, Cas, Add, Max, Put, Take, Done}
use Rattle.fkv_keeper.specs.declared.answers.KeeperTold.{KeeperTold}
use Rattle.fkv_keeper.specs.Keeping.{KeeperModel, keeper_ask, keeper_next, keeper_word_due}
use Rattle.fkv_keeper.proofs.Shown.{MovesNone, due_asks, kept_moves}
use Rattle.law_world.specs.Below.fkv_world.Runs.{World}
use Rattle.fkv_table.specs.declared.happenings.Happening.TheVariants.{KeeperMoves}
use Rattle.fkv_table.specs.Asks.{step_of}
use Rattle.fkv_table.specs.Desks.{Slot, Knows}
use Rattle.fkv_table.specs.KeeperCalls.{IsBeginning}
use Rattle.fkv_table.specs.Keeps.{IsKeeping, KeeperReplied, KeeperSettled, adding}
use Rattle.fkv_table.specs.Openings.{IsGuardedOpening}
use Rattle.fkv_table.proofs.KeeperCommits.{step_begins}
use Rattle.fkv_table.proofs.KeeperSettled.{IsKeeperStep, keeper_stepped}
use Rattle.fkv_table.proofs.KeeperSteps.{keeper_replies}

module _ {K : Type 0} (at : K → World) where
  -- where no action goes with an ask nothing is left to settle
  settles_none : (ask : Ask KeeperTold) (me : Me Slot (Knows K)) (k : KeeperModel) → MovesNone ask → KeeperSettled at ask me k me k
  settles_none (Load place) me k none = (refl, refl)
  settles_none (Store place new) me k none = (refl, refl)
  settles_none (Swap place new) me k none = (refl, refl)
  settles_none (Cas place old new) me k none = (refl, refl)
  settles_none (Add place number) me k none = (refl, refl)
  settles_none (Max place number) me k none = (refl, refl)
  settles_none (Put slot action) me k none = absurd none
  settles_none (Take slot) me k none = absurd none
  settles_none (Done its) me k none = (refl, refl)

  module _ (key : K) (slots : ℕ) (me me' : Me Slot (Knows K)) (k k' : KeeperModel) (place word : ℕ) (guard : IsGuardedOpening (at key)) (its : IsKeeping at key me k) (due : keeper_word_due k.places k.state ≡ Some place)
      (told : adding at (KeeperMoves false true) (step_of {A = KeeperTold} slots (Load place)) me word me') (went : k' ≡ record k { state = keeper_next k.shape k.places k.state word false }) where
    abbrev load : Ask KeeperTold
    load = Load place

    asked : load ≡ keeper_ask k.shape k.places k.state
    asked = sym (due_asks k.shape k.places k.state place due)

    replied : KeeperReplied at key me false k me' k'
    replied = keeper_replies at key slots me me' k k' (KeeperMoves false true) false load word guard its refl asked (place, refl) told went

    settled : KeeperSettled at (keeper_ask k'.shape k'.places k'.state) me' k' me' k'
    settled =
        settles_none (keeper_ask k'.shape k'.places k'.state) me' k'
        (subst (λ (m : KeeperModel). MovesNone (keeper_ask m.shape m.places m.state)) (sym went) (kept_moves k.shape k.places k.state place word false due))

    pub word_stepped : IsKeeperStep at key me k me' k'
    word_stepped = keeper_stepped at key me me' me' k k' k' false load (keeper_ask k'.shape k'.places k'.state) guard its replied asked (place, refl) refl settled

    pub word_begins : IsBeginning k.state.step → IsBeginning k'.state.step
    word_begins b = step_begins at key me me' me' false k k' k' (keeper_ask k'.shape k'.places k'.state) replied settled b
