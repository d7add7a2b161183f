-- An update that takes effect by an event of a life is in hand in the log beside it.
use Rattle.std.proofs.Common.{◌≡◌, ◌∙◌, inl, inr, List, [], ◌∷◌, ap, sym, subst}
use Rattle.std.specs.Prelude.{Option, Some}
use Rattle.fkv_base.specs.declared.numbers.Version.{Version}
use Rattle.fkv_map.specs.declared.history.HistoryEntry.{HistoryEntry}
use Rattle.law_log.specs.Ghosts.{Ghosts}
use Rattle.law_log.specs.Enabled.{IsInHand}
use Rattle.law_log.specs.Trace.{TraceLine, called_as, Effect as LogEffect}
use Rattle.law_commit.specs.Below.law_world.Runs.Added.{IsEffectOf, IsHistoryAfter}
use Rattle.law_commit.specs.Below.fkv_world.Past.{Effect, effect_made}
use Rattle.law_commit.specs.Below.fkv_world.Runs.{happens, run}
use Rattle.law_commit.specs.Below.fkv_world.World.{Event}
use Rattle.law_commit.proofs.Below.law_world.OfRuns.Added.{history_so}
use Rattle.law_commit.specs.Below.law_refine.Calls.Calls.{IsUpdateInHand, effects_of_life, entries_of, lines_of_life}
use Rattle.law_commit.proofs.Below.law_refine.OfCalls.InHand.{effect_in_hand}
use Rattle.law_commit.proofs.Below.law_refine.OfCalls.LifeHistory.{life_entries}
use Rattle.law_commit.proofs.Below.law_refine.OfCalls.SameHistory.{same_update}
use Rattle.law_order.specs.Known.Begins.{BegunLife}
use Rattle.law_commit.specs.Below.law_refine.Events.GhostEvents.{life_ghosts}
use Rattle.law_commit.proofs.Below.law_refine.OfEvents.Trace.{ghost_trace}
use Rattle.law_commit.specs.Below.law_refine.Records.Changes.{AreChangesPublished}
use Rattle.law_commit.proofs.Below.law_refine.OfRecords.Meets.{life_meets_published}

-- ---- the log's trace and history beside a life are the life's
pub life_same_trace : (life : BegunLife) (events : List Event) → (life_ghosts life.opening life.ghosts events).trace ≡ lines_of_life life.opening events
life_same_trace life events = ghost_trace life.opening life.ghosts events life.begins.world.no_trace life.begins.log.no_trace

pub life_same_entries : (life : BegunLife) (events : List Event)
    → AreChangesPublished life.opening life.ghosts events → entries_of (life_ghosts life.opening life.ghosts events).log.history ≡ entries_of (effects_of_life life.opening events)
life_same_entries life events published =
    life_entries life.opening life.start life.ghosts events life.begins.world life.begins.store.now life.begins.unborn life.begins.reserves life.begins.log.no_history
    (life_meets_published life.opening life.start life.ghosts life.begins.store.now life.begins.unborn life.begins.reserves events published)

in_log : (g : Ghosts) (effects : List LogEffect) (lines : List TraceLine) (entry : HistoryEntry) → g.trace ≡ lines → entries_of g.log.history ≡ entries_of effects → IsUpdateInHand effects lines entry → IsInHand g entry
in_log g effects lines entry same_trace same_entries its = record {
  called = ap (λ (x : List TraceLine). called_as x entry.session entry.serial.0) same_trace ∙ its.called;
  none_yet = λ has. its.none_yet (same_update g.log.history effects entry.session entry.serial.0 same_entries has);
}

-- ---- what an event makes in the history is its effect
not_longer : {X : Type 0} (x : X) (before : List X) → x ∷ before ≡ before → ⊥
not_longer x [] e = cc
not_longer x (y ∷ before) e = let rest : y ∷ before ≡ before = cc in not_longer y before rest

first_same : {X : Type 0} (x y : X) (before : List X) → x ∷ before ≡ y ∷ before → x ≡ y
first_same x y before e = cc

module _ (life : BegunLife) where
  effect_so : (before : List Event) (event : Event) (its : Effect) → AreChangesPublished life.opening life.ghosts before
      → IsEffectOf (run life.opening before) event its → IsInHand (life_ghosts life.opening life.ghosts before) its.entry
  effect_so before event its published from =
      in_log (life_ghosts life.opening life.ghosts before) (effects_of_life life.opening before) (lines_of_life life.opening before) its.entry (life_same_trace life before)
      (life_same_entries life before published) (effect_in_hand life.opening before event its life.begins.world from)

  pub made_in_hand : (before : List Event) (event : Event) (made : Option HistoryEntry) (its_version : Version) (entry : HistoryEntry) → AreChangesPublished life.opening life.ghosts before
      → (happens (run life.opening before) event).past.history ≡ effect_made made its_version (run life.opening before).past.history → made ≡ Some entry → IsInHand (life_ghosts life.opening life.ghosts before) entry
  made_in_hand before event made its_version entry published history is = by_history (history_so (run life.opening before) event)
    where
      its : Effect
      its = record { entry = entry; version = its_version }

      after : (happens (run life.opening before) event).past.history ≡ its ∷ (run life.opening before).past.history
      after = history ∙ ap (λ (x : Option HistoryEntry). effect_made x its_version (run life.opening before).past.history) is

      by_history : IsHistoryAfter (run life.opening before) event (happens (run life.opening before) event).past.history → IsInHand (life_ghosts life.opening life.ghosts before) entry
      by_history (inl same) = absurd (not_longer its (run life.opening before).past.history (sym after ∙ same))
      by_history (inr other) =
          let same : other.0 ≡ its = first_same other.0 its (run life.opening before).past.history (sym other.1 ∙ after) in
          subst (λ (x : Effect). IsInHand (life_ghosts life.opening life.ghosts before) x.entry) same (effect_so before event other.0 published other.2)
