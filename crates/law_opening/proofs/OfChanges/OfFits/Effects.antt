-- All that has taken effect in a life was called, so its operations fit in words.
use Rattle.std.proofs.Common.{inl, inr, sym, subst, List, [], ◌∷◌}
use Rattle.fkv_map.specs.Fits.{OpFits}
use Rattle.law_refine.specs.Below.fkv_world.Opened.{IsOpenedWorld}
use Rattle.law_refine.specs.Below.fkv_world.Past as world
use Rattle.law_refine.specs.Below.fkv_world.Runs.{World, run}
use Rattle.law_refine.specs.Below.fkv_world.World.{Event}
use Rattle.law_opening.proofs.OfChanges.OfFits.Lines.{FoundFits, called_fits, life_lines_fit}
use Rattle.law_opening.proofs.OfChanges.OfFits.Logs.{AllOpsFit}
use Rattle.law_opening.specs.Changes.Fits.{CallsFit}
use Rattle.law_refine.proofs.OfCalls.InHand.{effect_in_hand}
use Rattle.law_refine.specs.Calls.Calls.{effects_in_log, effects_of_life, entries_of, lines_of_life}
use Rattle.law_refine.proofs.Below.law_world.OfRuns.Added.{history_so}
use Rattle.law_refine.specs.Below.law_world.Runs.Added.{IsEffectOf}

abbrev EntriesFit : List world.Effect → Type 0
EntriesFit effects = AllOpsFit (entries_of (effects_in_log effects))

effect_fits : (opening : World) (before : List Event) (event : Event) (its : world.Effect) → IsOpenedWorld opening → CallsFit before → IsEffectOf (run opening before) event its → OpFits its.entry.op
effect_fits opening before event its opened fits from =
    let called = (effect_in_hand opening before event its opened from).called in
    subst FoundFits called (called_fits (lines_of_life opening before) its.entry.session its.entry.serial.0 (life_lines_fit opening before opened.no_trace fits))

pub effects_fit : (opening : World) (events : List Event) → IsOpenedWorld opening → CallsFit events → AllOpsFit (entries_of (effects_of_life opening events))
unfolding run
effects_fit opening [] opened fits = subst EntriesFit (sym opened.no_history) tt
effects_fit opening (event ∷ before) opened fits =
    let was : EntriesFit (run opening before).past.history = effects_fit opening before opened fits.1 in
    elim (history_so (run opening before) event) [
      | inl same ↦ subst EntriesFit (sym same) was
      | inr its ↦ subst EntriesFit (sym its.1) (effect_fits opening before event its.0 opened fits.1 its.2, was)
    ]
