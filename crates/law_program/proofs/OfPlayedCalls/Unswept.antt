-- Where turns don't sweep, the keeper sweeps nothing: a step begins no sweep then, and an event of a session leaves the keeper as it is.
use Rattle.std.proofs.Common.{◌≡◌, ◌∙◌, ℕ, zero, suc, List, [], ◌∷◌, ◌++◌, replicate, ap, refl, sym, false}
use Rattle.law_order.specs.Below.fkv_core.Unswept.{NeverSweeps}
use Rattle.law_order.specs.Below.fkv_core.Worlds.{BeginsNoSweep}
use Rattle.fkv_core.proofs.Shown.{unswept_idle}
use Rattle.law_order.specs.Below.fkv_keeper.Keeping.{KeeperState}
use Rattle.fkv_map.specs.declared.operations.Call.{Call}
use Rattle.law_order.specs.Below.fkv_world.Actors.{is_of_keeper}
use Rattle.law_order.specs.Below.fkv_world.Opened.{IsOpenedWorld}
use Rattle.law_order.specs.Below.fkv_world.Runs.{World, run}
use Rattle.law_order.specs.Below.fkv_world.World.{Calls, Event, Moves, Now}
use Rattle.law_order.proofs.Below.fkv_world.Shown.{keeper_apart}
use Rattle.law_program.specs.PlayedCalls.PlayedCalls.{called_alone}

-- ---- a step that begins no sweep
pub step_unswept : (opening : World) (event : Event) (life : List Event) (n after : Now) → IsOpenedWorld opening → NeverSweeps opening life → (run opening life).now ≡ n → (run opening (event ∷ life)).now ≡ after
    → BeginsNoSweep n.keeper after.keeper → NeverSweeps opening (event ∷ life)
step_unswept opening event life n after opened never was is none =
    (λ sweeps. unswept_idle opening life opened never (ap (λ (x : Now). x.keeper.step) was ∙ none (sym (ap (λ (x : Now). x.keeper.step) is) ∙ sweeps)), never)

-- ---- events of a session
one_unswept : (opening : World) (event : Event) (life : List Event) → IsOpenedWorld opening → is_of_keeper event ≡ false → NeverSweeps opening life → NeverSweeps opening (event ∷ life)
unfolding run
one_unswept opening event life opened other never =
    (λ sweeps. unswept_idle opening life opened never (sym (ap (λ (s : KeeperState). s.step) (keeper_apart (run opening life) event other)) ∙ sweeps), never)

moves_unswept : (opening : World) (number count : ℕ) (life : List Event) → IsOpenedWorld opening → NeverSweeps opening life → NeverSweeps opening (replicate count (Moves number) ++ life)
moves_unswept opening number zero life opened never = never
moves_unswept opening number (suc count) life opened never = one_unswept opening (Moves number) (replicate count (Moves number) ++ life) opened refl (moves_unswept opening number count life opened never)

pub call_unswept : (opening : World) (number count : ℕ) (asked : Call) (life : List Event) → IsOpenedWorld opening → NeverSweeps opening life → NeverSweeps opening (called_alone number count asked life)
call_unswept opening number count asked life opened never =
    moves_unswept opening number count (Calls number asked ∷ life) opened (one_unswept opening (Calls number asked) life opened refl never)

-- ---- and so before
pub unswept_before : (opening : World) (behind before : List Event) → NeverSweeps opening (behind ++ before) → NeverSweeps opening before
unswept_before opening [] before never = never
unswept_before opening (event ∷ behind) before never = unswept_before opening behind before never.1
