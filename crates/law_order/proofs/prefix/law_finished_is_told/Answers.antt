-- The law, by what the keeper of an opened store has as the newest finished commit.
use Rattle.std.proofs.Common.{◌≡◌, ℕ, List, [], ◌∷◌, subst}
use Rattle.law_opening.specs.Below.fkv_core.Openings.{beginning}
use Rattle.law_commit.specs.Below.fkv_keeper.Keeping.{Finality}
use Rattle.law_opening.specs.Below.fkv_opening.TheOpened.{Opened}
use Rattle.law_commit.specs.Below.fkv_world.World.{Event, Now}
use Rattle.law_commit.specs.FinishedCommits.{commits_finished, commits_told, told_of}
use Rattle.law_order.specs.Prefix.Law.{past_so_far, trace_so_far}
use Rattle.law_order.proofs.OfRules.Beginning.{world_opens}
use Rattle.law_order.proofs.prefix.law_finished_is_told.Goals as goal

pub returns : goal.returns
returns c = λ its is.
    let n : Now = its.world in
    let bytes : List ℕ = its.bytes in
    let o : Opened = its.opened in
    let events : List Event = its.events in
    let keeper = is.begins.its_keeper in
    subst (λ (last : Finality). commits_finished (past_so_far n bytes events).begun ≡ commits_told (trace_so_far n bytes events) (told_of last ∷ [])) keeper.newest
    (c.law_begun.ensures.finished (beginning n bytes) events (world_opens o n bytes is.begins))
