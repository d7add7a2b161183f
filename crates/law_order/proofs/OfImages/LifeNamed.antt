-- Which commit an image of a life names.
use Rattle.std.proofs.Common.{◌≡◌, ◌⊎◌, ℕ, ◌≤◌, refl, sym, subst, List}
use Rattle.fkv_base.specs.declared.commits.CommitKind.TheVariants.{Full}
use Rattle.fkv_disk.specs.Calls.{Call, MayLeave}
use Rattle.law_commit.specs.Below.fkv_keeper.Keeping.{KeeperState}
use Rattle.fkv_record.specs.Places.{most_triples}
use Rattle.law_commit.specs.Below.fkv_world.OwnEvents.{keeper_events}
use Rattle.law_commit.specs.Below.fkv_world.Runs.{World, run}
use Rattle.law_commit.specs.Below.fkv_world.World.{Event}
use Rattle.law_commit.specs.BegunCommits.{BegunCommit, commit_opened, life_begun}
use Rattle.law_commit.specs.HeldCommits.{IsAsLast}
use Rattle.law_log.specs.Trace.{IsIn}
use Rattle.law_order.proofs.OfImages.NamedNow.{AllGood, Named, SealedStands, StandsUncalled, named_now, run_holds}
use Rattle.law_order.proofs.OfImages.Begun.{plain}
use Rattle.law_order.proofs.OfImages.BegunRun.{known}
use Rattle.law_commit.proofs.Below.law_world.OfKeeper.OwnRun.{to_keeper}
use Rattle.law_commit.specs.Below.law_world.Keeper.Lives.{IsLifeTold, is_life_writing, keeper_after, life_standing, life_writing}
use Rattle.law_commit.specs.Below.law_world.Standing.CallsMade.{calls_made}
use Rattle.law_commit.specs.Below.law_world.Standing.Standing.{IsOneInForce, TriplesStand}

-- the opening's commit is the last as the life begins
opening_last : (opening : World) → IsAsLast opening.now.keeper.last (commit_opened opening.now opening.past.opened)
opening_last opening = record { number = refl; begin = refl; points = refl; checkpoint = refl }

-- the commits of this opening, by what is known of those whose writes begin
abbrev pub AllOfLife : World → (BegunCommit → Type 0) → List Event → Type 0
AllOfLife opening Good events = AllGood opening.now.shape opening.now.places opening.now.keeper Good (keeper_events opening events)

pub life_named : StandsUncalled → (opening : World) (Good : BegunCommit → Type 0) (events : List Event) (image : List ℕ) → IsLifeTold opening events → AllOfLife opening Good events
    → ((c : BegunCommit) → Good c → c.parts.kind ≡ Full → c.parts.checkpoint.triples ≤ most_triples opening.now.shape)
    → calls_made opening.now.shape opening.now.places opening.now.keeper (keeper_events opening events) ≡ (run opening events).past.calls → SealedStands (life_begun opening events) (life_writing opening events).first image
    → MayLeave opening.past.opened (run opening events).past.calls image
    → IsOneInForce (is_life_writing opening events) (run opening events).now.keeper.last (life_standing opening events) (life_writing opening events).first image
    → TriplesStand opening.now.shape (run opening events).now.keeper.last.checkpoint (life_standing opening events) image
    → Named opening.now.shape opening.past.opened (commit_opened opening.now opening.past.opened) Good (life_begun opening events) image
life_named gates opening Good events image life good fits calls seals left stands stand =
    let s : KeeperState = keeper_after opening (keeper_events opening events) in
    let first : BegunCommit = commit_opened opening.now opening.past.opened in
    let holds = run_holds opening.now.shape opening.now.places opening.past.opened opening.now.keeper first Good life.told (opening_last opening) refl (keeper_events opening events) life.in_turn good in
    named_now opening.now.shape opening.past.opened first Good gates fits (is_life_writing opening events) s (life_standing opening events) (life_writing opening events)
    (calls_made opening.now.shape opening.now.places opening.now.keeper (keeper_events opening events)) (life_begun opening events) image holds seals
    (subst (λ (m : List Call). MayLeave opening.past.opened m image) (sym calls) left)
    (to_keeper (λ (x : KeeperState). IsOneInForce (is_life_writing opening events) x.last (life_standing opening events) (life_writing opening events).first image) opening events stands)
    (to_keeper (λ (x : KeeperState). TriplesStand opening.now.shape x.last.checkpoint (life_standing opening events) image) opening events stand)

-- each that has begun is known, but the opening's
pub life_known : (opening : World) (Good : BegunCommit → Type 0) (events : List Event) → IsLifeTold opening events → AllOfLife opening Good events
    → (d : BegunCommit) → IsIn d (life_begun opening events) → Good (plain d) ⊎ (d ≡ commit_opened opening.now opening.past.opened)
life_known opening Good events life good d is =
    let s : KeeperState = keeper_after opening (keeper_events opening events) in
    let first : BegunCommit = commit_opened opening.now opening.past.opened in
    known opening.now.shape opening.past.opened first Good (is_life_writing opening events) s (life_standing opening events) (life_writing opening events)
    (calls_made opening.now.shape opening.now.places opening.now.keeper (keeper_events opening events)) (life_begun opening events)
    (run_holds opening.now.shape opening.now.places opening.past.opened opening.now.keeper first Good life.told (opening_last opening) refl (keeper_events opening events) life.in_turn good) d is
