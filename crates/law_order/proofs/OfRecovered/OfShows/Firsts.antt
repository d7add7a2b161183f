-- The first address of a commit of a life isn't below the tail with which the life began.
use Rattle.std.proofs.Common.{◌≡◌, ℕ, ◌<◌, ◌≤◌, arith, ap, List, []}
use Rattle.law_opening.specs.Below.fkv_core.Openings.{IsOpeningWorld, beginning}
use Rattle.law_commit.specs.Below.fkv_keeper.Keeping.{Finality}
use Rattle.law_commit.specs.Below.fkv_keeper.Checkpoint.{Checkpoint}
use Rattle.law_opening.specs.Below.fkv_opening.TheOpened.{Opened}
use Rattle.fkv_plane.specs.declared.places.SharedWord.TheVariants as one
use Rattle.fkv_plane.specs.Asked.{word_at}
use Rattle.fkv_plane.specs.Places.{shared_place}
use Rattle.law_commit.specs.Below.fkv_world.Runs.{World, run}
use Rattle.law_commit.specs.Below.fkv_world.World.{Event, Now}
use Rattle.law_commit.specs.BegunCommits.{BegunCommit}
use Rattle.law_commit.specs.Decided.Ended.{HasEnded, Span, span_of, span_opened}
use Rattle.law_commit.specs.Below.law_world.Guarded.Shows as guard
use Rattle.law_commit.proofs.Below.law_refine.OfEvents.Fixed.{life_rises}
use Rattle.law_commit.specs.Below.law_refine.Events.Reserved.{tail_at}

pub opened_tail : (o : Opened) (n : Now) → IsOpeningWorld o n → tail_at n ≡ o.tail.0
opened_tail o n begins = ap (λ (all : List ℕ). word_at all (shared_place one.Tail)) begins.its_words.whole

-- the tail never falls
tail_since : (opening : World) (start : ℕ) (moment : List Event) → guard.IsOpened opening.now start → tail_at opening.now ≤ tail_at (run opening moment).now
unfolding run
tail_since opening start moment opened = (life_rises opening start [] moment opened).tail

-- and the first address was the tail at a moment
pub first_above : (opening : World) (start : ℕ) (events : List Event) (c : BegunCommit) → guard.IsOpened opening.now start → HasEnded opening events (span_of c) → tail_at opening.now ≤ c.parts.first.0
first_above opening start events c opened ended =
    let first = ended.first in
    let was = first.was in
    let tail = was.tail in
    let since = tail_since opening start first.moment opened in
    omega (arith, tail, since)

-- a commit that is newer than the opening's isn't that
pub newer_span : (o : Opened) (n : Now) (bytes : List ℕ) (c : BegunCommit) → IsOpeningWorld o n → o.number.0 < c.number.0 → span_of c ≡ span_opened (beginning n bytes) → ⊥
newer_span o n bytes c begins newer same =
    let number : c.number.0 ≡ n.keeper.last.number.0 = ap (λ (x : Span). x.number.0) same in
    let opened : n.keeper.last.number.0 ≡ o.number.0 = ap (λ (last : Finality). last.number.0) begins.its_keeper.newest in
    omega (arith, newer, number, opened)

-- and one that uses a newer checkpoint doesn't use the opened one
pub newer_checkpoint : (o : Opened) (n : Now) (its : Checkpoint) → IsOpeningWorld o n → o.number.0 < its.number.0 → its ≡ n.keeper.last.checkpoint → ⊥
newer_checkpoint o n its begins newer same =
    let number : its.number.0 ≡ n.keeper.last.checkpoint.number.0 = ap (λ (x : Checkpoint). x.number.0) same in
    let opened : n.keeper.last.checkpoint.number.0 ≡ o.checkpoint.number.0 = ap (λ (last : Finality). last.checkpoint.number.0) begins.its_keeper.newest in
    let older = o.no_newer in
    omega (arith, newer, number, opened, older)
