-- The law, by what the guard's world shows of a life.
use Rattle.std.proofs.Common.{ℕ, List, subst}
use Rattle.fkv_flush.specs.GuardLevels.{levels_of}
use Rattle.fkv_flush.specs.GuardSeen.{SeenIsSafe}
use Rattle.fkv_flush.specs.GuardWorld.{GuardWorld}
use Rattle.fkv_flush.specs.Guarded.{GoesBy, seen_of}
use Rattle.fkv_flush.proofs.Shown.{opening_sound, run_apart, opening_apart, undecided_fresh}
use Rattle.law_world.specs.Guarded.GuardEvents.{actor_count, mapped}
use Rattle.law_world.specs.Guarded.Shows.{guard_opening, seen_by_guard}
use Rattle.law_world.proofs.OfGuarded.Worlds.{life_shows}
use Rattle.law_world.proofs.guarded.law_world_seen.Goals as goal

pub returns-clause-safe : goal.returns-clause-safe
returns-clause-safe c = λ first start events opened.
    let w : GuardWorld = seen_by_guard first start events in
    let shows = life_shows first start events opened in
    subst (λ (words : List ℕ). SeenIsSafe (levels_of words) (GoesBy w.now) (seen_of w.now.actors)) shows.words shows.sound.guard.safe

pub returns-clause-fresh : goal.returns-clause-fresh
returns-clause-fresh c = λ first start events opened. undecided_fresh (seen_by_guard first start events) (life_shows first start events opened).sound

pub returns-clause-apart : goal.returns-clause-apart
returns-clause-apart c = λ first start events opened.
    run_apart (guard_opening first.now start) (mapped first events) (opening_sound first.now.shape first.now.places (actor_count first.now) first.now.words start opened.words)
    (opening_apart first.now.shape first.now.places (actor_count first.now) first.now.words start)
