-- The words of the store tell the truth of the log to a session that attempts something.
use Rattle.std.proofs.Common.{◌≡◌, ℕ, ◌<◌, sym, arith, List, []}
use Rattle.std.specs.Prelude.{Some, slice_get}
use Rattle.law_log.specs.Enabled.{AreEnabled}
use Rattle.law_log.proofs.Shown.{run_held}
use Rattle.law_commit.specs.Below.fkv_session.Sessions.{SessionState}
use Rattle.law_commit.specs.Below.law_local.Tries.Replies.{IsAboveAll}
use Rattle.law_commit.specs.Below.law_local.Tries.WordsShow.{WordsShow}
use Rattle.law_commit.specs.Below.fkv_world.Runs.{run}
use Rattle.law_commit.specs.Below.fkv_world.World.{Event}
use Rattle.law_order.specs.Known.Begins.{BegunLife, home_of_world}
use Rattle.law_commit.specs.Below.law_refine.Events.GhostEvents.{life_ghosts, mapped}
use Rattle.law_commit.specs.Below.law_refine.Events.Reserved.{tail_at}
use Rattle.law_commit.proofs.Below.law_refine.OfEvents.Fixed.{ghost_fixed, life_rises}
use Rattle.law_commit.specs.Below.law_refine.Records.Changes.{AreChangesPublished}
use Rattle.law_commit.specs.Below.law_refine.Records.Frames.{IsAttempting}
use Rattle.law_order.proofs.OfTruth.Frames.{published_below, shows_here}

-- the log begins above 0, and the tail never falls
some_tail : (life : BegunLife) (events : List Event) → 0 < tail_at (run life.opening events).now
unfolding run
some_tail life events =
    let opened = life.begins.store.now in
    let some = life.begins.log.some_fixed in
    let fixed = life.begins.fixed in
    let safe = opened.words.safe_read_only in
    let tail = opened.words.tail in
    let rises = (life_rises life.opening life.start [] events opened).tail in
    omega (arith, some, fixed, safe, tail, rises)

tail_above : (life : BegunLife) (events : List Event)
    → AreEnabled (home_of_world life.opening) life.ghosts (mapped life.opening events) → IsAboveAll (life_ghosts life.opening life.ghosts events).log (tail_at (run life.opening events).now)
tail_above life events enabled =
    let held = run_held (home_of_world life.opening) life.map life.number life.ghosts (mapped life.opening events) life.begins.log enabled in
    record {
      some = some_tail life events;
      above = λ h a is_in. let its = held.chains.in_chain h a is_in in published_below life.opening life.start life.ghosts events a its.cell life.begins.store.now life.begins.unborn its.its;
    }

pub words_show : (life : BegunLife) (events : List Event) (session : ℕ) (s : SessionState)
    → AreEnabled (home_of_world life.opening) life.ghosts (mapped life.opening events) → AreChangesPublished life.opening life.ghosts events → slice_get (run life.opening events).now.sessions session ≡ Some s → IsAttempting s.step
    → WordsShow (life_ghosts life.opening life.ghosts events).log (run life.opening events).now.places s.seen (run life.opening events).now.words
words_show life events session s enabled published found attempts =
    let opened = life.begins.store.now in
    record {
      header = λ a here cell e. (shows_here life.opening life.start life.ghosts events session s a opened life.begins.unborn life.begins.reserves life.begins.warm published found attempts here cell e).header;
      key = λ a here cell e. (shows_here life.opening life.start life.ghosts events session s a opened life.begins.unborn life.begins.reserves life.begins.warm published found attempts here cell e).key;
      value = λ a here cell e. (shows_here life.opening life.start life.ghosts events session s a opened life.begins.unborn life.begins.reserves life.begins.warm published found attempts here cell e).value;
      fixed = sym (ghost_fixed life.opening life.start life.ghosts events opened life.begins.fixed);
      tail = tail_above life events enabled;
    }
