-- So it is of all that sessions load from their mailboxes: attempts look for what was asked for, and ask for what they seek.
use Rattle.std.proofs.Common.{List}
use Rattle.law_log.specs.Enabled.{AreEnabled}
use Rattle.law_commit.specs.Below.fkv_world.Runs.{run}
use Rattle.law_commit.specs.Below.fkv_world.World.{Event}
use Rattle.law_order.proofs.OfAsked.Life.{life_asks, life_looks}
use Rattle.law_order.specs.Known.Begins.{BegunLife, begin_in, home_of_world}
use Rattle.law_order.specs.Known.Floors.{AttemptsGoFrom}
use Rattle.law_order.specs.Known.Knows.{AreKnown}
use Rattle.law_order.specs.Known.Told.{LookTruly}
use Rattle.law_commit.specs.Below.law_refine.Events.GhostEvents.{life_ghosts, mapped}
use Rattle.law_commit.specs.Below.law_refine.Seen.Floors.{TellsUpto}
use Rattle.law_order.specs.Served.Served.{ServedShow}
use Rattle.law_order.proofs.OfLooks.LifeMails.{its_mailbox}
use Rattle.law_order.proofs.OfLooks.Looks.{LooksLaw, TellsAbove, all_above, all_look_truly, none_above}
use Rattle.law_order.proofs.OfLooks.There.{AsksLaw}

module _ (life : BegunLife) (before : List Event) (enabled : AreEnabled (home_of_world life.opening) life.ghosts (mapped life.opening before)) (known : AreKnown life.opening life.ghosts before)
    (go : AttemptsGoFrom (begin_in life.opening) (run life.opening before).now) (served : ServedShow life.opening life.ghosts before) where
  looks_for : LooksLaw life.opening before
  looks_for session s found attempts = life_looks life.opening life.start session before s (its_mailbox life before session s found) life.begins.store.now found attempts

  asks_for : AsksLaw life.opening
  asks_for events session s found attempts = life_asks life.opening life.start session events s (its_mailbox life events session s found) life.begins.store.now found attempts

  pub looks_true : LookTruly (life_ghosts life.opening life.ghosts before).log (run life.opening before).now
  looks_true = all_look_truly life before enabled known go served looks_for asks_for

  pub tells_upto : TellsUpto (begin_in (run life.opening before)) (run life.opening before).now
  tells_upto = none_above life before enabled known go served looks_for asks_for

  pub tells_above : TellsAbove (begin_in life.opening) (run life.opening before).now
  tells_above = all_above life before enabled known go served looks_for asks_for
