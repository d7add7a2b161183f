-- As the life of an opened store begins nothing of its log is undecided.
use Rattle.std.proofs.Common.{◌∙◌, sym, ap, ℕ, List}
use Rattle.law_opening.specs.Below.fkv_core.Openings.{IsOpeningWorld, beginning}
use Rattle.law_opening.specs.Below.fkv_opening.Opened.{IsStoreOf}
use Rattle.law_opening.specs.Below.fkv_opening.TheOpened.{Opened}
use Rattle.law_commit.specs.Below.fkv_world.World.{Now}
use Rattle.law_opening.specs.Log.OpeningLog.{opening_ghosts}
use Rattle.law_commit.specs.Decided.Cells.{ChainsTaken}
use Rattle.law_commit.specs.Decided.Laws.{OpensDecided}
use Rattle.law_commit.specs.Versions.Cells.{made_in}
use Rattle.law_order.specs.Rules.Openings.{BeginsItsLife}

module _ (begins : BeginsItsLife) (bytes : List ℕ) (o : Opened) (n : Now) (store : IsStoreOf bytes o) (its : IsOpeningWorld o n) where
  pub opens_decided : OpensDecided (beginning n bytes) o.tail.0 (opening_ghosts bytes o)
  opens_decided = let life = begins bytes o n store its in record { guarded = life.store.now; opened = life.world; unborn = life.unborn; decided = life.reserves }

  -- and each address that stands in a chain is taken
  pub opens_taken : ChainsTaken (opening_ghosts bytes o).log
  opens_taken h a is_in none =
      let of_home = (begins bytes o n store its).log.chains.in_chain h a is_in in
      let clash = sym (ap made_in of_home.its) ∙ none in cc
