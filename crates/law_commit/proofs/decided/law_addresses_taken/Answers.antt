-- The law of taken addresses.
use Rattle.law_commit.proofs.OfDecided.Lives.{above_its_view, below_views, settles, stays_decided}
use Rattle.law_commit.proofs.OfDecided.Taken.{life_taken}
use Rattle.law_commit.proofs.decided.law_addresses_taken.Goals as goal

pub returns : goal.returns
returns c = record {
  taken = life_taken;
  above_view = above_its_view;
  below_views = below_views;
  stays = stays_decided;
  settled = settles;
}
