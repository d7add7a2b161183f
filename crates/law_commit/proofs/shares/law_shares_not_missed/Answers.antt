-- By who holds a latch alone, by the floor of views, and by what a latch counts.
use Rattle.law_commit.proofs.OfShares.Alone.{alone_between, alone_by_rank, bit_past_prepare, meets_none, tries_share}
use Rattle.law_commit.proofs.OfShares.Just.{all_share_just}
use Rattle.law_commit.proofs.OfShares.Leaving.{leaves_from_prepare}
use Rattle.law_commit.proofs.OfShares.Prepared.{shares_in_prepare}
use Rattle.law_commit.proofs.OfShares.Since.{all_share_since, older_come_sharing, share_only_since}
use Rattle.law_commit.proofs.shares.law_shares_not_missed.Goals as goal

pub returns : goal.returns
returns c = record {
  alone = alone_between;
  by_rank = alone_by_rank c.law_phases_are_seen.ensures.sound c.law_phases_are_seen.ensures.floor;
  tries = tries_share;
  meets = meets_none c.law_phases_are_seen.ensures.sound c.law_phases_are_seen.ensures.floor c.law_world_latched.ensures.shows c.law_world_latched.ensures.counted;
  bit = bit_past_prepare c.law_phases_are_seen.ensures.sound c.law_phases_are_seen.ensures.floor c.law_world_latched.ensures.shows c.law_world_latched.ensures.counted;
  leaves = leaves_from_prepare c.law_phases_are_seen.ensures.sound c.law_phases_are_seen.ensures.floor;
  prepare = shares_in_prepare c.law_phases_are_seen.ensures.sound c.law_phases_are_seen.ensures.floor c.law_world_latched.ensures.shows c.law_world_latched.ensures.counted;
  only = share_only_since c.law_phases_are_seen.ensures.sound c.law_phases_are_seen.ensures.floor;
  since = all_share_since c.law_phases_are_seen.ensures.sound c.law_phases_are_seen.ensures.floor c.law_world_latched.ensures.shows c.law_world_latched.ensures.counted;
  older = older_come_sharing c.law_phases_are_seen.ensures.sound c.law_phases_are_seen.ensures.floor c.law_world_latched.ensures.shows c.law_world_latched.ensures.counted;
  just = all_share_just (share_only_since c.law_phases_are_seen.ensures.sound c.law_phases_are_seen.ensures.floor)
      (all_share_since c.law_phases_are_seen.ensures.sound c.law_phases_are_seen.ensures.floor c.law_world_latched.ensures.shows c.law_world_latched.ensures.counted);
}
