-- What the induction is given, by the laws that say it.
use Rattle.law_order.proofs.one_history.law_given.Goals as goal

pub returns : goal.returns
returns c = record {
  sound = c.law_phases_are_seen.ensures.sound;
  floor = c.law_phases_are_seen.ensures.floor;
  floors = c.law_floor_stands.ensures.floor;
  left = c.law_versions_end.ensures.left;
  prepare = c.law_shares_not_missed.ensures.prepare;
  bit = c.law_shares_not_missed.ensures.bit;
  older = c.law_shares_not_missed.ensures.older;
  latches = c.law_versions_end.ensures.latches;
  ahead = c.law_versions_counted.ensures.below;
  beside = c.law_latched_in_tries.ensures.beside_none;
  safe = c.law_views_see_tails.ensures.view;
  begun = c.law_begun.ensures.begun;
  ended = c.law_commits_ended.ensures;
  later = c.law_commits_cut.ensures.later;
  stays = c.law_live_stays.ensures.stays;
  versions = c.law_live_stays.ensures.versions;
  rest = c.law_live_stays.ensures.rest;
  cells = c.law_versions_bounded.ensures.cells;
}
