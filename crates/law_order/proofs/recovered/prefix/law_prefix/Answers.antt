-- The law, by its clauses.
use Rattle.law_order.proofs.recovered.prefix.law_prefix.Goals as goal

pub returns : goal.returns
returns c = record {
  legal = c.law_order.ensures.legal;
  ordered = c.law_order.ensures.ordered;
  fresh = c.law_order.ensures.fresh;
  in_time = c.law_order.ensures.in_time;
  guarded = c.law_order.ensures.guarded;
  once = c.law_order.ensures.once;
  recovered = c.law_images_recovered.ensures;
  told = c.law_finished_is_told.ensures;
  in_turn = c.law_commits_in_turn.ensures;
  fair = c.law_points_are_fair.ensures;
  rising = c.law_points_keep.ensures.rise;
  durable = c.law_durable_is_sealed.ensures;
  lives = c.law_lives.ensures.follow c.law_images_recovered.ensures;
}
