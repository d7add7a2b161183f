-- By what each image has that a crash leaves, from life to life.
use Rattle.law_order.proofs.OfPrefix.Lives.{lives_follow, lives_reach_far}
use Rattle.law_order.proofs.prefix.law_lives.Goals as goal

pub returns-clause-reach : goal.returns-clause-reach
returns-clause-reach c = lives_reach_far c.law_images_read_back.ensures.far c.law_long_opens.ensures.forgotten

pub returns-clause-follow : goal.returns-clause-follow
returns-clause-follow c = lives_follow (lives_reach_far c.law_images_read_back.ensures.far c.law_long_opens.ensures.forgotten)
