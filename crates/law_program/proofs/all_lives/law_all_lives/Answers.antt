-- The law, by those of noted calls, of lives and of prefixes.
use Rattle.law_program.proofs.OfPlayedCalls.AllLives.{all_lives}
use Rattle.law_program.proofs.OfPlayedCalls.NewStores.{new_is_empty}
use Rattle.law_program.proofs.all_lives.law_all_lives.Goals as goal

pub returns : goal.returns
returns g c = λ all arms seats arms_noted settings.
    let prefix = c.law_prefix.ensures in
    let pairs = c.law_log_opened.ensures.pairs in
    all_lives _ _ settings
    (record {
      groups = c.law_noted.ensures.groups all;
      finishes = c.law_noted.ensures.finishes all;
      queues = c.law_interleaved.ensures.queues;
      idle = c.law_noted.ensures.queues;
      quiet = c.law_interleaved.ensures.quiet;
      begin = c.law_each_life.ensures.begin;
      pairs = pairs;
      recovers = prefix.recovered;
      follow = prefix.lives;
      reach = c.law_lives.ensures.reach;
      past = c.law_of_the_past.ensures.opened;
      arms = arms;
      seats = seats;
      arms_noted = arms_noted;
      nothing = λ shape image opened created store. new_is_empty pairs shape image opened store ((c.law_new_stores.ensures.holds image shape opened created).0 store);
    })
    c.law_long_opens.ensures.created
