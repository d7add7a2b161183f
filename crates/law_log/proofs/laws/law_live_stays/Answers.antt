-- The law, by what one record that passes a test shows at each moment.
use Rattle.law_log.specs.Chains.{has_key, has_key_upto}
use Rattle.law_log.proofs.Begins.{by_key, by_version, stays_live, above_live, live_at_rest}
use Rattle.law_log.proofs.laws.law_live_stays.Goals as goal

pub returns-clause-stays : goal.returns-clause-stays
returns-clause-stays c = λ home m version opening later before begin opened enabled over take live key.
    stays_live home m version opening opened begin key (has_key key) (by_key key) later before enabled take over (live key)

pub returns-clause-versions : goal.returns-clause-versions
returns-clause-versions c = λ n home m version opening later before begin opened enabled over take live key.
    stays_live home m version opening opened begin key (has_key_upto n key) (by_version n key) later before enabled take over (live key)

pub returns-clause-above : goal.returns-clause-above
returns-clause-above c = above_live

pub returns-clause-rest : goal.returns-clause-rest
returns-clause-rest c = live_at_rest
