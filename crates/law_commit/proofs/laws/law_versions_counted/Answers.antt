-- A session's serial and its versions.
use Rattle.law_commit.proofs.Counted.{life_counted, life_risen, life_point}
use Rattle.law_commit.proofs.Rising.{version_below}
use Rattle.law_commit.proofs.OfPhases.LifeStages.{rising_phase, rising_version, none_ahead}
use Rattle.law_commit.proofs.laws.law_versions_counted.Goals as goal

pub returns-clause-counted : goal.returns-clause-counted
returns-clause-counted c = λ opening events session first its became. life_counted opening events session first its became

pub returns-clause-risen : goal.returns-clause-risen
returns-clause-risen c = λ opening start events session first its became guarded rests. life_risen opening events session first its became (rising_version opening start events session first its became guarded rests)

pub returns-clause-point : goal.returns-clause-point
returns-clause-point c = λ opening start events session first its version became guarded rests up. life_point opening events session first its version became (rising_version opening start events session first its became guarded rests) up

pub returns-clause-rises : goal.returns-clause-rises
returns-clause-rises c = λ opening start events session first its became guarded rests. rising_version opening start events session first its became guarded rests

pub returns-clause-below : goal.returns-clause-below
returns-clause-below c = λ opening start events session first its became guarded rests. version_below opening events session first its became (none_ahead opening.now rests) (rising_phase opening start events session first its became guarded rests)
