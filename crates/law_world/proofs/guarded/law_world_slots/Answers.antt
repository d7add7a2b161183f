-- The law, by what the guard's world shows of a life.
use Rattle.law_world.proofs.OfGuarded.Slots.{life_finds_slots, life_keeper_rests, life_names_within, life_session_rests, life_slots_count}
use Rattle.law_world.proofs.OfGuarded.SlotsApart.{life_apart}
use Rattle.law_world.proofs.guarded.law_world_slots.Goals as goal

pub returns-clause-finds : goal.returns-clause-finds
returns-clause-finds c = λ first start events event opened. life_finds_slots first start events event opened

pub returns-clause-within : goal.returns-clause-within
returns-clause-within c = λ first start events event slot opened named. life_names_within first start events event slot opened named

pub returns-clause-count : goal.returns-clause-count
returns-clause-count c = λ first start events opened. life_slots_count first start events opened

pub returns-clause-apart : goal.returns-clause-apart
returns-clause-apart c = λ first start later before event its slot opened going named others. life_apart first start later before event its slot opened going named others

pub returns-clause-session : goal.returns-clause-session
returns-clause-session c = λ first start events session its opened there. life_session_rests first start events session its opened there

pub returns-clause-keeper : goal.returns-clause-keeper
returns-clause-keeper c = λ first start events opened. life_keeper_rests first start events opened
