-- What crates above cite: what holds of a log at each moment, what a step leaves to others, and the facts that it keeps.
pub use Rattle.law_log.proofs.Chains.{set_there, set_else, at_one, from_head, from_else, in_from, head_within, IsFirst, first_is, first_same}
pub use Rattle.law_log.proofs.Versions.{upto_is_all, latest_is_first}
pub use Rattle.law_log.proofs.Held.{Held, Grows, StaysPublished, first_stays, shown_stays, fixed_stays, made_stays, made_of_fixed_stays, not_reserved, not_unborn}
pub use Rattle.law_log.proofs.Upto.{HeldUpto}
pub use Rattle.law_log.proofs.InOrder.{HeldInOrder}
pub use Rattle.law_log.proofs.LogSteps.{Steps, log_steps, run_on, enabled_before, run_held, run_upto, run_in_order}
pub use Rattle.law_log.proofs.Readings.{IsBegun, HasSeen, HadValue, KnowsRead, KnowsWalk, read_steps, read_told}
pub use Rattle.law_log.proofs.Sound.{IsSound, event_sound, run_sound}
pub use Rattle.law_log.proofs.Walks.{BeginsAt, begins_at, first_from_head, first_from_none, first_from_own, LeadsOn, leads_on}
pub use Rattle.law_log.proofs.Begins.{above_live, live_at_rest, walk_begins, walk_along, absent_below}
