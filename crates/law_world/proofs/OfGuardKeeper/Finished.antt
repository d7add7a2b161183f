-- A step of a commit that finishes: each word that it stores is none of the guard's.
use Rattle.std.proofs.Common.{◌≡◌, ℕ, ◌<◌, List, inl, inr, false, arith}
use Rattle.std.specs.Prelude.{Some, None, slice_get, nat_lt, ◌+◌}
use Rattle.std.proofs.lemmas.Bool.Decides.{nat_tests}
use Rattle.fkv_base.specs.declared.numbers.Serial.{Serial}
use Rattle.fkv_base.specs.declared.phases.Phase.TheVariants.{Rest}
use Rattle.fkv_plane.specs.declared.places.SessionWord.TheVariants as own
use Rattle.fkv_plane.specs.declared.places.SharedWord.TheVariants as one
use Rattle.fkv_plane.specs.Asked.{words_after}
use Rattle.fkv_plane.specs.Passing.{is_done}
use Rattle.fkv_plane.specs.Places.{shared_place, session_place}
use Rattle.fkv_epoch.specs.Claiming.{phase_stored}
use Rattle.fkv_commit.specs.declared.finishing.Finishing.{Finishing}
use Rattle.fkv_commit.specs.declared.finishing.Finishing.TheVariants as finish
use Rattle.fkv_commit.specs.Commits.{version_after}
use Rattle.fkv_commit.specs.Finishing.{FinishState, durable_from, point_of, finishing_ask, finishing_next}
use Rattle.fkv_flush.specs.GuardSeen.{LastSeen}
use Rattle.fkv_flush.specs.GuardWorld.{Actor, GuardNow}
use Rattle.fkv_flush.proofs.Shown.{changes, Fits, Follows, session_is_outer, phase_is_outer}
use Rattle.law_world.specs.GuardKeeper.CommitEvents.{finishing_events}
use Rattle.law_world.specs.GuardKeeper.CommitShown.{FinishKnows}
use Rattle.law_world.specs.GuardKeeper.Followed.{likeness}
use Rattle.law_world.proofs.OfGuardKeeper.Slots.{truth}

-- the durable words from a session's on are those of sessions that there are
pub durable_known : (s : FinishState) (session : ℕ) → FinishKnows s (durable_from s.sessions session)
unfolding durable_from
durable_known s session = elim (truth (nat_lt session s.sessions)) [ inl e ↦ let low : session < s.sessions = grind (arith, nat_tests, e) in rw e low | inr e ↦ rw e tt ]

-- so it goes on
pub finish_known : (s : FinishState) (other step : Finishing) → FinishKnows (record s { step = other }) (finishing_next s step)
unfolding finishing_next
finish_known s other (finish.Ended its) = tt
finish_known s other (finish.StoresDurable session) = durable_known (record s { step = other }) (session + 1)
finish_known s other finish.StoresRest = tt

pub finished_at : (n : GuardNow) (a : ℕ) (x : Actor) (seen : LastSeen) (s : FinishState) (points : List Serial) (step : Finishing) → s.sessions ≡ n.places.sessions → slice_get n.actors a ≡ Some x
    → Fits (likeness seen None None) x → FinishKnows s step → is_done (finishing_ask points s step) ≡ false
    → Follows n a (finishing_events a points s step) (likeness seen None None) (words_after n.words (finishing_ask points s step)) n.actions
unfolding finishing_events finishing_ask
finished_at n a x seen s points (finish.Ended its) same got fits k e = cc
finished_at n a x seen s points (finish.StoresDurable session) same got fits k e = record {
  actor = x;
  same = changes n a x got (session_place session own.Durable) (point_of (slice_get points session)) (session_is_outer n.places session own.Durable (omega (arith, same, k)) (omega arith));
  fits = fits;
}
finished_at n a x seen s points finish.StoresRest same got fits k e = record {
  actor = x;
  same = changes n a x got (shared_place one.Phase) (phase_stored Rest (version_after s.number)) (phase_is_outer n.places);
  fits = fits;
}
