-- All wrong lives together.
use Rattle.law_order.specs.Below.fkv_keeper.Keeping.{KeeperState}
use Rattle.law_order.specs.Below.fkv_session.Sessions.{SessionState}
use Rattle.law_wrong_runs.specs.WrongLives.{AreWrongLives}
use Rattle.law_order.proofs.OfOneHistory.WorkedShape.{places, shape}
use Rattle.law_wrong_runs.proofs.Computed.{guard_opened, is_fixed, is_fuzzy, places_fit, right_copied, right_in_place, world_opened, wrong_copied, wrong_in_place, wrong_stale}
use Rattle.law_wrong_runs.proofs.OfGone.{right_gone, wrong_gone}
use Rattle.law_wrong_runs.proofs.OfGuard.{right_refused, slot_armed, slot_claimed, wrong_change, wrong_early, wrong_refused, wrong_unclosed, wrong_untold, wrong_woken}

pub wrong_lives : (its : KeeperState) (one other : SessionState) → AreWrongLives its one other
wrong_lives its one other = record {
  shape = shape;
  places = places;
  fits = places_fit;
  opened = world_opened its one other;
  guarded = guard_opened its one other;
  fixed = is_fixed its one other;
  fuzzy = is_fuzzy its one other;
  in_place = wrong_in_place its one other;
  in_place_right = right_in_place its one other;
  copied = wrong_copied its one other;
  copied_right = right_copied its one other;
  stale = wrong_stale its one other;
  untold = wrong_untold its one other;
  refused = wrong_refused its one other;
  refused_right = right_refused its one other;
  unclosed = wrong_unclosed its one other;
  woken = wrong_woken its one other;
  woken_changes = wrong_change its one other;
  gone = wrong_gone its one other;
  gone_right = right_gone its one other;
  armed = slot_armed its one other;
  claimed = slot_claimed its one other;
  early = wrong_early its one other;
}
