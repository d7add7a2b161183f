-- An attempt gives no action to a slot.
use Rattle.std.proofs.Common.{◌≡◌, refl, true, false}
use Rattle.law_commit.specs.Below.fkv_pending.Attempting.{attempting_ask}
use Rattle.fkv_plane.specs.declared.asks.Ask.{Ask}
use Rattle.fkv_plane.specs.declared.asks.Ask.TheVariants.{Put}
use Rattle.law_commit.specs.Below.fkv_session.Sitting.{Sitting}
use Rattle.law_commit.specs.Below.fkv_session.Sitting.TheVariants.{Attempts, Polls}
use Rattle.law_commit.specs.Below.fkv_session.Sessions.{Seat, SessionState, sitting_ask}
use Rattle.law_commit.specs.Below.law_local.Sessions.Known.{is_attempting}
use Rattle.law_commit.specs.Below.law_world.GuardKeeper.Settled.{is_of_slot}
use Rattle.law_commit.proofs.Below.law_refine.OfIndex.SessionAsks.{attempt_whole, passed_part}
use Rattle.law_commit.proofs.Below.law_refine.OfRecords.Puts.{is_put}

put_less : {A : Type 0} (ask : Ask A) → is_of_slot ask ≡ false → is_put ask ≡ false
put_less (Put slot action) none = cc
put_less ask none = refl

pub attempt_puts_none : (k : Seat) (s : SessionState) (step : Sitting) → is_attempting step ≡ true → is_put (sitting_ask k s step) ≡ false
unfolding sitting_ask
attempt_puts_none k s (Attempts has_shifted) attempts = put_less _ (passed_part (attempting_ask k.places k.number s.attempt s.attempt.step) _ (attempt_whole k.places k.number s.attempt s.attempt.step))
attempt_puts_none k s (Polls index) attempts = put_less _ (passed_part (attempting_ask k.places k.number s.attempt s.attempt.step) _ (attempt_whole k.places k.number s.attempt s.attempt.step))
attempt_puts_none k s step attempts = cc
