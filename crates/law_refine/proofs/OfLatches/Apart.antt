-- What the latches keep apart, of sessions.
use Rattle.std.proofs.Common.{◌≡◌, ℕ, ◌<◌, ◌∙◌, refl, sym, ap, subst, arith, List, true, false}
use Rattle.fkv_latch.specs.LatchWorld.{LatchActor, LatchWorld, has_latch, times}
use Rattle.fkv_latch.specs.Latched.{shares_of}
use Rattle.fkv_latch.proofs.Shown.{sound_apart}
use Rattle.fkv_latch.specs.declared.latching.Latching.TheVariants as latching
use Rattle.law_world.specs.Below.fkv_session.Sitting.{Sitting}
use Rattle.law_world.specs.Below.fkv_session.Sitting.TheVariants.{Idle}
use Rattle.law_world.specs.Below.fkv_session.Sessions.{SessionState, Seat, is_busy}
use Rattle.law_world.specs.Below.fkv_session.SessionRun.{session_run}
use Rattle.law_world.specs.Below.fkv_session.Shares.{sharing}
use Rattle.law_world.proofs.Below.fkv_session.Shown.{run_accounts}
use Rattle.law_world.specs.Below.fkv_world.World.{Now, seat_at}
use Rattle.law_refine.specs.Latches.Latchers.{sitting_latching}
use Rattle.law_refine.specs.Latches.Shows.{AreApart, Shows}
use Rattle.law_refine.proofs.OfLatches.Seats.{Sits}
use Rattle.law_refine.proofs.OfLatches.Worlds.{Holds}

idle_rests : (s : SessionState) (step : Sitting) → is_busy step ≡ false → sitting_latching s step ≡ latching.AtRest
idle_rests s (Idle its) idle = refl
idle_rests s step idle = cc

-- between its calls a session shares what its requests share
shared_by_requests : (k : Seat) (s : SessionState) (a : LatchActor) (place : ℕ) → Sits k s a → is_busy s.step ≡ false → has_latch k.places place ≡ true → times place a.shared ≡ sharing k place s.requests
shared_by_requests k s a place sits idle has =
    let came = sits.came in
    let counts = came.counts place has in
    let step : a.step ≡ latching.AtRest = sits.step ∙ idle_rests s s.step idle in
    let accounts = run_accounts k came.opening came.events place came.opened came.its (subst (λ (x : SessionState). is_busy x.step ≡ false) came.same idle) in
    let same : sharing k place (session_run k came.opening came.events).requests ≡ sharing k place s.requests = ap (λ (x : SessionState). sharing k place x.requests) (sym came.same) in
    let own : shares_of place a ≡ times place a.shared = rw step (omega arith) in
    omega (arith, counts, accounts, same, own)

pub holds_shows : (n : Now) (w : LatchWorld) → Holds n w → Shows n w
holds_shows n w holds = record {
  places = holds.places;
  words = holds.words;
  actors = λ i s at.
      let seat = holds.seats i s at in
      record { actor = seat.actor; got = seat.got; its = record { step = seat.sits.step; alone = seat.sits.alone; shared = λ idle place has. shared_by_requests (seat_at n i) s seat.actor place seat.sits idle has } };
}

pub holds_apart : (n : Now) (w : LatchWorld) → Holds n w → AreApart n
holds_apart n w holds =
    let apart = sound_apart w holds.sound in
    record {
      one_holder = λ place i j s t at other alone its.
          let a = holds.seats i s at in
          let b = holds.seats j t other in
          apart.one_holder place i j a.actor b.actor a.got b.got (subst (λ (x : List ℕ). 0 < times place x) (sym a.sits.alone) alone) (subst (λ (x : List ℕ). 0 < times place x) (sym b.sits.alone) its);
      from_shared = λ place i j s t at other alone idle.
          let a = holds.seats i s at in
          let b = holds.seats j t other in
          let held : 0 < times place a.actor.exclusive = subst (λ (x : List ℕ). 0 < times place x) (sym a.sits.alone) alone in
          let there : has_latch w.places place ≡ true = (holds.sound.actors i a.actor a.got).of_latches place (omega (arith, held)) in
          let has : has_latch n.places place ≡ true = subst (λ p. has_latch p place ≡ true) holds.places there in
          sym (shared_by_requests (seat_at n j) t b.actor place b.sits idle has) ∙ apart.from_shared place i j a.actor b.actor a.got b.got held;
    }
