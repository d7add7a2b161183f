-- What a session that catches up stores of the version that it leaves.
use Rattle.std.proofs.Common.{◌≡◌, ℕ, List, refl, ap, subst, ◌∙◌}
use Rattle.fkv_plane.specs.declared.asks.Ask.TheVariants.{Store}
use Rattle.fkv_plane.specs.declared.places.SessionWord.TheVariants as own
use Rattle.fkv_plane.specs.Places.{session_place}
use Rattle.fkv_plane.specs.Passing.{passed}
use Rattle.fkv_session.specs.declared.answers.Told.TheVariants as told
use Rattle.fkv_session.specs.declared.catching_up.Catching.{Catching}
use Rattle.fkv_session.specs.declared.catching_up.Catching.TheVariants as catching
use Rattle.fkv_session.specs.declared.sessions.CatchCause.{CatchCause}
use Rattle.fkv_session.specs.declared.sessions.Sitting.{Sitting}
use Rattle.fkv_session.specs.declared.sessions.Sitting.TheVariants.{CatchesUp}
use Rattle.fkv_session.specs.CatchingUp.{catching_ask, cut_of, cut_at, owing}
use Rattle.fkv_session.specs.Sessions.{SessionState, Seat, sitting_ask, session_ask}
use Rattle.fkv_session.specs.SessionRun.{SessionEvent, session_run}
use Rattle.fkv_session.specs.Sessions.{IsOpened}
use Rattle.fkv_session.specs.Cuts.{IsCutTold, version_left}
use Rattle.fkv_session.proofs.Sound.{Knows, run_holds}

asks_of : (k : Seat) (s : SessionState) (cause : CatchCause) → s.step ≡ CatchesUp cause → session_ask k s ≡ passed (catching_ask k.places k.number s.catching s.requests s.catching.step) told.Slept
unfolding sitting_ask
asks_of k s cause e = ap (sitting_ask k s) e

cut_ask : (k : Seat) (s : SessionState) (serial : ℕ) → s.catching.serial ≡ serial
    → passed (catching_ask k.places k.number s.catching s.requests catching.StoresCut) told.Slept ≡ Store (session_place k.number (cut_of (version_left s))) (cut_at serial (version_left s))
unfolding catching_ask passed
cut_ask k s serial same = ap (λ (n : ℕ). Store (session_place k.number (cut_of (version_left s))) (cut_at n (version_left s))) same

owing_ask : (k : Seat) (s : SessionState) → passed (catching_ask k.places k.number s.catching s.requests catching.StoresOwing) told.Slept ≡ Store (session_place k.number own.Owing) (owing s.catching.seen s.requests)
unfolding catching_ask passed
owing_ask k s = refl

told_so : (k : Seat) (s : SessionState) (cause : CatchCause) → s.step ≡ CatchesUp cause → s.catching.serial ≡ s.serial → IsCutTold k s
told_so k s cause e same = record {
  cut = λ at. asks_of k s cause e ∙ ap (λ (x : Catching). passed (catching_ask k.places k.number s.catching s.requests x) told.Slept) at ∙ cut_ask k s s.serial same;
  owing = λ at. asks_of k s cause e ∙ ap (λ (x : Catching). passed (catching_ask k.places k.number s.catching s.requests x) told.Slept) at ∙ owing_ask k s;
}

pub run_cuts : (k : Seat) (opening : SessionState) (events : List SessionEvent) (cause : CatchCause) → IsOpened opening → (session_run k opening events).step ≡ CatchesUp cause → IsCutTold k (session_run k opening events)
run_cuts k opening events cause opened e =
    let s : SessionState = session_run k opening events in
    told_so k s cause e (subst (λ (x : Sitting). Knows s x) e (run_holds k opening events opened).knows)
