-- What the end of a commit tells.
use Rattle.std.proofs.Common.{◌≡◌, ℕ, zero, suc, ◌+◌, ◌<◌, ◌≤◌, refl, subst, arith, List, inl, inr}
use Rattle.std.specs.Prelude.{[], ◌∷◌, nat_lt, slice_get}
use Rattle.std.proofs.lemmas.Bool.Decides.{nat_tests}
use Rattle.fkv_base.specs.declared.numbers.Serial.{Serial}
use Rattle.fkv_base.specs.declared.numbers.Version.{Version}
use Rattle.fkv_commit.specs.declared.finishing.Finishing.{Finishing}
use Rattle.fkv_commit.specs.declared.finishing.Finishing.TheVariants.{Ended, StoresDurable, StoresRest}
use Rattle.fkv_commit.specs.declared.finishing.FinishAnswer.TheVariants.{Idle, Finished}
use Rattle.fkv_commit.specs.Finishing.{FinishState, finish_begun, durable_from, point_of, finishing_ask, finish_ask, finishing_next, finish_next}
use Rattle.fkv_commit.specs.Exchanges.{Exchange, exchange, exchanged}
use Rattle.fkv_commit.specs.Phases.{AreDurable, HasFinished, FinishesEndRight, finished, finish_told}
use Rattle.fkv_plane.specs.declared.asks.Ask.TheVariants.{Store}
use Rattle.fkv_plane.specs.declared.places.SessionWord.TheVariants as own
use Rattle.fkv_plane.specs.Places.{session_place}
use Rattle.fkv_plane.specs.Passing.{passed}
use Rattle.fkv_commit.proofs.Replies.{by_replies}
use Rattle.fkv_commit.proofs.DeferTold.{truth}

abbrev KnowsAt : Version → ℕ → List Serial → Finishing → List Exchange → Type 0
KnowsAt number sessions points (Ended Idle) told = ⊥
KnowsAt number sessions points (Ended Finished) told = HasFinished number sessions points told
KnowsAt number sessions points (StoresDurable session) told = (session < sessions) × AreDurable points session told
KnowsAt number sessions points StoresRest told = AreDurable points sessions told

record Knows (number : Version) (sessions : ℕ) (points : List Serial) (s : FinishState) (told : List Exchange) : Type 0 where
  pub its_number : s.number ≡ number
  pub its_sessions : s.sessions ≡ sessions
  pub at : KnowsAt number sessions points s.step told

from_here : (number : Version) (sessions : ℕ) (points : List Serial) (session : ℕ) (told : List Exchange) → session ≤ sessions → AreDurable points session told → KnowsAt number sessions points (durable_from sessions session) told
unfolding durable_from
from_here number sessions points session told within durable = elim (truth (nat_lt session sessions)) [
  | inl e ↦ let below : session < sessions = grind (arith, nat_tests, e) in rw e (below, durable)
  | inr e ↦ let over : sessions ≤ session = grind (arith, nat_tests, e) in
      let all : session ≡ sessions = omega (arith, over, within) in
      rw e (subst (λ n. AreDurable points n told) all durable)
]

-- one more durable word
one_more : (points : List Serial) (session reply : ℕ) (told : List Exchange) → AreDurable points session told
    → AreDurable points (session + 1) (exchange (Store (session_place session own.Durable) (point_of (slice_get points session))) reply ∷ told)
one_more points session reply told durable =
    let next : suc session ≡ session + 1 = omega arith in
    subst (λ n. AreDurable points n (exchange (Store (session_place session own.Durable) (point_of (slice_get points session))) reply ∷ told)) next (reply, told, refl, durable)

finishing_keeps : (number : Version) (sessions : ℕ) (points : List Serial) (s : FinishState) (step : Finishing) (told : List Exchange) (reply : ℕ) → s.number ≡ number → s.sessions ≡ sessions
    → KnowsAt number sessions points step told → KnowsAt number sessions points (finishing_next s step) (exchanged (finishing_ask points s step) reply told)
unfolding finishing_next finishing_ask exchanged passed
finishing_keeps number sessions points s (Ended Idle) told reply same all knows = knows
finishing_keeps number sessions points s (Ended Finished) told reply same all knows = knows
finishing_keeps number sessions points s (StoresDurable session) told reply same all knows = let below = knows.0 in
    rw all (from_here number sessions points (session + 1) (exchange (Store (session_place session own.Durable) (point_of (slice_get points session))) reply ∷ told) (omega (arith, below)) (one_more points session reply told knows.1))
finishing_keeps number sessions points s StoresRest told reply same all knows = record { before = told; durable = knows; reply = reply; its = rw same refl }

keeps : (number : Version) (sessions : ℕ) (points : List Serial) (s : FinishState) (told : List Exchange) (reply : ℕ) → Knows number sessions points s told
    → Knows number sessions points (finish_next s reply) (exchanged (finish_ask points s) reply told)
keeps number sessions points s told reply knows =
    record { its_number = knows.its_number; its_sessions = knows.its_sessions; at = finishing_keeps number sessions points s s.step told reply knows.its_number knows.its_sessions knows.at }

pub finishes_end : FinishesEndRight
finishes_end opening number points replies ended =
    let s : FinishState = finished opening number replies in
    let begins : Knows number opening.sessions points (finish_begun opening number) [] =
    record { its_number = refl; its_sessions = refl; at = from_here number opening.sessions points zero [] (omega arith) refl } in
    let knows : Knows number opening.sessions points s (finish_told points opening number replies) =
    by_replies (finish_ask points) finish_next (Knows number opening.sessions points) (finish_begun opening number) begins (keeps number opening.sessions points) replies in
    subst (λ step. KnowsAt number opening.sessions points step (finish_told points opening number replies)) ended knows.at
