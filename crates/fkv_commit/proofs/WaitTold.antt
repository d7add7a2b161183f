-- What the wait for the flush tells.
use Rattle.std.proofs.Common.{◌≡◌, ℕ, ◌<◌, ◌≤◌, refl, subst, inl, inr, arith, List}
use Rattle.std.specs.Prelude.{[], ◌∷◌, nat_le}
use Rattle.std.proofs.lemmas.Bool.Decides.{nat_tests}
use Rattle.fkv_base.specs.declared.numbers.Addr.{Addr}
use Rattle.fkv_plane.specs.declared.asks.Ask.TheVariants.{Load}
use Rattle.fkv_plane.specs.declared.places.SharedWord.TheVariants as one
use Rattle.fkv_plane.specs.Places.{shared_place}
use Rattle.fkv_plane.specs.Passing.{passed}
use Rattle.fkv_commit.specs.declared.waiting.Waiting.{Waiting}
use Rattle.fkv_commit.specs.declared.waiting.Waiting.TheVariants.{Ended, LoadsSafe, LoadsFlushed}
use Rattle.fkv_commit.specs.Waiting.{WaitState, wait_begun, waiting_ask, wait_ask, waiting_next, wait_next}
use Rattle.fkv_commit.specs.Exchanges.{Exchange, exchange, exchanged}
use Rattle.fkv_commit.specs.Phases.{IsWaitEnd, WaitsEndRight, waited, wait_told}
use Rattle.fkv_commit.proofs.Replies.{by_replies}
use Rattle.fkv_commit.proofs.DeferTold.{truth}

abbrev KnowsAt : Addr → ℕ → Waiting → List Exchange → Type 0
KnowsAt end epoch (Ended its) told = IsWaitEnd end epoch its told
KnowsAt end epoch LoadsSafe told = told ≡ []
KnowsAt end epoch LoadsFlushed told = (safe : ℕ) × (epoch ≤ safe) × (told ≡ exchange (Load (shared_place one.SafeEpoch)) safe ∷ [])

record Knows (end : Addr) (epoch : ℕ) (s : WaitState) (told : List Exchange) : Type 0 where
  pub its_end : s.end ≡ end
  pub its_epoch : s.epoch ≡ epoch
  pub at : KnowsAt end epoch s.step told

waiting_keeps : (end : Addr) (epoch : ℕ) (step : Waiting) (told : List Exchange) (reply : ℕ) → KnowsAt end epoch step told → KnowsAt end epoch (waiting_next end epoch step reply) (exchanged (waiting_ask step) reply told)
unfolding waiting_next waiting_ask exchanged passed
waiting_keeps end epoch (Ended its) told reply knows = knows
waiting_keeps end epoch LoadsSafe told reply knows = elim (truth (nat_le epoch reply)) [
  | inl e ↦ let safe : epoch ≤ reply = grind (arith, nat_tests, e) in rw (e, knows) (reply, safe, refl)
  | inr e ↦ let below : reply < epoch = grind (arith, nat_tests, e) in rw (e, knows) (inl (reply, below, refl))
]
waiting_keeps end epoch LoadsFlushed told reply knows = elim (truth (nat_le end.0 reply)) [
  | inl e ↦ let enough : end.0 ≤ reply = grind (arith, nat_tests, e) in rw (e, knows.2) (knows.0, reply, knows.1, enough, refl)
  | inr e ↦ let below : reply < end.0 = grind (arith, nat_tests, e) in rw (e, knows.2) (inr (knows.0, reply, knows.1, below, refl))
]

keeps : (end : Addr) (epoch : ℕ) (s : WaitState) (told : List Exchange) (reply : ℕ) → Knows end epoch s told → Knows end epoch (wait_next s reply) (exchanged (wait_ask s) reply told)
keeps end epoch s told reply knows =
    record { its_end = knows.its_end; its_epoch = knows.its_epoch; at = rw (knows.its_end, knows.its_epoch) (waiting_keeps end epoch s.step told reply knows.at) }

pub waits_end : WaitsEndRight
waits_end end epoch replies its ended =
    let s : WaitState = waited end epoch replies in
    let begins : Knows end epoch (wait_begun end epoch) [] = record { its_end = refl; its_epoch = refl; at = refl } in
    let knows : Knows end epoch s (wait_told end epoch replies) = by_replies wait_ask wait_next (Knows end epoch) (wait_begun end epoch) begins (keeps end epoch) replies in
    subst (λ (step : Waiting). KnowsAt end epoch step (wait_told end epoch replies)) ended knows.at
