-- What holds of each request that waits, by its name and its operation, and how a session's lists keep it.
use Rattle.std.proofs.Common.{◌≡◌, ℕ, zero, suc, List, [], ◌∷◌, ◌++◌, refl, subst, true}
use Rattle.std.specs.Prelude.{slice_get, slice_set, Option, Some, None, ⊤}
use Rattle.std.specs.List.{remove}
use Rattle.fkv_map.specs.declared.operations.Op.{Op}
use Rattle.fkv_plane.specs.declared.asks.Ask.{Ask}
use Rattle.fkv_plane.specs.declared.asks.Ask.TheVariants.{Done}
use Rattle.fkv_latch.specs.declared.latching.LatchAnswer.{LatchAnswer}
use Rattle.fkv_latch.specs.declared.latching.LatchAnswer.TheVariants.{Taken}
use Rattle.fkv_latch.specs.Latching.{latch_next_ask}
use Rattle.law_world.specs.Below.fkv_pending.PendingRequest.{PendingRequest}
use Rattle.law_world.specs.Below.fkv_pending.RequestName.{RequestName}
use Rattle.law_world.specs.Below.fkv_pending.Pending.{with_latch}
use Rattle.law_world.specs.Below.fkv_session.Catching.{Catching}
use Rattle.law_world.specs.Below.fkv_session.Catching.TheVariants.{Latches}
use Rattle.law_world.specs.Below.fkv_session.CatchingUp.{CatchState, latched, latch_marked, catching_requests}

abbrev pub AreEach : (RequestName → Op → Type 0) → List PendingRequest → Type 0
AreEach P [] = ⊤
AreEach P (pending ∷ rest) = P pending.name pending.request.op × AreEach P rest

pub each_on : (P Q : RequestName → Op → Type 0) (requests : List PendingRequest) → ((name : RequestName) (op : Op) → P name op → Q name op) → AreEach P requests → AreEach Q requests
each_on P Q [] on all = tt
each_on P Q (pending ∷ rest) on all = (on pending.name pending.request.op all.0, each_on P Q rest on all.1)

pub each_more : (P : RequestName → Op → Type 0) (requests : List PendingRequest) (pending : PendingRequest) → AreEach P requests → P pending.name pending.request.op → AreEach P (requests ++ pending ∷ [])
each_more P [] pending all its = (its, tt)
each_more P (o ∷ rest) pending all its = (all.0, each_more P rest pending all.1 its)

pub each_less : (P : RequestName → Op → Type 0) (requests : List PendingRequest) (i : ℕ) → AreEach P requests → AreEach P (remove requests i)
each_less P [] zero all = all
each_less P [] (suc i) all = all
each_less P (o ∷ rest) zero all = all.1
each_less P (o ∷ rest) (suc i) all = (all.0, each_less P rest i all.1)

pub each_set : (P : RequestName → Op → Type 0) (requests : List PendingRequest) (i : ℕ) (pending : PendingRequest) → AreEach P requests → P pending.name pending.request.op → AreEach P (slice_set requests i pending)
each_set P [] i pending all its = all
each_set P (o ∷ rest) zero pending all its = (its, all.1)
each_set P (o ∷ rest) (suc i) pending all its = (all.0, each_set P rest i pending all.1 its)

pub each_at : (P : RequestName → Op → Type 0) (requests : List PendingRequest) (i : ℕ) (pending : PendingRequest) → slice_get requests i ≡ Some pending → AreEach P requests → P pending.name pending.request.op
each_at P [] i pending got all = cc
each_at P (o ∷ rest) zero pending got all = let same : o ≡ pending = cc in subst (λ (x : PendingRequest). P x.name x.request.op) same all.0
each_at P (o ∷ rest) (suc i) pending got all = each_at P rest i pending got all.1

-- a latch that is taken for one leaves its name and its operation
latched_each : (P : RequestName → Op → Type 0) (requests : List PendingRequest) (i : ℕ) (found : Option PendingRequest) → slice_get requests i ≡ found → AreEach P requests → AreEach P (latched requests i found)
unfolding with_latch
latched_each P requests i None got all = all
latched_each P requests i (Some pending) got all = each_set P requests i (with_latch pending true) all (each_at P requests i pending got all)

marked_each : (P : RequestName → Op → Type 0) (requests : List PendingRequest) (i : ℕ) (ask : Ask LatchAnswer) → AreEach P requests → AreEach P (latch_marked requests i ask)
unfolding latch_marked
marked_each P requests i (Done Taken) all = latched_each P requests i (slice_get requests i) refl all
marked_each P requests i ask all = all

pub caught_each : (P : RequestName → Op → Type 0) (c : CatchState) (requests : List PendingRequest) (step : Catching) (reply : ℕ) → AreEach P requests → AreEach P (catching_requests c requests step reply)
unfolding catching_requests
caught_each P c requests (Latches i) reply all = marked_each P requests i (latch_next_ask c.latching reply) all
caught_each P c requests step reply all = all
