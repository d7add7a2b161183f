-- At every moment of a life a session's reads which have asked seek a record, and none of its reads shares a latch.
use Rattle.std.proofs.Common.{◌≡◌, ℕ, zero, suc, List, [], ◌∷◌, sym, subst, true, false}
use Rattle.std.specs.Prelude.{Some, slice_get}
use Rattle.law_commit.specs.Below.fkv_session.Sessions.{SessionState}
use Rattle.law_commit.specs.Below.fkv_world.Opened.{IsOpenedWorld}
use Rattle.law_commit.specs.Below.fkv_world.OwnEvents.{session_events}
use Rattle.law_commit.specs.Below.fkv_world.Runs.{World, run}
use Rattle.law_commit.specs.Below.fkv_world.World.{Event, seat_at}
use Rattle.law_commit.proofs.Below.law_refine.OfSeen.There.{was_there}
use Rattle.law_order.specs.Rows.Asked.{AllSeek}
use Rattle.law_order.proofs.OfRows.Asks.{run_seeks}
use Rattle.law_commit.specs.Below.fkv_pending.PendingRequest.{PendingRequest}
use Rattle.law_commit.specs.Below.fkv_ops.Requests.{is_read}
use Rattle.law_commit.specs.Below.fkv_session.Shares.{HasItsBuckets, OnlyUpdatesShare}
use Rattle.law_commit.proofs.Below.fkv_session.Shown.{run_updates}

pub life_seeks : (opening : World) (events : List Event) (session : ℕ) (s : SessionState) → IsOpenedWorld opening → slice_get (run opening events).now.sessions session ≡ Some s → AllSeek s
life_seeks opening events session s opened found =
    let its = was_there opening events session s found in
    subst AllSeek (sym its.became) (run_seeks (seat_at opening.now session) its.first (session_events opening session events) (opened.sessions session its.first its.was))

only_at : (requests : List PendingRequest) (index : ℕ) (pending : PendingRequest) → slice_get requests index ≡ Some pending → OnlyUpdatesShare requests → is_read pending.request.op ≡ true → pending.request.has_latch ≡ false
only_at [] index pending got only read = cc
only_at (o ∷ rest) zero pending got only read =
    let same : o ≡ pending = cc in
    subst (λ (p : PendingRequest). is_read p.request.op ≡ true → p.request.has_latch ≡ false) same only.0 read
only_at (o ∷ rest) (suc index) pending got only read = only_at rest index pending got only.1 read

pub life_unlatched : (opening : World) (events : List Event) (session : ℕ) (s : SessionState) (index : ℕ) (pending : PendingRequest) → IsOpenedWorld opening → HasItsBuckets (seat_at opening.now session)
    → slice_get (run opening events).now.sessions session ≡ Some s → slice_get s.requests index ≡ Some pending → is_read pending.request.op ≡ true → pending.request.has_latch ≡ false
life_unlatched opening events session s index pending opened buckets found got read =
    let its = was_there opening events session s found in
    let only : OnlyUpdatesShare s.requests = subst (λ (x : SessionState). OnlyUpdatesShare x.requests) (sym its.became) (run_updates (seat_at opening.now session) its.first (session_events opening session events) (opened.sessions session its.first its.was) buckets) in
    only_at s.requests index pending got only read
