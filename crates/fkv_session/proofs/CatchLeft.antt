-- A session that catches up asks just where it has asks left, and each reply leaves fewer.
use Rattle.std.proofs.Common.{◌≡◌, ℕ, ◌+◌, ◌<◌, ◌≤◌, ◌∙◌, refl, sym, ap, arith, Bool, true, false, cond, List, [], length}
use Rattle.std.specs.Prelude.{◌==◌, ◌&&◌, not, if◌then◌else◌, Option, Some, None, slice_get, slice_set, get_or}
use Rattle.std.specs.List.{position}
use Rattle.std.proofs.lemmas.List.Sums.{sum_by-set, count_by-le-length}
use Rattle.std.proofs.lemmas.List.Quantifiers.{position-Some}
use Rattle.fkv_ops.specs.Requests.{is_read}
use Rattle.fkv_plane.specs.AsksLeft.{AsksWhereLeft, sum_left}
use Rattle.fkv_ops.specs.declared.requests.Seen.{Seen}
use Rattle.fkv_plane.specs.declared.asks.Ask.{Ask}
use Rattle.fkv_plane.specs.declared.asks.Ask.TheVariants.{Done}
use Rattle.fkv_plane.specs.declared.places.Places.{Places}
use Rattle.fkv_plane.specs.Passing.{is_done, passed}
use Rattle.fkv_plane.proofs.Shown.{passed_done}
use Rattle.fkv_epoch.specs.declared.values.Seen as loaded
use Rattle.fkv_epoch.specs.declared.refreshing.RefreshAnswer.{RefreshAnswer}
use Rattle.fkv_epoch.specs.declared.refreshing.RefreshAnswer.TheVariants.{Loaded, Stored}
use Rattle.fkv_epoch.specs.declared.refreshing.Refreshing.{Refreshing}
use Rattle.fkv_epoch.specs.declared.refreshing.Refreshing.TheVariants as refresh
use Rattle.fkv_epoch.specs.Refreshing.{refresh_ask, refresh_next, refresh_finish, refresh_asks_left}
use Rattle.fkv_epoch.specs.Protecting.{protect_ask, protect_next, protect_next_ask, protect_asks_left}
use Rattle.fkv_epoch.proofs.Shown.{refresh_left, refresh_fewer, protect_left, protect_fewer}
use Rattle.fkv_latch.specs.declared.latching.LatchAnswer.{LatchAnswer}
use Rattle.fkv_latch.specs.declared.latching.LatchAnswer.TheVariants.{Taken, Busy}
use Rattle.fkv_latch.specs.declared.latching.Latching.{Latching}
use Rattle.fkv_latch.specs.declared.latching.Latching.TheVariants.{AtRest, AddsShare, GivesBack, LoadsWord, SetsExclusive, DropsShare, DropsExclusive}
use Rattle.fkv_latch.specs.Latching.{is_exclusive, is_free, latch_ask, latch_next, latch_next_ask}
use Rattle.fkv_pending.specs.declared.pending_requests.PendingRequest.{PendingRequest}
use Rattle.fkv_pending.specs.Pending.{with_latch, is_unlatched}
use Rattle.fkv_session.specs.declared.catching_up.Catching.{Catching}
use Rattle.fkv_session.specs.declared.catching_up.Catching.TheVariants as catch
use Rattle.fkv_words.specs.PhaseWords.{phase_said}
use Rattle.fkv_session.specs.CatchingUp.{CatchState, refresh_begun, wake_begun, catching_ask, catch_ask, catching_next, catch_next, catching_requests, catch_requests, finishes, latch_begun, latch_wanted, latches, cuts, takes_up, seen_after, is_same_version, enters_prepare, refresh_ledto, protect_ledto, latch_ledto, finish_ledto, latched, latch_marked}
use Rattle.fkv_session.specs.AsksLeft.{unlatched, unlatched_besides, share_asks_left, finish_asks_left, catching_asks_left, catch_asks_left, most_catch_asks}
use Rattle.fkv_plane.proofs.Shown.{passed_left, some_inside, inside_fewer, behind_fewer, sum_most, sum_whole, never, none}

-- a latch asks just where it has asks left

share_left : (step : Latching) → AsksWhereLeft (share_asks_left step) (latch_ask step)
unfolding latch_ask share_asks_left
share_left AtRest = (never, none)
share_left (AddsShare place) = (λ e. omega arith, λ some. refl)
share_left (LoadsWord place) = (λ e. omega arith, λ some. refl)
share_left (SetsExclusive place word) = (λ e. omega arith, λ some. refl)
share_left step = (λ e. omega arith, λ some. refl)

-- where one is taken an ask is left to the next
abbrev ShareLeaves : ℕ → ℕ → Ask LatchAnswer → Type 0
ShareLeaves old new (Done Taken) = 2 ≤ old
ShareLeaves old new (Done its) = 0 < old
ShareLeaves old new ask = new < old

share_fewer : (step : Latching) (reply : ℕ) → 0 < share_asks_left step → ShareLeaves (share_asks_left step) (share_asks_left (latch_next step reply)) (latch_next_ask step reply)
unfolding latch_ask latch_next latch_next_ask share_asks_left
share_fewer AtRest reply some = none some
share_fewer (AddsShare place) reply some = tested (is_exclusive reply)
  where
    tested : (b : Bool) → ShareLeaves 2 (share_asks_left (if b then GivesBack place else AtRest)) (if b then latch_ask (GivesBack place) else Done Taken)
    tested true = omega arith
    tested false = omega arith
share_fewer (LoadsWord place) reply some = tested (is_free reply)
  where
    tested : (b : Bool) → ShareLeaves 3 (share_asks_left (if b then SetsExclusive place reply else AtRest)) (if b then latch_ask (SetsExclusive place reply) else Done Busy)
    tested true = omega arith
    tested false = omega arith
share_fewer (SetsExclusive place word) reply some = tested (reply == word)
  where
    tested : (b : Bool) → ShareLeaves 2 0 (Done (if b then Taken else Busy))
    tested true = omega arith
    tested false = omega arith
share_fewer (GivesBack place) reply some = some
share_fewer (DropsShare place) reply some = some
share_fewer (DropsExclusive place) reply some = some

-- the first update that waits without its latch is one fewer once it has it

is_latched : (pending : PendingRequest) → is_unlatched (with_latch pending true) ≡ false
unfolding with_latch
is_latched pending = tested (is_read pending.request.op)
  where
    tested : (b : Bool) → (not b && not true) ≡ false
    tested true = refl
    tested false = refl

abbrev counted : Bool → ℕ
counted b = cond b 1 0

one_latched : (requests : List PendingRequest) (index : ℕ) (pending : PendingRequest) → position is_unlatched requests ≡ Some index → unlatched (slice_set requests index (with_latch pending true)) + 1 ≡ unlatched requests
one_latched requests index pending at =
    let first = position-Some is_unlatched requests index pending at in
    let marked = sum_by-set (λ (x : PendingRequest). counted (is_unlatched x)) requests index (with_latch pending true) pending first.0 in
    let one : counted (is_unlatched (get_or requests index pending)) ≡ 1 = ap counted first.1 in
    let no : counted (is_unlatched (with_latch pending true)) ≡ 0 = ap counted (is_latched pending) in
    omega (arith, marked, one, no)

-- what each part begins with

finishes_left : (c : CatchState) (requests : List PendingRequest) → catch_asks_left (finishes c) requests ≡ finish_asks_left c
unfolding catching_asks_left
finishes_left c requests = tested c.is_refresh
  where
    tested : (b : Bool)
        → catch_asks_left (if b then record c { refreshing = refresh_finish c.refreshing; step = catch.Finishes } else record c { step = catch.Ended }) requests ≡ (if b then refresh_asks_left (refresh_finish c.refreshing) else 0)
    tested true = refl
    tested false = refl

latch_wanted_left : (p : Places) (bits : ℕ) (c : CatchState) (requests : List PendingRequest) (wanted : Option ℕ) → position is_unlatched requests ≡ wanted
    → catch_asks_left (latch_wanted p bits c requests wanted) requests ≤ unlatched requests + finish_asks_left c + 1
unfolding catching_asks_left share_asks_left
latch_wanted_left p bits c requests None at = let few = finishes_left c requests in omega (arith, few)
latch_wanted_left p bits c requests (Some index) at = begun (slice_get requests index) refl
  where
    begun : (got : Option PendingRequest) → slice_get requests index ≡ got → catch_asks_left (latch_begun p bits c index got) requests ≤ unlatched requests + finish_asks_left c + 1
    begun None e = let few = finishes_left c requests in omega (arith, few)
    begun (Some pending) e =
        let besides : unlatched_besides requests index ≡ unlatched (slice_set requests index (with_latch pending true)) = ap (λ (got : Option PendingRequest). unlatched (latched requests index got)) e in
        let one = one_latched requests index pending at in
        let most = sum_most 2 (unlatched_besides requests index + finish_asks_left c) in
        omega (arith, besides, one, most)

latches_left : (p : Places) (bits : ℕ) (c : CatchState) (requests : List PendingRequest) → catch_asks_left (latches p bits c requests) requests ≤ unlatched requests + finish_asks_left c + 1
latches_left p bits c requests = tested c.is_entering
  where
    tested : (b : Bool) → catch_asks_left (if b then latch_wanted p bits c requests (position is_unlatched requests) else finishes c) requests ≤ unlatched requests + finish_asks_left c + 1
    tested true = latch_wanted_left p bits c requests (position is_unlatched requests) refl
    tested false = let few = finishes_left c requests in omega (arith, few)

takes_up_left : (p : Places) (bits : ℕ) (c : CatchState) (requests : List PendingRequest) (after : Seen) → catch_asks_left (takes_up p bits c requests after) requests ≤ unlatched requests + finish_asks_left c + 3
unfolding catching_asks_left
takes_up_left p bits c requests after = tested (not (is_same_version c.seen after))
  where
    its : CatchState
    its = record c { seen = after; is_entering = enters_prepare c.seen after }

    tested : (b : Bool) → catch_asks_left (cuts p bits its requests b) requests ≤ unlatched requests + finish_asks_left c + 3
    tested true = omega arith
    tested false = let few = latches_left p bits its requests in omega (arith, few)

-- where it asks, it has asks left

finishing_left : (session : ℕ) (c : CatchState) (requests : List PendingRequest) → AsksWhereLeft (refresh_asks_left c.refreshing) (passed (refresh_ask session c.refreshing) (tt {0}))
finishing_left session c requests =
    let its = refresh_left session c.refreshing in
    let same = passed_done (refresh_ask session c.refreshing) (tt {0}) in
    (λ e. its.0 (sym same ∙ e), λ some. same ∙ its.1 some)

catching_left : (p : Places) (session : ℕ) (c : CatchState) (requests : List PendingRequest) (step : Catching) → AsksWhereLeft (catching_asks_left c requests step) (catching_ask p session c requests step)
unfolding catching_ask catching_asks_left
catching_left p session c requests catch.Ended = (never, none)
catching_left p session c requests catch.Refreshes = passed_left (refresh_asks_left c.refreshing) (unlatched requests + 4) (refresh_ask session c.refreshing) (tt {0}) (refresh_left session c.refreshing)
catching_left p session c requests catch.Protects = passed_left (protect_asks_left c.protecting) (unlatched requests + finish_asks_left c + 3) (protect_ask session c.protecting) (tt {0}) (protect_left session c.protecting)
catching_left p session c requests catch.StoresCut = (λ e. omega arith, λ some. refl)
catching_left p session c requests catch.StoresOwing = (λ e. omega arith, λ some. refl)
catching_left p session c requests (catch.Latches index) = passed_left (share_asks_left c.latching) (unlatched_besides requests index + finish_asks_left c) (latch_ask c.latching) (tt {0}) (share_left c.latching)
catching_left p session c requests catch.Finishes = finishing_left session c requests

pub catch_left : (p : Places) (session : ℕ) (c : CatchState) (requests : List PendingRequest) → AsksWhereLeft (catch_asks_left c requests) (catch_ask p session c requests)
catch_left p session c requests = catching_left p session c requests c.step

pub catch_asked_left : (p : Places) (session : ℕ) (c : CatchState) (requests : List PendingRequest) (ask : Ask (Unit {0})) → ask ≡ catch_ask p session c requests → AsksWhereLeft (catch_asks_left c requests) ask
catch_asked_left p session c requests ask e = rw e (catch_left p session c requests)

-- as it begins it asks the same, whatever requests wait
refresh_begun_asked : (p : Places) (session : ℕ) (c : CatchState) (seen : Seen) (serial : ℕ) (requests : List PendingRequest) (ask : Ask (Unit {0})) → ask ≡ catch_ask p session (refresh_begun c seen serial) []
    → AsksWhereLeft (catch_asks_left (refresh_begun c seen serial) requests) ask
unfolding catching_ask
refresh_begun_asked p session c seen serial requests ask e = catch_asked_left p session (refresh_begun c seen serial) requests ask e

pub refresh_begun_asks : (p : Places) (session : ℕ) (c : CatchState) (seen : Seen) (serial : ℕ) (begun : CatchState) (ask : Ask (Unit {0})) → begun ≡ refresh_begun c seen serial → ask ≡ catch_ask p session begun []
    → (requests : List PendingRequest) → AsksWhereLeft (catch_asks_left begun requests) ask
refresh_begun_asks p session c seen serial begun ask begins e requests =
    let same : ask ≡ catch_ask p session (refresh_begun c seen serial) [] = e ∙ ap (λ (its : CatchState). catch_ask p session its []) begins in
    rw begins (refresh_begun_asked p session c seen serial requests ask same)

wake_begun_asked : (p : Places) (session : ℕ) (c : CatchState) (seen : Seen) (serial : ℕ) (requests : List PendingRequest) (ask : Ask (Unit {0})) → ask ≡ catch_ask p session (wake_begun c seen serial) []
    → AsksWhereLeft (catch_asks_left (wake_begun c seen serial) requests) ask
unfolding catching_ask
wake_begun_asked p session c seen serial requests ask e = catch_asked_left p session (wake_begun c seen serial) requests ask e

pub wake_begun_asks : (p : Places) (session : ℕ) (c : CatchState) (seen : Seen) (serial : ℕ) (begun : CatchState) (ask : Ask (Unit {0})) → begun ≡ wake_begun c seen serial → ask ≡ catch_ask p session begun []
    → (requests : List PendingRequest) → AsksWhereLeft (catch_asks_left begun requests) ask
wake_begun_asks p session c seen serial begun ask begins e requests =
    let same : ask ≡ catch_ask p session (wake_begun c seen serial) [] = e ∙ ap (λ (its : CatchState). catch_ask p session its []) begins in
    rw begins (wake_begun_asked p session c seen serial requests ask same)

-- all of it

pub refresh_begun_left : (c : CatchState) (seen : Seen) (serial : ℕ) (requests : List PendingRequest) → catch_asks_left (refresh_begun c seen serial) requests ≤ most_catch_asks requests
unfolding catching_asks_left refresh_asks_left
refresh_begun_left c seen serial requests = let most = sum_most 4 (unlatched requests + 4) in omega (arith, most)

pub wake_begun_left : (c : CatchState) (seen : Seen) (serial : ℕ) (requests : List PendingRequest) → catch_asks_left (wake_begun c seen serial) requests ≤ most_catch_asks requests
unfolding catching_asks_left protect_asks_left
wake_begun_left c seen serial requests = let most = sum_most 5 (unlatched requests + 0 + 3) in omega (arith, most)

pub refresh_begun_most : (c : CatchState) (seen : Seen) (serial : ℕ) (begun : CatchState) → begun ≡ refresh_begun c seen serial → (requests : List PendingRequest) → catch_asks_left begun requests ≤ most_catch_asks requests
refresh_begun_most c seen serial begun begins requests = rw begins (refresh_begun_left c seen serial requests)

pub wake_begun_most : (c : CatchState) (seen : Seen) (serial : ℕ) (begun : CatchState) → begun ≡ wake_begun c seen serial → (requests : List PendingRequest) → catch_asks_left begun requests ≤ most_catch_asks requests
wake_begun_most c seen serial begun begins requests = rw begins (wake_begun_left c seen serial requests)

pub catch_most : (requests : List PendingRequest) → most_catch_asks requests ≤ length requests + 8
catch_most requests = let few = count_by-le-length is_unlatched requests in omega (arith, few)

-- one step, by what the machine inside has left

waiting_finish : (session : ℕ) (step : Refreshing) → is_done (refresh_ask session step) ≡ true → refresh_asks_left (refresh_finish step) ≤ 1
unfolding refresh_ask refresh_finish refresh_asks_left
waiting_finish session refresh.AtRest e = omega arith
waiting_finish session (refresh.HasLoaded epoch values) e = omega arith
waiting_finish session step e = cc

finish_few : (session : ℕ) (c : CatchState) → is_done (refresh_ask session c.refreshing) ≡ true → finish_asks_left c ≤ 1
finish_few session c e = tested c.is_refresh
  where
    tested : (b : Bool) → (if b then refresh_asks_left (refresh_finish c.refreshing) else 0) ≤ 1
    tested true = waiting_finish session c.refreshing e
    tested false = omega arith

inside_refresh : (c : CatchState) (requests : List PendingRequest) (old : ℕ) → c.step ≡ catch.Refreshes → refresh_asks_left c.refreshing < old → catch_asks_left c requests < sum_left old (unlatched requests + 4)
unfolding catching_asks_left
inside_refresh c requests old at fewer = rw at (inside_fewer (refresh_asks_left c.refreshing) old (unlatched requests + 4) fewer)

refresh_led : (p : Places) (bits session : ℕ) (c : CatchState) (requests : List PendingRequest) (old : ℕ) (ask : Ask RefreshAnswer) → c.step ≡ catch.Refreshes → ask ≡ refresh_ask session c.refreshing → 0 < old
    → refresh_asks_left c.refreshing < old → catch_asks_left (refresh_ledto p bits c requests ask) requests < sum_left old (unlatched requests + 4)
unfolding refresh_ledto catching_asks_left
refresh_led p bits session c requests old (Done (Loaded values)) at e some fewer =
    let one = finish_few session c (rw (← e) refl) in
    let few = takes_up_left p bits c requests (seen_after c.seen values (phase_said values.phase)) in
    behind_fewer _ old (unlatched requests + 4) some (omega (arith, one, few))
refresh_led p bits session c requests old (Done Stored) at e some fewer = ended
  where
    ended : catch_asks_left (record c { step = catch.Ended }) requests < sum_left old (unlatched requests + 4)
    ended = behind_fewer 0 old (unlatched requests + 4) some (omega arith)
refresh_led p bits session c requests old ask at e some fewer = inside_refresh c requests old at fewer

inside_protect : (c : CatchState) (requests : List PendingRequest) (old : ℕ) → c.step ≡ catch.Protects → protect_asks_left c.protecting < old
    → catch_asks_left c requests < sum_left old (unlatched requests + finish_asks_left c + 3)
unfolding catching_asks_left
inside_protect c requests old at fewer = rw at (inside_fewer (protect_asks_left c.protecting) old (unlatched requests + finish_asks_left c + 3) fewer)

protect_led : (p : Places) (bits : ℕ) (c : CatchState) (requests : List PendingRequest) (old : ℕ) (ask : Ask loaded.Seen) → c.step ≡ catch.Protects → 0 < old → protect_asks_left c.protecting < old
    → catch_asks_left (protect_ledto p bits c requests ask) requests < sum_left old (unlatched requests + finish_asks_left c + 3)
unfolding protect_ledto
protect_led p bits c requests old (Done values) at some fewer =
    behind_fewer _ old (unlatched requests + finish_asks_left c + 3) some (takes_up_left p bits c requests (seen_after c.seen values (phase_said values.phase)))
protect_led p bits c requests old ask at some fewer = inside_protect c requests old at fewer

inside_latch : (c : CatchState) (requests : List PendingRequest) (index old : ℕ) → c.step ≡ catch.Latches index → share_asks_left c.latching < old
    → catch_asks_left c requests < sum_left old (unlatched_besides requests index + finish_asks_left c)
unfolding catching_asks_left
inside_latch c requests index old at fewer = rw at (inside_fewer (share_asks_left c.latching) old (unlatched_besides requests index + finish_asks_left c) fewer)

latch_led : (p : Places) (bits : ℕ) (c : CatchState) (requests : List PendingRequest) (index old : ℕ) (ask : Ask LatchAnswer) → c.step ≡ catch.Latches index → 0 < old → ShareLeaves old (share_asks_left c.latching) ask
    → catch_asks_left (latch_ledto p bits c (latch_marked requests index ask) ask) (latch_marked requests index ask) < sum_left old (unlatched_besides requests index + finish_asks_left c)
unfolding latch_ledto latch_marked
latch_led p bits c requests index old (Done Taken) at some leaves =
    let few = latches_left p bits c (latched requests index (slice_get requests index)) in
    let whole = sum_whole old (unlatched_besides requests index + finish_asks_left c) some in
    omega (arith, few, whole, leaves)
latch_led p bits c requests index old (Done its) at some leaves =
    let few = finishes_left c requests in
    behind_fewer _ old (unlatched_besides requests index + finish_asks_left c) some (omega (arith, few))
latch_led p bits c requests index old ask at some leaves = inside_latch c requests index old at leaves

finish_led : (c : CatchState) (requests : List PendingRequest) (old : ℕ) (ask : Ask RefreshAnswer) → c.step ≡ catch.Finishes → refresh_asks_left c.refreshing < old → catch_asks_left (finish_ledto c ask) requests < old
unfolding finish_ledto catching_asks_left
finish_led c requests old (Done its) at fewer = omega (arith, fewer)
finish_led c requests old ask at fewer = rw at fewer

refresh_falls : (step : Refreshing) (reply : ℕ) → 0 < refresh_asks_left step → refresh_asks_left (refresh_next step reply) < refresh_asks_left step
refresh_falls step reply some = let fewer = refresh_fewer step reply in omega (arith, fewer, some)

catching_fewer : (p : Places) (bits session : ℕ) (c : CatchState) (requests : List PendingRequest) (step : Catching) (reply : ℕ) → c.step ≡ step → 0 < catching_asks_left c requests step
    → catch_asks_left (catching_next p bits session c (catching_requests c requests step reply) step reply) (catching_requests c requests step reply) < catching_asks_left c requests step
unfolding catching_next catching_requests catching_asks_left
catching_fewer p bits session c requests catch.Ended reply at some = none some
catching_fewer p bits session c requests catch.Refreshes reply at some =
    let inside = some_inside (refresh_asks_left c.refreshing) (unlatched requests + 4) some in
    refresh_led p bits session (record c { refreshing = refresh_next c.refreshing reply }) requests (refresh_asks_left c.refreshing) (refresh_ask session (refresh_next c.refreshing reply)) at refl inside (refresh_falls c.refreshing reply inside)
catching_fewer p bits session c requests catch.Protects reply at some =
    let inside = some_inside (protect_asks_left c.protecting) (unlatched requests + finish_asks_left c + 3) some in
    let fewer = protect_fewer c.protecting reply in
    protect_led p bits (record c { protecting = protect_next c.protecting reply }) requests (protect_asks_left c.protecting) (protect_next_ask session c.protecting reply) at inside (omega (arith, fewer, inside))
catching_fewer p bits session c requests catch.StoresCut reply at some = omega arith
catching_fewer p bits session c requests catch.StoresOwing reply at some = let few = latches_left p bits c requests in omega (arith, few)
catching_fewer p bits session c requests (catch.Latches index) reply at some =
    let inside = some_inside (share_asks_left c.latching) (unlatched_besides requests index + finish_asks_left c) some in
    latch_led p bits (record c { latching = latch_next c.latching reply }) requests index (share_asks_left c.latching) (latch_next_ask c.latching reply) at inside (share_fewer c.latching reply inside)
catching_fewer p bits session c requests catch.Finishes reply at some =
    finish_led (record c { refreshing = refresh_next c.refreshing reply }) requests (refresh_asks_left c.refreshing) (refresh_ask session (refresh_next c.refreshing reply)) at (refresh_falls c.refreshing reply some)

-- each reply leaves fewer
pub catch_fewer : (p : Places) (bits session : ℕ) (c : CatchState) (requests : List PendingRequest) (reply : ℕ) → 0 < catch_asks_left c requests
    → catch_asks_left (catch_next p bits session c requests reply) (catch_requests c requests reply) < catch_asks_left c requests
catch_fewer p bits session c requests reply some = catching_fewer p bits session c requests c.step reply refl some

-- so it does wherever state and requests are those behind the reply
pub catch_stays_fewer : (p : Places) (bits session : ℕ) (c : CatchState) (requests : List PendingRequest) (reply : ℕ) (next : CatchState) (marked : List PendingRequest) → next ≡ catch_next p bits session c requests reply
    → marked ≡ catch_requests c requests reply → 0 < catch_asks_left c requests → catch_asks_left next marked < catch_asks_left c requests
catch_stays_fewer p bits session c requests reply next marked e same some = rw e (rw same (catch_fewer p bits session c requests reply some))
