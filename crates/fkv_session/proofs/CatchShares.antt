-- While a session catches up, what it has added to a latch and not taken off is what its requests share there.
use Rattle.std.proofs.Common.{◌≡◌, ℕ, ◌+◌, ◌-◌, ◌^◌, zero, suc, refl, sym, subst, ap, ◌∙◌, arith, Bool, true, false, List, [], ◌∷◌, ◌++◌}
use Rattle.std.specs.Prelude.{Option, Some, None, if◌then◌else◌, ◌==◌, ◌&&◌, not, slice_get, slice_set, get_or}
use Rattle.std.specs.List.{position, remove}
use Rattle.std.proofs.lemmas.Bool.Decides.{nat_tests}
use Rattle.std.proofs.lemmas.List.Quantifiers.{position-Some}
use Rattle.fkv_words.specs.Fields.{bit_of}
use Rattle.fkv_plane.specs.declared.asks.Ask.{Ask}
use Rattle.fkv_plane.specs.declared.asks.Ask.TheVariants.{Done}
use Rattle.fkv_plane.specs.Passing.{passed}
use Rattle.fkv_epoch.specs.declared.values.Seen as loaded
use Rattle.fkv_epoch.specs.declared.refreshing.RefreshAnswer.{RefreshAnswer}
use Rattle.fkv_epoch.specs.declared.refreshing.RefreshAnswer.TheVariants.{Loaded, Stored}
use Rattle.fkv_epoch.specs.Refreshing.{refresh_next, refresh_finish}
use Rattle.fkv_epoch.specs.Protecting.{protect_next}
use Rattle.fkv_latch.specs.declared.latching.LatchAnswer.TheVariants.{Taken, Busy}
use Rattle.fkv_latch.specs.declared.latching.Latching.{Latching}
use Rattle.fkv_latch.specs.declared.latching.Latching.TheVariants as latching
use Rattle.fkv_latch.specs.Latching.{one_share, is_exclusive, latch_ask, latch_next, latch_next_ask}
use Rattle.fkv_ops.specs.declared.requests.Seen.{Seen}
use Rattle.fkv_ops.specs.Requests.{is_read}
use Rattle.fkv_pending.specs.declared.pending_requests.PendingRequest.{PendingRequest}
use Rattle.fkv_pending.specs.Pending.{with_latch, is_unlatched}
use Rattle.fkv_words.specs.PhaseWords.{phase_said}
use Rattle.fkv_session.specs.declared.catching_up.Catching.{Catching}
use Rattle.fkv_session.specs.declared.catching_up.Catching.TheVariants.{Ended, Refreshes, Protects, StoresCut, StoresOwing, Latches, Finishes}
use Rattle.fkv_session.specs.CatchingUp.{CatchState, catching_ask, catch_ask, seen_after, finishes, latch_begun, latch_wanted, latches, cuts, is_same_version, enters_prepare, takes_up, refresh_ledto, protect_ledto, latched, latch_marked, catching_requests, catch_requests, latch_ledto, finish_ledto, catching_next, catch_next}
use Rattle.fkv_session.specs.Sessions.{Seat, bits_of}
use Rattle.fkv_session.specs.Shares.{added_by, latch_of, is_sharing, sharing, OnlyUpdatesShare}
use Rattle.fkv_session.proofs.SharesSpared.{SharesNone, none_added, none_dropped, passed_none, refresh_none, protect_none}
use Rattle.fkv_session.proofs.AttemptShares.{ReadsNone}

-- a share that is to be given back
abbrev pub giving_at : ℕ → Latching → ℕ
giving_at at (latching.GivesBack place) = bit_of (place == at)
giving_at at step = 0

abbrev pub owed_at : ℕ → CatchState → Catching → ℕ
owed_at at c (Latches i) = giving_at at c.latching
owed_at at c step = 0

-- the update that takes its latch
pub record IsLatching (k : Seat) (requests : List PendingRequest) (i place : ℕ) : Type 0 where
  pub pending : PendingRequest
  pub at : slice_get requests i ≡ Some pending
  pub unlatched : is_unlatched pending ≡ true
  pub its_place : place ≡ latch_of k.places (bits_of k) pending.request.op

abbrev pub LatchesSo : Seat → List PendingRequest → ℕ → Latching → Type 0
LatchesSo k requests i (latching.AddsShare place) = IsLatching k requests i place
LatchesSo k requests i (latching.GivesBack place) = Unit {0}
LatchesSo k requests i step = ⊥

abbrev pub KnowsCatch : Seat → List PendingRequest → CatchState → Catching → Type 0
KnowsCatch k requests c (Latches i) = LatchesSo k requests i c.latching
KnowsCatch k requests c step = Unit {0}

-- nothing to be given back
pub record OwesNone (k : Seat) (requests : List PendingRequest) (c : CatchState) : Type 0 where
  pub owes : (at : ℕ) → owed_at at c c.step ≡ 0
  pub knows : KnowsCatch k requests c c.step

either_none : (b : Bool) (k : Seat) (requests : List PendingRequest) (c d : CatchState) → OwesNone k requests c → OwesNone k requests d → OwesNone k requests (if b then c else d)
either_none true k requests c d one other = one
either_none false k requests c d one other = other

finishes_none : (k : Seat) (requests : List PendingRequest) (c : CatchState) → OwesNone k requests (finishes c)
finishes_none k requests c =
    either_none c.is_refresh k requests (record c { refreshing = refresh_finish c.refreshing; step = Finishes }) (record c { step = Ended }) (record { owes = λ at. refl; knows = tt }) (record { owes = λ at. refl; knows = tt })

got_at : {A : Type 0} (xs : List A) (i : ℕ) (x d : A) → slice_get xs i ≡ Some x → get_or xs i d ≡ x
got_at [] i x d got = cc
got_at (y ∷ rest) zero x d got = cc
got_at (y ∷ rest) (suc i) x d got = got_at rest i x d got

begun_none : (k : Seat) (requests : List PendingRequest) (c : CatchState) (i : ℕ) (found : Option PendingRequest) → position is_unlatched requests ≡ Some i → slice_get requests i ≡ found → OwesNone k requests (latch_begun k.places (bits_of k) c i found)
begun_none k requests c i None at got = finishes_none k requests c
begun_none k requests c i (Some pending) at got =
    let first = position-Some is_unlatched requests i pending at in
    record { owes = λ at. refl; knows = record { pending = pending; at = got; unlatched = ap is_unlatched (sym (got_at requests i pending pending got)) ∙ first.1; its_place = refl } }

wanted_none : (k : Seat) (requests : List PendingRequest) (c : CatchState) (wanted : Option ℕ) → position is_unlatched requests ≡ wanted → OwesNone k requests (latch_wanted k.places (bits_of k) c requests wanted)
wanted_none k requests c None at = finishes_none k requests c
wanted_none k requests c (Some i) at = begun_none k requests c i (slice_get requests i) at refl

latches_none : (k : Seat) (requests : List PendingRequest) (c : CatchState) → OwesNone k requests (latches k.places (bits_of k) c requests)
latches_none k requests c =
    either_none c.is_entering k requests (latch_wanted k.places (bits_of k) c requests (position is_unlatched requests)) (finishes c) (wanted_none k requests c (position is_unlatched requests) refl) (finishes_none k requests c)

cuts_none : (k : Seat) (requests : List PendingRequest) (c : CatchState) (changed : Bool) → OwesNone k requests (cuts k.places (bits_of k) c requests changed)
cuts_none k requests c true = record { owes = λ at. refl; knows = tt }
cuts_none k requests c false = latches_none k requests c

takes_none : (k : Seat) (requests : List PendingRequest) (c : CatchState) (after : Seen) → OwesNone k requests (takes_up k.places (bits_of k) c requests after)
takes_none k requests c after = cuts_none k requests (record c { seen = after; is_entering = enters_prepare c.seen after }) (not (is_same_version c.seen after))

still_none : (k : Seat) (requests : List PendingRequest) (c : CatchState) (step : Catching) → c.step ≡ step → ((at : ℕ) → owed_at at c step ≡ 0) → KnowsCatch k requests c step → OwesNone k requests c
still_none k requests c step s owes knows = record {
  owes = λ at. (ap (λ (x : Catching). owed_at at c x) s ∙ owes at);
  knows = subst (λ (x : Catching). KnowsCatch k requests c x) (sym s) knows;
}

refreshed_none : (k : Seat) (requests : List PendingRequest) (c : CatchState) (ask : Ask RefreshAnswer) → c.step ≡ Refreshes → OwesNone k requests (refresh_ledto k.places (bits_of k) c requests ask)
unfolding refresh_ledto
refreshed_none k requests c (Done (Loaded values)) s = takes_none k requests c (seen_after c.seen values (phase_said values.phase))
refreshed_none k requests c (Done Stored) s = record { owes = λ at. refl; knows = tt }
refreshed_none k requests c ask s = still_none k requests c Refreshes s (λ at. refl) tt

protected_none : (k : Seat) (requests : List PendingRequest) (c : CatchState) (ask : Ask loaded.Seen) → c.step ≡ Protects → OwesNone k requests (protect_ledto k.places (bits_of k) c requests ask)
unfolding protect_ledto
protected_none k requests c (Done values) s = takes_none k requests c (seen_after c.seen values (phase_said values.phase))
protected_none k requests c ask s = still_none k requests c Protects s (λ at. refl) tt

finish_none : (k : Seat) (requests : List PendingRequest) (c : CatchState) (ask : Ask RefreshAnswer) → c.step ≡ Finishes → OwesNone k requests (finish_ledto c ask)
unfolding finish_ledto
finish_none k requests c (Done its) s = record { owes = λ at. refl; knows = tt }
finish_none k requests c ask s = still_none k requests c Finishes s (λ at. refl) tt

-- lists of requests
pub sharing_set : (k : Seat) (at : ℕ) (requests : List PendingRequest) (i : ℕ) (p q : PendingRequest) → slice_get requests i ≡ Some q
    → sharing k at (slice_set requests i p) + bit_of (is_sharing k at q) ≡ sharing k at requests + bit_of (is_sharing k at p)
sharing_set k at [] i p q got = cc
sharing_set k at (o ∷ rest) zero p q got =
    let its : q ≡ o = cc in
    let same : bit_of (is_sharing k at q) ≡ bit_of (is_sharing k at o) = ap (λ (x : PendingRequest). bit_of (is_sharing k at x)) its in
    omega (arith, same)
sharing_set k at (o ∷ rest) (suc i) p q got = let inner = sharing_set k at rest i p q got in omega (arith, inner)

pub sharing_removed : (k : Seat) (at : ℕ) (requests : List PendingRequest) (i : ℕ) (q : PendingRequest) → slice_get requests i ≡ Some q
    → sharing k at (remove requests i) + bit_of (is_sharing k at q) ≡ sharing k at requests
sharing_removed k at [] i q got = cc
sharing_removed k at (o ∷ rest) zero q got =
    let its : q ≡ o = cc in
    let same : bit_of (is_sharing k at q) ≡ bit_of (is_sharing k at o) = ap (λ (x : PendingRequest). bit_of (is_sharing k at x)) its in
    omega (arith, same)
sharing_removed k at (o ∷ rest) (suc i) q got = let inner = sharing_removed k at rest i q got in omega (arith, inner)

pub sharing_behind : (k : Seat) (at : ℕ) (requests : List PendingRequest) (p : PendingRequest) → sharing k at (requests ++ p ∷ []) ≡ sharing k at requests + bit_of (is_sharing k at p)
sharing_behind k at [] p = omega arith
sharing_behind k at (o ∷ rest) p = let inner = sharing_behind k at rest p in omega (arith, inner)

pub only_set : (requests : List PendingRequest) (i : ℕ) (p : PendingRequest) → ReadsNone p → OnlyUpdatesShare requests → OnlyUpdatesShare (slice_set requests i p)
only_set [] i p reads only = only
only_set (o ∷ rest) zero p reads only = (reads, only.1)
only_set (o ∷ rest) (suc i) p reads only = (only.0, only_set rest i p reads only.1)

pub only_removed : (requests : List PendingRequest) (i : ℕ) → OnlyUpdatesShare requests → OnlyUpdatesShare (remove requests i)
only_removed [] zero only = only
only_removed [] (suc i) only = only
only_removed (o ∷ rest) zero only = only.1
only_removed (o ∷ rest) (suc i) only = (only.0, only_removed rest i only.1)

pub only_behind : (requests : List PendingRequest) (p : PendingRequest) → ReadsNone p → OnlyUpdatesShare requests → OnlyUpdatesShare (requests ++ p ∷ [])
only_behind [] p reads only = (reads, tt)
only_behind (o ∷ rest) p reads only = (only.0, only_behind rest p reads only.1)

pub only_at : (requests : List PendingRequest) (i : ℕ) (p : PendingRequest) → slice_get requests i ≡ Some p → OnlyUpdatesShare requests → ReadsNone p
only_at [] i p got only = cc
only_at (o ∷ rest) zero p got only = let its : p ≡ o = cc in subst (λ (x : PendingRequest). ReadsNone x) (sym its) only.0
only_at (o ∷ rest) (suc i) p got only = only_at rest i p got only.1

-- behind a reply
pub record CatchShares (k : Seat) (requests : List PendingRequest) (c : CatchState) (step : Catching) (ask : Ask (Unit {0})) (after : List PendingRequest) (next : CatchState) : Type 0 where
  pub count : (at : ℕ) → sharing k at requests + owed_at at c step + added_by one_share at ask ≡ sharing k at after + owed_at at next next.step + added_by (2 ^ 64 - one_share) at ask
  pub knows : KnowsCatch k after next next.step
  pub only : OnlyUpdatesShare after

-- a step that has nothing to do with latches
apart : (k : Seat) (requests : List PendingRequest) (c : CatchState) (step : Catching) (ask : Ask (Unit {0})) (next : CatchState) → ((at : ℕ) → owed_at at c step ≡ 0) → SharesNone ask → OnlyUpdatesShare requests → OwesNone k requests next
    → CatchShares k requests c step ask requests next
apart k requests c step ask next owes none only its = record {
  count = λ at.
      (let one = none_added at ask none in
      let other = none_dropped at ask none in
      let before = owes at in
      let behind = its.owes at in
      omega (arith, one, other, before, behind));
  knows = its.knows;
  only = only;
}

unlatched_has : (read has : Bool) → (not read && not has) ≡ true → has ≡ false
unlatched_has true has e = cc
unlatched_has false true e = cc
unlatched_has false false e = refl

unlatched_update : (read has : Bool) → (not read && not has) ≡ true → read ≡ false
unlatched_update true has e = cc
unlatched_update false has e = refl

marked_share : (k : Seat) (at : ℕ) (p : PendingRequest) → bit_of (is_sharing k at (with_latch p true)) ≡ bit_of (latch_of k.places (bits_of k) p.request.op == at)
unfolding with_latch
marked_share k at p = refl

unmarked_share : (k : Seat) (at : ℕ) (p : PendingRequest) → p.request.has_latch ≡ false → bit_of (is_sharing k at p) ≡ 0
unmarked_share k at p none = ap (λ (b : Bool). bit_of (b && latch_of k.places (bits_of k) p.request.op == at)) none

marked_reads : (p : PendingRequest) → is_read p.request.op ≡ false → ReadsNone (with_latch p true)
unfolding with_latch
marked_reads p update = λ read. cc

-- the list in which that request shares its latch
marked_list : (k : Seat) (requests : List PendingRequest) (i place : ℕ) (found : Option PendingRequest) (its : IsLatching k requests i place) → slice_get requests i ≡ found → OnlyUpdatesShare requests
    → ((at : ℕ) → sharing k at (latched requests i found) ≡ sharing k at requests + bit_of (place == at)) × OnlyUpdatesShare (latched requests i found)
marked_list k requests i place None its got only = let at = its.at in cc
marked_list k requests i place (Some p) its got only =
    let same : p ≡ its.pending = cc in
    let unlatched : is_unlatched p ≡ true = ap is_unlatched same ∙ its.unlatched in
    let place_of : place ≡ latch_of k.places (bits_of k) p.request.op = its.its_place ∙ ap (λ (x : PendingRequest). latch_of k.places (bits_of k) x.request.op) (sym same) in
    let has = unlatched_has (is_read p.request.op) p.request.has_latch unlatched in
    let update = unlatched_update (is_read p.request.op) p.request.has_latch unlatched in (
      λ at.
          (let set = sharing_set k at requests i (with_latch p true) p got in
          let marked = marked_share k at p in
          let none = unmarked_share k at p has in
          let here : bit_of (place == at) ≡ bit_of (latch_of k.places (bits_of k) p.request.op == at) = ap (λ (n : ℕ). bit_of (n == at)) place_of in
          omega (arith, set, marked, none, here)),
      only_set requests i (with_latch p true) (marked_reads p update) only,
    )

at_itself : (n : ℕ) → (n == n) ≡ true
at_itself n = grind (arith, nat_tests)

share_added : (place at : ℕ) → added_by one_share at (passed {B = Unit {0}} (latch_ask (latching.AddsShare place)) tt) ≡ bit_of (place == at)
unfolding latch_ask passed
share_added place at = refl

share_not_dropped : (place at : ℕ) → added_by (2 ^ 64 - one_share) at (passed {B = Unit {0}} (latch_ask (latching.AddsShare place)) tt) ≡ 0
unfolding latch_ask passed
share_not_dropped place at = refl

back_dropped : (place at : ℕ) → added_by (2 ^ 64 - one_share) at (passed {B = Unit {0}} (latch_ask (latching.GivesBack place)) tt) ≡ bit_of (place == at)
unfolding latch_ask passed
back_dropped place at = refl

back_not_added : (place at : ℕ) → added_by one_share at (passed {B = Unit {0}} (latch_ask (latching.GivesBack place)) tt) ≡ 0
unfolding latch_ask passed
back_not_added place at = refl

-- by what the latch asks next
adds_shares : (k : Seat) (requests : List PendingRequest) (c : CatchState) (i place : ℕ) (busy : Bool) → c.step ≡ Latches i → c.latching ≡ (if busy then latching.GivesBack place else latching.AtRest) → IsLatching k requests i place → OnlyUpdatesShare requests
    → ((at : ℕ) → sharing k at requests + bit_of (place == at) ≡ sharing k at (latch_marked requests i (if busy then latch_ask (latching.GivesBack place) else Done Taken))
    + owed_at at (latch_ledto k.places (bits_of k) c (latch_marked requests i (if busy then latch_ask (latching.GivesBack place) else Done Taken)) (if busy then latch_ask (latching.GivesBack place) else Done Taken))
    (latch_ledto k.places (bits_of k) c (latch_marked requests i (if busy then latch_ask (latching.GivesBack place) else Done Taken)) (if busy then latch_ask (latching.GivesBack place) else Done Taken)).step)
    × KnowsCatch k (latch_marked requests i (if busy then latch_ask (latching.GivesBack place) else Done Taken)) (latch_ledto k.places (bits_of k) c (latch_marked requests i (if busy then latch_ask (latching.GivesBack place) else Done Taken)) (if busy then latch_ask (latching.GivesBack place) else Done Taken))
    (latch_ledto k.places (bits_of k) c (latch_marked requests i (if busy then latch_ask (latching.GivesBack place) else Done Taken)) (if busy then latch_ask (latching.GivesBack place) else Done Taken)).step
    × OnlyUpdatesShare (latch_marked requests i (if busy then latch_ask (latching.GivesBack place) else Done Taken))
unfolding latch_ask latch_marked latch_ledto
adds_shares k requests c i place true s at its only = (
  λ place_at. (let one : owed_at place_at c c.step ≡ bit_of (place == place_at) = ap (λ (x : Catching). owed_at place_at c x) s ∙ ap (λ (x : Latching). giving_at place_at x) at in omega (arith, one)),
  subst (λ (x : Catching). KnowsCatch k requests c x) (sym s) (subst (λ (x : Latching). LatchesSo k requests i x) (sym at) tt),
  only,
)
adds_shares k requests c i place false s at its only =
    let marked = marked_list k requests i place (slice_get requests i) its refl only in
    let after = latches_none k (latched requests i (slice_get requests i)) c in
    (λ place_at. (let one = marked.0 place_at in let other = after.owes place_at in omega (arith, one, other)), after.knows, marked.1)

back_shares : (k : Seat) (requests : List PendingRequest) (d : CatchState) (i : ℕ)
    → OwesNone k (latch_marked requests i (Done Busy)) (latch_ledto k.places (bits_of k) d (latch_marked requests i (Done Busy)) (Done Busy)) × (latch_marked requests i (Done Busy) ≡ requests)
unfolding latch_marked latch_ledto
back_shares k requests d i = (finishes_none k requests d, refl)

latch_shares : (k : Seat) (requests : List PendingRequest) (c : CatchState) (i : ℕ) (step : Latching) (reply : ℕ) → c.step ≡ Latches i → c.latching ≡ step → LatchesSo k requests i step → OnlyUpdatesShare requests
    → CatchShares k requests c (Latches i) (passed (latch_ask step) tt) (latch_marked requests i (latch_next_ask step reply))
    (latch_ledto k.places (bits_of k) (record c { latching = latch_next step reply }) (latch_marked requests i (latch_next_ask step reply)) (latch_next_ask step reply))
unfolding latch_next latch_next_ask
latch_shares k requests c i (latching.AddsShare place) reply s at its only =
    let d : CatchState = record c { latching = if is_exclusive reply then latching.GivesBack place else latching.AtRest } in
    let next = adds_shares k requests d i place (is_exclusive reply) s refl its only in
    record {
      count = λ place_at.
          (let one = next.0 place_at in
          let two = share_added place place_at in
          let three = share_not_dropped place place_at in
          let none : giving_at place_at c.latching ≡ 0 = ap (λ (x : Latching). giving_at place_at x) at in
          omega (arith, one, two, three, none));
      knows = next.1;
      only = next.2;
    }
latch_shares k requests c i (latching.GivesBack place) reply s at its only =
    let d : CatchState = record c { latching = latching.AtRest } in
    let after = back_shares k requests d i in
    record {
      count = λ place_at.
          (let one = after.0.owes place_at in
          let two = back_dropped place place_at in
          let three = back_not_added place place_at in
          let its_own : giving_at place_at c.latching ≡ bit_of (place == place_at) = ap (λ (x : Latching). giving_at place_at x) at in
          let same = ap (λ (l : List PendingRequest). sharing k place_at l) after.1 in
          omega (arith, one, two, three, its_own, same));
      knows = after.0.knows;
      only = subst OnlyUpdatesShare (sym after.1) only;
    }
latch_shares k requests c i step reply s at its only = absurd its

step_shares : (k : Seat) (requests : List PendingRequest) (c : CatchState) (step : Catching) (reply : ℕ) → c.step ≡ step → KnowsCatch k requests c step → OnlyUpdatesShare requests
    → CatchShares k requests c step (catching_ask k.places k.number c requests step) (catching_requests c requests step reply) (catching_next k.places (bits_of k) k.number c (catching_requests c requests step reply) step reply)
unfolding catching_ask catching_next catching_requests
step_shares k requests c Ended reply s knows only = apart k requests c Ended (Done tt) c (λ at. refl) tt only (still_none k requests c Ended s (λ at. refl) tt)
step_shares k requests c Refreshes reply s knows only =
    apart k requests c Refreshes _ _ (λ at. refl) (passed_none _ tt (refresh_none k.number c.refreshing)) only (refreshed_none k requests (record c { refreshing = refresh_next c.refreshing reply }) _ s)
step_shares k requests c Protects reply s knows only =
    apart k requests c Protects _ _ (λ at. refl) (passed_none _ tt (protect_none k.number c.protecting)) only (protected_none k requests (record c { protecting = protect_next c.protecting reply }) _ s)
step_shares k requests c StoresCut reply s knows only = apart k requests c StoresCut _ (record c { step = StoresOwing }) (λ at. refl) tt only (record { owes = λ at. refl; knows = tt })
step_shares k requests c StoresOwing reply s knows only = apart k requests c StoresOwing _ _ (λ at. refl) tt only (latches_none k requests c)
step_shares k requests c (Latches i) reply s knows only = latch_shares k requests c i c.latching reply s refl knows only
step_shares k requests c Finishes reply s knows only =
    apart k requests c Finishes _ _ (λ at. refl) (passed_none _ tt (refresh_none k.number c.refreshing)) only (finish_none k requests (record c { refreshing = refresh_next c.refreshing reply }) _ s)

pub catch_shares : (k : Seat) (requests : List PendingRequest) (c : CatchState) (reply : ℕ) → KnowsCatch k requests c c.step → OnlyUpdatesShare requests
    → CatchShares k requests c c.step (catch_ask k.places k.number c requests) (catch_requests c requests reply) (catch_next k.places (bits_of k) k.number c requests reply)
catch_shares k requests c reply knows only = step_shares k requests c c.step reply refl knows only
