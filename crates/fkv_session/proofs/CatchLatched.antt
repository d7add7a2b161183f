-- A session that enters prepare shares the latch of each of its updates that wait, unless a share meets bit 63.
use Rattle.std.proofs.Common.{◌≡◌, ℕ, ◌+◌, ◌<◌, ◌≤◌, zero, suc, refl, sym, subst, ap, ◌∙◌, arith, Bool, true, false, List, [], ◌∷◌, ◌++◌, length}
use Rattle.std.specs.Prelude.{Option, Some, None, if◌then◌else◌, ◌&&◌, not, nat_lt, cond, slice_get, slice_set}
use Rattle.std.specs.List.{position, prefix_len, remove}
use Rattle.std.proofs.lemmas.Bool.Decides.{nat_tests}
use Rattle.std.proofs.lemmas.List.Quantifiers.{position-Some}
use Rattle.fkv_plane.specs.declared.asks.Ask.{Ask}
use Rattle.fkv_plane.specs.declared.asks.Ask.TheVariants.{Done}
use Rattle.fkv_plane.specs.Passing.{passed}
use Rattle.fkv_epoch.specs.declared.values.Seen as loaded
use Rattle.fkv_epoch.specs.declared.refreshing.RefreshAnswer.{RefreshAnswer}
use Rattle.fkv_epoch.specs.declared.refreshing.RefreshAnswer.TheVariants.{Loaded, Stored}
use Rattle.fkv_epoch.specs.Refreshing.{refresh_next, refresh_finish}
use Rattle.fkv_epoch.specs.Protecting.{protect_next}
use Rattle.fkv_latch.specs.declared.latching.LatchAnswer.TheVariants.{Taken}
use Rattle.fkv_latch.specs.declared.latching.Latching.{Latching}
use Rattle.fkv_latch.specs.declared.latching.Latching.TheVariants as latching
use Rattle.fkv_latch.specs.Latching.{is_exclusive, latch_ask, latch_next, latch_next_ask}
use Rattle.fkv_ops.specs.declared.requests.Seen.{Seen}
use Rattle.fkv_ops.specs.Requests.{is_read}
use Rattle.fkv_ops.specs.Trying.{is_prepare}
use Rattle.fkv_pending.specs.declared.pending_requests.PendingRequest.{PendingRequest}
use Rattle.fkv_pending.specs.Pending.{is_unlatched}
use Rattle.fkv_words.specs.PhaseWords.{phase_said}
use Rattle.fkv_session.specs.declared.answers.Told.{Told}
use Rattle.fkv_session.specs.declared.answers.Told.TheVariants as told
use Rattle.fkv_session.specs.declared.catching_up.Catching.{Catching}
use Rattle.fkv_session.specs.declared.catching_up.Catching.TheVariants.{Ended, Refreshes, Protects, StoresCut, StoresOwing, Latches, Finishes}
use Rattle.fkv_session.specs.CatchingUp.{CatchState, catching_ask, catch_ask, seen_after, finishes, latch_begun, latch_wanted, latches, cuts, is_same_version, enters_prepare, takes_up, refresh_ledto, protect_ledto, latch_marked, catching_requests, catch_requests, latch_ledto, finish_ledto, catching_next, catch_next}
use Rattle.fkv_session.specs.Sessions.{Seat, bits_of}
use Rattle.fkv_session.specs.Shares.{AllUpdatesShare, meets_exclusive}

-- in prepare all updates share
abbrev pub AllShareIn : Seen → List PendingRequest → Type 0
AllShareIn seen requests = is_prepare seen.phase ≡ true → AllUpdatesShare requests

abbrev pub IsEntering : CatchState → Type 0
IsEntering c = is_prepare c.seen.phase ≡ true → c.is_entering ≡ true

abbrev pub IsAdding : Latching → Type 0
IsAdding (latching.AddsShare place) = Unit {0}
IsAdding step = ⊥

abbrev pub KnowsTaking : Seen → List PendingRequest → CatchState → Catching → Type 0
KnowsTaking seen requests c Refreshes = (c.seen ≡ seen) × AllShareIn seen requests
KnowsTaking seen requests c Protects = (c.seen ≡ seen) × AllShareIn seen requests
KnowsTaking seen requests c StoresCut = IsEntering c
KnowsTaking seen requests c StoresOwing = IsEntering c
KnowsTaking seen requests c (Latches i) = IsAdding c.latching × (c.is_entering ≡ true)
KnowsTaking seen requests c step = AllShareIn c.seen requests

abbrev pub InTaking : Seen → List PendingRequest → CatchState → Type 0
InTaking seen requests c = KnowsTaking seen requests c c.step

either_taking : (b : Bool) (seen : Seen) (requests : List PendingRequest) (c d : CatchState) → (b ≡ true → InTaking seen requests c) → (b ≡ false → InTaking seen requests d) → InTaking seen requests (if b then c else d)
either_taking true seen requests c d one other = one refl
either_taking false seen requests c d one other = other refl

still_taking : (seen : Seen) (requests : List PendingRequest) (c : CatchState) (step : Catching) → c.step ≡ step → KnowsTaking seen requests c step → InTaking seen requests c
still_taking seen requests c step s knows = subst (λ (x : Catching). KnowsTaking seen requests c x) (sym s) knows

finishes_taking : (seen : Seen) (requests : List PendingRequest) (c : CatchState) → AllShareIn c.seen requests → InTaking seen requests (finishes c)
finishes_taking seen requests c all =
    either_taking c.is_refresh seen requests (record c { refreshing = refresh_finish c.refreshing; step = Finishes }) (record c { step = Ended }) (λ e. all) (λ e. all)

none_past : {A : Type 0} (xs : List A) (i : ℕ) → slice_get xs i ≡ None → i < length xs → ⊥
none_past [] i got low = omega (arith, low)
none_past (x ∷ rest) zero got low = cc
none_past (x ∷ rest) (suc i) got low = none_past rest i got (omega (arith, low))

begun_taking : (k : Seat) (seen : Seen) (requests : List PendingRequest) (c : CatchState) (i : ℕ) (found : Option PendingRequest) → slice_get requests i ≡ found → i < length requests → c.is_entering ≡ true
    → InTaking seen requests (latch_begun k.places (bits_of k) c i found)
begun_taking k seen requests c i None got low entering = absurd (none_past requests i got low)
begun_taking k seen requests c i (Some pending) got low entering = (tt, entering)

first_low : (requests : List PendingRequest) (i : ℕ) → position is_unlatched requests ≡ Some i → i < length requests
first_low [] i at = cc
first_low (p ∷ rest) i at = (position-Some is_unlatched (p ∷ rest) i p at).0

update_has : (read has : Bool) → (not read && not has) ≡ false → read ≡ false → has ≡ true
update_has false true e u = refl
update_has false false e u = cc
update_has true has e u = cc

abbrev latched_first : List PendingRequest → ℕ
latched_first requests = prefix_len (λ x. not (is_unlatched x)) requests

first_counts : (p : PendingRequest) (rest : List PendingRequest) (b : Bool) → is_unlatched p ≡ b → latched_first (p ∷ rest) ≡ cond (not b) (1 + latched_first rest) 0
first_counts p rest b e = ap (λ (c : Bool). cond (not c) (1 + latched_first rest) 0) e

all_latched : (requests : List PendingRequest) → length requests ≤ latched_first requests → AllUpdatesShare requests
all_latched [] long = tt
all_latched (p ∷ rest) long = by_first (is_unlatched p) refl (all_latched rest)
  where
    by_first : (b : Bool) → is_unlatched p ≡ b → (length rest ≤ latched_first rest → AllUpdatesShare rest) → AllUpdatesShare (p ∷ rest)
    by_first true e others = let counts : latched_first (p ∷ rest) ≡ 0 = first_counts p rest true e in absurd (omega (arith, long, counts))
    by_first false e others =
        let counts : latched_first (p ∷ rest) ≡ 1 + latched_first rest = first_counts p rest false e in
        (λ update. update_has (is_read p.request.op) p.request.has_latch e update, others (omega (arith, long, counts)))

no_position : (c : Bool) (n : ℕ) → cond c (Some n) None ≡ None → c ≡ false
no_position true n e = cc
no_position false n e = refl

not_below : (m n : ℕ) → nat_lt m n ≡ false → n ≤ m
not_below m n e = grind (arith, nat_tests, e)

none_unlatched : (requests : List PendingRequest) → position is_unlatched requests ≡ None → AllUpdatesShare requests
none_unlatched requests at = all_latched requests (not_below (latched_first requests) (length requests) (no_position (nat_lt (latched_first requests) (length requests)) (latched_first requests) at))

wanted_taking : (k : Seat) (seen : Seen) (requests : List PendingRequest) (c : CatchState) (wanted : Option ℕ) → position is_unlatched requests ≡ wanted → c.is_entering ≡ true → InTaking seen requests (latch_wanted k.places (bits_of k) c requests wanted)
wanted_taking k seen requests c None at entering = finishes_taking seen requests c (λ prepare. none_unlatched requests at)
wanted_taking k seen requests c (Some i) at entering = begun_taking k seen requests c i (slice_get requests i) refl (first_low requests i at) entering

latches_taking : (k : Seat) (seen : Seen) (requests : List PendingRequest) (c : CatchState) → (c.is_entering ≡ false → AllShareIn c.seen requests) → InTaking seen requests (latches k.places (bits_of k) c requests)
latches_taking k seen requests c all =
    either_taking c.is_entering seen requests (latch_wanted k.places (bits_of k) c requests (position is_unlatched requests)) (finishes c)
    (λ e. wanted_taking k seen requests c (position is_unlatched requests) refl e) (λ e. finishes_taking seen requests c (all e))

enters_other : (before after same : Bool) → same ≡ false → after ≡ true → (after && not (before && same)) ≡ true
enters_other true true false s e = refl
enters_other false true false s e = refl
enters_other before false same s e = cc
enters_other before true true s e = cc

stays_in : (before after same : Bool) → (after && not (before && same)) ≡ false → after ≡ true → before ≡ true
stays_in true after same e a = refl
stays_in false true same e a = cc
stays_in false false same e a = cc

cuts_taking : (k : Seat) (seen : Seen) (requests : List PendingRequest) (c : CatchState) (same : Bool) → (same ≡ false → IsEntering c) → (c.is_entering ≡ false → AllShareIn c.seen requests) → InTaking seen requests (cuts k.places (bits_of k) c requests (not same))
cuts_taking k seen requests c false entering all = entering refl
cuts_taking k seen requests c true entering all = latches_taking k seen requests c all

takes_taking : (k : Seat) (seen : Seen) (requests : List PendingRequest) (c : CatchState) (after : Seen) → c.seen ≡ seen → AllShareIn seen requests → InTaking seen requests (takes_up k.places (bits_of k) c requests after)
takes_taking k seen requests c after same all =
    cuts_taking k seen requests (record c { seen = after; is_entering = enters_prepare c.seen after }) (is_same_version c.seen after)
    (λ other. λ prepare. enters_other (is_prepare c.seen.phase) (is_prepare after.phase) (is_same_version c.seen after) other prepare)
    (λ stays. λ prepare. all (ap (λ (x : Seen). is_prepare x.phase) (sym same) ∙ stays_in (is_prepare c.seen.phase) (is_prepare after.phase) (is_same_version c.seen after) stays prepare))

seen_taking : (seen : Seen) (requests : List PendingRequest) (c : CatchState) → c.seen ≡ seen → AllShareIn seen requests → AllShareIn c.seen requests
seen_taking seen requests c same all = subst (λ (x : Seen). AllShareIn x requests) (sym same) all

refreshed_taking : (k : Seat) (seen : Seen) (requests : List PendingRequest) (c : CatchState) (ask : Ask RefreshAnswer) → c.step ≡ Refreshes → c.seen ≡ seen → AllShareIn seen requests → InTaking seen requests (refresh_ledto k.places (bits_of k) c requests ask)
unfolding refresh_ledto
refreshed_taking k seen requests c (Done (Loaded values)) s same all = takes_taking k seen requests c (seen_after c.seen values (phase_said values.phase)) same all
refreshed_taking k seen requests c (Done Stored) s same all = seen_taking seen requests c same all
refreshed_taking k seen requests c ask s same all = still_taking seen requests c Refreshes s (same, all)

protected_taking : (k : Seat) (seen : Seen) (requests : List PendingRequest) (c : CatchState) (ask : Ask loaded.Seen) → c.step ≡ Protects → c.seen ≡ seen → AllShareIn seen requests → InTaking seen requests (protect_ledto k.places (bits_of k) c requests ask)
unfolding protect_ledto
protected_taking k seen requests c (Done values) s same all = takes_taking k seen requests c (seen_after c.seen values (phase_said values.phase)) same all
protected_taking k seen requests c ask s same all = still_taking seen requests c Protects s (same, all)

finish_taking : (seen : Seen) (requests : List PendingRequest) (c : CatchState) (ask : Ask RefreshAnswer) → c.step ≡ Finishes → AllShareIn c.seen requests → InTaking seen requests (finish_ledto c ask)
unfolding finish_ledto
finish_taking seen requests c (Done its) s all = all
finish_taking seen requests c ask s all = still_taking seen requests c Finishes s all

not_entering : (b : Bool) {X : Type 0} → b ≡ true → b ≡ false → X
not_entering b e f = cc

added_taking : (k : Seat) (seen : Seen) (requests : List PendingRequest) (c : CatchState) (i place : ℕ) (busy : Bool) → busy ≡ false → c.is_entering ≡ true
    → InTaking seen (latch_marked requests i (if busy then latch_ask (latching.GivesBack place) else Done Taken))
    (latch_ledto k.places (bits_of k) c (latch_marked requests i (if busy then latch_ask (latching.GivesBack place) else Done Taken)) (if busy then latch_ask (latching.GivesBack place) else Done Taken))
unfolding latch_ledto
added_taking k seen requests c i place true none entering = cc
added_taking k seen requests c i place false none entering = latches_taking k seen (latch_marked requests i (Done Taken)) c (λ e. not_entering c.is_entering entering e)

latch_taking : (k : Seat) (seen : Seen) (requests : List PendingRequest) (c : CatchState) (i : ℕ) (step : Latching) (reply : ℕ) → IsAdding step → c.is_entering ≡ true
    → meets_exclusive (passed {B = Told} (passed {B = Unit {0}} (latch_ask step) tt) told.Slept) reply ≡ false
    → InTaking seen (latch_marked requests i (latch_next_ask step reply)) (latch_ledto k.places (bits_of k) (record c { latching = latch_next step reply }) (latch_marked requests i (latch_next_ask step reply)) (latch_next_ask step reply))
unfolding latch_next_ask latch_ask passed
latch_taking k seen requests c i (latching.AddsShare place) reply adds entering none = added_taking k seen requests (record c { latching = latch_next (latching.AddsShare place) reply }) i place (is_exclusive reply) none entering
latch_taking k seen requests c i step reply adds entering none = absurd adds

step_taking : (k : Seat) (seen : Seen) (requests : List PendingRequest) (c : CatchState) (step : Catching) (reply : ℕ) → c.step ≡ step → KnowsTaking seen requests c step
    → meets_exclusive (passed {B = Told} (catching_ask k.places k.number c requests step) told.Slept) reply ≡ false
    → InTaking seen (catching_requests c requests step reply) (catching_next k.places (bits_of k) k.number c (catching_requests c requests step reply) step reply)
unfolding catching_ask catching_next catching_requests
step_taking k seen requests c Ended reply s knows none = still_taking seen requests c Ended s knows
step_taking k seen requests c Refreshes reply s knows none = refreshed_taking k seen requests (record c { refreshing = refresh_next c.refreshing reply }) _ s knows.0 knows.1
step_taking k seen requests c Protects reply s knows none = protected_taking k seen requests (record c { protecting = protect_next c.protecting reply }) _ s knows.0 knows.1
step_taking k seen requests c StoresCut reply s knows none = knows
step_taking k seen requests c StoresOwing reply s knows none = latches_taking k seen requests c (λ other. λ prepare. not_entering c.is_entering (knows prepare) other)
step_taking k seen requests c (Latches i) reply s knows none = latch_taking k seen requests c i c.latching reply knows.0 knows.1 none
step_taking k seen requests c Finishes reply s knows none = finish_taking seen requests (record c { refreshing = refresh_next c.refreshing reply }) _ s knows

pub catch_taking : (k : Seat) (seen : Seen) (requests : List PendingRequest) (c : CatchState) (reply : ℕ) → InTaking seen requests c → meets_exclusive (passed {B = Told} (catch_ask k.places k.number c requests) told.Slept) reply ≡ false
    → InTaking seen (catch_requests c requests reply) (catch_next k.places (bits_of k) k.number c requests reply)
catch_taking k seen requests c reply knows none = step_taking k seen requests c c.step reply refl knows none

-- where it ends
adding_done : (step : Latching) (its : Unit {0}) → passed {B = Unit {0}} (latch_ask step) tt ≡ Done its → IsAdding step → ⊥
unfolding latch_ask passed
adding_done (latching.AddsShare place) its e adds = cc
adding_done step its e adds = absurd adds

taking_done : (k : Seat) (seen : Seen) (requests : List PendingRequest) (c : CatchState) (step : Catching) (its : Unit {0}) → catching_ask k.places k.number c requests step ≡ Done its → KnowsTaking seen requests c step → AllShareIn c.seen requests
unfolding catching_ask
taking_done k seen requests c Refreshes its e knows = seen_taking seen requests c knows.0 knows.1
taking_done k seen requests c Protects its e knows = seen_taking seen requests c knows.0 knows.1
taking_done k seen requests c StoresCut its e knows = cc
taking_done k seen requests c StoresOwing its e knows = cc
taking_done k seen requests c (Latches i) its e knows = absurd (adding_done c.latching its e knows.0)
taking_done k seen requests c Finishes its e knows = knows
taking_done k seen requests c Ended its e knows = knows

pub catch_ended : (k : Seat) (seen : Seen) (requests : List PendingRequest) (c : CatchState) (its : Unit {0}) → catch_ask k.places k.number c requests ≡ Done its → InTaking seen requests c → AllShareIn c.seen requests
catch_ended k seen requests c its e knows = taking_done k seen requests c c.step its e knows

-- lists
pub all_set : (requests : List PendingRequest) (i : ℕ) (p : PendingRequest) → (is_read p.request.op ≡ false → p.request.has_latch ≡ true) → AllUpdatesShare requests → AllUpdatesShare (slice_set requests i p)
all_set [] i p has all = all
all_set (o ∷ rest) zero p has all = (has, all.1)
all_set (o ∷ rest) (suc i) p has all = (all.0, all_set rest i p has all.1)

pub all_removed : (requests : List PendingRequest) (i : ℕ) → AllUpdatesShare requests → AllUpdatesShare (remove requests i)
all_removed [] zero all = all
all_removed [] (suc i) all = all
all_removed (o ∷ rest) zero all = all.1
all_removed (o ∷ rest) (suc i) all = (all.0, all_removed rest i all.1)

pub all_behind : (requests : List PendingRequest) (p : PendingRequest) → (is_read p.request.op ≡ false → p.request.has_latch ≡ true) → AllUpdatesShare requests → AllUpdatesShare (requests ++ p ∷ [])
all_behind [] p has all = (has, tt)
all_behind (o ∷ rest) p has all = (all.0, all_behind rest p has all.1)
