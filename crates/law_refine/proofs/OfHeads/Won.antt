-- A step of a session publishes in the log where it publishes in the index, and nowhere else.
use Rattle.std.proofs.Common.{◌≡◌, ℕ, ◌∙◌, refl, sym, ap, subst, arith, Bool, true, false, List, [], ◌∷◌, ◌++◌}
use Rattle.std.specs.Prelude.{◌==◌, if◌then◌else◌, Some, None}
use Rattle.std.proofs.lemmas.Bool.Decides.{nat_tests}
use Rattle.fkv_map.specs.declared.operations.Op.{Op}
use Rattle.fkv_map.specs.declared.operations.Op.TheVariants.{Read}
use Rattle.law_log.specs.Ghosts.{GhostEvent, Publishes}
use Rattle.fkv_plane.specs.declared.asks.Ask.{Ask}
use Rattle.fkv_plane.specs.declared.asks.Ask.TheVariants.{Cas, Put, Take, Done}
use Rattle.fkv_plane.specs.declared.places.Places.{Places}
use Rattle.fkv_plane.specs.Asked.{reply_to, word_at}
use Rattle.fkv_plane.specs.Passing.{passed}
use Rattle.law_world.specs.Below.fkv_log.ReserveAnswer.{ReserveAnswer}
use Rattle.law_world.specs.Below.fkv_log.ReserveAnswer.TheVariants.{Reserved}
use Rattle.law_world.specs.Below.fkv_log.Reserving.{reserve_next_ask}
use Rattle.fkv_index.specs.declared.publishing.PublishAnswer.TheVariants.{Won, Lost}
use Rattle.fkv_index.specs.declared.publishing.Publishing.{Publishing}
use Rattle.fkv_index.specs.declared.publishing.Publishing.TheVariants.{AtRest, SwapsEntry}
use Rattle.fkv_index.specs.Entries.{NewEntry}
use Rattle.fkv_index.specs.IndexWorld.{new_entry}
use Rattle.fkv_index.specs.Publishing.{publish_first, publish_ask, publish_next_ask}
use Rattle.law_world.specs.Below.fkv_ops.TryAnswer.{TryAnswer}
use Rattle.law_world.specs.Below.fkv_ops.TryAnswer.TheVariants as answer
use Rattle.law_world.specs.Below.fkv_ops.AppendAnswer.TheVariants.{Contended}
use Rattle.law_world.specs.Below.fkv_ops.TheAppending.{Appending}
use Rattle.law_world.specs.Below.fkv_ops.TheAppending.TheVariants as appending
use Rattle.law_world.specs.Below.fkv_ops.TheTrying.{Trying}
use Rattle.law_world.specs.Below.fkv_ops.TheTrying.TheVariants.{Walks, CountsTaken, LoadsSafe, SwapsValue, ChangesValue, TakesExclusive, LoadsOld, Appends}
use Rattle.law_world.specs.Below.fkv_ops.TheWalking.{Walking}
use Rattle.law_world.specs.Below.fkv_ops.TheWalking.TheVariants as walking
use Rattle.law_world.specs.Below.fkv_ops.Appending.{AppendState, append_ask, appending_ask}
use Rattle.law_world.specs.Below.fkv_ops.Requests.{is_read}
use Rattle.law_world.specs.Below.fkv_ops.Trying.{TryState, has_walked, try_ask, trying_ask}
use Rattle.law_world.specs.Below.fkv_pending.TheAttempting.{Attempting}
use Rattle.law_world.specs.Below.fkv_pending.TheAttempting.TheVariants.{Tries}
use Rattle.law_world.specs.Below.fkv_pending.PendingRequest.{PendingRequest}
use Rattle.law_world.specs.Below.fkv_pending.Attempting.{AttemptState, attempt_ask, attempting_ask, attempt_next}
use Rattle.law_world.specs.Below.fkv_session.Told.{Told}
use Rattle.law_world.specs.Below.fkv_session.Told.TheVariants as told
use Rattle.law_world.specs.Below.fkv_session.Sitting.{Sitting}
use Rattle.law_world.specs.Below.fkv_session.Sitting.TheVariants.{Attempts, Polls}
use Rattle.law_world.specs.Below.fkv_session.Sessions.{SessionState, Seat, bits_of, room_of, session_ask, sitting_ask}
use Rattle.law_world.specs.Below.fkv_world.Past.{Traced}
use Rattle.law_world.specs.Below.fkv_world.World.{Now, seat_at}
use Rattle.law_refine.specs.Index.Finders.{KeptSlot, SessionWork, NoWork, Searches, KeepsSlot, PublishesEntry, slot_kept, kept_work, walk_work, append_work, try_work, attempt_part, sitting_part, session_part}
use Rattle.law_refine.specs.Index.LifeEntries.{AsksFor, won_there}
use Rattle.law_refine.specs.Events.Appends.{reserved_ghosts, publish_ghosts, invalidate_ghosts, append_ghosts, NewRecord, new_record}
use Rattle.law_world.specs.GuardSessions.Tries.{is_for_entry}
use Rattle.law_refine.specs.Events.Lines.{read_in_hand, read_waiting}
use Rattle.law_refine.specs.Events.Sessions.{value_ghosts, tried_ghosts, attempt_ghosts, ticket_of, sitting_ghosts, step_ghosts}
use Rattle.law_refine.specs.Events.Tries.{search_ghosts, try_ghosts}
use Rattle.law_refine.proofs.OfHeads.Steps.{leaves_chains, LeaveChains}
use Rattle.law_refine.proofs.OfEvents.Searches.{invalidate_all, search_all}

-- A step's events publish nothing, and the session wins no entry; or the word that it met stands in the slot yet, and they publish the record of the
-- entry.
pub data ShowsWon (words : List ℕ) (work : SessionWork) : List GhostEvent → Type 0 where
  Quietly : (events : List GhostEvent) → LeaveChains events → won_there words work ≡ None → ShowsWon words work events
  Behind : (event : GhostEvent) {events : List GhostEvent} → leaves_chains event → ShowsWon words work events → ShowsWon words work (event ∷ events)
  PublishesOne : (slot : KeptSlot) (addr : ℕ) → work ≡ PublishesEntry slot addr → word_at words slot.place ≡ slot.word → ShowsWon words work (Publishes addr ∷ [])

pub won_behind : (words : List ℕ) (work : SessionWork) (later events : List GhostEvent) → LeaveChains later → ShowsWon words work events → ShowsWon words work (later ++ events)
won_behind words work [] events leave its = its
won_behind words work (event ∷ later) events leave its = Behind event leave.0 (won_behind words work later events leave.1 its)

-- what is won, and where it is lost
unfoldable pub won_entry : KeptSlot → ℕ → NewEntry
won_entry slot addr = record { home = slot.home; before = slot.word; entry = new_entry addr slot.home.tag }

pub entry_is_won : (words : List ℕ) (slot : KeptSlot) (addr : ℕ) → word_at words slot.place ≡ slot.word → won_there words (PublishesEntry slot addr) ≡ Some (won_entry slot addr)
unfolding won_entry
entry_is_won words slot addr stands = let on : (word_at words slot.place == slot.word) ≡ true = grind (arith, nat_tests, stands) in rw on refl

entry_is_lost : (words : List ℕ) (slot : KeptSlot) (addr : ℕ) → (word_at words slot.place == slot.word) ≡ false → won_there words (PublishesEntry slot addr) ≡ None
entry_is_lost words slot addr off = rw off refl

none_won : (words : List ℕ) (work : SessionWork) → ((slot : KeptSlot) (addr : ℕ) → work ≡ PublishesEntry slot addr → ⊥) → won_there words work ≡ None
none_won words NoWork none = refl
none_won words (Searches its) none = refl
none_won words (KeepsSlot slot) none = refl
none_won words (PublishesEntry slot addr) none = absurd (none slot addr refl)

kept_none : (words : List ℕ) (t : TryState) → won_there words (kept_work t) ≡ None
kept_none words t = by_read (is_read t.request.op)
  where
    by_read : (c : Bool) → won_there words (if c then NoWork else KeepsSlot (slot_kept t)) ≡ None
    by_read true = refl
    by_read false = refl

walk_none : (words : List ℕ) (t : TryState) (step : Walking) → won_there words (walk_work t step) ≡ None
walk_none words t walking.Finds = refl
walk_none words t (walking.Ended its) = by_end (has_walked its)
  where
    by_end : (c : Bool) → won_there words (if c then kept_work t else NoWork) ≡ None
    by_end true = kept_none words t
    by_end false = refl
walk_none words t step = kept_none words t

-- ---- what else a step is leaves the chains
either_leave : (c : Bool) (xs ys : List GhostEvent) → LeaveChains xs → LeaveChains ys → LeaveChains (if c then xs else ys)
either_leave true xs ys one other = one
either_leave false xs ys one other = other

reserved_leave : (a : AppendState) (made : NewRecord) (ask : Ask ReserveAnswer) → LeaveChains (reserved_ghosts a made ask)
reserved_leave a made (Done (Reserved addr)) = either_leave (is_for_entry a addr) _ _ (tt, tt) (tt, (tt, tt))
reserved_leave a made ask = tt

value_leave : (op : Op) (reader : ℕ) (ask : Ask TryAnswer) → LeaveChains (value_ghosts op reader ask)
value_leave (Read key) reader (Done (answer.Found value)) = (tt, tt)
value_leave (Read key) reader (Done answer.Absent) = (tt, tt)
value_leave op reader ask = tt

-- ---- where a session publishes its ask is the Cas of its slot, and the reply is the word there
abbrev AsksSo : {A : Type 0} → SessionWork → Ask A → Type 0
AsksSo work ask = (slot : KeptSlot) (addr : ℕ) → work ≡ PublishesEntry slot addr → ask ≡ Cas slot.place slot.word (new_entry addr slot.home.tag)

abbrev IsRepliedSo : List ℕ → SessionWork → ℕ → Type 0
IsRepliedSo words work reply = (slot : KeptSlot) (addr : ℕ) → work ≡ PublishesEntry slot addr → reply ≡ word_at words slot.place

passed_cas : {A B : Type 0} (ask : Ask A) (its : B) (place old new : ℕ) → passed ask its ≡ Cas place old new → ask ≡ Cas place old new
unfolding passed
passed_cas (Cas at before after) its place old new e =
    let one : at ≡ place = cc in
    let two : before ≡ old = cc in
    let three : after ≡ new = cc in
    rw (one, two, three) refl
passed_cas ask its place old new e = cc

asks_passed : {A B : Type 0} (work : SessionWork) (ask : Ask A) (its : B) → AsksSo work (passed ask its) → AsksSo work ask
asks_passed work ask its asks = λ slot addr e. passed_cas ask its slot.place slot.word (new_entry addr slot.home.tag) (asks slot addr e)

publishing_is : (its : Publishing) (place word entry : ℕ) → publish_ask its ≡ Cas place word entry → its ≡ publish_first place word entry
unfolding publish_ask
publishing_is AtRest place word entry e = cc
publishing_is (SwapsEntry at before after) place word entry e =
    let one : at ≡ place = cc in
    let two : before ≡ word = cc in
    let three : after ≡ entry = cc in
    rw (one, two, three) refl

publish_won : (words : List ℕ) (work : SessionWork) (slot : KeptSlot) (addr entry : ℕ) (its : Publishing) (reply : ℕ) → work ≡ PublishesEntry slot addr → its ≡ publish_first slot.place slot.word entry → reply ≡ word_at words slot.place
    → ShowsWon words work (publish_ghosts addr (publish_next_ask its reply))
unfolding publish_next_ask
publish_won words work slot addr entry its reply is same replied =
    subst (λ (x : Publishing). ShowsWon words work (publish_ghosts addr (publish_next_ask x reply))) (sym same) (by_test (reply == slot.word) refl)
  where
    by_test : (c : Bool) → (reply == slot.word) ≡ c → ShowsWon words work (publish_ghosts addr (Done (if c then Won else Lost)))
    by_test true e = let stands : reply ≡ slot.word = grind (arith, nat_tests, e) in PublishesOne slot addr is (sym replied ∙ stands)
    by_test false e = Quietly [] tt (ap (won_there words) is ∙ entry_is_lost words slot addr (subst (λ (r : ℕ). (r == slot.word) ≡ false) replied e))

append_won : (words : List ℕ) (p : Places) (room : ℕ) (t : TryState) (made : NewRecord) (step : Appending) (reply : ℕ) → AsksSo (append_work t step) (appending_ask p t.append step) → IsRepliedSo words (append_work t step) reply
    → ShowsWon words (append_work t step) (append_ghosts room t.append made step reply)
unfolding appending_ask
append_won words p room t made appending.Reserves reply asks replied =
    Quietly (reserved_ghosts t.append made (reserve_next_ask room t.append.reserving reply)) (reserved_leave t.append made (reserve_next_ask room t.append.reserving reply)) (kept_none words t)
append_won words p room t made (appending.Fills addr) reply asks replied = Quietly [] tt (kept_none words t)
append_won words p room t made (appending.Publishes addr) reply asks replied =
    let slot : KeptSlot = slot_kept t in
    publish_won words (PublishesEntry slot addr.0) slot addr.0 (new_entry addr.0 slot.home.tag) t.append.publishing reply refl
    (publishing_is t.append.publishing slot.place slot.word (new_entry addr.0 slot.home.tag) (passed_cas (publish_ask t.append.publishing) Contended slot.place slot.word (new_entry addr.0 slot.home.tag) (asks slot addr.0 refl)))
    (replied slot addr.0 refl)
append_won words p room t made appending.Invalidates reply asks replied = Quietly (invalidate_ghosts t.append.invalidating) (invalidate_all LeaveChains tt (λ addr. (tt, tt)) t.append.invalidating) refl
append_won words p room t made (appending.Ended its) reply asks replied = Quietly [] tt refl

try_won : (words : List ℕ) (p : Places) (room session reader : ℕ) (pending : PendingRequest) (t : TryState) (step : Trying) (reply : ℕ) → AsksSo (try_work t step) (trying_ask p t step) → IsRepliedSo words (try_work t step) reply
    → ShowsWon words (try_work t step) (try_ghosts p room session reader pending t step reply)
unfolding trying_ask
try_won words p room session reader pending t Walks reply asks replied =
    Quietly (search_ghosts p pending.request.op reader t.walk reply) (search_all LeaveChains tt reader (tt, tt) p pending.request.op t.walk reply) (walk_none words t t.walk.step)
try_won words p room session reader pending t CountsTaken reply asks replied = Quietly [] tt (kept_none words t)
try_won words p room session reader pending t (LoadsSafe addr version) reply asks replied = Quietly [] tt (kept_none words t)
try_won words p room session reader pending t (SwapsValue addr) reply asks replied = Quietly _ (tt, tt) refl
try_won words p room session reader pending t (ChangesValue addr old) reply asks replied = Quietly _ (either_leave (reply == old) _ _ (tt, tt) tt) refl
try_won words p room session reader pending t (TakesExclusive old) reply asks replied = Quietly [] tt (kept_none words t)
try_won words p room session reader pending t LoadsOld reply asks replied = Quietly [] tt (kept_none words t)
try_won words p room session reader pending t (Appends its) reply asks replied =
    append_won words p room t (new_record session pending its) t.append.step reply (asks_passed (append_work t t.append.step) (append_ask p t.append) answer.Shift asks) replied
try_won words p room session reader pending t step reply asks replied = Quietly [] tt refl

tried_won : (words : List ℕ) (k : Seat) (reader : ℕ) (a : AttemptState) (step : Attempting) (reply : ℕ) → AsksSo (attempt_part a step).work (attempting_ask k.places k.number a step) → IsRepliedSo words (attempt_part a step).work reply
    → ShowsWon words (attempt_part a step).work (tried_ghosts k reader a step reply)
unfolding attempting_ask
tried_won words k reader a Tries reply asks replied =
    try_won words k.places (room_of k) k.number reader a.pending a.trial a.trial.step reply (asks_passed (try_work a.trial a.trial.step) (try_ask k.places a.trial) answer.Shift asks) replied
tried_won words k reader a step reply asks replied = Quietly [] tt refl

attempt_won : (words : List ℕ) (k : Seat) (reader : ℕ) (a : AttemptState) (reply : ℕ) → AsksSo (attempt_part a a.step).work (attempt_ask k.places k.number a) → IsRepliedSo words (attempt_part a a.step).work reply
    → ShowsWon words (attempt_part a a.step).work (attempt_ghosts k reader a reply)
attempt_won words k reader a reply asks replied =
    let ask : Ask TryAnswer = attempt_ask k.places k.number (attempt_next k.places (bits_of k) (room_of k) k.number a reply) in
    won_behind words (attempt_part a a.step).work (value_ghosts a.pending.request.op reader ask) (tried_ghosts k reader a a.step reply) (value_leave a.pending.request.op reader ask) (tried_won words k reader a a.step reply asks replied)

sitting_won : (words : List ℕ) (k : Seat) (trace : List Traced) (s : SessionState) (step : Sitting) (reply : ℕ) → AsksSo (sitting_part s step).work (sitting_ask k s step) → IsRepliedSo words (sitting_part s step).work reply
    → ShowsWon words (sitting_part s step).work (sitting_ghosts k trace s step reply)
unfolding sitting_ask
sitting_won words k trace s (Attempts has_shifted) reply asks replied =
    attempt_won words k (read_in_hand k.number trace) s.attempt reply (asks_passed (attempt_part s.attempt s.attempt.step).work (attempt_ask k.places k.number s.attempt) told.Slept asks) replied
sitting_won words k trace s (Polls index) reply asks replied =
    attempt_won words k (read_waiting k.number (ticket_of s.attempt.pending.name) trace) s.attempt reply (asks_passed (attempt_part s.attempt s.attempt.step).work (attempt_ask k.places k.number s.attempt) told.Slept asks) replied
sitting_won words k trace s step reply asks replied = Quietly [] tt refl

-- ---- a step of a session
step_won : (k : Seat) (trace : List Traced) (s : SessionState) (words : List ℕ) (ask : Ask Told) → AsksSo (session_part s).work ask → ShowsWon words (session_part s).work (sitting_ghosts k trace s s.step (reply_to words ask))
    → ShowsWon words (session_part s).work (step_ghosts k trace s words ask)
unfolding step_ghosts
step_won k trace s words (Done its) asks shows = Quietly [] tt (none_won words (session_part s).work (λ slot addr e. let same = asks slot addr e in cc))
step_won k trace s words (Put slot action) asks shows = Quietly [] tt (none_won words (session_part s).work (λ at addr e. let same = asks at addr e in cc))
step_won k trace s words (Take slot) asks shows = Quietly [] tt (none_won words (session_part s).work (λ at addr e. let same = asks at addr e in cc))
step_won k trace s words ask asks shows = shows

-- the reply to the Cas is the word in the slot
pub publish_replied : (n : Now) (session : ℕ) (s : SessionState) → AsksFor n session s → IsRepliedSo n.words (session_part s).work (reply_to n.words (session_ask (seat_at n session) s))
publish_replied n session s asks slot addr e = ap (λ (ask : Ask Told). reply_to n.words ask) (asks.publishes slot addr e)

pub moved_won : (n : Now) (session : ℕ) (trace : List Traced) (s : SessionState) → AsksFor n session s → ShowsWon n.words (session_part s).work (step_ghosts (seat_at n session) trace s n.words (session_ask (seat_at n session) s))
moved_won n session trace s asks =
    let k : Seat = seat_at n session in
    step_won k trace s n.words (session_ask k s) asks.publishes (sitting_won n.words k trace s s.step (reply_to n.words (session_ask k s)) asks.publishes (publish_replied n session s asks))
