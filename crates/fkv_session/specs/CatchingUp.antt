-- How a session catches up with the store: it refreshes or wakes, and takes up the phase that it has loaded. Where the version has
-- changed it stores where the version before ends for it, and how many updates of that version wait. Where it enters prepare, each
-- update that waits takes its bucket's latch.
use Rattle.std.specs.Prelude.{ℕ, ◌-◌, ◌%◌, ◌==◌, ◌&&◌, not, min, if◌then◌else◌, Bool, true, false, Option, Some, None, List, slice_get, slice_set}
use Rattle.std.specs.List.{position, count_by}
use Rattle.std.proofs.Common.{arith}
use Rattle.fkv_base.specs.Limits.{last_serial}
use Rattle.fkv_base.specs.declared.numbers.Version.{Version}
use Rattle.fkv_marks.specs.Marks.{mark}
use Rattle.fkv_marks.proofs.Shown.{mark_fits}
use Rattle.fkv_words.specs.Layout.{cut_word}
use Rattle.fkv_map.specs.Keys.{key_of}
use Rattle.fkv_plane.specs.declared.asks.Ask.{Ask}
use Rattle.fkv_plane.specs.declared.asks.Ask.TheVariants.{Store, Done}
use Rattle.fkv_plane.specs.declared.places.Places.{Places}
use Rattle.fkv_plane.specs.declared.places.SessionWord.{SessionWord}
use Rattle.fkv_plane.specs.declared.places.SessionWord.TheVariants as own
use Rattle.fkv_plane.specs.Places.{bucket_place, session_place}
use Rattle.fkv_plane.specs.Passing.{passed}
use Rattle.fkv_epoch.specs.declared.values.Seen as loaded
use Rattle.fkv_epoch.specs.declared.refreshing.RefreshAnswer.{RefreshAnswer}
use Rattle.fkv_epoch.specs.declared.refreshing.RefreshAnswer.TheVariants.{Loaded, Stored}
use Rattle.fkv_epoch.specs.declared.refreshing.Refreshing.{Refreshing}
use Rattle.fkv_epoch.specs.declared.refreshing.Refreshing.TheVariants as refresh
use Rattle.fkv_epoch.specs.declared.protecting.Protecting.{Protecting}
use Rattle.fkv_epoch.specs.declared.protecting.Protecting.TheVariants as protect
use Rattle.fkv_epoch.specs.Refreshing.{refresh_ask, refresh_next, refresh_finish}
use Rattle.fkv_epoch.specs.Protecting.{protect_ask, protect_next, protect_next_ask}
use Rattle.fkv_latch.specs.declared.latching.LatchAnswer.{LatchAnswer}
use Rattle.fkv_latch.specs.declared.latching.LatchAnswer.TheVariants.{Taken}
use Rattle.fkv_latch.specs.declared.latching.LatchTask.TheVariants.{TakeShared}
use Rattle.fkv_latch.specs.declared.latching.Latching.{Latching}
use Rattle.fkv_latch.specs.Latching.{latch_first, latch_ask, latch_next, latch_next_ask}
use Rattle.fkv_index.specs.Slots.{home_of}
use Rattle.fkv_ops.specs.declared.requests.Seen.{Seen}
use Rattle.fkv_ops.specs.Trying.{is_prepare}
use Rattle.fkv_pending.specs.declared.pending_requests.PendingRequest.{PendingRequest}
use Rattle.fkv_pending.specs.Pending.{with_latch, is_unlatched, is_update_of}
use Rattle.fkv_session.specs.declared.catching_up.Catching.{Catching}
use Rattle.fkv_session.specs.declared.catching_up.Catching.TheVariants.{Ended, Refreshes, Protects, StoresCut, StoresOwing, Latches, Finishes}
use Rattle.fkv_words.specs.declared.phase_words.PhaseSaid.{PhaseSaid}
use Rattle.fkv_words.specs.declared.phase_words.PhaseSaid.TheVariants.{Says, Spoiled}
use Rattle.fkv_words.specs.PhaseWords.{phase_said}

pub record CatchState : Type 0 where
  -- what the session goes by: what it loaded last, as soon as all of it is loaded
  pub seen : Seen
  -- the last serial that it has taken
  pub serial : ℕ
  -- it refreshes, and did not sleep
  pub is_refresh : Bool
  -- it has entered prepare
  pub is_entering : Bool
  -- the machines inside it
  pub refreshing : Refreshing
  pub protecting : Protecting
  pub latching : Latching
  pub step : Catching

pub record Catcher : Type 0 where
  pub places : Places
  -- the index has 2^bits buckets
  pub bits : ℕ
  pub session : ℕ
  pub state : CatchState

abbrev pub refresh_begun : CatchState → Seen → ℕ → CatchState
refresh_begun c seen serial = record c { seen = seen; serial = serial; is_refresh = true; is_entering = false; refreshing = refresh.LoadsEpoch; step = Refreshes }

abbrev pub wake_begun : CatchState → Seen → ℕ → CatchState
wake_begun c seen serial = record c { seen = seen; serial = serial; is_refresh = false; is_entering = false; protecting = protect.LoadsEpoch; step = Protects }

-- the cut word of even versions, or of odd ones
abbrev pub cut_of : ℕ → SessionWord
cut_of version = if version % 2 == 0 then own.EvenCut else own.OddCut

-- where a version ends for a session: at this serial. The word has the version's mark.
abbrev pub cut_at : ℕ → ℕ → ℕ
cut_at serial version = cut_word (record { serial = record { 0 = min serial last_serial }; version = record { 0 = mark version }; serial_fits = omega arith; version_fits = mark_fits version })

-- the version before the session's
abbrev pub version_before : Seen → Version
version_before seen = record { 0 = seen.version.0 - 1 }

-- the updates that wait of the version before
abbrev pub owing : Seen → List PendingRequest → ℕ
owing seen requests = count_by (is_update_of (version_before seen)) requests

-- what each state asks
unfoldable pub catching_ask : Places → ℕ → CatchState → List PendingRequest → Catching → Ask (Unit {0})
catching_ask p session c requests Ended = Done tt
catching_ask p session c requests Refreshes = passed (refresh_ask session c.refreshing) tt
catching_ask p session c requests Protects = passed (protect_ask session c.protecting) tt
catching_ask p session c requests StoresCut = Store (session_place session (cut_of (version_before c.seen).0)) (cut_at c.serial (version_before c.seen).0)
catching_ask p session c requests StoresOwing = Store (session_place session own.Owing) (owing c.seen requests)
catching_ask p session c requests (Latches index) = passed (latch_ask c.latching) tt
catching_ask p session c requests Finishes = passed (refresh_ask session c.refreshing) tt

abbrev pub catch_ask : Places → ℕ → CatchState → List PendingRequest → Ask (Unit {0})
catch_ask p session c requests = catching_ask p session c requests c.step

-- what the session goes by once it has loaded these values. A word that says no phase changes none
abbrev pub seen_after : Seen → loaded.Seen → PhaseSaid → Seen
seen_after seen values Spoiled = record seen { offsets = record { head = values.head; read_only = values.read_only } }
seen_after seen values (Says phase version) = record { phase = phase; version = version; offsets = record { head = values.head; read_only = values.read_only } }

-- the epoch word is stored last; who wakes has stored it first
abbrev pub finishes : CatchState → CatchState
finishes c = if c.is_refresh then record c { refreshing = refresh_finish c.refreshing; step = Finishes } else record c { step = Ended }

-- the next update that waits without its latch takes it
abbrev pub latch_begun : Places → ℕ → CatchState → ℕ → Option PendingRequest → CatchState
latch_begun p bits c index None = finishes c
latch_begun p bits c index (Some pending) = record c { latching = latch_first TakeShared (bucket_place p (home_of bits (key_of pending.request.op)).bucket 7); step = Latches index }

abbrev pub latch_wanted : Places → ℕ → CatchState → List PendingRequest → Option ℕ → CatchState
latch_wanted p bits c requests None = finishes c
latch_wanted p bits c requests (Some index) = latch_begun p bits c index (slice_get requests index)

abbrev pub latches : Places → ℕ → CatchState → List PendingRequest → CatchState
latches p bits c requests = if c.is_entering then latch_wanted p bits c requests (position is_unlatched requests) else finishes c

-- where the version has changed, the cut word comes first
abbrev pub cuts : Places → ℕ → CatchState → List PendingRequest → Bool → CatchState
cuts p bits c requests true = record c { step = StoresCut }
cuts p bits c requests false = latches p bits c requests

abbrev pub is_same_version : Seen → Seen → Bool
is_same_version a b = a.version.0 == b.version.0

abbrev pub enters_prepare : Seen → Seen → Bool
enters_prepare before after = is_prepare after.phase && not (is_prepare before.phase && is_same_version before after)

-- A refresh has come to its end without the machine, where no request waits: the session went by the one, and goes by the other. The machine's other parts
-- stay as they are.
abbrev pub refresh_ended : CatchState → Seen → Seen → ℕ → CatchState
refresh_ended c before after serial = record c { seen = after; serial = serial; is_refresh = true; is_entering = enters_prepare before after; refreshing = refresh.AtRest; step = Ended }

-- what was loaded is taken up
abbrev pub takes_up : Places → ℕ → CatchState → List PendingRequest → Seen → CatchState
takes_up p bits c requests after = cuts p bits (record c { seen = after; is_entering = enters_prepare c.seen after }) requests (not (is_same_version c.seen after))

-- by what the machines inside ask next
unfoldable pub refresh_ledto : Places → ℕ → CatchState → List PendingRequest → Ask RefreshAnswer → CatchState
refresh_ledto p bits c requests (Done (Loaded values)) = takes_up p bits c requests (seen_after c.seen values (phase_said values.phase))
refresh_ledto p bits c requests (Done Stored) = record c { step = Ended }
refresh_ledto p bits c requests ask = c

unfoldable pub protect_ledto : Places → ℕ → CatchState → List PendingRequest → Ask loaded.Seen → CatchState
protect_ledto p bits c requests (Done values) = takes_up p bits c requests (seen_after c.seen values (phase_said values.phase))
protect_ledto p bits c requests ask = c

-- a latch that somebody holds alone is left, and so are those that follow: no store has one as a session enters prepare
unfoldable pub latch_ledto : Places → ℕ → CatchState → List PendingRequest → Ask LatchAnswer → CatchState
latch_ledto p bits c requests (Done Taken) = latches p bits c requests
latch_ledto p bits c requests (Done its) = finishes c
latch_ledto p bits c requests ask = c

unfoldable pub finish_ledto : CatchState → Ask RefreshAnswer → CatchState
finish_ledto c (Done its) = record c { step = Ended }
finish_ledto c ask = c

-- the request of which the latch is taken shares it from then on
abbrev pub latched : List PendingRequest → ℕ → Option PendingRequest → List PendingRequest
latched requests index None = requests
latched requests index (Some pending) = slice_set requests index (with_latch pending true)

unfoldable pub latch_marked : List PendingRequest → ℕ → Ask LatchAnswer → List PendingRequest
latch_marked requests index (Done Taken) = latched requests index (slice_get requests index)
latch_marked requests index ask = requests

-- the requests after a reply
unfoldable pub catching_requests : CatchState → List PendingRequest → Catching → ℕ → List PendingRequest
catching_requests c requests (Latches index) reply = latch_marked requests index (latch_next_ask c.latching reply)
catching_requests c requests step reply = requests

abbrev pub catch_requests : CatchState → List PendingRequest → ℕ → List PendingRequest
catch_requests c requests reply = catching_requests c requests c.step reply

-- where the reply leads; the requests are those after it
unfoldable pub catching_next : Places → ℕ → ℕ → CatchState → List PendingRequest → Catching → ℕ → CatchState
catching_next p bits session c requests Ended reply = c
catching_next p bits session c requests Refreshes reply = refresh_ledto p bits (record c { refreshing = refresh_next c.refreshing reply }) requests (refresh_ask session (refresh_next c.refreshing reply))
catching_next p bits session c requests Protects reply = protect_ledto p bits (record c { protecting = protect_next c.protecting reply }) requests (protect_next_ask session c.protecting reply)
catching_next p bits session c requests StoresCut reply = record c { step = StoresOwing }
catching_next p bits session c requests StoresOwing reply = latches p bits c requests
catching_next p bits session c requests (Latches index) reply = latch_ledto p bits (record c { latching = latch_next c.latching reply }) requests (latch_next_ask c.latching reply)
catching_next p bits session c requests Finishes reply = finish_ledto (record c { refreshing = refresh_next c.refreshing reply }) (refresh_ask session (refresh_next c.refreshing reply))

abbrev pub catch_next : Places → ℕ → ℕ → CatchState → List PendingRequest → ℕ → CatchState
catch_next p bits session c requests reply = catching_next p bits session c (catch_requests c requests reply) c.step reply
