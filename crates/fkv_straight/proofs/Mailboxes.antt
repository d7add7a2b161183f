-- How a read asks for a record of the device by the session's mailbox, and how a poll takes it from there.
use Rattle.std.proofs.Common.{◌≡◌, ℕ, refl, sym, ap, ◌∙◌, subst, arith, true, false, ◌∷◌, [], ◌≤◌}
use Rattle.std.specs.Prelude.{◌==◌, nat_lt, Option, Some, None}
use Rattle.std.proofs.lemmas.Bool.Decides.{nat_tests}
use Rattle.fkv_base.specs.declared.numbers.Addr.{Addr}
use Rattle.fkv_base.specs.declared.numbers.Value.{Value}
use Rattle.fkv_base.specs.declared.numbers.Version.{Version}
use Rattle.fkv_log.specs.declared.loading.Loading.{Loading}
use Rattle.fkv_map.specs.declared.operations.Call.TheVariants as call
use Rattle.fkv_map.specs.Keys.{as_number, key_of}
use Rattle.fkv_ops.specs.declared.answers.DiskRecord.{DiskRecord}
use Rattle.fkv_ops.specs.declared.answers.TryAnswer.{TryAnswer}
use Rattle.fkv_ops.specs.declared.answers.TryAnswer.TheVariants as tried
use Rattle.fkv_ops.specs.declared.header_words.HeaderSaid.TheVariants.{Says}
use Rattle.fkv_ops.specs.declared.requests.Occasion.TheVariants.{Call as AtCall}
use Rattle.fkv_ops.specs.declared.trying.Trying.TheVariants.{Ended}
use Rattle.fkv_ops.specs.declared.walking.WalkAnswer.TheVariants as walked
use Rattle.fkv_ops.specs.declared.walking.Walking.{Walking}
use Rattle.fkv_ops.specs.declared.walking.Walking.TheVariants as walk
use Rattle.fkv_ops.specs.Appending.{append_rested}
use Rattle.fkv_ops.specs.HeaderWords.{header_said}
use Rattle.fkv_ops.specs.Requests.{is_read, is_chain_end}
use Rattle.fkv_ops.specs.Trying.{TryState, told_value, trying_ask, walk_ledto, ends, ends_so}
use Rattle.fkv_ops.specs.Values.{value_of}
use Rattle.fkv_ops.specs.Walking.{reached, walking_ask}
use Rattle.fkv_pending.specs.declared.attempting.Attempting.TheVariants.{Ended as AtEnd}
use Rattle.fkv_pending.specs.declared.mailing.MailAnswer.TheVariants.{Taken}
use Rattle.fkv_pending.specs.declared.mailing.MailRecord.{MailRecord}
use Rattle.fkv_pending.specs.declared.mailing.MailTask.TheVariants.{Put, Take}
use Rattle.fkv_pending.specs.declared.mailing.Mailing.{Mailing}
use Rattle.fkv_pending.specs.declared.mailing.Mailing.TheVariants.{Ended as AtRest, LoadsState, LoadsHeader, LoadsKey, LoadsValue, StoresEmpty, StoresAddress, StoresAsked}
use Rattle.fkv_pending.specs.declared.pending_requests.PendingRequest.{PendingRequest}
use Rattle.fkv_pending.specs.declared.pending_requests.RequestName.TheVariants.{Read}
use Rattle.fkv_pending.specs.declared.pending_requests.Ticket.{Ticket}
use Rattle.fkv_pending.specs.Attempting.{AttemptState, attempting_ask, attempting_next, look_ledto, put_ledto, try_ledto}
use Rattle.fkv_pending.specs.Mailing.{mail_ask, mail_next}
use Rattle.fkv_pending.specs.Pending.{with_asked, with_held, with_latch, with_sought}
use Rattle.fkv_plane.specs.declared.asks.Ask.TheVariants.{Load, Store, Done}
use Rattle.fkv_plane.specs.declared.places.SessionWord.TheVariants as own
use Rattle.fkv_plane.specs.Passing.{passed}
use Rattle.fkv_plane.specs.Places.{session_place}
use Rattle.fkv_session.specs.declared.answers.Told.TheVariants as told
use Rattle.fkv_session.specs.Alike.{lasting}
use Rattle.fkv_session.specs.Sessions.{Seat, SessionState, accepts, asks_after, attempt_ledto, finishes_request, is_word_ask, keeps_request, nothing_polled, poll_call, poll_ledto, polls_at, read_polled, request_polled, session_ask, sitting_ask, sitting_next}
use Rattle.fkv_straight.specs.Course.{Course, head_in, shares}
use Rattle.fkv_straight.specs.Mailbox.{HasTaken, IsAsking, IsSought, Looks, Puts, PutsOn, looking, polling, putting, putting_on}
use Rattle.fkv_straight.specs.Met.{IsReached, Trail, judged, trying, walking}
use Rattle.fkv_straight.specs.Standing.{IsEnded, IsLed, asked, begins, leads, led_attempt, resumed, sitting}
use Rattle.fkv_straight.proofs.Tests.{and_false, differs, max_low}
use Rattle.fkv_ops.specs.Bounds.{bounds_at, has_bounds}
use Rattle.fkv_ops.specs.declared.bounds.Bounds.{Bounds}
use Rattle.fkv_ops.proofs.Shown.{ends_not}
use Rattle.fkv_pending.proofs.Shown.{there_said}

-- ---- the chain leaves memory: the try ends, and the attempt loads the state of the mailbox
abbrev awaiting : Course → Trail → ℕ → ℕ → Loading → ℕ → TryState
awaiting c trail place entry loading addr = trying c (walking c trail place entry loading (walk.Ended (walked.OnDisk (record { 0 = addr })))) append_rested (Ended (tried.AwaitsDisk (record { entry = entry; addr = record { 0 = addr } })))

leaves_memory : (c : Course) (trail : Trail) (place entry addr : ℕ) (loading : Loading) (step : Walking) → (addr == 0) ≡ false → nat_lt addr (head_in c) ≡ true → is_chain_end c.lasts.floor (record { 0 = addr }) ≡ false → shares c ≡ false → is_read c.op ≡ true
    → judged c (reached c.seat.places (walking c trail place entry loading step) addr) ≡ awaiting c trail place entry loading addr
unfolding walk_ledto walking_ask ends ends_so
leaves_memory c trail place entry addr loading step some low on calm reads = rw (some, low, calm, reads, on, and_false (has_bounds (bounds_at c.occasion))) refl

attempt_puts : (c : Course) (trail : Trail) (place entry addr : ℕ) (loading : Loading) → shares c ≡ false
    → led_attempt c (awaiting c trail place entry loading addr)
    ≡ putting c (awaiting c trail place entry loading addr) (record { entry = entry; addr = record { 0 = addr } }) (LoadsState (Put (record { 0 = addr })))
unfolding trying_ask try_ledto with_latch with_held with_sought
attempt_puts c trail place entry addr loading calm = rw calm refl

session_puts : {bounds : Option Bounds} (c : Course) (asks : ℕ) (t : TryState) (sought : DiskRecord) → c.occasion ≡ AtCall bounds → resumed c asks (putting c t sought (LoadsState (Put sought.addr))) ≡ sitting c asks (putting c t sought (LoadsState (Put sought.addr)))
unfolding attempting_ask attempt_ledto mail_ask passed
session_puts c asks t sought calls = rw calls refl

pub sought_puts : {bounds : Option Bounds} (c : Course) (sought : DiskRecord) (s : SessionState) → c.occasion ≡ AtCall bounds → IsSought c sought s → shares c ≡ false → is_read c.op ≡ true → Puts c sought (LoadsState (Put sought.addr)) s
unfolding IsReached IsLed Puts
sought_puts c sought s calls at calm reads =
    let way = at.4 in
    let t = awaiting c way.0 at.0 sought.entry way.2 sought.addr.0 in
    let some = at.1 in
    let low = at.2 in
    let on = ends_not c.lasts.floor sought.addr at.1 at.3 in
    let led = subst (λ (x : TryState). IsLed c x s) (leaves_memory c way.0 at.0 sought.entry sought.addr.0 way.2 way.3 (grind (arith, nat_tests, some)) (grind (arith, nat_tests, low)) on calm reads) way.4 in
    (t, led.0, led.1 ∙ (ap (λ (a : AttemptState). resumed c led.0 a) (attempt_puts c way.0 at.0 sought.entry sought.addr.0 way.2 calm) ∙ session_puts c led.0 t sought calls))

-- ---- it puts the address there if the mailbox is empty, and waits
put_asks : {bounds : Option Bounds} (c : Course) (sought : DiskRecord) (m : Mailing) (s : SessionState) → c.occasion ≡ AtCall bounds → Puts c sought m s → asked c.seat s ≡ passed (passed (mail_ask c.seat.number m) tried.Shift) told.Slept
unfolding Puts asked sitting_ask attempting_ask
put_asks c sought m s calls at = rw (at.2, calls) refl

pub state_asks : {bounds : Option Bounds} (c : Course) (sought : DiskRecord) (s : SessionState) → c.occasion ≡ AtCall bounds → Puts c sought (LoadsState (Put sought.addr)) s → asked c.seat s ≡ Load (session_place c.seat.number own.MailState)
unfolding mail_ask passed
state_asks c sought s calls at = put_asks c sought (LoadsState (Put sought.addr)) s calls at

pub address_asks : {bounds : Option Bounds} (c : Course) (sought : DiskRecord) (s : SessionState) → c.occasion ≡ AtCall bounds → Puts c sought (StoresAddress sought.addr) s → asked c.seat s ≡ Store (session_place c.seat.number own.MailAddress) sought.addr.0
unfolding mail_ask passed
address_asks c sought s calls at = put_asks c sought (StoresAddress sought.addr) s calls at

pub asked_asks : {bounds : Option Bounds} (c : Course) (sought : DiskRecord) (s : SessionState) → c.occasion ≡ AtCall bounds → Puts c sought StoresAsked s → asked c.seat s ≡ Store (session_place c.seat.number own.MailState) 1
unfolding mail_ask passed
asked_asks c sought s calls at = put_asks c sought StoresAsked s calls at

-- asks are counted
abbrev counted : Course → ℕ → AttemptState → ℕ
counted c asks a = asks_after asks (is_word_ask (session_ask c.seat (sitting c asks a)))

pub found_empty : {bounds : Option Bounds} (c : Course) (sought : DiskRecord) (found : ℕ) (s u : SessionState) → c.occasion ≡ AtCall bounds → Puts c sought (LoadsState (Put sought.addr)) s → u ≡ leads c.seat s found → found ≡ 0 → Puts c sought (StoresAddress sought.addr) u
unfolding Puts leads sitting_next attempt_ledto attempting_next put_ledto attempting_ask mail_next mail_ask passed
found_empty c sought found s u calls at e empty =
    let is : (found == 0) ≡ true = grind (arith, nat_tests, empty) in
    (at.0, counted c at.1 (putting c at.0 sought (LoadsState (Put sought.addr))), e ∙ rw (at.2, calls, is) refl)

pub found_occupied : {bounds : Option Bounds} (c : Course) (sought : DiskRecord) (found : ℕ) (s u : SessionState) → c.occasion ≡ AtCall bounds → is_read c.op ≡ true → Puts c sought (LoadsState (Put sought.addr)) s → u ≡ leads c.seat s found → ¬ (found ≡ 0) → IsAsking c sought false u
unfolding Puts leads sitting_next attempt_ledto attempting_next put_ledto attempting_ask mail_next mail_ask passed accepts lasting
found_occupied c sought found s u calls reads at e some = let not : (found == 0) ≡ false = differs found 0 some in record {
  ended = rw (e, at.2, calls, not, reads) refl;
  lasts = rw (e, at.2, calls, not, reads) refl;
}

pub address_stored : {bounds : Option Bounds} (c : Course) (sought : DiskRecord) (reply : ℕ) (s u : SessionState) → c.occasion ≡ AtCall bounds → Puts c sought (StoresAddress sought.addr) s → u ≡ leads c.seat s reply → Puts c sought StoresAsked u
unfolding Puts leads sitting_next attempt_ledto attempting_next put_ledto attempting_ask mail_next mail_ask passed
address_stored c sought reply s u calls at e = (at.0, counted c at.1 (putting c at.0 sought (StoresAddress sought.addr)), e ∙ rw (at.2, calls) refl)

pub asked_stored : {bounds : Option Bounds} (c : Course) (sought : DiskRecord) (reply : ℕ) (s u : SessionState) → c.occasion ≡ AtCall bounds → is_read c.op ≡ true → Puts c sought StoresAsked s → u ≡ leads c.seat s reply → IsAsking c sought true u
unfolding Puts leads sitting_next attempt_ledto attempting_next put_ledto attempting_ask mail_next mail_ask passed with_asked accepts lasting
asked_stored c sought reply s u calls reads at e = record {
  ended = rw (e, at.2, calls, reads) refl;
  lasts = rw (e, at.2, calls, reads) refl;
}

-- ---- a poll looks into the mailbox
pub looks_begun : (k : Seat) (s : SessionState) (its : PendingRequest) → s.is_awake ≡ true → s.is_orphaned ≡ false → s.requests ≡ its ∷ [] → its.has_asked ≡ true → Looks k s its (LoadsState Take) (begins k s call.Poll)
unfolding Looks begins poll_call polls_at
looks_begun k s its awake none waits has_asked = (0, rw (awake, none, waits, has_asked) refl)

pub look_asks : (k : Seat) (s u : SessionState) (its : PendingRequest) (m : Mailing) → Looks k s its m u → asked k u ≡ passed (passed (mail_ask k.number m) tried.Shift) told.Slept
unfolding Looks asked sitting_ask attempting_ask
look_asks k s u its m at = rw at.1 refl

pub looks_asks : (k : Seat) (s u : SessionState) (its : PendingRequest) → Looks k s its (LoadsState Take) u → asked k u ≡ Load (session_place k.number own.MailState)
unfolding mail_ask passed
looks_asks k s u its at = look_asks k s u its (LoadsState Take) at

pub header_asks : (k : Seat) (s u : SessionState) (its : PendingRequest) → Looks k s its LoadsHeader u → asked k u ≡ Load (session_place k.number own.MailHeader)
unfolding mail_ask passed
header_asks k s u its at = look_asks k s u its LoadsHeader at

pub key_asks : (k : Seat) (s u : SessionState) (its : PendingRequest) (header : ℕ) → Looks k s its (LoadsKey header) u → asked k u ≡ Load (session_place k.number own.MailKey)
unfolding mail_ask passed
key_asks k s u its header at = look_asks k s u its (LoadsKey header) at

pub value_asks : (k : Seat) (s u : SessionState) (its : PendingRequest) (header key : ℕ) → Looks k s its (LoadsValue header key) u → asked k u ≡ Load (session_place k.number own.MailValue)
unfolding mail_ask passed
value_asks k s u its header key at = look_asks k s u its (LoadsValue header key) at

pub empty_asks : (k : Seat) (s u : SessionState) (its : PendingRequest) (taken : MailRecord) → Looks k s its (StoresEmpty (Taken taken)) u → asked k u ≡ Store (session_place k.number own.MailState) 0
unfolding mail_ask passed
empty_asks k s u its taken at = look_asks k s u its (StoresEmpty (Taken taken)) at

abbrev polled : Seat → SessionState → PendingRequest → ℕ → AttemptState → ℕ
polled k s its asks a = asks_after asks (is_word_ask (session_ask k (polling s its asks a)))

pub found_ready : (k : Seat) (s u v : SessionState) (its : PendingRequest) (found : ℕ) → Looks k s its (LoadsState Take) u → v ≡ leads k u found → found ≡ 2 → Looks k s its LoadsHeader v
unfolding Looks leads sitting_next poll_ledto attempting_next look_ledto attempting_ask mail_next mail_ask passed
found_ready k s u v its found at e ready =
    let is : (found == 2) ≡ true = grind (arith, nat_tests, ready) in
    (polled k s its at.0 (looking k s its (LoadsState Take)), e ∙ rw (at.1, is) refl)

pub header_comes : (k : Seat) (s u v : SessionState) (its : PendingRequest) (header : ℕ) → Looks k s its LoadsHeader u → v ≡ leads k u header → Looks k s its (LoadsKey header) v
unfolding Looks leads sitting_next poll_ledto attempting_next look_ledto attempting_ask mail_next mail_ask passed
header_comes k s u v its header at e = (polled k s its at.0 (looking k s its LoadsHeader), e ∙ rw at.1 refl)

pub key_comes : (k : Seat) (s u v : SessionState) (its : PendingRequest) (header key : ℕ) → Looks k s its (LoadsKey header) u → v ≡ leads k u key → Looks k s its (LoadsValue header key) v
unfolding Looks leads sitting_next poll_ledto attempting_next look_ledto attempting_ask mail_next mail_ask passed
key_comes k s u v its header key at e = (polled k s its at.0 (looking k s its (LoadsKey header)), e ∙ rw at.1 refl)

pub value_comes : (k : Seat) (s u v : SessionState) (its : PendingRequest) (header key value : ℕ) → Looks k s its (LoadsValue header key) u → v ≡ leads k u value
    → Looks k s its (StoresEmpty (Taken (record { header = header; key = record { 0 = key }; value = value }))) v
unfolding Looks leads sitting_next poll_ledto attempting_next look_ledto attempting_ask mail_next mail_ask passed
value_comes k s u v its header key value at e = (polled k s its at.0 (looking k s its (LoadsValue header key)), e ∙ rw at.1 refl)

pub empty_stored : (k : Seat) (s u v : SessionState) (its : PendingRequest) (taken : MailRecord) (reply : ℕ) → Looks k s its (StoresEmpty (Taken taken)) u → v ≡ leads k u reply → HasTaken k s its taken v
unfolding HasTaken
empty_stored k s u v its taken reply at e = (u, reply, at, e)

-- ---- where the poll ends
-- the session in which that request alone waits, and no record is on its way that nobody waits for
abbrev pub lone : SessionState → PendingRequest → SessionState
lone s its = record s { requests = its ∷ []; is_orphaned = false }

-- the request is a read that seeks this record, and its floor isn't above the session's
pub record Seeks (its : PendingRequest) (sought : DiskRecord) (floor : Addr) : Type 0 where
  pub reads : is_read its.request.op ≡ true
  pub seeks : its.sought ≡ Some sought
  pub low : its.request.floor.0 ≤ floor.0

pub found_none : (k : Seat) (s u v : SessionState) (its : PendingRequest) (sought : DiskRecord) (found : ℕ) → Seeks its sought s.floor → Looks k s its (LoadsState Take) u → v ≡ leads k u found → ¬ (found ≡ 2)
    → IsEnded (lasting (nothing_polled (lone s its))) (told.Polled 1) v
unfolding Looks leads sitting_next poll_ledto attempting_next look_ledto keeps_request polls_at attempting_ask mail_next mail_ask passed lasting
found_none k s u v its sought found so at e other = let not : (found == 2) ≡ false = differs found 2 other in record {
  ended = rw (e, at.1, not, so.reads, so.seeks) refl;
  lasts = rw (e, at.1, not, so.reads, so.seeks, max_low s.floor.0 its.request.floor.0 so.low) refl;
}

-- the same request with its name and its record spelled
abbrev spelled : PendingRequest → Ticket → DiskRecord → PendingRequest
spelled its ticket sought = record its { name = Read ticket; sought = Some sought }

spelled_is : (its : PendingRequest) (ticket : Ticket) (sought : DiskRecord) → its.name ≡ Read ticket → its.sought ≡ Some sought → spelled its ticket sought ≡ its
spelled_is its ticket sought named seeks = λ i. record its { name = sym named i; sought = sym seeks i }

-- the record is the read's
abbrev answered : Seat → SessionState → PendingRequest → MailRecord → ℕ → TryAnswer → SessionState
answered k s its taken asks answer = polling s its asks (record (looking k s its (AtRest (Taken taken))) { pending = record its { has_asked = false }; is_emptied = true; step = AtEnd answer })

taken_tells : (k : Seat) (s u : SessionState) (its : PendingRequest) (sought : DiskRecord) (taken : MailRecord) (previous : Addr) (version : Version) (ticket : Ticket) → is_read its.request.op ≡ true → HasTaken k s (spelled its ticket sought) taken u
    → header_said taken.header ≡ Says previous version → (taken.key.0 == (key_of its.request.op).0) ≡ true
    → (asks : ℕ) × (u ≡ poll_ledto k (answered k s (spelled its ticket sought) taken asks (told_value (value_of taken.value))) 0 (Done (told_value (value_of taken.value))))
unfolding HasTaken Looks leads sitting_next attempting_next look_ledto attempting_ask mail_next mail_ask passed with_asked
taken_tells k s u its sought taken previous version ticket reads (w, reply, at, e) said mine =
    (polled k s (spelled its ticket sought) at.0 (looking k s (spelled its ticket sought) (StoresEmpty (Taken taken))), e ∙ rw (at.1, there_said taken previous version said, reads, said, mine) refl)

found_ends : (k : Seat) (s : SessionState) (its : PendingRequest) (sought : DiskRecord) (taken : MailRecord) (ticket : Ticket) (asks : ℕ) (value : Value) → is_read its.request.op ≡ true → its.request.floor.0 ≤ s.floor.0
    → IsEnded (lasting (read_polled (lone s (spelled its ticket sought)) ticket (Some value))) (told.Polled 0) (poll_ledto k (answered k s (spelled its ticket sought) taken asks (tried.Found value)) 0 (Done (tried.Found value)))
unfolding poll_ledto finishes_request polls_at lasting
found_ends k s its sought taken ticket asks value reads low = record { ended = rw reads refl; lasts = rw (reads, max_low s.floor.0 its.request.floor.0 low) refl }

absent_ends : (k : Seat) (s : SessionState) (its : PendingRequest) (sought : DiskRecord) (taken : MailRecord) (ticket : Ticket) (asks : ℕ) → is_read its.request.op ≡ true → its.request.floor.0 ≤ s.floor.0
    → IsEnded (lasting (read_polled (lone s (spelled its ticket sought)) ticket None)) (told.Polled 0) (poll_ledto k (answered k s (spelled its ticket sought) taken asks tried.Absent) 0 (Done tried.Absent))
unfolding poll_ledto finishes_request polls_at lasting
absent_ends k s its sought taken ticket asks reads low = record { ended = rw reads refl; lasts = rw (reads, max_low s.floor.0 its.request.floor.0 low) refl }

found_value : (k : Seat) (s u : SessionState) (its : PendingRequest) (sought : DiskRecord) (taken : MailRecord) (previous : Addr) (version : Version) (ticket : Ticket) (value : Option Value) → is_read its.request.op ≡ true → its.request.floor.0 ≤ s.floor.0 → HasTaken k s (spelled its ticket sought) taken u
    → header_said taken.header ≡ Says previous version → (taken.key.0 == (key_of its.request.op).0) ≡ true → value_of taken.value ≡ as_number value → IsEnded (lasting (read_polled (lone s (spelled its ticket sought)) ticket value)) (told.Polled 0) u
found_value k s u its sought taken previous version ticket (Some value) reads low at said mine is =
    let t = taken_tells k s u its sought taken previous version ticket reads at said mine in
    let so : told_value (value_of taken.value) ≡ tried.Found value = ap told_value is in
    subst (IsEnded (lasting (read_polled (lone s (spelled its ticket sought)) ticket (Some value))) (told.Polled 0))
    (sym (t.1 ∙ ap (λ (a : TryAnswer). poll_ledto k (answered k s (spelled its ticket sought) taken t.0 a) 0 (Done a)) so)) (found_ends k s its sought taken ticket t.0 value reads low)
found_value k s u its sought taken previous version ticket None reads low at said mine is =
    let t = taken_tells k s u its sought taken previous version ticket reads at said mine in
    let so : told_value (value_of taken.value) ≡ tried.Absent = ap told_value is in
    subst (IsEnded (lasting (read_polled (lone s (spelled its ticket sought)) ticket None)) (told.Polled 0))
    (sym (t.1 ∙ ap (λ (a : TryAnswer). poll_ledto k (answered k s (spelled its ticket sought) taken t.0 a) 0 (Done a)) so)) (absent_ends k s its sought taken ticket t.0 reads low)

pub mine_ends : (k : Seat) (s u : SessionState) (its : PendingRequest) (sought : DiskRecord) (taken : MailRecord) (previous : Addr) (version : Version) (ticket : Ticket) (value : Option Value) → Seeks its sought s.floor → its.name ≡ Read ticket → HasTaken k s its taken u
    → header_said taken.header ≡ Says previous version → taken.key.0 ≡ (key_of its.request.op).0 → as_number value ≡ value_of taken.value → IsEnded (lasting (read_polled (lone s its) ticket value)) (told.Polled 0) u
mine_ends k s u its sought taken previous version ticket value so named at said mine is =
    let same = spelled_is its ticket sought named so.seeks in
    subst (λ (x : PendingRequest). IsEnded (lasting (read_polled (lone s x) ticket value)) (told.Polled 0) u) same
    (found_value k s u its sought taken previous version ticket value so.reads so.low (subst (λ (x : PendingRequest). HasTaken k s x taken u) (sym same) at) said (grind (arith, nat_tests, mine)) (sym is))

-- the chain ends, and has no record of its key
found_last : (k : Seat) (s u : SessionState) (its : PendingRequest) (sought : DiskRecord) (taken : MailRecord) (previous : Addr) (version : Version) (ticket : Ticket) → is_read its.request.op ≡ true → its.request.floor.0 ≤ s.floor.0 → HasTaken k s (spelled its ticket sought) taken u
    → header_said taken.header ≡ Says previous version → (taken.key.0 == (key_of its.request.op).0) ≡ false → is_chain_end its.request.floor previous ≡ true → IsEnded (lasting (read_polled (lone s (spelled its ticket sought)) ticket None)) (told.Polled 0) u
unfolding HasTaken Looks leads sitting_next poll_ledto attempting_next look_ledto finishes_request polls_at attempting_ask mail_next mail_ask passed with_asked lasting
found_last k s u its sought taken previous version ticket reads low (w, reply, at, e) said other last = record {
  ended = rw (e, at.1, there_said taken previous version said, reads, said, other, last, reads) refl;
  lasts = rw (e, at.1, there_said taken previous version said, reads, said, other, last, reads, max_low s.floor.0 its.request.floor.0 low) refl;
}

pub last_ends : (k : Seat) (s u : SessionState) (its : PendingRequest) (sought : DiskRecord) (taken : MailRecord) (previous : Addr) (version : Version) (ticket : Ticket) → Seeks its sought s.floor → its.name ≡ Read ticket → HasTaken k s its taken u
    → header_said taken.header ≡ Says previous version → ¬ (taken.key.0 ≡ (key_of its.request.op).0) → is_chain_end its.request.floor previous ≡ true → IsEnded (lasting (read_polled (lone s its) ticket None)) (told.Polled 0) u
last_ends k s u its sought taken previous version ticket so named at said other last =
    let same = spelled_is its ticket sought named so.seeks in
    subst (λ (x : PendingRequest). IsEnded (lasting (read_polled (lone s x) ticket None)) (told.Polled 0) u) same
    (found_last k s u its sought taken previous version ticket so.reads so.low (subst (λ (x : PendingRequest). HasTaken k s x taken u) (sym same) at) said (differs taken.key.0 (key_of its.request.op).0 other) last)

-- else it asks for the record before
abbrev seeking : PendingRequest → DiskRecord → PendingRequest
seeking its sought = record its { sought = Some sought }

seeking_is : (its : PendingRequest) (sought : DiskRecord) → its.sought ≡ Some sought → seeking its sought ≡ its
seeking_is its sought seeks = λ i. record its { sought = sym seeks i }

found_another : (k : Seat) (s u : SessionState) (its : PendingRequest) (sought : DiskRecord) (taken : MailRecord) (previous : Addr) (version : Version) → is_read its.request.op ≡ true → HasTaken k s (seeking its sought) taken u
    → header_said taken.header ≡ Says previous version → (taken.key.0 == (key_of its.request.op).0) ≡ false → is_chain_end its.request.floor previous ≡ false → PutsOn k s (seeking its sought) (record sought { addr = previous }) (StoresAddress previous) u
unfolding HasTaken Looks PutsOn leads sitting_next poll_ledto attempting_next look_ledto attempting_ask mail_next mail_ask passed with_asked with_sought
found_another k s u its sought taken previous version reads (w, reply, at, e) said other more =
    (polled k s (seeking its sought) at.0 (looking k s (seeking its sought) (StoresEmpty (Taken taken))), e ∙ rw (at.1, there_said taken previous version said, reads, said, other, more) refl)

pub goes_on : (k : Seat) (s u : SessionState) (its : PendingRequest) (sought : DiskRecord) (taken : MailRecord) (previous : Addr) (version : Version) → Seeks its sought s.floor → HasTaken k s its taken u → header_said taken.header ≡ Says previous version
    → ¬ (taken.key.0 ≡ (key_of its.request.op).0) → is_chain_end its.request.floor previous ≡ false → PutsOn k s its (record sought { addr = previous }) (StoresAddress previous) u
goes_on k s u its sought taken previous version so at said other more =
    let same = seeking_is its sought so.seeks in
    subst (λ (x : PendingRequest). PutsOn k s x (record sought { addr = previous }) (StoresAddress previous) u) same
    (found_another k s u its sought taken previous version so.reads (subst (λ (x : PendingRequest). HasTaken k s x taken u) (sym same) at) said (differs taken.key.0 (key_of its.request.op).0 other) more)

put_on_asks : (k : Seat) (s u : SessionState) (its : PendingRequest) (sought : DiskRecord) (m : Mailing) → PutsOn k s its sought m u → asked k u ≡ passed (passed (mail_ask k.number m) tried.Shift) told.Slept
unfolding PutsOn asked sitting_ask attempting_ask
put_on_asks k s u its sought m at = rw at.1 refl

pub address_on_asks : (k : Seat) (s u : SessionState) (its : PendingRequest) (sought : DiskRecord) → PutsOn k s its sought (StoresAddress sought.addr) u → asked k u ≡ Store (session_place k.number own.MailAddress) sought.addr.0
unfolding mail_ask passed
address_on_asks k s u its sought at = put_on_asks k s u its sought (StoresAddress sought.addr) at

pub asked_on_asks : (k : Seat) (s u : SessionState) (its : PendingRequest) (sought : DiskRecord) → PutsOn k s its sought StoresAsked u → asked k u ≡ Store (session_place k.number own.MailState) 1
unfolding mail_ask passed
asked_on_asks k s u its sought at = put_on_asks k s u its sought StoresAsked at

pub address_on_stored : (k : Seat) (s u v : SessionState) (its : PendingRequest) (sought : DiskRecord) (reply : ℕ) → PutsOn k s its sought (StoresAddress sought.addr) u → v ≡ leads k u reply → PutsOn k s its sought StoresAsked v
unfolding PutsOn leads sitting_next poll_ledto attempting_next put_ledto attempting_ask mail_next mail_ask passed
address_on_stored k s u v its sought reply at e = (polled k s its at.0 (putting_on k s its sought (StoresAddress sought.addr)), e ∙ rw at.1 refl)

pub asked_on_stored : (k : Seat) (s u v : SessionState) (its : PendingRequest) (sought : DiskRecord) (reply : ℕ) → its.request.floor.0 ≤ s.floor.0 → PutsOn k s its sought StoresAsked u → v ≡ leads k u reply
    → IsEnded (lasting (request_polled (lone s its) (record its { sought = Some sought; has_asked = true }))) (told.Polled 1) v
unfolding PutsOn leads sitting_next poll_ledto attempting_next put_ledto keeps_request polls_at attempting_ask mail_next mail_ask passed with_asked lasting
asked_on_stored k s u v its sought reply low at e = record {
  ended = rw (e, at.1) refl;
  lasts = rw (e, at.1, max_low s.floor.0 its.request.floor.0 low) refl;
}
