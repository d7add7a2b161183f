-- When a read's call, and a poll of it, may go on straight by the mailbox, and how the machine has caught up behind.
use Rattle.std.proofs.Common.{◌≡◌, ℕ, ◌+◌, ◌<◌, refl, sym, ap, ◌∙◌, subst, true, false, [], ◌∷◌, ◌++◌, length, ◌≤◌}
use Rattle.std.specs.Prelude.{Bool, Option, Some, slice_set}
use Rattle.std.specs.List.{remove}
use Rattle.fkv_base.specs.Limits.{max_pending}
use Rattle.fkv_base.specs.declared.numbers.Value.{Value}
use Rattle.fkv_map.specs.declared.operations.Call.TheVariants as call
use Rattle.fkv_map.specs.declared.operations.Op.{Op}
use Rattle.fkv_ops.specs.declared.answers.DiskRecord.{DiskRecord}
use Rattle.fkv_ops.specs.Requests.{is_read}
use Rattle.fkv_ops.specs.Trying.{is_prepare}
use Rattle.fkv_pending.specs.declared.pending_requests.PendingRequest.{PendingRequest}
use Rattle.fkv_pending.specs.declared.pending_requests.RequestName.TheVariants.{Read}
use Rattle.fkv_pending.specs.declared.pending_requests.Ticket.{Ticket}
use Rattle.fkv_plane.specs.declared.asks.Ask.TheVariants.{Done}
use Rattle.fkv_session.specs.declared.answers.Finished.TheVariants as finished
use Rattle.fkv_session.specs.declared.answers.Told.{Told}
use Rattle.fkv_session.specs.declared.answers.Told.TheVariants as told
use Rattle.fkv_session.specs.Alike.{Lasting, lasting}
use Rattle.fkv_session.specs.Sessions.{Seat, SessionState, Sitter, nothing_polled, read_polled, read_waiting, request_of, request_polled, session_ask, ticket_after}
use Rattle.fkv_straight.specs.declared.going.Going.{Going}
use Rattle.fkv_straight.specs.declared.mailbox.Asker.{Asker}
use Rattle.fkv_straight.specs.Course.{Course, course_of, shares, GoesBy}
use Rattle.fkv_straight.specs.Mailbox.{IsAsking, MayLook}
use Rattle.fkv_straight.specs.Standing.{IsCaughtUp, IsEnded}
use Rattle.fkv_straight.proofs.Endings.{read_asks, read_caught_up, room_left}
use Rattle.fkv_straight.proofs.Goings.{goes_on_by}
use Rattle.fkv_straight.proofs.Mailboxes.{Seeks, lone}
use Rattle.fkv_straight.proofs.Tests.{and_false}
use Rattle.fkv_base.specs.declared.numbers.Addr.{Addr}

-- ---- a read that asks in its call
pub reads_share_none : (c : Course) → is_read c.op ≡ true → shares c ≡ false
reads_share_none c reads = rw (reads, and_false (is_prepare c.lasts.seen.phase)) refl

asking_lasts : (m : SessionState) (op : Op) (sought : DiskRecord) (has_asked : Bool)
    → lasting (read_waiting m op sought has_asked)
    ≡ record (lasting m) { ticket = ticket_after (lasting m).ticket; requests = (lasting m).requests ++ record { name = Read (record { 0 = ticket_after (lasting m).ticket }); request = request_of op (lasting m).seen.version (lasting m).floor; sought = Some sought; has_asked = has_asked } ∷ [] }
unfolding lasting
asking_lasts m op sought has_asked = refl

-- what lasts behind it of a session whose machine has that
abbrev asking_on : Op → DiskRecord → Bool → Lasting → Lasting
asking_on op sought has_asked l =
    record l { ticket = ticket_after l.ticket; requests = l.requests ++ record { name = Read (record { 0 = ticket_after l.ticket }); request = request_of op l.seen.version l.floor; sought = Some sought; has_asked = has_asked } ∷ [] }

asking_in : (k : Seat) (s u : SessionState) (op : Op) (sought : DiskRecord) (has_asked : Bool) → is_read op ≡ true → IsAsking (course_of k s op (call.Op op)) sought has_asked u → IsEnded (asking_on op sought has_asked (lasting s)) (told.PendingRead (record { 0 = ticket_after (lasting s).ticket })) u
asking_in k s u op sought has_asked reads asks = record { ended = asks.ended; lasts = asks.lasts ∙ rw reads refl }

pub asking_caught_up : (m n s u : SessionState) (k : Seat) (op : Op) (sought : DiskRecord) (has_asked : Bool) → is_read op ≡ true → lasting m ≡ lasting s → n ≡ read_waiting m op sought has_asked → IsAsking (course_of k s op (call.Op op)) sought has_asked u → IsCaughtUp n u
asking_caught_up m n s u k op sought has_asked reads alike e asks =
    read_caught_up n u (asking_on op sought has_asked (lasting s)) _ (ap (λ (x : SessionState). lasting x) e ∙ (asking_lasts m op sought has_asked ∙ ap (asking_on op sought has_asked) alike)) (asking_in k s u op sought has_asked reads asks)

ticket_lasts : (m : SessionState) → m.ticket ≡ (lasting m).ticket
unfolding lasting
ticket_lasts m = refl

ticket_is : (ticket : Ticket) (n : ℕ) → ticket.0 ≡ n → ticket ≡ record { 0 = n }
ticket_is ticket n e = λ i. record { 0 = e i }

pub asking_asks : (k : Seat) (m s u : SessionState) (op : Op) (sought : DiskRecord) (has_asked : Bool) (ticket : Ticket) → is_read op ≡ true → lasting m ≡ lasting s → ticket.0 ≡ ticket_after m.ticket → IsAsking (course_of k s op (call.Op op)) sought has_asked u
    → Done (told.PendingRead ticket) ≡ session_ask k u
asking_asks k m s u op sought has_asked ticket reads alike e asks =
    let its = e ∙ ap (λ (n : ℕ). ticket_after n) (ticket_lasts m ∙ ap (λ (x : Lasting). x.ticket) alike) in
    ap (λ (t : Ticket). Done (told.PendingRead t)) (ticket_is ticket (ticket_after (lasting s).ticket) its) ∙ read_asks k u _ (told.PendingRead (record { 0 = ticket_after (lasting s).ticket })) (asking_in k s u op sought has_asked reads asks)

pub asking_by : (m n : Sitter) (op : Op) (sought : DiskRecord) (has_asked : Bool) (g : Going) → length m.state.requests + 1 < max_pending → n ≡ record m { state = read_waiting m.state op sought has_asked } → GoesBy m.seat m.state g → GoesBy n.seat n.state g
asking_by m n op sought has_asked g few e by = goes_on_by m n (read_waiting m.state op sought has_asked) g e refl refl refl refl (room_left m.state.requests _ few) refl by

-- ---- a read that alone waits
pub seeks_so : (s : SessionState) (its : Asker) → MayLook s its → Seeks its.pending its.sought s.floor
seeks_so s its may = record { reads = may.reads; seeks = may.seeks; low = may.floor }

requests_in : (s : SessionState) → (lasting s).requests ≡ s.requests
unfolding lasting
requests_in s = refl

is_awake_in : (s : SessionState) → (lasting s).is_awake ≡ s.is_awake
unfolding lasting
is_awake_in s = refl

is_orphaned_in : (s : SessionState) → (lasting s).is_orphaned ≡ s.is_orphaned
unfolding lasting
is_orphaned_in s = refl

floor_in : (s : SessionState) → (lasting s).floor ≡ s.floor
unfolding lasting
floor_in s = refl

pub look_alike : (m s : SessionState) (its : Asker) → lasting m ≡ lasting s → MayLook m its → MayLook s its
look_alike m s its alike may = record {
  waits = sym (requests_in s) ∙ (ap (λ (x : Lasting). x.requests) (sym alike) ∙ (requests_in m ∙ may.waits));
  named = may.named;
  reads = may.reads;
  seeks = may.seeks;
  has_asked = may.has_asked;
  floor = subst (λ (x : Addr). its.pending.request.floor.0 ≤ x.0) (sym (floor_in m) ∙ (ap (λ (x : Lasting). x.floor) alike ∙ floor_in s)) may.floor;
  awake = sym (is_awake_in s) ∙ (ap (λ (x : Lasting). x.is_awake) (sym alike) ∙ (is_awake_in m ∙ may.awake));
  no_orphan = sym (is_orphaned_in s) ∙ (ap (λ (x : Lasting). x.is_orphaned) (sym alike) ∙ (is_orphaned_in m ∙ may.no_orphan));
}

lone_is : (s : SessionState) (its : Asker) → MayLook s its → lone s its.pending ≡ s
lone_is s its may = λ i. record s { requests = sym may.waits i; is_orphaned = sym may.no_orphan i }

-- how a machine that may look so has caught up, by what lasts behind its poll
pub poll_caught_up : (m n s u : SessionState) (its : Asker) (w : Lasting → Lasting) (then : SessionState → SessionState) (answer : Told) → ((x : SessionState) → lasting (then x) ≡ w (lasting x)) → lasting m ≡ lasting s → MayLook m its → n ≡ then m
    → IsEnded (lasting (then (lone s its.pending))) answer u → IsCaughtUp n u
poll_caught_up m n s u its w then answer by alike may e ended =
    let same : lasting n ≡ lasting (then (lone s its.pending)) =
    ap (λ (x : SessionState). lasting x) e ∙ (by m ∙ (ap w (alike ∙ ap (λ (x : SessionState). lasting x) (sym (lone_is s its (look_alike m s its alike may)))) ∙ sym (by (lone s its.pending)))) in
    read_caught_up n u (lasting (then (lone s its.pending))) answer same ended

none_lasts : (m : SessionState) → lasting (nothing_polled m) ≡ record (lasting m) { finished = [] }
unfolding lasting
none_lasts m = refl

pub none_caught_up : (m n s u : SessionState) (its : Asker) → lasting m ≡ lasting s → MayLook m its → n ≡ nothing_polled m → IsEnded (lasting (nothing_polled (lone s its.pending))) (told.Polled 1) u → IsCaughtUp n u
none_caught_up m n s u its alike may e ended = poll_caught_up m n s u its (λ l. record l { finished = [] }) (λ x. nothing_polled x) (told.Polled 1) none_lasts alike may e ended

read_lasts : (ticket : Ticket) (value : Option Value) (m : SessionState) → lasting (read_polled m ticket value) ≡ record (lasting m) { finished = finished.Read ticket value ∷ []; requests = remove (lasting m).requests 0 }
unfolding lasting
read_lasts ticket value m = refl

pub read_ends : (m n s u : SessionState) (its : Asker) (value : Option Value) → lasting m ≡ lasting s → MayLook m its → n ≡ read_polled m its.ticket value → IsEnded (lasting (read_polled (lone s its.pending) its.ticket value)) (told.Polled 0) u → IsCaughtUp n u
read_ends m n s u its value alike may e ended =
    poll_caught_up m n s u its (λ l. record l { finished = finished.Read its.ticket value ∷ []; requests = remove l.requests 0 }) (λ x. read_polled x its.ticket value) (told.Polled 0) (read_lasts its.ticket value) alike may e ended

on_lasts : (waits : PendingRequest) (m : SessionState) → lasting (request_polled m waits) ≡ record (lasting m) { finished = []; requests = slice_set (lasting m).requests 0 waits }
unfolding lasting
on_lasts waits m = refl

-- the request that waits from now on has asked, as it had before
asks_still : (s : SessionState) (its : Asker) (before : DiskRecord) → MayLook s its → record its.pending { sought = Some before; has_asked = true } ≡ record its.pending { sought = Some before }
asks_still s its before may = λ i. record its.pending { sought = Some before; has_asked = sym may.has_asked i }

pub on_caught_up : (m n s u : SessionState) (its : Asker) (before : DiskRecord) → lasting m ≡ lasting s → MayLook m its → n ≡ request_polled m (record its.pending { sought = Some before })
    → IsEnded (lasting (request_polled (lone s its.pending) (record its.pending { sought = Some before; has_asked = true }))) (told.Polled 1) u → IsCaughtUp n u
on_caught_up m n s u its before alike may e ended =
    let waits : PendingRequest = record its.pending { sought = Some before } in
    poll_caught_up m n s u its (λ l. record l { finished = []; requests = slice_set l.requests 0 waits }) (λ x. request_polled x waits) (told.Polled 1) (on_lasts waits) alike may e
    (subst (λ (p : PendingRequest). IsEnded (lasting (request_polled (lone s its.pending) p)) (told.Polled 1) u) (asks_still m its before may) ended)

-- what the next call goes by stays
pub none_by : (m n : Sitter) (g : Going) → n ≡ record m { state = nothing_polled m.state } → GoesBy m.seat m.state g → GoesBy n.seat n.state g
none_by m n g e by = goes_on_by m n (nothing_polled m.state) g e refl refl refl refl by.room refl by

pub read_by : (m n : Sitter) (its : Asker) (value : Option Value) (g : Going) → MayLook m.state its → n ≡ record m { state = read_polled m.state its.ticket value } → GoesBy m.seat m.state g → GoesBy n.seat n.state g
read_by m n its value g may e by = goes_on_by m n (read_polled m.state its.ticket value) g e refl refl refl refl (rw may.waits refl) refl by

pub on_by : (m n : Sitter) (its : Asker) (waits : PendingRequest) (g : Going) → MayLook m.state its → n ≡ record m { state = request_polled m.state waits } → GoesBy m.seat m.state g → GoesBy n.seat n.state g
on_by m n its waits g may e by = goes_on_by m n (request_polled m.state waits) g e refl refl refl refl (rw may.waits refl) refl by
