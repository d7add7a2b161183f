-- When a poll may go straight, and what is behind one.
use Rattle.std.proofs.Common.{◌≡◌, ℕ, ◌<◌, ◌≤◌, ◌^◌, refl, sym, ap, ◌∙◌, subst, true, false, List, [], ◌∷◌}
use Rattle.std.specs.Prelude.{Option, Some, None}
use Rattle.std.specs.Option.{is_some}
use Rattle.std.proofs.Math.Bridge.{le_prop}
use Rattle.fkv_base.specs.declared.numbers.Serial.{Serial}
use Rattle.fkv_base.specs.declared.numbers.Version.{Version}
use Rattle.fkv_map.specs.declared.operations.Call.TheVariants as call
use Rattle.fkv_map.specs.declared.operations.Op.{Op}
use Rattle.fkv_map.specs.declared.operations.Reply.{Reply}
use Rattle.fkv_marks.specs.Marks.{mark}
use Rattle.fkv_plane.specs.declared.asks.Ask.TheVariants.{Done}
use Rattle.fkv_plane.specs.declared.places.Places.{Places}
use Rattle.fkv_words.proofs.Shown.{same_made}
use Rattle.fkv_index.specs.Finding.{spare_of}
use Rattle.fkv_ops.specs.declared.answers.TryAnswer.TheVariants as tried
use Rattle.fkv_ops.specs.declared.requests.Occasion.TheVariants.{Poll as AtPoll}
use Rattle.fkv_ops.specs.declared.requests.Request.{Request}
use Rattle.fkv_ops.specs.Requests.{is_read}
use Rattle.fkv_ops.specs.Trying.{is_prepare}
use Rattle.fkv_pending.specs.declared.pending_requests.PendingRequest.{PendingRequest}
use Rattle.fkv_pending.specs.declared.pending_requests.RequestName.{RequestName}
use Rattle.fkv_pending.specs.declared.pending_requests.RequestName.TheVariants.{Update}
use Rattle.fkv_session.specs.declared.answers.Told.TheVariants as told
use Rattle.fkv_session.specs.Alike.{Lasting, lasting}
use Rattle.fkv_session.specs.Sessions.{Seat, SessionState, Sitter, finished_of, nothing_polled, only_of, poll_call, polls_at, request_of, session_ask, update_polled, version_within}
use Rattle.fkv_straight.specs.declared.going.Going.{Going}
use Rattle.fkv_straight.specs.declared.going.Lone.{Lone}
use Rattle.fkv_straight.specs.Course.{Course, course_of, first_name, pending_in, Goes, GoesBy}
use Rattle.fkv_straight.specs.Met.{Begins, MayPoll}
use Rattle.fkv_straight.specs.Standing.{begins, IsDone, IsCaughtUp, IsWaiting}
use Rattle.fkv_straight.proofs.Endings.{read_asks, read_caught_up}
use Rattle.fkv_straight.proofs.Goings.{goes_on_by, spare_same, version_same}
use Rattle.fkv_base.specs.declared.numbers.Addr.{Addr}

-- what waits, as the request of a course
as_request : (r : Request) (op : Op) (version : Version) (floor : Addr) → r.op ≡ op → r.version.0 ≡ version_within version.0 → r.has_latch ≡ false → r.held ≡ None → r.floor ≡ floor → r ≡ request_of op version floor
as_request r op version floor its same free none low =
    (λ i. record { op = its i; version = r.version; has_latch = free i; held = none i; floor = low i; some_version = r.some_version; version_fits = r.version_fits })
    ∙ same_made {A = Version} {P = λ v. (0 < v.0) × (v.0 < 2 ^ 45)} (λ v h. record { op = op; version = v; has_latch = false; held = None; floor = floor; some_version = h.0; version_fits = h.1 }) (λ v. hlevel le_prop) r.version (request_of op version floor).version
    (r.some_version, r.version_fits) ((request_of op version floor).some_version, (request_of op version floor).version_fits) (λ i. record { 0 = same i })

pub none_of : {A : Type 0} (x : Option A) → is_some x ≡ false → x ≡ None
none_of None h = refl
none_of (Some x) h = absurd (cc h)

pub only_is : (l : List PendingRequest) (its : PendingRequest) → only_of l ≡ Some its → l ≡ its ∷ []
only_is [] its e = absurd (cc e)
only_is (x ∷ []) its e = cc e
only_is (x ∷ y ∷ l) its e = absurd (cc e)

-- the request of an update that waits for nothing but the poll
pub record IsPlain (its : PendingRequest) (l : Lone) (its_version : ℕ) (its_floor : Addr) : Type 0 where
  pub name : its.name ≡ Update l.serial
  pub op : its.request.op ≡ l.op
  pub version : its.request.version.0 ≡ its_version
  pub floor : its.request.floor ≡ its_floor
  pub free : its.request.has_latch ≡ false
  pub none_held : its.request.held ≡ None
  pub none_sought : its.sought ≡ None
  pub none_asked : its.has_asked ≡ false

lone_in : (k : Seat) (s : SessionState) (l : Lone) (g : Going) (its : PendingRequest) → GoesBy k s g → s.requests ≡ its ∷ [] → IsPlain its l g.version s.floor → its ≡ pending_in (course_of k s l.op call.Poll)
unfolding lasting
lone_in k s l g its by waits plain =
    let name : its.name ≡ first_name s.requests = sym (ap first_name waits) in
    let request = as_request its.request l.op s.seen.version s.floor plain.op (plain.version ∙ (sym (version_same g.version by.some_version by.version_fits) ∙ ap (λ (v : ℕ). version_within v) (sym by.version))) plain.free plain.none_held plain.floor in
    (λ i. record { name = name i; request = request i; sought = plain.none_sought i; has_asked = plain.none_asked i })

pub may_poll : (k : Seat) (s : SessionState) (l : Lone) (g : Going) (its : PendingRequest) → GoesBy k s g → Some its ≡ only_of s.requests → IsPlain its l g.version s.floor → g.is_preparing ≡ false → s.is_orphaned ≡ false → is_read l.op ≡ false → MayPoll k s l g
unfolding lasting
may_poll k s l g its by only plain calm none updates =
    let waits : s.requests ≡ its ∷ [] = only_is s.requests its (sym only) in
    record {
      goes = record {
        its_seat = refl;
        its_op = refl;
        its_places = by.places;
        its_bits = by.bits;
        its_head = by.head;
        its_floor = by.floor;
        its_read_only = by.read_only;
        its_version = ap (λ (v : ℕ). version_within v) by.version ∙ version_same g.version by.some_version by.version_fits;
        its_mark = ap mark (ap (λ (v : ℕ). version_within v) by.version ∙ version_same g.version by.some_version by.version_fits) ∙ by.its_mark;
        moves_on = by.moves_on;
        prepares = by.prepares;
        its_bound = refl;
        spare_fits = subst (λ (p : Places). s.spare ≤ p.overflow) (sym by.places) by.spare_fits;
        settled = record {
          own = ap (λ (v : ℕ). version_within v) by.version ∙ (version_same g.version by.some_version by.version_fits ∙ sym by.version);
          lone = λ polls. record { waits = waits ∙ ap (λ (x : PendingRequest). x ∷ []) (lone_in k s l g its by waits plain); none_told = refl };
        };
      };
      awake = by.awake;
      no_orphan = none;
      updates = updates;
      calm = calm;
      named = ap first_name waits ∙ plain.name;
    }

-- ---- a session of which the same lasts may make it too, and begins it so
begins_at : (k : Seat) (s : SessionState) (op : Op) (name : RequestName) → s.is_awake ≡ true → s.is_orphaned ≡ false → s.requests ≡ record { name = name; request = request_of op s.seen.version s.floor; sought = None; has_asked = false } ∷ [] → is_read op ≡ false
    → is_prepare s.seen.phase ≡ false → spare_of k.places s.spare ≡ s.spare → Begins (course_of k s op call.Poll) call.Poll s
unfolding begins poll_call polls_at lasting
begins_at k s op name awake none waits updates calm spare = rw (awake, none, waits, updates, calm, spare) refl

begins_poll : (k : Seat) (s : SessionState) (l : Lone) (g : Going) → MayPoll k s l g → Begins (course_of k s l.op call.Poll) call.Poll s
unfolding lasting
begins_poll k s l g may =
    let c = course_of k s l.op call.Poll in
    begins_at k s l.op (first_name s.requests) may.awake may.no_orphan (may.goes.settled.lone refl).waits may.updates (may.goes.prepares ∙ may.calm) (spare_same k.places s.spare may.goes.spare_fits)

-- which operation the session has in hand no fact goes by
abbrev poll_by : Seat → Lasting → Op → Op → Course
poll_by k l op hand = record { seat = k; lasts = record l { finished = [] }; op = op; occasion = AtPoll; name = first_name l.requests; hand = hand }

goes_hand : (k : Seat) (l : Lasting) (op one other : Op) (g : Going) → Goes (poll_by k l op one) k op g → Goes (poll_by k l op other) k op g
goes_hand k l op one other g goes = record {
  its_seat = goes.its_seat;
  its_op = goes.its_op;
  its_places = goes.its_places;
  its_bits = goes.its_bits;
  its_head = goes.its_head;
  its_floor = goes.its_floor;
  its_read_only = goes.its_read_only;
  its_version = goes.its_version;
  its_mark = goes.its_mark;
  moves_on = goes.moves_on;
  prepares = goes.prepares;
  its_bound = goes.its_bound;
  spare_fits = goes.spare_fits;
  settled = record { own = goes.settled.own; lone = λ polls. record { waits = (goes.settled.lone polls).waits; none_told = (goes.settled.lone polls).none_told } };
}

goes_poll : (k q : Seat) (r s : SessionState) (op : Op) (g : Going) → Goes (course_of k r op call.Poll) k op g → k ≡ q → lasting r ≡ lasting s → Goes (course_of q s op call.Poll) q op g
unfolding lasting
goes_poll k q r s op g goes same alike = goes_hand q (lasting s) op r.op s.op g (subst (λ (x : Seat × Lasting). Goes (poll_by x.0 x.1 op r.op) x.0 op g) (λ i. (same i, alike i)) goes)

is_awake_in : (s : SessionState) → (lasting s).is_awake ≡ s.is_awake
unfolding lasting
is_awake_in s = refl

is_orphaned_in : (s : SessionState) → (lasting s).is_orphaned ≡ s.is_orphaned
unfolding lasting
is_orphaned_in s = refl

first_in : (s : SessionState) → first_name (lasting s).requests ≡ first_name s.requests
unfolding lasting
first_in s = refl

pub poll_alike : (k q : Seat) (r s : SessionState) (l : Lone) (g : Going) → MayPoll k r l g → k ≡ q → lasting r ≡ lasting s → MayPoll q s l g
poll_alike k q r s l g may same alike = record {
  goes = goes_poll k q r s l.op (record g { bound = None }) may.goes same alike;
  awake = sym (is_awake_in s) ∙ (ap (λ (x : Lasting). x.is_awake) (sym alike) ∙ (is_awake_in r ∙ may.awake));
  no_orphan = sym (is_orphaned_in s) ∙ (ap (λ (x : Lasting). x.is_orphaned) (sym alike) ∙ (is_orphaned_in r ∙ may.no_orphan));
  updates = may.updates;
  calm = may.calm;
  named = sym (first_in s) ∙ (ap (λ (x : Lasting). first_name x.requests) (sym alike) ∙ (first_in r ∙ may.named));
}

pub poll_begins : (k q : Seat) (r s : SessionState) (l : Lone) (g : Going) → MayPoll k r l g → k ≡ q → lasting r ≡ lasting s → Begins (course_of q s l.op call.Poll) call.Poll s
poll_begins k q r s l g may same alike = begins_poll q s l g (poll_alike k q r s l g may same alike)

-- ---- behind its end the machine has caught up
polled_lasts : (m : SessionState) (serial : Serial) (its : Reply) (waiting : PendingRequest) → m.requests ≡ waiting ∷ [] → waiting.name ≡ Update serial → lasting (update_polled m serial its) ≡ record (lasting m) { requests = []; finished = finished_of (first_name (lasting m).requests) (tried.Done its) ∷ [] }
unfolding lasting
polled_lasts m serial its waiting waits named = rw (waits, named) refl

pub poll_caught_up : (m n u s : SessionState) (k : Seat) (l : Lone) (its : Reply) (waiting : PendingRequest) → lasting m ≡ lasting s → n ≡ update_polled m l.serial its → m.requests ≡ waiting ∷ [] → first_name m.requests ≡ Update l.serial → IsDone (course_of k s l.op call.Poll) its u → IsCaughtUp n u
unfolding lasting
poll_caught_up m n u s k l its waiting alike e waits named done =
    let w : Lasting → Lasting = λ l. record l { requests = []; finished = finished_of (first_name l.requests) (tried.Done its) ∷ [] } in
    read_caught_up n u (w (lasting s)) (told.Polled 0) (ap (λ (x : SessionState). lasting x) e ∙ (polled_lasts m l.serial its waiting waits (sym (ap first_name waits) ∙ named) ∙ ap w alike)) done

-- what alone waits
pub waits_in : (k : Seat) (s : SessionState) (l : Lone) (g : Going) → MayPoll k s l g → s.requests ≡ pending_in (course_of k s l.op call.Poll) ∷ []
unfolding lasting
waits_in k s l g may = (may.goes.settled.lone refl).waits

pub poll_asks : (k : Seat) (s u : SessionState) (op : Op) (its : Reply) → IsDone (course_of k s op call.Poll) its u → Done (told.Polled 0) ≡ session_ask k u
poll_asks k s u op its done = read_asks k u _ (told.Polled 0) done

-- the same where it has finished nothing
unpolled_lasts : (m : SessionState) → lasting (nothing_polled m) ≡ record (lasting m) { finished = [] }
unfolding lasting
unpolled_lasts m = refl

pub unpolled_caught_up : (m n u s : SessionState) (k : Seat) (op : Op) → lasting m ≡ lasting s → n ≡ nothing_polled m → IsWaiting (course_of k s op call.Poll) u → IsCaughtUp n u
unpolled_caught_up m n u s k op alike e waits =
    let w : Lasting → Lasting = λ l. record l { finished = [] } in
    read_caught_up n u (w (lasting s)) (told.Polled 1) (ap (λ (x : SessionState). lasting x) e ∙ (unpolled_lasts m ∙ ap w alike)) waits

pub unpolled_asks : (k : Seat) (s u : SessionState) (op : Op) → IsWaiting (course_of k s op call.Poll) u → Done (told.Polled 1) ≡ session_ask k u
unpolled_asks k s u op waits = read_asks k u _ (told.Polled 1) waits

pub unpolled_by : (m n : Sitter) (g : Going) → n ≡ record m { state = nothing_polled m.state } → GoesBy m.seat m.state g → GoesBy n.seat n.state g
unpolled_by m n g e by = goes_on_by m n (nothing_polled m.state) g e refl refl refl refl by.room refl by

-- what the next call goes by stays
pub polled_by : (m n : Sitter) (serial : Serial) (its : Reply) (waiting : PendingRequest) (g : Going) → m.state.requests ≡ waiting ∷ [] → n ≡ record m { state = update_polled m.state serial its } → GoesBy m.seat m.state g → GoesBy n.seat n.state g
polled_by m n serial its waiting g waits e by = goes_on_by m n (update_polled m.state serial its) g e refl refl refl refl (rw waits refl) refl by
