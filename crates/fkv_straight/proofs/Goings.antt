-- The numbers that a call goes by, as those of its course.
use Rattle.std.proofs.Common.{◌≡◌, ℕ, ◌<◌, ◌≤◌, refl, sym, ap, ◌∙◌, subst, arith, Bool, true, false}
use Rattle.std.specs.Prelude.{◌+◌, ◌*◌, ◌%◌, ◌&&◌, not, nat_le, nat_lt, Option, Some, None, IfSome, IfNone, Result, Ok, Err, IfOk, IfErr}
use Rattle.std.proofs.lemmas.Bool.Decides.{nat_tests}
use Rattle.fkv_base.specs.Limits.{last_serial, last_version}
use Rattle.fkv_base.specs.declared.numbers.Key.{Key}
use Rattle.fkv_map.specs.declared.operations.Op.{Op}
use Rattle.fkv_map.specs.Keys.{key_of}
use Rattle.fkv_plane.specs.declared.asks.Ask.{Ask}
use Rattle.fkv_plane.specs.declared.places.Places.{Places}
use Rattle.fkv_plane.specs.declared.places.RecordWord.{RecordWord}
use Rattle.fkv_plane.specs.declared.places.RecordWord.TheVariants as rec
use Rattle.fkv_plane.specs.Places.{bucket_place, frames_start, record_place}
use Rattle.fkv_index.specs.declared.homes.Home.{Home}
use Rattle.fkv_index.specs.Finding.{spare_of}
use Rattle.fkv_index.specs.Slots.{home_of}
use Rattle.fkv_ops.specs.declared.requests.Seen.{Seen}
use Rattle.fkv_ops.specs.Requests.{is_read, is_blind}
use Rattle.fkv_ops.specs.Trying.{is_prepare, is_moving_on, is_next_marked}
use Rattle.fkv_session.specs.declared.answers.Told.{Told}
use Rattle.fkv_session.specs.Sessions.{Seat, SessionState, Sitter, is_busy, is_full, version_within}
use Rattle.fkv_straight.specs.declared.going.Going.{Going}
use Rattle.fkv_straight.specs.Course.{Course, home_in, head_in, request_in, shares, Goes, GoesBy}
use Rattle.fkv_straight.specs.Memory.{is_in_memory}
use Rattle.fkv_straight.specs.Met.{IsInMemory, latch_in}
use Rattle.fkv_straight.specs.Standing.{asked, leads}
use Rattle.fkv_straight.proofs.Tests.{and_false}
use Rattle.fkv_log.specs.Reserving.{limit_within}
use Rattle.fkv_ops.specs.Bounds.{bounds_at, tail_bound}
use Rattle.fkv_base.specs.declared.numbers.Addr.{Addr}

-- the seat of a line is that of the course
pub asks_at : (c : Course) (q : Seat) (s : SessionState) (ask : Ask Told) → c.seat ≡ q → asked c.seat s ≡ ask → asked q s ≡ ask
asks_at c q s ask e h = subst (λ (x : Seat). asked x s ≡ ask) e h

pub leads_at : (c : Course) (q : Seat) (s u : SessionState) (reply : ℕ) → c.seat ≡ q → u ≡ leads q s reply → u ≡ leads c.seat s reply
leads_at c q s u reply e h = h ∙ ap (λ (x : Seat). leads x s reply) (sym e)

pub spare_same : (p : Places) (spare : ℕ) → spare ≤ p.overflow → spare_of p spare ≡ spare
spare_same p spare fits = let h : nat_le spare p.overflow ≡ true = grind (arith, nat_tests) in rw h refl

pub home_is : (c : Course) (k : Seat) (op : Op) (g : Going) (h : Home) (key : Key) → Goes c k op g → key ≡ key_of op → h ≡ home_of g.bits key → h ≡ home_in c
home_is c k op g h key goes its e = e ∙ (ap (λ (x : Key). home_of g.bits x) (its ∙ ap (λ (x : Op). key_of x) (sym goes.its_op)) ∙ ap (λ (b : ℕ). home_of b (key_of c.op)) (sym goes.its_bits))

pub bucket_is : (c : Course) (k : Seat) (op : Op) (g : Going) (h : Home) (key : Key) (base : ℕ) → Goes c k op g → key ≡ key_of op → h ≡ home_of g.bits key → base ≡ bucket_place g.places h.bucket 0 → bucket_place c.seat.places (home_in c).bucket 0 ≡ base
bucket_is c k op g h key base goes its e b =
    ap (λ (p : Places). bucket_place p (home_in c).bucket 0) goes.its_places ∙ (ap (λ (x : Home). bucket_place g.places x.bucket 0) (sym (home_is c k op g h key goes its e)) ∙ sym b)

pub latch_is : (c : Course) (k : Seat) (op : Op) (g : Going) (place : ℕ) → Goes c k op g → place ≡ bucket_place g.places (home_of g.bits (key_of op)).bucket 7 → latch_in c ≡ place
latch_is c k op g place goes e =
    ap (λ (p : Places). bucket_place p (home_in c).bucket 7) goes.its_places ∙ (ap (λ (x : Home). bucket_place g.places x.bucket 7) (sym (home_is c k op g (home_of g.bits (key_of op)) (key_of op) goes refl refl)) ∙ sym e)

pub record_is : (c : Course) (k : Seat) (op : Op) (g : Going) (addr at : ℕ) (word : RecordWord) → Goes c k op g → at ≡ record_place g.places addr word → record_place c.seat.places addr word ≡ at
record_is c k op g addr at word goes e = ap (λ (p : Places). record_place p addr word) goes.its_places ∙ sym e

-- the words of a record follow one another
key_after : (start index : ℕ) → start + 3 * index + 0 + 1 ≡ start + 3 * index + 1
key_after start index = omega arith

value_after : (start index : ℕ) → start + 3 * index + 0 + 2 ≡ start + 3 * index + 2
value_after start index = omega arith

pub key_at : (p : Places) (addr at : ℕ) → at ≡ record_place p addr rec.Header → at + 1 ≡ record_place p addr rec.Key
key_at p addr at e = ap (λ (n : ℕ). n + 1) e ∙ key_after (frames_start p) (addr % p.ring)

pub value_at : (c : Course) (k : Seat) (op : Op) (g : Going) (addr at : ℕ) → Goes c k op g → at ≡ record_place c.seat.places addr rec.Header → at + 2 ≡ record_place g.places addr rec.Value
value_at c k op g addr at goes e =
    ap (λ (n : ℕ). n + 2) (e ∙ ap (λ (p : Places). record_place p addr rec.Header) goes.its_places) ∙ value_after (frames_start g.places) (addr % g.places.ring)

-- each word of a record lies behind the shared words
pub record_past : (p : Places) (addr at : ℕ) (word : RecordWord) → at ≡ record_place p addr word → 24 ≤ at
record_past p addr at word e = subst (λ (n : ℕ). 24 ≤ n) (sym e) (omega arith)

pub memory_is : (c : Course) (k : Seat) (op : Op) (g : Going) (addr : ℕ) (b : Bool) → Goes c k op g → b ≡ is_in_memory g.places.ring g.head addr → b ≡ true → IsInMemory c addr
memory_is c k op g addr b goes e holds = ap (λ (p : Places). is_in_memory p.ring (head_in c) addr) goes.its_places ∙ (ap (λ (n : ℕ). is_in_memory g.places.ring n addr) goes.its_head ∙ (sym e ∙ holds))

-- ---- what a line of the same seat is asked for, and where it is led
pub record_asks : (c : Course) (k : Seat) (op : Op) (g : Going) (addr at : ℕ) (word : RecordWord) (q : Seat) (s : SessionState) (ask : ℕ → Ask Told) → Goes c k op g → q ≡ k → at ≡ record_place g.places addr word
    → asked c.seat s ≡ ask (record_place c.seat.places addr word) → asked q s ≡ ask at
record_asks c k op g addr at word q s ask goes same e h = asks_at c q s (ask at) (goes.its_seat ∙ sym same) (h ∙ ap ask (record_is c k op g addr at word goes e))

pub place_asks : (c : Course) (k : Seat) (op : Op) (g : Going) (place at : ℕ) (q : Seat) (s : SessionState) (ask : ℕ → Ask Told) → Goes c k op g → q ≡ k → place ≡ at → asked c.seat s ≡ ask place → asked q s ≡ ask at
place_asks c k op g place at q s ask goes same e h = asks_at c q s (ask at) (goes.its_seat ∙ sym same) (h ∙ ap ask e)

pub leads_on : (c : Course) (k : Seat) (op : Op) (g : Going) (q : Seat) (s u : SessionState) (reply : ℕ) → Goes c k op g → q ≡ k → u ≡ leads q s reply → u ≡ leads c.seat s reply
leads_on c k op g q s u reply goes same e = leads_at c q s u reply (goes.its_seat ∙ sym same) e

-- the limit that counts for a course
pub limit_is : (c : Course) (k : Seat) (op : Op) (g : Going) (found limit : ℕ) → Goes c k op g → limit ≡ limit_within g.bound found → limit ≡ limit_within (tail_bound (bounds_at c.occasion)) found
limit_is c k op g found limit goes e = e ∙ ap (λ (o : Option ℕ). limit_within o found) (sym goes.its_bound)

pub updates_in : (c : Course) (k : Seat) (op : Op) (g : Going) (b : Bool) → Goes c k op g → is_read op ≡ b → is_read c.op ≡ b
updates_in c k op g b goes e = ap (λ (x : Op). is_read x) goes.its_op ∙ e

pub blind_in : (c : Course) (k : Seat) (op : Op) (g : Going) (b : Bool) → Goes c k op g → is_blind op ≡ b → is_blind c.op ≡ b
blind_in c k op g b goes e = ap (λ (x : Op). is_blind x) goes.its_op ∙ e

-- which updates share a latch
pub calm_in : (c : Course) (k : Seat) (op : Op) (g : Going) → Goes c k op g → g.is_preparing ≡ false → shares c ≡ false
calm_in c k op g goes calm = let e : is_prepare c.lasts.seen.phase ≡ false = goes.prepares ∙ calm in rw e refl

pub reads_calm : (c : Course) (k : Seat) (op : Op) (g : Going) → Goes c k op g → is_read op ≡ true → shares c ≡ false
reads_calm c k op g goes reads = let e : is_read c.op ≡ true = updates_in c k op g true goes reads in rw (e, and_false (is_prepare c.lasts.seen.phase)) refl

pub shares_in : (c : Course) (k : Seat) (op : Op) (g : Going) → Goes c k op g → g.is_preparing ≡ true → is_read op ≡ false → shares c ≡ true
shares_in c k op g goes prepares updates =
    let e : is_prepare c.lasts.seen.phase ≡ true = goes.prepares ∙ prepares in
    let f : is_read c.op ≡ false = updates_in c k op g false goes updates in
    rw (e, f) refl

pub is_unmarked : (c : Course) (k : Seat) (op : Op) (g : Going) → Goes c k op g → is_next_marked (record { 0 = g.version }) ≡ false → is_next_marked (request_in c).version ≡ false
is_unmarked c k op g goes unmarked = rw goes.its_version unmarked

pub goes_at : (c : Course) (k : Seat) (op : Op) (g : Going) (q : Seat) → Goes c k op g → q ≡ k → Goes c q op g
goes_at c k op g q goes same = subst (λ (x : Seat). Goes c x op g) (sym same) goes

pub some_of : {A : Type 0} (P : A → Type 0) (found : Option A) (x : A) → found ≡ Some x → IfSome found P → P x
some_of P found x e h = subst (λ (o : Option _). IfSome o P) e h

pub ok_of : {A E : Type 0} (P : A → Type 0) (found : Result A E) (x : A) → found ≡ Ok x → IfOk found P → P x
ok_of P found x e h = subst (λ (o : Result _ _). IfOk o P) e h

pub err_of : {A E : Type 0} (P : E → Type 0) (found : Result A E) (x : E) → found ≡ Err x → IfErr found P → P x
err_of P found x e h = subst (λ (o : Result _ _). IfErr o P) e h

pub none_of : {A : Type 0} (P : Type 0) (found : Option A) → found ≡ None → IfNone found P → P
none_of P found e h = subst (λ (o : Option _). IfNone o P) e h

pub met_of : {A : Type 0} (P : A → Type 0) (found : Option A) (met x : A) → found ≡ Some met → met ≡ x → IfSome found P → P x
met_of P found met x e f h = subst P f (some_of P found met e h)

pub shares_at : (op : Op) (one other : Seen) → other ≡ one → (is_prepare other.phase && not (is_read op)) ≡ (is_prepare one.phase && not (is_read op))
shares_at op one other e = ap (λ (x : Seen). is_prepare x.phase && not (is_read op)) e

-- ---- what a session shows of itself is what a call of it goes by
pub version_same : (v : ℕ) → ¬ (v ≡ 0) → v ≤ last_version → version_within v ≡ v
version_same v some fits = omega (arith, some, fits)

-- a call of the machine changes nothing that the next call goes by, if it leaves the view, the spare bucket and room for a request
pub goes_on_by : (m n : Sitter) (s : SessionState) (g : Going) → n ≡ record m { state = s } → s.seen ≡ m.state.seen → s.is_awake ≡ m.state.is_awake → s.spare ≡ m.state.spare → s.floor ≡ m.state.floor → is_full s.requests ≡ false → is_busy s.step ≡ false → GoesBy m.seat m.state g
    → GoesBy n.seat n.state g
goes_on_by m n s g e seen awake spare floor room idle by =
    subst (λ (x : Sitter). GoesBy x.seat x.state g) (sym e) record {
      places = by.places;
      bits = by.bits;
      head = ap (λ (x : Seen). x.offsets.head.0) seen ∙ by.head;
      floor = ap (λ (x : Addr). x.0) floor ∙ by.floor;
      read_only = ap (λ (x : Seen). x.offsets.read_only.0) seen ∙ by.read_only;
      version = ap (λ (x : Seen). x.version.0) seen ∙ by.version;
      some_version = by.some_version;
      version_fits = by.version_fits;
      its_mark = by.its_mark;
      moves_on = ap (λ (x : Seen). is_moving_on x.phase) seen ∙ by.moves_on;
      prepares = ap (λ (x : Seen). is_prepare x.phase) seen ∙ by.prepares;
      its_bound = by.its_bound;
      awake = awake ∙ by.awake;
      room = room;
      spare_fits = subst (λ (x : ℕ). x ≤ g.places.overflow) (sym spare) by.spare_fits;
      idle = idle;
    }

-- the serial that the machine takes is none of what it goes by
pub goes_by_still : (m n : Sitter) (g : Going) → n ≡ record m { state = record m.state { serial = m.state.serial + 1 } } → GoesBy m.seat m.state g → GoesBy n.seat n.state g
goes_by_still m n g e by = goes_on_by m n (record m.state { serial = m.state.serial + 1 }) g e refl refl refl refl by.room by.idle by

pub less_of : (serial shown : ℕ) → shown ≡ serial → nat_lt shown last_serial ≡ true → serial < last_serial
less_of serial shown e h = subst (λ (n : ℕ). n < last_serial) e (grind (arith, nat_tests, h))

pub some_on : {A : Type 0} (P Q : A → Type 0) (o : Option A) → ((x : A) → P x → Q x) → IfSome o P → IfSome o Q
some_on P Q (Some x) on h = on x h
some_on P Q None on h = tt
