-- Which calls of an operation may go straight by what a session has seen.
use Rattle.std.proofs.Common.{◌≡◌, ℕ, ◌<◌, ◌≤◌, refl, sym, ap, ◌∙◌, subst, arith, Bool, true, false}
use Rattle.std.specs.Prelude.{◌==◌, ◌&&◌, if◌then◌else◌, not, Option, Some, None}
use Rattle.std.proofs.lemmas.Bool.Decides.{nat_tests}
use Rattle.fkv_base.specs.Limits.{last_serial}
use Rattle.fkv_base.specs.declared.faults.Fault.{Fault}
use Rattle.fkv_base.specs.declared.faults.Fault.TheVariants as fault
use Rattle.fkv_base.specs.declared.numbers.Key.{Key}
use Rattle.fkv_map.specs.declared.operations.Call.TheVariants as call
use Rattle.fkv_map.specs.declared.operations.Op.{Op}
use Rattle.fkv_map.specs.declared.operations.Op.TheVariants.{Read}
use Rattle.fkv_map.specs.Map.{is_reserved}
use Rattle.fkv_marks.specs.Marks.{mark}
use Rattle.fkv_plane.specs.declared.places.Places.{Places}
use Rattle.fkv_ops.specs.declared.requests.Occasion.TheVariants.{Call as AtCall}
use Rattle.fkv_ops.specs.Bounds.{bounds_of}
use Rattle.fkv_ops.specs.Requests.{is_read}
use Rattle.fkv_session.specs.Alike.{Lasting, lasting}
use Rattle.fkv_session.specs.Sessions.{Seat, SessionState, refusal_of, is_full, version_within}
use Rattle.fkv_straight.specs.declared.going.Going.{Going}
use Rattle.fkv_straight.specs.Course.{Course, course_of, next_name, Goes, GoesBy}
use Rattle.fkv_straight.specs.Met.{Begins, MayGo}
use Rattle.fkv_straight.proofs.Goings.{version_same}
use Rattle.fkv_straight.proofs.Seeks.{begins_call}

goes_call : (k : Seat) (s : SessionState) (op : Op) (g : Going) → GoesBy k s g → Goes (course_of k s op (call.Op op)) k op g
unfolding lasting
goes_call k s op g by = record {
  its_seat = refl;
  its_op = refl;
  its_places = by.places;
  its_bits = by.bits;
  its_head = by.head;
  its_floor = by.floor;
  its_read_only = by.read_only;
  its_version = ap (λ (v : ℕ). version_within v) by.version ∙ version_same g.version by.some_version by.version_fits;
  its_mark = ap mark (ap (λ (v : ℕ). version_within v) by.version ∙ version_same g.version by.some_version by.version_fits) ∙ by.its_mark;
  moves_on = by.moves_on;
  prepares = by.prepares;
  its_bound = by.its_bound;
  spare_fits = subst (λ (p : Places). s.spare ≤ p.overflow) (sym by.places) by.spare_fits;
  settled = record {
    own = ap (λ (v : ℕ). version_within v) by.version ∙ (version_same g.version by.some_version by.version_fits ∙ sym by.version);
    lone = λ polls. absurd (cc polls);
  };
}

-- ---- what each straight call goes by is what a call of this operation goes by
spent_none : (b : Bool) (n : ℕ) → (b ≡ false → n < last_serial) → (not b && (n == last_serial)) ≡ false
spent_none true n left = refl
spent_none false n left = let h : n < last_serial = left refl in grind (arith, nat_tests, h)

none_refused : (s : SessionState) (op : Op) → s.is_awake ≡ true → is_reserved op ≡ false → is_full s.requests ≡ false → (not (is_read op) && (s.serial == last_serial)) ≡ false → refusal_of s op ≡ None
none_refused s op awake allowed room left = rw (awake, allowed, room, left) refl

pub goes_for : (k : Seat) (s : SessionState) (op : Op) (g : Going) → GoesBy k s g → is_reserved op ≡ false → (is_read op ≡ false → s.serial < last_serial) → MayGo k s op g
goes_for k s op g by allowed left = record {
  goes = goes_call k s op g by;
  allowed = none_refused s op by.awake allowed by.room (spent_none (is_read op) s.serial left);
  serial_left = left;
}

pub goes_for_read : (k : Seat) (s : SessionState) (op : Op) (key : Key) (g : Going) → op ≡ Read key → GoesBy k s g → MayGo k s op g
goes_for_read k s op key g reads by = subst (λ (o : Op). MayGo k s o g) (sym reads) (goes_for k s (Read key) g by refl (λ h. absurd (cc h)))

-- ---- a session of which the same lasts may make it too, and begins it so
abbrev course_by : Seat → Lasting → Op → Course
course_by k l op = record { seat = k; lasts = l; op = op; occasion = AtCall (bounds_of k.shape); name = next_name l op; hand = op }

abbrev refusal_by : Lasting → Op → Option Fault
refusal_by l op = if not l.is_awake then Some fault.Asleep else if is_reserved op then Some fault.ValueReserved else if is_full l.requests then Some fault.PendingFull else if not (is_read op) && (l.serial == last_serial) then Some fault.SerialsSpent else None

record MayBy (k : Seat) (l : Lasting) (op : Op) (g : Going) : Type 0 where
  goes : Goes (course_by k l op) k op g
  allowed : refusal_by l op ≡ None
  serial_left : is_read op ≡ false → l.serial < last_serial

by_lasting : (k : Seat) (s : SessionState) (op : Op) (g : Going) → MayGo k s op g → MayBy k (lasting s) op g
unfolding lasting
by_lasting k s op g may = record { goes = may.goes; allowed = may.allowed; serial_left = may.serial_left }

of_lasting : (k : Seat) (s : SessionState) (op : Op) (g : Going) → MayBy k (lasting s) op g → MayGo k s op g
unfolding lasting
of_lasting k s op g may = record { goes = may.goes; allowed = may.allowed; serial_left = may.serial_left }

pub may_alike : (k q : Seat) (r s : SessionState) (op : Op) (g : Going) → MayGo k r op g → k ≡ q → lasting r ≡ lasting s → MayGo q s op g
may_alike k q r s op g may same alike = of_lasting q s op g (subst (λ (x : Seat × Lasting). MayBy x.0 x.1 op g) (λ i. (same i, alike i)) (by_lasting k r op g may))

pub goes_alike : (k q : Seat) (r s : SessionState) (op : Op) (g : Going) → MayGo k r op g → k ≡ q → lasting r ≡ lasting s → Goes (course_of q s op (call.Op op)) q op g
goes_alike k q r s op g may same alike = (may_alike k q r s op g may same alike).goes

begins_may : (k : Seat) (s : SessionState) (op : Op) (g : Going) → MayGo k s op g → Begins (course_of k s op (call.Op op)) (call.Op op) s
unfolding lasting
begins_may k s op g may = begins_call k s op may.allowed may.goes.spare_fits

pub begins_alike : (k q : Seat) (r s : SessionState) (op : Op) (g : Going) → MayGo k r op g → k ≡ q → lasting r ≡ lasting s → Begins (course_of q s op (call.Op op)) (call.Op op) s
begins_alike k q r s op g may same alike = begins_may q s op g (may_alike k q r s op g may same alike)
