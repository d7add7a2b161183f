-- Words that are none of this world's: those of sessions but the epoch word, those of buckets, the phase, and the count of buckets that are taken.
use Rattle.std.proofs.Common.{◌≡◌, ℕ, ◌+◌, ◌-◌, ◌*◌, ◌%◌, ◌<◌, ◌≤◌, ◌⊎◌, inl, inr, refl, arith, Bool, true, false}
use Rattle.std.specs.Prelude.{◌==◌, ◌||◌, ◌&&◌, nat_lt, nat_le}
use Rattle.std.proofs.lemmas.Bool.Decides.{nat_tests}
use Rattle.fkv_plane.specs.declared.places.Places.{Places}
use Rattle.fkv_plane.specs.declared.places.SharedWord.TheVariants as one
use Rattle.fkv_plane.specs.declared.places.SessionWord.{SessionWord}
use Rattle.fkv_plane.specs.declared.places.SessionWord.TheVariants as own
use Rattle.fkv_plane.specs.Places.{shared_place, session_number, session_place, bucket_place, overflow_place, frames_start}
use Rattle.fkv_epoch.specs.EpochWorld.{is_own}
use Rattle.fkv_flush.specs.GuardWorld.{is_guarded}

none_of : (b c : Bool) → b ≡ false → c ≡ false → (b || c) ≡ false
none_of b c e f = rw (e, f) refl

not_first : (b c : Bool) → b ≡ false → (b && c) ≡ false
not_first b c e = rw e refl

not_second : (b c : Bool) → c ≡ false → (b && c) ≡ false
not_second true c e = e
not_second false c e = refl

-- a place from the sessions' words on, and below the frames, that is no epoch word
high_is_outer : (p : Places) (place : ℕ) → 24 ≤ place → place < frames_start p → (24 + 16 * p.sessions ≤ place) ⊎ (1 ≤ (place - 24) % 16) → is_guarded p place ≡ false
high_is_outer p place high below other =
    let low : nat_lt place 2 ≡ false = grind (arith, nat_tests) in
    let drain : nat_lt place 24 ≡ false = grind (arith, nat_tests) in
    let offset : nat_lt place 10 ≡ false = grind (arith, nat_tests) in
    let frame : nat_le (frames_start p) place ≡ false = grind (arith, nat_tests) in
    let own : ((nat_le 24 place && nat_lt place (24 + 16 * p.sessions)) && (place - 24) % 16 == 0) ≡ false = elim other [
      | inl past ↦ let t : nat_lt place (24 + 16 * p.sessions) ≡ false = grind (arith, nat_tests) in not_first (nat_le 24 place && nat_lt place (24 + 16 * p.sessions)) ((place - 24) % 16 == 0) (not_second (nat_le 24 place) (nat_lt place (24 + 16 * p.sessions)) t)
      | inr some ↦ let t : ((place - 24) % 16 == 0) ≡ false = grind (arith, nat_tests) in not_second (nat_le 24 place && nat_lt place (24 + 16 * p.sessions)) ((place - 24) % 16 == 0) t
    ] in
    none_of (is_own p.sessions place || (nat_le 3 place && nat_lt place 10)) (nat_le (frames_start p) place)
    (none_of (is_own p.sessions place) (nat_le 3 place && nat_lt place 10)
    (none_of (nat_lt place 2 || (nat_le 16 place && nat_lt place 24)) ((nat_le 24 place && nat_lt place (24 + 16 * p.sessions)) && (place - 24) % 16 == 0)
    (none_of (nat_lt place 2) (nat_le 16 place && nat_lt place 24) low (not_second (nat_le 16 place) (nat_lt place 24) drain)) own)
    (not_second (nat_le 3 place) (nat_lt place 10) offset)) frame

word_small : (word : SessionWord) → session_number word < 16
word_small own.Epoch = omega arith
word_small own.EvenCut = omega arith
word_small own.OddCut = omega arith
word_small own.Owing = omega arith
word_small own.Durable = omega arith
word_small own.MailState = omega arith
word_small own.MailAddress = omega arith
word_small own.MailHeader = omega arith
word_small own.MailKey = omega arith
word_small own.MailValue = omega arith

-- a session's word that isn't its epoch word
pub session_is_outer : (p : Places) (session : ℕ) (word : SessionWord) → session < p.sessions → 1 ≤ session_number word → is_guarded p (session_place session word) ≡ false
session_is_outer p session word inside other = let small = word_small word in high_is_outer p (session_place session word) (omega arith) (omega (arith, inside, small)) (inr (omega (arith, other, small)))

pub bucket_is_outer : (p : Places) (bucket word : ℕ) → bucket < p.buckets + p.overflow → word < 8 → is_guarded p (bucket_place p bucket word) ≡ false
bucket_is_outer p bucket word few low = high_is_outer p (bucket_place p bucket word) (omega arith) (omega (arith, few, low)) (inl (omega arith))

pub overflow_is_outer : (p : Places) (number word : ℕ) → 1 ≤ number → number ≤ p.overflow → word < 8 → is_guarded p (overflow_place p number word) ≡ false
overflow_is_outer p number word some few low = bucket_is_outer p (p.buckets + (number - 1)) word (omega (arith, some, few)) low

pub phase_is_outer : (p : Places) → is_guarded p (shared_place one.Phase) ≡ false
phase_is_outer p = grind (arith, nat_tests)

pub taken_is_outer : (p : Places) → is_guarded p (shared_place one.Taken) ≡ false
taken_is_outer p = grind (arith, nat_tests)
