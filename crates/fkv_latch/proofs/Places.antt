-- Which places have a latch.
use Rattle.std.proofs.Common.{◌≡◌, ℕ, ◌-◌, ◌%◌, ◌<◌, ◌≤◌, arith, true, false}
use Rattle.std.specs.Prelude.{◌==◌, ◌&&◌, nat_lt, nat_le}
use Rattle.std.proofs.lemmas.Bool.Decides.{nat_tests}
use Rattle.fkv_plane.specs.declared.places.Places.{Places}
use Rattle.fkv_plane.specs.declared.places.SharedWord.{SharedWord}
use Rattle.fkv_plane.specs.declared.places.SharedWord.TheVariants as one
use Rattle.fkv_plane.specs.declared.places.SessionWord.{SessionWord}
use Rattle.fkv_plane.specs.declared.places.SessionWord.TheVariants as own
use Rattle.fkv_plane.specs.Places.{Name, Shared, Drain, Session, Bucket, Overflow, Record, IsWord, place, shared_place, drain_place, session_number, session_place, bucket_place, overflow_place, ring_place, word_count}
use Rattle.fkv_latch.specs.LatchWorld.{has_latch}
use Rattle.fkv_latch.specs.Latched.{names_latch}
use Rattle.fkv_latch.proofs.Actors.{both}

-- a place that has a latch has a word
pub latch_within : (p : Places) (place n : ℕ) → has_latch p place ≡ true → word_count p ≤ n → place < n
latch_within p place n e enough =
    let first = both (nat_le (bucket_place p 0 0) place && nat_lt place (bucket_place p p.buckets 0)) ((place - bucket_place p 0 0) % 8 == 7) e in
    let second = both (nat_le (bucket_place p 0 0) place) (nat_lt place (bucket_place p p.buckets 0)) first.0 in
    let low = second.1 in
    let below : place < bucket_place p p.buckets 0 = grind (arith, nat_tests, low) in
    omega (arith, below, enough)

once_place : (word : SharedWord) → shared_place word ≤ 10
once_place one.Epoch = omega arith
once_place one.SafeEpoch = omega arith
once_place one.Phase = omega arith
once_place one.Tail = omega arith
once_place one.Limit = omega arith
once_place one.ReadOnly = omega arith
once_place one.SafeReadOnly = omega arith
once_place one.Flushed = omega arith
once_place one.Head = omega arith
once_place one.Closed = omega arith
once_place one.Taken = omega arith

number_below : (word : SessionWord) → session_number word < 16
number_below own.Epoch = omega arith
number_below own.EvenCut = omega arith
number_below own.OddCut = omega arith
number_below own.Owing = omega arith
number_below own.Durable = omega arith
number_below own.MailState = omega arith
number_below own.MailAddress = omega arith
number_below own.MailHeader = omega arith
number_below own.MailKey = omega arith
number_below own.MailValue = omega arith

before_none : (p : Places) (at : ℕ) → at < bucket_place p 0 0 → has_latch p at ≡ false
before_none p at low = grind (arith, nat_tests)

behind_none : (p : Places) (at : ℕ) → bucket_place p p.buckets 0 ≤ at → has_latch p at ≡ false
behind_none p at high = grind (arith, nat_tests)

-- of all words, just the last ones of the buckets have a latch
pub named_latch : (p : Places) (name : Name) → IsWord p name → has_latch p (place p name) ≡ names_latch name
named_latch p (Shared word) is = let low = once_place word in before_none p (shared_place word) (omega (arith, low))
named_latch p (Drain slot) is = before_none p (drain_place slot) (omega (arith, is))
named_latch p (Session session word) is = let low = number_below word in before_none p (session_place session word) (omega (arith, is, low))
named_latch p (Bucket bucket word) is =
    let few = is.0 in
    let low = is.1 in
    let within : (bucket_place p bucket word - bucket_place p 0 0) % 8 ≡ word = omega (arith, low) in
    grind (arith, nat_tests, few, within)
named_latch p (Overflow number word) is = let some = is.0 in behind_none p (overflow_place p number word) (omega (arith, some))
named_latch p (Record index word) is = behind_none p (ring_place p index word) (omega arith)
