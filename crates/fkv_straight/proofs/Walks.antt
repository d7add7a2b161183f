-- How the chain is walked from an address that was reached.
use Rattle.std.proofs.Common.{◌≡◌, ℕ, ◌<◌, refl, subst, arith, true, false}
use Rattle.std.specs.Prelude.{◌==◌, nat_lt}
use Rattle.std.proofs.lemmas.Bool.Decides.{nat_tests}
use Rattle.fkv_base.specs.declared.numbers.Addr.{Addr}
use Rattle.fkv_base.specs.declared.numbers.Version.{Version}
use Rattle.fkv_map.specs.Keys.{key_of}
use Rattle.fkv_plane.specs.declared.asks.Ask.TheVariants.{Load}
use Rattle.fkv_plane.specs.declared.places.RecordWord.TheVariants as rec
use Rattle.fkv_plane.specs.Passing.{passed}
use Rattle.fkv_plane.specs.Places.{record_place}
use Rattle.fkv_log.specs.declared.loading.Loading.{Loading}
use Rattle.fkv_log.specs.declared.loading.Loading.TheVariants as load
use Rattle.fkv_log.specs.Loading.{load_ask, load_next, load_next_ask}
use Rattle.fkv_ops.specs.declared.header_words.HeaderSaid.TheVariants.{Says}
use Rattle.fkv_ops.specs.declared.walking.Walking.{Walking}
use Rattle.fkv_ops.specs.declared.walking.Walking.TheVariants.{Meets}
use Rattle.fkv_ops.specs.HeaderWords.{header_said}
use Rattle.fkv_ops.specs.Trying.{TryState, trying_ask, trying_next, walk_ledto}
use Rattle.fkv_ops.specs.Walking.{reached, first_met, walking_ask, walking_next, load_ledto}
use Rattle.fkv_session.specs.Sessions.{SessionState}
use Rattle.fkv_straight.specs.Course.{Course, head_in}
use Rattle.fkv_straight.specs.Met.{Trail, IsTrail, IsInMemory, meeting, walking, judged, IsReached, IsAtHeader, IsAtKey, HasKey}
use Rattle.fkv_straight.specs.Standing.{asked, leads, IsLed, next_try}
use Rattle.fkv_straight.proofs.Moves.{asks_load, led_on, stays, steps}
use Rattle.fkv_straight.proofs.Tests.{Here, here}

-- with the version of the first record that was met
abbrev pub past : Trail → Version → Trail
past trail version = record trail { first = first_met trail.first version }

-- ---- the record's header, and then its key
meets : (c : Course) (trail : Trail) (place entry addr : ℕ) (loading : Loading) (step : Walking) → Here c.seat.places.ring (head_in c) addr
    → judged c (reached c.seat.places (walking c trail place entry loading step) addr) ≡ meeting c trail place entry addr (load.LoadsHeader (record { 0 = addr }))
unfolding walk_ledto walking_ask load_ask passed
meets c trail place entry addr loading step h = rw (h.some, h.above, h.within) refl

pub reached_here : (c : Course) (place entry addr : ℕ) (s : SessionState) → IsReached c place entry addr s → IsInMemory c addr → IsAtHeader c place entry addr s
unfolding IsReached IsAtHeader trying_ask walking_ask load_ask passed
reached_here c place entry addr s at in_memory = (
  at.0,
  at.1,
  stays c (meeting c at.0 place entry addr (load.LoadsHeader (record { 0 = addr }))) s
      (subst (λ (t : TryState). IsLed c t s) (meets c at.0 place entry addr at.2 at.3 (here c.seat.places.ring (head_in c) addr in_memory)) at.4) refl refl,
)

pub header_asks : (c : Course) (place entry addr : ℕ) (s : SessionState) → IsAtHeader c place entry addr s → asked c.seat s ≡ Load (record_place c.seat.places addr rec.Header)
unfolding IsAtHeader trying_ask walking_ask load_ask passed
header_asks c place entry addr s at = asks_load c (meeting c at.0 place entry addr (load.LoadsHeader (record { 0 = addr }))) (record_place c.seat.places addr rec.Header) s at.2 refl

has_header : (c : Course) (trail : Trail) (place entry addr header : ℕ)
    → next_try c (meeting c trail place entry addr (load.LoadsHeader (record { 0 = addr }))) header ≡ meeting c trail place entry addr (load.LoadsKey (record { 0 = addr }) header)
unfolding trying_next walk_ledto walking_ask walking_next load_ledto load_ask load_next load_next_ask passed
has_header c trail place entry addr header = refl

pub header_comes : (c : Course) (place entry addr header : ℕ) (s u : SessionState) → IsAtHeader c place entry addr s → u ≡ leads c.seat s header → IsAtKey c place entry addr header u
unfolding IsAtHeader IsAtKey trying_ask walking_ask load_ask passed
header_comes c place entry addr header s u at e =
    (at.0, at.1, steps c (meeting c at.0 place entry addr (load.LoadsHeader (record { 0 = addr }))) (meeting c at.0 place entry addr (load.LoadsKey (record { 0 = addr }) header)) header s u at.2 e (has_header c at.0 place entry addr header) refl refl)

pub key_asks : (c : Course) (place entry addr header : ℕ) (s : SessionState) → IsAtKey c place entry addr header s → asked c.seat s ≡ Load (record_place c.seat.places addr rec.Key)
unfolding IsAtKey trying_ask walking_ask load_ask passed
key_asks c place entry addr header s at = asks_load c (meeting c at.0 place entry addr (load.LoadsKey (record { 0 = addr }) header)) (record_place c.seat.places addr rec.Key) s at.2 refl

pub key_comes : (c : Course) (place entry addr header key : ℕ) (s u : SessionState) → IsAtKey c place entry addr header s → u ≡ leads c.seat s key → HasKey c place entry addr header key u
unfolding IsAtKey HasKey
key_comes c place entry addr header key s u at e = (at.0, at.1, led_on c (meeting c at.0 place entry addr (load.LoadsKey (record { 0 = addr }) header)) key s u at.2 e)

-- ---- another key's record: on to the one before it
passes_record : (c : Course) (trail : Trail) (place entry addr header key : ℕ) (previous : Addr) (version : Version) → header_said header ≡ Says previous version → nat_lt previous.0 addr ≡ true → (key == (key_of c.op).0) ≡ false
    → next_try c (meeting c trail place entry addr (load.LoadsKey (record { 0 = addr }) header)) key
    ≡ judged c (reached c.seat.places (walking c (past trail version) place entry (load.HasKey (record { 0 = addr }) header key) (Meets (record { 0 = addr }))) previous.0)
unfolding trying_next walking_next load_ledto load_ask load_next load_next_ask
passes_record c trail place entry addr header key previous version said below other = rw (said, below, other) refl

-- the record before it isn't the first one
trail_on : (c : Course) (trail : Trail) (version : Version) (entry addr next : ℕ) → IsTrail c trail entry addr → next < addr → IsTrail c (past trail version) entry next
trail_on c trail version entry addr next its below = record {
  falls = (let h = its.falls in omega (arith, h, below));
  fresh = λ e. absurd (let h = its.falls in omega (arith, h, below, e));
  its_own = its.its_own;
}

pub key_passed : (c : Course) (place entry addr header key : ℕ) (previous : Addr) (version : Version) (s : SessionState) → HasKey c place entry addr header key s → header_said header ≡ Says previous version → previous.0 < addr
    → ¬ (key ≡ (key_of c.op).0) → IsReached c place entry previous.0 s
unfolding HasKey IsReached
key_passed c place entry addr header key previous version s has said below other = (
  past has.0 version,
  trail_on c has.0 version entry addr previous.0 has.1 below,
  load.HasKey (record { 0 = addr }) header key,
  Meets (record { 0 = addr }),
  subst (λ (t : TryState). IsLed c t s) (passes_record c has.0 place entry addr header key previous version said (grind (arith, nat_tests)) (grind (arith, nat_tests))) has.2,
)
