-- How a read ends.
use Rattle.std.proofs.Common.{◌≡◌, ℕ, refl, subst, arith, Bool, true, false, ◌<◌}
use Rattle.std.specs.Prelude.{◌==◌, nat_lt, Option}
use Rattle.std.proofs.lemmas.Bool.Decides.{nat_tests}
use Rattle.fkv_map.specs.Keys.{key_of}
use Rattle.fkv_map.specs.Map.{absent_word}
use Rattle.fkv_plane.specs.declared.asks.Ask.TheVariants.{Load}
use Rattle.fkv_plane.specs.declared.places.RecordWord.TheVariants as rec
use Rattle.fkv_plane.specs.Passing.{passed}
use Rattle.fkv_plane.specs.Places.{record_place}
use Rattle.fkv_log.specs.declared.loading.Loading.{Loading}
use Rattle.fkv_log.specs.declared.loading.Loading.TheVariants as load
use Rattle.fkv_log.specs.Loading.{load_ask, load_next, load_next_ask, load_on}
use Rattle.fkv_ops.specs.declared.answers.TryAnswer.TheVariants as tried
use Rattle.fkv_ops.specs.declared.header_words.HeaderSaid.TheVariants.{Says}
use Rattle.fkv_ops.specs.declared.requests.Occasion.TheVariants.{Call as AtCall}
use Rattle.fkv_ops.specs.declared.trying.Trying.TheVariants.{LoadsAnswer, Ended}
use Rattle.fkv_ops.specs.declared.walking.Walking.{Walking}
use Rattle.fkv_ops.specs.HeaderWords.{header_said, previous_in}
use Rattle.fkv_ops.specs.Requests.{is_read, is_chain_end}
use Rattle.fkv_ops.specs.Trying.{TryState, trying_ask, trying_next, walk_ledto, answer_ledto, ends, ends_so}
use Rattle.fkv_ops.specs.Walking.{reached, walking_ask, walking_next, load_ledto, value_ledto, walking_on}
use Rattle.fkv_session.specs.declared.answers.Told.TheVariants as told
use Rattle.fkv_session.specs.Sessions.{SessionState}
use Rattle.fkv_straight.specs.declared.searching.Record.{Record}
use Rattle.fkv_straight.specs.Course.{Course, shares, head_in, floor_in}
use Rattle.fkv_straight.specs.Met.{Trail, meeting, holding, walking, judged, IsReached, HasKey, IsMet, IsAtAnswer}
use Rattle.fkv_straight.specs.Standing.{asked, leads, IsLed, next_try, IsEnded}
use Rattle.fkv_straight.proofs.Moves.{asks_load, led_on, stays, ends_found, ends_absent}
use Rattle.fkv_straight.proofs.Tests.{same}
use Rattle.fkv_straight.proofs.Walks.{past}
use Rattle.fkv_ops.specs.declared.bounds.Bounds.{Bounds}
use Rattle.fkv_ops.proofs.Shown.{ends_there}

-- ---- the record was met: its value is loaded
reads_on : (c : Course) (trail : Trail) (r : Record) → header_said r.header ≡ Says (record { 0 = previous_in r.header }) (record { 0 = r.mark }) → nat_lt (previous_in r.header) r.addr ≡ true → ((key_of c.op).0 == (key_of c.op).0) ≡ true
    → shares c ≡ false → is_read c.op ≡ true
    → next_try c (meeting c trail r.place r.entry r.addr (load.LoadsKey (record { 0 = r.addr }) r.header)) (key_of c.op).0 ≡ holding c (past trail (record { 0 = r.mark })) r LoadsAnswer
unfolding trying_next walk_ledto walking_ask walking_next load_ledto load_ask load_next load_next_ask load_on walking_on passed
reads_on c trail r said below mine calm reads = rw (said, below, mine, calm, reads) refl

met_answers : (c : Course) (r : Record) (s : SessionState) → IsMet c r s → shares c ≡ false → is_read c.op ≡ true → IsAtAnswer c r s
unfolding HasKey IsAtAnswer trying_ask walking_ask load_ask passed
met_answers c r s met calm reads =
    let below : nat_lt (previous_in r.header) r.addr ≡ true = (let h = met.below in grind (arith, nat_tests)) in
    let has = met.key in (
      past has.0 (record { 0 = r.mark }),
      stays c (holding c (past has.0 (record { 0 = r.mark })) r LoadsAnswer) s
          (subst (λ (t : TryState). IsLed c t s) (reads_on c has.0 r met.said below (same (key_of c.op).0) calm reads) has.2) refl refl,
    )

pub answer_asks : (c : Course) (r : Record) (s : SessionState) → IsMet c r s → shares c ≡ false → is_read c.op ≡ true → asked c.seat s ≡ Load (record_place c.seat.places r.addr rec.Value)
unfolding IsAtAnswer trying_ask walking_ask load_ask passed
answer_asks c r s met calm reads =
    let at = met_answers c r s met calm reads in
    asks_load c (holding c at.0 r LoadsAnswer) (record_place c.seat.places r.addr rec.Value) s at.1 refl

-- ---- the value has come
finds : (c : Course) (trail : Trail) (r : Record) (value : ℕ) → shares c ≡ false → (value == absent_word) ≡ false → (next_try c (holding c trail r LoadsAnswer) value).step ≡ Ended (tried.Found (record { 0 = value }))
unfolding trying_next walking_ask walking_next load_ask load_next load_next_ask value_ledto answer_ledto ends ends_so passed
finds c trail r value calm some = rw (some, calm) refl

finds_none : (c : Course) (trail : Trail) (r : Record) (value : ℕ) → shares c ≡ false → (value == absent_word) ≡ true → (next_try c (holding c trail r LoadsAnswer) value).step ≡ Ended tried.Absent
unfolding trying_next walking_ask walking_next load_ask load_next load_next_ask value_ledto answer_ledto ends ends_so passed
finds_none c trail r value calm none = rw (none, calm) refl

spares_by : (c : Course) (trail : Trail) (r : Record) (value : ℕ) (b : Bool) → (value == absent_word) ≡ b → shares c ≡ false → (next_try c (holding c trail r LoadsAnswer) value).spare ≡ c.lasts.spare
unfolding trying_next walking_ask walking_next load_ask load_next load_next_ask value_ledto answer_ledto ends ends_so passed
spares_by c trail r value true e calm = rw (e, calm) refl
spares_by c trail r value false e calm = rw (e, calm) refl

spares : (c : Course) (trail : Trail) (r : Record) (value : ℕ) → shares c ≡ false → (next_try c (holding c trail r LoadsAnswer) value).spare ≡ c.lasts.spare
spares c trail r value calm = spares_by c trail r value (value == absent_word) refl calm

pub found_ends : {bounds : Option Bounds} (c : Course) (r : Record) (value : ℕ) (s u : SessionState) → c.occasion ≡ AtCall bounds → IsMet c r s → shares c ≡ false → is_read c.op ≡ true → u ≡ leads c.seat s value → ¬ (value ≡ absent_word) → IsEnded c.lasts (told.Found (record { 0 = value })) u
unfolding IsAtAnswer
found_ends c r value s u calls met calm reads e some =
    let at = met_answers c r s met calm reads in
    ends_found c (next_try c (holding c at.0 r LoadsAnswer) value) (record { 0 = value }) u calls (led_on c (holding c at.0 r LoadsAnswer) value s u at.1 e) (finds c at.0 r value calm (grind (arith, nat_tests))) (spares c at.0 r value calm)

pub absent_ends : {bounds : Option Bounds} (c : Course) (r : Record) (value : ℕ) (s u : SessionState) → c.occasion ≡ AtCall bounds → IsMet c r s → shares c ≡ false → is_read c.op ≡ true → u ≡ leads c.seat s value → value ≡ absent_word → IsEnded c.lasts told.Absent u
unfolding IsAtAnswer
absent_ends c r value s u calls met calm reads e none =
    let at = met_answers c r s met calm reads in
    ends_absent c (next_try c (holding c at.0 r LoadsAnswer) value) u calls (led_on c (holding c at.0 r LoadsAnswer) value s u at.1 e) (finds_none c at.0 r value calm (grind (arith, nat_tests))) (spares c at.0 r value calm)

-- ---- the chain ends
ends_chain : (c : Course) (trail : Trail) (place entry : ℕ) (loading : Loading) (step : Walking) → shares c ≡ false → is_read c.op ≡ true
    → (judged c (reached c.seat.places (walking c trail place entry loading step) 0)).step ≡ Ended tried.Absent
unfolding walk_ledto walking_ask ends ends_so
ends_chain c trail place entry loading step calm reads = rw (calm, reads) refl

chain_spares : (c : Course) (trail : Trail) (place entry : ℕ) (loading : Loading) (step : Walking) → shares c ≡ false → is_read c.op ≡ true
    → (judged c (reached c.seat.places (walking c trail place entry loading step) 0)).spare ≡ c.lasts.spare
unfolding walk_ledto walking_ask ends ends_so
chain_spares c trail place entry loading step calm reads = rw (calm, reads) refl

pub nowhere_ends : {bounds : Option Bounds} (c : Course) (place entry : ℕ) (s : SessionState) → c.occasion ≡ AtCall bounds → IsReached c place entry 0 s → shares c ≡ false → is_read c.op ≡ true → IsEnded c.lasts told.Absent s
unfolding IsReached
nowhere_ends c place entry s calls at calm reads =
    ends_absent c (judged c (reached c.seat.places (walking c at.0 place entry at.2 at.3) 0)) s calls at.4 (ends_chain c at.0 place entry at.2 at.3 calm reads) (chain_spares c at.0 place entry at.2 at.3 calm reads)

-- or leads below the floor
ends_below : (c : Course) (trail : Trail) (place entry addr : ℕ) (loading : Loading) (step : Walking) → (addr == 0) ≡ false → nat_lt addr (head_in c) ≡ true → is_chain_end c.lasts.floor (record { 0 = addr }) ≡ true → shares c ≡ false → is_read c.op ≡ true
    → (judged c (reached c.seat.places (walking c trail place entry loading step) addr)).step ≡ Ended tried.Absent
unfolding walk_ledto walking_ask ends ends_so
ends_below c trail place entry addr loading step some low below calm reads = rw (some, low, calm, reads, below) refl

below_spares : (c : Course) (trail : Trail) (place entry addr : ℕ) (loading : Loading) (step : Walking) → (addr == 0) ≡ false → nat_lt addr (head_in c) ≡ true → is_chain_end c.lasts.floor (record { 0 = addr }) ≡ true → shares c ≡ false → is_read c.op ≡ true
    → (judged c (reached c.seat.places (walking c trail place entry loading step) addr)).spare ≡ c.lasts.spare
unfolding walk_ledto walking_ask ends ends_so
below_spares c trail place entry addr loading step some low below calm reads = rw (some, low, calm, reads, below) refl

pub below_ends : {bounds : Option Bounds} (c : Course) (place entry addr : ℕ) (s : SessionState) → c.occasion ≡ AtCall bounds → 0 < addr → addr < head_in c → addr < floor_in c → IsReached c place entry addr s → shares c ≡ false → is_read c.op ≡ true
    → IsEnded c.lasts told.Absent s
unfolding IsReached
below_ends c place entry addr s calls some low below at calm reads =
    let is_some : (addr == 0) ≡ false = grind (arith, nat_tests, some) in
    let is_low : nat_lt addr (head_in c) ≡ true = grind (arith, nat_tests, low) in
    let is_end = ends_there c.lasts.floor (record { 0 = addr }) below in
    ends_absent c (judged c (reached c.seat.places (walking c at.0 place entry at.2 at.3) addr)) s calls at.4 (ends_below c at.0 place entry addr at.2 at.3 is_some is_low is_end calm reads) (below_spares c at.0 place entry addr at.2 at.3 is_some is_low is_end calm reads)
