-- A machine asks or calls the device just where it has some left, and each reply and each call leaves fewer.
use Rattle.std.proofs.Common.{◌≡◌, ℕ, ◌+◌, ◌-◌, ◌*◌, ◌/◌, ◌<◌, ◌≤◌, ◌^◌, List, refl, arith, Bool, true, false}
use Rattle.std.proofs.Common.{Ok, Err}
use Rattle.std.specs.Prelude.{nat_lt, ◌==◌, ◌&&◌, if◌then◌else◌, min, OnErr}
use Rattle.std.specs.declared.result.Result.{Result}
use Rattle.std.proofs.lemmas.Bool.Decides.{nat_tests}
use Rattle.std.proofs.Math.Nat.{lt-div-mul-add}
use Rattle.fkv_plane.specs.declared.asks.Ask.{Ask}
use Rattle.fkv_plane.specs.declared.places.Places.{Places}
use Rattle.fkv_plane.specs.declared.places.RecordWord.TheVariants as rec
use Rattle.fkv_flush.specs.declared.answers.DeviceAnswer.{DeviceAnswer}
use Rattle.fkv_flush.specs.declared.flushing.Part.{Part}
use Rattle.fkv_flush.specs.declared.flushing.Flushing.{Flushing}
use Rattle.fkv_flush.specs.declared.flushing.Flushing.TheVariants.{AtRest, LoadsFlushed, LoadsEnd, LoadsWord, WritesPart, Syncs, RaisesFlushed}
use Rattle.fkv_flush.specs.declared.serving.Serving.{Serving}
use Rattle.fkv_flush.specs.declared.serving.Serving.TheVariants as serve
use Rattle.fkv_flush.specs.Devices.{calls_asked}
use Rattle.fkv_flush.specs.Flushing.{flush_ask, flush_next, flush_done, part_begun}
use Rattle.fkv_flush.specs.Serving.{serve_ask, serve_next, serve_read, gone_mail, mailbox_from, asked_state}
use Rattle.fkv_flush.specs.AsksLeft.{GoesOnWhereLeft, asks_behind, flush_asks_left, most_flush_asks, EndsWithin, serve_asks_left, most_serve_asks}

never : {X : Type 0} → true ≡ false → X
never e = cc

none : {X : Type 0} → 0 < 0 → X
none h = let no : ⊥ = omega (arith, h) in absurd no

-- one call was asked for, where none was
no_call : {X : Type 0} → ◌≡◌ {A = ℕ} 1 0 → X
no_call e = let no : ⊥ = omega (arith, e) in absurd no

pub flush_left : (places : Places) (step : Flushing) → GoesOnWhereLeft (flush_asks_left step) (flush_ask places step)
unfolding flush_ask flush_asks_left
flush_left places AtRest = (never, none)
flush_left places LoadsFlushed = (λ asks. omega arith, λ some. refl)
flush_left places (LoadsEnd flushed) = (λ asks. omega arith, λ some. refl)
flush_left places (LoadsWord part addr word) = (λ asks. omega arith, λ some. refl)
flush_left places (WritesPart part) = (λ asks. omega arith, λ some. refl)
flush_left places (Syncs end) = (λ asks. omega arith, λ some. refl)
flush_left places (RaisesFlushed end) = (λ asks. omega arith, λ some. refl)

pub flush_most : flush_asks_left LoadsFlushed ≤ most_flush_asks
unfolding flush_asks_left
flush_most = omega arith

-- a part that begins, where there is something to flush
part_left : (page from end : ℕ) → 0 < page → from < end → flush_asks_left (part_begun page from end) < 4 * (end - from) + 3
unfolding flush_asks_left
part_left page from end some below =
    let over : from < from / page * page + page = lt-div-mul-add some in
    let next : (from / page + 1) * page ≡ from / page * page + page = omega arith in
    within (min end ((from / page + 1) * page)) (grind (arith, next, over, below)) (grind arith)
  where
    within : (stop : ℕ) → from < stop → stop ≤ end → 3 - 0 + 3 * (stop - (from + 1)) + 1 + (4 * (end - stop) + 2) < 4 * (end - from) + 3
    within stop more fits = omega (arith, more, fits, below)

end_left : (page flushed end : ℕ) (lower fits : Bool) → nat_lt flushed end ≡ lower → nat_lt end (2 ^ 48) ≡ fits → 0 < page
    → flush_asks_left (if lower && fits then part_begun page flushed end else AtRest) < 4 * (end - flushed) + 3
unfolding flush_asks_left
end_left page flushed end true true below fits some = part_left page flushed end some (let e : flushed < end = grind (arith, nat_tests, below) in e)
end_left page flushed end true false below fits some = omega arith
end_left page flushed end false true below fits some = omega arith
end_left page flushed end false false below fits some = omega arith

record_left : (part : Part) (addr : ℕ) (more : Bool) → nat_lt (addr + 1) part.stop ≡ more
    → flush_asks_left (if more then LoadsWord part (addr + 1) rec.Header else WritesPart part) ≤ 3 * (part.stop - (addr + 1)) + 1 + asks_behind part
unfolding flush_asks_left
record_left part addr true e = let h : addr + 1 < part.stop = grind (arith, nat_tests, e) in omega (arith, h)
record_left part addr false e = omega arith

-- a reply leaves fewer, where none of its own calls of the device is awaited
pub flush_fewer : (places : Places) (page : ℕ) (step : Flushing) (reply : ℕ) → 0 < page → calls_asked (flush_ask places step) ≡ 0 → flush_asks_left (flush_next page step reply) ≤ flush_asks_left step - 1
unfolding flush_ask flush_next flush_asks_left
flush_fewer places page AtRest reply some calls = omega arith
flush_fewer places page LoadsFlushed reply some calls = omega arith
flush_fewer places page (LoadsEnd flushed) reply some calls = let left = tested (nat_lt flushed reply) (nat_lt reply (2 ^ 48)) refl refl in omega (arith, left)
  where
    tested : (lower fits : Bool) → nat_lt flushed reply ≡ lower → nat_lt reply (2 ^ 48) ≡ fits
        → flush_asks_left (if lower && fits then part_begun page flushed reply else AtRest) ≤ 4 * (2 ^ 48 - flushed) + 2
    tested true true below fits =
        let left = part_left page flushed reply some (let e : flushed < reply = grind (arith, nat_tests, below) in e) in
        let small : reply < 2 ^ 48 = grind (arith, nat_tests, fits) in
        omega (arith, left, small)
    tested true false below fits = omega arith
    tested false true below fits = omega arith
    tested false false below fits = omega arith
flush_fewer places page (LoadsWord part addr rec.Header) reply some calls = omega arith
flush_fewer places page (LoadsWord part addr rec.Key) reply some calls = omega arith
flush_fewer places page (LoadsWord part addr rec.Value) reply some calls = let left = record_left part addr (nat_lt (addr + 1) part.stop) refl in omega (arith, left)
flush_fewer places page (WritesPart part) reply some calls = no_call calls
flush_fewer places page (Syncs end) reply some calls = no_call calls
flush_fewer places page (RaisesFlushed end) reply some calls = omega arith

-- the end that is loaded
pub flush_ends : (page : ℕ) (step : Flushing) (reply : ℕ) → 0 < page → EndsWithin step reply (flush_next page step reply)
unfolding flush_next
flush_ends page step reply some flushed at = rw at (end_left page flushed reply (nat_lt flushed reply) (nat_lt reply (2 ^ 48)) refl refl some)

-- a call leaves fewer, and where none is made as many are left
pub flush_done_fewer : (places : Places) (page : ℕ) (step : Flushing) (done : Bool) → 0 < page → flush_asks_left (flush_done page step done) ≤ flush_asks_left step - calls_asked (flush_ask places step)
unfolding flush_ask flush_done flush_asks_left
flush_done_fewer places page (WritesPart part) true some = let left = tested (nat_lt part.stop part.end) refl in omega (arith, left)
  where
    tested : (b : Bool) → nat_lt part.stop part.end ≡ b → flush_asks_left (if b then part_begun page part.stop part.end else Syncs part.end) ≤ asks_behind part
    tested true e =
        let left = part_left page part.stop part.end some (let below : part.stop < part.end = grind (arith, nat_tests, e) in below) in
        omega (arith, left)
    tested false e = omega arith
flush_done_fewer places page (WritesPart part) false some = omega arith
flush_done_fewer places page (Syncs end) true some = omega arith
flush_done_fewer places page (Syncs end) false some = omega arith
flush_done_fewer places page step done some = omega arith

-- and one that failed leaves none
pub flush_failed_none : (places : Places) (page : ℕ) (step : Flushing) → 0 < calls_asked (flush_ask places step) → flush_asks_left (flush_done page step false) ≡ 0
unfolding flush_ask flush_done flush_asks_left
flush_failed_none places page (WritesPart part) some = refl
flush_failed_none places page (Syncs end) some = refl
flush_failed_none places page step some = none some

pub serve_left : (sessions : ℕ) (step : Serving) → GoesOnWhereLeft (serve_asks_left sessions step) (serve_ask step)
unfolding serve_ask serve_asks_left
serve_left sessions serve.AtRest = (never, none)
serve_left sessions step = (λ asks. omega arith, λ some. refl)

mailbox_left : (sessions session : ℕ) → serve_asks_left sessions (mailbox_from sessions session) ≤ 7 * (sessions - session)
unfolding mailbox_from serve_asks_left
mailbox_left sessions session = tested (nat_lt session sessions) refl
  where
    tested : (b : Bool) → nat_lt session sessions ≡ b → serve_asks_left sessions (if b then serve.LoadsState session else serve.AtRest) ≤ 7 * (sessions - session)
    tested true e = let h : session < sessions = grind (arith, nat_tests, e) in omega (arith, h)
    tested false e = omega arith

-- from the first mailbox on
pub serve_begun_left : (sessions : ℕ) → serve_asks_left sessions (mailbox_from sessions 0) ≤ most_serve_asks sessions
serve_begun_left sessions = let left = mailbox_left sessions 0 in omega (arith, left)

pub serve_fewer : (sessions begin : ℕ) (step : Serving) (reply : ℕ) → calls_asked (serve_ask step) ≡ 0 → serve_asks_left sessions (serve_next sessions begin step reply) ≤ serve_asks_left sessions step - 1
unfolding serve_ask serve_next serve_asks_left
serve_fewer sessions begin serve.AtRest reply calls = omega arith
serve_fewer sessions begin (serve.LoadsState session) reply calls = let left = tested (reply == asked_state) in omega (arith, left)
  where
    tested : (b : Bool) → serve_asks_left sessions (if b then serve.LoadsAddress session else mailbox_from sessions (session + 1)) ≤ 7 * (sessions - (session + 1)) + 6
    tested true = omega arith
    tested false = let left = mailbox_left sessions (session + 1) in omega (arith, left)
serve_fewer sessions begin (serve.LoadsAddress session) reply calls = let left = tested (nat_lt reply begin) (nat_lt reply (2 ^ 48)) in omega (arith, left)
  where
    tested : (gone b : Bool)
        → serve_asks_left sessions (if gone then serve.StoresHeader session (gone_mail begin) else (if b then serve.Reads session reply else mailbox_from sessions (session + 1))) ≤ 7 * (sessions - (session + 1)) + 5
    tested true b = omega arith
    tested false true = omega arith
    tested false false = let left = mailbox_left sessions (session + 1) in omega (arith, left)
serve_fewer sessions begin (serve.Reads session addr) reply calls = no_call calls
serve_fewer sessions begin (serve.StoresHeader session mail) reply calls = omega arith
serve_fewer sessions begin (serve.StoresKey session mail) reply calls = omega arith
serve_fewer sessions begin (serve.StoresValue session mail) reply calls = omega arith
serve_fewer sessions begin (serve.StoresReady session) reply calls = let left = mailbox_left sessions (session + 1) in omega (arith, left)

pub serve_read_fewer : (sessions : ℕ) (step : Serving) (bytes : List ℕ) → serve_asks_left sessions (serve_read step bytes) ≤ serve_asks_left sessions step - calls_asked (serve_ask step)
unfolding serve_ask serve_read serve_asks_left
serve_read_fewer sessions (serve.Reads session addr) bytes = omega arith
serve_read_fewer sessions step bytes = omega arith

-- what a machine's own ask is
pub flush_asked : (places : Places) (step : Flushing) (ask : Ask DeviceAnswer) → ask ≡ flush_ask places step → GoesOnWhereLeft (flush_asks_left step) ask
flush_asked places step ask e = rw e (flush_left places step)

pub serve_asked : (sessions : ℕ) (step : Serving) (ask : Ask DeviceAnswer) → ask ≡ serve_ask step → GoesOnWhereLeft (serve_asks_left sessions step) ask
serve_asked sessions step ask e = rw e (serve_left sessions step)

pub serve_none : (sessions : ℕ) → serve_asks_left sessions serve.AtRest ≡ 0
unfolding serve_asks_left
serve_none sessions = refl

-- what holds anyway holds of an error
pub on_err : {A : Type 0} {E : Type 0} {P : Type 0} (r : Result A E) → P → OnErr r P
on_err (Ok its) holds = tt
on_err (Err its) holds = holds
