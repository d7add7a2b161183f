-- How many calls begin by a beat, by a group and by a finish.
use Rattle.std.proofs.Common.{◌≡◌, ◌≤◌, ◌<◌, ◌+◌, ◌*◌, ℕ, zero, suc, List, [], ◌∷◌, ◌++◌, Bool, true, false, ap, arith, cond, length, refl}
use Rattle.std.specs.Prelude.{Option, Some, None, filter, nat_eq, slice_get, slice_set}
use Rattle.std.proofs.lemmas.Bool.Decides.{nat_tests}
use Rattle.std.proofs.lemmas.List.{length-append}
use Rattle.fkv_base.specs.Limits.{max_sessions}
use Rattle.fkv_epoch.proofs.Shown.{some_same}
use Rattle.law_order.specs.Below.fkv_opening.TheOpened.{Opened}
use Rattle.fkv_runs.specs.Below.fkv_playing.Finishes.{calls_of_seat, calls_of_seats, most_rounds, round_of, rounds}
use Rattle.fkv_runs.specs.Below.fkv_playing.Groups.{queues_behind}
use Rattle.fkv_runs.specs.Below.fkv_playing.Players.{PlayerState}
use Rattle.fkv_runs.specs.Below.fkv_playing.Queues.{AreQueuesOf, QueueState, held, held_by, is_of, queue_behind, rank_of, step_of}
use Rattle.fkv_runs.specs.Below.fkv_playing.Seats.{SeatState}
use Rattle.fkv_runs.specs.Below.fkv_playing.ActorCall.{ActorCall}
use Rattle.fkv_runs.specs.Below.fkv_playing.ActorCall.TheVariants.{Commit, Session, Trim, Turn}
use Rattle.fkv_runs.specs.Below.fkv_playing.Outcome.{Outcome}
use Rattle.fkv_runs.specs.Below.fkv_playing.Outcome.TheVariants.{GoesOn}
use Rattle.fkv_runs.specs.Below.fkv_playing.Stage.{Stage}
use Rattle.fkv_runs.specs.Below.fkv_playing.Stage.TheVariants as stage
use Rattle.fkv_runs.specs.Below.fkv_playing.Telling.{Telling}
use Rattle.law_order.specs.Below.fkv_world.World.{Calls, Event, Now}
use Rattle.law_order.specs.Tickets.Few.{calls_in}
use Rattle.law_program.specs.PlayedCalls.EachLine.{ArePlayedInLife, IsCalledAlone}
use Rattle.law_program.specs.PlayedCalls.FewCalls.{left_in, most_of_finish}
use Rattle.law_program.proofs.OfPlayedCalls.EachLine.{begun_counted, calls_counted}
use Rattle.law_program.proofs.OfPlayedCalls.Led.{IsEventAt}

-- ---- a beat
-- a call begins by the first beat alone
abbrev pub begun_at : Stage → ℕ
begun_at stage.Begins = 1
begun_at stage.Moves = 0

pub event_counted : (at : Stage) (its : ActorCall) (event : Event) (life : List Event) → IsEventAt at its event → calls_in (event ∷ life) ≤ calls_in life + begun_at at
event_counted stage.Begins (Session number asked) event life is = let same = ap (λ (x : Event). calls_in (x ∷ life)) is in omega (arith, same)
event_counted stage.Begins (Commit kind) event life is = let same = ap (λ (x : Event). calls_in (x ∷ life)) is in omega (arith, same)
event_counted stage.Begins Trim event life is = let same = ap (λ (x : Event). calls_in (x ∷ life)) is in omega (arith, same)
event_counted stage.Begins Turn event life is = let same = ap (λ (x : Event). calls_in (x ∷ life)) is in omega (arith, same)
event_counted stage.Moves (Session number asked) event life is = let same = ap (λ (x : Event). calls_in (x ∷ life)) is in omega (arith, same)
event_counted stage.Moves (Commit kind) event life is = let same = ap (λ (x : Event). calls_in (x ∷ life)) is.2 in omega (arith, same)
event_counted stage.Moves Trim event life is = let same = ap (λ (x : Event). calls_in (x ∷ life)) is.2 in omega (arith, same)
event_counted stage.Moves Turn event life is = let same = ap (λ (x : Event). calls_in (x ∷ life)) is.2 in omega (arith, same)

-- a life that has gone on has no fewer
more_begun : (since life : List Event) → calls_in life ≤ calls_in (since ++ life)
more_begun [] life = omega arith
more_begun (Calls number asked ∷ since) life = let rest = more_begun since life in omega (arith, rest)
more_begun (event ∷ since) life = more_begun since life

pub calls_grow : (since life later : List Event) → later ≡ since ++ life → calls_in life ≤ calls_in later
calls_grow since life later grown = let more = more_begun since life in let same = ap calls_in grown in omega (arith, more, same)

-- ---- the queues of a group
-- the stage of a queue's next step
stage_same : (one other : ActorCall) (here there : Stage) → ◌≡◌ {A = Option (ActorCall × Stage)} (Some (one, here)) (Some (other, there)) → here ≡ there
stage_same one other here there e = ap (λ (x : ActorCall × Stage). x.1) (some_same (one, here) (other, there) e)

-- what is left behind a step
step_left : (rank : ℕ) (hand : Option ActorCall) (left : List ActorCall) (call : ActorCall) (at : Stage) (its : QueueState) → its ≡ held_by rank hand left → step_of hand left ≡ Some (call, at) → length its.left + begun_at at ≡ length left
step_left rank (Some other) left call at its is e =
    let many = ap (λ (x : QueueState). length x.left) is in
    let none = ap begun_at (stage_same other call stage.Moves at e) in
    omega (arith, many, none)
step_left rank None [] call at its is e = cc
step_left rank None (other ∷ later) call at its is e =
    let many = ap (λ (x : QueueState). length x.left) is in
    let one = ap begun_at (stage_same other call stage.Begins at e) in
    omega (arith, many, one)

behind_left : (outcome : Outcome) (queue : QueueState) → (queue_behind outcome queue).left ≡ queue.left
behind_left GoesOn queue = refl
behind_left other queue = refl

left_set : (queues : List QueueState) (at : ℕ) (was now : QueueState) → slice_get queues at ≡ Some was → left_in (slice_set queues at now) + length was.left ≡ left_in queues + length now.left
left_set [] at was now found = cc
left_set (x ∷ rest) zero was now found = let many = ap (λ (y : QueueState). length y.left) (some_same x was found) in omega (arith, many)
left_set (x ∷ rest) (suc at) was now found = let later = left_set rest at was now found in omega (arith, later)

-- a pick leaves as many fewer as it begins
pub pick_counted : (queues : List QueueState) (at : ℕ) (queue : QueueState) (call : ActorCall) (its : Stage) (outcome : Outcome) → slice_get queues at ≡ Some queue → step_of queue.hand queue.left ≡ Some (call, its)
    → left_in (slice_set queues at (queue_behind outcome (held queue))) + begun_at its ≡ left_in queues
pick_counted queues at queue call its outcome found step =
    let set = left_set queues at queue (queue_behind outcome (held queue)) found in
    let behind = ap length (behind_left outcome (held queue)) in
    let left = step_left queue.rank queue.hand queue.left call its (held queue) refl step in
    omega (arith, set, behind, left)

pub left_given_up : (struck : Bool) (queues : List QueueState) → left_in (queues_behind struck queues) ≡ left_in queues
left_given_up false queues = refl
left_given_up true [] = refl
left_given_up true (x ∷ rest) = ap (λ (n : ℕ). length x.left + n) (left_given_up true rest)

-- ---- each call of a group stands in one queue
abbrev of_ranks : List ActorCall → List QueueState → ℕ
of_ranks calls [] = 0
of_ranks calls (queue ∷ others) = length (filter (is_of queue.rank) calls) + of_ranks calls others

abbrev with_rank : ℕ → List QueueState → ℕ
with_rank rank [] = 0
with_rank rank (queue ∷ others) = cond (nat_eq rank queue.rank) 1 0 + with_rank rank others

none_of_ranks : (queues : List QueueState) → of_ranks [] queues ≡ 0
none_of_ranks [] = refl
none_of_ranks (queue ∷ others) = let rest = none_of_ranks others in omega (arith, rest)

filter_one : (is : Bool) (call : ActorCall) (rest : List ActorCall) → length (cond is (call ∷ rest) rest) ≡ cond is 1 0 + length rest
filter_one true call rest = omega arith
filter_one false call rest = omega arith

one_more : (call : ActorCall) (later : List ActorCall) (queues : List QueueState) → of_ranks (call ∷ later) queues ≡ with_rank (rank_of call) queues + of_ranks later queues
one_more call later [] = omega arith
one_more call later (queue ∷ others) =
    let here : length (filter (is_of queue.rank) (call ∷ later)) ≡ cond (nat_eq (rank_of call) queue.rank) 1 0 + length (filter (is_of queue.rank) later)
    = filter_one (is_of queue.rank call) call (filter (is_of queue.rank) later) in
    let there = one_more call later others in
    omega (arith, here, there)

abbrev AreRising : List QueueState → Type 0
AreRising queues = (lower upper : ℕ) (a b : QueueState) → lower < upper → slice_get queues lower ≡ Some a → slice_get queues upper ≡ Some b → a.rank < b.rank

none_above : (rank : ℕ) (queues : List QueueState) → ((at : ℕ) (queue : QueueState) → slice_get queues at ≡ Some queue → rank < queue.rank) → with_rank rank queues ≡ 0
none_above rank [] above = refl
none_above rank (queue ∷ others) above =
    let higher = above 0 queue refl in
    let apart : nat_eq rank queue.rank ≡ false = grind (arith, nat_tests, higher) in
    let here = ap {B = ℕ} (λ (x : Bool). cond x 1 0) apart in
    let there = none_above rank others (λ at other found. above (suc at) other found) in
    omega (arith, here, there)

one_queue : (rank : ℕ) (queues : List QueueState) → AreRising queues → with_rank rank queues ≤ 1
one_queue rank [] rising = omega arith
one_queue rank (queue ∷ others) rising =
    by_test (nat_eq rank queue.rank) refl (one_queue rank others (λ lower upper a b under one other. rising (suc lower) (suc upper) a b (omega (arith, under)) one other))
  where
    by_test : (is : Bool) → nat_eq rank queue.rank ≡ is → with_rank rank others ≤ 1 → cond (nat_eq rank queue.rank) 1 0 + with_rank rank others ≤ 1
    by_test true e few =
        let same : rank ≡ queue.rank = grind (arith, nat_tests, e) in
        let here = ap {B = ℕ} (λ (x : Bool). cond x 1 0) e in
        let there = none_above rank others (λ at other found. let higher = rising 0 (suc at) queue other (omega arith) refl found in omega (arith, higher, same)) in
        omega (arith, here, there)
    by_test false e few = let here = ap {B = ℕ} (λ (x : Bool). cond x 1 0) e in omega (arith, here, few)

all_once : (calls : List ActorCall) (queues : List QueueState) → AreRising queues → of_ranks calls queues ≤ length calls
all_once [] queues rising = let none = none_of_ranks queues in omega (arith, none)
all_once (call ∷ later) queues rising =
    let more = one_more call later queues in
    let one = one_queue (rank_of call) queues rising in
    let rest = all_once later queues rising in
    omega (arith, more, one, rest)

by_ranks : (calls : List ActorCall) (queues : List QueueState) → ((at : ℕ) (queue : QueueState) → slice_get queues at ≡ Some queue → queue.left ≡ filter (is_of queue.rank) calls) → left_in queues ≡ of_ranks calls queues
by_ranks calls [] each = refl
by_ranks calls (queue ∷ others) each =
    let here = ap length (each 0 queue refl) in
    let there = by_ranks calls others (λ at other found. each (suc at) other found) in
    omega (arith, here, there)

pub queues_counted : (calls : List ActorCall) (queues : List QueueState) → AreQueuesOf calls queues → left_in queues ≤ length calls
queues_counted calls queues are =
    let same = by_ranks calls queues are.each in
    let once = all_once calls queues are.rising in
    omega (arith, same, once)

-- ---- a finish
seat_counted : (number : ℕ) (awake : Bool) → length (calls_of_seat number awake) ≤ 2
seat_counted number true = omega arith
seat_counted number false = omega arith

seats_counted : (number : ℕ) (seats : List SeatState) → length (calls_of_seats number seats) ≤ 2 * length seats
seats_counted number [] = omega arith
seats_counted number (seat ∷ later) =
    let both = length-append (calls_of_seat number seat.is_awake) (calls_of_seats (suc number) later) in
    let here = seat_counted number seat.is_awake in
    let there = seats_counted (suc number) later in
    omega (arith, both, here, there)

round_counted : (seats : List SeatState) → length (round_of seats) ≤ 2 * length seats + 1
round_counted seats =
    let both = length-append (calls_of_seats 0 seats) (Turn ∷ []) in
    let sessions = seats_counted 0 seats in
    omega (arith, both, sessions)

rounds_counted : (count most : ℕ) (round : List ActorCall) → length round ≤ most → length (rounds count round) ≤ count * most
rounds_counted zero most round few = omega arith
rounds_counted (suc count) most round few =
    let both = length-append (rounds count round) round in
    let rest = rounds_counted count most round few in
    omega (arith, both, rest, few)

pub finish_counted : (seats : List SeatState) → length seats ≤ max_sessions → length (rounds most_rounds (round_of seats)) ≤ most_of_finish
finish_counted seats few = let round = round_counted seats in rounds_counted most_rounds (2 * max_sessions + 1) (round_of seats) (omega (arith, round, few))

-- ---- in a life
pub alone_counted : (its : ActorCall) (life later : List Event) → IsCalledAlone its life later → calls_in later ≤ calls_in life + 1
alone_counted its life later alone =
    let same = ap calls_in alone.so in
    let moves = calls_counted its alone.moves life alone.are_moves in
    let one = begun_counted its life in
    omega (arith, same, moves, one)

pub all_counted : {D : Type 0} (seen : D → List ℕ) (may_leave : D → List ℕ → Type 0) (telling : Telling) (calls : List ActorCall) (bytes : List ℕ) (o : Opened) (first : Now) (life later : List Event) (before after : PlayerState D) (text : List ℕ)
    → ArePlayedInLife seen may_leave telling calls bytes o first life later before after text → calls_in later ≤ calls_in life + length calls
all_counted seen may_leave telling [] bytes o first life later before after text played = let same = ap calls_in played.0 in omega (arith, same)
all_counted seen may_leave telling (its ∷ rest) bytes o first life later before after text played =
    let one = played.4 in
    let here = alone_counted its life played.0 one.alone in
    let there = all_counted seen may_leave telling rest bytes o first played.0 later played.1 after played.3 played.5 in
    omega (arith, here, there)
