-- The wait for the flush and the end of a commit ask just where asks are left to them, and each reply leaves fewer.
use Rattle.std.proofs.Common.{◌≡◌, ℕ, ◌+◌, ◌-◌, ◌<◌, ◌≤◌, refl, arith, Bool, true, false, List}
use Rattle.std.specs.Prelude.{nat_lt, nat_le, if◌then◌else◌}
use Rattle.std.proofs.lemmas.Bool.Decides.{nat_tests}
use Rattle.fkv_base.specs.declared.numbers.Addr.{Addr}
use Rattle.fkv_base.specs.declared.numbers.Serial.{Serial}
use Rattle.fkv_base.specs.declared.numbers.Version.{Version}
use Rattle.fkv_commit.specs.declared.waiting.Waiting.{Waiting}
use Rattle.fkv_commit.specs.declared.waiting.Waiting.TheVariants as wait
use Rattle.fkv_commit.specs.declared.waiting.WaitAnswer.TheVariants.{NotYet, Flushed}
use Rattle.fkv_commit.specs.declared.finishing.Finishing.{Finishing}
use Rattle.fkv_commit.specs.declared.finishing.Finishing.TheVariants as finish
use Rattle.fkv_commit.specs.Waiting.{WaitState, waiting_ask, wait_ask, waiting_next, wait_next}
use Rattle.fkv_commit.specs.Finishing.{FinishState, finish_begun, durable_from, finishing_ask, finish_ask, finishing_next, finish_next}
use Rattle.fkv_plane.specs.AsksLeft.{AsksWhereLeft}
use Rattle.fkv_commit.specs.AsksLeft.{waiting_asks_left, wait_asks_left, finishing_asks_left, finish_asks_left}
use Rattle.fkv_plane.proofs.Shown.{never, none}

waiting_left : (step : Waiting) → AsksWhereLeft (waiting_asks_left step) (waiting_ask step)
unfolding waiting_asks_left waiting_ask
waiting_left (wait.Ended its) = (never, none)
waiting_left wait.LoadsSafe = (λ asks. omega arith, λ some. refl)
waiting_left wait.LoadsFlushed = (λ asks. omega arith, λ some. refl)

pub wait_left : (s : WaitState) → AsksWhereLeft (wait_asks_left s) (wait_ask s)
wait_left s = waiting_left s.step

waiting_fewer : (end : Addr) (epoch : ℕ) (step : Waiting) (reply : ℕ) → 0 < waiting_asks_left step → waiting_asks_left (waiting_next end epoch step reply) < waiting_asks_left step
unfolding waiting_asks_left waiting_next
waiting_fewer end epoch (wait.Ended its) reply some = none some
waiting_fewer end epoch wait.LoadsSafe reply some = tested (nat_le epoch reply)
  where
    tested : (b : Bool) → waiting_asks_left (if b then wait.LoadsFlushed else wait.Ended NotYet) < 2
    tested true = omega arith
    tested false = omega arith
waiting_fewer end epoch wait.LoadsFlushed reply some = tested (nat_le end.0 reply)
  where
    tested : (b : Bool) → waiting_asks_left (if b then wait.Ended Flushed else wait.Ended NotYet) < 1
    tested true = omega arith
    tested false = omega arith

pub wait_fewer : (s : WaitState) (reply : ℕ) → 0 < wait_asks_left s → wait_asks_left (wait_next s reply) < wait_asks_left s
wait_fewer s reply some = waiting_fewer s.end s.epoch s.step reply some

finishing_left : (points : List Serial) (s : FinishState) (step : Finishing) → AsksWhereLeft (finishing_asks_left s step) (finishing_ask points s step)
unfolding finishing_asks_left finishing_ask
finishing_left points s (finish.Ended its) = (never, none)
finishing_left points s (finish.StoresDurable session) = (λ asks. omega arith, λ some. refl)
finishing_left points s finish.StoresRest = (λ asks. omega arith, λ some. refl)

pub finish_left : (points : List Serial) (s : FinishState) → AsksWhereLeft (finish_asks_left s) (finish_ask points s)
finish_left points s = finishing_left points s s.step

durable_left : (s : FinishState) (session : ℕ) → finishing_asks_left s (durable_from s.sessions session) ≤ (s.sessions - session) + 1
unfolding finishing_asks_left durable_from
durable_left s session = tested (nat_lt session s.sessions) refl
  where
    tested : (b : Bool) → nat_lt session s.sessions ≡ b → finishing_asks_left s (if b then finish.StoresDurable session else finish.StoresRest) ≤ (s.sessions - session) + 1
    tested true e = let h : session < s.sessions = grind (arith, nat_tests, e) in omega (arith, h)
    tested false e = omega arith

-- the asks left go by the sessions alone
same_left : (a b : FinishState) (step : Finishing) → a.sessions ≡ b.sessions → finishing_asks_left a step ≡ finishing_asks_left b step
unfolding finishing_asks_left
same_left a b (finish.Ended its) e = refl
same_left a b (finish.StoresDurable session) e = rw e refl
same_left a b finish.StoresRest e = refl

pub finish_begun_left : (s : FinishState) (number : Version) → finish_asks_left (finish_begun s number) ≤ s.sessions + 1
finish_begun_left s number =
    let all = durable_left s 0 in
    let same = same_left (finish_begun s number) s (durable_from s.sessions 0) refl in
    omega (arith, all, same)

finishing_fewer : (s : FinishState) (step : Finishing) → 0 < finishing_asks_left s step → finishing_asks_left s (finishing_next s step) < finishing_asks_left s step
unfolding finishing_asks_left finishing_next
finishing_fewer s (finish.Ended its) some = none some
finishing_fewer s (finish.StoresDurable session) some = let all = durable_left s (session + 1) in omega (arith, all)
finishing_fewer s finish.StoresRest some = omega arith

pub finish_fewer : (s : FinishState) (reply : ℕ) → 0 < finish_asks_left s → finish_asks_left (finish_next s reply) < finish_asks_left s
finish_fewer s reply some =
    let fewer = finishing_fewer s s.step some in
    let same = same_left (finish_next s reply) s (finishing_next s s.step) refl in
    omega (arith, fewer, same)
