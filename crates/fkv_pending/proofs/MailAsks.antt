-- A machine of the mailbox is at its end, or it asks, and each reply leaves fewer asks.
use Rattle.std.proofs.Common.{◌≡◌, ℕ, ◌-◌, ◌≤◌, refl, arith, Bool, true, false}
use Rattle.std.specs.Prelude.{◌==◌, if◌then◌else◌}
use Rattle.fkv_plane.specs.declared.asks.Ask.{Ask}
use Rattle.fkv_plane.specs.Passing.{is_done}
use Rattle.fkv_plane.specs.AsksLeft.{AsksWhereLeft}
use Rattle.fkv_pending.specs.declared.mailing.MailAnswer.{MailAnswer}
use Rattle.fkv_pending.specs.declared.mailing.MailAnswer.TheVariants as answer
use Rattle.fkv_pending.specs.declared.mailing.MailTask.TheVariants.{Clear, Take, Put}
use Rattle.fkv_pending.specs.declared.mailing.Mailing.{Mailing}
use Rattle.fkv_pending.specs.declared.mailing.Mailing.TheVariants.{Ended, LoadsState, LoadsHeader, LoadsKey, LoadsValue, StoresEmpty, StoresAddress, StoresAsked}
use Rattle.fkv_pending.specs.Mailing.{mail_empty, mail_ready, mail_ask, mail_next, mail_asks_left}
use Rattle.fkv_pending.specs.MailWorld.{is_at_end}

-- it asks just where it has asks left
pub mail_left : (session : ℕ) (step : Mailing) → AsksWhereLeft (mail_asks_left step) (mail_ask session step)
unfolding mail_ask mail_asks_left
mail_left session (Ended its) = (λ e. cc, λ some. absurd (omega (arith, some)))
mail_left session (LoadsState Clear) = (λ e. omega arith, λ some. refl)
mail_left session (LoadsState Take) = (λ e. omega arith, λ some. refl)
mail_left session (LoadsState (Put addr)) = (λ e. omega arith, λ some. refl)
mail_left session LoadsHeader = (λ e. omega arith, λ some. refl)
mail_left session (LoadsKey header) = (λ e. omega arith, λ some. refl)
mail_left session (LoadsValue header key) = (λ e. omega arith, λ some. refl)
mail_left session (StoresEmpty its) = (λ e. omega arith, λ some. refl)
mail_left session (StoresAddress addr) = (λ e. omega arith, λ some. refl)
mail_left session StoresAsked = (λ e. omega arith, λ some. refl)

-- it is at its end, or it asks
pub mail_done : (session : ℕ) (step : Mailing) → is_done (mail_ask session step) ≡ is_at_end step
unfolding mail_ask
mail_done session (Ended its) = refl
mail_done session (LoadsState task) = refl
mail_done session LoadsHeader = refl
mail_done session (LoadsKey header) = refl
mail_done session (LoadsValue header key) = refl
mail_done session (StoresEmpty its) = refl
mail_done session (StoresAddress addr) = refl
mail_done session StoresAsked = refl

pub mail_fewer : (step : Mailing) (reply : ℕ) → mail_asks_left (mail_next step reply) ≤ mail_asks_left step - 1
unfolding mail_next mail_asks_left
mail_fewer (Ended its) reply = omega arith
mail_fewer (LoadsState Clear) reply = tested (reply == mail_ready)
  where
    tested : (b : Bool) → mail_asks_left (if b then StoresEmpty answer.Cleared else Ended answer.NotReady) ≤ 1
    tested true = omega arith
    tested false = omega arith
mail_fewer (LoadsState Take) reply = tested (reply == mail_ready)
  where
    tested : (b : Bool) → mail_asks_left (if b then LoadsHeader else Ended answer.NotReady) ≤ 4
    tested true = omega arith
    tested false = omega arith
mail_fewer (LoadsState (Put addr)) reply = tested (reply == mail_empty)
  where
    tested : (b : Bool) → mail_asks_left (if b then StoresAddress addr else Ended answer.Occupied) ≤ 2
    tested true = omega arith
    tested false = omega arith
mail_fewer LoadsHeader reply = omega arith
mail_fewer (LoadsKey header) reply = omega arith
mail_fewer (LoadsValue header key) reply = omega arith
mail_fewer (StoresEmpty its) reply = omega arith
mail_fewer (StoresAddress addr) reply = omega arith
mail_fewer StoresAsked reply = omega arith

-- what it asks, wherever that is given
pub mail_asked_left : (session : ℕ) (step : Mailing) (ask : Ask MailAnswer) → ask ≡ mail_ask session step → AsksWhereLeft (mail_asks_left step) ask
mail_asked_left session step ask e = rw e (mail_left session step)
