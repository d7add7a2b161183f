-- What one reply to a try does to the shares of the latch, for who nests a try and doesn't know its replies.
use Rattle.std.proofs.Common.{◌≡◌, ℕ, ◌+◌, ◌-◌, ◌^◌, refl, arith, sym, ap, subst}
use Rattle.std.specs.Prelude.{◌&&◌, ◌||◌}
use Rattle.fkv_words.specs.Fields.{bit_of}
use Rattle.fkv_plane.specs.declared.asks.Ask.{Ask}
use Rattle.fkv_plane.specs.declared.asks.Ask.TheVariants.{Add, Done}
use Rattle.fkv_latch.specs.Latching.{one_share}
use Rattle.fkv_ops.specs.declared.answers.TryAnswer.{TryAnswer}
use Rattle.fkv_ops.specs.declared.trying.Trying.{Trying}
use Rattle.fkv_ops.specs.Trying.{TryState, try_ask, trying_ask, try_next, is_wait}
use Rattle.fkv_ops.specs.TryRun.{Trial, trial_begun}
use Rattle.fkv_ops.specs.Reasons.{latch_place}
use Rattle.fkv_ops.specs.Effects.{shares_latch}
use Rattle.fkv_ops.specs.EachAsk.{AskIsSo}
use Rattle.fkv_ops.specs.LatchCounts.{is_adding}
use Rattle.fkv_ops.proofs.TryRows.{norm, Owed, owed_at, TryRow, told_at}
use Rattle.fkv_ops.proofs.TrySteps.{Steps, Quietly, Effectively, owed_then, quieted, row_true}
use Rattle.fkv_ops.proofs.TryRuns.{begun_true, quieted_ask, quieted_next, at_end}
use Rattle.fkv_ops.proofs.Effected.{anything}
use Rattle.fkv_ops.proofs.Balances.{Balances, row_balances}
use Rattle.fkv_ops.proofs.EachAsk.{row_so}

-- a try of this trial, by whatever replies
pub record IsTrying (c : Trial) (t : TryState) : Type 0 where
  pub same : t ≡ norm c t
  pub row : TryRow c anything t t.step

-- the shares that it has yet to take off or to keep
abbrev pub shares_owed : TryState → ℕ
shares_owed t = (owed_at t t.step).shares

pub begun_trying : (c : Trial) (spare : ℕ) → IsTrying c (trial_begun c spare)
begun_trying c spare = let its = begun_true c anything spare in record { same = its.same; row = its.row }

pub begun_owes : (c : Trial) (spare : ℕ) → shares_owed (trial_begun c spare) ≡ bit_of c.request.has_latch
begun_owes c spare = ap (λ (o : Owed). o.shares) (begun_true c anything spare).owes

-- what a step leads to, and owes
record Leads (c : Trial) (owed : Owed) (t : TryState) : Type 0 where
  its : IsTrying c t
  owes : owed_at t t.step ≡ owed

leads : (c : Trial) (step : Trying) (owed : Owed) (t : TryState) → Steps c anything step owed t → Leads c owed t
leads c step owed t (Quietly comes) = record { its = record { same = comes.same; row = comes.row }; owes = comes.owes }
leads c step owed t (Effectively its makes none comes) = record { its = record { same = comes.same; row = comes.row }; owes = comes.owes }

led : (c : Trial) (t : TryState) (reply : ℕ) → IsTrying c t → Leads c (owed_then t t.step reply) (try_next c.places c.room t reply)
led c t reply its =
    leads c t.step (owed_then t t.step reply) (try_next c.places c.room t reply)
    (subst (Steps c anything t.step (owed_then t t.step reply)) (quieted_next c t reply its.same) (row_true c anything t t.step reply refl its.row tt))

pub next_trying : (c : Trial) (t : TryState) (reply : ℕ) → IsTrying c t → IsTrying c (try_next c.places c.room t reply)
next_trying c t reply its = (led c t reply its).its

normal_ask : (c : Trial) (t : TryState) → t ≡ norm c t → try_ask c.places t ≡ trying_ask c.places (norm c t) t.step
normal_ask c t same = ap (λ x. trying_ask c.places x t.step) same

-- an ask changes what is owed by just what it adds
pub next_owes : (c : Trial) (t : TryState) (reply : ℕ) → IsTrying c t
    → shares_owed t + bit_of (is_adding c one_share (try_ask c.places t)) ≡ shares_owed (try_next c.places c.room t reply) + bit_of (is_adding c (2 ^ 64 - one_share) (try_ask c.places t))
next_owes c t reply its =
    let balance : Balances c (owed_at t t.step) (try_ask c.places t) reply (owed_then t t.step reply) =
    subst (λ a. Balances c (owed_at t t.step) a reply (owed_then t t.step reply)) (sym (normal_ask c t its.same)) (row_balances c anything t t.step reply its.row) in
    let owed : (owed_at (try_next c.places c.room t reply) (try_next c.places c.room t reply).step).shares ≡ (owed_then t t.step reply).shares = ap (λ (o : Owed). o.shares) (led c t reply its).owes in
    let step = balance.shares in
    omega (arith, step, owed)

-- where it adds to a word, that is the one of its latch
abbrev pub AddsThere : ℕ → Ask TryAnswer → Type 0
AddsThere latch (Add place number) = place ≡ latch
AddsThere latch ask = Unit {0}

adds_so : (c : Trial) (ask : Ask TryAnswer) (reply : ℕ) (effect : _) → AskIsSo c anything ask reply effect → AddsThere (latch_place c) ask
adds_so c (Add place number) reply effect so = so.0
adds_so c ask reply effect so = tt

pub adds_there : (c : Trial) (t : TryState) → IsTrying c t → AddsThere (latch_place c) (try_ask c.places t)
adds_there c t its =
    subst (AddsThere (latch_place c)) (sym (quieted_ask c t its.same)) (adds_so c (trying_ask c.places (quieted c t) t.step) 0 _ (row_so c anything t t.step 0 its.row))

-- at its end
pub record KeepsShare (c : Trial) (t : TryState) (its : TryAnswer) : Type 0 where
  pub owes : shares_owed t ≡ bit_of t.has_shared
  pub shares : t.has_shared ≡ (is_wait its && (c.request.has_latch || shares_latch c))

pub ended_keeps : (c : Trial) (t : TryState) (its : TryAnswer) → IsTrying c t → try_ask c.places t ≡ Done its → KeepsShare c t its
ended_keeps c t its trying e =
    let at = at_end c anything (told_at t.step) t its (record { same = trying.same; its_told = refl; row = trying.row }) e in
    let ends = subst (TryRow c anything t) at trying.row in
    record { owes = ap (λ (o : Owed). o.shares) (ap (owed_at t) at); shares = ends.shared }
