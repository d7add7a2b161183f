-- What has to hold of a machine that asks for a drain slot.
use Rattle.std.proofs.Common.{◌≡◌, refl, false}
use Rattle.std.specs.Prelude.{⊤}
use Rattle.fkv_plane.specs.declared.actions.Action.{Action}
use Rattle.fkv_plane.specs.declared.actions.Action.TheVariants as act
use Rattle.fkv_plane.specs.declared.asks.Ask.{Ask}
use Rattle.fkv_plane.specs.declared.asks.Ask.TheVariants.{Put, Take, Done}
use Rattle.fkv_plane.specs.Passing.{is_done, passed}
use Rattle.fkv_epoch.specs.declared.claiming.Claiming.{Claiming}
use Rattle.fkv_epoch.specs.declared.claiming.Claiming.TheVariants as claim
use Rattle.fkv_epoch.specs.declared.raising.Raising.{Raising}
use Rattle.fkv_epoch.specs.declared.raising.Raising.TheVariants as raise
use Rattle.fkv_epoch.specs.declared.scanning.Scanning.{Scanning}
use Rattle.fkv_epoch.specs.declared.scanning.Scanning.TheVariants as scan
use Rattle.fkv_epoch.specs.Claiming.{claim_ask, claim_given}
use Rattle.fkv_epoch.specs.Raising.{raise_ask}
use Rattle.fkv_epoch.specs.Scanning.{scan_ask}
use Rattle.law_world.proofs.OfRuns.NoSlots.{IsOffSlots}

-- one thing where the ask puts an action, and another where it takes one
abbrev pub AtSlot : {A : Type 0} → Type 0 → Type 0 → Ask A → Type 0
AtSlot put took (Put slot action) = put
AtSlot put took (Take slot) = took
AtSlot put took ask = ⊤

pub passed_at : {A B : Type 0} (put took : Type 0) (ask : Ask A) (told : B) → AtSlot put took ask → AtSlot put took (passed ask told)
unfolding passed
passed_at put took (Put slot action) told its = its
passed_at put took (Take slot) told its = its
passed_at put took (Done answer) told its = tt
passed_at put took ask told its = tt

pub off_at : {A : Type 0} (put took : Type 0) (ask : Ask A) → IsOffSlots ask → AtSlot put took ask
off_at put took (Put slot action) off = absurd off
off_at put took (Take slot) off = absurd off
off_at put took ask off = tt

pub at_more : {A : Type 0} (put took more further : Type 0) (ask : Ask A) → (put → more) → (took → further) → AtSlot put took ask → AtSlot more further ask
at_more put took more further (Put slot action) f g its = f its
at_more put took more further (Take slot) f g its = g its
at_more put took more further ask f g its = tt

-- a scan and a raise ask for none
pub scan_off : (step : Scanning) → IsOffSlots (scan_ask step)
unfolding scan_ask
scan_off scan.AtRest = tt
scan_off step = tt

pub raise_off : (step : Raising) → IsOffSlots (raise_ask step)
unfolding raise_ask
raise_off raise.AtRest = tt
raise_off (raise.HasSlot slot) = tt
raise_off step = tt

-- the action that a claim takes is run next
abbrev pub RunsNext : Claiming → Type 0
RunsNext c = (action : Action) → is_done (claim_ask (claim_given c action)) ≡ false

run_asks : (slot epoch safe : _) (action : Action) → is_done (claim_ask (claim.Runs slot epoch safe action)) ≡ false
unfolding claim_ask
run_asks slot epoch safe (act.SafeReadOnly addr) = refl
run_asks slot epoch safe (act.Close addr) = refl
run_asks slot epoch safe (act.Phase phase version) = refl

pub claim_at : (put : Type 0) (c : Claiming) → AtSlot put (RunsNext c) (claim_ask c)
unfolding claim_ask claim_given
claim_at put claim.AtRest = tt
claim_at put (claim.Receives slot epoch safe) = λ action. run_asks slot epoch safe action
claim_at put (claim.Runs slot epoch safe (act.SafeReadOnly addr)) = tt
claim_at put (claim.Runs slot epoch safe (act.Close addr)) = tt
claim_at put (claim.Runs slot epoch safe (act.Phase phase version)) = tt
claim_at put c = tt
