-- The machine with which the keeper serves mailboxes, by its control state.
use Rattle.std.specs.Prelude.{◌≡◌, ℕ, ◌==◌, Bool, true, false}
use Rattle.fkv_base.specs.declared.numbers.Addr.{Addr}
use Rattle.law_world.specs.Below.fkv_flush.TheServing.{Serving}
use Rattle.law_world.specs.Below.fkv_flush.TheServing.TheVariants as serve
use Rattle.law_world.specs.Below.fkv_maintain.TheMaintaining.{Maintaining}
use Rattle.law_world.specs.Below.fkv_maintain.TheMaintaining.TheVariants.{Serves}
use Rattle.law_world.specs.Below.fkv_maintain.Maintaining.{MaintainState}
use Rattle.law_world.specs.Below.fkv_keeper.TheKeeping.{Keeping as KeeperStep}
use Rattle.law_world.specs.Below.fkv_keeper.TheKeeping.TheVariants.{Maintains}
use Rattle.law_world.specs.Below.fkv_keeper.Keeping.{KeeperState}
use Rattle.law_world.specs.Below.fkv_pending.MailRecord.{MailRecord}
use Rattle.law_world.specs.Below.fkv_pending.MailWorld.{Keeping, FindsState, Reads, GivesHeader, GivesKey, GivesValue, GivesReady}

-- the keeper serves mailboxes in the last part of a turn
abbrev pub maintain_serving : MaintainState → Maintaining → Serving
maintain_serving s Serves = s.serving
maintain_serving s step = serve.AtRest

abbrev pub keeper_serving : KeeperState → KeeperStep → Serving
keeper_serving s Maintains = maintain_serving s.maintain s.maintain.step
keeper_serving s step = serve.AtRest

-- of the keeper, at rest where it serves none
abbrev pub serving_of : KeeperState → Serving
serving_of s = keeper_serving s s.step

-- the address at which the log begins of which it serves
abbrev pub begin_of : KeeperState → ℕ
begin_of s = s.maintain.begin.0

-- it is at this session's mailbox
abbrev pub is_serving : ℕ → Serving → Bool
is_serving session serve.AtRest = false
is_serving session (serve.LoadsState its) = its == session
is_serving session (serve.LoadsAddress its) = its == session
is_serving session (serve.Reads its addr) = its == session
is_serving session (serve.StoresHeader its mail) = its == session
is_serving session (serve.StoresKey its mail) = its == session
is_serving session (serve.StoresValue its mail) = its == session
is_serving session (serve.StoresReady its) = its == session

-- the record of these words
abbrev pub record_of : ℕ → ℕ → ℕ → MailRecord
record_of header key value = record { header = header; key = record { 0 = key }; value = value }

-- How far the mailbox's keeper has come where the engine's is at that mailbox: from the read on it is as far, with the words that were read.
-- Before that it finds the state yet: the engine's loads of the state and of the address count as one, as the address is loaded. So does the read, where
-- what was asked for is gone.
abbrev pub ServesIt : Serving → Keeping → Type 0
ServesIt (serve.Reads session addr) its = its ≡ Reads (record { 0 = addr })
ServesIt (serve.StoresHeader session mail) its = (addr : Addr) × (its ≡ GivesHeader addr (record_of mail.header mail.key mail.value))
ServesIt (serve.StoresKey session mail) its = (addr : Addr) × (its ≡ GivesKey addr (record_of mail.header mail.key mail.value))
ServesIt (serve.StoresValue session mail) its = (addr : Addr) × (its ≡ GivesValue addr (record_of mail.header mail.key mail.value))
ServesIt (serve.StoresReady session) its = (addr : Addr) × (given : MailRecord) × (its ≡ GivesReady addr given)
ServesIt step its = its ≡ FindsState

abbrev pub ServesIf : Bool → Serving → Keeping → Type 0
ServesIf true step its = ServesIt step its
ServesIf false step its = its ≡ FindsState

-- so far as it serves this session: where it is at another mailbox, or at none, it has nothing of this one in hand
abbrev pub KeepsUp : ℕ → Serving → Keeping → Type 0
KeepsUp session step its = ServesIf (is_serving session step) step its
