-- A record that leads as its bytes say by one floor does so by each higher one.
use Rattle.std.proofs.Common.{◌≡◌, ℕ, ◌≤◌, ◌∙◌, ⊎_elim, sym, ap, arith}
use Rattle.std.proofs.lemmas.Bool.{cases_lt}
use Rattle.fkv_record.specs.Begin.{from_or_none}
use Rattle.fkv_record.proofs.Shown.{from_below, from_on}
use Rattle.law_log.specs.Chains.{Logged}
use Rattle.law_commit.specs.Below.fkv_pending.MailRecord.{MailRecord}
use Rattle.law_commit.specs.Below.law_local.Tries.Floors.{LeadsByFloor}
use Rattle.law_commit.specs.Below.law_local.Tries.MailRows.{IsRecordOf}

-- what a begin cuts off is cut off by each later one
pub cut_again : (begin later a : ℕ) → begin ≤ later → from_or_none later a ≡ from_or_none later (from_or_none begin a)
cut_again begin later a up = ⊎_elim
    (λ below. from_below later a (omega (arith, below, up)) ∙ sym (ap (from_or_none later) (from_below begin a below) ∙ nowhere))
    (λ on. ap (from_or_none later) (sym (from_on begin a on)))
    (cases_lt a begin)
  where
    nowhere : from_or_none later 0 ≡ 0
    nowhere = ⊎_elim (λ below. from_below later 0 below) (λ on. from_on later 0 on) (cases_lt 0 later)

leads_above : (first floor previous word : ℕ) → first ≤ floor → LeadsByFloor first previous word → LeadsByFloor floor previous word
leads_above first floor previous word up its = record {
  said = its.said;
  version = its.version;
  says = its.says;
  same = cut_again first floor its.said.0 up ∙ ap (from_or_none floor) its.same ∙ sym (cut_again first floor previous up);
}

pub record_above : (first floor : ℕ) (logged : Logged) (its : MailRecord) → first ≤ floor → IsRecordOf first logged its → IsRecordOf floor logged its
record_above first floor logged its up is = record { cell = is.cell; its = is.its; leads = leads_above first floor (let c = is.cell in c.previous) its.header up is.leads; key = is.key; value = is.value }
