-- A record that came is held with the entry that the way to it begins at, and the way goes on behind it.
use Rattle.std.proofs.Common.{◌≡◌, ◌≢◌, inl, inr, ℕ, ◌<◌, ◌≤◌, ◌∙◌, sym, ap, subst, true, false, Option, Some, None}
use Rattle.fkv_base.specs.declared.numbers.Addr.{Addr}
use Rattle.fkv_base.specs.declared.numbers.Version.{Version}
use Rattle.fkv_begin.specs.Begin.{from_or_none}
use Rattle.fkv_index.specs.Slots.{entry_addr}
use Rattle.law_log.specs.Chains.{Logged, value_at}
use Rattle.law_log.specs.Ghosts.{Log, first_from}
use Rattle.law_log.specs.Enabled.{AreChains}
use Rattle.fkv_ops.proofs.Shown.{ends_below}
use Rattle.fkv_ops.specs.declared.answers.DiskRecord.{DiskRecord}
use Rattle.fkv_ops.specs.declared.header_words.HeaderSaid.{HeaderSaid}
use Rattle.fkv_ops.specs.declared.header_words.HeaderSaid.TheVariants.{Says, Spoiled}
use Rattle.fkv_ops.specs.HeaderWords.{header_said}
use Rattle.fkv_ops.specs.Requests.{is_chain_end}
use Rattle.fkv_ops.specs.Values.{value_of}
use Rattle.fkv_pending.specs.declared.mailing.MailRecord.{MailRecord}
use Rattle.fkv_pending.specs.Attempting.{held_of, moved_on}
use Rattle.law_local.specs.Tries.Floors.{ComesLive, FindsAbsent, GoesOnByFloor}
use Rattle.law_local.specs.Tries.OnWay.{IsOrderly}
use Rattle.law_local.specs.Tries.HeldRows.{IsValueBelow, HeldKnows, IsSoughtFrom, SoughtKnows}
use Rattle.law_local.specs.Tries.MailRows.{IsRecordOf}
use Rattle.law_local.proofs.OfTries.Floors.{below_is_absent, goes_by_floor}
use Rattle.law_local.proofs.OfTries.OnWay.{is_found}
use Rattle.law_local.proofs.OfTries.MailRows.{TakenOf}
use Rattle.law_local.proofs.OfTries.Tests.{eq_false}

-- ---- the record that is sought
-- the value of the record, where it is of the key
own_value : (home : ℕ → ℕ) (log : Log) (floor key low : ℕ) (it : DiskRecord) (its : MailRecord) → AreChains home log → IsSoughtFrom home log floor key low it → IsRecordOf floor (log.cells it.addr.0) its → its.key.0 ≡ key → IsValueBelow home log key (entry_addr it.entry) its.value low
own_value home log floor key low it its chains sought of own =
    let comes = sought.comes in
    let found = is_found home log key (entry_addr it.entry) it.addr.0 of.cell chains comes.way comes.some of.its (sym of.key ∙ own) in
    record {
      begins = found.begins;
      some = subst (λ a. 0 < a) (sym found.first) comes.some;
      below = subst (λ a. a < low) (sym found.first) comes.below;
      value = of.value ∙ sym (ap value_at of.its) ∙ sym (ap (λ a. value_at (log.cells a)) found.first);
    }

the_previous : (a b : Addr) (v w : Version) → Says a v ≡ Says b w → a ≡ b
the_previous a b v w e = cc

-- what its header says it leads to, by the floor
leads_to : (floor : ℕ) (logged : Logged) (its : MailRecord) (of : IsRecordOf floor logged its) (previous : Addr) (version : Version) → header_said its.header ≡ Says previous version → from_or_none floor previous.0 ≡ from_or_none floor (let c = of.cell in c.previous)
leads_to floor logged its of previous version e = ap (λ (a : Addr). from_or_none floor a.0) (the_previous previous of.leads.said version of.leads.version (sym e ∙ of.leads.says)) ∙ of.leads.same

-- one goes on behind it, where it is of another key
pub behind_knows : (home : ℕ → ℕ) (log : Log) (floor key low : ℕ) (it : DiskRecord) (its : MailRecord) (previous : Addr) (version : Version) → IsOrderly home log → floor ≤ log.fixed → IsSoughtFrom home log floor key low it → IsRecordOf floor (log.cells it.addr.0) its
    → header_said its.header ≡ Says previous version → its.key.0 ≢ key → GoesOnByFloor home log floor key (entry_addr it.entry) previous.0 low
behind_knows home log floor key low it its previous version orderly over sought of e other =
    goes_by_floor home log orderly floor over key (entry_addr it.entry) it.addr.0 low previous.0 of.cell sought of.its (λ same. other (of.key ∙ same)) (leads_to floor (log.cells it.addr.0) its of previous version e)

pub held_knows : (home : ℕ → ℕ) (log : Log) (floor key low : ℕ) (sought : Option DiskRecord) (its : MailRecord) (said : HeaderSaid) → IsOrderly home log → floor ≤ log.fixed → SoughtKnows home log floor key low sought → TakenOf log floor sought its → header_said its.header ≡ said
    → HeldKnows home log floor key low (held_of sought its said)
held_knows home log floor key low None its said orderly over comes of e = tt
held_knows home log floor key low (Some it) its Spoiled orderly over comes of e = tt
held_knows home log floor key low (Some it) its (Says previous version) orderly over comes of e = record {
  own = λ same. own_value home log floor key low it its orderly.chains comes of same;
  another = λ other. behind_knows home log floor key low it its previous version orderly over comes of e other;
}

-- ---- a read goes on behind it
goes_to : (home : ℕ → ℕ) (log : Log) (floor : Addr) (key low from : ℕ) (next : Addr) → is_chain_end floor next ≡ false → GoesOnByFloor home log floor.0 key from next.0 low → ComesLive home log floor.0 key from next.0 low
goes_to home log floor key low from next e (inl ends) = absurd (eq_false (from_or_none floor.0 next.0) 0 e ends.0)
goes_to home log floor key low from next e (inr comes) = comes

ends_there : (home : ℕ → ℕ) (log : Log) (floor : Addr) (key low from : ℕ) (next : Addr) → IsOrderly home log → floor.0 ≤ log.fixed → is_chain_end floor next ≡ true → GoesOnByFloor home log floor.0 key from next.0 low → FindsAbsent home log key from
ends_there home log floor key low from next orderly over e (inl ends) = ends.1
ends_there home log floor key low from next orderly over e (inr comes) = below_is_absent home log orderly floor.0 over key from next.0 low comes (ends_below floor next comes.comes.some e)

pub moved_knows : (home : ℕ → ℕ) (log : Log) (floor : Addr) (key low : ℕ) (sought : Option DiskRecord) (its : MailRecord) (previous : Addr) (version : Version) → IsOrderly home log → floor.0 ≤ log.fixed → SoughtKnows home log floor.0 key low sought → TakenOf log floor.0 sought its
    → header_said its.header ≡ Says previous version → its.key.0 ≢ key → is_chain_end floor previous ≡ false → SoughtKnows home log floor.0 key low (moved_on sought previous)
moved_knows home log floor key low None its previous version orderly over comes of e other goes = tt
moved_knows home log floor key low (Some it) its previous version orderly over comes of e other goes =
    goes_to home log floor key low (entry_addr it.entry) previous goes (behind_knows home log floor.0 key low it its previous version orderly over comes of e other)

-- the record's value is that of the first record of the key
pub own_read : (home : ℕ → ℕ) (log : Log) (floor key low : ℕ) (it : DiskRecord) (its : MailRecord) → AreChains home log → IsSoughtFrom home log floor key low it → IsRecordOf floor (log.cells it.addr.0) its → its.key.0 ≡ key
    → value_of its.value ≡ value_at (log.cells (first_from home log key (entry_addr it.entry)))
own_read home log floor key low it its chains comes of own = (own_value home log floor key low it its chains comes of own).value

-- or its key reads as absent, where the chain ends behind it
pub none_read : (home : ℕ → ℕ) (log : Log) (floor : Addr) (key low : ℕ) (it : DiskRecord) (its : MailRecord) (previous : Addr) (version : Version) → IsOrderly home log → floor.0 ≤ log.fixed → IsSoughtFrom home log floor.0 key low it → IsRecordOf floor.0 (log.cells it.addr.0) its
    → header_said its.header ≡ Says previous version → its.key.0 ≢ key → is_chain_end floor previous ≡ true → FindsAbsent home log key (entry_addr it.entry)
none_read home log floor key low it its previous version orderly over comes of e other ends =
    ends_there home log floor key low (entry_addr it.entry) previous orderly over ends (behind_knows home log floor.0 key low it its previous version orderly over comes of e other)
