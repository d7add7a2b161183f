-- What is taken from the mailbox is the record that the request seeks, as the log grows and as each word is loaded.
use Rattle.std.proofs.Common.{◌≡◌, ◌≢◌, refl, inl, inr, ℕ, ◌<◌, ◌≤◌, ◌∙◌, sym, ap, subst, arith, Bool, true, false, Option, Some, None}
use Rattle.std.specs.Prelude.{◌==◌, if◌then◌else◌}
use Rattle.fkv_base.specs.declared.numbers.Addr.{Addr}
use Rattle.fkv_map.specs.Map.{Map}
use Rattle.fkv_plane.specs.declared.asks.Ask.TheVariants.{Done}
use Rattle.fkv_index.specs.Slots.{entry_addr}
use Rattle.law_log.specs.Chains.{Cell, Logged, Published}
use Rattle.law_log.specs.Ghosts.{Log}
use Rattle.law_log.specs.Enabled.{AreChains}
use Rattle.law_log.proofs.Shown.{Grows}
use Rattle.fkv_ops.specs.declared.answers.DiskRecord.{DiskRecord}
use Rattle.fkv_pending.specs.declared.mailing.MailAnswer.{MailAnswer}
use Rattle.fkv_pending.specs.declared.mailing.MailAnswer.TheVariants as mail
use Rattle.fkv_pending.specs.declared.mailing.MailRecord.{MailRecord}
use Rattle.fkv_pending.specs.declared.mailing.MailTask.{MailTask}
use Rattle.fkv_pending.specs.declared.mailing.MailTask.TheVariants.{Clear, Take, Put}
use Rattle.fkv_pending.specs.declared.mailing.Mailing.{Mailing}
use Rattle.fkv_pending.specs.declared.mailing.Mailing.TheVariants.{Ended, LoadsState, LoadsHeader, LoadsKey, LoadsValue, StoresEmpty, StoresAddress, StoresAsked}
use Rattle.fkv_pending.specs.Mailing.{mail_ready, mail_empty, mail_ask, mail_next}
use Rattle.law_local.specs.Tries.HeldRows.{SoughtKnows}
use Rattle.law_local.specs.Tries.MailRows.{LeadsAs, IsKeyOf, IsRecordOf, TakenKnows, MailRow, GoneTells, GoneRow, SoughtRow, MailKnows, IsTrueOfMail, IsTrueOfGone, IsTrueOfSought, IsTrueOfLook, PutsThere, PutsSought}
use Rattle.law_local.proofs.OfTries.OnWay.{low_grows}
use Rattle.law_local.proofs.OfTries.WalkRows.{published_there}

-- ---- as the log grows
key_grows : (home : ℕ → ℕ) (m : Map) (log log' : Log) (at word : ℕ) → Grows home m log log' → IsKeyOf (log.cells at) word → IsKeyOf (log'.cells at) word
key_grows home m log log' at word grows its =
    let stays = grows.published at its.cell its.its in
    record { cell = record its.cell { value = stays.value }; its = stays.still; same = its.same }

lead_grows : (home : ℕ → ℕ) (m : Map) (log log' : Log) (floor at word : ℕ) → Grows home m log log' → LeadsAs floor (log.cells at) word → LeadsAs floor (log'.cells at) word
lead_grows home m log log' floor at word grows its =
    let stays = grows.published at its.cell its.its in
    record { cell = record its.cell { value = stays.value }; its = stays.still; leads = its.leads }

not_below : (a b : ℕ) → a < b → b ≤ a → ⊥
not_below a b low high = omega (arith, low, high)

-- a record that is fixed keeps its value too
record_grows : (home : ℕ → ℕ) (m : Map) (log log' : Log) (floor at : ℕ) (it : MailRecord) → Grows home m log log' → at < log.fixed → IsRecordOf floor (log.cells at) it → IsRecordOf floor (log'.cells at) it
record_grows home m log log' floor at it grows fixed its =
    let stays = grows.published at its.cell its.its in
    record {
      cell = record its.cell { value = stays.value };
      its = stays.still;
      leads = its.leads;
      key = its.key;
      value = its.value ∙ elim stays.kept [
        | inl same ↦ sym same
        | inr now ↦ absurd (not_below at log.fixed fixed now.0)
      ];
    }

taken_grows : (home : ℕ → ℕ) (m : Map) (log log' : Log) (floor at : ℕ) (its : MailAnswer) → Grows home m log log' → at < log.fixed → TakenKnows floor (log.cells at) its → TakenKnows floor (log'.cells at) its
taken_grows home m log log' floor at (mail.Taken it) grows fixed knows = λ some. record_grows home m log log' floor at it grows fixed (knows some)
taken_grows home m log log' floor at its grows fixed knows = tt

mail_row_grows : (home : ℕ → ℕ) (m : Map) (log log' : Log) (floor at : ℕ) (step : Mailing) → Grows home m log log' → at < log.fixed → MailRow floor (log.cells at) step → MailRow floor (log'.cells at) step
mail_row_grows home m log log' floor at (LoadsKey header) grows fixed row = λ some. lead_grows home m log log' floor at header grows (row some)
mail_row_grows home m log log' floor at (LoadsValue header key) grows fixed row = λ some. (let its = row some in (lead_grows home m log log' floor at header grows its.0, key_grows home m log log' at key grows its.1))
mail_row_grows home m log log' floor at (StoresEmpty its) grows fixed row = taken_grows home m log log' floor at its grows fixed row
mail_row_grows home m log log' floor at (Ended its) grows fixed row = taken_grows home m log log' floor at its grows fixed row
mail_row_grows home m log log' floor at (LoadsState task) grows fixed row = tt
mail_row_grows home m log log' floor at LoadsHeader grows fixed row = tt
mail_row_grows home m log log' floor at (StoresAddress addr) grows fixed row = tt
mail_row_grows home m log log' floor at StoresAsked grows fixed row = tt

told_grows : (home : ℕ → ℕ) (m : Map) (log log' : Log) (its : MailAnswer) → Grows home m log log' → GoneTells log its → GoneTells log' its
told_grows home m log log' (mail.Taken it) grows tells = λ none. low_grows home m log log' it.key.0 grows (tells none)
told_grows home m log log' its grows tells = tt

gone_grows : (home : ℕ → ℕ) (m : Map) (log log' : Log) (step : Mailing) → Grows home m log log' → GoneRow log step → GoneRow log' step
gone_grows home m log log' (LoadsValue header key) grows row = λ none. low_grows home m log log' key grows (row none)
gone_grows home m log log' (StoresEmpty its) grows row = told_grows home m log log' its grows row
gone_grows home m log log' (Ended its) grows row = told_grows home m log log' its grows row
gone_grows home m log log' (LoadsKey header) grows row = tt
gone_grows home m log log' (LoadsState task) grows row = tt
gone_grows home m log log' LoadsHeader grows row = tt
gone_grows home m log log' (StoresAddress addr) grows row = tt
gone_grows home m log log' StoresAsked grows row = tt

sought_row_grows : (home : ℕ → ℕ) (m : Map) (log log' : Log) (floor key low : ℕ) (sought : Option DiskRecord) (step : Mailing) → Grows home m log log' → low ≤ log.fixed → SoughtKnows home log floor key low sought → SoughtRow log floor sought step → SoughtRow log' floor sought step
sought_row_grows home m log log' floor key low None step grows fixed knows row = tt
sought_row_grows home m log log' floor key low (Some it) step grows fixed knows row = mail_row_grows home m log log' floor it.addr.0 step grows (below it.addr.0 low log.fixed knows.comes.below fixed) row
  where
    below : (a b c : ℕ) → a < b → b ≤ c → a < c
    below a b c lower high = omega (arith, lower, high)

pub mail_grows : (home : ℕ → ℕ) (m : Map) (log log' : Log) (floor key low : ℕ) (sought : Option DiskRecord) (step : Mailing) → Grows home m log log' → low ≤ log.fixed → SoughtKnows home log floor key low sought → MailKnows log floor sought step → MailKnows log' floor sought step
mail_grows home m log log' floor key low sought step grows fixed knows row = (gone_grows home m log log' step grows row.0, sought_row_grows home m log log' floor key low sought step grows fixed knows row.1)

-- ---- a word is loaded
the_cell : (a b : Cell) → Published a ≡ Published b → a ≡ b
the_cell a b e = cc

state_leads : (floor : ℕ) (logged : Logged) (task : MailTask) (found : ℕ) → MailRow floor logged (mail_next (LoadsState task) found)
unfolding mail_next
state_leads floor logged Clear found = by_test (found == mail_ready)
  where
    by_test : (b : Bool) → MailRow floor logged (if b then StoresEmpty mail.Cleared else Ended mail.NotReady)
    by_test true = tt
    by_test false = tt
state_leads floor logged Take found = by_test (found == mail_ready)
  where
    by_test : (b : Bool) → MailRow floor logged (if b then LoadsHeader else Ended mail.NotReady)
    by_test true = tt
    by_test false = tt
state_leads floor logged (Put addr) found = by_test (found == mail_empty)
  where
    by_test : (b : Bool) → MailRow floor logged (if b then StoresAddress addr else Ended mail.Occupied)
    by_test true = tt
    by_test false = tt

mail_row_leads : (floor : ℕ) (logged : Logged) (cell : Cell) (step : Mailing) (reply : ℕ) → logged ≡ Published cell → MailRow floor logged step → IsTrueOfMail floor logged step reply → MailRow floor logged (mail_next step reply)
unfolding mail_next
mail_row_leads floor logged cell (Ended its) reply is row says = row
mail_row_leads floor logged cell (LoadsState task) reply is row says = state_leads floor logged task reply
mail_row_leads floor logged cell LoadsHeader reply is row says = λ some. record { cell = cell; its = is; leads = says some cell is }
mail_row_leads floor logged cell (LoadsKey header) reply is row says = λ some. (row some, record { cell = cell; its = is; same = says some cell is })
mail_row_leads floor logged cell (LoadsValue header key) reply is row says = λ some.
    let its = row some in
    record {
      cell = its.0.cell;
      its = its.0.its;
      leads = its.0.leads;
      key = its.1.same ∙ ap (λ (c : Cell). c.key) (the_cell its.1.cell its.0.cell (sym its.1.its ∙ its.0.its));
      value = says some its.0.cell its.0.its;
    }
mail_row_leads floor logged cell (StoresEmpty its) reply is row says = row
mail_row_leads floor logged cell (StoresAddress addr) reply is row says = tt
mail_row_leads floor logged cell StoresAsked reply is row says = tt

state_gone : (log : Log) (task : MailTask) (found : ℕ) → GoneRow log (mail_next (LoadsState task) found)
unfolding mail_next
state_gone log Clear found = by_test (found == mail_ready)
  where
    by_test : (b : Bool) → GoneRow log (if b then StoresEmpty mail.Cleared else Ended mail.NotReady)
    by_test true = tt
    by_test false = tt
state_gone log Take found = by_test (found == mail_ready)
  where
    by_test : (b : Bool) → GoneRow log (if b then LoadsHeader else Ended mail.NotReady)
    by_test true = tt
    by_test false = tt
state_gone log (Put addr) found = by_test (found == mail_empty)
  where
    by_test : (b : Bool) → GoneRow log (if b then StoresAddress addr else Ended mail.Occupied)
    by_test true = tt
    by_test false = tt

gone_leads : (log : Log) (step : Mailing) (reply : ℕ) → GoneRow log step → IsTrueOfGone log step reply → GoneRow log (mail_next step reply)
unfolding mail_next
gone_leads log (Ended its) reply row says = row
gone_leads log (LoadsState task) reply row says = state_gone log task reply
gone_leads log LoadsHeader reply row says = tt
gone_leads log (LoadsKey header) reply row says = says
gone_leads log (LoadsValue header key) reply row says = row
gone_leads log (StoresEmpty its) reply row says = row
gone_leads log (StoresAddress addr) reply row says = tt
gone_leads log StoresAsked reply row says = tt

sought_leads : (home : ℕ → ℕ) (log : Log) (floor key low : ℕ) (sought : Option DiskRecord) (step : Mailing) (reply : ℕ) → AreChains home log → SoughtKnows home log floor key low sought → SoughtRow log floor sought step → IsTrueOfSought log floor sought step reply
    → SoughtRow log floor sought (mail_next step reply)
sought_leads home log floor key low None step reply chains knows row says = tt
sought_leads home log floor key low (Some it) step reply chains knows row says =
    let there = published_there home log key (entry_addr it.entry) it.addr.0 chains knows.comes.way knows.comes.some in
    mail_row_leads floor (log.cells it.addr.0) there.cell step reply there.its row says

pub mail_leads : (home : ℕ → ℕ) (log : Log) (floor key low : ℕ) (sought : Option DiskRecord) (step : Mailing) (reply : ℕ) → AreChains home log → SoughtKnows home log floor key low sought → MailKnows log floor sought step → IsTrueOfLook log floor sought step reply
    → MailKnows log floor sought (mail_next step reply)
mail_leads home log floor key low sought step reply chains knows row says = (gone_leads log step reply row.0 says.0, sought_leads home log floor key low sought step reply chains knows row.1 says.1)

begun_at : (log : Log) (floor : ℕ) (sought : Option DiskRecord) → SoughtRow log floor sought (LoadsState Take)
begun_at log floor None = tt
begun_at log floor (Some it) = tt

pub mail_begun : (log : Log) (floor : ℕ) (sought : Option DiskRecord) → MailKnows log floor sought (LoadsState Take)
mail_begun log floor sought = (tt, begun_at log floor sought)

-- ---- and the record is taken
abbrev pub TakenOf : Log → ℕ → Option DiskRecord → MailRecord → Type 0
TakenOf log floor None its = Unit {0}
TakenOf log floor (Some it) its = IsRecordOf floor (log.cells it.addr.0) its

the_answer : (a b : MailAnswer) → Done a ≡ Done b → a ≡ b
the_answer a b e = cc

-- what holds of it where the mailbox has come to its end
row_taken : (P : MailAnswer → Type 0) (session : ℕ) (step : Mailing) (its : MailRecord) → ((it : MailAnswer) → step ≡ Ended it → P it) → mail_ask session step ≡ Done (mail.Taken its) → P (mail.Taken its)
unfolding mail_ask
row_taken P session (Ended it) its row e = subst P (the_answer it (mail.Taken its) e) (row it refl)
row_taken P session (LoadsState task) its row e = cc
row_taken P session LoadsHeader its row e = cc
row_taken P session (LoadsKey header) its row e = cc
row_taken P session (LoadsValue header key) its row e = cc
row_taken P session (StoresEmpty it) its row e = cc
row_taken P session (StoresAddress addr) its row e = cc
row_taken P session StoresAsked its row e = cc

pub mail_taken : (log : Log) (floor session : ℕ) (sought : Option DiskRecord) (step : Mailing) (its : MailRecord) → MailKnows log floor sought step → mail_ask session step ≡ Done (mail.Taken its) → its.header ≢ 0 → TakenOf log floor sought its
mail_taken log floor session None step its row e = λ some. tt
mail_taken log floor session (Some it) step its row e = row_taken (TakenKnows floor (log.cells it.addr.0)) session step its (λ told at. subst (MailRow floor (log.cells it.addr.0)) at row.1) e

pub mail_gone : (log : Log) (floor session : ℕ) (sought : Option DiskRecord) (step : Mailing) (its : MailRecord) → MailKnows log floor sought step → mail_ask session step ≡ Done (mail.Taken its) → its.header ≡ 0 → its.key.0 ≤ log.fixed
mail_gone log floor session sought step its row e = row_taken (GoneTells log) session step its (λ told at. subst (GoneRow log) at row.0) e

-- ---- an address is put there
state_puts : (addr : Addr) (task : MailTask) (found : ℕ) → PutsThere addr (LoadsState task) → PutsThere addr (mail_next (LoadsState task) found)
unfolding mail_next
state_puts addr Clear found puts = by_test (found == mail_ready)
  where
    by_test : (b : Bool) → PutsThere addr (if b then StoresEmpty mail.Cleared else Ended mail.NotReady)
    by_test true = tt
    by_test false = tt
state_puts addr Take found puts = by_test (found == mail_ready)
  where
    by_test : (b : Bool) → PutsThere addr (if b then LoadsHeader else Ended mail.NotReady)
    by_test true = tt
    by_test false = tt
state_puts addr (Put it) found puts = by_test (found == mail_empty)
  where
    by_test : (b : Bool) → PutsThere addr (if b then StoresAddress it else Ended mail.Occupied)
    by_test true = puts
    by_test false = tt

put_leads : (addr : Addr) (step : Mailing) (reply : ℕ) → PutsThere addr step → PutsThere addr (mail_next step reply)
unfolding mail_next
put_leads addr (Ended its) reply puts = tt
put_leads addr (LoadsState task) reply puts = state_puts addr task reply puts
put_leads addr LoadsHeader reply puts = tt
put_leads addr (LoadsKey header) reply puts = tt
put_leads addr (LoadsValue header key) reply puts = tt
put_leads addr (StoresEmpty its) reply puts = tt
put_leads addr (StoresAddress it) reply puts = tt
put_leads addr StoresAsked reply puts = tt

pub puts_leads : (sought : Option DiskRecord) (step : Mailing) (reply : ℕ) → PutsSought sought step → PutsSought sought (mail_next step reply)
puts_leads None step reply puts = absurd puts
puts_leads (Some it) step reply puts = put_leads it.addr step reply puts
