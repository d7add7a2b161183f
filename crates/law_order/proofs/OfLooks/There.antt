-- What a session asks for is published and flushed, from the moment that it stores that it asks.
use Rattle.std.proofs.Common.{◌≡◌, ℕ, ◌<◌, ◌≤◌, ◌∙◌, inl, inr, refl, sym, subst, arith, true, List, [], ◌∷◌}
use Rattle.std.specs.Prelude.{Option, Some, None, slice_get}
use Rattle.fkv_base.specs.declared.numbers.Addr.{Addr}
use Rattle.fkv_epoch.proofs.Shown.{none_some, some_same}
use Rattle.law_commit.specs.Below.fkv_flush.GuardLevels.{levels_of}
use Rattle.fkv_index.specs.Slots.{entry_addr}
use Rattle.law_commit.specs.Below.fkv_ops.DiskRecord.{DiskRecord}
use Rattle.law_commit.specs.Below.fkv_ops.Seen.{Seen}
use Rattle.law_log.specs.Chains.{Cell, IsWithin, Published}
use Rattle.law_log.specs.Ghosts.{Ghosts, Log}
use Rattle.law_log.specs.Enabled.{AreChains, AreEnabled}
use Rattle.law_log.proofs.Shown.{run_held}
use Rattle.law_commit.specs.Below.fkv_pending.TheAttempting.TheVariants.{Puts}
use Rattle.law_commit.specs.Below.fkv_pending.MailTask.{MailTask}
use Rattle.law_commit.specs.Below.fkv_pending.MailTask.TheVariants.{Put}
use Rattle.law_commit.specs.Below.fkv_pending.TheMailing.{Mailing}
use Rattle.law_commit.specs.Below.fkv_pending.Mailbox.{past_of}
use Rattle.law_commit.specs.Below.fkv_session.Sessions.{SessionState}
use Rattle.law_commit.specs.Below.law_local.Sessions.Known.{is_attempting}
use Rattle.law_commit.specs.Below.law_local.Tries.AttemptRows.{AttemptKnows, AttemptRow}
use Rattle.law_commit.specs.Below.law_local.Tries.HeldRows.{SoughtKnows}
use Rattle.law_commit.specs.Below.law_local.Tries.MailRows.{PutsSought}
use Rattle.law_commit.specs.Below.law_local.Tries.Floors.{ComesLive}
use Rattle.law_commit.specs.Below.law_local.Tries.TryRows.{floor_in, head_in, key_in}
use Rattle.law_commit.specs.Below.fkv_world.Runs.{World, run}
use Rattle.law_commit.specs.Below.fkv_world.World.{Event}
use Rattle.law_order.specs.Known.Begins.{BegunLife, home_of_world}
use Rattle.law_order.specs.Known.Knows.{AreKnown}
use Rattle.law_commit.specs.Below.law_refine.Mail.MailEvents as mail
use Rattle.law_commit.specs.Below.law_refine.Mail.Reads.{mail_notes, mail_past}
use Rattle.law_commit.specs.Below.law_refine.Mail.Shows as mail_shows
use Rattle.law_commit.specs.Below.law_refine.Events.GhostEvents.{life_ghosts, mapped}
use Rattle.law_commit.proofs.Below.law_refine.OfEvents.Fixed.{life_rises}
use Rattle.law_order.proofs.OfServed.Device.{flushed_fixed}
use Rattle.law_order.proofs.OfServed.Later.{life_enabled_before, life_stays}
use Rattle.law_opening.proofs.OfChanges.OfSessions.Attempting.{attempting_is}
use Rattle.law_order.proofs.OfTruth.Attempts.{life_seen}
use Rattle.law_order.proofs.OfKnown.Newest.{known_now}
use Rattle.law_order.specs.Asked.Asked.{AsksForSought, outstanding}
use Rattle.law_opening.proofs.OfChanges.OfSessions.Heads.{head_flushed}
use Rattle.law_order.proofs.OfLooks.LifeAsks.{IsAboutToAsk, was_or_comes}
use Rattle.law_opening.proofs.OfChanges.OfMails.Life.{life_mails}
use Rattle.law_opening.proofs.OfChanges.OfMails.SessionMails.{asks_by_put}

-- the record at an address is published, and flushed
pub record IsThere (opening : World) (ghosts : Ghosts) (events : List Event) (a : ℕ) : Type 0 where
  pub cell : Cell
  pub published : (life_ghosts opening ghosts events).log.cells a ≡ Published cell
  pub flushed : a < (levels_of (run opening events).now.words).flushed

lower : (a b c : ℕ) → a < b → b ≤ c → a < c
lower a b c one other = omega (arith, one, other)

-- ---- what a chain comes to is published
in_chain : (home : ℕ → ℕ) (log : Log) (h a : ℕ) → AreChains home log → 0 < a → IsWithin a (log.chains h) → (cell : Cell) × (log.cells a ≡ Published cell)
in_chain home log h a chains some (inl none) = absurd (omega (arith, some, none))
in_chain home log h a chains some (inr is_in) = let its = chains.in_chain h a is_in in (its.cell, its.its)

-- ---- an attempt that puts an address seeks a record
sought_of : (sought : Option DiskRecord) (step : Mailing) → PutsSought sought step → (it : DiskRecord) × (sought ≡ Some it)
sought_of None step puts = absurd puts
sought_of (Some it) step puts = (it, refl)

same_put : (one other : Addr) → Put one ≡ Put other → one ≡ other
same_put one other same = cc

-- where a session is about to say that it asks, its task is to put the address of the record that it seeks
abbrev pub AsksLaw : World → Type 0
AsksLaw opening =
    (events : List Event) → (session : ℕ) (s : SessionState) → slice_get (run opening events).now.sessions session ≡ Some s → is_attempting s.step ≡ true
    → AsksForSought (mail_past opening session events).task s.attempt s.attempt.step

-- in a life of a store that was opened
module _ (life : BegunLife) where
  abbrev Enabled : List Event → Type 0
  Enabled events = AreEnabled (home_of_world life.opening) life.ghosts (mapped life.opening events)

  abbrev log_behind : List Event → Log
  log_behind events = (life_ghosts life.opening life.ghosts events).log

  -- it stays so
  there_stays : (event : Event) (before : List Event) (a : ℕ) → Enabled (event ∷ before) → IsThere life.opening life.ghosts before a → IsThere life.opening life.ghosts (event ∷ before) a
  unfolding run
  there_stays event before a enabled its =
      let fixed = flushed_fixed life before a its.flushed in
      record {
        cell = its.cell;
        published = (life_stays life.opening life.map life.number life.ghosts (event ∷ []) before a its.cell life.begins.log enabled (record { there = its.published; fixed = fixed })).there;
        flushed = lower a (levels_of (run life.opening before).now.words).flushed _ its.flushed (life_rises life.opening life.start before (event ∷ []) life.begins.store.now).flushed;
      }

  -- what an attempt seeks on the device is there
  sought_there : (events : List Event) (session : ℕ) (s : SessionState) (it : DiskRecord) → Enabled events
      → AreKnown life.opening life.ghosts events → slice_get (run life.opening events).now.sessions session ≡ Some s → is_attempting s.step ≡ true
      → s.attempt.pending.sought ≡ Some it → IsThere life.opening life.ghosts events it.addr.0
  sought_there events session s it enabled known found attempts sought =
      let home : ℕ → ℕ = home_of_world life.opening in
      let log : Log = log_behind events in
      let key : ℕ = key_in s.attempt.pending.request in
      let knows : AttemptKnows home log s.attempt = (known_now life.opening life.ghosts events known session s found).attempted attempts in
      let floor : ℕ = floor_in s.attempt.pending.request in
      let sought_so : ComesLive home log floor key (entry_addr it.entry) it.addr.0 (head_in s.attempt.seen) = subst (SoughtKnows home log floor key (head_in s.attempt.seen)) sought knows.pending.sought in
      let comes = sought_so.comes in
      let held = run_held home life.map life.number life.ghosts (mapped life.opening events) life.begins.log enabled in
      let its = in_chain home log (home key) it.addr.0 held.chains comes.some comes.way.within in
      let head : s.seen.offsets.head.0 ≤ (levels_of (run life.opening events).now.words).flushed = head_flushed life.opening life.start events session s life.begins.store.now found (attempting_is s.step attempts) in
      let below : it.addr.0 < s.seen.offsets.head.0 = subst (λ (seen : Seen). it.addr.0 < head_in seen) (life_seen life.opening life.start events session s life.begins.world life.begins.store.now found attempts) comes.below in
      record { cell = its.0; published = its.1; flushed = lower it.addr.0 s.seen.offsets.head.0 _ below head }

  -- so is what a session is about to ask for
  about_there : AsksLaw life.opening → (before : List Event) (session : ℕ) (addr : Addr) → Enabled before
      → AreKnown life.opening life.ghosts before → IsAboutToAsk life.opening session before addr → IsThere life.opening life.ghosts before addr.0
  about_there law before session addr enabled known about =
      let s : SessionState = about.asker in
      let task : Option MailTask = (mail_past life.opening session before).task in
      let puts = asks_by_put s (life_mails life.opening life.start before session s life.begins.world life.begins.store.now about.there) about.under_way in
      let knows : AttemptKnows (home_of_world life.opening) (log_behind before) s.attempt = (known_now life.opening life.ghosts before known session s about.there).attempted puts.attempts in
      let row : PutsSought s.attempt.pending.sought s.attempt.mailing = subst (AttemptRow (home_of_world life.opening) (log_behind before) s.attempt) puts.puts knows.row in
      let seeks = sought_of s.attempt.pending.sought s.attempt.mailing row in
      let its_task : AsksForSought task s.attempt Puts = subst (AsksForSought task s.attempt) puts.puts (law before session s about.there puts.attempts) in
      let same : Put seeks.0.addr ≡ Put addr = some_same (Put seeks.0.addr) (Put addr) (sym (its_task puts.stores seeks.0 seeks.1) ∙ about.its_task) in
      subst (λ (at : Addr). IsThere life.opening life.ghosts before at.0) (same_put seeks.0.addr addr same) (sought_there before session s seeks.0 enabled known about.there puts.attempts seeks.1)

  -- and what is asked for
  pub asked_there : AsksLaw life.opening → (events : List Event) (session : ℕ) (addr : Addr) → mail_shows.IsOpened life.opening.now session → Enabled events → AreKnown life.opening life.ghosts events
      → outstanding (mail_notes life.opening session events) ≡ Some addr → IsThere life.opening life.ghosts events addr.0
  unfolding AreKnown mail.mapped past_of outstanding
  asked_there law [] session addr opened enabled known e = none_some addr e
  asked_there law (event ∷ before) session addr opened enabled known e =
      let enabled_before : Enabled before = life_enabled_before life.opening life.ghosts (event ∷ []) before enabled in
      elim (was_or_comes life.opening session opened event before addr e) [
        | inl was ↦ there_stays event before addr.0 enabled (asked_there law before session addr opened enabled_before known.0 was)
        | inr about ↦ there_stays event before addr.0 enabled (about_there law before session addr enabled_before known.0 about)
      ]
