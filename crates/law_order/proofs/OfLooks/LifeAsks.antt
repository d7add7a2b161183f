-- Over a life: an address comes to be asked for by a step of its session alone, the one that stores that it asks.
use Rattle.std.proofs.Common.{◌≡◌, ◌⊎◌, ℕ, ◌^◌, ◌∙◌, inl, inr, refl, sym, ap, subst, arith, Bool, true, false, List, [], ◌∷◌, ◌++◌}
use Rattle.std.specs.Prelude.{◌==◌, nat_lt, if◌then◌else◌, Option, Some, None, slice_get}
use Rattle.std.proofs.lemmas.Bool.Decides.{nat_tests}
use Rattle.std.proofs.lemmas.List.{append_assoc}
use Rattle.fkv_base.specs.declared.numbers.Addr.{Addr}
use Rattle.law_commit.specs.Below.fkv_flush.TheServing.{Serving}
use Rattle.law_commit.specs.Below.fkv_flush.TheServing.TheVariants as serve
use Rattle.law_commit.specs.Below.fkv_keeper.Keeping.{keeper_ask}
use Rattle.fkv_map.specs.declared.operations.Call.{Call}
use Rattle.fkv_plane.specs.declared.asks.Ask.{Ask}
use Rattle.fkv_plane.specs.declared.asks.Ask.TheVariants.{Load, Store, Swap, Cas, Add, Max, Put, Take, Done}
use Rattle.law_commit.specs.Below.fkv_pending.MailRecord.{MailRecord}
use Rattle.law_commit.specs.Below.fkv_pending.MailTask.TheVariants as task
use Rattle.law_commit.specs.Below.fkv_pending.TheMailing.{Mailing}
use Rattle.law_commit.specs.Below.fkv_pending.TheMailing.TheVariants as mailing
use Rattle.law_commit.specs.Below.fkv_pending.Mailbox.{past_of}
use Rattle.law_commit.specs.Below.fkv_pending.MailWorld.{mailbox_of, MailWorld, MailEvent, Begins, BeginsPut, Moves as MailMoves, Serves, Changes, mail_run}
use Rattle.law_commit.proofs.Below.fkv_pending.Shown.{IsSound, moment_sound}
use Rattle.law_commit.specs.Below.fkv_session.Sessions.{SessionState, is_busy, session_ask}
use Rattle.law_commit.specs.Below.fkv_world.Moves.{session_moved}
use Rattle.law_commit.specs.Below.fkv_world.Runs.{World, read_by_keeper, run}
use Rattle.law_commit.specs.Below.fkv_world.World.{Event, Calls, Moves, Commits, Turns, KeeperMoves, Crashes, Now, seat_at, near, session_called}
use Rattle.law_commit.specs.Below.law_refine.Mail.MailEvents.{begins, changed_by, asked_by, own_events, moved_events, begun_events, called_events, loaded_events, served_events, record_gone, record_read, keeper_events, life_events, mail_events, mapped}
use Rattle.law_commit.specs.Below.law_refine.Mail.Mailers.{IsAsFar, session_mailing}
use Rattle.law_commit.specs.Below.law_refine.Mail.Reads.{mail_notes, mail_past}
use Rattle.law_commit.specs.Below.law_refine.Mail.Servers.{serving_of, begin_of, is_serving}
use Rattle.law_commit.specs.Below.law_refine.Mail.Shows.{IsOpened, mail_opening, seen_by_mailbox}
use Rattle.law_commit.proofs.Below.law_refine.OfMail.Lives.{life_shows}
use Rattle.law_order.specs.Asked.Asked.{outstanding}
use Rattle.law_order.proofs.OfLooks.Asking.{NoMoves, others_out, step_out}

-- ---- events that are none of the session's steps
begins_none : (its : Option Mailing) → NoMoves (begins its)
begins_none None = tt
begins_none (Some (mailing.LoadsState its)) = tt
begins_none (Some (mailing.StoresAddress addr)) = tt
begins_none (Some (mailing.Ended its)) = tt
begins_none (Some mailing.LoadsHeader) = tt
begins_none (Some (mailing.LoadsKey header)) = tt
begins_none (Some (mailing.LoadsValue header key)) = tt
begins_none (Some (mailing.StoresEmpty its)) = tt
begins_none (Some mailing.StoresAsked) = tt

changed_none : {A : Type 0} (words : List ℕ) (ask : Ask A) → NoMoves (changed_by words ask)
changed_none words (Load place) = tt
changed_none words (Store place new) = tt
changed_none words (Swap place new) = tt
changed_none words (Cas place old new) = tt
changed_none words (Add place k) = tt
changed_none words (Max place k) = tt
changed_none words (Put slot action) = tt
changed_none words (Take slot) = tt
changed_none words (Done its) = tt

append_none : (later before : List MailEvent) → NoMoves later → NoMoves before → NoMoves (later ++ before)
append_none [] before one other = other
append_none (MailMoves ∷ later) before one other = absurd one
append_none (Begins its ∷ later) before one other = append_none later before one other
append_none (BeginsPut addr ∷ later) before one other = append_none later before one other
append_none (Serves given ∷ later) before one other = append_none later before one other
append_none (Changes place word ∷ later) before one other = append_none later before one other

either_none : (c : Bool) (a b : List MailEvent) → NoMoves a → NoMoves b → NoMoves (if c then a else b)
either_none true a b one other = one
either_none false a b one other = other

called_none : (n : Now) (session number : ℕ) (call : Call) (found : Option SessionState) → NoMoves (called_events n session number call found)
called_none n session number call None = tt
called_none n session number call (Some s) =
    either_none (number == session) (begun_events n session call s) [] (either_none (is_busy s.step) [] (begins (session_mailing (session_called (seat_at n session) s call))) tt (begins_none _)) tt

loaded_none : (begin : ℕ) (given : MailRecord) (addr : ℕ) → NoMoves (loaded_events begin given addr)
loaded_none begin given addr =
    either_none (nat_lt addr begin) (Serves (record_gone begin) ∷ Serves (record_gone begin) ∷ Serves (record_gone begin) ∷ []) (if nat_lt addr (2 ^ 48) then Serves given ∷ Serves given ∷ [] else []) tt
    (either_none (nat_lt addr (2 ^ 48)) (Serves given ∷ Serves given ∷ []) [] tt tt)

served_none : (begin : ℕ) (given : MailRecord) (done : Bool) (addr : ℕ) (step : Serving) → NoMoves (served_events begin given done addr step)
served_none begin given done addr serve.AtRest = tt
served_none begin given done addr (serve.LoadsState session) = tt
served_none begin given done addr (serve.LoadsAddress session) = loaded_none begin given addr
served_none begin given done addr (serve.Reads session at) = either_none done (Serves given ∷ []) [] tt tt
served_none begin given done addr (serve.StoresHeader session mail) = tt
served_none begin given done addr (serve.StoresKey session mail) = tt
served_none begin given done addr (serve.StoresValue session mail) = tt
served_none begin given done addr (serve.StoresReady session) = tt

keeper_none : (n : Now) (read : List ℕ) (session : ℕ) (done : Bool) → NoMoves (keeper_events n read session done)
keeper_none n read session done =
    either_none (is_serving session (serving_of n.keeper)) (served_events (begin_of n.keeper) (record_read read) done (mailbox_of n.words session).addr (serving_of n.keeper)) (changed_by n.words (keeper_ask n.shape n.places n.keeper))
    (served_none (begin_of n.keeper) (record_read read) done (mailbox_of n.words session).addr (serving_of n.keeper)) (changed_none n.words (keeper_ask n.shape n.places n.keeper))

-- ---- the session is about to store that it asks, for the record at this address
pub record IsAboutToAsk (opening : World) (session : ℕ) (events : List Event) (addr : Addr) : Type 0 where
  pub asker : SessionState
  pub there : slice_get (run opening events).now.sessions session ≡ Some asker
  pub under_way : session_mailing asker ≡ Some mailing.StoresAsked
  pub its_task : (mail_past opening session events).task ≡ Some (task.Put addr)

module _ (opening : World) (session : ℕ) (opened : IsOpened opening.now session) where
  abbrev first : MailWorld
  first = mail_opening opening session

  sound_at : (before : List MailEvent) → IsSound (mail_run first before) (past_of first before)
  sound_at before = moment_sound session opening.now.words before opened.mail

  abbrev IsOut : List MailEvent → Addr → Type 0
  IsOut events addr = outstanding (past_of first events).notes ≡ Some addr

  -- an address is asked for behind these events: it was before, or comes now
  abbrev WasOrComes : List Event → Addr → Type 0
  WasOrComes before addr = IsOut (mapped opening session before) addr ⊎ IsAboutToAsk opening session before addr

  by_others : (before : List Event) (later : List MailEvent) (addr : Addr) → NoMoves later → IsOut (later ++ mapped opening session before) addr → WasOrComes before addr
  by_others before later addr none e = inl (others_out first sound_at later (mapped opening session before) addr none e)

  far_same : (step its : Mailing) → IsAsFar (Some step) its → its ≡ mailing.StoresAsked → step ≡ mailing.StoresAsked
  far_same step its far same = sym far.0 ∙ same

  by_own : (before : List Event) (s : SessionState) (its : Option Mailing) (found : Option Mailing) (addr : Addr) → slice_get (run opening before).now.sessions session ≡ Some s → session_mailing s ≡ found
      → IsOut ((begins its ++ asked_by (run opening before).now.words found (session_ask (seat_at (run opening before).now session) s)) ++ mapped opening session before) addr → WasOrComes before addr
  by_own before s its None addr there under_way e =
      let ask = session_ask (seat_at (run opening before).now session) s in
      by_others before (begins its ++ changed_by (run opening before).now.words ask) addr (append_none (begins its) (changed_by (run opening before).now.words ask) (begins_none its) (changed_none (run opening before).now.words ask)) e
  by_own before s its (Some step) addr there under_way e =
      let moved : IsOut (begins its ++ (MailMoves ∷ mapped opening session before)) addr = subst (λ (es : List MailEvent). IsOut es addr) (append_assoc (begins its) (MailMoves ∷ []) (mapped opening session before)) e in
      let far : IsAsFar (Some step) (seen_by_mailbox opening session before).mailing = subst (λ (x : Option Mailing). IsAsFar x (seen_by_mailbox opening session before).mailing) under_way ((life_shows opening session before opened).mailing s there) in
      elim (step_out first sound_at (mapped opening session before) addr (others_out first sound_at (begins its) (MailMoves ∷ mapped opening session before) addr (begins_none its) moved)) [
        | inl was ↦ inl was
        | inr now ↦ inr (record {
          asker = s;
          there = there;
          under_way = under_way ∙ ap Some (far_same step (seen_by_mailbox opening session before).mailing far now.its_step);
          its_task = now.its_task;
        })
      ]

  by_session : (before : List Event) (number : ℕ) (found : Option SessionState) (addr : Addr) → slice_get (run opening before).now.sessions number ≡ found
      → IsOut (moved_events (run opening before).now session number found ++ mapped opening session before) addr → WasOrComes before addr
  by_session before number None addr there e = inl e
  by_session before number (Some s) addr there e = by_number (number == session) refl e
    where
      n : Now
      n = (run opening before).now

      by_number : (c : Bool) → (number == session) ≡ c → IsOut ((if c then own_events n session s else changed_by n.words (session_ask (seat_at n number) s)) ++ mapped opening session before) addr → WasOrComes before addr
      by_number true same e =
          let its : number ≡ session = grind (arith, nat_tests, same) in
          by_own before s (session_mailing (session_moved (seat_at n session) (near n s)).machine) (session_mailing s) addr (ap (slice_get n.sessions) (sym its) ∙ there) refl e
      by_number false other e = by_others before (changed_by n.words (session_ask (seat_at n number) s)) addr (changed_none n.words (session_ask (seat_at n number) s)) e

  alive_out : (event : Event) (before : List Event) (addr : Addr) → IsOut (life_events (run opening before).now (read_by_keeper (run opening before)) session event ++ mapped opening session before) addr → WasOrComes before addr
  unfolding life_events
  alive_out (Calls number call) before addr e =
      let n : Now = (run opening before).now in
      by_others before (called_events n session number call (slice_get n.sessions number)) addr (called_none n session number call (slice_get n.sessions number)) e
  alive_out (Moves number) before addr e = by_session before number (slice_get (run opening before).now.sessions number) addr refl e
  alive_out (KeeperMoves granted done) before addr e =
      let n : Now = (run opening before).now in
      by_others before (keeper_events n (read_by_keeper (run opening before)) session done) addr (keeper_none n (read_by_keeper (run opening before)) session done) e
  alive_out (Commits kind) before addr e = inl e
  alive_out Turns before addr e = inl e
  alive_out Crashes before addr e = inl e

  event_out : (event : Event) (before : List Event) (addr : Addr) → IsOut (mail_events (run opening before).now (read_by_keeper (run opening before)) session event ++ mapped opening session before) addr → WasOrComes before addr
  event_out event before addr e = by_crash (run opening before).now.crashed e
    where
      by_crash : (c : Bool) → IsOut ((if c then [] else life_events (run opening before).now (read_by_keeper (run opening before)) session event) ++ mapped opening session before) addr → WasOrComes before addr
      by_crash true e = inl e
      by_crash false e = alive_out event before addr e

  pub was_or_comes : (event : Event) (before : List Event) (addr : Addr) → outstanding (mail_notes opening session (event ∷ before)) ≡ Some addr → (outstanding (mail_notes opening session before) ≡ Some addr) ⊎ IsAboutToAsk opening session before addr
  unfolding mapped
  was_or_comes event before addr e = event_out event before addr e
