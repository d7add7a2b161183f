-- What each event of a life does to the mailbox.
use Rattle.std.proofs.Common.{◌≡◌, ℕ, ◌<◌, ◌∙◌, inl, inr, refl, sym, ap, subst, arith, List, length, Bool, true, false}
use Rattle.std.specs.Prelude.{◌==◌, Option, Some, None, slice_get}
use Rattle.std.proofs.lemmas.Bool.Decides.{nat_tests}
use Rattle.fkv_map.specs.declared.operations.Call.{Call}
use Rattle.fkv_map.specs.declared.operations.Call.TheVariants.{Refresh}
use Rattle.fkv_plane.specs.declared.asks.Ask.{Ask}
use Rattle.fkv_plane.specs.declared.places.SessionWord.TheVariants as own
use Rattle.fkv_plane.specs.Asked.{words_after}
use Rattle.fkv_plane.specs.Places.{session_place}
use Rattle.law_world.specs.Below.fkv_flush.TheServing.{Serving}
use Rattle.law_world.specs.Below.fkv_flush.TheServing.TheVariants as serve
use Rattle.law_world.specs.Below.fkv_flush.Serving.{serve_ask}
use Rattle.law_world.specs.Below.fkv_keeper.Keeping.{KeeperState, keeper_ask}
use Rattle.law_world.specs.Below.fkv_keeper.KeeperRun.{is_in_hand}
use Rattle.law_world.specs.Below.fkv_pending.TheMailing.{Mailing}
use Rattle.law_world.specs.Below.fkv_pending.Mailing.{mail_ask}
use Rattle.law_world.specs.Below.fkv_pending.MailWorld.{Mailbox, mailbox_of, Keeping, GivesHeader, GivesKey, GivesValue, GivesReady, MailWorld, Moves as MailMoves, Serves, keeper_words, mail_happens}
use Rattle.law_world.specs.Below.fkv_pending.Mailbox.{SessionChanges, KeeperChanges, AtEachMoment, ChangesAreKept}
use Rattle.law_world.specs.Below.fkv_session.Sessions.{SessionState, session_ask}
use Rattle.law_world.specs.Below.fkv_world.Runs.{World, happens, run}
use Rattle.law_world.specs.Below.fkv_world.World.{Event, Calls, Moves, Commits, Turns, KeeperMoves, Crashes, Now, seat_at, session_calls, life_goes}
use Rattle.law_world.proofs.Below.fkv_world.Shown.{is_over, lives}
use Rattle.law_world.proofs.OfRuns.OneWord.{keeper_writes, session_writes}
use Rattle.law_world.proofs.OfRuns.Nothing.{no_session}
use Rattle.law_refine.specs.Mail.MailEvents.{mapped}
use Rattle.law_refine.specs.Mail.Mailers.{session_mailing, IsAsFar}
use Rattle.law_refine.specs.Mail.Reads.{mail_past, ChangesBy, EachChangesBy}
use Rattle.law_refine.specs.Mail.Servers.{serving_of, is_serving, ServesIt, record_of}
use Rattle.law_refine.specs.Footprint.{Spares, TheMailbox}
use Rattle.law_refine.specs.Mail.Shows.{SessionSpares, IsOpened, Shows, seen_by_mailbox}
use Rattle.law_refine.proofs.OfMail.Permitted.{is_permitted, broken_rests, its_seat}
use Rattle.law_refine.proofs.OfMail.KeeperServes.{is_at, serve_words}
use Rattle.law_refine.proofs.OfMail.Lives.{life_sound, life_holds, life_shows}
use Rattle.law_refine.proofs.OfMail.MailSteps.{loaded, spared_ask}
use Rattle.law_refine.proofs.OfMail.Moved.{own_words}
use Rattle.law_refine.proofs.OfMail.Worlds.{own_keeps, last_part}

test_same : (session number : ℕ) → (number == session) ≡ true → number ≡ session
test_same session number e = grind (arith, nat_tests, e)

test_apart : (session number : ℕ) → (number == session) ≡ false → number ≡ session → ⊥
test_apart session number e same = let clash : (number == session) ≡ true = grind (arith, nat_tests, same) in let both : true ≡ false = sym clash ∙ e in cc

called_words : (n : Now) (number : ℕ) (call : Call) (found : Option SessionState) → (session_calls n number call found).words ≡ n.words
called_words n number call None = refl
called_words n number call (Some s) = refl

-- the words after a step
abbrev SessionThen : List ℕ → ℕ → Mailing → Type 0
SessionThen words session step = SessionChanges (mailbox_of words session) (mailbox_of (words_after words (mail_ask session step)) session)

abbrev KeeperThen : List ℕ → ℕ → Keeping → Type 0
KeeperThen words session step = KeeperChanges (mailbox_of words session) (mailbox_of (keeper_words session words step) session)

module _ (changes : AtEachMoment ChangesAreKept) (opening : World) (session : ℕ) (before : List Event) (opened : IsOpened opening.now session) where
  abbrev v : World
  v = run opening before

  abbrev n : Now
  n = v.now

  abbrev w : MailWorld
  w = seen_by_mailbox opening session before

  shown : Shows n session w
  shown = life_shows opening session before opened

  enough : session_place session own.MailValue < length n.words
  enough = subst (λ (x : List ℕ). session_place session own.MailValue < length x) shown.words (subst (λ (x : ℕ). session_place x own.MailValue < length w.words) shown.session_same (life_sound opening session before opened).enough_words)

  abbrev box : Mailbox
  box = mailbox_of n.words session

  -- an event that leaves the words as they are, and one that asks for another word
  still : (event : Event) → (happens v event).now.words ≡ n.words → mailbox_of (happens v event).now.words session ≡ box
  still event same = ap (λ (x : List ℕ). mailbox_of x session) same

  spared : {A : Type 0} (event : Event) (ask : Ask A) → (happens v event).now.words ≡ words_after n.words ask → Spares (TheMailbox session) n.places ask → mailbox_of (happens v event).now.words session ≡ box
  spared event ask words spares = ap (λ (x : List ℕ). mailbox_of x session) words ∙ spared_ask n.words session enough n.places ask (its_seat opening session before opened) spares

  -- the mailbox's session
  own_changes : (s : SessionState) → slice_get n.sessions session ≡ Some s → (step : Mailing) → session_mailing s ≡ Some step → SessionThen n.words session step
  unfolding mail_happens
  own_changes s there step e =
      let law : SessionThen w.words w.session w.mailing = changes session opening.now.words (mapped opening session before) opened.mail MailMoves in
      let far : IsAsFar (Some step) w.mailing = subst (λ (x : Option Mailing). IsAsFar x w.mailing) e (shown.mailing s there) in
      subst (λ (x : Mailing). SessionThen n.words session x) far.0
      (subst (λ (x : ℕ). SessionThen n.words x w.mailing) shown.session_same (subst (λ (x : List ℕ). SessionThen x w.session w.mailing) shown.words law))

  permitted_moves : (number : ℕ) (s : SessionState) → slice_get n.sessions number ≡ Some s → (number ≡ session → session_mailing s ≡ None) → Spares (TheMailbox session) n.places (session_ask (seat_at n number) s)
  permitted_moves number s there none = subst (λ (found : Option SessionState). SessionSpares n session number found) there (is_permitted opening session before (Moves number) opened) none

  session_part : (s : SessionState) → n.crashed ≡ false → slice_get n.sessions session ≡ Some s → SessionChanges box (mailbox_of (happens v (Moves session)).now.words session)
  session_part s alive there = by_task (session_mailing s) refl
    where
      by_task : (found : Option Mailing) → session_mailing s ≡ found → SessionChanges box (mailbox_of (happens v (Moves session)).now.words session)
      by_task None e = inl (spared (Moves session) (session_ask (seat_at n session) s) (session_writes v session s alive there) (permitted_moves session s there (λ same. e)))
      by_task (Some step) e =
          subst (λ (x : List ℕ). SessionChanges box (mailbox_of x session)) (sym (session_writes v session s alive there ∙ own_words (seat_at n session) s step n.words e)) (own_changes s there step e)

  moves_part : (number : ℕ) (found : Option SessionState) → n.crashed ≡ false → slice_get n.sessions number ≡ found → ChangesBy session (Moves number) box (mailbox_of (happens v (Moves number)).now.words session)
  moves_part number None alive there = inl (still (Moves number) (ap (λ (x : World). x.now.words) (no_session v number Refresh there).1))
  moves_part number (Some s) alive there = by_number (number == session) refl
    where
      by_number : (c : Bool) → (number == session) ≡ c → ChangesBy session (Moves number) box (mailbox_of (happens v (Moves number)).now.words session)
      by_number true e =
          let same : number ≡ session = test_same session number e in
          inr (same, subst (λ (x : ℕ). SessionChanges box (mailbox_of (happens v (Moves x)).now.words session)) (sym same) (session_part s alive (ap (slice_get n.sessions) (sym same) ∙ there)))
      by_number false e = inl (spared (Moves number) (session_ask (seat_at n number) s) (session_writes v number s alive there) (permitted_moves number s there (λ same. absurd (test_apart session number e same))))

  -- the keeper
  served_changes : (keeping : Keeping) → w.keeping ≡ keeping → KeeperThen n.words session keeping
  unfolding mail_happens
  served_changes keeping e =
      let law : KeeperThen w.words w.session w.keeping = changes session opening.now.words (mapped opening session before) opened.mail (Serves (record { header = 0; key = record { 0 = 0 }; value = 0 })) in
      subst (λ (x : Keeping). KeeperThen n.words session x) e
      (subst (λ (x : ℕ). KeeperThen n.words x w.keeping) shown.session_same (subst (λ (x : List ℕ). KeeperThen x w.session w.keeping) shown.words law))

  abbrev ServedThen : Serving → Type 0
  ServedThen step = KeeperChanges box (mailbox_of (words_after n.words (serve_ask step)) session)

  serve_part : (step : Serving) → is_serving session step ≡ true → ServesIt step w.keeping → ServedThen step
  unfolding serve_ask
  serve_part serve.AtRest at keeps = inl refl
  serve_part (serve.LoadsState number) at keeps = inl (ap (λ (x : List ℕ). mailbox_of x session) (loaded n.words (session_place number own.MailState)))
  serve_part (serve.LoadsAddress number) at keeps = inl (ap (λ (x : List ℕ). mailbox_of x session) (loaded n.words (session_place number own.MailAddress)))
  serve_part (serve.Reads number addr) at keeps = inl refl
  serve_part (serve.StoresHeader number mail) at keeps = subst (λ (x : ℕ). ServedThen (serve.StoresHeader x mail)) (sym (test_same session number at)) (served_changes (GivesHeader keeps.0 (record_of mail.header mail.key mail.value)) keeps.1)
  serve_part (serve.StoresKey number mail) at keeps = subst (λ (x : ℕ). ServedThen (serve.StoresKey x mail)) (sym (test_same session number at)) (served_changes (GivesKey keeps.0 (record_of mail.header mail.key mail.value)) keeps.1)
  serve_part (serve.StoresValue number mail) at keeps = subst (λ (x : ℕ). ServedThen (serve.StoresValue x mail)) (sym (test_same session number at)) (served_changes (GivesValue keeps.0 (record_of mail.header mail.key mail.value)) keeps.1)
  serve_part (serve.StoresReady number) at keeps = subst (λ (x : ℕ). ServedThen (serve.StoresReady x)) (sym (test_same session number at)) (served_changes (GivesReady keeps.0 keeps.1) keeps.2)

  keeper_part : (granted done : Bool) → n.crashed ≡ false → KeeperChanges box (mailbox_of (happens v (KeeperMoves granted done)).now.words session)
  keeper_part granted done alive = by_serving (is_serving session (serving_of n.keeper)) refl
    where
      rests : n.keeper.is_broken ≡ true → is_in_hand n.keeper.step ≡ false
      rests broken = broken_rests opening before opened.keeper broken

      by_serving : (c : Bool) → is_serving session (serving_of n.keeper) ≡ c → KeeperChanges box (mailbox_of (happens v (KeeperMoves granted done)).now.words session)
      by_serving true e =
          let last = last_part v session w (mail_past opening session before) granted done alive rests (life_holds opening session before opened) (life_sound opening session before opened) e in
          let words : (happens v (KeeperMoves granted done)).now.words ≡ words_after n.words (serve_ask (serving_of n.keeper)) =
          keeper_writes v granted done alive
          ∙ ap (λ (x : KeeperState). words_after n.words (keeper_ask n.shape n.places x)) (is_at n.keeper last)
          ∙ serve_words n.shape n.places n.keeper n.words (serving_of n.keeper) in
          subst (λ (x : List ℕ). KeeperChanges box (mailbox_of x session)) (sym words)
          (serve_part (serving_of n.keeper) e (own_keeps v session w (mail_past opening session before) granted done alive rests (life_holds opening session before opened) (life_sound opening session before opened) e))
      by_serving false e = inl (spared (KeeperMoves granted done) (keeper_ask n.shape n.places n.keeper) (keeper_writes v granted done alive) (is_permitted opening session before (KeeperMoves granted done) opened e))

  -- every event
  alive_part : (event : Event) → n.crashed ≡ false → ChangesBy session event box (mailbox_of (happens v event).now.words session)
  unfolding life_goes
  alive_part (Calls number call) alive = still (Calls number call) (ap (λ (x : Now). x.words) (lives v (Calls number call) alive) ∙ called_words n number call (slice_get n.sessions number))
  alive_part (Moves number) alive = moves_part number (slice_get n.sessions number) alive refl
  alive_part (KeeperMoves granted done) alive = keeper_part granted done alive
  alive_part (Commits kind) alive = still (Commits kind) (ap (λ (x : Now). x.words) (lives v (Commits kind) alive))
  alive_part Turns alive = still Turns (ap (λ (x : Now). x.words) (lives v Turns alive))
  alive_part Crashes alive = still Crashes (ap (λ (x : Now). x.words) (lives v Crashes alive))

  nothing : (event : Event) → mailbox_of (happens v event).now.words session ≡ box → ChangesBy session event box (mailbox_of (happens v event).now.words session)
  nothing (Calls number call) same = same
  nothing (Moves number) same = inl same
  nothing (KeeperMoves granted done) same = inl same
  nothing (Commits kind) same = same
  nothing Turns same = same
  nothing Crashes same = same

  event_part : (event : Event) → ChangesBy session event box (mailbox_of (happens v event).now.words session)
  event_part event = by_crash n.crashed refl
    where
      by_crash : (c : Bool) → n.crashed ≡ c → ChangesBy session event box (mailbox_of (happens v event).now.words session)
      by_crash true e = nothing event (still event (ap (λ (x : World). x.now.words) (is_over v event e)))
      by_crash false e = alive_part event e

pub each_changes : AtEachMoment ChangesAreKept → EachChangesBy
unfolding run
each_changes changes opening session events event opened = event_part changes opening session events opened event
