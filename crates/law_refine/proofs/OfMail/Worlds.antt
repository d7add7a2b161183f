-- Each event of the engine keeps what the mailbox's world shows of it, and so does every life.
use Rattle.std.proofs.Common.{◌≡◌, ℕ, ◌<◌, ◌∙◌, refl, sym, ap, subst, arith, List, [], length, Bool, true, false}
use Rattle.std.specs.Prelude.{if◌then◌else◌, ◌==◌, Option, Some, None, slice_get, slice_set}
use Rattle.std.proofs.lemmas.Bool.Decides.{nat_tests}
use Rattle.fkv_map.specs.declared.operations.Call.{Call}
use Rattle.fkv_plane.specs.declared.asks.Ask.{Ask}
use Rattle.fkv_plane.specs.declared.places.SessionWord.TheVariants as own
use Rattle.fkv_plane.specs.Asked.{words_after, reply_to}
use Rattle.fkv_plane.specs.Places.{session_place}
use Rattle.law_world.specs.Below.fkv_flush.TheServing.{Serving}
use Rattle.law_world.specs.Below.fkv_flush.TheServing.TheVariants as serve
use Rattle.law_world.specs.Below.fkv_flush.Serving.{serve_ask}
use Rattle.law_world.specs.Below.fkv_keeper.KeeperTold.{KeeperTold}
use Rattle.law_world.specs.Below.fkv_keeper.KeeperRun.{is_in_hand, keeper_run}
use Rattle.law_world.specs.Below.fkv_keeper.Keeping.{KeeperState, keeper_ask}
use Rattle.law_world.specs.Below.fkv_pending.TheMailing.{Mailing}
use Rattle.law_world.specs.Below.fkv_pending.Mailing.{mail_asked, mail_ask, mail_next}
use Rattle.law_world.specs.Below.fkv_pending.MailWorld.{Mailbox, mailbox_of, Keeping, FindsState, MailWorld, MailEvent, mail_run}
use Rattle.law_world.specs.Below.fkv_pending.Mailbox.{MailPast}
use Rattle.law_world.proofs.Below.fkv_pending.Shown.{IsSound, KnowsMail, moved_box}
use Rattle.law_world.specs.Below.fkv_session.Told.{Told}
use Rattle.law_world.specs.Below.fkv_session.Sessions.{SessionState, Seat, is_busy, session_ask, session_begun}
use Rattle.law_world.specs.Below.fkv_world.Moves.{Near, session_moved}
use Rattle.law_world.specs.Below.fkv_world.OwnEvents.{keeper_part}
use Rattle.law_world.specs.Below.fkv_world.Runs.{World, read_by_keeper, happens}
use Rattle.law_world.specs.Below.fkv_world.World.{Moves, KeeperMoves, Now, seat_at, near, with_session, keeper_asked, session_calls, session_moves, life_goes}
use Rattle.law_world.proofs.Below.fkv_world.Shown.{happens_keeper, lives}
use Rattle.law_world.proofs.OfRuns.OneWord.{keeper_writes, session_writes}
use Rattle.law_refine.specs.Mail.MailEvents.{begins, changed_by, asked_by, own_events, moved_events, begun_events, called_events, served_events, record_read, keeper_events}
use Rattle.law_refine.specs.Mail.Mailers.{session_mailing, IsAsFar}
use Rattle.law_refine.specs.Mail.Servers.{serving_of, begin_of, is_serving, ServesIf, KeepsUp}
use Rattle.law_refine.specs.Footprint.{Spares, TheMailbox}
use Rattle.law_refine.specs.Mail.Shows.{SessionSpares}
use Rattle.law_refine.proofs.Items.{Here, There, set_at}
use Rattle.law_refine.proofs.OfMail.AttemptSits.{begun, moved_of}
use Rattle.law_refine.proofs.OfMail.KeeperKeeps.{FindsAsked, finds_on, idle_keeps, idle_finds, other_keeps, other_finds, IsGiven, ServedOwn, own_served}
use Rattle.law_refine.proofs.OfMail.KeeperServes.{IsIdle, is_at_serve, serves_none, at_serve, is_at, serve_after, steps_of, beside, serves_on, idles_on, serve_words, read_given, ended_stays, serve_in_hand}
use Rattle.law_refine.proofs.OfMail.MailSteps.{runs_on, begins_run, changed_run, moves_run, spared_ask, asked_stays}
use Rattle.law_refine.proofs.OfMail.Moved.{own_words, own_reply, moves_on}
use Rattle.law_refine.proofs.OfMail.SessionSits.{SessionSits, SessionLeads, session_begun_leads, idle_ends, sits_far}

-- what stands between events
pub record Holds (n : Now) (session : ℕ) (w : MailWorld) : Type 0 where
  pub session_same : w.session ≡ session
  pub words : w.words ≡ n.words
  pub sits : (s : SessionState) → slice_get n.sessions session ≡ Some s → SessionSits s w.mailing
  pub serves : n.keeper.is_broken ≡ false → KeepsUp session (serving_of n.keeper) w.keeping
  pub finds : n.keeper.is_broken ≡ false → FindsAsked session (serving_of n.keeper) (mailbox_of n.words session)

-- what is known of the mailbox beside that
record Known (n : Now) (session : ℕ) (w : MailWorld) (past : MailPast) : Type 0 where
  enough : session_place session own.MailValue < length n.words
  knows : KnowsMail (mailbox_of n.words session) past.task w.mailing

known : (n : Now) (session : ℕ) (w : MailWorld) (past : MailPast) → Holds n session w → IsSound w past → Known n session w past
known n session w past holds sound = record {
  enough = subst (λ (x : List ℕ). session_place session own.MailValue < length x) holds.words (subst (λ (x : ℕ). session_place x own.MailValue < length w.words) holds.session_same sound.enough_words);
  knows = subst (λ (x : List ℕ). KnowsMail (mailbox_of x session) past.task w.mailing) holds.words (subst (λ (x : ℕ). KnowsMail (mailbox_of w.words x) past.task w.mailing) holds.session_same sound.kept.session);
}

-- the mailbox's session has gone on
own_sits : (n : Now) (session : ℕ) (after : SessionState) (m : Mailing) → SessionSits after m → (t : SessionState) → slice_get (slice_set n.sessions session after) session ≡ Some t → SessionSits t m
own_sits n session after m sits t at = elim (set_at n.sessions session session after t at) [
  | Here here is ↦ subst (λ (x : SessionState). SessionSits x m) (sym is) sits
  | There other is ↦ absurd (other refl)
]

-- and another has
other_sits : (n : Now) (session number : ℕ) (after : SessionState) (m : Mailing) → (number ≡ session → ⊥) → ((s : SessionState) → slice_get n.sessions session ≡ Some s → SessionSits s m)
    → (t : SessionState) → slice_get (slice_set n.sessions number after) session ≡ Some t → SessionSits t m
other_sits n session number after m apart sits t at = elim (set_at n.sessions number session after t at) [
  | Here here is ↦ absurd (apart (sym here))
  | There other is ↦ sits t is
]

test_same : (number session : ℕ) → (number == session) ≡ true → session ≡ number
test_same number session e = grind (arith, nat_tests, e)

test_apart : (number session : ℕ) → (number == session) ≡ false → number ≡ session → ⊥
test_apart number session e same = let clash : (number == session) ≡ true = grind (arith, nat_tests, same) in let both : true ≡ false = sym clash ∙ e in cc

-- a call that begins
own_called : (n : Now) (session : ℕ) (w : MailWorld) (call : Call) (s : SessionState) → slice_get n.sessions session ≡ Some s → Holds n session w → Holds (session_calls n session call (Some s)) session (mail_run w (begun_events n session call s))
unfolding mail_run
own_called n session w call s there holds = by_busy (is_busy s.step) refl
  where
    k : Seat
    k = seat_at n session

    by_busy : (b : Bool) → is_busy s.step ≡ b
        → Holds (with_session n session (near n (if b then s else session_begun k s call))) session (mail_run w (if b then [] else begins (session_mailing (if b then s else session_begun k s call))))
    by_busy true e = record { session_same = holds.session_same; words = holds.words; sits = own_sits n session s w.mailing (holds.sits s there); serves = holds.serves; finds = holds.finds }
    by_busy false e =
        let after : SessionState = session_begun k s call in
        let leads : SessionLeads after w.mailing = session_begun_leads k s call w.mailing (idle_ends s s.step w.mailing e (holds.sits s there)) in
        subst (λ (x : MailWorld). Holds (with_session n session (near n after)) session x) (sym (begins_run w (session_mailing after)))
        (record { session_same = holds.session_same; words = holds.words; sits = own_sits n session after (begun w.mailing (session_mailing after)) leads; serves = holds.serves; finds = holds.finds })

other_called : (n : Now) (session number : ℕ) (w : MailWorld) (call : Call) (s : SessionState) → (number ≡ session → ⊥) → Holds n session w → Holds (session_calls n number call (Some s)) session w
other_called n session number w call s apart holds = record { session_same = holds.session_same; words = holds.words; sits = other_sits n session number _ w.mailing apart holds.sits; serves = holds.serves; finds = holds.finds }

pub called_holds : (n : Now) (session number : ℕ) (w : MailWorld) (call : Call) (found : Option SessionState) → slice_get n.sessions number ≡ found → Holds n session w → Holds (session_calls n number call found) session (mail_run w (called_events n session number call found))
unfolding mail_run
called_holds n session number w call None there holds = holds
called_holds n session number w call (Some s) there holds = by_number (number == session) refl
  where
    by_number : (c : Bool) → (number == session) ≡ c → Holds (session_calls n number call (Some s)) session (mail_run w (if c then begun_events n session call s else []))
    by_number true e =
        let same = test_same number session e in
        subst (λ (x : ℕ). Holds (session_calls n x call (Some s)) session (mail_run w (begun_events n session call s))) same (own_called n session w call s (ap (λ (x : ℕ). slice_get n.sessions x) same ∙ there) holds)
    by_number false e = other_called n session number w call s (test_apart number session e) holds

-- a session's step: its ask
module _ (n : Now) (session : ℕ) (w : MailWorld) (holds : Holds n session w) (seated : session < n.places.sessions) where
  spared_run : {A : Type 0} (ask : Ask A) → Spares (TheMailbox session) n.places ask → mail_run w (changed_by n.words ask) ≡ record w { words = words_after n.words ask }
  spared_run ask spares =
      subst (λ (x : List ℕ). mail_run w (changed_by x ask) ≡ record w { words = words_after x ask }) holds.words
      (changed_run w n.places ask (subst (λ (x : ℕ). x < n.places.sessions) (sym holds.session_same) seated) (subst (λ (x : ℕ). Spares (TheMailbox x) n.places ask) (sym holds.session_same) spares))

  asked_run : (s : SessionState) (found : Option Mailing) → session_mailing s ≡ found → (found ≡ None → Spares (TheMailbox session) n.places (session_ask (seat_at n session) s)) → IsAsFar found w.mailing
      → mail_run w (asked_by n.words found (session_ask (seat_at n session) s))
      ≡ record w { words = words_after n.words (session_ask (seat_at n session) s); mailing = moved_of found w.mailing (reply_to n.words (session_ask (seat_at n session) s)) }
  asked_run s None e permitted far = spared_run (session_ask (seat_at n session) s) (permitted refl)
  asked_run s (Some its) e permitted far =
      moves_run w
      ∙ ap (λ (x : List ℕ). record w { words = words_after x (mail_ask w.session w.mailing); mailing = mail_next w.mailing (reply_to x (mail_ask w.session w.mailing)) }) holds.words
      ∙ ap (λ (x : ℕ). record w { words = words_after n.words (mail_ask x w.mailing); mailing = mail_next w.mailing (reply_to n.words (mail_ask x w.mailing)) }) holds.session_same
      ∙ ap (λ (x : Mailing). record w { words = words_after n.words (mail_ask session x); mailing = mail_next x (reply_to n.words (mail_ask session x)) }) far.0
      ∙ ap (λ (x : List ℕ). record w { words = x; mailing = mail_next its (reply_to n.words (mail_ask session its)) }) (sym (own_words (seat_at n session) s its n.words e))
      ∙ ap (λ (x : ℕ). record w { words = words_after n.words (session_ask (seat_at n session) s); mailing = mail_next its x }) (sym (own_reply (seat_at n session) s its n.words e))

  asked_on : (past : MailPast) → Known n session w past → (s : SessionState) (found : Option Mailing) → session_mailing s ≡ found → (found ≡ None → Spares (TheMailbox session) n.places (session_ask (seat_at n session) s)) → IsAsFar found w.mailing
      → (mailbox_of n.words session).state ≡ mail_asked → (mailbox_of (words_after n.words (session_ask (seat_at n session) s)) session).state ≡ mail_asked
  asked_on past its s None e permitted far asks = ap (λ (x : Mailbox). x.state) (spared_ask n.words session its.enough n.places (session_ask (seat_at n session) s) seated (permitted refl)) ∙ asks
  asked_on past its s (Some step) e permitted far asks =
      ap (λ (x : List ℕ). (mailbox_of x session).state) (own_words (seat_at n session) s step n.words e)
      ∙ ap (λ (x : Mailbox). x.state) (moved_box n.words session its.enough step)
      ∙ asked_stays (mailbox_of n.words session) past.task step (subst (λ (x : Mailing). KnowsMail (mailbox_of n.words session) past.task x) far.0 its.knows) asks

  -- the mailbox's own session
  own_moved : (past : MailPast) (s : SessionState) → slice_get n.sessions session ≡ Some s → (session_mailing s ≡ None → Spares (TheMailbox session) n.places (session_ask (seat_at n session) s)) → IsSound w past
      → Holds (session_moves n session (Some s)) session (mail_run w (own_events n session s))
  own_moved past s there permitted sound =
      let k : Seat = seat_at n session in
      let ask : Ask Told = session_ask k s in
      let after : Near SessionState = session_moved k (near n s) in
      let sits = holds.sits s there in
      let far = sits_far s w.mailing sits in
      let moved = moves_on k (near n s) ask w.mailing refl sits in
      let m : Mailing = moved_of (session_mailing s) w.mailing (reply_to n.words ask) in
      let main = asked_run s (session_mailing s) refl (λ none. permitted none) far in
      let ran : mail_run w (own_events n session s) ≡ record w { words = after.words; mailing = begun m (session_mailing after.machine) } =
      runs_on w (begins (session_mailing after.machine)) (asked_by n.words (session_mailing s) ask)
      ∙ ap (λ (x : MailWorld). mail_run x (begins (session_mailing after.machine))) main
      ∙ begins_run (record w { words = words_after n.words ask; mailing = m }) (session_mailing after.machine)
      ∙ ap (λ (x : List ℕ). record w { words = x; mailing = begun m (session_mailing after.machine) }) (sym moved.words) in
      subst (λ (x : MailWorld). Holds (session_moves n session (Some s)) session x) (sym ran) (record {
        session_same = holds.session_same;
        words = refl;
        sits = own_sits n session after.machine (begun m (session_mailing after.machine)) moved.leads;
        serves = holds.serves;
        finds = λ works. finds_on session (serving_of n.keeper) (mailbox_of n.words session) (mailbox_of after.words session)
            (λ asks. ap (λ (x : List ℕ). (mailbox_of x session).state) moved.words ∙ asked_on past (known n session w past holds sound) s (session_mailing s) refl (λ none. permitted none) far asks) (holds.finds works);
      })

-- another session's step
moved_words : (v : World) (number : ℕ) (s : SessionState) → v.now.crashed ≡ false → slice_get v.now.sessions number ≡ Some s → (session_moves v.now number (Some s)).words ≡ words_after v.now.words (session_ask (seat_at v.now number) s)
unfolding life_goes
moved_words v number s alive there =
    ap (λ (found : Option SessionState). (session_moves v.now number found).words) (sym there) ∙ ap (λ (n : Now). n.words) (sym (lives v (Moves number) alive)) ∙ session_writes v number s alive there

other_moved : (v : World) (session number : ℕ) (w : MailWorld) (past : MailPast) (s : SessionState) → v.now.crashed ≡ false → slice_get v.now.sessions number ≡ Some s → (number ≡ session → ⊥) → session < v.now.places.sessions → Spares (TheMailbox session) v.now.places (session_ask (seat_at v.now number) s)
    → Holds v.now session w → IsSound w past → Holds (session_moves v.now number (Some s)) session (mail_run w (changed_by v.now.words (session_ask (seat_at v.now number) s)))
other_moved v session number w past s alive there apart seated spares holds sound =
    let n : Now = v.now in
    let ask : Ask Told = session_ask (seat_at n number) s in
    let words = moved_words v number s alive there in
    let its = known n session w past holds sound in
    subst (λ (x : MailWorld). Holds (session_moves n number (Some s)) session x) (sym (spared_run n session w holds seated ask spares)) (record {
      session_same = holds.session_same;
      words = sym words;
      sits = other_sits n session number _ w.mailing apart holds.sits;
      serves = holds.serves;
      finds = λ works. finds_on session (serving_of n.keeper) (mailbox_of n.words session) (mailbox_of (session_moves n number (Some s)).words session)
          (λ asks. ap (λ (x : List ℕ). (mailbox_of x session).state) words ∙ (ap (λ (x : Mailbox). x.state) (spared_ask n.words session its.enough n.places ask seated spares) ∙ asks)) (holds.finds works);
    })

pub moved_holds : (v : World) (session number : ℕ) (w : MailWorld) (past : MailPast) (found : Option SessionState) → v.now.crashed ≡ false → slice_get v.now.sessions number ≡ found → session < v.now.places.sessions → SessionSpares v.now session number found → Holds v.now session w → IsSound w past
    → Holds (session_moves v.now number found) session (mail_run w (moved_events v.now session number found))
unfolding mail_run
moved_holds v session number w past None alive there seated permitted holds sound = holds
moved_holds v session number w past (Some s) alive there seated permitted holds sound = by_number (number == session) refl
  where
    own_part : (x : ℕ) → x ≡ number → slice_get v.now.sessions x ≡ Some s → (x ≡ session → session_mailing s ≡ None → Spares (TheMailbox session) v.now.places (session_ask (seat_at v.now x) s)) → session ≡ x
        → Holds (session_moves v.now x (Some s)) session (mail_run w (own_events v.now session s))
    own_part x e at spares same =
        subst (λ (y : ℕ). Holds (session_moves v.now y (Some s)) session (mail_run w (own_events v.now session s))) same
        (own_moved v.now session w holds seated past s (ap (λ (y : ℕ). slice_get v.now.sessions y) same ∙ at)
        (λ none. subst (λ (y : ℕ). Spares (TheMailbox session) v.now.places (session_ask (seat_at v.now y) s)) (sym same) (spares (sym same) none)) sound)

    by_number : (c : Bool) → (number == session) ≡ c → Holds (session_moves v.now number (Some s)) session (mail_run w (if c then own_events v.now session s else changed_by v.now.words (session_ask (seat_at v.now number) s)))
    by_number true e = own_part number refl there (λ same none. permitted (λ at. none)) (test_same number session e)
    by_number false e = other_moved v session number w past s alive there (test_apart number session e) seated (permitted (λ same. absurd (test_apart number session e same))) holds sound

-- the keeper's step
abbrev keeper_then : World → Bool → Bool → KeeperState
keeper_then v granted done = keeper_run v.now.shape v.now.places v.now.keeper (steps_of v.now.shape v.now.places granted done (read_by_keeper v) (beside v.now.keeper v.now.words v.now.actions))

keeper_same : (v : World) (granted done : Bool) → v.now.crashed ≡ false → (happens v (KeeperMoves granted done)).now.keeper ≡ keeper_then v granted done
unfolding keeper_part
keeper_same v granted done alive =
    happens_keeper v (KeeperMoves granted done)
    ∙ ap (λ (c : Bool). keeper_run v.now.shape v.now.places v.now.keeper (if c then [] else keeper_part v.now.shape v.now.places (read_by_keeper v) (near v.now v.now.keeper) (KeeperMoves granted done))) alive

sessions_same : (v : World) (granted done : Bool) → v.now.crashed ≡ false → (happens v (KeeperMoves granted done)).now.sessions ≡ v.now.sessions
unfolding life_goes
sessions_same v granted done alive = ap (λ (n : Now). n.sessions) (lives v (KeeperMoves granted done) alive)

broken_never : {A : Type 0} (b : Bool) → b ≡ true → b ≡ false → A
broken_never b broken works = let clash : true ≡ false = sym broken ∙ works in cc

-- while the keeper serves another mailbox, or none
module _ (v : World) (session : ℕ) (w : MailWorld) (past : MailPast) (granted done : Bool) (alive : v.now.crashed ≡ false) (rests : v.now.keeper.is_broken ≡ true → is_in_hand v.now.keeper.step ≡ false) (holds : Holds v.now session w) (sound : IsSound w past) where
  abbrev n : Now
  n = v.now

  abbrev after : Now
  after = (happens v (KeeperMoves granted done)).now

  abbrev ask : Ask KeeperTold
  ask = keeper_ask n.shape n.places n.keeper

  still_sits : (t : SessionState) → slice_get after.sessions session ≡ Some t → SessionSits t w.mailing
  still_sits t at = holds.sits t (ap (λ (xs : List SessionState). slice_get xs session) (sym (sessions_same v granted done alive)) ∙ at)

  -- the device hadn't failed before
  worked : after.keeper.is_broken ≡ false → n.keeper.is_broken ≡ false
  worked works = by_before n.keeper.is_broken refl
    where
      by_before : (b : Bool) → n.keeper.is_broken ≡ b → n.keeper.is_broken ≡ false
      by_before false e = e
      by_before true e =
          let same : after.keeper ≡ n.keeper = keeper_same v granted done alive ∙ ended_stays n.shape n.places n.keeper n.words n.actions granted done (read_by_keeper v) (rests e) in
          broken_never _ (ap (λ (x : KeeperState). x.is_broken) same ∙ e) works

  -- how far it is then, where it is at the last part of a turn
  abbrev serving : Serving
  serving = serving_of n.keeper

  at_last : is_at_serve n.keeper n.keeper.step ≡ true → after.keeper ≡ keeper_run n.shape n.places (at_serve n.keeper serving) (steps_of n.shape n.places granted done (read_by_keeper v) (beside (at_serve n.keeper serving) n.words n.actions))
  at_last e =
      keeper_same v granted done alive
      ∙ ap (λ (x : KeeperState). keeper_run n.shape n.places x (steps_of n.shape n.places granted done (read_by_keeper v) (beside x n.words n.actions))) (is_at n.keeper e)

  served_on : is_at_serve n.keeper n.keeper.step ≡ true → after.keeper.is_broken ≡ false → serving_of after.keeper ≡ serve_after n.shape.sessions (begin_of n.keeper) n.words (read_by_keeper v) serving
  served_on e works =
      ap serving_of (at_last e)
      ∙ serves_on n.shape n.places n.keeper n.words n.actions granted done (read_by_keeper v) serving (ap (λ (x : KeeperState). x.is_broken) (sym (at_last e)) ∙ works)

  other_idle : is_at_serve n.keeper n.keeper.step ≡ false → IsIdle (serving_of after.keeper)
  other_idle e =
      subst (λ (x : KeeperState). IsIdle (serving_of x)) (sym (keeper_same v granted done alive))
      (idles_on n.shape n.places n.keeper n.words n.actions granted done (read_by_keeper v) ask e)

  other_serves : is_serving session serving ≡ false → after.keeper.is_broken ≡ false → KeepsUp session (serving_of after.keeper) FindsState
  other_serves none works = by_part (is_at_serve n.keeper n.keeper.step) refl
    where
      by_part : (c : Bool) → is_at_serve n.keeper n.keeper.step ≡ c → KeepsUp session (serving_of after.keeper) FindsState
      by_part true e = subst (λ (x : Serving). KeepsUp session x FindsState) (sym (served_on e works)) (other_keeps session n.shape.sessions (begin_of n.keeper) n.words (read_by_keeper v) serving none)
      by_part false e = idle_keeps session (serving_of after.keeper) (other_idle e)

  other_asked : (box : Mailbox) → is_serving session serving ≡ false → after.keeper.is_broken ≡ false → FindsAsked session (serving_of after.keeper) box
  other_asked box none works = by_part (is_at_serve n.keeper n.keeper.step) refl
    where
      by_part : (c : Bool) → is_at_serve n.keeper n.keeper.step ≡ c → FindsAsked session (serving_of after.keeper) box
      by_part true e = subst (λ (x : Serving). FindsAsked session x box) (sym (served_on e works)) (other_finds session n.shape.sessions (begin_of n.keeper) n.words (read_by_keeper v) serving box none)
      by_part false e = idle_finds session (serving_of after.keeper) box (other_idle e)

  serves_other : is_serving session serving ≡ false → session < n.places.sessions → Spares (TheMailbox session) n.places ask → Holds after session (mail_run w (changed_by n.words ask))
  serves_other none seated spares =
      subst (λ (x : MailWorld). Holds after session x) (sym (spared_run n session w holds seated ask spares)) (record {
        session_same = holds.session_same;
        words = sym (keeper_writes v granted done alive);
        sits = still_sits;
        serves = λ works.
            let finding : w.keeping ≡ FindsState = subst (λ (c : Bool). ServesIf c serving w.keeping) none (holds.serves (worked works)) in
            subst (λ (x : Keeping). KeepsUp session (serving_of after.keeper) x) (sym finding) (other_serves none works);
        finds = λ works. other_asked (mailbox_of after.words session) none works;
      })

  -- while it serves this one
  pub last_part : is_serving session serving ≡ true → is_at_serve n.keeper n.keeper.step ≡ true
  last_part own_box = by_part (is_at_serve n.keeper n.keeper.step) refl
    where
      by_part : (c : Bool) → is_at_serve n.keeper n.keeper.step ≡ c → is_at_serve n.keeper n.keeper.step ≡ true
      by_part true e = e
      by_part false e = let clash : true ≡ false = sym own_box ∙ ap (is_serving session) (serves_none n.keeper e) in cc

  works_now : is_serving session serving ≡ true → n.keeper.is_broken ≡ false
  works_now own_box = by_before n.keeper.is_broken refl
    where
      by_before : (b : Bool) → n.keeper.is_broken ≡ b → n.keeper.is_broken ≡ false
      by_before false e = e
      by_before true e = let clash : true ≡ false = sym (serve_in_hand n.keeper (last_part own_box)) ∙ rests e in cc

  given_then : (step : Serving)
      → (keeper_run n.shape n.places (at_serve n.keeper step) (steps_of n.shape n.places granted done (read_by_keeper v) (beside (at_serve n.keeper step) n.words n.actions))).is_broken ≡ false → IsGiven step done
  given_then (serve.Reads number addr) works = read_given n.shape n.places n.keeper n.words n.actions granted done (read_by_keeper v) number addr works
  given_then serve.AtRest works = tt
  given_then (serve.LoadsState number) works = tt
  given_then (serve.LoadsAddress number) works = tt
  given_then (serve.StoresHeader number mail) works = tt
  given_then (serve.StoresKey number mail) works = tt
  given_then (serve.StoresValue number mail) works = tt
  given_then (serve.StoresReady number) works = tt

  pub own_keeps : is_serving session serving ≡ true → ServesIf true serving w.keeping
  own_keeps own_box = subst (λ (c : Bool). ServesIf c serving w.keeping) own_box (holds.serves (works_now own_box))

  pub own_finds : is_serving session serving ≡ true → FindsAsked session serving (mailbox_of n.words session)
  own_finds own_box = holds.finds (works_now own_box)

  -- the mailbox's events, by the words of the engine and of the mailbox's world
  abbrev its_events : List ℕ → ℕ → List MailEvent
  its_events words number = served_events (begin_of n.keeper) (record_read (read_by_keeper v)) done (mailbox_of words number).addr serving

  serves_own : is_serving session serving ≡ true → Holds after session (mail_run w (its_events n.words session))
  serves_own own_box =
      let works = works_now own_box in
      let own_there : is_serving w.session serving ≡ true = subst (λ (x : ℕ). is_serving x serving ≡ true) (sym holds.session_same) own_box in
      let keeps = own_keeps own_box in
      let asks : FindsAsked w.session serving (mailbox_of w.words w.session) =
      subst (λ (x : List ℕ). FindsAsked w.session serving (mailbox_of x w.session)) (sym holds.words)
      (subst (λ (x : ℕ). FindsAsked x serving (mailbox_of n.words x)) (sym holds.session_same) (holds.finds works)) in
      let its : ServedOwn w n.shape.sessions (begin_of n.keeper) (read_by_keeper v) done serving = own_served w n.shape.sessions (begin_of n.keeper) (read_by_keeper v) done serving own_there keeps asks in
      let events : its_events w.words w.session ≡ its_events n.words session = ap (λ (x : List ℕ). its_events x w.session) holds.words ∙ ap (λ (x : ℕ). its_events n.words x) holds.session_same in
      let words : words_after w.words (serve_ask serving) ≡ after.words =
      ap (λ (x : List ℕ). words_after x (serve_ask serving)) holds.words
      ∙ sym (serve_words n.shape n.places n.keeper n.words serving)
      ∙ ap (λ (x : KeeperState). words_after n.words (keeper_ask n.shape n.places x)) (sym (is_at n.keeper (last_part own_box)))
      ∙ sym (keeper_writes v granted done alive) in
      let given : after.keeper.is_broken ≡ false → IsGiven serving done = λ still. given_then serving (ap (λ (x : KeeperState). x.is_broken) (sym (at_last (last_part own_box))) ∙ still) in
      let far : after.keeper.is_broken ≡ false → serve_after n.shape.sessions (begin_of n.keeper) w.words (read_by_keeper v) serving ≡ serving_of after.keeper =
      λ still. ap (λ (x : List ℕ). serve_after n.shape.sessions (begin_of n.keeper) x (read_by_keeper v) serving) holds.words ∙ sym (served_on (last_part own_box) still) in
      subst (λ (x : List MailEvent). Holds after session (mail_run w x)) events (record {
        session_same = its.session_same ∙ holds.session_same;
        words = its.words ∙ words;
        sits = λ t at. subst (λ (x : Mailing). SessionSits t x) (sym its.mailing) (still_sits t at);
        serves = λ still.
            subst (λ (x : ℕ). KeepsUp x (serving_of after.keeper) (mail_run w (its_events w.words w.session)).keeping) holds.session_same
            (subst (λ (x : Serving). KeepsUp w.session x (mail_run w (its_events w.words w.session)).keeping) (far still) (its.serves (given still)));
        finds = λ still.
            subst (λ (x : List ℕ). FindsAsked session (serving_of after.keeper) (mailbox_of x session)) words
            (subst (λ (x : ℕ). FindsAsked x (serving_of after.keeper) (mailbox_of (words_after w.words (serve_ask serving)) x)) holds.session_same
            (subst (λ (x : Serving). FindsAsked w.session x (mailbox_of (words_after w.words (serve_ask serving)) w.session)) (far still) (its.finds (given still))));
      })

  pub keeper_holds : session < n.places.sessions → (is_serving session serving ≡ false → Spares (TheMailbox session) n.places ask) → Holds after session (mail_run w (keeper_events n (read_by_keeper v) session done))
  keeper_holds seated permitted = by_serving (is_serving session serving) refl
    where
      by_serving : (c : Bool) → is_serving session serving ≡ c → Holds after session (mail_run w (if c then its_events n.words session else changed_by n.words ask))
      by_serving true e = serves_own e
      by_serving false e = serves_other e seated (permitted e)

-- a turn, or a commit, is asked for
pub asked_holds : (n : Now) (session : ℕ) (w : MailWorld) (begun_keeper : KeeperState) → Holds n session w → IsIdle (serving_of begun_keeper) → (begun_keeper.is_broken ≡ false → n.keeper.is_broken ≡ false)
    → (is_in_hand n.keeper.step ≡ false → serving_of n.keeper ≡ serve.AtRest) → Holds (record n { keeper = keeper_asked n.keeper begun_keeper }) session w
asked_holds n session w begun_keeper holds at_first worked idle = by_hand (is_in_hand n.keeper.step) refl
  where
    by_hand : (c : Bool) → is_in_hand n.keeper.step ≡ c → Holds (record n { keeper = if c then n.keeper else begun_keeper }) session w
    by_hand true e = record { session_same = holds.session_same; words = holds.words; sits = holds.sits; serves = holds.serves; finds = holds.finds }
    by_hand false e = record {
      session_same = holds.session_same;
      words = holds.words;
      sits = holds.sits;
      serves = λ works.
          let none : w.keeping ≡ FindsState = subst (λ (x : Serving). KeepsUp session x w.keeping) (idle e) (holds.serves (worked works)) in
          subst (λ (x : Keeping). KeepsUp session (serving_of begun_keeper) x) (sym none) (idle_keeps session (serving_of begun_keeper) at_first);
      finds = λ works. idle_finds session (serving_of begun_keeper) (mailbox_of n.words session) at_first;
    }
