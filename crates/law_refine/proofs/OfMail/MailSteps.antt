-- What the events of a mailbox's world come to that the engine's are.
use Rattle.std.proofs.Common.{◌≡◌, ℕ, ◌<◌, ◌∙◌, inl, inr, refl, sym, ap, arith, List, [], ◌∷◌, ◌++◌, length, Bool, true, false}
use Rattle.std.specs.Prelude.{◌==◌, if◌then◌else◌, Option, Some, None, slice_set}
use Rattle.std.proofs.lemmas.List.{set-get_or}
use Rattle.std.proofs.lemmas.Bool.Decides.{nat_tests}
use Rattle.fkv_plane.specs.declared.asks.Ask.{Ask}
use Rattle.fkv_plane.specs.declared.asks.Ask.TheVariants.{Load, Store, Swap, Cas, Add, Max, Put, Take, Done}
use Rattle.fkv_plane.specs.declared.places.Places.{Places}
use Rattle.fkv_plane.specs.declared.places.SessionWord.TheVariants as own
use Rattle.fkv_plane.specs.Asked.{word_at, words_after, reply_to}
use Rattle.fkv_plane.specs.Places.{session_place}
use Rattle.law_world.specs.Below.fkv_pending.MailRecord.{MailRecord}
use Rattle.law_world.specs.Below.fkv_pending.MailTask.{MailTask}
use Rattle.law_world.specs.Below.fkv_pending.TheMailing.{Mailing}
use Rattle.law_world.specs.Below.fkv_pending.TheMailing.TheVariants as mailing
use Rattle.law_world.specs.Below.fkv_pending.Mailing.{mail_asked, mail_ask, mail_next}
use Rattle.law_world.specs.Below.fkv_pending.MailWorld.{Mailbox, mailbox_of, is_mail_place, Keeping, FindsState, FindsAddress, Reads, MailWorld, MailEvent, Moves, Serves, mail_happens, mail_run}
use Rattle.law_world.proofs.Below.fkv_pending.Shown.{KnowsMail, box_moved, spared_box}
use Rattle.law_refine.specs.Footprint.{IsAmong, Mail, Spares, TheMailbox}
use Rattle.law_refine.specs.Mail.MailEvents.{begins, changed_by}
use Rattle.law_refine.proofs.OfMail.AttemptSits.{begun}

-- a list of events after another
pub runs_on : (w : MailWorld) (later before : List MailEvent) → mail_run w (later ++ before) ≡ mail_run (mail_run w before) later
unfolding mail_run
runs_on w [] before = refl
runs_on w (event ∷ later) before = ap (λ x. mail_happens x event) (runs_on w later before)

either_mailing : (c : Bool) (w : MailWorld) (step : Mailing) → (if c then record w { mailing = step } else w) ≡ record w { mailing = if c then step else w.mailing }
either_mailing true w step = refl
either_mailing false w step = refl

pub begins_run : (w : MailWorld) (its : Option Mailing) → mail_run w (begins its) ≡ record w { mailing = begun w.mailing its }
unfolding mail_run mail_happens
begins_run w None = refl
begins_run w (Some (mailing.LoadsState task)) = either_mailing _ w (mailing.LoadsState task)
begins_run w (Some (mailing.StoresAddress addr)) = either_mailing _ w (mailing.StoresAddress addr)
begins_run w (Some (mailing.Ended its)) = refl
begins_run w (Some mailing.LoadsHeader) = refl
begins_run w (Some (mailing.LoadsKey header)) = refl
begins_run w (Some (mailing.LoadsValue header key)) = refl
begins_run w (Some (mailing.StoresEmpty its)) = refl
begins_run w (Some mailing.StoresAsked) = refl

-- where a record is asked for, the keeper finds that and takes its address up
pub takes_up : (w : MailWorld) (given : MailRecord) → w.keeping ≡ FindsState → (mailbox_of w.words w.session).state ≡ mail_asked
    → mail_happens (mail_happens w (Serves given)) (Serves given) ≡ record w { keeping = Reads (record { 0 = (mailbox_of w.words w.session).addr }) }
unfolding mail_happens
takes_up w given finds asks =
    let tests : ((mailbox_of w.words w.session).state == mail_asked) ≡ true = grind (arith, nat_tests, asks) in
    ap (λ (x : Keeping). mail_happens (mail_happens (record w { keeping = x }) (Serves given)) (Serves given)) finds
    ∙ ap (λ (c : Bool). mail_happens (record w { keeping = if c then FindsAddress else FindsState }) (Serves given)) tests

-- a load writes back what it finds
pub loaded : (words : List ℕ) (place : ℕ) → slice_set words place (word_at words place) ≡ words
loaded words place = set-get_or words place 0

changed_word : (w : MailWorld) (place word : ℕ) → is_mail_place w.session place ≡ false → (if is_mail_place w.session place then w else record w { words = slice_set w.words place word }) ≡ record w { words = slice_set w.words place word }
changed_word w place word none = ap (λ (c : Bool). if c then w else record w { words = slice_set w.words place word }) none

loaded_word : (c : Bool) (w : MailWorld) (place : ℕ) → (if c then w else record w { words = slice_set w.words place (word_at w.words place) }) ≡ record w { words = slice_set w.words place (word_at w.words place) }
loaded_word true w place = ap (λ (x : List ℕ). record w { words = x }) (sym (loaded w.words place))
loaded_word false w place = refl

-- a place that is none of a mailbox's
not_mail : (session place : ℕ) → (IsAmong session Mail place → ⊥) → is_mail_place session place ≡ false
not_mail session place none = by_test (is_mail_place session place) refl
  where
    by_test : (b : Bool) → is_mail_place session place ≡ b → is_mail_place session place ≡ false
    by_test false e = e
    by_test true e = absurd (none (record { from = grind (arith, nat_tests, e); to = grind (arith, nat_tests, e) }))

-- an ask that spares the mailbox of one of the store's sessions changes its word
pub changed_run : {A : Type 0} (w : MailWorld) (p : Places) (ask : Ask A) → w.session < p.sessions → Spares (TheMailbox w.session) p ask → mail_run w (changed_by w.words ask) ≡ record w { words = words_after w.words ask }
unfolding mail_run mail_happens
changed_run w p (Load place) there spares = loaded_word (is_mail_place w.session place) w place
changed_run w p (Store place new) there spares = changed_word w place _ (not_mail w.session place (spares there))
changed_run w p (Swap place new) there spares = changed_word w place _ (not_mail w.session place (spares there))
changed_run w p (Cas place old new) there (inl spares) = changed_word w place _ (not_mail w.session place (spares there))
changed_run w p (Cas place old new) there (inr none) = absurd none
changed_run w p (Add place k) there (inl spares) = changed_word w place _ (not_mail w.session place (spares there))
changed_run w p (Add place k) there (inr none) = absurd none
changed_run w p (Max place k) there spares = changed_word w place _ (not_mail w.session place (spares there))
changed_run w p (Put slot action) there spares = refl
changed_run w p (Take slot) there spares = refl
changed_run w p (Done its) there spares = refl

pub moves_run : (w : MailWorld) → mail_run w (Moves ∷ []) ≡ record w { words = words_after w.words (mail_ask w.session w.mailing); mailing = mail_next w.mailing (reply_to w.words (mail_ask w.session w.mailing)) }
unfolding mail_run mail_happens
moves_run w = refl

-- and leaves the mailbox as it is
module _ (words : List ℕ) (session : ℕ) (enough : session_place session own.MailValue < length words) where
  pub spared_ask : {A : Type 0} (p : Places) (ask : Ask A) → session < p.sessions → Spares (TheMailbox session) p ask → mailbox_of (words_after words ask) session ≡ mailbox_of words session
  spared_ask p (Load place) there spares = ap (λ (x : List ℕ). mailbox_of x session) (loaded words place)
  spared_ask p (Store place new) there spares = spared_box words session enough place _ (not_mail session place (spares there))
  spared_ask p (Swap place new) there spares = spared_box words session enough place _ (not_mail session place (spares there))
  spared_ask p (Cas place old new) there (inl spares) = spared_box words session enough place _ (not_mail session place (spares there))
  spared_ask p (Cas place old new) there (inr none) = absurd none
  spared_ask p (Add place k) there (inl spares) = spared_box words session enough place _ (not_mail session place (spares there))
  spared_ask p (Add place k) there (inr none) = absurd none
  spared_ask p (Max place k) there spares = spared_box words session enough place _ (not_mail session place (spares there))
  spared_ask p (Put slot action) there spares = refl
  spared_ask p (Take slot) there spares = refl
  spared_ask p (Done its) there spares = refl

-- what is asked for stays so over a step of the session
pub asked_stays : (b : Mailbox) (task : Option MailTask) (step : Mailing) → KnowsMail b task step → b.state ≡ mail_asked → (box_moved b step).state ≡ mail_asked
asked_stays b task (mailing.StoresEmpty its) knows asks = absurd (omega (arith, asks, knows.1))
asked_stays b task (mailing.StoresAddress addr) knows asks = asks
asked_stays b task mailing.StoresAsked knows asks = refl
asked_stays b task (mailing.Ended its) knows asks = asks
asked_stays b task (mailing.LoadsState its) knows asks = asks
asked_stays b task mailing.LoadsHeader knows asks = asks
asked_stays b task (mailing.LoadsKey header) knows asks = asks
asked_stays b task (mailing.LoadsValue header key) knows asks = asks
