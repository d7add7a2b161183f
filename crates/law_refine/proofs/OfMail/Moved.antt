-- A session's step, with what goes with it: how it works on its mailbox then.
use Rattle.std.proofs.Common.{◌≡◌, ℕ, ◌∙◌, refl, sym, ap, subst, List, true, false}
use Rattle.std.specs.Prelude.{Option, Some, None}
use Rattle.fkv_plane.specs.declared.actions.Action.{Action}
use Rattle.fkv_plane.specs.declared.asks.Ask.{Ask}
use Rattle.fkv_plane.specs.declared.asks.Ask.TheVariants.{Load, Store, Swap, Cas, Add, Max, Put, Take, Done}
use Rattle.fkv_plane.specs.Asked.{words_after, reply_to}
use Rattle.fkv_plane.specs.Passing.{passed}
use Rattle.fkv_plane.specs.Plane.{action_at}
use Rattle.fkv_plane.proofs.Shown.{passed_words, passed_reply}
use Rattle.law_world.specs.Below.fkv_pending.TheAttempting.{Attempting}
use Rattle.law_world.specs.Below.fkv_pending.TheAttempting.TheVariants as attempting
use Rattle.law_world.specs.Below.fkv_pending.TheMailing.{Mailing}
use Rattle.law_world.specs.Below.fkv_pending.TheMailing.TheVariants as mailing
use Rattle.law_world.specs.Below.fkv_pending.Attempting.{AttemptState, attempting_ask}
use Rattle.law_world.specs.Below.fkv_pending.Mailing.{mail_ask}
use Rattle.law_world.specs.Below.fkv_pending.MailWorld.{is_at_end}
use Rattle.law_world.specs.Below.fkv_session.Told.{Told}
use Rattle.law_world.specs.Below.fkv_session.Sitting.{Sitting}
use Rattle.law_world.specs.Below.fkv_session.Sitting.TheVariants.{Idle, Attempts, CatchesUp, ClearsMail, Polls, StoresOwing, Turns, StoresCut, Leaves, LoadsDurable}
use Rattle.law_world.specs.Below.fkv_session.Sessions.{SessionState, Seat, sitting_ask, session_ask, session_next, is_word_ask}
use Rattle.law_world.specs.Below.fkv_world.Moves.{Near, session_gets, session_settled, session_replied, session_asks}
use Rattle.law_refine.specs.Mail.Mailers.{attempt_mailing, sitting_mailing, session_mailing, IsAsFar}
use Rattle.law_refine.proofs.OfMail.AttemptSits.{begun, moved_of}
use Rattle.law_refine.proofs.OfMail.SessionSits.{SessionSits, SessionLeads, session_next_leads, session_none_leads, session_given_leads, sits_far}

-- the session's ask is its mail machine's, where one is under way
record IsLike {A B : Type 0} (ask : Ask A) (its : Ask B) : Type 0 where
  words : (words : List ℕ) → words_after words ask ≡ words_after words its
  reply : (words : List ℕ) → reply_to words ask ≡ reply_to words its
  plain : is_word_ask ask ≡ is_word_ask its

passed_plain : {A B : Type 0} (ask : Ask A) (told : B) → is_word_ask (passed ask told) ≡ is_word_ask ask
unfolding passed
passed_plain (Load place) told = refl
passed_plain (Store place new) told = refl
passed_plain (Swap place new) told = refl
passed_plain (Cas place old new) told = refl
passed_plain (Add place k) told = refl
passed_plain (Max place k) told = refl
passed_plain (Put slot action) told = refl
passed_plain (Take slot) told = refl
passed_plain (Done inner) told = refl

like_passed : {A B C : Type 0} (ask : Ask A) (its : Ask B) (told : C) → IsLike ask its → IsLike (passed ask told) its
like_passed ask its told like = record {
  words = λ words. passed_words words ask told ∙ like.words words;
  reply = λ words. passed_reply words ask told ∙ like.reply words;
  plain = passed_plain ask told ∙ like.plain;
}

like_same : {A B : Type 0} (ask : Ask A) (told : B) → IsLike (passed ask told) ask
like_same ask told = record { words = λ words. passed_words words ask told; reply = λ words. passed_reply words ask told; plain = passed_plain ask told }

some_same : (x y : Mailing) → Some x ≡ Some y → x ≡ y
some_same x y e = cc

mail_like : (n : ℕ) (x y : Mailing) {B : Type 0} (told : B) → Some x ≡ Some y → IsLike (passed (mail_ask n x) told) (mail_ask n y)
mail_like n x y told e = subst (λ (z : Mailing). IsLike (passed (mail_ask n x) told) (mail_ask n z)) (some_same x y e) (like_same (mail_ask n x) told)

attempt_like : (k : Seat) (a : AttemptState) (step : Attempting) (its : Mailing) → attempt_mailing a step ≡ Some its → IsLike (attempting_ask k.places k.number a step) (mail_ask k.number its)
unfolding attempting_ask
attempt_like k a attempting.Looks its e = mail_like k.number a.mailing its _ e
attempt_like k a attempting.Puts its e = mail_like k.number a.mailing its _ e
attempt_like k a (attempting.Ended told) its e = cc
attempt_like k a attempting.Tries its e = cc

sitting_like : (k : Seat) (s : SessionState) (step : Sitting) (its : Mailing) → sitting_mailing s step ≡ Some its → IsLike (sitting_ask k s step) (mail_ask k.number its)
unfolding sitting_ask
sitting_like k s (Attempts has_shifted) its e = like_passed _ _ _ (attempt_like k s.attempt s.attempt.step its e)
sitting_like k s (Polls index) its e = like_passed _ _ _ (attempt_like k s.attempt s.attempt.step its e)
sitting_like k s ClearsMail its e = mail_like k.number s.mailing its _ e
sitting_like k s (Idle told) its e = cc
sitting_like k s (CatchesUp cause) its e = cc
sitting_like k s (StoresOwing index) its e = cc
sitting_like k s (Turns told) its e = cc
sitting_like k s StoresCut its e = cc
sitting_like k s Leaves its e = cc
sitting_like k s LoadsDurable its e = cc

pub own_words : (k : Seat) (s : SessionState) (its : Mailing) (words : List ℕ) → session_mailing s ≡ Some its → words_after words (session_ask k s) ≡ words_after words (mail_ask k.number its)
own_words k s its words e = (sitting_like k s s.step its e).words words

pub own_reply : (k : Seat) (s : SessionState) (its : Mailing) (words : List ℕ) → session_mailing s ≡ Some its → reply_to words (session_ask k s) ≡ reply_to words (mail_ask k.number its)
own_reply k s its words e = (sitting_like k s s.step its e).reply words

-- such a machine asks for a word
mail_plain : (n : ℕ) (its : Mailing) → is_at_end its ≡ false → is_word_ask (mail_ask n its) ≡ true
unfolding mail_ask
mail_plain n (mailing.Ended its) way = cc
mail_plain n (mailing.LoadsState task) way = refl
mail_plain n mailing.LoadsHeader way = refl
mail_plain n (mailing.LoadsKey header) way = refl
mail_plain n (mailing.LoadsValue header key) way = refl
mail_plain n (mailing.StoresEmpty its) way = refl
mail_plain n (mailing.StoresAddress addr) way = refl
mail_plain n mailing.StoresAsked way = refl

-- so where a session asks for none, no task is under way
rests : (k : Seat) (s : SessionState) (ask : Ask Told) (m : Mailing) → session_ask k s ≡ ask → is_word_ask ask ≡ false → SessionSits s m → session_mailing s ≡ None
rests k s ask m asks none sits = by_task (session_mailing s) refl
  where
    by_task : (found : Option Mailing) → session_mailing s ≡ found → session_mailing s ≡ None
    by_task None e = e
    by_task (Some its) e =
        let far : IsAsFar (Some its) m = subst (λ (x : Option Mailing). IsAsFar x m) e (sits_far s m sits) in
        let word : is_word_ask (session_ask k s) ≡ true = (sitting_like k s s.step its e).plain ∙ mail_plain k.number its far.1 in
        let clash : false ≡ true = sym none ∙ ap is_word_ask (sym asks) ∙ word in
        cc

-- what goes with an ask
record Settled (n after : Near SessionState) (m : Mailing) : Type 0 where
  leads : SessionLeads after.machine m
  words : after.words ≡ n.words

leads_sits : (s : SessionState) (m : Mailing) → session_mailing s ≡ None → SessionLeads s m → SessionSits s m
leads_sits s m none leads = subst (λ (x : Option Mailing). SessionSits s (begun m x)) none leads

next_none : (k : Seat) (s : SessionState) (m : Mailing) → session_mailing s ≡ None → SessionSits s m → SessionLeads (session_next k s 0) m
next_none k s m none sits = subst (λ (x : Option Mailing). SessionLeads (session_next k s 0) (moved_of x m 0)) none (session_next_leads k s 0 m sits)

gets : (k : Seat) (s : SessionState) (found : Option Action) (m : Mailing) → session_mailing s ≡ None → SessionSits s m → SessionLeads (session_gets k s found) m
gets k s None m none sits = session_none_leads s m none sits
gets k s (Some action) m none sits = session_given_leads k s action m none sits

-- where no task is under way after an ask, the session sits so; else it asks for a word
rests_then : (k : Seat) (s : SessionState) (ask : Ask Told) (m : Mailing) → session_ask k s ≡ ask → is_word_ask ask ≡ false → SessionLeads s m → session_mailing s ≡ None
rests_then k s ask m asks none leads = rests k s ask (begun m (session_mailing s)) asks none leads

settles : (k : Seat) (n : Near SessionState) (ask : Ask Told) (m : Mailing) → session_ask k n.machine ≡ ask → SessionLeads n.machine m → Settled n (session_settled k n ask) m
unfolding session_settled
settles k n (Put slot action) m asks leads =
    let none = rests_then k n.machine (Put slot action) m asks refl leads in
    record { leads = next_none k n.machine m none (leads_sits n.machine m none leads); words = refl }
settles k n (Take slot) m asks leads =
    let none = rests_then k n.machine (Take slot) m asks refl leads in
    record { leads = gets k n.machine (action_at n.actions slot) m none (leads_sits n.machine m none leads); words = refl }
settles k n (Load place) m asks leads = record { leads = leads; words = refl }
settles k n (Store place word) m asks leads = record { leads = leads; words = refl }
settles k n (Swap place word) m asks leads = record { leads = leads; words = refl }
settles k n (Cas place old new) m asks leads = record { leads = leads; words = refl }
settles k n (Add place number) m asks leads = record { leads = leads; words = refl }
settles k n (Max place number) m asks leads = record { leads = leads; words = refl }
settles k n (Done its) m asks leads = record { leads = leads; words = refl }

-- the whole step
pub record HasMoved (n after : Near SessionState) (ask : Ask Told) (m : Mailing) : Type 0 where
  pub leads : SessionLeads after.machine (moved_of (session_mailing n.machine) m (reply_to n.words ask))
  pub words : after.words ≡ words_after n.words ask

went_on : (k : Seat) (n : Near SessionState) (ask : Ask Told) (m : Mailing) → SessionSits n.machine m → HasMoved n (session_settled k (session_replied k n ask) (session_ask k (session_replied k n ask).machine)) ask m
went_on k n ask m sits =
    let its = settles k (session_replied k n ask) (session_ask k (session_replied k n ask).machine) (moved_of (session_mailing n.machine) m (reply_to n.words ask)) refl (session_next_leads k n.machine (reply_to n.words ask) m sits) in
    record { leads = its.leads; words = its.words }

still_none : (s : SessionState) (after : SessionState) (m : Mailing) → session_mailing s ≡ None → SessionLeads after m → SessionLeads after (moved_of (session_mailing s) m 0)
still_none s after m none leads = subst (λ (x : Option Mailing). SessionLeads after (moved_of x m 0)) (sym none) leads

pub moves_on : (k : Seat) (n : Near SessionState) (ask : Ask Told) (m : Mailing) → session_ask k n.machine ≡ ask → SessionSits n.machine m → HasMoved n (session_asks k n ask) ask m
unfolding session_asks session_settled
moves_on k n (Done its) m asks sits =
    let none = rests k n.machine (Done its) m asks refl sits in
    record { leads = still_none n.machine n.machine m none (session_none_leads n.machine m none sits); words = refl }
moves_on k n (Put slot action) m asks sits = record { leads = session_next_leads k n.machine 0 m sits; words = refl }
moves_on k n (Take slot) m asks sits =
    let none = rests k n.machine (Take slot) m asks refl sits in
    record { leads = still_none n.machine (session_gets k n.machine (action_at n.actions slot)) m none (gets k n.machine (action_at n.actions slot) m none sits); words = refl }
moves_on k n (Load place) m asks sits = went_on k n (Load place) m sits
moves_on k n (Store place word) m asks sits = went_on k n (Store place word) m sits
moves_on k n (Swap place word) m asks sits = went_on k n (Swap place word) m sits
moves_on k n (Cas place old new) m asks sits = went_on k n (Cas place old new) m sits
moves_on k n (Add place number) m asks sits = went_on k n (Add place number) m sits
moves_on k n (Max place number) m asks sits = went_on k n (Max place number) m sits
