-- Over the events of a mailbox's world: the address that is asked for last stays, is let go, or comes with the step of the session that stores that it asks.
use Rattle.std.proofs.Common.{◌≡◌, ◌⊎◌, inl, inr, refl, ap, subst, arith, Bool, true, false, List, [], ◌∷◌, ◌++◌}
use Rattle.std.specs.Prelude.{⊤, ◌==◌, ◌&&◌, not, if◌then◌else◌, Option, Some, None}
use Rattle.std.proofs.lemmas.Bool.Decides.{nat_tests}
use Rattle.fkv_base.specs.declared.numbers.Addr.{Addr}
use Rattle.fkv_epoch.proofs.Shown.{none_some, some_same}
use Rattle.fkv_plane.specs.declared.asks.Ask.{Ask}
use Rattle.fkv_plane.specs.declared.asks.Ask.TheVariants.{Load, Store, Swap, Cas, Add, Max, Put, Take, Done}
use Rattle.fkv_plane.specs.Asked.{words_after}
use Rattle.law_commit.specs.Below.fkv_pending.MailAnswer.{MailAnswer}
use Rattle.law_commit.specs.Below.fkv_pending.MailAnswer.TheVariants.{Cleared, NotReady, Taken, Asked, Occupied}
use Rattle.law_commit.specs.Below.fkv_pending.MailTask.{MailTask}
use Rattle.law_commit.specs.Below.fkv_pending.MailTask.TheVariants as task
use Rattle.law_commit.specs.Below.fkv_pending.TheMailing.{Mailing}
use Rattle.law_commit.specs.Below.fkv_pending.TheMailing.TheVariants as mailing
use Rattle.law_commit.specs.Below.fkv_pending.Mailbox.{MailNote, MailPast, asked_then, asked_notes, answered_notes, past_moved, served_notes, past_after, past_of}
use Rattle.law_commit.specs.Below.fkv_pending.Mailing.{mail_asked, mail_ask}
use Rattle.law_commit.specs.Below.fkv_pending.MailWorld.{Mailbox, mailbox_of, Keeping, FindsState, FindsAddress, Reads, GivesHeader, GivesKey, GivesValue, GivesReady, MailWorld, MailEvent, Begins, BeginsPut, Moves, Serves, Changes, is_at_end, has_emptied, mail_happens, mail_run}
use Rattle.law_commit.proofs.Below.fkv_pending.Shown.{IsSound, box_moved, moved_box}
use Rattle.law_order.specs.Asked.Asked.{outstanding}

-- ---- a step of the session
never_comes : (c : Bool) → (not c && c) ≡ true → ⊥
never_comes true e = cc
never_comes false e = cc

comes_by : (b : Mailbox) (step : Mailing) → (not (b.state == mail_asked) && (box_moved b step).state == mail_asked) ≡ true → step ≡ mailing.StoresAsked
comes_by b mailing.StoresAsked comes = refl
comes_by b (mailing.StoresEmpty its) comes = absurd (grind (arith, nat_tests, comes))
comes_by b (mailing.StoresAddress addr) comes = absurd (never_comes (b.state == mail_asked) comes)
comes_by b (mailing.Ended its) comes = absurd (never_comes (b.state == mail_asked) comes)
comes_by b (mailing.LoadsState its) comes = absurd (never_comes (b.state == mail_asked) comes)
comes_by b mailing.LoadsHeader comes = absurd (never_comes (b.state == mail_asked) comes)
comes_by b (mailing.LoadsKey header) comes = absurd (never_comes (b.state == mail_asked) comes)
comes_by b (mailing.LoadsValue header key) comes = absurd (never_comes (b.state == mail_asked) comes)

asked_or : (came : Bool) (its : MailTask) (notes : List MailNote) (addr : Addr) → outstanding (asked_notes came its notes) ≡ Some addr → (outstanding notes ≡ Some addr) ⊎ ((came ≡ true) × (its ≡ task.Put addr))
unfolding outstanding
asked_or true (task.Put other) notes addr e = inr (refl, ap task.Put (some_same other addr e))
asked_or true task.Clear notes addr e = inl e
asked_or true task.Take notes addr e = inl e
asked_or false (task.Put other) notes addr e = inl e
asked_or false task.Clear notes addr e = inl e
asked_or false task.Take notes addr e = inl e

answered_out : (ask : Ask MailAnswer) (notes : List MailNote) (addr : Addr) → outstanding (answered_notes ask notes) ≡ Some addr → outstanding notes ≡ Some addr
unfolding outstanding
answered_out (Done (Taken its)) notes addr e = none_some addr e
answered_out (Done Cleared) notes addr e = none_some addr e
answered_out (Done NotReady) notes addr e = e
answered_out (Done Asked) notes addr e = e
answered_out (Done Occupied) notes addr e = e
answered_out (Load place) notes addr e = e
answered_out (Store place word) notes addr e = e
answered_out (Swap place word) notes addr e = e
answered_out (Cas place old new) notes addr e = e
answered_out (Add place k) notes addr e = e
answered_out (Max place k) notes addr e = e
answered_out (Put slot action) notes addr e = e
answered_out (Take slot) notes addr e = e

moved_or : (b c : Mailbox) (ask : Ask MailAnswer) (past : MailPast) (found : Option MailTask) (addr : Addr) → outstanding (past_moved b c ask past found).notes ≡ Some addr
    → (outstanding past.notes ≡ Some addr) ⊎ (((not (b.state == mail_asked) && c.state == mail_asked) ≡ true) × (found ≡ Some (task.Put addr)))
moved_or b c ask past None addr e = inl e
moved_or b c ask past (Some its) addr e =
    let came : Bool = not (b.state == mail_asked) && c.state == mail_asked in
    elim (asked_or came its past.notes addr (answered_out ask (asked_notes came its past.notes) addr e)) [
      | inl was ↦ inl was
      | inr now ↦ inr (now.0, ap Some now.1)
    ]

-- the session stores that it asks, for the record at this address
pub record StoresThatItAsks (w : MailWorld) (past : MailPast) (addr : Addr) : Type 0 where
  pub its_step : w.mailing ≡ mailing.StoresAsked
  pub its_task : past.task ≡ Some (task.Put addr)

moves_or : (w : MailWorld) (past : MailPast) (addr : Addr) → IsSound w past → outstanding (past_after w Moves past).notes ≡ Some addr → (outstanding past.notes ≡ Some addr) ⊎ StoresThatItAsks w past addr
unfolding mail_happens
moves_or w past addr sound e =
    let box : Mailbox = mailbox_of w.words w.session in
    let after : Mailbox = mailbox_of (words_after w.words (mail_ask w.session w.mailing)) w.session in
    elim (moved_or box after (asked_then w) past past.task addr e) [
      | inl was ↦ inl was
      | inr now ↦ inr (record {
        its_step = comes_by box w.mailing (subst (λ (c : Mailbox). (not (box.state == mail_asked) && c.state == mail_asked) ≡ true) (moved_box w.words w.session sound.enough_words w.mailing) now.0);
        its_task = now.1;
      })
    ]

-- ---- a step of the keeper
served_out : (keeping : Keeping) (notes : List MailNote) (addr : Addr) → outstanding (served_notes keeping notes) ≡ Some addr → outstanding notes ≡ Some addr
unfolding outstanding
served_out (GivesReady its given) notes addr e = e
served_out FindsState notes addr e = e
served_out FindsAddress notes addr e = e
served_out (Reads its) notes addr e = e
served_out (GivesHeader its given) notes addr e = e
served_out (GivesKey its given) notes addr e = e
served_out (GivesValue its given) notes addr e = e

-- ---- in a run
-- these events are none of the session's steps
abbrev pub NoMoves : List MailEvent → Type 0
NoMoves [] = ⊤
NoMoves (Moves ∷ before) = ⊥
NoMoves (event ∷ before) = NoMoves before

module _ (first : MailWorld) (sound : (before : List MailEvent) → IsSound (mail_run first before) (past_of first before)) where
  begun_out : (c : Bool) (past : MailPast) (its : MailTask) (addr : Addr) → outstanding (if c then record past { task = Some its } else past).notes ≡ Some addr → outstanding past.notes ≡ Some addr
  begun_out true past its addr e = e
  begun_out false past its addr e = e

  pub others_out : (later before : List MailEvent) (addr : Addr) → NoMoves later → outstanding (past_of first (later ++ before)).notes ≡ Some addr → outstanding (past_of first before).notes ≡ Some addr
  unfolding past_of mail_run mail_happens
  others_out [] before addr none e = e
  others_out (Begins its ∷ later) before addr none e = others_out later before addr none (begun_out (is_at_end (mail_run first (later ++ before)).mailing) (past_of first (later ++ before)) its addr e)
  others_out (BeginsPut at ∷ later) before addr none e = others_out later before addr none (begun_out (has_emptied (mail_run first (later ++ before)).mailing) (past_of first (later ++ before)) (task.Put at) addr e)
  others_out (Moves ∷ later) before addr none e = absurd none
  others_out (Serves given ∷ later) before addr none e =
      others_out later before addr none (served_out (mail_run first (later ++ before)).keeping (past_of first (later ++ before)).notes addr e)
  others_out (Changes place word ∷ later) before addr none e = others_out later before addr none e

  pub step_out : (before : List MailEvent) (addr : Addr) → outstanding (past_of first (Moves ∷ before)).notes ≡ Some addr
      → (outstanding (past_of first before).notes ≡ Some addr) ⊎ StoresThatItAsks (mail_run first before) (past_of first before) addr
  unfolding past_of
  step_out before addr e = moves_or (mail_run first before) (past_of first before) addr (sound before) e
