-- Over every list of events: what stands, and what follows from it.
use Rattle.std.proofs.Common.{◌≡◌, inl, inr, ℕ, ◌<◌, List, [], ◌∷◌, length, refl, sym, ap, subst, arith, Bool, true, false, length-set}
use Rattle.std.specs.Prelude.{◌==◌, if◌then◌else◌, Option, Some, None, slice_set}
use Rattle.std.proofs.lemmas.Bool.Decides.{nat_tests}
use Rattle.std.proofs.lemmas.List.{get_or-set_other, set-get_or}
use Rattle.fkv_plane.specs.declared.places.SessionWord.TheVariants as own
use Rattle.fkv_plane.specs.Places.{session_place}
use Rattle.fkv_plane.specs.Asked.{word_at, words_after, reply_to}
use Rattle.fkv_pending.specs.declared.mailing.MailAnswer.TheVariants.{Cleared, NotReady, Taken, Asked, Occupied}
use Rattle.fkv_pending.specs.declared.mailing.MailTask.{MailTask}
use Rattle.fkv_pending.specs.declared.mailing.MailTask.TheVariants.{Clear, Take, Put}
use Rattle.fkv_pending.specs.declared.mailing.Mailing.{Mailing}
use Rattle.fkv_pending.specs.declared.mailing.Mailing.TheVariants.{Ended, LoadsState, LoadsHeader, LoadsKey, LoadsValue, StoresEmpty, StoresAddress, StoresAsked}
use Rattle.fkv_pending.specs.Mailing.{mail_empty, mail_asked, mail_ready, mail_ask, mail_next, state_found}
use Rattle.fkv_pending.specs.MailWorld.{Mailbox, mailbox_of, is_mail_place, Keeping, FindsState, FindsAddress, Reads, GivesHeader, GivesKey, GivesValue, GivesReady, MailWorld, MailEvent, Begins, BeginsPut, Moves, Serves, Changes, is_at_end, has_emptied, keeper_words, keeper_next, mail_happens, mail_run}
use Rattle.fkv_pending.specs.Mailbox.{MailPast, past_moved, past_after, past_of, SessionChanges, KeeperChanges, IsAnswerTrue, IsMailOpened, opening, ChangesAreKept, OthersStay, AnswersTrue, RestsBetweenTasks}
use Rattle.fkv_pending.proofs.Boxes.{truth, spared_box, box_moved, moved_box, box_served, served_box, reply_in, replied_in}
use Rattle.fkv_pending.proofs.MailSound.{KnowsMail, KnowsKeeper, IsKept, session_kept, keeper_kept}

abbrev pub box_at : MailWorld → Mailbox
box_at w = mailbox_of w.words w.session

pub record IsSound (w : MailWorld) (past : MailPast) : Type 0 where
  pub enough_words : session_place w.session own.MailValue < length w.words
  pub kept : IsKept (box_at w) past.task past.notes w.mailing w.keeping

length_after : (words : List ℕ) (s : ℕ) (step : Mailing) → length (words_after words (mail_ask s step)) ≡ length words
unfolding mail_ask
length_after words s (Ended its) = refl
length_after words s (LoadsState task) = length-set words _ _
length_after words s LoadsHeader = length-set words _ _
length_after words s (LoadsKey header) = length-set words _ _
length_after words s (LoadsValue header key) = length-set words _ _
length_after words s (StoresEmpty its) = length-set words _ _
length_after words s (StoresAddress addr) = length-set words _ _
length_after words s StoresAsked = length-set words _ _

length_served : (words : List ℕ) (s : ℕ) (keeping : Keeping) → length (keeper_words s words keeping) ≡ length words
length_served words s FindsState = refl
length_served words s FindsAddress = refl
length_served words s (Reads addr) = refl
length_served words s (GivesHeader addr its) = length-set words _ _
length_served words s (GivesKey addr its) = length-set words _ _
length_served words s (GivesValue addr its) = length-set words _ _
length_served words s (GivesReady addr its) = length-set words _ _

emptied_state : (b : Mailbox) (t : Option MailTask) (step : Mailing) → has_emptied step ≡ true → KnowsMail b t step → b.state ≡ mail_empty
emptied_state b t (Ended its) emptied knows = knows.1 emptied
emptied_state b t (LoadsState task) emptied knows = cc
emptied_state b t LoadsHeader emptied knows = cc
emptied_state b t (LoadsKey header) emptied knows = cc
emptied_state b t (LoadsValue header key) emptied knows = cc
emptied_state b t (StoresEmpty its) emptied knows = cc
emptied_state b t (StoresAddress addr) emptied knows = cc
emptied_state b t StoresAsked emptied knows = cc

-- the session's step, once its mailbox and its reply are known
abbrev KeptThen : ℕ → Mailbox → MailPast → Mailing → Keeping → Mailbox → ℕ → Type 0
KeptThen s b past step keeping c reply =
    let then_past = past_moved b c (mail_ask s (mail_next step reply)) past past.task in
    IsKept c then_past.task then_past.notes (mail_next step reply) keeping

moves_kept : (w : MailWorld) (past : MailPast) → IsSound w past
    → KeptThen w.session (box_at w) past w.mailing w.keeping (mailbox_of (words_after w.words (mail_ask w.session w.mailing)) w.session) (reply_to w.words (mail_ask w.session w.mailing))
moves_kept w past sound =
    subst (λ (c : Mailbox). KeptThen w.session (box_at w) past w.mailing w.keeping c (reply_to w.words (mail_ask w.session w.mailing)))
    (sym (moved_box w.words w.session sound.enough_words w.mailing))
    (subst (λ (reply : ℕ). KeptThen w.session (box_at w) past w.mailing w.keeping (box_moved (box_at w) w.mailing) reply)
    (sym (replied_in w.words w.session w.mailing))
    (session_kept w.session (box_at w) past.task past.notes w.mailing w.keeping sound.kept))

pub happens_sound : (w : MailWorld) (event : MailEvent) (past : MailPast) → IsSound w past → IsSound (mail_happens w event) (past_after w event past)
unfolding mail_happens
happens_sound w (Begins task) past sound = tested (is_at_end w.mailing)
  where
    tested : (c : Bool) → IsSound (if c then record w { mailing = LoadsState task } else w) (if c then record past { task = Some task } else past)
    tested true = record { enough_words = sound.enough_words; kept = record { turns = sound.kept.turns; stands = sound.kept.stands; session = refl; keeper = sound.kept.keeper } }
    tested false = sound
happens_sound w (BeginsPut addr) past sound = tested (has_emptied w.mailing) refl
  where
    tested : (c : Bool) → has_emptied w.mailing ≡ c → IsSound (if c then record w { mailing = StoresAddress addr } else w) (if c then record past { task = Some (Put addr) } else past)
    tested true e = record {
      enough_words = sound.enough_words;
      kept = record { turns = sound.kept.turns; stands = sound.kept.stands; session = (refl, emptied_state (box_at w) past.task w.mailing e sound.kept.session); keeper = sound.kept.keeper };
    }
    tested false e = sound
happens_sound w Moves past sound = record { enough_words = rw (length_after w.words w.session w.mailing) sound.enough_words; kept = moves_kept w past sound }
happens_sound w (Serves given) past sound = record {
  enough_words = rw (length_served w.words w.session w.keeping) sound.enough_words;
  kept = subst (λ (c : Mailbox). IsKept c past.task (past_after w (Serves given) past).notes w.mailing (keeper_next (box_at w) given w.keeping))
      (sym (served_box w.words w.session sound.enough_words w.keeping))
      (keeper_kept (box_at w) past.task past.notes w.mailing given w.keeping sound.kept);
}
happens_sound w (Changes place word) past sound = tested (is_mail_place w.session place) refl
  where
    tested : (c : Bool) → is_mail_place w.session place ≡ c → IsSound (if c then w else record w { words = slice_set w.words place word }) past
    tested true e = sound
    tested false e = record {
      enough_words = rw (length-set w.words place word) sound.enough_words;
      kept = subst (λ (c : Mailbox). IsKept c past.task past.notes w.mailing w.keeping) (sym (spared_box w.words w.session sound.enough_words place word e)) sound.kept;
    }

pub opening_sound : (session : ℕ) (words : List ℕ) → IsMailOpened session words → IsSound (opening session words) (record { task = None; notes = [] })
opening_sound session words opened = record {
  enough_words = opened.enough_words;
  kept = record { turns = tt; stands = inl (opened.is_empty, tt); session = (refl, λ never. cc); keeper = tt };
}

pub run_sound : (w : MailWorld) (events : List MailEvent) → IsSound w (record { task = None; notes = [] }) → IsSound (mail_run w events) (past_of w events)
unfolding mail_run past_of
run_sound w [] sound = sound
run_sound w (event ∷ before) sound = happens_sound (mail_run w before) event (past_of w before) (run_sound w before sound)

pub moment_sound : (session : ℕ) (words : List ℕ) (events : List MailEvent) → IsMailOpened session words → IsSound (mail_run (opening session words) events) (past_of (opening session words) events)
moment_sound session words events opened = run_sound (opening session words) events (opening_sound session words opened)

-- each change is its actor's
session_changes : (b : Mailbox) (t : Option MailTask) (step : Mailing) → KnowsMail b t step → SessionChanges b (box_moved b step)
session_changes b t (Ended its) knows = inl refl
session_changes b t (LoadsState task) knows = inl refl
session_changes b t LoadsHeader knows = inl refl
session_changes b t (LoadsKey header) knows = inl refl
session_changes b t (LoadsValue header key) knows = inl refl
session_changes b t (StoresEmpty its) knows = inr (inr (inr (knows.1, refl)))
session_changes b t (StoresAddress addr) knows = inr (inl (knows.1, refl))
session_changes b t StoresAsked knows = inr (inr (inl (knows.1, refl)))

keeper_changes : (b : Mailbox) (keeping : Keeping) → KnowsKeeper b keeping → KeeperChanges b (box_served b keeping)
keeper_changes b FindsState knows = inl refl
keeper_changes b FindsAddress knows = inl refl
keeper_changes b (Reads addr) knows = inl refl
keeper_changes b (GivesHeader addr its) knows = inr (inl (knows.0, refl))
keeper_changes b (GivesKey addr its) knows = inr (inl (knows.0, refl))
keeper_changes b (GivesValue addr its) knows = inr (inl (knows.0, refl))
keeper_changes b (GivesReady addr its) knows = inr (inr (knows.0, refl))

pub sound_changes : (w : MailWorld) (past : MailPast) → IsSound w past → ChangesAreKept w past
unfolding mail_happens
sound_changes w past sound (Begins task) = tested (is_at_end w.mailing)
  where
    tested : (c : Bool) → mailbox_of (if c then record w { mailing = LoadsState task } else w).words w.session ≡ box_at w
    tested true = refl
    tested false = refl
sound_changes w past sound (BeginsPut addr) = tested (has_emptied w.mailing)
  where
    tested : (c : Bool) → mailbox_of (if c then record w { mailing = StoresAddress addr } else w).words w.session ≡ box_at w
    tested true = refl
    tested false = refl
sound_changes w past sound Moves = subst (SessionChanges (box_at w)) (sym (moved_box w.words w.session sound.enough_words w.mailing)) (session_changes (box_at w) past.task w.mailing sound.kept.session)
sound_changes w past sound (Serves given) = subst (KeeperChanges (box_at w)) (sym (served_box w.words w.session sound.enough_words w.keeping)) (keeper_changes (box_at w) w.keeping sound.kept.keeper)
sound_changes w past sound (Changes place word) = tested (is_mail_place w.session place) refl
  where
    tested : (c : Bool) → is_mail_place w.session place ≡ c
        → mailbox_of (if c then w else record w { words = slice_set w.words place word }).words w.session ≡ box_at w
    tested true e = refl
    tested false e = spared_box w.words w.session sound.enough_words place word e

-- and no other word is changed
others_stay : (words : List ℕ) (s place : ℕ) (step : Mailing) → is_mail_place s place ≡ false → word_at (words_after words (mail_ask s step)) place ≡ word_at words place
unfolding mail_ask
others_stay words s place (Ended its) none = refl
others_stay words s place (LoadsState task) none = ap (λ ws. word_at ws place) (set-get_or words _ 0)
others_stay words s place LoadsHeader none = ap (λ ws. word_at ws place) (set-get_or words _ 0)
others_stay words s place (LoadsKey header) none = ap (λ ws. word_at ws place) (set-get_or words _ 0)
others_stay words s place (LoadsValue header key) none = ap (λ ws. word_at ws place) (set-get_or words _ 0)
others_stay words s place (StoresEmpty its) none = get_or-set_other words (session_place s own.MailState) place mail_empty 0 (λ e. grind (arith, nat_tests, none, e))
others_stay words s place (StoresAddress addr) none = get_or-set_other words (session_place s own.MailAddress) place addr.0 0 (λ e. grind (arith, nat_tests, none, e))
others_stay words s place StoresAsked none = get_or-set_other words (session_place s own.MailState) place mail_asked 0 (λ e. grind (arith, nat_tests, none, e))

pub sound_others : (w : MailWorld) (past : MailPast) → OthersStay w past
unfolding mail_happens
sound_others w past place none = others_stay w.words w.session place w.mailing none

-- each answer is true
abbrev AnswersThen : ℕ → Mailbox → Option MailTask → Mailing → Mailbox → ℕ → Type 0
AnswersThen s b t step c reply = IsAnswerTrue t (mail_ask s (mail_next step reply)) b c

state_answers : (s : ℕ) (b : Mailbox) (task : MailTask) → IsAnswerTrue (Some task) (mail_ask s (state_found task b.state)) b b
unfolding mail_ask
state_answers s b Clear = elim (truth (b.state == mail_ready)) [
  | inl e ↦ rw e tt
  | inr e ↦ rw e (grind (arith, nat_tests, e), refl)
]
state_answers s b Take = elim (truth (b.state == mail_ready)) [
  | inl e ↦ rw e tt
  | inr e ↦ rw e (grind (arith, nat_tests, e), refl)
]
state_answers s b (Put addr) = elim (truth (b.state == mail_empty)) [
  | inl e ↦ rw e tt
  | inr e ↦ rw e (grind (arith, nat_tests, e), refl)
]

step_answers : (s : ℕ) (b : Mailbox) (t : Option MailTask) (step : Mailing) → KnowsMail b t step → AnswersThen s b t step (box_moved b step) (reply_in b step)
unfolding mail_ask mail_next
step_answers s b t (Ended its) knows = rw (knows.0) tt
step_answers s b t (LoadsState task) knows = subst (λ (u : Option MailTask). IsAnswerTrue u (mail_ask s (state_found task b.state)) b b) (sym knows) (state_answers s b task)
step_answers s b t LoadsHeader knows = rw (knows.0) tt
step_answers s b t (LoadsKey header) knows = rw (knows.0) tt
step_answers s b t (LoadsValue header key) knows = rw (knows.0) tt
step_answers s b t (StoresEmpty Cleared) knows = rw (knows.0) (knows.1, refl)
step_answers s b t (StoresEmpty (Taken its)) knows = rw (knows.0.0) (knows.1, knows.0.1, refl)
step_answers s b t (StoresEmpty NotReady) knows = absurd knows.0
step_answers s b t (StoresEmpty Asked) knows = absurd knows.0
step_answers s b t (StoresEmpty Occupied) knows = absurd knows.0
step_answers s b t (StoresAddress addr) knows = rw (knows.0) tt
step_answers s b t StoresAsked knows = rw (knows.0) (knows.1, refl, refl)

pub sound_answers : (w : MailWorld) (past : MailPast) → IsSound w past → AnswersTrue w past
unfolding mail_happens
sound_answers w past sound =
    subst (λ (c : Mailbox). AnswersThen w.session (box_at w) past.task w.mailing c (reply_to w.words (mail_ask w.session w.mailing)))
    (sym (moved_box w.words w.session sound.enough_words w.mailing))
    (subst (λ (reply : ℕ). AnswersThen w.session (box_at w) past.task w.mailing (box_moved (box_at w) w.mailing) reply)
    (sym (replied_in w.words w.session w.mailing))
    (step_answers w.session (box_at w) past.task w.mailing sound.kept.session))

-- between tasks the session's machine is at its end
pub sound_rests : (w : MailWorld) (past : MailPast) → IsSound w past → RestsBetweenTasks w past
unfolding mail_happens mail_ask mail_next
sound_rests w past sound none = rests w.mailing sound.kept.session
  where
    rests : (step : Mailing) → KnowsMail (box_at w) past.task step
        → (record w { words = words_after w.words (mail_ask w.session step); mailing = mail_next step (reply_to w.words (mail_ask w.session step)) }) ≡ record w { mailing = step }
    rests (Ended its) knows = refl
    rests (LoadsState task) knows = cc
    rests LoadsHeader knows = let its = knows.0 in cc
    rests (LoadsKey header) knows = let its = knows.0 in cc
    rests (LoadsValue header key) knows = let its = knows.0 in cc
    rests (StoresEmpty Cleared) knows = let its = knows.0 in cc
    rests (StoresEmpty (Taken its)) knows = let its = knows.0.0 in cc
    rests (StoresEmpty NotReady) knows = absurd knows.0
    rests (StoresEmpty Asked) knows = absurd knows.0
    rests (StoresEmpty Occupied) knows = absurd knows.0
    rests (StoresAddress addr) knows = let its = knows.0 in cc
    rests StoresAsked knows = let its = knows.0 in cc
