-- A session that searches makes the ask of its search, one that publishes that of its publish, and what goes with an ask is neither's.
use Rattle.std.proofs.Common.{◌≡◌, ℕ, ◌∙◌, refl, sym, ap, subst, Bool, true, false}
use Rattle.std.specs.Prelude.{if◌then◌else◌, ⊤}
use Rattle.fkv_plane.specs.declared.asks.Ask.{Ask}
use Rattle.fkv_plane.specs.declared.asks.Ask.TheVariants.{Load, Store, Swap, Cas, Add, Max, Put, Take, Done}
use Rattle.fkv_plane.specs.declared.places.Places.{Places}
use Rattle.fkv_plane.specs.Passing.{passed, is_done}
use Rattle.fkv_plane.proofs.Shown.{passed_done}
use Rattle.law_world.specs.Below.fkv_log.TheFilling.{Filling}
use Rattle.law_world.specs.Below.fkv_log.TheFilling.TheVariants as fill
use Rattle.law_world.specs.Below.fkv_log.TheInvalidating.{Invalidating}
use Rattle.law_world.specs.Below.fkv_log.TheInvalidating.TheVariants as invalidate
use Rattle.law_world.specs.Below.fkv_log.TheLoading.{Loading}
use Rattle.law_world.specs.Below.fkv_log.TheLoading.TheVariants as load
use Rattle.law_world.specs.Below.fkv_log.TheReserving.{Reserving}
use Rattle.law_world.specs.Below.fkv_log.TheReserving.TheVariants as reserve
use Rattle.law_world.specs.Below.fkv_log.Filling.{fill_ask}
use Rattle.law_world.specs.Below.fkv_log.Invalidating.{invalidate_ask}
use Rattle.law_world.specs.Below.fkv_log.Loading.{load_ask}
use Rattle.law_world.specs.Below.fkv_log.Reserving.{reserve_ask}
use Rattle.fkv_index.specs.declared.finding.FindStep.{FindStep}
use Rattle.fkv_index.specs.declared.finding.FindStep.TheVariants as find
use Rattle.fkv_index.specs.declared.finding.Finding.{Finding}
use Rattle.fkv_index.specs.declared.publishing.Publishing.{Publishing}
use Rattle.fkv_index.specs.declared.publishing.Publishing.TheVariants as publish
use Rattle.fkv_index.specs.Finding.{find_step_ask, find_ask}
use Rattle.fkv_index.specs.IndexWorld.{new_entry}
use Rattle.fkv_index.specs.Publishing.{publish_first, publish_ask}
use Rattle.fkv_latch.specs.declared.latching.Latching.{Latching}
use Rattle.fkv_latch.specs.declared.latching.Latching.TheVariants as latch
use Rattle.fkv_latch.specs.Latching.{latch_ask}
use Rattle.law_world.specs.Below.fkv_ops.TryAnswer.TheVariants as tried
use Rattle.law_world.specs.Below.fkv_ops.TheAppending.{Appending}
use Rattle.law_world.specs.Below.fkv_ops.TheAppending.TheVariants as appending
use Rattle.law_world.specs.Below.fkv_ops.TheTrying.{Trying}
use Rattle.law_world.specs.Below.fkv_ops.TheTrying.TheVariants as trying
use Rattle.law_world.specs.Below.fkv_ops.WalkAnswer.{WalkAnswer}
use Rattle.law_world.specs.Below.fkv_ops.TheWalking.{Walking}
use Rattle.law_world.specs.Below.fkv_ops.TheWalking.TheVariants as walking
use Rattle.law_world.specs.Below.fkv_ops.Appending.{AppendState, appending_ask}
use Rattle.law_world.specs.Below.fkv_ops.Requests.{is_read}
use Rattle.law_world.specs.Below.fkv_ops.Trying.{TryState, trying_ask, has_walked}
use Rattle.law_world.specs.Below.fkv_ops.Walking.{WalkState, walking_ask}
use Rattle.law_world.specs.Below.fkv_pending.TheAttempting.{Attempting}
use Rattle.law_world.specs.Below.fkv_pending.TheAttempting.TheVariants as attempting
use Rattle.law_world.specs.Below.fkv_pending.TheMailing.{Mailing}
use Rattle.law_world.specs.Below.fkv_pending.TheMailing.TheVariants as mailing
use Rattle.law_world.specs.Below.fkv_pending.Attempting.{AttemptState, attempting_ask, attempt_ask}
use Rattle.law_world.specs.Below.fkv_pending.Mailing.{mail_ask}
use Rattle.law_world.proofs.Below.fkv_pending.Shown.{AttemptRestsOrAsks, attempt_done}
use Rattle.law_world.specs.Below.fkv_session.Told.{Told}
use Rattle.law_world.specs.Below.fkv_session.Told.TheVariants as told
use Rattle.law_world.specs.Below.fkv_session.Sitting.{Sitting}
use Rattle.law_world.specs.Below.fkv_session.Sitting.TheVariants.{Attempts, Polls}
use Rattle.law_world.specs.Below.fkv_session.Sessions.{SessionState, Seat, sitting_ask, session_ask, is_word_ask}
use Rattle.law_world.specs.GuardKeeper.Settled.{is_of_slot}
use Rattle.law_refine.specs.Index.Finders.{Search, KeptSlot, SessionWork, NoWork, Searches, KeepsSlot, PublishesEntry, IndexPart, slot_kept, kept_work, ended_work, walk_work, append_work, try_work, attempt_part, sitting_part, session_part}
use Rattle.law_refine.proofs.OfIndex.Goes.{part}
use Rattle.law_refine.proofs.OfIndex.AppendParts.{AppendKnows}
use Rattle.law_refine.proofs.OfIndex.TryParts.{TryKnowsAt}
use Rattle.law_refine.proofs.OfIndex.AttemptParts.{AttemptKnows, attempt_end_part}
use Rattle.law_refine.proofs.OfIndex.SessionParts.{SittingKnows}

-- what is passed on twice is passed on
passed_twice : {A B C : Type 0} (ask : Ask A) (one : B) (other : C) → passed (passed ask one) other ≡ passed ask other
unfolding passed
passed_twice (Load place) one other = refl
passed_twice (Store place new) one other = refl
passed_twice (Swap place new) one other = refl
passed_twice (Cas place old new) one other = refl
passed_twice (Add place k) one other = refl
passed_twice (Max place k) one other = refl
passed_twice (Put slot action) one other = refl
passed_twice (Take slot) one other = refl
passed_twice (Done inner) one other = refl

-- what a session is about whose own ask is this
abbrev AskOf : SessionWork → Ask Told → Type 0
AskOf (Searches its) ask = ask ≡ passed (find_ask its.finding) told.Slept
AskOf (PublishesEntry slot addr) ask = ask ≡ passed (publish_ask (publish_first slot.place slot.word (new_entry addr slot.home.tag))) told.Slept
AskOf work ask = ⊤

any_kept : (t : TryState) (ask : Ask Told) → AskOf (kept_work t) ask
any_kept t ask = by_read (is_read t.request.op)
  where
    by_read : (c : Bool) → AskOf (if c then NoWork else KeepsSlot (slot_kept t)) ask
    by_read true = tt
    by_read false = tt

any_ended : (t : TryState) (its : WalkAnswer) (ask : Ask Told) → AskOf (ended_work t its) ask
any_ended t its ask = by_end (has_walked its)
  where
    by_end : (c : Bool) → AskOf (if c then kept_work t else NoWork) ask
    by_end true = any_kept t ask
    by_end false = tt

abbrev work_of : IndexPart → SessionWork
work_of its = its.work

walk_asks : (p : Places) (t : TryState) (step : Walking) → AskOf (walk_work t step) (passed (passed (passed (walking_ask p t.walk step) tried.Shift) tried.Shift) told.Slept)
unfolding walking_ask
walk_asks p t walking.Finds = passed_twice _ tried.Shift told.Slept ∙ passed_twice _ tried.Shift told.Slept ∙ passed_twice (find_ask t.walk.finding) _ told.Slept
walk_asks p t (walking.Ended its) = any_ended t its _
walk_asks p t (walking.Meets addr) = any_kept t _
walk_asks p t (walking.HasFound addr version) = any_kept t _
walk_asks p t walking.LoadsValue = any_kept t _

append_asks : (p : Places) (t : TryState) (step : Appending) → AppendKnows t t.append step → AskOf (append_work t step) (passed (passed (passed (appending_ask p t.append step) tried.Shift) tried.Shift) told.Slept)
unfolding appending_ask
append_asks p t (appending.Ended its) knows = tt
append_asks p t appending.Reserves knows = any_kept t _
append_asks p t (appending.Fills addr) knows = any_kept t _
append_asks p t (appending.Publishes addr) knows =
    passed_twice _ tried.Shift told.Slept ∙ passed_twice _ tried.Shift told.Slept ∙ passed_twice (publish_ask t.append.publishing) _ told.Slept ∙ ap (λ x. passed (publish_ask x) told.Slept) knows
append_asks p t appending.Invalidates knows = tt

try_asks : (p : Places) (t : TryState) (step : Trying) → TryKnowsAt t step → AskOf (try_work t step) (passed (passed (trying_ask p t step) tried.Shift) told.Slept)
unfolding trying_ask
try_asks p t trying.Walks knows = walk_asks p t t.walk.step
try_asks p t trying.CountsTaken knows = any_kept t _
try_asks p t (trying.LoadsSafe addr version) knows = any_kept t _
try_asks p t (trying.TakesExclusive old) knows = any_kept t _
try_asks p t trying.LoadsOld knows = any_kept t _
try_asks p t (trying.Appends its) knows = append_asks p t t.append.step knows.knows
try_asks p t step knows = tt

attempt_asks : (p : Places) (session : ℕ) (a : AttemptState) (step : Attempting) → AttemptKnows p a step → AskOf (attempt_part a step).work (passed (attempting_ask p session a step) told.Slept)
unfolding attempting_ask
attempt_asks p session a attempting.Tries knows = try_asks p a.trial a.trial.step knows.at
attempt_asks p session a step knows = tt

sitting_asks : (k : Seat) (s : SessionState) (step : Sitting) → SittingKnows k.places s step → AskOf (sitting_part s step).work (sitting_ask k s step)
unfolding sitting_ask
sitting_asks k s (Attempts has_shifted) knows = attempt_asks k.places k.number s.attempt s.attempt.step knows.knows
sitting_asks k s (Polls index) knows = attempt_asks k.places k.number s.attempt s.attempt.step knows.knows
sitting_asks k s step knows = tt

pub search_asks : (k : Seat) (s : SessionState) (its : Search) → SittingKnows k.places s s.step → (session_part s).work ≡ Searches its → session_ask k s ≡ passed (find_ask its.finding) told.Slept
search_asks k s its knows at = subst (λ x. AskOf x (session_ask k s)) at (sitting_asks k s s.step knows)

pub entry_asks : (k : Seat) (s : SessionState) (slot : KeptSlot) (addr : ℕ) → SittingKnows k.places s s.step → (session_part s).work ≡ PublishesEntry slot addr
    → session_ask k s ≡ passed (publish_ask (publish_first slot.place slot.word (new_entry addr slot.home.tag))) told.Slept
entry_asks k s slot addr knows at = subst (λ x. AskOf x (session_ask k s)) at (sitting_asks k s s.step knows)

-- what asks for no slot asks for none where it is passed on
pub passed_part : {A B : Type 0} (ask : Ask A) (answer : B) → is_of_slot ask ≡ false → is_of_slot (passed ask answer) ≡ false
unfolding passed
passed_part (Put slot action) answer none = cc
passed_part (Take slot) answer none = cc
passed_part (Load place) answer none = refl
passed_part (Store place new) answer none = refl
passed_part (Swap place new) answer none = refl
passed_part (Cas place old new) answer none = refl
passed_part (Add place k) answer none = refl
passed_part (Max place k) answer none = refl
passed_part (Done inner) answer none = refl

find_whole : (f : Finding) (step : FindStep) → is_of_slot (find_step_ask f step) ≡ false
unfolding find_step_ask
find_whole f find.AtRest = refl
find_whole f (find.LoadsSlot slot) = refl
find_whole f find.LoadsLink = refl
find_whole f (find.LoadsTaken word) = refl
find_whole f (find.TakesBucket word taken) = refl
find_whole f (find.LinksBucket word) = refl

load_whole : (p : Places) (step : Loading) → is_of_slot (load_ask p step) ≡ false
unfolding load_ask
load_whole p load.AtRest = refl
load_whole p (load.LoadsHeader addr) = refl
load_whole p (load.LoadsKey addr header) = refl
load_whole p (load.HasKey addr header key) = refl
load_whole p (load.LoadsValue addr header key) = refl

latch_whole : (step : Latching) → is_of_slot (latch_ask step) ≡ false
unfolding latch_ask
latch_whole latch.AtRest = refl
latch_whole (latch.AddsShare place) = refl
latch_whole (latch.GivesBack place) = refl
latch_whole (latch.DropsShare place) = refl
latch_whole (latch.LoadsWord place) = refl
latch_whole (latch.SetsExclusive place word) = refl
latch_whole (latch.DropsExclusive place) = refl

publish_whole : (step : Publishing) → is_of_slot (publish_ask step) ≡ false
unfolding publish_ask
publish_whole publish.AtRest = refl
publish_whole (publish.SwapsEntry place word entry) = refl

reserve_whole : (step : Reserving) → is_of_slot (reserve_ask step) ≡ false
unfolding reserve_ask
reserve_whole reserve.AtRest = refl
reserve_whole (reserve.LoadsLimit bound) = refl
reserve_whole (reserve.LoadsTail limit) = refl
reserve_whole (reserve.TakesTail tail) = refl

fill_whole : (p : Places) (step : Filling) → is_of_slot (fill_ask p step) ≡ false
unfolding fill_ask
fill_whole p fill.AtRest = refl
fill_whole p (fill.StoresValue addr its_words) = refl
fill_whole p (fill.StoresKey addr its_words) = refl
fill_whole p (fill.StoresHeader addr its_words) = refl

invalidate_whole : (p : Places) (step : Invalidating) → is_of_slot (invalidate_ask p step) ≡ false
unfolding invalidate_ask
invalidate_whole p invalidate.AtRest = refl
invalidate_whole p (invalidate.StoresHeader addr header) = refl

mail_whole : (session : ℕ) (step : Mailing) → is_of_slot (mail_ask session step) ≡ false
unfolding mail_ask
mail_whole session (mailing.Ended its) = refl
mail_whole session (mailing.LoadsState task) = refl
mail_whole session mailing.LoadsHeader = refl
mail_whole session (mailing.LoadsKey header) = refl
mail_whole session (mailing.LoadsValue header key) = refl
mail_whole session (mailing.StoresEmpty its) = refl
mail_whole session (mailing.StoresAddress addr) = refl
mail_whole session mailing.StoresAsked = refl

walk_whole : (p : Places) (w : WalkState) (step : Walking) → is_of_slot (walking_ask p w step) ≡ false
unfolding walking_ask
walk_whole p w (walking.Ended its) = refl
walk_whole p w walking.Finds = passed_part (find_ask w.finding) _ (find_whole w.finding w.finding.step)
walk_whole p w (walking.Meets addr) = passed_part (load_ask p w.loading) _ (load_whole p w.loading)
walk_whole p w (walking.HasFound addr version) = refl
walk_whole p w walking.LoadsValue = passed_part (load_ask p w.loading) _ (load_whole p w.loading)

append_whole : (p : Places) (a : AppendState) (step : Appending) → is_of_slot (appending_ask p a step) ≡ false
unfolding appending_ask
append_whole p a (appending.Ended its) = refl
append_whole p a appending.Reserves = passed_part (reserve_ask a.reserving) _ (reserve_whole a.reserving)
append_whole p a (appending.Fills addr) = passed_part (fill_ask p a.filling) _ (fill_whole p a.filling)
append_whole p a (appending.Publishes addr) = passed_part (publish_ask a.publishing) _ (publish_whole a.publishing)
append_whole p a appending.Invalidates = passed_part (invalidate_ask p a.invalidating) _ (invalidate_whole p a.invalidating)

try_whole : (p : Places) (t : TryState) (step : Trying) → is_of_slot (trying_ask p t step) ≡ false
unfolding trying_ask
try_whole p t (trying.Ended its) = refl
try_whole p t trying.TakesShared = passed_part (latch_ask t.latching) _ (latch_whole t.latching)
try_whole p t trying.Walks = passed_part (walking_ask p t.walk t.walk.step) _ (walk_whole p t.walk t.walk.step)
try_whole p t trying.LoadsPhase = refl
try_whole p t trying.CountsTaken = refl
try_whole p t (trying.LoadsSafe addr version) = refl
try_whole p t (trying.SwapsValue addr) = refl
try_whole p t (trying.LoadsCurrent addr) = passed_part (walking_ask p t.walk t.walk.step) _ (walk_whole p t.walk t.walk.step)
try_whole p t (trying.ChangesValue addr old) = refl
try_whole p t trying.LoadsAnswer = passed_part (walking_ask p t.walk t.walk.step) _ (walk_whole p t.walk t.walk.step)
try_whole p t (trying.TakesExclusive old) = passed_part (latch_ask t.latching) _ (latch_whole t.latching)
try_whole p t trying.LoadsOld = passed_part (walking_ask p t.walk t.walk.step) _ (walk_whole p t.walk t.walk.step)
try_whole p t (trying.Appends its) = passed_part (appending_ask p t.append t.append.step) _ (append_whole p t.append t.append.step)
try_whole p t (trying.LoadsTail waiting) = refl
try_whole p t (trying.LoadsTaken waiting) = refl
try_whole p t (trying.DropsExclusive its) = passed_part (latch_ask t.latching) _ (latch_whole t.latching)
try_whole p t (trying.DropsShared its) = passed_part (latch_ask t.latching) _ (latch_whole t.latching)

pub attempt_whole : (p : Places) (session : ℕ) (a : AttemptState) (step : Attempting) → is_of_slot (attempting_ask p session a step) ≡ false
unfolding attempting_ask
attempt_whole p session a (attempting.Ended its) = refl
attempt_whole p session a attempting.Looks = passed_part (mail_ask session a.mailing) _ (mail_whole session a.mailing)
attempt_whole p session a attempting.Tries = passed_part (trying_ask p a.trial a.trial.step) _ (try_whole p a.trial a.trial.step)
attempt_whole p session a attempting.Puts = passed_part (mail_ask session a.mailing) _ (mail_whole session a.mailing)

-- where no word is asked for, a whole ask is at its end
no_word_ends : {A : Type 0} (ask : Ask A) → is_word_ask ask ≡ false → is_of_slot ask ≡ false → is_done ask ≡ true
no_word_ends (Put slot action) none whole = cc
no_word_ends (Take slot) none whole = cc
no_word_ends (Done its) none whole = refl
no_word_ends (Load place) none whole = cc
no_word_ends (Store place new) none whole = cc
no_word_ends (Swap place new) none whole = cc
no_word_ends (Cas place old new) none whole = cc
no_word_ends (Add place k) none whole = cc
no_word_ends (Max place k) none whole = cc

attempt_none : (k : Seat) (a : AttemptState) → AttemptRestsOrAsks a → is_word_ask (passed (attempt_ask k.places k.number a) told.Slept) ≡ false → attempt_part a a.step ≡ part NoWork a.spare
attempt_none k a rests none =
    let whole = attempt_whole k.places k.number a a.step in
    let ends = no_word_ends (passed (attempt_ask k.places k.number a) told.Slept) none (passed_part (attempt_ask k.places k.number a) told.Slept whole) in
    attempt_end_part a a.step (sym (attempt_done k.places k.number a rests) ∙ sym (passed_done (attempt_ask k.places k.number a) told.Slept) ∙ ends)

-- a session that asks for no word is about nothing in the index
none_asked : (k : Seat) (s : SessionState) (step : Sitting) → SittingKnows k.places s step → is_word_ask (sitting_ask k s step) ≡ false → (sitting_part s step).work ≡ NoWork
unfolding sitting_ask
none_asked k s (Attempts has_shifted) knows none = ap work_of (attempt_none k s.attempt knows.rests none)
none_asked k s (Polls index) knows none = ap work_of (attempt_none k s.attempt knows.rests none)
none_asked k s step knows none = refl

pub asks_nothing : (k : Seat) (s : SessionState) → SittingKnows k.places s s.step → is_word_ask (session_ask k s) ≡ false → (session_part s).work ≡ NoWork
asks_nothing k s knows none = none_asked k s s.step knows none
