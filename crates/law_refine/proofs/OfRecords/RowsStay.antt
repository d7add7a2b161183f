-- A session's record stands as it stood where nothing writes it, and as its step writes it.
use Rattle.std.proofs.Common.{◌≡◌, ◌≢◌, ℕ, ◌∙◌, refl, sym, ap, true}
use Rattle.std.specs.Prelude.{Option, Some, None}
use Rattle.fkv_base.specs.declared.numbers.Addr.{Addr}
use Rattle.fkv_plane.specs.declared.actions.Action.{Action}
use Rattle.fkv_plane.specs.declared.asks.Ask.{Ask}
use Rattle.fkv_plane.specs.declared.asks.Ask.TheVariants.{Put, Take, Done}
use Rattle.fkv_plane.specs.declared.places.Places.{Places}
use Rattle.fkv_plane.specs.declared.places.RecordWord.{RecordWord}
use Rattle.fkv_plane.specs.declared.places.RecordWord.TheVariants as rec
use Rattle.fkv_plane.specs.Asked.{asked, asked_place, reply_to}
use Rattle.fkv_plane.specs.Passing.{passed}
use Rattle.fkv_plane.specs.Plane.{action_at}
use Rattle.law_world.specs.Below.fkv_log.TheFilling.{Filling}
use Rattle.law_world.specs.Below.fkv_log.TheFilling.TheVariants as fill
use Rattle.law_world.specs.Below.fkv_log.TheInvalidating.{Invalidating}
use Rattle.law_world.specs.Below.fkv_log.TheInvalidating.TheVariants as invalidate
use Rattle.law_world.specs.Below.fkv_log.RecordWords.{RecordWords}
use Rattle.law_world.specs.Below.fkv_log.Filling.{fill_ask}
use Rattle.law_world.specs.Below.fkv_log.Invalidating.{invalidate_ask}
use Rattle.law_world.specs.Below.fkv_ops.TheAppending.{Appending}
use Rattle.law_world.specs.Below.fkv_ops.TheAppending.TheVariants as appending
use Rattle.law_world.specs.Below.fkv_ops.TheTrying.{Trying}
use Rattle.law_world.specs.Below.fkv_ops.TheTrying.TheVariants.{Appends}
use Rattle.law_world.specs.Below.fkv_ops.Appending.{AppendState, appending_ask}
use Rattle.law_world.specs.Below.fkv_ops.Trying.{TryState, trying_ask}
use Rattle.law_world.specs.Below.fkv_pending.TheAttempting.{Attempting}
use Rattle.law_world.specs.Below.fkv_pending.TheAttempting.TheVariants.{Tries}
use Rattle.law_world.specs.Below.fkv_pending.PendingRequest.{PendingRequest}
use Rattle.law_world.specs.Below.fkv_pending.Attempting.{AttemptState, attempting_ask}
use Rattle.law_world.specs.Below.fkv_session.Told.{Told}
use Rattle.law_world.specs.Below.fkv_session.Sitting.{Sitting}
use Rattle.law_world.specs.Below.fkv_session.Sitting.TheVariants.{Attempts, CatchesUp, Polls}
use Rattle.law_world.specs.Below.fkv_session.Sessions.{SessionState, Seat, session_ask, sitting_ask}
use Rattle.law_world.specs.Below.fkv_world.Moves.{Near, session_asks, session_gets, session_replied, session_settled}
use Rattle.law_refine.specs.Events.Appends.{NewRecord}
use Rattle.law_refine.specs.Events.Reservations.{Reservation, reservation, append_reserves, try_reserves, attempt_reserves}
use Rattle.law_refine.specs.Events.Reserved.{sitting_reserves, reserved_by}
use Rattle.law_refine.proofs.OfRecords.AppendRows.{Standing, FillStands, FillWrites, InvalidateWrites, AppendStands, AppendWrites}
use Rattle.law_refine.proofs.OfRecords.AttemptRows.{AttemptWrites, TriesAt}
use Rattle.law_refine.proofs.OfRecords.FrameWords.{FrameWord, append_word, asked_passed, attempt_word, fill_word, invalidate_word, sitting_word, try_word}
use Rattle.law_refine.proofs.OfRecords.Puts.{is_put, put_passed}
use Rattle.law_refine.proofs.OfRecords.SessionRows.{IsSo, SittingWrites, StepIsSo, gets_so, reply_so}
use Rattle.law_refine.proofs.OfRecords.TryRows.{TryStands, TryWrites}

-- ---- nothing of it is written
abbrev Stays : Standing → Standing → ℕ → Type 0
Stays stands after a = (part : RecordWord) → after a part ≡ stands a part

abbrev pub ReservedStays : Standing → Standing → Option Reservation → Type 0
ReservedStays stands after reserved = (its : Reservation) → reserved ≡ Some its → (part : RecordWord) → after its.addr part ≡ stands its.addr part

fill_stays : (stands after : Standing) (addr : Addr) (its_words : RecordWords) (filling : Filling) → Stays stands after addr.0 → FillStands stands addr its_words filling → FillStands after addr its_words filling
fill_stays stands after addr its_words fill.AtRest stays so = so
fill_stays stands after addr its_words (fill.StoresValue at its) stays so = so
fill_stays stands after addr its_words (fill.StoresKey at its) stays so = (so.0, so.1, stays rec.Value ∙ so.2)
fill_stays stands after addr its_words (fill.StoresHeader at its) stays so = (so.0, so.1, stays rec.Value ∙ so.2, stays rec.Key ∙ so.3)

append_stays : (stands after : Standing) (a : AppendState) (made : NewRecord) (step : Appending) → ReservedStays stands after (append_reserves a made step) → AppendStands stands a step → AppendStands after a step
append_stays stands after a made appending.Reserves stays so = so
append_stays stands after a made (appending.Fills addr) stays so = (fill_stays stands after addr a.its_words a.filling (stays (reservation a made addr.0) refl) so.0, so.1)
append_stays stands after a made (appending.Publishes addr) stays so =
    let here = stays (reservation a made addr.0) refl in
    let its = so.0 in
    (record { header = here rec.Header ∙ its.header; key = here rec.Key ∙ its.key; value = here rec.Value ∙ its.value }, so.1)
append_stays stands after a made appending.Invalidates stays so = so
append_stays stands after a made step stays so = tt

try_stays : (stands after : Standing) (session : ℕ) (pending : PendingRequest) (t : TryState) (step : Trying) → ReservedStays stands after (try_reserves session pending t step) → TryStands stands t step → TryStands after t step
try_stays stands after session pending t (Appends made) stays so = append_stays stands after t.append _ t.append.step stays so
try_stays stands after session pending t step stays so = tt

attempt_stays : (stands after : Standing) (session : ℕ) (a : AttemptState) (step : Attempting) → ReservedStays stands after (attempt_reserves session a step) → TriesAt stands a.trial step → TriesAt after a.trial step
attempt_stays stands after session a Tries stays so = try_stays stands after session a.pending a.trial a.trial.step stays so
attempt_stays stands after session a step stays so = tt

sitting_stays : (stands after : Standing) (number : ℕ) (s : SessionState) (step : Sitting) → ReservedStays stands after (sitting_reserves number s step) → StepIsSo stands s step → StepIsSo after s step
sitting_stays stands after number s (Attempts has_shifted) stays so = (record { allowed = so.0.allowed; tries_so = attempt_stays stands after number s.attempt s.attempt.step stays so.0.tries_so }, so.1)
sitting_stays stands after number s (Polls index) stays so = record { allowed = so.allowed; tries_so = attempt_stays stands after number s.attempt s.attempt.step stays so.tries_so }
sitting_stays stands after number s (CatchesUp cause) stays so = so
sitting_stays stands after number s step stays so = tt

pub so_stays : (stands after : Standing) (number : ℕ) (s : SessionState) → ReservedStays stands after (reserved_by number s) → IsSo stands s → IsSo after s
so_stays stands after number s stays so = record { waiting = so.waiting; sits = sitting_stays stands after number s s.step stays so.sits }

-- ---- an ask for a slot is no store
fill_puts : (after : Standing) (p : Places) (filling : Filling) → is_put (fill_ask p filling) ≡ true → FillWrites after after filling
unfolding fill_ask
fill_puts after p fill.AtRest e = tt
fill_puts after p (fill.StoresValue at its) e = cc
fill_puts after p (fill.StoresKey at its) e = cc
fill_puts after p (fill.StoresHeader at its) e = cc

invalidate_puts : (after : Standing) (p : Places) (step : Invalidating) → is_put (invalidate_ask p step) ≡ true → InvalidateWrites after step
unfolding invalidate_ask
invalidate_puts after p invalidate.AtRest e = tt
invalidate_puts after p (invalidate.StoresHeader at header) e = cc

append_puts : (after : Standing) (p : Places) (a : AppendState) (step : Appending) → is_put (appending_ask p a step) ≡ true → AppendWrites after after a step
unfolding appending_ask
append_puts after p a appending.Invalidates e = invalidate_puts after p a.invalidating (sym (put_passed (invalidate_ask p a.invalidating) _) ∙ e)
append_puts after p a (appending.Fills addr) e = fill_puts after p a.filling (sym (put_passed (fill_ask p a.filling) _) ∙ e)
append_puts after p a step e = tt

try_puts : (after : Standing) (p : Places) (t : TryState) (step : Trying) → is_put (trying_ask p t step) ≡ true → TryWrites after after t step
unfolding trying_ask
try_puts after p t (Appends made) e = append_puts after p t.append t.append.step (sym (put_passed (appending_ask p t.append t.append.step) _) ∙ e)
try_puts after p t step e = tt

attempt_puts : (after : Standing) (p : Places) (number : ℕ) (a : AttemptState) (step : Attempting) → is_put (attempting_ask p number a step) ≡ true → AttemptWrites after after a step
unfolding attempting_ask
attempt_puts after p number a Tries e = try_puts after p a.trial a.trial.step (sym (put_passed (trying_ask p a.trial a.trial.step) _) ∙ e)
attempt_puts after p number a step e = tt

sitting_puts : (after : Standing) (k : Seat) (s : SessionState) (step : Sitting) → is_put (sitting_ask k s step) ≡ true → SittingWrites after after s step
unfolding sitting_ask
sitting_puts after k s (Attempts has_shifted) e = attempt_puts after k.places k.number s.attempt s.attempt.step (sym (put_passed (attempting_ask k.places k.number s.attempt s.attempt.step) _) ∙ e)
sitting_puts after k s (Polls index) e = attempt_puts after k.places k.number s.attempt s.attempt.step (sym (put_passed (attempting_ask k.places k.number s.attempt s.attempt.step) _) ∙ e)
sitting_puts after k s step e = tt

-- ---- a store leaves the word that it names, and the record's other words
pub record StoresIts (stands after : Standing) (f : FrameWord) (change : ℕ → ℕ) : Type 0 where
  pub its : after f.addr f.word ≡ change (stands f.addr f.word)
  pub others : (part : RecordWord) → part ≢ f.word → after f.addr part ≡ stands f.addr part

abbrev pub Stores : Standing → Standing → Option FrameWord → (ℕ → ℕ) → Type 0
Stores stands after word change = (f : FrameWord) → word ≡ Some f → StoresIts stands after f change

passed_stores : {A B : Type 0} (stands after : Standing) (word : Option FrameWord) (ask : Ask A) (told : B) → Stores stands after word (asked (passed ask told)) → Stores stands after word (asked ask)
passed_stores stands after word ask told stores = λ f e. let its = stores f e in record { its = its.its ∙ asked_passed ask told (stands f.addr f.word); others = its.others }

key_no_value : ◌≢◌ {A = RecordWord} rec.Value rec.Key
key_no_value e = cc

value_no_header : ◌≢◌ {A = RecordWord} rec.Value rec.Header
value_no_header e = cc

key_no_header : ◌≢◌ {A = RecordWord} rec.Key rec.Header
key_no_header e = cc

fill_writes : (stands after : Standing) (p : Places) (filling : Filling) → Stores stands after (fill_word filling) (asked (fill_ask p filling)) → FillWrites stands after filling
unfolding fill_ask
fill_writes stands after p fill.AtRest stores = tt
fill_writes stands after p (fill.StoresValue at its) stores = (stores (record { addr = at.0; word = rec.Value }) refl).its
fill_writes stands after p (fill.StoresKey at its) stores = let one = stores (record { addr = at.0; word = rec.Key }) refl in (one.its, one.others rec.Value key_no_value)
fill_writes stands after p (fill.StoresHeader at its) stores =
    let one = stores (record { addr = at.0; word = rec.Header }) refl in (one.its, one.others rec.Key key_no_header, one.others rec.Value value_no_header)

invalidate_writes : (stands after : Standing) (p : Places) (step : Invalidating) → Stores stands after (invalidate_word step) (asked (invalidate_ask p step)) → InvalidateWrites after step
unfolding invalidate_ask
invalidate_writes stands after p invalidate.AtRest stores = tt
invalidate_writes stands after p (invalidate.StoresHeader at header) stores = (stores (record { addr = at.0; word = rec.Header }) refl).its

append_writes : (stands after : Standing) (p : Places) (a : AppendState) (step : Appending) → Stores stands after (append_word a step) (asked (appending_ask p a step)) → AppendWrites stands after a step
unfolding appending_ask
append_writes stands after p a (appending.Fills addr) stores = fill_writes stands after p a.filling (passed_stores stands after (fill_word a.filling) (fill_ask p a.filling) _ stores)
append_writes stands after p a appending.Invalidates stores = invalidate_writes stands after p a.invalidating (passed_stores stands after (invalidate_word a.invalidating) (invalidate_ask p a.invalidating) _ stores)
append_writes stands after p a step stores = tt

try_writes : (stands after : Standing) (p : Places) (t : TryState) (step : Trying) → Stores stands after (try_word t step) (asked (trying_ask p t step)) → TryWrites stands after t step
unfolding trying_ask
try_writes stands after p t (Appends made) stores = append_writes stands after p t.append t.append.step (passed_stores stands after (append_word t.append t.append.step) (appending_ask p t.append t.append.step) _ stores)
try_writes stands after p t step stores = tt

attempt_writes : (stands after : Standing) (p : Places) (number : ℕ) (a : AttemptState) (step : Attempting) → Stores stands after (attempt_word a step) (asked (attempting_ask p number a step)) → AttemptWrites stands after a step
unfolding attempting_ask
attempt_writes stands after p number a Tries stores = try_writes stands after p a.trial a.trial.step (passed_stores stands after (try_word a.trial a.trial.step) (trying_ask p a.trial a.trial.step) _ stores)
attempt_writes stands after p number a step stores = tt

pub sitting_writes : (stands after : Standing) (k : Seat) (s : SessionState) (step : Sitting) → Stores stands after (sitting_word s step) (asked (sitting_ask k s step)) → SittingWrites stands after s step
unfolding sitting_ask
sitting_writes stands after k s (Attempts has_shifted) stores =
    attempt_writes stands after k.places k.number s.attempt s.attempt.step (passed_stores stands after (attempt_word s.attempt s.attempt.step) (attempting_ask k.places k.number s.attempt s.attempt.step) _ stores)
sitting_writes stands after k s (Polls index) stores =
    attempt_writes stands after k.places k.number s.attempt s.attempt.step (passed_stores stands after (attempt_word s.attempt s.attempt.step) (attempting_ask k.places k.number s.attempt s.attempt.step) _ stores)
sitting_writes stands after k s step stores = tt

-- ---- a whole step of a session
given_so : (after : Standing) (k : Seat) (s : SessionState) (found : Option Action) → IsSo after s → IsSo after (session_gets k s found)
given_so after k s None so = so
given_so after k s (Some action) so = gets_so after k s action so

settled_so : (after : Standing) (k : Seat) (n : Near SessionState) (ask : Ask Told) → session_ask k n.machine ≡ ask → IsSo after n.machine → IsSo after (session_settled k n ask).machine
unfolding session_settled
settled_so after k n (Put slot action) e so = reply_so after after k n.machine 0 so (sitting_puts after k n.machine n.machine.step (ap (λ (x : Ask Told). is_put x) e))
settled_so after k n (Take slot) e so = given_so after k n.machine (action_at n.actions slot) so
settled_so after k n ask e so = so

-- where it asks for no word, nothing that it has reserved changes
pub asks_so : (stands after : Standing) (k : Seat) (n : Near SessionState) (ask : Ask Told) → session_ask k n.machine ≡ ask → (asked_place ask ≡ None → ReservedStays stands after (reserved_by k.number n.machine)) → SittingWrites stands after n.machine n.machine.step
    → IsSo stands n.machine → IsSo after (session_asks k n ask).machine
unfolding session_asks
asks_so stands after k n (Done its) e stays writes so = so_stays stands after k.number n.machine (stays refl) so
asks_so stands after k n (Put slot action) e stays writes so = settled_so after k n (Put slot action) e (so_stays stands after k.number n.machine (stays refl) so)
asks_so stands after k n (Take slot) e stays writes so = settled_so after k n (Take slot) e (so_stays stands after k.number n.machine (stays refl) so)
asks_so stands after k n ask e stays writes so =
    settled_so after k (session_replied k n ask) (session_ask k (session_replied k n ask).machine) refl (reply_so stands after k n.machine (reply_to n.words ask) so writes)
