-- What a session's step leaves of the reads in the log: that of another number stays, and its own goes on as its attempt does.
use Rattle.std.proofs.Common.{◌≡◌, ◌≢◌, ℕ, ◌∙◌, refl, sym, ap, subst, inl, inr, Bool, true, false, List, [], ◌∷◌, ◌++◌}
use Rattle.std.specs.Prelude.{⊤, ◌==◌, if◌then◌else◌, Option}
use Rattle.fkv_map.specs.declared.operations.Op.{Op}
use Rattle.fkv_map.specs.declared.operations.Op.TheVariants.{Read}
use Rattle.law_log.specs.Ghosts.{Ghosts, GhostEvent, Tells, FindsEntry, TakesValue, Log, Reading, found, took, set_at, ghosts_after, ghost_run}
use Rattle.law_log.proofs.Shown.{set_there, set_else, at_one}
use Rattle.fkv_plane.specs.declared.asks.Ask.{Ask}
use Rattle.fkv_plane.specs.declared.asks.Ask.TheVariants.{Done}
use Rattle.fkv_plane.specs.declared.places.Places.{Places}
use Rattle.law_commit.specs.Below.fkv_log.ReserveAnswer.{ReserveAnswer}
use Rattle.law_commit.specs.Below.fkv_log.ReserveAnswer.TheVariants.{Reserved}
use Rattle.fkv_index.specs.declared.finding.Found.{Found}
use Rattle.fkv_index.specs.declared.finding.Found.TheVariants.{Slot, NoSlot}
use Rattle.fkv_index.specs.declared.finding.FindAnswer.{FindAnswer}
use Rattle.fkv_index.specs.Finding.{find_next_ask}
use Rattle.law_commit.specs.Below.fkv_ops.TryAnswer.{TryAnswer}
use Rattle.law_commit.specs.Below.fkv_ops.TryAnswer.TheVariants as answer
use Rattle.law_commit.specs.Below.fkv_ops.TheAppending.{Appending}
use Rattle.law_commit.specs.Below.fkv_ops.TheTrying.{Trying}
use Rattle.law_commit.specs.Below.fkv_ops.TheTrying.TheVariants.{Walks, SwapsValue, ChangesValue, Appends}
use Rattle.law_commit.specs.Below.fkv_ops.TheWalking.{Walking}
use Rattle.law_commit.specs.Below.fkv_ops.TheWalking.TheVariants.{Finds}
use Rattle.law_commit.specs.Below.fkv_ops.Appending.{AppendState}
use Rattle.law_commit.specs.Below.fkv_ops.Requests.{is_read}
use Rattle.law_commit.specs.Below.fkv_ops.Trying.{TryState}
use Rattle.law_commit.specs.Below.fkv_ops.Walking.{WalkState}
use Rattle.law_commit.specs.Below.fkv_pending.TheAttempting.{Attempting}
use Rattle.law_commit.specs.Below.fkv_pending.TheAttempting.TheVariants.{Tries}
use Rattle.law_commit.specs.Below.fkv_pending.PendingRequest.{PendingRequest}
use Rattle.law_commit.specs.Below.fkv_pending.Attempting.{AttemptState, attempt_ask, attempt_next}
use Rattle.law_commit.specs.Below.fkv_session.Sessions.{Seat, bits_of, room_of}
use Rattle.law_commit.specs.Below.law_local.Tries.AttemptRows.{AttemptRow}
use Rattle.law_commit.specs.Below.law_local.Tries.ReadRows.{HasRead, finds_start, search_starts, walk_starts, try_starts, attempt_starts, tells_value, started, valued, reading_after}
use Rattle.law_commit.specs.Below.law_local.Tries.TryRows.{TryRow}
use Rattle.law_commit.specs.Below.law_refine.Events.Appends.{reserved_ghosts, append_ghosts, NewRecord}
use Rattle.law_commit.specs.Below.law_world.GuardSessions.Tries.{is_for_entry}
use Rattle.law_commit.specs.Below.law_refine.Events.Sessions.{value_ghosts, tried_ghosts, attempt_ghosts}
use Rattle.law_commit.specs.Below.law_refine.Events.Tries.{found_ghosts, find_ghosts, walk_ghosts, search_ghosts, try_ghosts}
use Rattle.law_commit.proofs.Below.law_refine.OfEvents.Searches.{append_all, search_all}

-- ---- events that touch only some reads
-- it tells nothing, and touches only such a read
abbrev pub touches : (ℕ → Type 0) → GhostEvent → Type 0
touches Such (Tells line) = ⊥
touches Such (FindsEntry reader) = Such reader
touches Such (TakesValue reader) = Such reader
touches Such event = ⊤

abbrev pub AllTouch : (ℕ → Type 0) → List GhostEvent → Type 0
AllTouch Such [] = ⊤
AllTouch Such (event ∷ before) = touches Such event × AllTouch Such before

pub both_touch : (Such : ℕ → Type 0) (later before : List GhostEvent) → AllTouch Such later → AllTouch Such before → AllTouch Such (later ++ before)
both_touch Such [] before one other = other
both_touch Such (event ∷ later) before one other = (one.0, both_touch Such later before one.1 other)

none_such : (Such : ℕ → Type 0) (reader own : ℕ) → Such own → (Such reader → ⊥) → reader ≢ own
none_such Such reader own its none same = none (subst Such (sym same) its)

-- another read stays
pub untouched : (Such : ℕ → Type 0) (home : ℕ → ℕ) (g : Ghosts) (events : List GhostEvent) (reader : ℕ) → AllTouch Such events → (Such reader → ⊥) → (ghost_run home g events).reads reader ≡ g.reads reader
unfolding ghost_run ghosts_after
untouched Such home g [] reader all none = refl
untouched Such home g (Tells line ∷ before) reader all none = absurd all.0
untouched Such home g (FindsEntry own ∷ before) reader all none = set_else (ghost_run home g before).reads own _ reader (none_such Such reader own all.0 none) ∙ untouched Such home g before reader all.1 none
untouched Such home g (TakesValue own ∷ before) reader all none = set_else (ghost_run home g before).reads own _ reader (none_such Such reader own all.0 none) ∙ untouched Such home g before reader all.1 none
untouched Such home g (event ∷ before) reader all none = untouched Such home g before reader all.1 none

-- and one that has its value keeps it
found_value : (home : ℕ → ℕ) (log : Log) (reads : ℕ → Reading) (own reader key : ℕ) (value : Option ℕ) → HasRead (reads reader) key value → HasRead (set_at reads own (found home log (reads own)) reader) key value
found_value home log reads own reader key value has = elim (at_one reads own (found home log (reads own)) reader) [
  | inl here ↦ (has.0, here.1 ∙ (ap (λ n. found home log (reads n)) (sym here.0) ∙ ap (found home log) has.1))
  | inr apart ↦ (has.0, apart.1 ∙ has.1)
]

took_value : (home : ℕ → ℕ) (log : Log) (reads : ℕ → Reading) (own reader key : ℕ) (value : Option ℕ) → HasRead (reads reader) key value → HasRead (set_at reads own (took home log (reads own)) reader) key value
took_value home log reads own reader key value has = elim (at_one reads own (took home log (reads own)) reader) [
  | inl here ↦ (has.0, here.1 ∙ (ap (λ n. took home log (reads n)) (sym here.0) ∙ ap (took home log) has.1))
  | inr apart ↦ (has.0, apart.1 ∙ has.1)
]

pub value_kept : (Such : ℕ → Type 0) (home : ℕ → ℕ) (g : Ghosts) (events : List GhostEvent) (reader key : ℕ) (value : Option ℕ) → AllTouch Such events → HasRead (g.reads reader) key value → HasRead ((ghost_run home g events).reads reader) key value
unfolding ghost_run ghosts_after
value_kept Such home g [] reader key value all has = has
value_kept Such home g (Tells line ∷ before) reader key value all has = absurd all.0
value_kept Such home g (FindsEntry own ∷ before) reader key value all has = found_value home (ghost_run home g before).log (ghost_run home g before).reads own reader key value (value_kept Such home g before reader key value all.1 has)
value_kept Such home g (TakesValue own ∷ before) reader key value all has = took_value home (ghost_run home g before).log (ghost_run home g before).reads own reader key value (value_kept Such home g before reader key value all.1 has)
value_kept Such home g (event ∷ before) reader key value all has = value_kept Such home g before reader key value all.1 has

-- ---- an attempt touches its own read alone, and of an update none
-- the read of this number, where the operation is a read
abbrev pub IsItsRead : Op → ℕ → ℕ → Type 0
IsItsRead op reader other = (is_read op ≡ true) × (other ≡ reader)

either : (Such : ℕ → Type 0) (c : Bool) (xs ys : List GhostEvent) → AllTouch Such xs → AllTouch Such ys → AllTouch Such (if c then xs else ys)
either Such true xs ys one other = one
either Such false xs ys one other = other

reserved_touch : (Such : ℕ → Type 0) (a : AppendState) (made : NewRecord) (ask : Ask ReserveAnswer) → AllTouch Such (reserved_ghosts a made ask)
reserved_touch Such a made (Done (Reserved addr)) = either Such (is_for_entry a addr) _ _ (tt, tt) (tt, (tt, tt))
reserved_touch Such a made ask = tt

append_touch : (Such : ℕ → Type 0) (room : ℕ) (a : AppendState) (made : NewRecord) (step : Appending) (reply : ℕ) → AllTouch Such (append_ghosts room a made step reply)
append_touch Such room a made step reply = append_all (AllTouch Such) tt (λ addr. (tt, tt)) (λ addr. (tt, tt)) room a made step reply (λ ask. reserved_touch Such a made ask)

search_touch : (p : Places) (op : Op) (reader : ℕ) (w : WalkState) (reply : ℕ) → AllTouch (IsItsRead op reader) (search_ghosts p op reader w reply)
search_touch p (Read key) reader w reply = search_all (AllTouch (IsItsRead (Read key) reader)) tt reader ((refl, refl), tt) p (Read key) w reply
search_touch p op reader w reply = tt

try_touch : (p : Places) (room session reader : ℕ) (pending : PendingRequest) (t : TryState) (step : Trying) (reply : ℕ) → AllTouch (IsItsRead pending.request.op reader) (try_ghosts p room session reader pending t step reply)
try_touch p room session reader pending t Walks reply = search_touch p pending.request.op reader t.walk reply
try_touch p room session reader pending t (SwapsValue addr) reply = (tt, tt)
try_touch p room session reader pending t (ChangesValue addr old) reply = either (IsItsRead pending.request.op reader) (reply == old) _ _ (tt, tt) tt
try_touch p room session reader pending t (Appends its) reply = append_touch (IsItsRead pending.request.op reader) room t.append _ t.append.step reply
try_touch p room session reader pending t step reply = tt

value_touch : (op : Op) (reader : ℕ) (ask : Ask TryAnswer) → AllTouch (IsItsRead op reader) (value_ghosts op reader ask)
value_touch (Read key) reader (Done (answer.Found value)) = ((refl, refl), tt)
value_touch (Read key) reader (Done answer.Absent) = ((refl, refl), tt)
value_touch op reader ask = tt

tried_touch : (k : Seat) (reader : ℕ) (a : AttemptState) (step : Attempting) (reply : ℕ) → AllTouch (IsItsRead a.pending.request.op reader) (tried_ghosts k reader a step reply)
tried_touch k reader a Tries reply = try_touch k.places (room_of k) k.number reader a.pending a.trial a.trial.step reply
tried_touch k reader a step reply = tt

pub attempt_touch : (k : Seat) (reader : ℕ) (a : AttemptState) (reply : ℕ) → AllTouch (IsItsRead a.pending.request.op reader) (attempt_ghosts k reader a reply)
attempt_touch k reader a reply =
    let ask : Ask TryAnswer = attempt_ask k.places k.number (attempt_next k.places (bits_of k) (room_of k) k.number a reply) in
    both_touch (IsItsRead a.pending.request.op reader) (value_ghosts a.pending.request.op reader ask) (tried_ghosts k reader a a.step reply) (value_touch a.pending.request.op reader ask) (tried_touch k reader a a.step reply)

-- ---- and that goes on as the attempt does
value_is : (op : Op) (reader : ℕ) (ask : Ask TryAnswer) → is_read op ≡ true → value_ghosts op reader ask ≡ (if tells_value ask then TakesValue reader ∷ [] else [])
value_is (Read key) reader (Done (answer.Found value)) read = refl
value_is (Read key) reader (Done answer.Absent) read = refl
value_is (Read key) reader ask read = refl
value_is op reader ask read = cc

found_is : (reader : ℕ) (its : Found) → found_ghosts reader its ≡ (if finds_start its then FindsEntry reader ∷ [] else [])
found_is reader (Slot place word) = refl
found_is reader NoSlot = refl
found_is reader its = refl

find_is : (reader : ℕ) (ask : Ask FindAnswer) → find_ghosts reader ask ≡ (if search_starts ask then FindsEntry reader ∷ [] else [])
find_is reader (Done its) = found_is reader its.found
find_is reader ask = refl

walk_is : (p : Places) (reader : ℕ) (w : WalkState) (step : Walking) (reply : ℕ) → walk_ghosts p reader w step reply ≡ (if walk_starts p w step reply then FindsEntry reader ∷ [] else [])
walk_is p reader w Finds reply = find_is reader (find_next_ask p w.finding reply)
walk_is p reader w step reply = refl

search_is : (p : Places) (op : Op) (reader : ℕ) (w : WalkState) (reply : ℕ) → is_read op ≡ true → search_ghosts p op reader w reply ≡ (if walk_starts p w w.step reply then FindsEntry reader ∷ [] else [])
search_is p (Read key) reader w reply read = walk_is p reader w w.step reply
search_is p op reader w reply read = cc

not_both : {X : Type 0} (c : Bool) → c ≡ true → c ≡ false → X
not_both c one other = cc

try_is : (home : ℕ → ℕ) (log : Log) (p : Places) (room session reader : ℕ) (pending : PendingRequest) (t : TryState) (step : Trying) (reply : ℕ) → is_read pending.request.op ≡ true → is_read t.request.op ≡ true → TryRow home log t step
    → try_ghosts p room session reader pending t step reply ≡ (if try_starts p t step reply then FindsEntry reader ∷ [] else [])
try_is home log p room session reader pending t Walks reply read its row = search_is p pending.request.op reader t.walk reply read
try_is home log p room session reader pending t (SwapsValue addr) reply read its row = not_both (is_read t.request.op) its row.0
try_is home log p room session reader pending t (ChangesValue addr old) reply read its row = not_both (is_read t.request.op) its row.0
try_is home log p room session reader pending t (Appends told) reply read its row = not_both (is_read t.request.op) its row.0
try_is home log p room session reader pending t step reply read its row = refl

tried_is : (home : ℕ → ℕ) (log : Log) (k : Seat) (reader : ℕ) (a : AttemptState) (step : Attempting) (reply : ℕ) → is_read a.pending.request.op ≡ true → AttemptRow home log a step
    → tried_ghosts k reader a step reply ≡ (if attempt_starts k.places a step reply then FindsEntry reader ∷ [] else [])
tried_is home log k reader a Tries reply read row =
    try_is home log k.places (room_of k) k.number reader a.pending a.trial a.trial.step reply read (ap (λ request. is_read request.op) row.its_request ∙ read) row.knows.row
tried_is home log k reader a step reply read row = refl

two_events : (home : ℕ → ℕ) (g : Ghosts) (reader : ℕ) (starts tells : Bool)
    → (ghost_run home g ((if tells then TakesValue reader ∷ [] else []) ++ (if starts then FindsEntry reader ∷ [] else []))).reads reader ≡ valued home g.log (started home g.log (g.reads reader) starts) tells
unfolding ghost_run ghosts_after
two_events home g reader true true = set_there (set_at g.reads reader (found home g.log (g.reads reader))) reader _ ∙ ap (took home g.log) (set_there g.reads reader (found home g.log (g.reads reader)))
two_events home g reader true false = set_there g.reads reader (found home g.log (g.reads reader))
two_events home g reader false true = set_there g.reads reader (took home g.log (g.reads reader))
two_events home g reader false false = refl

pub attempt_moves : (home : ℕ → ℕ) (g : Ghosts) (k : Seat) (reader : ℕ) (a : AttemptState) (reply : ℕ) → is_read a.pending.request.op ≡ true → AttemptRow home g.log a a.step
    → (ghost_run home g (attempt_ghosts k reader a reply)).reads reader ≡ reading_after home g.log k.places (bits_of k) (room_of k) k.number a reply (g.reads reader)
attempt_moves home g k reader a reply read row =
    let ask : Ask TryAnswer = attempt_ask k.places k.number (attempt_next k.places (bits_of k) (room_of k) k.number a reply) in
    ap (λ (events : List GhostEvent). (ghost_run home g (events ++ tried_ghosts k reader a a.step reply)).reads reader) (value_is a.pending.request.op reader ask read)
    ∙ (ap (λ (events : List GhostEvent). (ghost_run home g ((if tells_value ask then TakesValue reader ∷ [] else []) ++ events)).reads reader) (tried_is home g.log k reader a a.step reply read row)
    ∙ two_events home g reader (attempt_starts k.places a a.step reply) (tells_value ask))
