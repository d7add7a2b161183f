-- What holds of log, trace and reads at each moment, and that each event and so each run keeps it.
use Rattle.std.proofs.Common.{◌≡◌, ◌⊎◌, inl, inr, ℕ, ◌∙◌, Option, List, [], ◌∷◌, ◌++◌, append_assoc, refl, sym, ap, subst, arith}
use Rattle.fkv_map.specs.declared.history.HistoryEntry.{HistoryEntry}
use Rattle.fkv_map.specs.declared.operations.Reply.{Reply}
use Rattle.fkv_map.specs.Map.{Map, reply_to_read}
use Rattle.law_log.specs.Trace.{Effect, TraceLine, CallsUpdate, RefusesUpdate, GivesResult, CallsRead, AnswersRead, IsIn, value_in, HasUpdate, OrdersCalls, IsFresh, ReadsAreFresh}
use Rattle.law_log.specs.Chains.{Logged, Unborn, Reserved, Published, Dropped}
use Rattle.law_log.specs.Ghosts.{Log, Reading, Called, HasValue, Ghosts, GhostEvent, Tells, FindsEntry, TakesValue, Reserves, Publishes, Drops, Changes, Fixes, published, dropped, changed, found, took, read_called, set_at, ghosts_after, ghost_run}
use Rattle.law_log.specs.Enabled.{IsEnabled, IsLineEnabled, IsPublishEnabled, IsChangeEnabled, IsInHand, AreEnabled, IsOpened}
use Rattle.law_log.proofs.Lists.{has_more, place_of, no_place}
use Rattle.law_log.proofs.Chains.{at_one}
use Rattle.law_log.proofs.Held.{Held, Grows}
use Rattle.law_log.proofs.LogSteps.{Steps, log_steps, opening_held}
use Rattle.law_log.proofs.Calls.{orders_effect, orders_line, none_before}
use Rattle.law_log.proofs.Readings.{IsBegun, HadValue, KnowsRead, IsNoCall, read_steps, read_told, finds_knows, takes_knows, begins_read}

pub record IsSound (home : ℕ → ℕ) (m : Map) (g : Ghosts) : Type 0 where
  pub held : Held home m g.log
  pub orders : OrdersCalls g.log.history g.trace
  pub knows : (reader : ℕ) → KnowsRead home m g.log g.trace reader (g.reads reader)
  pub fresh : ReadsAreFresh m g.log.history g.trace

-- ---- the history, by what an event adds to it
pub record AddsEffect (g : Ghosts) (log' : Log) : Type 0 where
  pub effect : Effect
  pub longer : log'.history ≡ effect ∷ g.log.history
  pub in_hand : IsInHand g effect.entry

abbrev pub AddsOneOrNone : Ghosts → Log → Type 0
AddsOneOrNone g log' = (log'.history ≡ g.log.history) ⊎ AddsEffect g log'

publish_adds : (home : ℕ → ℕ) (g : Ghosts) (a : ℕ) (logged : Logged) → IsPublishEnabled home g logged → AddsOneOrNone g (published home g.log a logged)
publish_adds home g a (Reserved entry cell) enabled = inr (record { effect = record { entry = entry; version = cell.version }; longer = refl; in_hand = enabled.2 })
publish_adds home g a Unborn enabled = inl refl
publish_adds home g a (Published cell) enabled = inl refl
publish_adds home g a (Dropped cell) enabled = inl refl

change_adds : (home : ℕ → ℕ) (g : Ghosts) (a : ℕ) (entry : HistoryEntry) (logged : Logged) → IsChangeEnabled home g a entry logged → AddsOneOrNone g (changed g.log a entry logged)
change_adds home g a entry (Published cell) enabled = inr (record { effect = record { entry = entry; version = cell.version }; longer = refl; in_hand = enabled.1 })
change_adds home g a entry Unborn enabled = inl refl
change_adds home g a entry (Reserved other cell) enabled = inl refl
change_adds home g a entry (Dropped cell) enabled = inl refl

orders_adds : (g : Ghosts) (log' : Log) → OrdersCalls g.log.history g.trace → AddsOneOrNone g log' → OrdersCalls log'.history g.trace
orders_adds g log' orders (inl same) = subst (λ h. OrdersCalls h g.trace) (sym same) orders
orders_adds g log' orders (inr adds) = subst (λ h. OrdersCalls h g.trace) (sym adds.longer) (orders_effect g.log.history g.trace adds.effect orders adds.in_hand.called adds.in_hand.none_yet)

-- ---- what reads were told
fresh_longer : (home : ℕ → ℕ) (m : Map) (log log' : Log) (trace : List TraceLine) → Grows home m log log' → ReadsAreFresh m log.history trace → ReadsAreFresh m log'.history trace
fresh_longer home m log log' trace grows fresh = record {
  called = fresh.called;
  fresh = λ later between earlier reader key reply is. let its = fresh.fresh later between earlier reader key reply is in record {
    newer = grows.newer ++ its.newer;
    older = its.older;
    all = grows.longer ∙ ap (λ h. grows.newer ++ h) its.all ∙ sym (append_assoc grows.newer its.newer its.older);
    value = its.value;
    given_before = its.given_before;
    called_later = its.called_later;
  };
}

has_value : (home : ℕ → ℕ) (m : Map) (g : Ghosts) (reader key : ℕ) (seen : List Effect) (value : Option ℕ) → g.reads reader ≡ HasValue key seen value → KnowsRead home m g.log g.trace reader (g.reads reader)
    → IsBegun g.trace reader key seen × HadValue m g.log.history seen key value
has_value home m g reader key seen value is knows = subst (KnowsRead home m g.log g.trace reader) is knows

fresh_answer : (home : ℕ → ℕ) (m : Map) (g : Ghosts) (reader key : ℕ) (reply : Reply) (between earlier : List TraceLine) → KnowsRead home m g.log g.trace reader (g.reads reader) → IsLineEnabled g (AnswersRead reader reply)
    → g.trace ≡ between ++ CallsRead reader key ∷ earlier → IsFresh m g.log.history key reply earlier []
fresh_answer home m g reader key reply between earlier knows enabled was =
    let known = has_value home m g reader enabled.0 enabled.1 enabled.2 enabled.3 knows in
    let begun = known.0.its between earlier key was in
    let had = known.1 in
    record {
      newer = had.newer;
      older = had.between ++ enabled.1;
      all = had.all;
      value = enabled.4 ∙ ap reply_to_read had.its ∙ ap (λ k. reply_to_read (value_in m (had.between ++ enabled.1) k)) (sym begun.0);
      given_before = λ session serial given is_in. has_more had.between enabled.1 session serial (begun.1 session serial given is_in);
      called_later = λ session serial op is_in has. is_in;
    }

-- an answer that was fresh is so whatever is told later
fresh_on : (m : Map) (g : Ghosts) (line : TraceLine) (key : ℕ) (reply : Reply) (earlier later : List TraceLine) → IsLineEnabled g line → OrdersCalls g.log.history g.trace → IsFresh m g.log.history key reply earlier later
    → IsFresh m g.log.history key reply earlier (line ∷ later)
fresh_on m g line key reply earlier later enabled orders its = record {
  newer = its.newer;
  older = its.older;
  all = its.all;
  value = its.value;
  given_before = its.given_before;
  called_later = λ session serial op is_in has. elim is_in [
    | inl same ↦ none_before g line enabled orders session serial op same (subst (λ h. HasUpdate h session serial) (sym its.all) (has_more its.newer its.older session serial has))
    | inr older ↦ its.called_later session serial op older has
  ];
}

fresh_line : (home : ℕ → ℕ) (m : Map) (g : Ghosts) (line : TraceLine) → IsSound home m g → IsLineEnabled g line → ReadsAreFresh m g.log.history (line ∷ g.trace)
fresh_line home m g line sound enabled = record {
  called = λ later before reader reply is. elim (place_of line (AnswersRead reader reply) g.trace later before is) [
    | inl front ↦ let its = subst (IsLineEnabled g) front.its enabled in
        (its.0, subst (IsIn (CallsRead reader its.0)) front.all_older (has_value home m g reader its.0 its.1 its.2 its.3 (sound.knows reader)).0.called)
    | inr behind ↦ sound.fresh.called behind.fewer before reader reply behind.place
  ];
  fresh = λ later between earlier reader key reply is. elim (place_of line (AnswersRead reader reply) g.trace later (between ++ CallsRead reader key ∷ earlier) is) [
    | inl front ↦ subst (IsFresh m g.log.history key reply earlier) (sym front.none_newer)
        (fresh_answer home m g reader key reply between earlier (sound.knows reader) (subst (IsLineEnabled g) front.its enabled) front.all_older)
    | inr behind ↦ subst (IsFresh m g.log.history key reply earlier) (sym behind.newer_is)
        (fresh_on m g line key reply earlier behind.fewer enabled sound.orders (sound.fresh.fresh behind.fewer between earlier reader key reply behind.place))
  ];
}

-- ---- what is known of reads
-- where a line calls no read
told_else : (home : ℕ → ℕ) (m : Map) (g : Ghosts) (line : TraceLine) → ((reader : ℕ) → IsNoCall line reader) → IsSound home m g → (reader : ℕ) → KnowsRead home m g.log (line ∷ g.trace) reader (g.reads reader)
told_else home m g line no_call sound reader = read_told home m g.log g.trace line reader (g.reads reader) (no_call reader) (sound.knows reader)

called_knows : (home : ℕ → ℕ) (m : Map) (g : Ghosts) (r key : ℕ) → IsSound home m g → IsLineEnabled g (CallsRead r key) → (reader : ℕ)
    → KnowsRead home m g.log (CallsRead r key ∷ g.trace) reader (set_at g.reads r (Called key g.log.history) reader)
called_knows home m g r key sound enabled reader = elim (at_one g.reads r (Called key g.log.history) reader) [
  | inl here ↦ subst (KnowsRead home m g.log (CallsRead r key ∷ g.trace) reader) (sym here.1)
      (subst (λ i. KnowsRead home m g.log (CallsRead i key ∷ g.trace) reader (Called key g.log.history)) here.0
      (begins_read home m g.log g.trace reader key sound.orders (subst (KnowsRead home m g.log g.trace reader) (ap g.reads here.0 ∙ enabled) (sound.knows reader))))
  | inr else_ ↦ subst (KnowsRead home m g.log (CallsRead r key ∷ g.trace) reader) (sym else_.1)
      (read_told home m g.log g.trace (CallsRead r key) reader (g.reads reader) (λ key' same. else_.0 (same_reader key' same)) (sound.knows reader))
]
  where
    same_reader : (key' : ℕ) → CallsRead r key ≡ CallsRead reader key' → reader ≡ r
    same_reader key' same = cc

line_knows : (home : ℕ → ℕ) (m : Map) (g : Ghosts) (line : TraceLine) → IsSound home m g → IsLineEnabled g line → (reader : ℕ) → KnowsRead home m g.log (line ∷ g.trace) reader (read_called g.log.history line g.reads reader)
line_knows home m g (CallsRead r key) sound enabled reader = called_knows home m g r key sound enabled reader
line_knows home m g (CallsUpdate s n op) sound enabled reader = told_else home m g (CallsUpdate s n op) (λ r key same. absurd (grind (arith, same))) sound reader
line_knows home m g (RefusesUpdate s n) sound enabled reader = told_else home m g (RefusesUpdate s n) (λ r key same. absurd (grind (arith, same))) sound reader
line_knows home m g (GivesResult s n reply) sound enabled reader = told_else home m g (GivesResult s n reply) (λ r key same. absurd (grind (arith, same))) sound reader
line_knows home m g (AnswersRead r reply) sound enabled reader = told_else home m g (AnswersRead r reply) (λ r key same. absurd (grind (arith, same))) sound reader

-- where one read goes on
one_knows : (home : ℕ → ℕ) (m : Map) (g : Ghosts) (r : ℕ) (reading : Reading) → IsSound home m g → KnowsRead home m g.log g.trace r reading → (reader : ℕ) → KnowsRead home m g.log g.trace reader (set_at g.reads r reading reader)
one_knows home m g r reading sound knows reader = elim (at_one g.reads r reading reader) [
  | inl here ↦ subst (KnowsRead home m g.log g.trace reader) (sym here.1) (subst (λ i. KnowsRead home m g.log g.trace i reading) (sym here.0) knows)
  | inr else_ ↦ subst (KnowsRead home m g.log g.trace reader) (sym else_.1) (sound.knows reader)
]

-- ---- each event
-- one that changes the log alone
log_sound : (home : ℕ → ℕ) (m : Map) (g : Ghosts) (log' : Log) → IsSound home m g → Steps home m g.log log' → AddsOneOrNone g log' → IsSound home m (record g { log = log' })
log_sound home m g log' sound steps adds = record {
  held = steps.held;
  orders = orders_adds g log' sound.orders adds;
  knows = λ reader. read_steps home m g.log log' g.trace reader (g.reads reader) sound.held steps.grows (sound.knows reader);
  fresh = fresh_longer home m g.log log' g.trace steps.grows sound.fresh;
}

pub event_sound : (home : ℕ → ℕ) (m : Map) (g : Ghosts) (event : GhostEvent) → IsSound home m g → IsEnabled home g event → IsSound home m (ghosts_after home g event)
unfolding ghosts_after
event_sound home m g (Tells line) sound enabled = record {
  held = sound.held;
  orders = orders_line g line enabled sound.orders;
  knows = line_knows home m g line sound enabled;
  fresh = fresh_line home m g line sound enabled;
}
event_sound home m g (FindsEntry r) sound enabled = record {
  held = sound.held;
  orders = sound.orders;
  knows = one_knows home m g r (found home g.log (g.reads r)) sound (finds_knows home m g.log g.trace r (g.reads r) sound.held (sound.knows r));
  fresh = sound.fresh;
}
event_sound home m g (TakesValue r) sound enabled = record {
  held = sound.held;
  orders = sound.orders;
  knows = one_knows home m g r (took home g.log (g.reads r)) sound (takes_knows home m g.log g.trace r (g.reads r) (sound.knows r));
  fresh = sound.fresh;
}
event_sound home m g (Reserves a entry cell) sound enabled = log_sound home m g _ sound (log_steps home m g (Reserves a entry cell) sound.held enabled) (inl refl)
event_sound home m g (Publishes a) sound enabled = log_sound home m g _ sound (log_steps home m g (Publishes a) sound.held enabled) (publish_adds home g a (g.log.cells a) enabled)
event_sound home m g (Drops a) sound enabled = log_sound home m g _ sound (log_steps home m g (Drops a) sound.held enabled) (drop_adds (g.log.cells a))
  where
    drop_adds : (logged : Logged) → AddsOneOrNone g (dropped g.log a logged)
    drop_adds (Reserved entry cell) = inl refl
    drop_adds Unborn = inl refl
    drop_adds (Published cell) = inl refl
    drop_adds (Dropped cell) = inl refl
event_sound home m g (Changes a entry) sound enabled = log_sound home m g _ sound (log_steps home m g (Changes a entry) sound.held enabled) (change_adds home g a entry (g.log.cells a) enabled)
event_sound home m g (Fixes a) sound enabled = log_sound home m g _ sound (log_steps home m g (Fixes a) sound.held enabled) (inl refl)

-- ---- a whole run
pub opening_sound : (home : ℕ → ℕ) (m : Map) (version : ℕ) (opening : Ghosts) → IsOpened home m version opening → IsSound home m opening
opening_sound home m version opening opened = record {
  held = opening_held home m version opening opened;
  orders = record {
    given = λ session serial reply is_in. absurd (subst (IsIn (GivesResult session serial reply)) opened.no_trace is_in);
    once = λ newer older effect is has. no_place effect newer older (sym opened.no_history ∙ is);
    called = λ effect is_in. absurd (subst (IsIn effect) opened.no_history is_in);
    in_order = λ newer older effect later earlier op is was. absurd (no_place effect newer older (sym opened.no_history ∙ is));
  };
  knows = λ reader. subst (KnowsRead home m opening.log opening.trace reader) (sym (opened.no_reads reader)) (λ key is_in. subst (IsIn (CallsRead reader key)) opened.no_trace is_in);
  fresh = record {
    called = λ later before reader reply is. absurd (no_place (AnswersRead reader reply) later before (sym opened.no_trace ∙ is));
    fresh = λ later between earlier reader key reply is. absurd (no_place (AnswersRead reader reply) later _ (sym opened.no_trace ∙ is));
  };
}

pub run_sound : (home : ℕ → ℕ) (m : Map) (version : ℕ) (opening : Ghosts) (events : List GhostEvent) → IsOpened home m version opening → AreEnabled home opening events → IsSound home m (ghost_run home opening events)
unfolding ghost_run AreEnabled
run_sound home m version opening [] opened enabled = opening_sound home m version opening opened
run_sound home m version opening (event ∷ before) opened enabled =
    event_sound home m (ghost_run home opening before) event (run_sound home m version opening before opened enabled.0) enabled.1
