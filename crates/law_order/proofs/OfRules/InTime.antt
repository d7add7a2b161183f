-- Where the lines of a life's events stand among the log's events, and so each read of a life is answered in time.
use Rattle.std.proofs.Common.{◌≡◌, inl, inr, ℕ, ◌∙◌, append_assoc, Bool, true, false, List, [], ◌∷◌, ◌++◌, refl, sym, ap, subst}
use Rattle.std.specs.Prelude.{length, map, if◌then◌else◌}
use Rattle.law_opening.specs.Below.fkv_core.Openings.{IsOpeningWorld, beginning}
use Rattle.fkv_map.specs.declared.history.HistoryEntry.{HistoryEntry}
use Rattle.fkv_map.specs.declared.operations.Reply.{Reply}
use Rattle.law_opening.specs.Below.fkv_opening.TheOpened.{Opened}
use Rattle.law_opening.specs.Log.Begins.{Begins}
use Rattle.law_opening.specs.Log.Lives.{KeepsRules, ghosts_beside}
use Rattle.law_opening.specs.Log.Maps.{opening_map}
use Rattle.law_opening.specs.Log.OpeningLog.{opening_ghosts}
use Rattle.law_log.specs.Ghosts.{Ghosts, GhostEvent, Log, Tells, ghosts_after, ghost_run}
use Rattle.law_log.specs.Enabled as order
use Rattle.law_log.specs.Enabled.{AreEnabled}
use Rattle.law_log.specs.Trace.{AnswersRead, CallsRead, IsIn, TraceLine, history_of}
use Rattle.law_log.proofs.Shown.{enabled_before}
use Rattle.law_commit.specs.Below.law_world.Runs.Added.{told_at, told_by}
use Rattle.law_commit.specs.Below.fkv_world.Past.{TraceEvent}
use Rattle.law_commit.specs.Below.fkv_world.Runs.{World, happens, run}
use Rattle.law_commit.specs.Below.fkv_world.World.{Event, Now}
use Rattle.law_commit.proofs.Below.law_refine.OfCalls.SameHistory.{same_history}
use Rattle.law_commit.specs.Below.law_refine.Calls.Calls.{event_adds}
use Rattle.law_commit.specs.Below.law_world.Guarded.Shows.{IsOpened}
use Rattle.law_commit.specs.Below.law_refine.Events.GhostEvents.{fixed_ghosts, ghost_events, home_in, mapped, own_ghosts, safe_at, serials_in}
use Rattle.law_commit.specs.Below.law_refine.Events.Lines.{lines_added}
use Rattle.law_commit.specs.Below.law_refine.Records.Changes.{AreChangesPublished}
use Rattle.law_order.specs.Rules.InTime.{IsInTime, ReadsInTime}
use Rattle.law_order.specs.Rules.Ordered.{effects_so_far}
use Rattle.law_order.proofs.OfRules.Kept.{same_entries}
use Rattle.law_order.proofs.OfRules.ReadRuns.{in_time}

-- ---- lists
record StandsAt (line : TraceLine) (lines : List TraceLine) : Type 0 where
  newer : List TraceLine
  older : List TraceLine
  all : lines ≡ newer ++ line ∷ older

stands : (line : TraceLine) (lines : List TraceLine) → IsIn line lines → StandsAt line lines
stands line [] is_in = absurd is_in
stands line (x ∷ rest) (inl same) = record { newer = []; older = rest; all = ap (λ (y : TraceLine). y ∷ rest) same }
stands line (x ∷ rest) (inr more) = let its = stands line rest more in record { newer = x ∷ its.newer; older = its.older; all = ap (λ (y : List TraceLine). x ∷ y) its.all }

told_apart : (newer older : List TraceLine) (line : TraceLine) (acts before : List GhostEvent)
    → (map Tells (newer ++ line ∷ older) ++ acts) ++ before ≡ map Tells newer ++ (Tells line ∷ ((map Tells older ++ acts) ++ before))
told_apart [] older line acts before = refl
told_apart (x ∷ newer) older line acts before = ap (λ (y : List GhostEvent). Tells x ∷ y) (told_apart newer older line acts before)

told_of : (newer older : List TraceLine) (line : TraceLine) (acts : List GhostEvent) → map Tells (newer ++ line ∷ older) ++ acts ≡ map Tells newer ++ Tells line ∷ (map Tells older ++ acts)
told_of [] older line acts = refl
told_of (x ∷ newer) older line acts = ap (λ (y : List GhostEvent). Tells x ∷ y) (told_of newer older line acts)

log_told : (home : ℕ → ℕ) (g : Ghosts) (lines : List TraceLine) (before : List GhostEvent) → (ghost_run home g (map Tells lines ++ before)).log ≡ (ghost_run home g before).log
unfolding ghost_run ghosts_after
log_told home g [] before = refl
log_told home g (line ∷ lines) before = log_told home g lines before

line_log : (home : ℕ → ℕ) (g : Ghosts) (line : TraceLine) (before : List GhostEvent) → (ghost_run home g (Tells line ∷ before)).log ≡ (ghost_run home g before).log
unfolding ghost_run ghosts_after
line_log home g line before = refl

published_behind : (opening : World) (ghosts : Ghosts) (later before : List Event) → AreChangesPublished opening ghosts (later ++ before) → AreChangesPublished opening ghosts before
published_behind opening ghosts [] before its = its
published_behind opening ghosts (event ∷ later) before its = published_behind opening ghosts later before its.1

-- ---- the log's events of a life
pub record IsBehind (opening : World) (later before : List Event) : Type 0 where
  pub front : List GhostEvent
  pub all : mapped opening (later ++ before) ≡ front ++ mapped opening before

pub behind : (opening : World) (later before : List Event) → IsBehind opening later before
unfolding mapped
behind opening [] before = record { front = []; all = refl }
behind opening (event ∷ later) before =
    let its = behind opening later before in
    let these : List GhostEvent = ghost_events (serials_in opening.now) (run opening (later ++ before)) event in
    record { front = these ++ its.front; all = ap (λ (x : List GhostEvent). these ++ x) its.all ∙ sym (append_assoc these its.front (mapped opening before)) }

-- a line that an event tells is told behind what the event does before
pub record IsTold (opening : World) (before : List Event) (event : Event) (line : TraceLine) : Type 0 where
  pub newer : List GhostEvent
  pub older : List GhostEvent
  pub its : ghost_events (serials_in opening.now) (run opening before) event ≡ newer ++ Tells line ∷ older
  pub all : mapped opening (event ∷ before) ≡ newer ++ (Tells line ∷ (older ++ mapped opening before))
  pub log : (home : ℕ → ℕ) (g : Ghosts) → (ghost_run home g (mapped opening (event ∷ before))).log ≡ (ghost_run home g (older ++ mapped opening before)).log

-- after a crash an event tells nothing
told_over : (w : World) (event : Event) → w.now.crashed ≡ true → told_by w.now (happens w event).now event ≡ []
told_over w event over = rw over refl

adds_none : (opening : World) (before : List Event) (event : Event) → (run opening before).now.crashed ≡ true → event_adds opening before event ≡ []
unfolding lines_added
adds_none opening before event over =
    ap (λ (its : List TraceEvent). lines_added (serials_in opening.now) (run opening before).past.trace (told_at (length (happens (run opening before) event).past.history) its)) (told_over (run opening before) event over)

-- what an event is to the log before it tells its lines
abbrev acts : World → List Event → Event → List GhostEvent
acts opening before event = fixed_ghosts (safe_at (run opening before).now) (safe_at (happens (run opening before) event).now) ++ own_ghosts (run opening before) event

alive_whole : (opening : World) (before : List Event) (event : Event) → (run opening before).now.crashed ≡ false
    → mapped opening (event ∷ before) ≡ (map Tells (event_adds opening before event) ++ acts opening before event) ++ mapped opening before
unfolding mapped ghost_events
alive_whole opening before event alive = ap (λ (c : Bool). (if c then [] else map Tells (event_adds opening before event) ++ acts opening before event) ++ mapped opening before) alive

alive_event : (opening : World) (before : List Event) (event : Event) → (run opening before).now.crashed ≡ false
    → ghost_events (serials_in opening.now) (run opening before) event ≡ map Tells (event_adds opening before event) ++ acts opening before event
unfolding ghost_events
alive_event opening before event alive = ap (λ (c : Bool). if c then [] else map Tells (event_adds opening before event) ++ acts opening before event) alive

told_alive : (opening : World) (before : List Event) (event : Event) (line : TraceLine) → StandsAt line (event_adds opening before event) → (run opening before).now.crashed ≡ false → IsTold opening before event line
told_alive opening before event line at alive =
    let apart = alive_whole opening before event alive ∙ ap (λ (x : List TraceLine). (map Tells x ++ acts opening before event) ++ mapped opening before) at.all
    ∙ told_apart at.newer at.older line (acts opening before event) (mapped opening before) in
    record {
      newer = map Tells at.newer;
      older = map Tells at.older ++ acts opening before event;
      its = alive_event opening before event alive ∙ (ap (λ (x : List TraceLine). map Tells x ++ acts opening before event) at.all ∙ told_of at.newer at.older line (acts opening before event));
      all = apart;
      log = λ home g. ap (λ (x : List GhostEvent). (ghost_run home g x).log) apart ∙ log_told home g at.newer (Tells line ∷ ((map Tells at.older ++ acts opening before event) ++ mapped opening before))
          ∙ line_log home g line ((map Tells at.older ++ acts opening before event) ++ mapped opening before);
    }

pub told : (opening : World) (before : List Event) (event : Event) (line : TraceLine) → IsIn line (event_adds opening before event) → IsTold opening before event line
told opening before event line is_in = by_crash (run opening before).now.crashed refl
  where
    by_crash : (crashed : Bool) → (run opening before).now.crashed ≡ crashed → IsTold opening before event line
    by_crash true over = absurd (subst (IsIn line) (adds_none opening before event over) is_in)
    by_crash false alive = told_alive opening before event line (stands line (event_adds opening before event) is_in) alive

-- ---- the read's call and its answer
apart_so : (older front newer last : List GhostEvent) (its : GhostEvent) (between all : List GhostEvent) → between ≡ front ++ all → all ≡ newer ++ (its ∷ last) → older ++ between ≡ (older ++ (front ++ newer)) ++ its ∷ last
apart_so older front newer last its between all one two =
    ap (λ (x : List GhostEvent). older ++ x) (one ∙ ap (λ (x : List GhostEvent). front ++ x) two ∙ sym (append_assoc front newer (its ∷ last))) ∙ sym (append_assoc older (front ++ newer) (its ∷ last))

-- beside the life
in_ghosts : (home : ℕ → ℕ) (version : ℕ) (bytes : List ℕ) (o : Opened) (opening : World) (ghosts : Ghosts) (between earlier : List Event) (call answer : Event) (reader key : ℕ) (reply : Reply)
    → order.IsOpened home (opening_map bytes o) version ghosts → AreEnabled home ghosts (mapped opening (answer ∷ (between ++ call ∷ earlier)))
    → IsIn (CallsRead reader key) (event_adds opening earlier call) → IsIn (AnswersRead reader reply) (event_adds opening (between ++ call ∷ earlier) answer)
    → IsInTime (opening_map bytes o) (history_of (ghost_run home ghosts (mapped opening (call ∷ earlier))).log.history) (history_of (ghost_run home ghosts (mapped opening (answer ∷ (between ++ call ∷ earlier)))).log.history) key reply
in_ghosts home version bytes o opening ghosts between earlier call answer reader key reply opened enabled calls answers =
    let m = opening_map bytes o in
    let its_answer = told opening (between ++ call ∷ earlier) answer (AnswersRead reader reply) answers in
    let its_call = told opening earlier call (CallsRead reader key) calls in
    let front = behind opening between (call ∷ earlier) in
    let last : List GhostEvent = its_call.older ++ mapped opening earlier in
    let middle : List GhostEvent = its_answer.older ++ (front.front ++ its_call.newer) in
    let same : its_answer.older ++ mapped opening (between ++ call ∷ earlier) ≡ middle ++ Tells (CallsRead reader key) ∷ last =
    apart_so its_answer.older front.front its_call.newer last (Tells (CallsRead reader key)) (mapped opening (between ++ call ∷ earlier)) (mapped opening (call ∷ earlier)) front.all its_call.all in
    let enabled_there : AreEnabled home ghosts (Tells (AnswersRead reader reply) ∷ (its_answer.older ++ mapped opening (between ++ call ∷ earlier))) =
    enabled_before home ghosts its_answer.newer _ (subst (AreEnabled home ghosts) its_answer.all enabled) in
    let so = in_time home m version ghosts middle last reader key reply opened (subst (λ (x : List GhostEvent). AreEnabled home ghosts (Tells (AnswersRead reader reply) ∷ x)) same enabled_there) in
    subst (λ (log : Log). IsInTime m (history_of log.history) (history_of (ghost_run home ghosts (mapped opening (answer ∷ (between ++ call ∷ earlier)))).log.history) key reply) (sym (its_call.log home ghosts))
    (subst (λ (log : Log). IsInTime m (history_of (ghost_run home ghosts last).log.history) (history_of log.history) key reply) (sym (its_answer.log home ghosts))
    (subst (λ (x : List GhostEvent). IsInTime m (history_of (ghost_run home ghosts last).log.history) (history_of (ghost_run home ghosts x).log.history) key reply) (sym same) so))

-- and of the life itself
pub reads_in_time : (bytes : List ℕ) (o : Opened) (n : Now) (events : List Event) → IsOpeningWorld o n → IsOpened n o.tail.0 → Begins n (opening_ghosts bytes o)
    → order.IsOpened (home_in n.shape.bucket_bits) (opening_map bytes o) o.number.0 (opening_ghosts bytes o) → KeepsRules o n bytes events → AreChangesPublished (beginning n bytes) (opening_ghosts bytes o) events
    → ReadsInTime o n bytes events
reads_in_time bytes o n events world opened begins log rules published = λ later between earlier call answer reader key reply whole calls answers.
    let opening : World = beginning n bytes in
    let last : List Event = answer ∷ (between ++ call ∷ earlier) in
    let home : ℕ → ℕ = home_in n.shape.bucket_bits in
    let m = opening_map bytes o in
    let published_last : AreChangesPublished opening (opening_ghosts bytes o) last = published_behind opening (opening_ghosts bytes o) later last (subst (AreChangesPublished opening (opening_ghosts bytes o)) whole published) in
    let published_first : AreChangesPublished opening (opening_ghosts bytes o) (call ∷ earlier) = published_behind opening (opening_ghosts bytes o) (answer ∷ between) (call ∷ earlier) published_last in
    let front = behind opening later last in
    let enabled : AreEnabled home (opening_ghosts bytes o) (mapped opening last) =
    enabled_before home (opening_ghosts bytes o) front.front (mapped opening last) (subst (AreEnabled home (opening_ghosts bytes o)) (ap (mapped opening) whole ∙ front.all) rules) in
    let so = in_ghosts home o.number.0 bytes o opening (opening_ghosts bytes o) between earlier call answer reader key reply log enabled calls answers in
    subst (λ (x : List HistoryEntry). IsInTime m x (history_of (effects_so_far n bytes last)) key reply)
    (same_history (ghosts_beside o n bytes (call ∷ earlier)).log.history (effects_so_far n bytes (call ∷ earlier)) (same_entries bytes o n (call ∷ earlier) world opened begins published_first))
    (subst (λ (x : List HistoryEntry). IsInTime m (history_of (ghosts_beside o n bytes (call ∷ earlier)).log.history) x key reply)
    (same_history (ghosts_beside o n bytes last).log.history (effects_so_far n bytes last) (same_entries bytes o n last world opened begins published_last)) so)
